-- The first field: its tag gives the edition and is given by it; and the head words as they are read.
use mathlib.Core.Path.{◌≡◌, refl, ap}
use mathlib.Core.Logic.{⊎_elim}
use mathlib.Core.List.{List, [], ◌∷◌, ◌++◌}
use Prim.Native.Nat.{ℕ, zero, suc, ◌<◌, ◌≤◌}
use native.Mathlib.Omega.{arith}
use lib.Dec.{T, eqb, leb→le}
use lib.IntN.{ℤ, pos, negsuc}
use lib.Signed.{le_z}
use lib.ListN.{length, get_or, take, set, length-append}
use Rattle.integers.specs.Words.{word, eq_z, within, onto}
use Rattle.integers.proofs.Tests.{by_test, and_yes, or_yes, or_intro}
use Rattle.integers.proofs.Counted.{or_right}
use Rattle.integers.proofs.Buffers.{onto-set}
use Rattle.files.specs.Bytes.{words_at}
use Rattle.files.specs.Fields.{field_at, is_field}
use Rattle.files.specs.declared.Field.{Field}
use Rattle.files.proofs.Words.{length_words}
use Rattle.files.proofs.Fields.{Due, due, field_lies}
use Rattle.files.specs.ModelFile.{first_tag, edition_of, head_words, is_head}

-- ---- tag and edition

pub edition_back : (z : ℤ) → T (within (pos 1) (pos 2) z) → edition_of (first_tag z) ≡ z
edition_back (pos zero) h = absurd h
edition_back (pos (suc zero)) h = refl
edition_back (pos (suc (suc zero))) h = refl
edition_back (pos (suc (suc (suc k)))) h = absurd (omega (arith, leb→le (suc (suc (suc k))) 2 (and_yes (le_z (pos 1) (pos (suc (suc (suc k))))) (le_z (pos (suc (suc (suc k)))) (pos 2)) h).1))
edition_back (negsuc k) h = absurd h

pub edition-within : (tag : ℕ) → T (within (pos 1) (pos 2) (edition_of tag))
edition-within tag = by_test (λ (z : ℤ). T (within (pos 1) (pos 2) z)) (eqb tag 9) (λ _. tt) (λ _. tt)

-- a field of an edition's tag
pub head_is : (f : Field) (z : ℤ) → T (is_field f (first_tag z) 16) → T (is_head f)
head_is f z = by_test (λ (tag : ℕ). T (is_field f tag 16) → T (is_head f)) (eq_z z (pos 2)) (λ _. or_right (is_field f 1 16) (is_field f 9 16)) (λ _. or_intro (is_field f 1 16) (is_field f 9 16))

-- the first field has the tag that its edition gives
pub record FirstField (s : List ℕ) : Type 0 where
  pub tag : ℕ
  pub is_due : Due s 0 tag 16
  pub is_tag : first_tag (edition_of (get_or s 0 0)) ≡ tag

pub first_field : (s : List ℕ) → T (is_head (field_at s 0)) → FirstField s
first_field s h =
    ⊎_elim
    (λ u. let d : Due s 0 1 16 = due s 0 1 16 u in record { tag = 1; is_due = d; is_tag = rw (← (field_lies s 0 1 3 16 19 d.field_is).tag_is) refl })
    (λ u. let d : Due s 0 9 16 = due s 0 9 16 u in record { tag = 9; is_due = d; is_tag = rw (← (field_lies s 0 9 3 16 19 d.field_is).tag_is) refl })
    (or_yes (is_field (field_at s 0) 1 16) (is_field (field_at s 0) 9 16) h)

-- ---- the head words

pub length_head : (s : List ℕ) → length (head_words s) ≡ 5
unfolding head_words
length_head s = omega (arith, length-append (words_at s 3 4) (edition_of (get_or s 0 0) ∷ []), length_words s 3 4)

-- four words are copied, then the fifth is stored
pub head_read : (s : List ℕ) (d x : List ℤ) (z : ℤ) → 5 ≤ length d → x ≡ onto (take 0 d ++ words_at s 3 4) d → z ≡ edition_of (get_or s 0 0) → set x 4 z ≡ onto (head_words s) d
unfolding head_words
head_read s d x z h e f = rw (e, f) (onto-set (words_at s 3 4) d 4 (edition_of (get_or s 0 0)) (length_words s 3 4) (omega arith))

-- the first words of a list, and one more
pub one_more : (k : ℕ) (m : List ℤ) → k < length m → take (suc k) m ≡ take k m ++ (word m k ∷ [])
one_more k [] h = absurd (omega arith)
one_more zero (x ∷ m) h = refl
one_more (suc k) (x ∷ m) h = ap (λ (r : List ℤ). x ∷ r) (one_more k m (omega arith))
