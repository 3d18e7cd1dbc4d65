-- Further laws of a lent buffer that is filled from the front.
use mathlib.Core.Path.{◌≡◌, sym, ap, ◌∙◌}
use mathlib.Core.List.{List, [], ◌∷◌, ◌++◌, append_assoc}
use Prim.Native.Nat.{ℕ, ◌+◌, ◌≤◌}
use native.Mathlib.Numerals.{towards_suc}
use native.Mathlib.Omega.{arith}
use lib.ListN.{length, take, set, length-append}
use lib.Seq.{length-take-le, sets}
use Rattle.integers.specs.Words.{onto}
use Rattle.integers.specs.Counted.{cat}
use Rattle.integers.proofs.Buffers.{onto_start, onto-part, length-onto, sets_onto, cat_none, cat_more, cat_turn}

module _ {A : Type 0} where
  -- three and four stores, one after the other
  pub set_three : (d : List A) (to : ℕ) (u v w : A) → to + 3 ≤ length d → set (set (set d to u) (to + 1) v) (to + 2) w ≡ onto (take to d ++ (u ∷ v ∷ w ∷ [])) d
  set_three d to u v w h = let e : set (set (set d to u) (to + 1) v) (to + 2) w ≡ sets d to (u ∷ v ∷ w ∷ []) = simp towards_suc in e ∙ sets_onto d (u ∷ v ∷ w ∷ []) to h

  pub set_four : (d : List A) (to : ℕ) (u v w x : A) → to + 4 ≤ length d → set (set (set (set d to u) (to + 1) v) (to + 2) w) (to + 3) x ≡ onto (take to d ++ (u ∷ v ∷ w ∷ x ∷ [])) d
  set_four d to u v w x h = let e : set (set (set (set d to u) (to + 1) v) (to + 2) w) (to + 3) x ≡ sets d to (u ∷ v ∷ w ∷ x ∷ []) = simp towards_suc in e ∙ sets_onto d (u ∷ v ∷ w ∷ x ∷ []) to h

  -- the buffer x holds a from place b on; then s is filled in behind it
  pub onto_then : (a s d x : List A) (b to : ℕ) → x ≡ onto (take b d ++ a) d → b ≤ length d → b + length a ≡ to → onto (take to x ++ s) x ≡ onto (take b d ++ (a ++ s)) d
  onto_then a s d x b to e h et =
      let la : length (take b d ++ a) ≡ to = omega (arith, length-append (take b d) a, length-take-le b d h) in
      rw e (onto-part (take b d ++ a) s d to la ∙ ap (λ (l : List A). onto l d) (append_assoc (take b d) a s))

-- ---- a loop that writes lists, one behind the other

-- the buffer x after k of the lists g, from a place and up to another; it was d
pub record Written {A : Type 0} (g : ℕ → List A) (d : List A) (from k to : ℕ) (x : List A) : Type 0 where
  pub to_is : to ≡ from + length (cat k g)
  pub buffer_is : x ≡ onto (take from d ++ cat k g) d

module _ {A : Type 0} (g : ℕ → List A) (d : List A) (from : ℕ) (room : from ≤ length d) where
  pub written_none : {to : ℕ} → to ≡ from → Written g d from 0 to d
  written_none e = record {
    to_is = rw (cat_none g) (omega arith);
    buffer_is = onto_start from d room ∙ ap (λ (s : List A). onto (take from d ++ s) d) (sym (cat_none g));
  }

  pub written_more : {k to next : ℕ} {x y : List A} → Written g d from k to x → y ≡ onto (take to x ++ g k) x → next ≡ to + length (g k) → Written g d from (k + 1) next y
  written_more {k} {to} {next} {x} {y} w ey en = record {
    to_is = rw (cat_more k g) (omega (arith, en, w.to_is, length-append (cat k g) (g k)));
    buffer_is = ey ∙ cat_turn g from k to d x w.buffer_is room (sym w.to_is);
  }

  pub length_written : {k to : ℕ} {x : List A} → Written g d from k to x → to ≤ length d → length x ≡ length d
  length_written {k} {to} {x} w h = rw w.buffer_is (length-onto (take from d ++ cat k g) d
      (omega (arith, length-append (take from d) (cat k g), length-take-le from d room, w.to_is)))
