-- What a loop over the variables has written to the front of the lent words, and tested, at i + 1 from what it has at i.
use mathlib.Core.Path.{◌≡◌, refl, sym, ap, ap₂, subst}
use mathlib.Core.Bool.{Bool, true, false, not, ◌&&◌}
use mathlib.Core.List.{List, [], ◌∷◌}
use Prim.Native.Nat.{ℕ, ◌+◌, ◌*◌, ◌<◌}
use native.Mathlib.Numerals.{add-one}
use native.Mathlib.Omega.{arith}
use borrow.Author.Count.{below_more}
use borrow.Author.Tests.{lt-leb}
use lib.Dec.{T, leb, ltb, ltb→lt, nltb→le, le→leb}
use lib.IntN.{ℤ, pos, negsuc}
use lib.Signed.{lt_z, le_z}
use lib.ListN.{length, set}
use Rattle.integers.specs.Words.{onto}
use Rattle.integers.specs.Counted.{all_below}
use Rattle.integers.proofs.Tests.{is_true, true_is}
use Rattle.integers.proofs.Counted.{all_yes, all_ext}
use Rattle.integers.proofs.Buffers.{onto_none, onto_two, cat_none, cat_more}
use Rattle.plant.specs.Box.{low, high, box_by, ordered}
use Rattle.plant.proofs.Boxes.{low-box_by, high-box_by, length-box_by}

-- ---- a test of order, by the other

nat_le : (m n : ℕ) (t : Bool) → ltb n m ≡ t → leb m n ≡ not t
nat_le m n true e = lt-leb m n (ltb→lt n m (true_is e))
nat_le m n false e = is_true (le→leb m n (nltb→le n m (subst (λ (b : Bool). T (not b)) (sym e) tt)))

pub le_by : (a b : ℤ) {t : Bool} → lt_z b a ≡ t → le_z a b ≡ not t
le_by (pos a) (pos b) {t} e = nat_le a b t e
le_by (pos a) (negsuc b) {t} e = ap not e
le_by (negsuc a) (pos b) {t} e = ap not e
le_by (negsuc a) (negsuc b) {t} e = nat_le b a t e

pub not_less : (a b : ℤ) → not (lt_z b a) ≡ le_z a b
not_less a b = sym (le_by a b refl)

-- ---- the box of these lows and highs, written variable by variable

module _ (lo hi : ℕ → ℤ) where
  pub none_written : (out : List ℤ) → out ≡ onto (box_by 0 lo hi) out
  unfolding box_by
  none_written out = rw (cat_none (λ i. lo i ∷ hi i ∷ [])) (onto_none out)

  pub next_written : (i : ℕ) (out : List ℤ) → 2 * i + 1 < length out → set (set (onto (box_by i lo hi) out) (2 * i) (lo i)) (2 * i + 1) (hi i) ≡ onto (box_by (i + 1) lo hi) out
  unfolding box_by
  next_written i out h = rw (cat_more i (λ i. lo i ∷ hi i ∷ [])) (onto_two (box_by i lo hi) out (2 * i) (lo i) (hi i) (length-box_by i lo hi) h)

  -- those of the first i variables are written, each ordered; out was d
  pub record OrderedSoFar (d out : List ℤ) (i : ℕ) : Type 0 where
    pub is_written : out ≡ onto (box_by i lo hi) d
    pub are_ordered : (j : ℕ) → j < i → lt_z (hi j) (lo j) ≡ false

  pub none_yet : (d : List ℤ) → OrderedSoFar d d 0
  none_yet d = record { is_written = none_written d; are_ordered = λ j l. absurd (omega arith) }

  pub one_more : {d out : List ℤ} {i : ℕ} → OrderedSoFar d out i → 2 * i + 1 < length d → lt_z (hi i) (lo i) ≡ false → OrderedSoFar d (set (set out (2 * i) (lo i)) (2 * i + 1) (hi i)) (i + 1)
  one_more {d} {out} {i} h room e = record {
    is_written = rw h.is_written (next_written i d room);
    are_ordered = below_more (λ j. lt_z (hi j) (lo j) ≡ false) i h.are_ordered e;
  }

pub next_tested : (f : ℕ → Bool) (i : ℕ) → all_below i f && f i ≡ all_below (i + 1) f
unfolding all_below
next_tested f i = rw (add-one i)

untrue : (b : Bool) → (T b → ⊥) → b ≡ false
untrue true h = absurd (h tt)
untrue false h = refl

-- a test that fails once
pub not_all : (k : ℕ) (f : ℕ → Bool) (i : ℕ) → i < k → f i ≡ false → all_below k f ≡ false
not_all k f i l e = untrue (all_below k f) (λ h. subst T e (all_yes k f h i l))

-- a box of ends is ordered if they are
pub ordered_by : (n : ℕ) (lo hi : ℕ → ℤ) → ordered n (box_by n lo hi) ≡ all_below n (λ i. le_z (lo i) (hi i))
unfolding ordered
ordered_by n lo hi =
    all_ext n (λ i. le_z (low (box_by n lo hi) i) (high (box_by n lo hi) i)) (λ i. le_z (lo i) (hi i)) (λ i l. ap₂ le_z (low-box_by n lo hi i l) (high-box_by n lo hi i l))
