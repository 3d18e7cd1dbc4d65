-- What the library asks and counts over a range of numbers; and how many words a place has by whether any location is cut.
use mathlib.Core.Path.{◌≡◌, refl, ap, ap₂, ◌∙◌}
use mathlib.Core.Bool.{Bool, true, false, cond, ◌||◌}
use mathlib.Core.List.{List, [], ◌∷◌, ◌++◌}
use Prim.Native.Nat.{ℕ, zero, suc, ◌+◌, ◌≤◌}
use native.Mathlib.Omega.{arith}
use lib.IntN.{ℤ}
use lib.ListN.{length, length-append}
use Rattle.std.specs.List.{list_any, filter, range_with_len}
use Rattle.std.proofs.Math.Bool.{or-false}
use Rattle.std.proofs.lemmas.List.Folds.{list_any-append}
use Rattle.std.proofs.lemmas.List.Elements.{filter-append}
use Rattle.integers.specs.Counted.{any_below, sum_below}
use Rattle.plant.specs.Pieces.{any_cut}
use Rattle.files.specs.TableFile.{place_size}
use Rattle.table_files.specs.TableRoom.{size_by}

range_last : (k a : ℕ) → range_with_len a (suc k) ≡ range_with_len a k ++ (a + k) ∷ []
range_last zero a = ap (λ (x : ℕ). x ∷ []) (omega arith)
range_last (suc k) a = ap (λ (xs : List ℕ). a ∷ xs) (range_last k (a + 1)) ∙ ap (λ (x : ℕ). a ∷ range_with_len (a + 1) k ++ x ∷ []) (omega arith)

module _ (f : ℕ → Bool) where
  pub any_listed : (k : ℕ) → list_any f (range_with_len 0 k) ≡ any_below k f
  unfolding any_below
  any_listed zero = refl
  any_listed (suc k) =
      ap (list_any f) (range_last k 0) ∙ list_any-append f (range_with_len 0 k) ((0 + k) ∷ []) ∙ rw (or-false, any_listed k) (ap (λ (x : ℕ). any_below k f || f x) (omega arith))

  one : (k : ℕ) (b : Bool) → f k ≡ b → length (filter f (k ∷ [])) ≡ cond (f k) 1 0
  one k true e = rw e refl
  one k false e = rw e refl

  pub count_listed : (k : ℕ) → length (filter f (range_with_len 0 k)) ≡ sum_below k (λ j. cond (f j) 1 0)
  unfolding sum_below
  count_listed zero = refl
  count_listed (suc k) =
      ap (λ (xs : List ℕ). length (filter f xs)) (range_last k 0) ∙ ap length (filter-append f (range_with_len 0 k) ((0 + k) ∷ []))
      ∙ length-append (filter f (range_with_len 0 k)) (filter f ((0 + k) ∷ [])) ∙ ap₂ ◌+◌ (count_listed k) (one (0 + k) (f (0 + k)) refl)
      ∙ ap (λ (x : ℕ). sum_below k (λ j. cond (f j) 1 0) + cond (f x) 1 0) (omega arith)

  pub count_most : (k : ℕ) → sum_below k (λ j. cond (f j) 1 0) ≤ k
  unfolding sum_below
  count_most zero = omega arith
  count_most (suc k) = omega (arith, count_most k, at_most (f k))
    where
      at_most : (b : Bool) → cond b 1 0 ≤ 1
      at_most true = omega arith
      at_most false = omega arith

pub size_is : (m : List ℤ) {cut : Bool} → cut ≡ any_cut m → size_by cut ≡ place_size m
unfolding place_size
size_is m e = ap size_by e
