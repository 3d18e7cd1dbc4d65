-- What the library's methods give, in the words of Rounding and Words: the larger and the smaller of two, and whether two lists are
-- the same.
use mathlib.Core.Path.{◌≡◌, refl, ap₂}
use mathlib.Core.Bool.{Bool, ◌&&◌}
use mathlib.Core.List.{List, [], ◌∷◌}
use lib.IntN.{ℤ}
use lib.Signed.{lt_z}
use Rattle.std.specs.Int.{int_max, int_min}
use Rattle.std.specs.Cmp.Lexicographic.{pointwise}
use Rattle.integers.specs.Rounding.{max_z, min_z}
use Rattle.integers.specs.Words.{eq_z, equal}
use Rattle.integers.proofs.Parts.{arith_z}
use Rattle.integers.proofs.Tests.{by_test}

pub max_is : (a b : ℤ) → int_max a b ≡ max_z a b
unfolding max_z
max_is a b = by_test (λ (m : ℤ). m ≡ max_z a b) (lt_z b a)
    (λ t. by_test (λ (m : ℤ). a ≡ m) (lt_z a b) (λ u. omega arith_z) (λ u. refl))
    (λ t. by_test (λ (m : ℤ). b ≡ m) (lt_z a b) (λ u. refl) (λ u. omega arith_z))

pub min_is : (a b : ℤ) → int_min a b ≡ min_z a b
unfolding min_z
min_is a b = by_test (λ (m : ℤ). m ≡ min_z a b) (lt_z b a)
    (λ t. by_test (λ (m : ℤ). b ≡ m) (lt_z a b) (λ u. omega arith_z) (λ u. refl))
    (λ t. by_test (λ (m : ℤ). a ≡ m) (lt_z a b) (λ u. refl) (λ u. omega arith_z))

pub pointwise_is : (E : ℤ → ℤ → Bool) → ((a b : ℤ) → E a b ≡ eq_z a b) → (xs ys : List ℤ) → pointwise E xs ys ≡ equal xs ys
unfolding equal
pointwise_is E e [] [] = refl
pointwise_is E e [] (y ∷ ys) = refl
pointwise_is E e (x ∷ xs) [] = refl
pointwise_is E e (x ∷ xs) (y ∷ ys) = ap₂ ◌&&◌ (e x y) (pointwise_is E e xs ys)
