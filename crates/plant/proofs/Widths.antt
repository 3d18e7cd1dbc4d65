-- Widths of levels are small, and so are the ceilings that they add up to: a location's, and the largest of all models.
use Rattle.std.specs.Prelude.{Option, Some, None}
use mathlib.Core.Bool.{Bool, true, false, cond}
use mathlib.Core.List.{List}
use Prim.Native.Nat.{ℕ, ◌+◌, ◌*◌, ◌-◌, ◌<◌, ◌≤◌}
use native.Mathlib.Nat.{mul-le-mul}
use native.Mathlib.Omega.{arith}
use lib.Dec.{eqb}
use lib.IntN.{ℤ, nat_abs}
use Rattle.integers.specs.Counted.{sum_below}
use Rattle.integers.proofs.Counted.{sum_le, sum_same, sum_but}
use Rattle.integers.proofs.Signed.{abs_minus}
use Rattle.plant.specs.Box.{low, high}
use Rattle.plant.specs.Model.{n#, L#, invariant, Cut, uncut, cut_by, cut_of}
use Rattle.plant.specs.Tables.{width, all_widths, other_widths, uncut_ceiling, location_ceiling, ceiling_of}
use Rattle.plant.proofs.Passed.{Passed, CutInside}

-- the width of a variable whose low and high are levels
pub width_small : (b : List ℤ) (i : ℕ) → nat_abs (low b i) ≤ 1000000 → nat_abs (high b i) ≤ 1000000 → width b i ≤ 2000000
unfolding width
width_small b i u v = omega (arith, abs_minus (high b i) (low b i))

-- the sum of all widths, and of those of the other variables, which are one fewer
module _ (n : ℕ) (b : List ℤ) (each : (i : ℕ) → i < n → width b i ≤ 2000000) where
  pub widths_small : all_widths n b ≤ n * 2000000
  unfolding all_widths
  widths_small = omega (arith, sum_le n (width b) (λ i. 2000000) each, sum_same n 2000000)

  others_small : (v : ℕ) → v < n → other_widths n v b ≤ (n - 1) * 2000000
  unfolding other_widths
  others_small v u =
      let a : other_widths n v b ≤ sum_below n (λ i. cond (eqb i v) 0 2000000) = sum_le n (λ i. cond (eqb i v) 0 (width b i)) (λ i. cond (eqb i v) 0 2000000) (λ i w. but (eqb i v) (each i w)) in
      omega (arith, a, sum_but n (λ i. 2000000) v u, sum_same n 2000000)
    where
      but : (t : Bool) {w : ℕ} → w ≤ 2000000 → cond t 0 w ≤ cond t 0 2000000
      but true h = omega arith
      but false h = h

per_location : (n w k : ℕ) → n ≤ k → w ≤ k * 2000000 → uncut_ceiling n w ≤ 2 * k + 2 * (k - 1) * (k * 2000000)
unfolding uncut_ceiling
per_location n w k u v =
    let few : 2 * (n - 1) ≤ 2 * (k - 1) = omega arith in
    omega (arith, mul-le-mul few v)

pub location_most : (n : ℕ) (inv : List ℤ) → ((i : ℕ) → i < n → width inv i ≤ 2000000) → n ≤ 6 → (c : Option Cut) → CutInside n inv c → location_ceiling n inv c ≤ 200000022
unfolding location_ceiling
location_most n inv each few None h = omega (arith, per_location n (all_widths n inv) 6 few (omega (arith, widths_small n inv each)))
location_most n inv each few (Some cut) h =
    omega (
      arith,
      per_location n (all_widths n inv) 6 few (omega (arith, widths_small n inv each)),
      per_location (n - 1) (other_widths n cut.variable inv) 5 (omega arith) (omega (arith, others_small n inv each cut.variable h.0)),
    )

module _ (m : List ℤ) (ok : Passed m) where
  -- the widths of an invariant
  pub invariant_widths : (l : ℕ) → l < L# m → (i : ℕ) → i < n# m → width (invariant m l) i ≤ 2000000
  unfolding low high
  invariant_widths l u i v = let k = (ok.of_location l u).invariant_levels in width_small (invariant m l) i (k (2 * i) (omega arith)) (k (2 * i + 1) (omega arith))

  pub ceiling-most : ceiling_of m ≤ 12800001408
  unfolding ceiling_of
  ceiling-most =
      omega (
        arith,
        sum_le (L# m) (λ l. location_ceiling (n# m) (invariant m l) (cut_of m l)) (λ l. 200000022) (λ l u. location_most (n# m) (invariant m l) (invariant_widths l u) ok.n_small (cut_of m l) (ok.of_cut l u).inside),
        sum_same (L# m) 200000022,
        ok.L_small,
      )
