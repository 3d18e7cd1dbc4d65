-- The loop has written the ends of the first i variables, and each of them is ordered.
use Rattle.std.proofs.Common.{ℕ, List}
use lib.IntN.{ℤ}
use Rattle.integers.specs.Rounding.{max_z, min_z}
use Rattle.plant.specs.Box.{low, high}
use Rattle.steps.proofs.Written.{OrderedSoFar}
use Rattle.steps.proofs.cut_box.Given as goal

abbrev pub lo : List ℤ → List ℤ → ℕ → ℤ
lo a b i = max_z (low a i) (low b i)

abbrev pub hi : List ℤ → List ℤ → ℕ → ℤ
hi a b i = min_z (high a i) (high b i)

abbrev pub invariant-loop-i : goal.invariant-loop-i
invariant-loop-i l = OrderedSoFar (lo l.a l.b) (hi l.a l.b) l.initial.out l.out l.i
