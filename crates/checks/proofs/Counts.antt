-- What a location adds to the ceiling, by its cut; and the sum over the model.
use mathlib.Core.Path.{◌≡◌, refl}
use mathlib.Core.List.{List}
use Prim.Native.Nat.{ℕ, ◌+◌, ◌<◌}
use lib.IntN.{ℤ}
use Rattle.integers.specs.Counted.{sum_below}
use Rattle.integers.proofs.Counted.{sum_but}
use Rattle.plant.specs.Model.{n#, L#, invariant, cut_of}
use Rattle.plant.specs.Tables.{width, all_widths, other_widths, location_ceiling, ceiling_of}

-- the width of one variable, and those of the others
pub with_others : (n v : ℕ) (inv : List ℤ) → v < n → other_widths n v inv + width inv v ≡ all_widths n inv
unfolding other_widths all_widths
with_others n v inv u = sum_but n (width inv) v u

abbrev pub ceiling_at : List ℤ → ℕ → ℕ
ceiling_at m l = location_ceiling (n# m) (invariant m l) (cut_of m l)

pub ceiling_is : (m : List ℤ) → sum_below (L# m) (ceiling_at m) ≡ ceiling_of m
unfolding ceiling_of
ceiling_is m = refl
