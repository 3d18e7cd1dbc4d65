-- The floor of the product, plus p, is the floor of the sum; all stays far below 64 bits.
use Rattle.std.proofs.Common.{◌≡◌, ◌≤◌, arith}
use Rattle.std.proofs.lemmas.Int.{ints, to_z-of_z}
use lib.IntN.{pos, nat_abs, ◌*ℤ◌}
use Rattle.integers.specs.Rounding.{floor_z}
use Rattle.integers.proofs.Rounding.{floor_shift}
use Rattle.integers.proofs.Signed.{floor_abs, scaled}
use Rattle.plant.specs.Steps.{low_at}
use Rattle.steps.proofs.Cuts.{way_is}
use Rattle.steps.proofs.low_at.Goals as goal

got : (c : goal.After-floor_div) → c.floor_div.result ≡ floor_z (c.args.a *ℤ pos c.args.t.num) c.args.t.den
got c = rw (way_is c.args.a c.args.t.num c.requires.1 c.requires.2.num_small) at c.floor_div.ensures

small : (c : goal.After-floor_div) → nat_abs (floor_z (c.args.a *ℤ pos c.args.t.num) c.args.t.den) ≤ 2000000000
small c = omega (arith, floor_abs (c.args.a *ℤ pos c.args.t.num) c.args.t.den, scaled c.args.a c.args.t.num c.requires.1 c.requires.2.num_small)

pub overflow_add-result : goal.overflow_add-result
overflow_add-result c = rw (got c) (grind (arith, ints, small c))

pub returns : goal.returns
unfolding low_at
returns c =
    rw (floor_shift c.args.p (c.args.a *ℤ pos c.args.t.num) c.args.t.den c.requires.2.den_positive)
    (grind (arith, ints, to_z-of_z, got c, small c))
