-- The ceiling of the product, plus q, is the ceiling of the sum; all stays far below 64 bits.
use Rattle.std.proofs.Common.{◌≡◌, ◌≤◌, arith}
use Rattle.std.proofs.lemmas.Int.{ints, to_z-of_z}
use lib.IntN.{pos, nat_abs, ◌*ℤ◌}
use Rattle.integers.specs.Rounding.{ceil_z}
use Rattle.integers.proofs.Rounding.{ceil_shift}
use Rattle.integers.proofs.Signed.{ceil_abs, scaled}
use Rattle.plant.specs.Steps.{high_at}
use Rattle.steps.proofs.Cuts.{way_is}
use Rattle.steps.proofs.high_at.Goals as goal

got : (c : goal.After-ceil_div) → c.ceil_div.result ≡ ceil_z (c.args.c *ℤ pos c.args.t.num) c.args.t.den
got c = rw (way_is c.args.c c.args.t.num c.requires.1 c.requires.2.num_small) at c.ceil_div.ensures

small : (c : goal.After-ceil_div) → nat_abs (ceil_z (c.args.c *ℤ pos c.args.t.num) c.args.t.den) ≤ 2000000000
small c = omega (arith, ceil_abs (c.args.c *ℤ pos c.args.t.num) c.args.t.den, scaled c.args.c c.args.t.num c.requires.1 c.requires.2.num_small)

pub overflow_add-result : goal.overflow_add-result
overflow_add-result c = rw (got c) (grind (arith, ints, small c))

pub returns : goal.returns
unfolding high_at
returns c =
    rw (ceil_shift c.args.q (c.args.c *ℤ pos c.args.t.num) c.args.t.den c.requires.2.den_positive)
    (grind (arith, ints, to_z-of_z, got c, small c))

pub ceil_div-requires : goal.ceil_div-requires
ceil_div-requires c =
    let a = c.args in
    let r = c.requires in
    rw (way_is a.c a.t.num r.1 r.2.num_small) (omega (arith, scaled a.c a.t.num r.1 r.2.num_small), r.2.den_positive)
