-- The variable is one of the model's.
use mathlib.Core.Path.{ap}
use native.Mathlib.Omega.{arith}
use lib.IntN.{nat_abs}
use lib.ListN.{length}
use Rattle.integers.proofs.Signed.{got32}
use Rattle.plant.proofs.Positions.{length-invariant}
use Rattle.model.proofs.Asked.{variable_asked}
use Rattle.model.proofs.cut_inside.Goals as goal

pub strictly_inside-requires : goal.strictly_inside-requires
strictly_inside-requires c =
    let asked = rw (c.cut_at.ensures, c.variables.ensures, c.if-below_ok.true) at c.below_ok.ensures in
    let below = variable_asked c.args.model.now c.args.l c.requires.0.head asked in
    let v = c.cut_variable in
    omega (arith, ap nat_abs (got32 v.result v.type_inv), ap nat_abs v.ensures, below, ap length c.invariant.ensures, length-invariant c.args.model.now c.requires.0 c.args.l c.requires.1)
