use Rattle.std.proofs.Common.{◌≡◌, Bool, true, false, cond, Some, None, arith, refl, sym, ◌∙◌}
use Rattle.std.specs.Bool.{then_some}
use mir.Facts.{to_z-of_z}
use Rattle.delays.proofs.WindowEnd.{wall_none, wall-cut}
use Rattle.delays.proofs.wall_delays.Goals as goal

by_cond : {A : Type 0} (b : Bool) (v : A) → then_some b v ≡ cond b (Some v) None
by_cond true v = refl
by_cond false v = refl

pub returns-in_err-own : goal.returns-in_err-own
returns-in_err-own c = grind (arith, wall_none)

pub returns : goal.returns
returns c =
    let found = simp (to_z-of_z c.ranges.b) at c.in_ok-own.ensures.value in
    c.then_some.ensures ∙ rw (c.has_delay.ensures, c.sooner.ensures, by_cond) (wall-cut _ _ _ _ _ (sym found) c.args.end)
