-- What was read of switch e makes its step.
use Rattle.std.proofs.Common.{◌≡◌, ap, ◌∙◌}
use Rattle.plant.specs.Model.{invariant, target}
use Rattle.plant.specs.Tables.{switch_step_at}
use Rattle.passes.proofs.Reading.{switch_ready}
use Rattle.passes.proofs.given.Given.step.Goals as goal

pub reset_mask-mask-requires : goal.reset_mask-mask-requires
reset_mask-mask-requires c = (c.args.self.now.placed c.args.e c.requires.0).numbered

pub target-requires : goal.target-requires
target-requires c = (c.args.self.now.placed c.args.e c.requires.0).numbered

pub switch_step-requires : goal.switch_step-requires
switch_step-requires c =
    let g = c.args.self.now in
    let inv_is : c.invariant-inv.result.now ≡ invariant g.model.now (target g.model.now c.args.e) = c.invariant-inv.ensures ∙ ap (invariant g.model.now) c.target.ensures in
    rw (c.variables-n.ensures, c.guard-guard.ensures, c.reset-reset.ensures, inv_is) (switch_ready g c.args.e c.requires.0 c.requires.1 c.requires.2)

pub returns : goal.returns
unfolding switch_step_at
returns c =
    let m = c.args.self.now.model.now in
    let inv_is : c.invariant-inv.result.now ≡ invariant m (target m c.args.e) = c.invariant-inv.ensures ∙ ap (invariant m) c.target.ensures in
    rw (c.variables-n.ensures, c.reset_mask-mask.ensures, c.guard-guard.ensures, c.reset-reset.ensures, inv_is) at c.switch_step.ensures
