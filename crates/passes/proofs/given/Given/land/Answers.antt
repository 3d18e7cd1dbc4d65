-- A step that gives nothing leaves the table as it is.
use Rattle.plant.specs.Model.{invariant, target, n#, guard, reset, reset_mask}
use Rattle.plant.specs.Tables.{switch_step_at}
use Rattle.plant.specs.Box.{present}
use Rattle.delays.specs.Ranges.{InInvariant}
use Rattle.steps.proofs.Faces.{switch_in}
use Rattle.passes.proofs.Handing.{handed_none, handed_all}
use Rattle.passes.proofs.Landing.{nothing_landed}
use Rattle.passes.proofs.given.Given.land.Goals as goal

pub join_landed-requires : goal.join_landed-requires
unfolding switch_step_at
join_landed-requires c =
    let m = c.args.self.now.model.now in
    let e = c.args.e in
    let b = handed_all c.step.ensures (InInvariant (n# m) (invariant m (target m e))) c.if-step.true (switch_in (n# m) (reset_mask m e) (guard m e) (reset m e) (invariant m (target m e)) (present c.args.bounds.now)) in
    rw c.variables-end.ensures (c.requires.0, c.requires.1, b.sized, b.is_ordered, c.requires.3)

pub returns-else-step : goal.returns-else-step
returns-else-step c = nothing_landed c.args.self.now.model.now c.args.e (handed_none c.step.ensures c.if-step.false) c.requires.3
