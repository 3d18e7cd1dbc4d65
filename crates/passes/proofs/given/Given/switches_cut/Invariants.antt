-- After e turns each piece is joined with its wall steps and the steps of the switches below e.
use mathlib.Core.Path.{◌≡◌}
use Rattle.plant.specs.Tables.{table_by}
use Rattle.passes.specs.Joining.{joined_below}
use Rattle.passes.proofs.given.Given.switches_cut.Given as goal

abbrev pub invariant-loop-e : goal.invariant-loop-e
invariant-loop-e l = l.out ≡ table_by l.self.model.now (joined_below l.self.model.now l.self.table.now l.e)
