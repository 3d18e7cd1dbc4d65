-- After k turns each piece is joined with the steps of switch e from the pieces of its source's face below k.
use mathlib.Core.Path.{◌≡◌}
use Rattle.plant.specs.Tables.{table_by}
use Rattle.passes.proofs.Landing.{joined_from}
use Rattle.passes.proofs.given.Given.land_each.Given as goal

abbrev pub invariant-loop-k : goal.invariant-loop-k
invariant-loop-k l = l.out ≡ table_by l.self.model.now (joined_from l.self.model.now l.self.table.now l.e l.k)
