-- After l turns the locations below l have their wall steps; the others still have the words of the table before the pass.
use mathlib.Core.Path.{◌≡◌}
use lib.ListN.{take}
use Rattle.integers.specs.Words.{onto}
use Rattle.integers.specs.Counted.{cat}
use Rattle.plant.specs.Tables.{table_size}
use Rattle.passes.proofs.Reading.{locations_of}
use Rattle.passes.proofs.given.Given.walls.Given as goal

abbrev pub invariant-loop-l : goal.invariant-loop-l
invariant-loop-l l = l.out ≡ onto (cat l.l (locations_of l.self.model.now l.self.table.now)) (take (table_size l.self.model.now) l.self.table.now)
