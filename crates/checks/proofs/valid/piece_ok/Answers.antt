-- The flag decides which of the two questions is asked.
use Rattle.std.proofs.Common.{arith}
use Rattle.std.proofs.lemmas.Grind.{common_steps}
use Rattle.std.proofs.lemmas.Int.{ints}
use Rattle.plant.specs.Tables.{absent_ok, present_ok}
use Rattle.checks.proofs.valid.piece_ok.Goals as goal

pub returns-then-piece-eq1 : goal.returns-then-piece-eq1
unfolding absent_ok present_ok
returns-then-piece-eq1 c = grind (arith, ints, common_steps)

pub returns-else-piece-eq1 : goal.returns-else-piece-eq1
unfolding absent_ok present_ok
returns-else-piece-eq1 c = grind (arith, ints, common_steps)
