-- Part 0 is the start part, any other a piece.
use Rattle.std.proofs.Common.{arith}
use Rattle.std.proofs.lemmas.Grind.{common_steps}
use Rattle.checks.specs.Parts.{part_words}
use Rattle.checks.proofs.touch.part_at.Goals as goal

pub returns-then-p-eq0 : goal.returns-then-p-eq0
unfolding part_words
returns-then-p-eq0 c = grind (arith, common_steps)

pub returns-else-p-eq0 : goal.returns-else-p-eq0
unfolding part_words
returns-else-p-eq0 c = grind (arith, common_steps)
