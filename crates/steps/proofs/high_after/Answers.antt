-- Variable d takes b.
use Rattle.std.proofs.Common.{arith}
use Rattle.std.proofs.lemmas.Int.{to_z-of_z}
use Rattle.std.proofs.lemmas.Bool.Decides.{nat_tests}
use Rattle.integers.proofs.Library.{min_is}
use Rattle.plant.specs.Steps.{high_after}
use Rattle.steps.proofs.high_after.Goals as goal

pub returns-then-i-d : goal.returns-then-i-d
unfolding high_after
returns-then-i-d c n = grind (arith, nat_tests, to_z-of_z, min_is)

pub returns-else-i-d : goal.returns-else-i-d
unfolding high_after
returns-else-i-d c n = grind (arith, nat_tests, to_z-of_z)
