-- Variable d takes b.
use Rattle.std.proofs.Common.{arith}
use Rattle.std.proofs.lemmas.Int.{to_z-of_z}
use Rattle.std.proofs.lemmas.Bool.Decides.{nat_tests}
use Rattle.integers.proofs.Library.{max_is}
use Rattle.plant.specs.Steps.{low_after}
use Rattle.steps.proofs.low_after.Goals as goal

pub returns-then-i-d : goal.returns-then-i-d
unfolding low_after
returns-then-i-d c n = grind (arith, nat_tests, to_z-of_z, max_is)

pub returns-else-i-d : goal.returns-else-i-d
unfolding low_after
returns-else-i-d c n = grind (arith, nat_tests, to_z-of_z)
