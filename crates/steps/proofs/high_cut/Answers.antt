use Rattle.std.proofs.Common.{arith}
use Rattle.std.proofs.lemmas.Int.{to_z-of_z}
use Rattle.steps.proofs.Cuts.{high_kept}
use Rattle.steps.proofs.high_cut.Goals as goal

pub returns-else-c-gt0 : goal.returns-else-c-gt0
returns-else-c-gt0 c = grind (arith, to_z-of_z, high_kept)
