use Rattle.std.proofs.Common.{arith}
use Rattle.std.proofs.lemmas.Int.{to_z-of_z}
use Rattle.steps.proofs.Cuts.{low_kept}
use Rattle.steps.proofs.low_cut.Goals as goal

pub returns-else-a-lt0 : goal.returns-else-a-lt0
returns-else-a-lt0 c = grind (arith, to_z-of_z, low_kept)
