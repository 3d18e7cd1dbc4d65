use Rattle.std.proofs.Common.{arith}
use Rattle.std.proofs.lemmas.Int.{ints}
use Rattle.delays.proofs.latest.Goals as goal

pub returns-else-rate-lt0 : goal.returns-else-rate-lt0
returns-else-rate-lt0 c = grind (arith, ints)
