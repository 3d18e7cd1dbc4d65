use Rattle.std.proofs.Common.{arith}
use Rattle.std.proofs.lemmas.Int.{ints}
use Rattle.delays.proofs.latest_inside.Goals as goal

pub returns-then-rates-gt0 : goal.returns-then-rates-gt0
returns-then-rates-gt0 c = grind (arith, ints)
