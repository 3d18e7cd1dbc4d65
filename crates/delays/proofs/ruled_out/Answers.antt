use Rattle.std.proofs.Common.{arith}
use Rattle.delays.proofs.Touching.{ruled_out}
use Rattle.delays.proofs.ruled_out.Goals as goal

pub returns-then-is_empty-no_delay : goal.returns-then-is_empty-no_delay
returns-then-is_empty-no_delay c _ = grind (arith, ruled_out)
