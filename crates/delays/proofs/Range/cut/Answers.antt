use Rattle.std.proofs.Common.{arith}
use Rattle.std.proofs.lemmas.Int.{to_z-of_z}
use Rattle.integers.proofs.Library.{max_is, min_is}
use Rattle.delays.proofs.Range.cut.Goals as goal

pub returns : goal.returns
returns c = grind (arith, to_z-of_z, max_is, min_is)
