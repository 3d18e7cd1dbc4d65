-- The pieces of the locations passed are all right.
use Rattle.std.proofs.Common.{arith}
use Rattle.plant.specs.Tables.{table_ok}
use Rattle.checks.proofs.valid.table_ok.Goals as goal

pub returns : goal.returns
unfolding table_ok
returns c = grind arith
