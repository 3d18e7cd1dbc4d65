-- Each layer has the words of an uncut location.
use Rattle.std.proofs.Common.{arith}
use Rattle.tables.proofs.Faces.{table_most}
use Rattle.tables.proofs.Sizes.{table_layers}
use Rattle.tables.proofs.table_size.Goals as goal

pub overflow_mul-result : goal.overflow_mul-result
overflow_mul-result c = let m = c.args.model.now in grind (arith, table_layers m, table_most m c.requires.head)

pub returns : goal.returns
returns c = grind (arith, table_layers c.args.model.now)
