-- Each layer has 2n pieces.
use Rattle.std.proofs.Common.{arith}
use Rattle.plant.proofs.Tables.{count_most}
use Rattle.tables.proofs.Sizes.{count_layers}
use Rattle.tables.proofs.piece_count.Goals as goal

pub overflow_mul-result-2 : goal.overflow_mul-result-2
overflow_mul-result-2 c =
    let m = c.args.model.now in
    let h = c.requires.head in
    grind (arith, count_layers m, count_most m h.n_small h.L_small)

pub returns : goal.returns
returns c = grind (arith, count_layers c.args.model.now)
