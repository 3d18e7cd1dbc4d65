-- After l turns the locations below l are counted.
use Rattle.std.proofs.Common.{arith}
use Rattle.plant.proofs.Pieces.{per_face_most}
use Rattle.tables.proofs.Sizes.{layers_none, layers_more, layers_most}
use Rattle.tables.proofs.layers.Goals as goal

pub loop-l-init : goal.loop-l-init
loop-l-init c = layers_none c.args.model.now

pub overflow_add-count : goal.overflow_add-count
overflow_add-count c = let i = c.loop-l in record { fits = omega (arith, layers_most c.args.model.now i.l (omega arith), per_face_most c.args.model.now i.l) }

pub loop-l-preserved : goal.loop-l-preserved
loop-l-preserved c = layers_more c.args.model.now c.loop-l.l c.loop-l.invariant c.per_face-count.ensures
