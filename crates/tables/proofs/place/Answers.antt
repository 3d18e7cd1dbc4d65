-- The flag, then the words of the box.
use Rattle.std.proofs.Common.{arith}
use Rattle.tables.proofs.Faces.{placed}
use Rattle.tables.proofs.place.Goals as goal

pub returns : goal.returns
returns c = placed c.args.n c.args.from.now c.args.face.now _ c.copy.ensures c.requires.box_there (omega arith)
