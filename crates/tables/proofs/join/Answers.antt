-- A face whose flag is 1 is widened, any other becomes the box.
use Rattle.std.proofs.Common.{◌∙◌, arith}
use Rattle.std.proofs.lemmas.Int.{ints}
use Rattle.tables.proofs.Faces.{join_placed, join_widened}
use Rattle.tables.proofs.join.Goals as goal

pub returns-then-face-eq1 : goal.returns-then-face-eq1
returns-then-face-eq1 c =
    let a = c.args in
    c.widen.ensures ∙ join_widened a.n a.face.now a.from.now (grind (arith, ints))

pub returns-else-face-eq1 : goal.returns-else-face-eq1
returns-else-face-eq1 c =
    let a = c.args in
    c.place.ensures ∙ join_placed a.n a.face.now a.from.now (grind (arith, ints))
