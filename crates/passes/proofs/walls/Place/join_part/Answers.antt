-- An absent part leaves the location's words; from a present one the steps to all faces are joined to them.
use Rattle.std.proofs.Common.{◌≡◌, arith, pos}
use Rattle.std.proofs.lemmas.Int.{ints}
use Rattle.integers.specs.Words.{word}
use Rattle.passes.proofs.PartWords.{part_there, part_gone}
use Rattle.passes.proofs.Handing.{part_none}
use Rattle.passes.proofs.walls.Place.join_part.Goals as goal

pub returns-then-part-eq1 : goal.returns-then-part-eq1
returns-then-part-eq1 c =
    let a = c.args in
    let there : word a.part.now 0 ≡ pos 1 = omega (arith, ints) in
    rw (part_there a.self.now.n a.part.now there, ← c.box_at.ensures) c.join_walls.ensures

pub returns-else-part-eq1 : goal.returns-else-part-eq1
returns-else-part-eq1 c =
    let a = c.args in
    part_none a.self.now c.requires.1 (part_gone a.self.now.n a.part.now (λ e. c.if-part-eq1.false (omega (arith, ints, e))))
