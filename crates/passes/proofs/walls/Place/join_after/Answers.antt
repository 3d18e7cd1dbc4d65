-- An empty box leaves the pieces; any other is joined to them.
use mir.Facts.{to_z-of_z}
use Rattle.passes.proofs.Handing.{face_none, handed_none, after_joinable}
use Rattle.passes.proofs.walls.Place.join_after.Goals as goal

pub join_pieces-requires : goal.join_pieces-requires
join_pieces-requires c =
    let a = c.args in
    after_joinable a.self.now a.bounds.now a.d a.b a.t a.pieces.now c.requires.1 (simp (to_z-of_z c.ranges.b) at c.box_after.ensures) c.if-box_after.true

pub returns-else-box_after : goal.returns-else-box_after
returns-else-box_after c = face_none c.args.self.now c.args.d c.requires.1 (handed_none (simp (to_z-of_z c.ranges.b) at c.box_after.ensures) c.if-box_after.false)
