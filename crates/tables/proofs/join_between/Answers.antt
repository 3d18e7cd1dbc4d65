-- A copy of the box, two words of it others, is joined, unless the range is empty.
use Rattle.std.proofs.Common.{arith, rules}
use Rattle.std.proofs.lemmas.Grind.{common_steps}
use mir.Facts.{to_z-of_z}
use Rattle.tables.proofs.Faces.{face_long}
use Rattle.tables.proofs.Cutting.{between_joined, between_none}
use Rattle.tables.proofs.join_between.Goals as goal

pub join-requires : goal.join-requires
join-requires c = record { n_small = c.requires.0; box_there = grind (arith, common_steps); face_length = face_long c.args.n c.requires.3 }

pub returns-then-low-high : goal.returns-then-low-high
returns-then-low-high c =
    let a = c.args in
    between_joined a.n a.v a.low a.high a.from.now a.piece.now (search rules) _ _ c.copy_from_slice.ensures.after c.requires.1 c.requires.2
    (simp (to_z-of_z c.ranges.low, to_z-of_z c.ranges.high) at c.join.ensures)

pub returns-else-low-high : goal.returns-else-low-high
returns-else-low-high c = let a = c.args in between_none a.n a.v a.low a.high a.from.now a.piece.now (search rules) c.requires.3
