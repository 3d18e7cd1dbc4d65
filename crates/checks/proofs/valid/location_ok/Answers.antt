-- The pieces passed are all right.
use Rattle.std.proofs.Common.{◌+◌, ◌<◌, ◌≤◌, length, arith}
use Rattle.std.proofs.lemmas.Grind.{common_steps}
use Rattle.plant.specs.Model.{face_wall}
use Rattle.plant.specs.Pieces.{per_face, pieces, piece_face, piece_index, piece_variable, piece_wall, piece_extent}
use Rattle.plant.specs.Tables.{face_size, piece_at, piece_ok}
use Rattle.checks.proofs.Loops.{all_more}
use Rattle.checks.proofs.Pieces.{pieces_are, face_is, piece_ends, location_ready}
use Rattle.checks.proofs.Model.{of_model, pieces_few}
use Rattle.checks.proofs.valid.location_ok.Goals as goal
use Rattle.checks.proofs.valid.location_ok.Goals.{In-loop-q, After-piece_at}

pub overflow_mul-q-end-2 : goal.overflow_mul-q-end-2
overflow_mul-q-end-2 c =
    let m = c.args.model.now in
    rw (c.pieces_per_face-c.ensures, c.cut-cut.ensures, c.variables-n.ensures) (omega (arith, pieces_are m c.args.l, pieces_few m c.requires.0.passes c.args.l))

is_piece : (c : In-loop-q) → c.loop-q.q < pieces c.args.model.now c.args.l
is_piece c = grind (arith, pieces_are)

pub piece_at-requires : goal.piece_at-requires
piece_at-requires c = let u = is_piece c in (grind (arith, of_model), grind (arith, of_model), grind (arith, of_model))

ends : (c : After-piece_at) → c.piece_at.result + face_size c.variables-n.result ≤ length c.args.table.now
ends c =
    let u = is_piece (goal.at.face-piece-requires c).In-loop-q in
    rw (c.piece_at.ensures, c.requires.2, c.variables-n.ensures) (omega (arith, piece_ends c.args.model.now c.args.l c.loop-q.q c.requires.1 u))

pub face-piece-requires : goal.face-piece-requires
face-piece-requires c = (grind (arith, of_model), ends c)

pub piece_ok-ok-requires : goal.piece_ok-ok-requires
piece_ok-ok-requires c =
    let u = is_piece (goal.at.piece_ok-ok-requires c).In-loop-q in
    let e = ends (goal.at.piece_ok-ok-requires c).After-piece_at in (
      rw (c.variables-n.ensures, c.invariant-inv.ensures, c.cut-cut.ensures) (location_ready c.args.model.now c.requires.0.passes c.args.l c.requires.1),
      grind (arith, face_is),
      grind (arith, common_steps),
    )

pub loop-q-preserved : goal.loop-q-preserved
unfolding piece_ok piece_at piece_extent piece_variable piece_wall piece_face piece_index face_wall per_face
loop-q-preserved c = all_more _ c.loop-q.q c.loop-q.invariant cc

pub returns : goal.returns
returns c = grind (arith, pieces_are)
