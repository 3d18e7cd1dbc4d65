-- The fields of the pieces passed stand behind the position, and end at the next.
use mathlib.Core.Path.{◌≡◌, refl}
use native.Mathlib.Omega.{arith}
use Rattle.plant.specs.Model.{n#}
use Rattle.plant.specs.Tables.{piece_at, piece_of}
use Rattle.plant.proofs.Tables.{pieces-most}
use Rattle.passes.specs.Parts.{IsPart}
use Rattle.passes.proofs.PartWords.{place_is, piece_end, piece_part}
use Rattle.integers.proofs.Filling.{written_none, written_more}
use Rattle.files.proofs.TableSizes.{location_counted, pieces_few}
use Rattle.table_files.proofs.TableWriting.{location_room, piece_room, location_written}
use Rattle.table_files.proofs.writing.put_location.Goals as goal
use Rattle.table_files.proofs.writing.put_location.Goals.{After-piece_at, After-face-piece}

-- where the words of the piece stand in the table
at_is : (c : After-piece_at) → c.piece_at.result ≡ piece_at c.args.model.now c.args.l c.loop-q.q
at_is c = place_is c.args.model.now c.args.l c.loop-q.q c.variables-n.ensures c.requires.before_is c.piece_at.ensures

is_part : (c : After-face-piece) → c.piece_at.result ≡ piece_at c.args.model.now c.args.l c.loop-q.q → let a = c.args in IsPart (n# a.model.now) c.face-piece.result.now (piece_of a.model.now a.table.now a.l c.loop-q.q)
is_part c e = piece_part _ _ c.requires.location _ c.requires.there c.loop-q.q (omega (arith, c.pieces-q-end.ensures)) c.variables-n.ensures e c.face-piece.ensures

pub loop-q-init : goal.loop-q-init
loop-q-init c = written_none _ _ _ (omega (arith, c.requires.room)) refl

pub piece_at-requires : goal.piece_at-requires
piece_at-requires c = (omega (arith, c.requires.before_is, location_counted c.args.model.now c.args.l c.requires.location, pieces_few c.args.model.now c.requires.whole), omega (arith, c.pieces-q-end.ensures, pieces-most c.args.model.now c.args.l c.requires.whole.head.n_small), omega (arith, c.variables-n.ensures, c.requires.whole.head.n_small))

pub face-piece-requires : goal.face-piece-requires
face-piece-requires c = (
  omega (arith, c.variables-n.ensures, c.requires.whole.head.n_small),
  piece_end _ _ c.requires.location _ c.requires.there c.loop-q.q (omega (arith, c.pieces-q-end.ensures)) c.variables-n.ensures (at_is (goal.at.face-piece-requires c).After-piece_at),
)

pub put_piece-next-requires : goal.put_piece-next-requires
put_piece-next-requires c =
    let here = goal.at.put_piece-next-requires c in
    piece_room _ _ _ c.requires (omega (arith, c.pieces-q-end.ensures)) (is_part here.After-face-piece (at_is here.After-piece_at)).sized c.loop-q.invariant

pub loop-q-preserved : goal.loop-q-preserved
loop-q-preserved c =
    let here = goal.at.loop-q-preserved c in
    let gives = (is_part here.After-face-piece (at_is here.After-piece_at)).gives in
    written_more _ _ _ (omega (arith, c.requires.room)) c.loop-q.invariant (rw gives at c.put_piece-next.ensures.bytes) (rw gives at c.put_piece-next.ensures.next)

pub shape_of-file : goal.shape_of-file
shape_of-file c = (location_room _ _ _ c.requires (omega (arith, c.pieces-q-end.ensures)) c.loop-q.invariant).0

pub returns : goal.returns
returns c =
    let w = location_written _ _ _ c.requires (omega (arith, c.pieces-q-end.ensures, c.loop-q-test.false)) c.loop-q.invariant in
    record { bytes = w.0; end = w.1 }
