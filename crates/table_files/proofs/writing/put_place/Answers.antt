-- Location, face number and which piece of the face: the first two of them, or all three.
use Prim.Native.Nat.{◌/◌, ◌%◌, ◌<◌}
use native.Mathlib.Omega.{arith}
use mir.Syntax.{w32}
use mir.Facts.{to_z_pos}
use Rattle.integers.proofs.Signed.{fits32}
use Rattle.plant.proofs.Pieces.{per_face_most, per_face_least, face_below, index_below}
use Rattle.table_files.proofs.TableWriting.{face_is, index_is, place_is_part}
use Rattle.table_files.proofs.writing.put_place.Goals as goal
use Rattle.table_files.proofs.writing.put_place.Goals.{After-per_face-per}

-- the numbers are small
face_few : (c : After-per_face-per) → c.args.q / c.per_face-per.result < 12
face_few c = let r = c.requires.0 in omega (arith, face_is c.args.model.now c.args.l c.args.q c.per_face-per.ensures, face_below c.args.model.now c.args.l c.args.q r.piece, r.whole.head.n_small)

index_few : (c : After-per_face-per) → c.args.q % c.per_face-per.result < 2
index_few c = let a = c.args in omega (arith, index_is a.model.now a.l a.q c.per_face-per.ensures, index_below a.model.now a.l a.q, per_face_most a.model.now a.l)

pub nonzero_div-f : goal.nonzero_div-f
nonzero_div-f c = omega (arith, c.per_face-per.ensures, per_face_least c.args.model.now c.args.l)

pub overflow_cast-place-2 : goal.overflow_cast-place-2
overflow_cast-place-2 c = fits32 (omega (arith, face_few (goal.at.overflow_cast-place-2 c).After-per_face-per))

pub nonzero_rem-k : goal.nonzero_rem-k
nonzero_rem-k c = omega (arith, c.per_face-per.ensures, per_face_least c.args.model.now c.args.l)

pub overflow_cast-place-3 : goal.overflow_cast-place-3
overflow_cast-place-3 c = fits32 (omega (arith, index_few (goal.at.overflow_cast-place-3 c).After-per_face-per))

pub returns : goal.returns
returns c =
    let a = c.args in
    let here = (goal.at.returns c).After-per_face-per in
    let location = to_z_pos w32 {n = a.l} (omega (arith, c.requires.0.location, c.requires.0.whole.head.L_small)) in
    let face = to_z_pos w32 {n = a.q / c.per_face-per.result} (omega (arith, face_few here)) in
    let index = to_z_pos w32 {n = a.q % c.per_face-per.result} (omega (arith, index_few here)) in
    let place = place_is_part a.model.now a.l a.q c.per_face-per.ensures c.requires.0.cut_is c.place_size.ensures in
    rw (location, face, index, place) at c.put_words.ensures
