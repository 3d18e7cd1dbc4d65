-- Piece k of a face is behind those of the faces before it.
use Rattle.std.proofs.Common.{◌≡◌, ℕ, ◌+◌, ◌*◌, ◌≤◌, ◌<◌, List, ℤ, refl, arith}
use Rattle.plant.specs.Model.{source, wall_variable, source_side}
use Rattle.plant.specs.Pieces.{per_face, pieces, piece_number}
use Rattle.plant.specs.Tables.{piece_at, source_piece}
use Rattle.plant.proofs.Tables.{pieces-most}
use Rattle.passes.proofs.PartWords.{piece_end}
use Rattle.passes.proofs.Reading.{source_below, before_small, piece_begins, piece_is_part}
use Rattle.passes.proofs.given.Given.source_piece.Goals as goal
use Rattle.passes.proofs.given.Given.source_piece.Goals.{After-source_side, After-piece_at}

number_is : (m : List ℤ) (e k : ℕ) {d s p : ℕ} → d ≡ wall_variable m e → s ≡ source_side m e → p ≡ per_face m (source m e) → (2 * d + s) * p + k ≡ source_piece m e k
unfolding source_piece piece_number
number_is m e k a b c = rw (a, b, c) refl

-- the number of the piece, by what was read of the switch
number : (c : After-source_side) → (2 * c.wall_variable.result + c.source_side.result) * c.args.count + c.args.k ≡ source_piece c.args.self.now.model.now c.args.e c.args.k
number c = number_is c.args.self.now.model.now c.args.e c.args.k c.wall_variable.ensures c.source_side.ensures c.requires.count_is

there : (c : After-source_side) → source_piece c.args.self.now.model.now c.args.e c.args.k < pieces c.args.self.now.model.now (source c.args.self.now.model.now c.args.e)
there c = let g = c.args.self.now in source_below g c.args.e c.args.k c.requires.is_switch c.requires.is_piece

few : (c : After-source_side) → (2 * c.wall_variable.result + c.source_side.result) * c.args.count + c.args.k ≤ 24
few c = let g = c.args.self.now in omega (arith, number c, there c, pieces-most g.model.now (source g.model.now c.args.e) g.whole.head.n_small)

-- where it begins
begins : (c : After-piece_at) → c.piece_at.result ≡ piece_at c.args.self.now.model.now (source c.args.self.now.model.now c.args.e) (source_piece c.args.self.now.model.now c.args.e c.args.k)
begins c =
    let g = c.args.self.now in
    piece_begins g c.source-l.ensures (omega (arith, (g.placed c.args.e c.requires.is_switch).source_is)) c.variables-n.ensures (number (goal.at.face-requires c).After-source_side) c.piece_at.ensures

pub overflow_mul-q : goal.overflow_mul-q
overflow_mul-q c = omega (arith, few c)

pub overflow_add-q : goal.overflow_add-q
overflow_add-q c = omega (arith, few c)

pub piece_at-requires : goal.piece_at-requires
piece_at-requires c =
    let g = c.args.self.now in
    (before_small g c.source-l.ensures (omega (arith, (g.placed c.args.e c.requires.is_switch).source_is)), few (goal.at.piece_at-requires c).After-source_side, omega (arith, g.whole.head.n_small))

pub face-requires : goal.face-requires
face-requires c =
    let g = c.args.self.now in
    (omega (arith, g.whole.head.n_small), piece_end g.model.now (source g.model.now c.args.e) (g.placed c.args.e c.requires.is_switch).source_is g.table.now g.checked.ready.room (source_piece g.model.now c.args.e c.args.k) (there (goal.at.face-requires c).After-source_side) c.variables-n.ensures (begins c))

pub returns : goal.returns
returns c =
    let g = c.args.self.now in
    piece_is_part g (source g.model.now c.args.e) (source_piece g.model.now c.args.e c.args.k) (g.placed c.args.e c.requires.is_switch).source_is (there (goal.at.returns c).After-source_side) c.variables-n.ensures (begins (goal.at.returns c).After-piece_at) c.face.ensures
