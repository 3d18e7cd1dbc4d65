-- At piece q the location's pieces are joined with the wall steps from the start part, before the loop, and from the pieces below q.
use Rattle.std.proofs.Common.{◌≡◌, ◌+◌, ap, ◌∙◌, arith}
use Rattle.plant.specs.Model.{n#}
use Rattle.plant.specs.Pieces.{pieces}
use Rattle.plant.specs.Tables.{part_of}
use Rattle.plant.proofs.Tables.{pieces-most}
use Rattle.tables.proofs.Sizes.{before_most}
use Rattle.passes.specs.Parts.{IsPart}
use Rattle.passes.proofs.PartWords.{place_is, piece_end}
use Rattle.passes.proofs.Reading.{piece_is_part, joined_to, joined_none, joined_all, is_block, start_joined, part_lies, joined_more}
use Rattle.passes.proofs.given.Given.join_parts.Goals as goal
use Rattle.passes.proofs.given.Given.join_parts.Goals.{After-face}

pub join_start-requires : goal.join_start-requires
join_start-requires c =
    let g = c.args.self.now in
    (g.checked.ready.passes, c.requires.0, c.read-place.ensures, is_block g c.args.l c.requires.0 c.read-place.ensures 0 (joined_none g c.args.l c.requires.0 c.requires.3))

pub loop-q-init : goal.loop-q-init
loop-q-init c = let g = c.args.self.now in start_joined g c.args.l c.requires.0 c.read-place.ensures c.requires.3 c.join_start.ensures

pub piece_at-at-requires : goal.piece_at-at-requires
piece_at-at-requires c =
    let g = c.args.self.now in
    let h = g.whole.head in
    (omega (arith, before_most g.model.now h c.args.l (omega arith)), omega (arith, pieces-most g.model.now c.args.l h.n_small), omega arith)

-- the words of piece q
piece : (c : After-face) → IsPart (n# c.args.self.now.model.now) c.face.result.now (part_of c.args.self.now.model.now c.args.self.now.table.now c.args.l (c.loop-q.q + 1))
piece c =
    let g = c.args.self.now in
    piece_is_part g c.args.l c.loop-q.q c.requires.0 (omega arith) c.read-place.ensures.n_is (place_is g.model.now c.args.l c.loop-q.q c.read-place.ensures.n_is c.requires.1 c.piece_at-at.ensures) c.face.ensures

pub face-requires : goal.face-requires
face-requires c =
    let g = c.args.self.now in
    (omega arith, piece_end g.model.now c.args.l c.requires.0 g.table.now g.checked.ready.room c.loop-q.q (omega arith) c.read-place.ensures.n_is (place_is g.model.now c.args.l c.loop-q.q c.read-place.ensures.n_is c.requires.1 c.piece_at-at.ensures))

pub join_part-requires : goal.join_part-requires
join_part-requires c =
    let g = c.args.self.now in
    let r = c.read-place.ensures in
    let q = c.loop-q.q in
    (part_lies g c.args.l c.requires.0 r (q + 1) (omega arith) (piece (goal.at.join_part-requires c).After-face), is_block g c.args.l c.requires.0 r (q + 1) c.loop-q.invariant)

pub loop-q-preserved : goal.loop-q-preserved
loop-q-preserved c =
    let g = c.args.self.now in
    let q = c.loop-q.q in
    joined_more g c.args.l c.requires.0 c.read-place.ensures (q + 1) (omega arith) (piece (goal.at.loop-q-preserved c).After-face) c.loop-q.invariant c.join_part.ensures

pub returns : goal.returns
returns c =
    let g = c.args.self.now in
    let e : c.loop-q.q + 1 ≡ pieces g.model.now c.args.l + 1 = omega arith in
    c.loop-q.invariant ∙ ap (joined_to g c.args.l c.requires.0) e ∙ joined_all g c.args.l c.requires.0
