-- The pieces of the face on which switch e lands are joined with the box, and no other piece changes.
use Rattle.std.proofs.Common.{◌≡◌, ℕ, ◌+◌, ◌-◌, ◌*◌, ◌≤◌, ◌<◌, Option, List, ℤ, length, arith, ap, ◌∙◌}
use mathlib.Core.Path.{ap₂}
use Rattle.plant.specs.Box.{present}
use Rattle.plant.specs.declared.Cut.{Cut}
use Rattle.plant.specs.Model.{n#, E#, target, wall_variable, target_side, cut_of, invariant}
use Rattle.plant.specs.Pieces.{pieces_per_face, per_face}
use Rattle.plant.specs.Tables.{face_size, piece_at}
use Rattle.passes.specs.declared.given.Given.{Given}
use Rattle.passes.proofs.Reading.{model_ok, below_of, target_face_lem, table_small, before_small, piece_begins}
use Rattle.passes.proofs.Landing.{target_first, first_small, lands_inside, out_long, target_are_pieces, landed}
use Rattle.passes.proofs.given.Given.join_landed.Goals as goal
use Rattle.passes.proofs.given.Given.join_landed.Goals.{After-face_size}

-- the first of the pieces, by what was read of the switch and the cut
module _ (g : Given) {e d s each : ℕ} {cut : Option Cut} (u : e < E# g.model.now) (cut_is : cut ≡ cut_of g.model.now (target g.model.now e)) (d_is : d ≡ wall_variable g.model.now e) (s_is : s ≡ target_side g.model.now e) (each_is : each ≡ pieces_per_face cut) where
  count_is : each ≡ per_face g.model.now (target g.model.now e)
  unfolding per_face
  count_is = each_is ∙ ap pieces_per_face cut_is

  first_is : (2 * d + s) * each ≡ target_first g.model.now e
  first_is = (λ i. (2 * d_is i + s_is i) * count_is i)

  few : (2 * d + s) * each ≤ 24
  few = omega (arith, first_is, first_small g.model.now e g.whole.head.n_small (target_face_lem g e u))

-- where they stand
record Stands (m out : List ℤ) (e at words : ℕ) : Type 0 where
  at_is : at ≡ piece_at m (target m e) (target_first m e)
  part_is : at + words - at ≡ per_face m (target m e) * face_size (n# m)
  small : at + words ≤ 19968
  inside : at + words ≤ length out

stands : (c : After-face_size) → Stands c.args.self.now.model.now c.args.out.now c.args.e c.piece_at-at.result (c.pieces_per_face-each.result * c.face_size.result)
stands c =
    let g = c.args.self.now in
    let p = g.placed c.args.e c.requires.0 in
    let words = ap₂ (λ (k w : ℕ). k * w) (count_is g c.requires.0 c.requires.1 c.wall_variable-d.ensures c.target_side.ensures c.pieces_per_face-each.ensures) (c.face_size.ensures ∙ ap face_size c.variables-n.ensures) in
    let first = first_is g c.requires.0 c.requires.1 c.wall_variable-d.ensures c.target_side.ensures c.pieces_per_face-each.ensures in
    let begins = piece_begins g c.target-l.ensures (omega (arith, p.target_is)) c.variables-n.ensures first c.piece_at-at.ensures in
    let there = lands_inside g.model.now c.args.e (present c.args.part.now) p.target_is (target_face_lem g c.args.e c.requires.0) p.target_side_is c.args.out.now c.requires.4 in
    let long = out_long g.model.now c.args.e (present c.args.part.now) p.target_is (target_face_lem g c.args.e c.requires.0) p.target_side_is c.args.out.now c.requires.4 in
    record {
      at_is = begins;
      part_is = omega (arith, words);
      small = omega (arith, begins, words, there, table_small g);
      inside = omega (arith, begins, words, there, long);
    }

pub overflow_mul-f-2 : goal.overflow_mul-f-2
overflow_mul-f-2 c = omega (arith, few c.args.self.now c.requires.0 c.requires.1 c.wall_variable-d.ensures c.target_side.ensures c.pieces_per_face-each.ensures)

pub piece_at-at-requires : goal.piece_at-at-requires
piece_at-at-requires c =
    let g = c.args.self.now in (
      before_small g c.target-l.ensures (omega (arith, (g.placed c.args.e c.requires.0).target_is)),
      few g c.requires.0 c.requires.1 c.wall_variable-d.ensures c.target_side.ensures c.pieces_per_face-each.ensures,
      omega (arith, g.whole.head.n_small),
    )

pub overflow_mul-end : goal.overflow_mul-end
overflow_mul-end c = omega (arith, (stands c).small)

pub overflow_add-end : goal.overflow_add-end
overflow_add-end c = omega (arith, (stands c).small)

pub offset_bounds-out-at : goal.offset_bounds-out-at
offset_bounds-out-at c = omega (arith, (stands c).small)

pub slice_bounds-join_pieces-end : goal.slice_bounds-join_pieces-end
slice_bounds-join_pieces-end c = omega (arith, (stands c).inside)

pub join_pieces-requires : goal.join_pieces-requires
unfolding per_face
join_pieces-requires c =
    let g = c.args.self.now in
    let m = g.model.now in
    let e = c.args.e in
    let p = g.placed e c.requires.0 in
    let s = stands (goal.at.join_pieces-requires c).After-face_size in
    let are = target_are_pieces m e (present c.args.part.now) p.target_is (target_face_lem g e c.requires.0) p.target_side_is c.args.out.now c.requires.4 s.at_is s.part_is in
    let below = below_of (n# m) (invariant m (target m e)) (cut_of m (target m e)) ((model_ok g).of_cut (target m e) p.target_is).inside in
    rw (c.variables-n.ensures, c.requires.1) (record { n_small = g.whole.head.n_small; box_length = c.requires.2; box_ordered = c.requires.3; cut_below = below; are_pieces = are })

pub returns : goal.returns
unfolding per_face
returns c =
    let g = c.args.self.now in
    let p = g.placed c.args.e c.requires.0 in
    let s = stands (goal.at.returns c).After-face_size in
    landed g.model.now c.args.e (present c.args.part.now) p.target_is (target_face_lem g c.args.e c.requires.0) p.target_side_is c.args.out.now c.requires.4 s.at_is s.part_is (rw (c.variables-n.ensures, c.requires.1, c.wall_variable-d.ensures) at c.join_pieces.ensures)
