-- After f turns the pieces of the faces below f are joined with their steps, and the words behind them are the location's as they
-- were.
use mathlib.Core.Path.{◌≡◌, sym, ap, ap₂, ◌∙◌}
use mathlib.Core.List.{List}
use native.Mathlib.Omega.{arith}
use Prim.Native.Nat.{ℕ, ◌+◌, ◌-◌, ◌*◌, ◌≤◌, ◌<◌}
use lib.IntN.{ℤ}
use lib.ListN.{length}
use borrow.Rule.Slice.PartMut.{mid_of, put_mid}
use Rattle.integers.specs.Words.{onto}
use Rattle.integers.specs.Counted.{cat}
use Rattle.integers.proofs.Counted.{sum_same}
use Rattle.plant.specs.Box.{Face, present}
use Rattle.plant.specs.Model.{variable_of}
use Rattle.plant.specs.Pieces.{pieces_per_face}
use Rattle.plant.specs.Tables.{face_size}
use Rattle.plant.specs.declared.End.{End}
use Rattle.delays.specs.Ranges.{InInvariant}
use Rattle.delays.specs.Windows.{WindowEnd}
use Rattle.passes.specs.declared.walls.Place.{Place}
use Rattle.passes.specs.Placing.{WallJoin, IsBlock, step, with_face, walls_from, with_walls}
use Rattle.passes.proofs.Blocks.{none_put, one_put, all_put}
use Rattle.passes.proofs.Handing.{walls_given}
use Rattle.passes.proofs.Locations.{group_size, joined_group, joined_sized, groups_joined, group_few, block_few, block_sum, next_inside, next_are_pieces, next_joined}
use Rattle.passes.proofs.walls.Place.join_walls.Goals as goal

module _ (p : Place) {bounds block : List ℤ} (r : InInvariant p.n p.invariant.now bounds × IsBlock p block) where
  abbrev given : ℕ → Face
  given = walls_from p (present bounds)

  -- the pieces of the faces below f are joined with their steps
  abbrev JoinedBelow : ℕ → List ℤ → Type 0
  JoinedBelow f words = words ≡ onto (cat f (joined_group p.n p.cut block given)) block

  none_joined : JoinedBelow 0 block
  none_joined = none_put (λ f. group_size p.n p.cut block given) (joined_group p.n p.cut block given) (joined_sized p.n p.cut block given) block

  all_joined : (f : ℕ) → f ≡ 2 * p.n → {words : List ℤ} → JoinedBelow f words → words ≡ with_walls p (present bounds) block
  all_joined f e {words} h =
      all_put (λ f. group_size p.n p.cut block given) (joined_group p.n p.cut block given) (joined_sized p.n p.cut block given) block (2 * p.n) (h ∙ ap (λ (k : ℕ). onto (cat k (joined_group p.n p.cut block given)) block) e) (block_sum p.n p.cut block given r.1)
      ∙ groups_joined p.n p.cut block given

  -- the words of a face's pieces
  module _ {each words : ℕ} (each_is : each ≡ pieces_per_face p.cut) (words_are : words ≡ face_size p.n) where
    size_is : each * words ≡ pieces_per_face p.cut * face_size p.n
    size_is = ap₂ (λ (p w : ℕ). p * w) each_is words_are

    size_few : each * words ≤ 26
    size_few = omega (arith, size_is, group_few p.n p.cut p.n_small)

    -- face f's place
    module _ {f : ℕ} (is_face : f < 2 * p.n) where
      at_is : f * (each * words) ≡ f * (pieces_per_face p.cut * face_size p.n)
      at_is = ap (λ (k : ℕ). f * k) size_is

      end_is : f * (each * words) + each * words ≡ f * (each * words) + pieces_per_face p.cut * face_size p.n
      end_is = ap (λ (k : ℕ). f * (each * words) + k) size_is

      inside : f * (each * words) + each * words ≤ length block
      inside = omega (arith, end_is, at_is, next_inside p.n p.cut block given r.1 f is_face)

      small : f * (each * words) + each * words ≤ 312
      small = omega (arith, inside, block_few p.n p.cut block given r.1 p.n_small)

      module _ (turn : List ℤ) (h : JoinedBelow f turn) where
        abbrev part : List ℤ
        part = mid_of (f * (each * words)) (f * (each * words) + each * words - f * (each * words)) turn

        wall_join : {end : End} → WindowEnd p.n p.invariant.now p.rate.now bounds end → WallJoin p bounds end f part
        wall_join w = record { bounds_in = r.0; window_end = w; is_face = is_face; are_pieces = next_are_pieces p.n p.cut block given r.1 f is_face h at_is end_is }

        wall_joined : {exit : List ℤ} → exit ≡ with_face p (variable_of f) (step p bounds f) part → JoinedBelow (f + 1) (put_mid (f * (each * words)) (f * (each * words) + each * words - f * (each * words)) turn exit)
        wall_joined e =
            one_put (λ f. group_size p.n p.cut block given) (joined_group p.n p.cut block given) (joined_sized p.n p.cut block given) block f h (at_is ∙ sym (sum_same f (pieces_per_face p.cut * face_size p.n))) end_is inside
            (next_joined p.n p.cut block given r.1 f is_face h at_is end_is (e ∙ walls_given p bounds f part))

pub overflow_mul-size : goal.overflow_mul-size
overflow_mul-size c = omega (arith, size_few c.args.self.now c.requires c.pieces_per_face.ensures c.face_size.ensures)

pub loop-f-init : goal.loop-f-init
loop-f-init c = none_joined c.args.self.now c.requires

pub overflow_mul-at : goal.overflow_mul-at
overflow_mul-at c = omega (arith, small c.args.self.now c.requires c.pieces_per_face.ensures c.face_size.ensures c.loop-f-test.true)

pub overflow_add-next : goal.overflow_add-next
overflow_add-next c = omega (arith, small c.args.self.now c.requires c.pieces_per_face.ensures c.face_size.ensures c.loop-f-test.true)

pub offset_bounds-block-at : goal.offset_bounds-block-at
offset_bounds-block-at c = omega (arith, small c.args.self.now c.requires c.pieces_per_face.ensures c.face_size.ensures c.loop-f-test.true)

pub slice_bounds-join_wall-end : goal.slice_bounds-join_wall-end
slice_bounds-join_wall-end c = omega (arith, inside c.args.self.now c.requires c.pieces_per_face.ensures c.face_size.ensures c.loop-f-test.true)

pub join_wall-requires : goal.join_wall-requires
join_wall-requires c = wall_join c.args.self.now c.requires c.pieces_per_face.ensures c.face_size.ensures c.loop-f-test.true c.loop-f.block c.loop-f.invariant c.window_end-end.ensures

pub loop-f-preserved : goal.loop-f-preserved
loop-f-preserved c = wall_joined c.args.self.now c.requires c.pieces_per_face.ensures c.face_size.ensures c.loop-f-test.true c.loop-f.block c.loop-f.invariant c.join_wall.ensures

pub returns : goal.returns
returns c = all_joined c.args.self.now c.requires c.loop-f.f (omega arith) c.loop-f.invariant
