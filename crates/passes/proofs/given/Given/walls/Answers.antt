-- After l turns the locations below l have their wall steps; the others still have the words of the table before the pass.
use Rattle.std.proofs.Common.{◌≡◌, ℕ, ◌+◌, ◌-◌, ◌*◌, ◌≤◌, ◌<◌, List, ℤ, length, take, drop, get_or, refl, ap, ◌∙◌, arith}
use lib.Seq.{length-take-le}
use Rattle.integers.specs.Words.{onto}
use Rattle.integers.specs.Counted.{cat, sum_below}
use Rattle.integers.proofs.Buffers.{part_front}
use Rattle.plant.specs.Model.{n#, L#}
use Rattle.plant.specs.Pieces.{pieces}
use Rattle.plant.specs.Tables.{face_size, table_size, piece_at, piece_of}
use Rattle.plant.proofs.PieceCases.{before_more}
use Rattle.plant.proofs.Tables.{location_words}
use Rattle.passes.specs.declared.given.Given.{Given}
use Rattle.passes.specs.Joining.{location_by}
use Rattle.passes.proofs.Blocks.{none_put, place_rest, one_put, all_put}
use Rattle.passes.proofs.Reading.{old_location, locations_of, locations_sized, all_locations, before_is, before_small, piece_begins, location_from, location_to, location_inside, table_small, table_sized}
use Rattle.passes.proofs.given.Given.walls.Goals as goal

-- the words of the table, as many as a table has
module _ (g : Given) where
  abbrev held : List ℤ
  held = take (table_size g.model.now) g.table.now

  held_long : length held ≡ table_size g.model.now
  held_long = length-take-le (table_size g.model.now) g.table.now g.checked.ready.room

  module _ {size : ℕ} (sized : size ≡ table_size g.model.now) where
    copied_is : take size g.table.now ≡ held
    copied_is = ap (λ (k : ℕ). take k g.table.now) sized

  -- location l
  module _ {l : ℕ} (u : l < L# g.model.now) where
    next_is : get_or g.places.now (l + 1) 0 ≡ get_or g.places.now l 0 + pieces g.model.now l
    next_is = omega (arith, before_is g {l = l} refl (omega arith), before_is g {l = l + 1} refl (omega arith), before_more g.model.now l)

    -- its words
    module _ {n at end : ℕ} (n_is : n ≡ n# g.model.now) (at_said : at ≡ (get_or g.places.now l 0 + 0) * face_size n) (end_said : end ≡ (get_or g.places.now (l + 1) 0 + 0) * face_size n) where
      at_is : at ≡ piece_at g.model.now l 0
      at_is = piece_begins g refl (omega arith) n_is refl at_said

      end_at : end ≡ piece_at g.model.now (l + 1) 0
      end_at = piece_begins g refl (omega arith) n_is refl end_said

      from : at ≡ sum_below l (location_words g.model.now)
      from = location_from g.model.now l at_is end_at

      to : end ≡ at + location_words g.model.now l
      to = location_to g.model.now l at_is end_at

      inside : end ≤ table_size g.model.now
      inside = omega (arith, to, location_inside g.model.now l at_is u refl)

      small : end ≤ 19968
      small = omega (arith, inside, table_small g)

      inside_held : end ≤ length held
      inside_held = omega (arith, inside, held_long)

      -- as they were
      old_words : {out : List ℤ} → out ≡ onto (cat l (locations_of g.model.now g.table.now)) held → take (end - at) (drop at out) ≡ location_by g.model.now l (piece_of g.model.now g.table.now l)
      old_words h =
          place_rest (location_words g.model.now) (locations_of g.model.now g.table.now) (locations_sized g.model.now g.table.now) held l h from to inside_held
          ∙ part_front at (end - at) (table_size g.model.now) g.table.now (omega (arith, inside, to))
          ∙ old_location g l u {k = end - at} at_is (omega (arith, to))

pub loop-l-init : goal.loop-l-init
loop-l-init c =
    let g = c.args.self.now in
    c.copy.ensures ∙ copied_is g c.requires ∙ none_put (location_words g.model.now) (locations_of g.model.now g.table.now) (locations_sized g.model.now g.table.now) (held g)

pub piece_at-at-requires : goal.piece_at-at-requires
piece_at-at-requires c = let g = c.args.self.now in (before_small g refl (omega arith), omega arith, omega (arith, g.whole.head.n_small))

pub piece_at-end-requires : goal.piece_at-end-requires
piece_at-end-requires c = let g = c.args.self.now in (before_small g refl (omega arith), omega arith, omega (arith, g.whole.head.n_small))

pub overflow_sub-next : goal.overflow_sub-next
overflow_sub-next c = omega (arith, next_is c.args.self.now {l = c.loop-l.l} (omega arith))

pub offset_bounds-out-at : goal.offset_bounds-out-at
offset_bounds-out-at c =
    let g = c.args.self.now in
    omega (arith, to g {l = c.loop-l.l} (omega arith) c.variables-n.ensures c.piece_at-at.ensures c.piece_at-end.ensures, small g {l = c.loop-l.l} (omega arith) c.variables-n.ensures c.piece_at-at.ensures c.piece_at-end.ensures)

pub slice_bounds-join_parts-count : goal.slice_bounds-join_parts-count
slice_bounds-join_parts-count c = omega (arith, to c.args.self.now {l = c.loop-l.l} (omega arith) c.variables-n.ensures c.piece_at-at.ensures c.piece_at-end.ensures)

pub slice_bounds-join_parts-start : goal.slice_bounds-join_parts-start
slice_bounds-join_parts-start c = omega (arith, to c.args.self.now {l = c.loop-l.l} (omega arith) c.variables-n.ensures c.piece_at-at.ensures c.piece_at-end.ensures)

pub slice_bounds-join_parts-end : goal.slice_bounds-join_parts-end
slice_bounds-join_parts-end c = omega (arith, inside c.args.self.now {l = c.loop-l.l} (omega arith) c.variables-n.ensures c.piece_at-at.ensures c.piece_at-end.ensures, c.requires)

pub join_parts-requires : goal.join_parts-requires
join_parts-requires c =
    let g = c.args.self.now in
    let u : c.loop-l.l < L# g.model.now = omega arith in
    (u, before_is g {l = c.loop-l.l} refl (omega arith), omega (arith, next_is g u), old_words g u c.variables-n.ensures c.piece_at-at.ensures c.piece_at-end.ensures c.loop-l.invariant)

pub loop-l-preserved : goal.loop-l-preserved
loop-l-preserved c =
    let g = c.args.self.now in
    let u : c.loop-l.l < L# g.model.now = omega arith in
    let a = c.piece_at-at.ensures in
    let b = c.piece_at-end.ensures in
    one_put (location_words g.model.now) (locations_of g.model.now g.table.now) (locations_sized g.model.now g.table.now) (held g) c.loop-l.l c.loop-l.invariant
    (from g u c.variables-n.ensures a b) (to g u c.variables-n.ensures a b) (inside_held g u c.variables-n.ensures a b) c.join_parts.ensures

pub returns : goal.returns
returns c =
    let g = c.args.self.now in
    let e : c.loop-l.l ≡ L# g.model.now = omega arith in
    all_put (location_words g.model.now) (locations_of g.model.now g.table.now) (locations_sized g.model.now g.table.now) (held g) (L# g.model.now) (c.loop-l.invariant ∙ ap (λ (k : ℕ). onto (cat k (locations_of g.model.now g.table.now)) (held g)) e) (table_sized g.model.now (held_long g))
    ∙ all_locations g.model.now g.table.now
