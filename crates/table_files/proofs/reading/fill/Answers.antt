-- The table has the pieces of the fields passed, each put over the words of its place.
use mathlib.Core.Path.{◌≡◌, refl, ap, ap₂, ◌∙◌}
use Prim.Native.Nat.{ℕ, ◌+◌, ◌*◌, ◌≤◌}
use native.Mathlib.Omega.{arith}
use borrow.Author.Rules.{rules}
use lib.IntN.{pos}
use lib.ListN.{length, replicate}
use Rattle.files.specs.Fields.{payload_length, field_place}
use Rattle.plant.specs.Tables.{face_size, table_size}
use Rattle.tables.proofs.Faces.{table_most}
use Rattle.files.specs.TableFile.{piece_field_at}
use Rattle.files.proofs.TableAsked.{FieldsYes, fields_yes}
use Rattle.table_files.specs.TableRoom.{size_by}
use Rattle.table_files.proofs.Cuts.{size_is}
use Rattle.table_files.proofs.TableWriting.{field_size_is, size_few}
use Rattle.table_files.proofs.TableReading.{row_length, asked_count, counted_at, count_few, field_key, field_ends, place_is, place_inside, place_yes_at, table_none, table_put, table_size_lem, table_end}
use Rattle.table_files.proofs.reading.fill.Goals as goal
use Rattle.table_files.proofs.reading.fill.Goals.{Start, After-field_place-start, After-key_at}

-- the file passes 35 to 38
yes : (c : Start) → FieldsYes c.args.model.now c.args.file.now
yes c = fields_yes _ _ c.requires.0.whole.head.n_positive c.requires.0.whole.head.L_positive c.requires.1

-- field i begins where the code has it, and its words stand in the file
at_is : (c : After-field_place-start) → c.field_place-start.result ≡ piece_field_at c.args.model.now c.loop-i.i
at_is c =
    let size = field_size_is _ c.requires.0.whole c.requires.0.cut_is c.variables-n.ensures c.field_size-field.ensures in
    c.field_place-start.ensures ∙ ap₂ (λ (from w : ℕ). field_place from w c.loop-i.i) c.pieces_from.ensures size

ends : (c : After-field_place-start) → FieldsYes c.args.model.now c.args.file.now → c.field_place-start.result + 3 + payload_length (size_by c.args.any_cut) + payload_length (2 * c.variables-n.result) ≤ length c.args.file.now
ends c y = field_ends _ c.requires.0.whole _ y c.count_of-i-end.ensures _ _ c.loop-i-test.true (at_is c) refl c.requires.0.cut_is c.variables-n.ensures

-- the words of the piece that it names stand in the table
inside : (c : After-key_at) → FieldsYes c.args.model.now c.args.file.now → c.field_place-start.result ≡ piece_field_at c.args.model.now c.loop-i.i
    → (c.key_at.result * c.face_size-size.result + c.face_size-size.result ≤ table_size c.args.model.now) × (table_size c.args.model.now ≤ 19968) × (length c.loop-i.table ≡ table_size c.args.model.now)
inside c y e = (
  place_inside _ c.requires.0.whole _ y c.count_of-i-end.ensures _ _ c.loop-i-test.true e refl c.key_at.ensures (c.face_size-size.ensures ∙ ap face_size c.variables-n.ensures),
  table_most _ c.requires.0.whole.head,
  table_size_lem _ c.args.file.now c.loop-i.i c.loop-i.invariant,
)

pub count_of-i-end-requires : goal.count_of-i-end-requires
count_of-i-end-requires c = counted_at _ _ (asked_count c.args.model.now c.args.file.now c.requires.1)

pub loop-i-init : goal.loop-i-init
loop-i-init c =
    let zeros : c.fill.new.self ≡ replicate (length c.args.table.now) (pos 0) = search rules in
    zeros ∙ table_none _ _ _ c.requires.2

pub field_place-start-requires : goal.field_place-start-requires
field_place-start-requires c = (
  omega (arith, c.pieces_from.ensures),
  omega (arith, size_few _ c.requires.0.whole c.requires.0.cut_is c.variables-n.ensures c.field_size-field.ensures),
  omega (arith, count_few _ c.requires.0.whole _ (yes (goal.at.field_place-start-requires c).Start) c.count_of-i-end.ensures),
)

pub overflow_add-start : goal.overflow_add-start
overflow_add-start c = record { fits = omega (arith, ends c (yes (goal.at.overflow_add-start c).Start), c.well_formed) }

pub key_at-requires : goal.key_at-requires
key_at-requires c = field_key _ c.requires.0.whole _ (yes (goal.at.key_at-requires c).Start) c.count_of-i-end.ensures _ _ c.loop-i-test.true (at_is c) refl c.requires.0

pub overflow_mul-to : goal.overflow_mul-to
overflow_mul-to c =
    let here = goal.at.overflow_mul-to c in
    record { fits = omega (arith, inside c (yes here.Start) (at_is here.After-field_place-start)) }

pub overflow_add-end : goal.overflow_add-end
overflow_add-end c =
    let here = goal.at.overflow_add-end c in
    record { fits = omega (arith, inside here.After-key_at (yes here.Start) (at_is here.After-field_place-start)) }

pub overflow_add-start-in-loop-i : goal.overflow_add-start-in-loop-i
overflow_add-start-in-loop-i c =
    let here = goal.at.overflow_add-start-in-loop-i c in
    record { fits = omega (arith, c.payload_length-box_from.ensures, c.place_size.ensures, ends here.After-field_place-start (yes here.Start), c.well_formed) }

pub offset_bounds-table-to : goal.offset_bounds-table-to
offset_bounds-table-to c =
    let here = goal.at.offset_bounds-table-to c in
    record { fits = omega (arith, inside here.After-key_at (yes here.Start) (at_is here.After-field_place-start)) }

pub slice_bounds-fill_piece-end : goal.slice_bounds-fill_piece-end
slice_bounds-fill_piece-end c =
    let here = goal.at.slice_bounds-fill_piece-end c in
    omega (arith, inside here.After-key_at (yes here.Start) (at_is here.After-field_place-start))

pub fill_piece-requires : goal.fill_piece-requires
fill_piece-requires c =
    let here = goal.at.fill_piece-requires c in
    let size = c.face_size-size in (
      omega (arith, c.payload_length-box_from.ensures, c.place_size.ensures, ends here.After-field_place-start (yes here.Start)),
      row_length c.loop-i.table (c.key_at.result * size.result) size.result (omega (arith, inside here.After-key_at (yes here.Start) (at_is here.After-field_place-start))) ∙ size.ensures,
      omega (arith, c.variables-n.ensures, c.requires.0.whole.head.n_small),
    )

pub loop-i-preserved : goal.loop-i-preserved
loop-i-preserved c =
    let p = c.loop-i in
    let w = c.requires.0.whole in
    let n = c.variables-n.ensures in
    let here = goal.at.loop-i-preserved c in
    let y = yes here.Start in
    let e = at_is here.After-field_place-start in
    let from = c.payload_length-box_from.ensures ∙ ap payload_length (c.place_size.ensures ∙ size_is _ c.requires.0.cut_is) in
    let place = place_is _ w _ y c.count_of-i-end.ensures _ _ c.loop-i-test.true e refl c.key_at.ensures (c.face_size-size.ensures ∙ ap face_size n) in
    let named = place_yes_at _ w _ y c.count_of-i-end.ensures _ _ c.loop-i-test.true e in
    table_put _ c.args.file.now p.i p.table _ n c.face_size-size.ensures (omega (arith, e)) from named p.invariant place c.fill_piece.ensures

pub returns : goal.returns
returns c = c.loop-i.invariant ∙ table_end _ _ c.loop-i.i (omega (arith, c.loop-i-test.false, c.count_of-i-end.ensures))
