-- Each field in turn: a refusal by 36 or 37 ends the run of questions, two yeses go on.
use mathlib.Core.Path.{◌≡◌, refl, sym, ap, ap₂, ◌∙◌}
use Prim.Native.Nat.{ℕ, ◌+◌}
use native.Mathlib.Omega.{arith}
use borrow.Author.Rules.{rules}
use lib.Dec.{T}
use Rattle.std.specs.Prelude.{Some, None}
use Rattle.files.specs.Bytes.{words_at}
use Rattle.files.specs.Fields.{payload_length, field_at, is_field}
use Rattle.files.specs.declared.Field.{Field}
use Rattle.files.proofs.Fields.{due}
use Rattle.plant.specs.Ask.{ask}
use Rattle.plant.specs.Refusals.{number}
use Rattle.plant.specs.declared.Refusal.TheVariants.{PieceOrder}
use Rattle.plant.proofs.Asks.{first_none, ask_yes}
use Rattle.plant.proofs.Refusing.{refused_at, passed_more}
use Rattle.files.specs.TableFile.{piece_field_size, piece_question, piece_questions}
use Rattle.table_files.specs.TableRoom.{next_least}
use Rattle.table_files.proofs.TableWriting.{field_size_is}
use Rattle.table_files.proofs.TableReading.{field_refused, field_there, piece_answered, place_next, least_none, least_some, least_next}
use Rattle.table_files.proofs.reading.pieces_questions.Goals as goal
use Rattle.table_files.proofs.reading.pieces_questions.Goals.{In-loop, After-is_field-whole}

-- the question of the field, by the position and the least key
asked_here : (c : In-loop) → let a = c.args in piece_question a.model.now a.file.now c.loop.at c.loop.least ≡ piece_questions a.model.now a.file.now c.loop.counter
asked_here c = ap₂ (piece_question c.args.model.now c.args.file.now) c.loop.invariant.place c.loop.invariant.key

len_is : (c : After-is_field-whole) → c.payload_length-len.result ≡ payload_length (piece_field_size c.args.model.now)
len_is c = c.payload_length-len.ensures ∙ ap payload_length (field_size_is _ c.requires.whole c.requires.cut_is c.variables.ensures c.field_size.ensures)

tested : (c : After-is_field-whole) → c.is_field-whole.result ≡ is_field (field_at c.args.file.now c.loop.at) 5 (payload_length (piece_field_size c.args.model.now))
tested c = c.is_field-whole.ensures ∙ ap₂ (λ (f : Field) (len : ℕ). is_field f 5 len) c.next_field.ensures (len_is c)

is_due : (c : After-is_field-whole) → 0 ≡ ask c.is_field-whole.result 36 → T (is_field (field_at c.args.file.now c.loop.at) 5 (payload_length (piece_field_size c.args.model.now)))
is_due c e = rw (tested c) at (ask_yes c.is_field-whole.result 36 (omega arith) (sym e))

pub loop-init : goal.loop-init
loop-init c = record { yes = first_none _; place = omega (arith, c.pieces_from-at.ensures); key = refl }

pub returns-in_err-ask : goal.returns-in_err-ask
returns-in_err-ask c =
    let here = goal.at.returns-in_err-ask c in
    let refused = field_refused c.args.model.now c.args.file.now c.loop.at c.loop.least _ (rw (tested here.After-is_field-whole) at c.in_err-ask.ensures) ∙ asked_here here.In-loop in
    search (rules, refused_at)

pub overflow_add-start : goal.overflow_add-start
overflow_add-start c = record { fits = omega (arith, (due _ _ _ _ (is_due (goal.at.overflow_add-start c).After-is_field-whole c.in_ok-ask.ensures)).there, c.well_formed) }

pub next_least-next-requires : goal.next_least-next-requires
next_least-next-requires c = (c.requires, field_there c.args.model.now c.args.file.now c.loop.at c.loop.least (is_due (goal.at.next_least-next-requires c).After-is_field-whole c.in_ok-ask.ensures) refl c.requires.cut_is)

pub returns-in_err-least : goal.returns-in_err-least
returns-in_err-least c =
    let a = c.args in
    let here = goal.at.returns-in_err-least c in
    let none : None ≡ next_least a.model.now (words_at a.file.now (c.loop.at + 3) (piece_field_size a.model.now)) c.loop.least = search rules in
    let answered = piece_answered a.model.now a.file.now c.loop.at c.loop.least (is_due here.After-is_field-whole c.in_ok-ask.ensures) refl (least_none _ _ _ none) in
    let order : c.in_err-least.field-0.0 ≡ PieceOrder = search rules in
    let refused = ap number order ∙ sym answered ∙ asked_here here.In-loop in
    search (rules, refused_at)

pub overflow_add-at : goal.overflow_add-at
overflow_add-at c =
    let here = (goal.at.overflow_add-at c).After-is_field-whole in
    record { fits = omega (arith, (due _ _ _ _ (is_due here c.in_ok-ask.ensures)).there, len_is here, c.well_formed) }

pub loop-preserved : goal.loop-preserved
loop-preserved c =
    let a = c.args in
    let p = c.loop in
    let here = goal.at.loop-preserved c in
    let some : Some c.in_ok-least.least ≡ next_least a.model.now (words_at a.file.now (p.at + 3) (piece_field_size a.model.now)) p.least = search rules in
    let k = least_some _ _ _ some in
    let answered = piece_answered a.model.now a.file.now p.at p.least (is_due here.After-is_field-whole c.in_ok-ask.ensures) refl k.0 in
    record {
      yes = passed_more _ p.counter p.invariant.yes (sym answered ∙ asked_here here.In-loop);
      place = place_next a.model.now a.file.now p.counter p.invariant.place (omega (arith, len_is here.After-is_field-whole));
      key = least_next a.model.now a.file.now p.counter p.invariant.place refl k.1;
    }
