-- The count, then the fields in turn and the end of the file.
use mathlib.Core.Path.{sym, ap, ap₂, ◌∙◌}
use Prim.Native.Nat.{ℕ}
use native.Mathlib.Omega.{arith}
use borrow.Author.Rules.{rules}
use lib.Dec.{eqb}
use lib.ListN.{length}
use Rattle.files.specs.Fields.{field_place}
use Rattle.plant.specs.Ask.{ask}
use Rattle.plant.proofs.Refusing.{refused_first, passed_first}
use Rattle.files.specs.TableFile.{piece_field_at, fields_questions}
use Rattle.table_files.proofs.TableWriting.{field_size_is, size_few}
use Rattle.table_files.proofs.TableReading.{counted_at, counted_few}
use Rattle.table_files.proofs.reading.fields_questions.Goals as goal

pub returns-in_err-count_question : goal.returns-in_err-count_question
unfolding fields_questions
returns-in_err-count_question c = search (rules, refused_first)

pub count_of-count-requires : goal.count_of-count-requires
count_of-count-requires c = counted_at c.args.model.now _ (sym c.in_ok-count_question.ensures)

pub returns-in_err-pieces_questions : goal.returns-in_err-pieces_questions
unfolding fields_questions
returns-in_err-pieces_questions c =
    let refused = rw c.count_of-count.ensures at c.in_err-pieces_questions.ensures in
    search (rules, refused_first, passed_first)

pub field_place-end-requires : goal.field_place-end-requires
field_place-end-requires c = (
  omega (arith, c.pieces_from.ensures),
  omega (arith, size_few _ c.requires.whole c.requires.cut_is c.variables.ensures c.field_size-size.ensures),
  counted_few c.args.model.now _ (sym c.in_ok-count_question.ensures) c.requires.whole c.count_of-count.ensures,
)

pub returns : goal.returns
unfolding fields_questions
returns c =
    let size = field_size_is _ c.requires.whole c.requires.cut_is c.variables.ensures c.field_size-size.ensures in
    let end = c.field_place-end.ensures ∙ ap₂ (λ (from w : ℕ). field_place from w c.count_of-count.result) c.pieces_from.ensures size in
    let passed = rw c.count_of-count.ensures at c.in_ok-pieces_questions.ensures in
    passed_first c.in_ok-count_question.ensures (passed_first passed (c.ask.ensures ∙ ap (λ (k : ℕ). ask (eqb (length c.args.file.now) k) 38) (end ∙ ap (piece_field_at c.args.model.now) c.count_of-count.ensures)))
