-- The fields passed got a yes, the position is that of the next field, and the least key is one more than the key before.
use mathlib.Core.Path.{◌≡◌}
use Rattle.plant.specs.Ask.{first}
use Rattle.files.specs.TableFile.{piece_field_at, least_key, piece_questions}
use Rattle.table_files.proofs.reading.pieces_questions.Given as goal

abbrev pub invariant-loop : goal.invariant-loop
invariant-loop l = record {
  yes : first l.counter (piece_questions l.model l.file) ≡ 0;
  place : l.at ≡ piece_field_at l.model l.counter;
  key : l.least ≡ least_key l.model l.file l.counter;
}
