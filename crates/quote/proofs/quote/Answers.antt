-- A model that passes its questions is whole.
use mathlib.Core.Path.{sym}
use Rattle.plant.proofs.Passing.{whole}
use Rattle.quote.proofs.quote.Goals as goal

pub table_size-words-requires : goal.table_size-words-requires
table_size-words-requires c = whole _ (sym c.in_ok-questions.ensures)

pub longest_file-bytes-requires : goal.longest_file-bytes-requires
longest_file-bytes-requires c = whole _ (sym c.in_ok-questions.ensures)
