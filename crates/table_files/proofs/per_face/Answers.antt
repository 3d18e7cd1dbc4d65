-- In a model without cuts a face has one piece.
use mathlib.Core.Path.{sym, ◌∙◌}
use Rattle.plant.proofs.Pieces.{one_piece}
use Rattle.table_files.proofs.per_face.Goals as goal

pub returns-else-any_cut : goal.returns-else-any_cut
returns-else-any_cut c = sym (one_piece _ _ (sym c.requires.1 ∙ c.if-any_cut.false) c.requires.2)
