-- What the code on tables asks of the words that it is lent.
use Rattle.std.specs.Prelude.{◌≡◌, List, ◌≤◌, ℤ, length}
use Rattle.plant.specs.Questions.{model_questions}
use Rattle.plant.specs.Tables.{table_size}

-- a model that passes its questions, and room for a table of it
pub record TableReady (m t : List ℤ) : Type 0 where
  pub passes : model_questions m ≡ 0
  pub room : table_size m ≤ length t
