-- What the questions and the passes ask of the words that they are lent.
use Rattle.std.specs.Prelude.{◌≡◌, List, ℤ, length}
use Rattle.plant.specs.Questions.{model_questions}
use Rattle.plant.specs.Tables.{table_size}

-- a model that passes its questions, and words of exactly a table's length
pub record Sized (m t : List ℤ) : Type 0 where
  pub passes : model_questions m ≡ 0
  pub size : length t ≡ table_size m
