-- What a pass asks of a model and a table: that they passed their questions.
use Rattle.std.specs.Prelude.{◌≡◌, true, List, ℤ}
use Rattle.plant.specs.Tables.{table_ok}
use Rattle.passes.specs.Ready.{TableReady}

-- a model that passes its questions, and a table of it that passes 32
pub record Checked (m t : List ℤ) : Type 0 where
  pub ready : TableReady m t
  pub valid : table_ok m t ≡ true
