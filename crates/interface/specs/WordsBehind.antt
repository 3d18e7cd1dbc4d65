-- Document 01, "Checker": "Words past the model's or the table's length are not part of either." It is said here of every call on words,
-- for every list of words m, refused ones too: without these words the call gives the same number and values, and leaves every lent
-- word and byte the same.
use Rattle.std.specs.Prelude.{◌≡◌, List, ℕ, ℤ, take}
use Rattle.plant.specs.Model.{model_size}
use Rattle.plant.specs.Questions.{model_questions}
use Rattle.plant.specs.Tables.{table_size}
use Rattle.plant.specs.Calls.{ceiling_call, check_call, analyse_call}
use Rattle.files.specs.ModelFile.{write_model_call}
use Rattle.files.specs.TableFile.{read_table_call, write_table_call}
use Rattle.orders.specs.declared.Desk.{Desk}
use Rattle.orders.specs.Desks.{desk_call}
use Rattle.orders.specs.Quotes.{quote_call}

module _ (m : List ℤ) where
  -- the model alone; and of a list of words t the table alone. A shorter list stays as it is
  abbrev pub model_alone : List ℤ
  model_alone = take (model_size m) m

  abbrev pub table_alone : List ℤ → List ℤ
  table_alone t = take (table_size m) t

  pub record WordsBehind : Type 0 where
    -- from a model: its questions, the ceiling, the quote, its file
    pub questions : model_questions model_alone ≡ model_questions m
    pub ceiling : ceiling_call model_alone ≡ ceiling_call m
    pub quote : quote_call model_alone ≡ quote_call m
    pub write_model : (file : List ℕ) → write_model_call model_alone file ≡ write_model_call m file
    -- from a model and a table, without the words behind either; every list t, one that is too short as well
    pub check : (t : List ℤ) → check_call model_alone (table_alone t) ≡ check_call m t
    pub write_table : (t : List ℤ) (file : List ℕ) → write_table_call model_alone (table_alone t) file ≡ write_table_call m t file
    -- from a model, with a table that is lent to be filled
    pub analyse : (limit : ℕ) (table work : List ℤ) → analyse_call model_alone limit table work ≡ analyse_call m limit table work
    pub desk : (d : Desk) (limit : ℕ) (table work : List ℤ) → desk_call d model_alone limit table work ≡ desk_call d m limit table work
    pub read_table : (s : List ℕ) (table : List ℤ) → read_table_call model_alone s table ≡ read_table_call m s table
