-- A model's file is read exactly if it is the file of words that pass the questions, and then gives those words.
use Rattle.std.specs.Prelude.{◌≡◌, List, ℕ, suc, ◌≤◌, ℤ, pos, length, take, replicate, Err, Ok}
use Rattle.integers.specs.Words.{AreBytes, onto}
use Rattle.plant.specs.Ask.{◌then◌}
use Rattle.plant.specs.Model.{model_size}
use Rattle.plant.specs.Questions.{model_questions}
use Rattle.plant.specs.Calls.{read_reply, words_read}
use Rattle.files.specs.ModelFile.{model_file, head_words, head_questions, buffer_question, records_file_questions, read_model_call}

-- the bytes s are the file of the words m, which pass the questions and are a model's and no more
pub record IsModelFile (s : List ℕ) (m : List ℤ) : Type 0 where
  pub is_file : s ≡ model_file m
  pub passes : model_questions m ≡ 0
  pub no_more : length m ≡ model_size m

pub record ModelFilesExact : Type 0 where
  -- a read that fails one of 1 to 5 gets the number of the first and changes nothing; one that fails 6 to 8, 11 to 19 or 46 gets its
  -- number, and the whole buffer is zero
  pub refused_by : (s : List ℕ) (words : List ℤ) (q : ℕ) → (head_questions s then buffer_question (head_words s) (length words)) ≡ suc q
      → read_model_call s words ≡ record { count = Err (suc q); words = words }
  pub zeroed_by : (s : List ℕ) (words : List ℤ) (q : ℕ) → (head_questions s then buffer_question (head_words s) (length words)) ≡ 0
      → records_file_questions s (head_words s) ≡ suc q → read_model_call s words ≡ record { count = Err (suc q); words = replicate (length words) (pos 0) }
  -- the file of words that pass is read into every buffer that is long enough, and gives them
  pub file_reads : (m words : List ℤ) → model_questions m ≡ 0 → model_size m ≤ length words
      → read_model_call (model_file m) words ≡ record { count = Ok (model_size m); words = onto (take (model_size m) m) words }
  -- bytes that are read are the file of the words that they give
  pub read_is_file : (s : List ℕ) (words : List ℤ) → AreBytes s → (read_reply (read_model_call s words)).code ≡ 100 → IsModelFile s (words_read (read_model_call s words))
