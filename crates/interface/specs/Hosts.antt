-- Document 01, "Desk and host": the two calls of the host, on bytes. Each is one number, and decide's byte buffer besides, for
-- every input. Both hold words of their own, always long enough for 5, 20 and 21: these are not asked.
use Rattle.std.specs.Prelude.{List, ℕ, zero, suc, ◌+◌, ◌*◌, ℤ, length}
use Rattle.integers.specs.Words.{onto}
use Rattle.plant.specs.declared.Answer.{Answer}
use Rattle.plant.specs.Ask.{◌then◌}
use Rattle.plant.specs.Calls.{Reply, refused, answer_reply, certificate_questions, check_by, analysis, answer_table, bytes_question}
use Rattle.files.specs.ModelFile.{head_words, head_questions, file_words, records_file_questions}
use Rattle.files.specs.TableFile.{table_file, table_file_questions, file_table}

-- ---- the model

-- the words of a model file
unfoldable pub model_of : List ℕ → List ℤ
model_of s = file_words s (head_words s)

-- the questions of a model file without 5: 1 to 4, then 6 to 8 and 46 of the fields, 11 to 19 and 46 of the words
unfoldable pub model_file_questions : List ℕ → ℕ
model_file_questions s = head_questions s then records_file_questions s (head_words s)

-- ---- decide

-- code × 2^32 + k; a refusal is its own number, k 0
abbrev pub packed : Reply → ℕ
packed r = r.code * 4294967296 + r.value

-- the number, and the lent byte buffer
pub record Decided : Type 0 where
  pub number : ℕ
  pub file : List ℕ

-- the buffer begins with the file of the answer's table, the rest unchanged
abbrev pub decided : (m : List ℤ) → Answer → (file : List ℕ) → Decided
decided m a file = record { number = packed (answer_reply a); file = onto (table_file m (answer_table m a)) file }

-- a refusal changes nothing
abbrev pub decide_by : ℕ → (m : List ℤ) (file : List ℕ) (limit : ℕ) → Decided
decide_by zero m file limit = decided m (analysis m limit) file
decide_by (suc k) m file limit = record { number = packed (refused (suc k)); file = file }

-- the model's questions, then 39
unfoldable pub decide_call : (s file : List ℕ) (limit : ℕ) → Decided
decide_call s file limit = decide_by (model_file_questions s then bytes_question (model_of s) (length file)) (model_of s) file limit

-- ---- check

-- of a table file: 35 to 38 and 32, then 33 and 34 of the table that it holds
unfoldable pub certificate_file_questions : (m : List ℤ) (t : List ℕ) → ℕ
certificate_file_questions m t =
    table_file_questions m t
    then certificate_questions m (file_table m t)

unfoldable pub host_check_call : (s t : List ℕ) → ℕ
host_check_call s t = (check_by (model_file_questions s then certificate_file_questions (model_of s) t)).code
