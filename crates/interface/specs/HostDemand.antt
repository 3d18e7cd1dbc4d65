-- The mission's demands for bytes: what the numbers of decide and check tell a C program (include/qiifaduleh.h).
use Rattle.std.specs.Prelude.{◌≡◌, ◌↔◌, ◌⊎◌, List, ℕ, suc, ◌/◌, ◌%◌, ◌<◌, ◌≤◌, ℤ, length, take}
use Rattle.integers.specs.Words.{AreBytes, onto}
use Rattle.plant.specs.Ask.{◌then◌}
use Rattle.plant.specs.Model.{model_size}
use Rattle.plant.specs.Questions.{model_questions}
use Rattle.plant.specs.Tables.{longest_table_file, table_after}
use Rattle.plant.specs.Calls.{answer_reply, analysis, bytes_question}
use Rattle.plant.specs.Demands.{Accepts, ceiling, NoRunMeets}
use Rattle.files.specs.ModelFile.{model_file}
use Rattle.files.specs.ModelFilesExact.{IsModelFile}
use Rattle.files.specs.TableFile.{table_file, file_length, file_table}
use Rattle.orders.specs.Quotes.{quoted}
use Rattle.interface.specs.Hosts.{model_of, model_file_questions, decide_call, certificate_file_questions, host_check_call}

-- some bytes are accepted as a table file
pub record AcceptableFile (s : List ℕ) : Type 0 where
  pub table : List ℕ
  pub are_bytes : AreBytes table
  pub accepts : host_check_call s table ≡ 100

-- ---- a call of decide

module _ (s file : List ℕ) (limit : ℕ) where
  -- the two parts of its number (qii_code and qii_passes)
  abbrev pub code : ℕ
  code = (decide_call s file limit).number / 4294967296

  abbrev pub passes : ℕ
  passes = (decide_call s file limit).number % 4294967296

  -- the table file that stands in its buffer afterwards; its own bytes tell its length (qii_table_len)
  abbrev pub answer_file : List ℕ
  answer_file = take (file_length (decide_call s file limit).file) (decide_call s file limit).file

  pub record Decides : Type 0 where
    -- first: a model file that passes, with the room that 39 asks for, is answered safe, unknown or unfinished
    pub answered : model_file_questions s ≡ 0 → longest_table_file (model_of s) ≤ length file → (code ≡ 100) ⊎ ((code ≡ 101) ⊎ (code ≡ 102))
    -- only such a file is answered; every other gets the number of the first question that it fails
    pub only_passing : 100 ≤ code → (model_file_questions s ≡ 0) × (longest_table_file (model_of s) ≤ length file)
    pub refused_by : (q : ℕ) → (model_file_questions s then bytes_question (model_of s) (length file)) ≡ suc q → code ≡ suc q
    -- a refusal has no passes, and leaves the buffer as it was
    pub refused : code < 100 → (passes ≡ 0) × ((decide_call s file limit).file ≡ file)
    -- second: an answer is the analysis's, of at most limit passes; the buffer begins with the file of the table after them
    pub is_analysis : 100 ≤ code → record { code = code; value = passes } ≡ answer_reply (analysis (model_of s) limit)
    pub within_limit : passes ≤ limit
    pub is_file : 100 ≤ code → answer_file ≡ table_file (model_of s) (table_after (model_of s) passes)
    pub written : 100 ≤ code → (decide_call s file limit).file ≡ onto answer_file file
    -- third: safe, so no run meets a forbidden box; check accepts the file that is written
    pub safe_no_run_meets : code ≡ 100 → NoRunMeets (model_of s)
    pub safe_accepted : code ≡ 100 → host_check_call s answer_file ≡ 100
    -- unknown: check refuses every table file
    pub unknown_refused : code ≡ 101 → (t : List ℕ) → host_check_call s t ≡ 100 → ⊥
    -- under a limit of at least the ceiling: never unfinished, and safe exactly if some table file is accepted
    pub never_unfinished : ceiling (model_of s) ≤ limit → code ≡ 102 → ⊥
    pub safe_exactly :
        ceiling (model_of s) ≤ limit → model_file_questions s ≡ 0 → longest_table_file (model_of s) ≤ length file
        → (code ≡ 100) ↔ AcceptableFile s
    -- and otherwise unknown
    pub otherwise_unknown :
        ceiling (model_of s) ≤ limit → model_file_questions s ≡ 0 → longest_table_file (model_of s) ≤ length file
        → (code ≡ 101) ↔ (AcceptableFile s → ⊥)
    -- no call exceeds what its model is quoted (document 02, T-07), under whatever limit: the passes are at most the ceiling, the
    -- table's words are the words, the file is no longer than the bytes; and a buffer of as many bytes is enough
    pub within_ceiling : passes ≤ (quoted (model_of s)).ceiling
    pub table_words : 100 ≤ code → length (table_after (model_of s) passes) ≡ (quoted (model_of s)).words
    pub within_bytes : 100 ≤ code → length answer_file ≤ (quoted (model_of s)).bytes
    pub enough_bytes : model_file_questions s ≡ 0 → (quoted (model_of s)).bytes ≤ length file → 100 ≤ code

-- ---- both calls, for all bytes

pub record HostDemand : Type 0 where
  -- the file of every model that passes its questions passes, and is taken for that model
  pub model_passes : (m : List ℤ) → model_questions m ≡ 0 → (model_file_questions (model_file m) ≡ 0) × (model_of (model_file m) ≡ take (model_size m) m)
  -- and bytes that pass are the file of the model that they are taken for
  pub is_model : (s : List ℕ) → AreBytes s → model_file_questions s ≡ 0 → IsModelFile s (model_of s)
  -- no model file is longer than 29,907 bytes, and 96,775 bytes are room for every table file
  pub longest_model : (s : List ℕ) → model_file_questions s ≡ 0 → length s ≤ 29907
  pub longest_table : (s : List ℕ) → model_file_questions s ≡ 0 → longest_table_file (model_of s) ≤ 96775
  -- whatever table file check accepts, no run of the model meets a forbidden box
  pub no_run_meets : (s t : List ℕ) → host_check_call s t ≡ 100 → NoRunMeets (model_of s)
  -- check accepts only model files, and only tables that the checker accepts
  pub accepted_table : (s t : List ℕ) → host_check_call s t ≡ 100 → (model_file_questions s ≡ 0) × Accepts (model_of s) (file_table (model_of s) t)
  -- and the file of every table that the checker accepts, whoever made it
  pub table_accepted : (s : List ℕ) (t : List ℤ) → model_file_questions s ≡ 0 → Accepts (model_of s) t → host_check_call s (table_file (model_of s) t) ≡ 100
  -- everything else gets the number of the first question that it fails
  pub check_refused_by : (s t : List ℕ) (q : ℕ) → (model_file_questions s then certificate_file_questions (model_of s) t) ≡ suc q → host_check_call s t ≡ suc q
  -- every call of decide, under every limit of 32 bits
  pub decides : (s file : List ℕ) (limit : ℕ) → limit < 4294967296 → Decides s file limit
