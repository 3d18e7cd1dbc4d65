-- A cut never hurts, for bytes: what decide and check promise of two model files of which the second's model is the first's with further
-- cuts.
use Rattle.std.specs.Prelude.{◌≡◌, List, ℕ, ◌<◌, ◌≤◌, length}
use Rattle.plant.specs.Tables.{longest_table_file}
use Rattle.plant.specs.Demands.{ceiling, NoRunMeets}
use Rattle.files.specs.TableFile.{table_file, file_table}
use Rattle.interface.specs.Hosts.{model_of, model_file_questions, host_check_call}
use Rattle.interface.specs.HostDemand.{code, answer_file}
use Rattle.finer.specs.Finer.{Finer, divided}

-- the table file of the second model whose table is that of a table file t of the first, divided
unfoldable pub divided_file : (second first t : List ℕ) → List ℕ
divided_file second first t = table_file (model_of second) (divided (model_of second) (model_of first) (file_table (model_of first) t))

pub record CutFilesStaySafe (second first : List ℕ) : Type 0 where
  -- every table file that check accepts with the first model file, whoever made it, it accepts with the second once its table is
  -- divided; so no run of the second's model meets a forbidden box
  pub divided_accepted : (t : List ℕ) → host_check_call first t ≡ 100 → host_check_call second (divided_file second first t) ≡ 100
  pub no_run_meets : (t : List ℕ) → host_check_call first t ≡ 100 → NoRunMeets (model_of second)
  -- if decide answers safe for the first, under some limit, with any buffer, it answers safe for the second, under every limit of at
  -- least the second's ceiling, with every buffer that 39 takes; under no limit at all unknown (a ceiling above 4,294,967,295 is out of
  -- decide's reach)
  pub stays_safe :
      (file : List ℕ) (limit : ℕ) → limit < 4294967296 → code first file limit ≡ 100
      → (file' : List ℕ) (limit' : ℕ) → limit' < 4294967296
      → ceiling (model_of second) ≤ limit' → longest_table_file (model_of second) ≤ length file'
      → code second file' limit' ≡ 100
  pub never_unknown :
      (file : List ℕ) (limit : ℕ) → limit < 4294967296 → code first file limit ≡ 100
      → (file' : List ℕ) (limit' : ℕ) → limit' < 4294967296 → code second file' limit' ≡ 101 → ⊥
  -- and check accepts for the second the table file that decide left for the first, its table divided
  pub table_accepted :
      (file : List ℕ) (limit : ℕ) → limit < 4294967296 → code first file limit ≡ 100
      → host_check_call second (divided_file second first (answer_file first file limit)) ≡ 100

-- of any two model files that pass, the second's model the first's with further cuts
abbrev pub FinerFilesStaySafe : Type 0
FinerFilesStaySafe =
    (first second : List ℕ) → model_file_questions first ≡ 0 → model_file_questions second ≡ 0 → Finer (model_of second) (model_of first)
    → CutFilesStaySafe second first
