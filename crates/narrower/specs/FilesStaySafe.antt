-- Document 02, T-13, for bytes: what decide and check promise of two model files of which the second's model is narrower.
use Rattle.std.specs.Prelude.{◌≡◌, List, ℕ, ◌<◌, ◌≤◌, length}
use Rattle.plant.specs.Tables.{longest_table_file}
use Rattle.plant.specs.Demands.{ceiling, NoRunMeets}
use Rattle.plant.specs.Narrower.{Narrower}
use Rattle.interface.specs.Hosts.{model_of, model_file_questions, host_check_call}
use Rattle.interface.specs.HostDemand.{code, answer_file}

pub record FilesStaySafe (second first : List ℕ) : Type 0 where
  -- every table file that check accepts with the first model file, whoever made it, it accepts with the second; so no run of the
  -- second's model meets a forbidden box
  pub stays_accepted : (t : List ℕ) → host_check_call first t ≡ 100 → host_check_call second t ≡ 100
  pub no_run_meets : (t : List ℕ) → host_check_call first t ≡ 100 → NoRunMeets (model_of second)
  -- if decide answers safe for the first, under some limit, with any buffer, it answers safe for the second, under every limit of at
  -- least the second's ceiling, with every buffer that 39 takes; under no limit at all unknown (a ceiling above 4,294,967,295 is out of
  -- decide's reach)
  pub stays_safe :
      (file : List ℕ) (limit : ℕ) → limit < 4294967296 → code first file limit ≡ 100
      → (file' : List ℕ) (limit' : ℕ) → limit' < 4294967296
      → ceiling (model_of second) ≤ limit' → longest_table_file (model_of second) ≤ length file'
      → code second file' limit' ≡ 100
  pub never_unknown :
      (file : List ℕ) (limit : ℕ) → limit < 4294967296 → code first file limit ≡ 100
      → (file' : List ℕ) (limit' : ℕ) → limit' < 4294967296 → code second file' limit' ≡ 101 → ⊥
  -- and check accepts for the second the table file that decide left for the first
  pub table_accepted :
      (file : List ℕ) (limit : ℕ) → limit < 4294967296 → code first file limit ≡ 100
      → host_check_call second (answer_file first file limit) ≡ 100

-- of any two model files that pass, the second's model narrower than the first's (that the two have one ceiling and one number in 39 is
-- said of the models, in `StaysSafe`)
abbrev pub NarrowerFilesStaySafe : Type 0
NarrowerFilesStaySafe =
    (first second : List ℕ) → model_file_questions first ≡ 0 → model_file_questions second ≡ 0 → Narrower (model_of second) (model_of first)
    → FilesStaySafe second first
