-- Document 02, T-13, "A narrower plant stays safe": what it promises of two models, the second narrower than the first (`Narrower`).
use Rattle.std.specs.Prelude.{◌≡◌, List, ℕ, ◌<◌, ◌≤◌, ℤ}
use Rattle.plant.specs.Box.{FaceIn}
use Rattle.plant.specs.Model.{n#, L#}
use Rattle.plant.specs.Questions.{model_questions}
use Rattle.plant.specs.Pieces.{pieces}
use Rattle.plant.specs.Tables.{table_size, longest_table_file, piece_of, table_after}
use Rattle.plant.specs.Calls.{analyse_call}
use Rattle.plant.specs.Demands.{Accepts, ceiling, answers, Room, NoRunMeets}
use Rattle.plant.specs.Narrower.{Narrower}

-- `Accepts`, `answers`, `ceiling`, `Room` and `NoRunMeets` are those of the demands
module _ (second first : List ℤ) where
  pub record StaysSafe : Type 0 where
    -- every list of words that the checker accepts for the first, whoever made it, it accepts for the second; so no run of the second
    -- meets a forbidden box
    pub stays_accepted : (t : List ℤ) → Accepts first t → Accepts second t
    pub no_run_meets : (t : List ℤ) → Accepts first t → NoRunMeets second
    -- "If the first is safe", under some limit, with any buffers, "the second under its own ceiling is safe", under every limit of at
    -- least this; under no limit at all is it unknown
    pub stays_safe :
        (limit : ℕ) (table work : List ℤ) → answers first limit table work ≡ 100
        → (limit' : ℕ) (table' work' : List ℤ) → ceiling second ≤ limit' → Room second table' work'
        → answers second limit' table' work' ≡ 100
    pub never_unknown :
        (limit : ℕ) (table work : List ℤ) → answers first limit table work ≡ 100
        → (limit' : ℕ) (table' work' : List ℤ) → answers second limit' table' work' ≡ 101 → ⊥
    -- "and the first's table is accepted for it": the table buffer as the call leaves it, whatever words stand behind the table
    pub table_accepted :
        (limit : ℕ) (table work : List ℤ) → answers first limit table work ≡ 100
        → Accepts second (analyse_call first limit table work).table
    -- after as many passes each piece of the second's table lies inside the first's; but the second may take more passes, or fewer
    pub tables_inside :
        (k l q : ℕ) → l < L# second → q < pieces second l
        → FaceIn (n# second) (piece_of second (table_after second k) l q) (piece_of first (table_after first k) l q)
    -- the two have one ceiling, tables of one length and one number in 39: a limit of at least the first's ceiling is one for the
    -- second, and buffers that are long enough for the first are so for the second
    pub same_ceiling : ceiling second ≡ ceiling first
    pub same_words : table_size second ≡ table_size first
    pub same_bytes : longest_table_file second ≡ longest_table_file first

-- of any two models, lists of words that pass the model's questions, of which the second is narrower than the first
abbrev pub NarrowerStaysSafe : Type 0
NarrowerStaysSafe =
    (first second : List ℤ) → model_questions first ≡ 0 → model_questions second ≡ 0 → Narrower second first → StaysSafe second first
