-- A cut never hurts (document 02, T-12): what is kept when a second model is a first with further cuts (`Finer`).
use Rattle.std.specs.Prelude.{◌≡◌, List, ℕ, ◌<◌, ◌≤◌, ℤ}
use Rattle.plant.specs.Box.{FaceIn}
use Rattle.plant.specs.Model.{n#, L#}
use Rattle.plant.specs.Questions.{model_questions}
use Rattle.plant.specs.Pieces.{pieces}
use Rattle.plant.specs.Tables.{table_size, longest_table_file, piece_of, table_after}
use Rattle.plant.specs.Calls.{analyse_call}
use Rattle.plant.specs.Demands.{Accepts, ceiling, answers, Room, NoRunMeets}
use Rattle.finer.specs.Finer.{Finer, undivided, divided}

-- `Accepts`, `answers`, `ceiling`, `Room` and `NoRunMeets` are those of the demands
module _ (second first : List ℤ) where
  pub record CutStaysSafe : Type 0 where
    -- every list of words that the checker accepts for the first, whoever made it, is accepted for the second once it is divided; so
    -- no run of the second meets a forbidden box (its runs are the first's, which know no cuts)
    pub divided_accepted : (t : List ℤ) → Accepts first t → Accepts second (divided second first t)
    pub no_run_meets : (t : List ℤ) → Accepts first t → NoRunMeets second
    -- if the first is safe, under some limit, with any buffers, the second is safe under every limit of at least its own ceiling, and
    -- unknown under no limit at all
    pub stays_safe :
        (limit : ℕ) (table work : List ℤ) → answers first limit table work ≡ 100
        → (limit' : ℕ) (table' work' : List ℤ) → ceiling second ≤ limit' → Room second table' work'
        → answers second limit' table' work' ≡ 100
    pub never_unknown :
        (limit : ℕ) (table work : List ℤ) → answers first limit table work ≡ 100
        → (limit' : ℕ) (table' work' : List ℤ) → answers second limit' table' work' ≡ 101 → ⊥
    -- and the table buffer as the call leaves it for the first, divided, is accepted for the second
    pub table_accepted :
        (limit : ℕ) (table work : List ℤ) → answers first limit table work ≡ 100
        → Accepts second (divided second first (analyse_call first limit table work).table)
    -- after as many passes each piece of the second's table lies inside the piece of the first's to which it belongs: no table of the
    -- second is coarser; but the second may take more passes, or fewer
    pub tables_inside :
        (k l q : ℕ) → l < L# second → q < pieces second l
        → FaceIn (n# second) (piece_of second (table_after second k) l q) (piece_of first (table_after first k) l (undivided second first l q))
    -- a cut adds pieces, so limits and buffers are the second's own: its ceiling, the words of its table and its number in 39 are the
    -- first's, or larger
    pub ceiling_grows : ceiling first ≤ ceiling second
    pub words_grow : table_size first ≤ table_size second
    pub bytes_grow : longest_table_file first ≤ longest_table_file second

-- of any two models, lists of words that pass the model's questions, of which the second is the first with further cuts
abbrev pub FinerStaysSafe : Type 0
FinerStaysSafe =
    (first second : List ℤ) → model_questions first ≡ 0 → model_questions second ≡ 0 → Finer second first → CutStaysSafe second first
