-- The questions of an analysis: what each number and a yes tell, and the call by their answer.
use mathlib.Core.Path.{◌≡◌, refl, sym, ap, ◌∙◌}
use mathlib.Core.Bool.{Bool}
use mathlib.Core.List.{List}
use Prim.Native.Nat.{ℕ, zero, suc, ◌<◌, ◌≤◌}
use native.Mathlib.Omega.{arith}
use lib.Dec.{leb, le→leb, leb→le}
use lib.IntN.{ℤ}
use lib.ListN.{length}
use borrow.Author.Tests.{lt-leb}
use Rattle.std.specs.Prelude.{Err}
use Rattle.plant.specs.Ask.{ask, ◌then◌}
use Rattle.plant.specs.Questions.{model_questions}
use Rattle.plant.specs.Tables.{table_size}
use Rattle.plant.specs.Calls.{analysis, analysis_questions, Analysed, answered, analyse_by, analyse_call}
use Rattle.plant.proofs.Asks.{go, halt, ask_intro, ask_yes, then_intro, then_both}

-- ---- 20 and 21: a list that is long enough, or not

pub long : (m t : List ℤ) (k : ℕ) → table_size m ≤ length t → ask (leb (table_size m) (length t)) k ≡ 0
long m t k h = ask_intro (leb (table_size m) (length t)) k (le→leb (table_size m) (length t) h)

pub short : (m t : List ℤ) (k : ℕ) → length t < table_size m → k ≡ ask (leb (table_size m) (length t)) k
short m t k h = ap (λ (b : Bool). ask b k) (sym (lt-leb _ _ h))

-- ---- the questions of an analysis

module _ (m table work : List ℤ) where
  pub asks_model : (q : ℕ) → q ≡ model_questions m → (q ≡ 0 → ⊥) → q ≡ analysis_questions m table work
  unfolding analysis_questions
  asks_model q e n = halt _ e n

  module _ (asks : model_questions m ≡ 0) where
    pub short_table : length table < table_size m → 20 ≡ analysis_questions m table work
    unfolding analysis_questions
    short_table h = go refl asks (halt _ (short m table 20 h) (λ e. omega arith))

    module _ (table_room : table_size m ≤ length table) where
      pub short_work : length work < table_size m → 21 ≡ analysis_questions m table work
      unfolding analysis_questions
      short_work h = go refl asks (go refl (long m table 20 table_room) (short m work 21 h))

      pub all_yes : table_size m ≤ length work → 0 ≡ analysis_questions m table work
      unfolding analysis_questions
      all_yes h = sym (then_intro asks (then_intro (long m table 20 table_room) (long m work 21 h)))

  -- what a yes to all of them tells
  module _ (yes : analysis_questions m table work ≡ 0) where
    rest : (model_questions m ≡ 0) × ((ask (leb (table_size m) (length table)) 20 then ask (leb (table_size m) (length work)) 21) ≡ 0)
    unfolding analysis_questions
    rest = then_both _ _ yes

    pub model_asked : model_questions m ≡ 0
    model_asked = rest.0

    pub table_room : table_size m ≤ length table
    table_room = leb→le _ _ (ask_yes (leb (table_size m) (length table)) 20 (omega arith) (then_both _ _ rest.1).0)

    pub work_room : table_size m ≤ length work
    work_room = leb→le _ _ (ask_yes (leb (table_size m) (length work)) 21 (omega arith) (then_both _ _ rest.1).1)

-- ---- the call

module _ (m : List ℤ) (limit : ℕ) (table work : List ℤ) where
  unmoved_by : (q : ℕ) → (q ≡ 0 → ⊥) → ◌≡◌ {A = Analysed} (record { answer = Err q; table = table; work = work }) (analyse_by q m limit table work)
  unmoved_by zero n = absurd (n refl)
  unmoved_by (suc q) n = refl

  module _ (q : ℕ) (e : q ≡ analysis_questions m table work) where
    -- a refusal changes nothing
    pub analyse_refused : (q ≡ 0 → ⊥) → ◌≡◌ {A = Analysed} (record { answer = Err q; table = table; work = work }) (analyse_call m limit table work)
    unfolding analyse_call
    analyse_refused n = unmoved_by q n ∙ ap (λ (x : ℕ). analyse_by x m limit table work) e

    pub analyse_answered : (x : Analysed) → q ≡ 0 → x ≡ answered m (analysis m limit) table work → x ≡ analyse_call m limit table work
    unfolding analyse_call
    analyse_answered x z is = is ∙ ap (λ (k : ℕ). analyse_by k m limit table work) (sym z ∙ e)
