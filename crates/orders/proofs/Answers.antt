-- What every call at the desk keeps to: it is the analysis where the counters can take the limit, an answer moves them and a refusal
-- does not, its passes are within the limit, and 22 keeps the counters from running over.
use Rattle.std.specs.Prelude.{Err}
use mathlib.Core.Path.{◌≡◌, refl, sym, ap, subst}
use mathlib.Core.Bool.{Bool, true, false, cond}
use mathlib.Core.Logic.{◌⊎◌}
use mathlib.Core.List.{List, [], ◌∷◌}
use Prim.Native.Nat.{ℕ, zero, suc, ◌+◌, ◌≤◌}
use native.Mathlib.Nat.{le_trans}
use native.Mathlib.Omega.{arith}
use borrow.Author.Tests.{le-leb, lt-leb}
use lib.Dec.{T, leb, le→leb}
use lib.IntN.{ℤ}
use lib.ListN.{length}
use Rattle.integers.proofs.Tests.{is_true}
use Rattle.plant.specs.Ask.{ask, ◌then◌}
use Rattle.plant.specs.Tables.{table_size}
use Rattle.plant.specs.Questions.{model_questions}
use Rattle.plant.specs.Calls.{Analysed, answer_reply, reply_of, analysis, analysis_questions, analyse_by, analyse_call}
use Rattle.plant.specs.Demands.{Room}
use Rattle.plant.proofs.Asks.{ask_intro, ask_le, ask_yes, or_right, then_intro, then_le}
use Rattle.plant.proofs.Numbers.{model_le}
use Rattle.plant.proofs.Demands.{first_demand}
use Rattle.plant.proofs.Search as search
use Rattle.orders.specs.declared.Desk.{Desk}
use Rattle.orders.specs.Desks.{counters_ok, desk_questions, desk_by, desk_call, Holds, is_answer, DeskFirstDemand, DeskAnswers, Call, serve, desk_after}
use Rattle.orders.proofs.Serving.{jobs_fit, limit_fits, desk_full}

-- no refusal of the desk is taken for an answer
questions_le : (d : Desk) (m : List ℤ) (limit : ℕ) (table work : List ℤ) → desk_questions d m limit table work ≤ 46
unfolding desk_questions analysis_questions
questions_le d m limit table work =
    then_le _ _ 46
    (then_le _ _ 46 (model_le m)
    (then_le _ _ 46 (le_trans (ask_le (leb (table_size m) (length table)) 20) (omega arith)) (le_trans (ask_le (leb (table_size m) (length work)) 21) (omega arith))))
    (le_trans (ask_le (counters_ok d limit) 22) (omega arith))

module _ (d : Desk) (m : List ℤ) (limit : ℕ) (table work : List ℤ) where
  same_by : (q : ℕ) (room : Bool) → T room → (desk_by (q then ask room 22) d m limit table work).analysed ≡ analyse_by q m limit table work
  unfolding ◌then◌
  same_by zero true h = refl
  same_by (suc q) true h = refl
  same_by q false h = absurd h

  is_analysis : T (counters_ok d limit) → (desk_call d m limit table work).analysed ≡ analyse_call m limit table work
  unfolding desk_call desk_questions analyse_call
  is_analysis h = same_by (analysis_questions m table work) (counters_ok d limit) h

  full : (T (counters_ok d limit) → ⊥) → analysis_questions m table work ≡ 0
      → desk_call d m limit table work ≡ record { desk = d; analysed = record { answer = Err 22; table = table; work = work } }
  full h asks = sym (desk_full d m limit table work asks (by (counters_ok d limit) h))
    where
      by : (b : Bool) → (T b → ⊥) → b ≡ false
      by true n = absurd (n tt)
      by false n = refl

  -- a model that passes, buffers of its size, counters that can take the limit
  all_yes : model_questions m ≡ 0 → Room m table work → T (counters_ok d limit) → desk_questions d m limit table work ≡ 0
  unfolding desk_questions analysis_questions
  all_yes asks r fits =
      then_intro
      (then_intro asks
      (then_intro (ask_intro (leb (table_size m) (length table)) 20 (le→leb (table_size m) (length table) r.table_room)) (ask_intro (leb (table_size m) (length work)) 21 (le→leb (table_size m) (length work) r.work_room))))
      (ask_intro (counters_ok d limit) 22 fits)

  -- no refusal has an answer's number
  answered_yes : (q : ℕ) → q ≤ 46 → 100 ≤ (reply_of (desk_by q d m limit table work).analysed).code → q ≡ 0
  answered_yes zero l h = refl
  answered_yes (suc q) l h = absurd (omega arith)

  -- what the call adds to the counters
  moves_by : (q : ℕ) → q ≤ 46 → let s = desk_by q d m limit table work in
      (s.desk.passes ≡ d.passes + cond (is_answer (reply_of s.analysed)) (reply_of s.analysed).value 0)
      × (s.desk.jobs ≡ d.jobs + cond (is_answer (reply_of s.analysed)) 1 0)
  moves_by zero h =
      let e : is_answer (answer_reply (analysis m limit)) ≡ true = le-leb 100 (answer_reply (analysis m limit)).code (search.answer_code m limit) in
      (rw e refl, rw e refl)
  moves_by (suc q) h =
      let e : leb 100 (suc q) ≡ false = lt-leb 100 (suc q) (omega arith) in
      (rw e (omega arith), rw e (omega arith))

  moves : let s = desk_call d m limit table work in
      (s.desk.passes ≡ d.passes + cond (is_answer (reply_of s.analysed)) (reply_of s.analysed).value 0)
      × (s.desk.jobs ≡ d.jobs + cond (is_answer (reply_of s.analysed)) 1 0)
  unfolding desk_call
  moves = moves_by (desk_questions d m limit table work) (questions_le d m limit table work)

  within_by : (q : ℕ) → (desk_by q d m limit table work).desk.passes ≤ d.passes + limit
  within_by zero = omega (arith, search.within_limit m limit)
  within_by (suc q) = omega arith

  within_limit : (desk_call d m limit table work).desk.passes ≤ d.passes + limit
  unfolding desk_call
  within_limit = within_by (desk_questions d m limit table work)

  -- the counters can take the limit where all questions are yes
  room : desk_questions d m limit table work ≡ 0 → counters_ok d limit ≡ true
  unfolding desk_questions
  room e = is_true (ask_yes (counters_ok d limit) 22 (omega arith) (or_right (analysis_questions m table work) _ e))

  stays_by : (q : ℕ) → (q ≡ 0 → counters_ok d limit ≡ true) → Holds d → Holds (desk_by q d m limit table work).desk
  stays_by zero r h = record { jobs_most = jobs_fit d limit (r refl); passes_most = omega (arith, within_by zero, limit_fits d limit (r refl)) }
  stays_by (suc q) r h = h

  pub stays : Holds d → Holds (desk_call d m limit table work).desk
  unfolding desk_call
  stays = stays_by (desk_questions d m limit table work) room

-- the first demand, of the analysis that the call is
pub desk_first_demand : (d : Desk) (m : List ℤ) → DeskFirstDemand d m
unfolding desk_call
desk_first_demand d m = record {
  is_answered = λ asks limit table work r fits.
      subst (λ (a : Analysed). let code = (reply_of a).code in (code ≡ 100) ⊎ ((code ≡ 101) ⊎ (code ≡ 102))) (sym (is_analysis d m limit table work fits))
      ((first_demand m).is_answered asks limit table work r);
  with_table = λ asks limit table work r fits. ap (λ (q : ℕ). desk_by q d m limit table work) (all_yes d m limit table work asks r fits);
  only_passing = λ limit table work h. answered_yes d m limit table work (desk_questions d m limit table work) (questions_le d m limit table work) h;
  refused_by = λ limit table work q e. ap (λ (k : ℕ). desk_by k d m limit table work) e;
}

-- after every list of calls
pub still_holds : (d : Desk) (cs : List Call) → Holds d → Holds (desk_after d cs)
unfolding desk_after
still_holds d [] h = h
still_holds d (c ∷ cs) h = still_holds (serve d c).desk cs (stays d c.model c.limit c.table c.work h)

pub desk_answers : (d : Desk) (m : List ℤ) (limit : ℕ) (table work : List ℤ) → DeskAnswers d m limit table work
desk_answers d m limit table work = record {
  is_analysis = is_analysis d m limit table work;
  full = full d m limit table work;
  passes_moved = (moves d m limit table work).0;
  jobs_moved = (moves d m limit table work).1;
  within_limit = within_limit d m limit table work;
  stays = stays d m limit table work;
}
