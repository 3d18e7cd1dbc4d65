-- Document 01, "Desk and host": the desk's counters, and what a desk call does to them and to lent memory.
use Rattle.std.specs.Prelude.{◌≡◌, Bool, cond, ◌&&◌, ◌⊎◌, List, [], ◌∷◌, ℕ, zero, suc, ◌+◌, ◌≤◌, T, leb, ℤ, Err}
use Rattle.plant.specs.Ask.{ask, ◌then◌}
use Rattle.plant.specs.Questions.{model_questions}
use Rattle.plant.specs.Calls.{Reply, Analysed, reply_of, analysis, analysis_questions, answered, analyse_call}
use Rattle.plant.specs.Demands.{Room}
use Rattle.orders.specs.declared.Desk.{Desk}

-- a counter's largest number
abbrev pub most : ℕ
most = 4294967295

abbrev pub fresh_desk : Desk
fresh_desk = record { jobs = 0; passes = 0 }

-- the counters can take one job more and the limit
unfoldable pub counters_ok : Desk → ℕ → Bool
counters_ok d limit = leb (d.jobs + 1) most && leb (d.passes + limit) most

-- the questions of an analysis; then: jobs + 1 and passes + limit at most 4,294,967,295? 22
unfoldable pub desk_questions : (d : Desk) (m : List ℤ) (limit : ℕ) (table work : List ℤ) → ℕ
desk_questions d m limit table work = analysis_questions m table work then ask (counters_ok d limit) 22

-- the desk, and the answer with the lent buffers
pub record Served : Type 0 where
  pub desk : Desk
  pub analysed : Analysed

-- an answered call moves jobs by 1 and passes by k; a refusal moves nothing and changes nothing lent
abbrev pub counted : Desk → Analysed → Served
counted d a = record { desk = record { jobs = d.jobs + 1; passes = d.passes + (reply_of a).value }; analysed = a }

abbrev pub desk_by : ℕ → (d : Desk) (m : List ℤ) (limit : ℕ) (table work : List ℤ) → Served
desk_by zero d m limit table work = counted d (answered m (analysis m limit) table work)
desk_by (suc k) d m limit table work = record { desk = d; analysed = record { answer = Err (suc k); table = table; work = work } }

unfoldable pub desk_call : (d : Desk) (m : List ℤ) (limit : ℕ) (table work : List ℤ) → Served
desk_call d m limit table work = desk_by (desk_questions d m limit table work) d m limit table work

-- ---- the mission's first demand, with counters

pub record DeskFirstDemand (d : Desk) (m : List ℤ) : Type 0 where
  -- a model that passes, with buffers of its size and counters that can take the limit, is answered safe, unknown or unfinished
  pub is_answered :
      model_questions m ≡ 0 → (limit : ℕ) (table work : List ℤ) → Room m table work → T (counters_ok d limit)
      → let code = (reply_of (desk_call d m limit table work).analysed).code in (code ≡ 100) ⊎ ((code ≡ 101) ⊎ (code ≡ 102))
  -- with its table and the number of passes, by which the counters move
  pub with_table :
      model_questions m ≡ 0 → (limit : ℕ) (table work : List ℤ) → Room m table work → T (counters_ok d limit)
      → desk_call d m limit table work ≡ counted d (answered m (analysis m limit) table work)
  -- only an input that passes all the desk's questions is answered
  pub only_passing :
      (limit : ℕ) (table work : List ℤ) → 100 ≤ (reply_of (desk_call d m limit table work).analysed).code → desk_questions d m limit table work ≡ 0
  -- every other input gets the number of the first of the desk's questions that it fails, and changes nothing
  pub refused_by :
      (limit : ℕ) (table work : List ℤ) (q : ℕ) → desk_questions d m limit table work ≡ suc q
      → desk_call d m limit table work ≡ record { desk = d; analysed = record { answer = Err (suc q); table = table; work = work } }

-- ---- what every call at the desk keeps to

-- both counters are numbers that a counter can hold
pub record Holds (d : Desk) : Type 0 where
  pub jobs_most : d.jobs ≤ most
  pub passes_most : d.passes ≤ most

-- an answered reply: safe, unknown or unfinished
abbrev pub is_answer : Reply → Bool
is_answer r = leb 100 r.code

pub record DeskAnswers (d : Desk) (m : List ℤ) (limit : ℕ) (table work : List ℤ) : Type 0 where
  -- where the counters can take the limit, the call is the analysis: the same reply, the same buffers, answered or refused
  pub is_analysis : T (counters_ok d limit) → (desk_call d m limit table work).analysed ≡ analyse_call m limit table work
  -- where they cannot, an analysis that would be answered is refused by 22, and nothing changes
  pub full : (T (counters_ok d limit) → ⊥) → analysis_questions m table work ≡ 0
      → desk_call d m limit table work ≡ record { desk = d; analysed = record { answer = Err 22; table = table; work = work } }
  -- an answered call moves passes by the passes answered and jobs by 1, a refused one neither
  pub passes_moved : let s = desk_call d m limit table work in s.desk.passes ≡ d.passes + cond (is_answer (reply_of s.analysed)) (reply_of s.analysed).value 0
  pub jobs_moved : let s = desk_call d m limit table work in s.desk.jobs ≡ d.jobs + cond (is_answer (reply_of s.analysed)) 1 0
  -- no call is charged more passes than its limit
  pub within_limit : (desk_call d m limit table work).desk.passes ≤ d.passes + limit
  -- no counter runs over
  pub stays : Holds d → Holds (desk_call d m limit table work).desk

-- ---- a list of desk calls, with any models, limits and buffers

pub record Call : Type 0 where
  pub model : List ℤ
  pub limit : ℕ
  pub table : List ℤ
  pub work : List ℤ

abbrev pub serve : Desk → Call → Served
serve d c = desk_call d c.model c.limit c.table c.work

-- the desk after all of them
unfoldable pub desk_after : Desk → List Call → Desk
desk_after d [] = d
desk_after d (c ∷ cs) = desk_after (serve d c).desk cs

-- the replies, in order
unfoldable pub replies : Desk → List Call → List Reply
replies d [] = []
replies d (c ∷ cs) = reply_of (serve d c).analysed ∷ replies (serve d c).desk cs

-- how many answers there are among replies, and the sum of the passes answered
unfoldable pub answers_of : List Reply → ℕ
answers_of [] = 0
answers_of (r ∷ rs) = cond (is_answer r) 1 0 + answers_of rs

unfoldable pub passes_of : List Reply → ℕ
passes_of [] = 0
passes_of (r ∷ rs) = cond (is_answer r) r.value 0 + passes_of rs

-- for every list of desk calls from a fresh desk: passes is the sum of the passes answered, jobs the number of answered calls,
-- and no counter has run over
pub record DeskCounts (cs : List Call) : Type 0 where
  pub passes_sum : (desk_after fresh_desk cs).passes ≡ passes_of (replies fresh_desk cs)
  pub jobs_number : (desk_after fresh_desk cs).jobs ≡ answers_of (replies fresh_desk cs)
  pub holds : Holds (desk_after fresh_desk cs)
