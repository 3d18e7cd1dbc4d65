-- What a yes to all questions of a desk call tells: the analysis may be made, and the counters hold what it adds.
use mathlib.Core.Path.{◌≡◌, sym, ap}
use mathlib.Core.Bool.{true}
use mathlib.Core.List.{List}
use Prim.Native.Nat.{ℕ, ◌+◌, ◌≤◌}
use native.Mathlib.Omega.{arith}
use lib.IntN.{ℤ}
use Rattle.std.specs.Prelude.{Ok}
use Rattle.integers.proofs.Tests.{is_true}
use Rattle.plant.specs.Ask.{ask}
use Rattle.plant.specs.declared.Answer.{Answer}
use Rattle.plant.specs.Calls.{Analysed, reply_of, analysis, passes_of, analysis_questions, answered}
use Rattle.plant.proofs.Asks.{ask_yes, or_left, or_right}
use Rattle.plant.proofs.Search.{within_limit}
use Rattle.orders.specs.declared.Desk.{Desk}
use Rattle.orders.specs.Desks.{most, counters_ok, desk_questions}
use Rattle.orders.proofs.Serving.{jobs_fit, limit_fits}

module _ (d : Desk) (m : List ℤ) (limit : ℕ) (table work : List ℤ) (yes : 0 ≡ desk_questions d m limit table work) where
  pub analysis_yes : analysis_questions m table work ≡ 0
  unfolding desk_questions
  analysis_yes = or_left (analysis_questions m table work) (ask (counters_ok d limit) 22) (sym yes)

  counters_yes : counters_ok d limit ≡ true
  unfolding desk_questions
  counters_yes = is_true (ask_yes (counters_ok d limit) 22 (omega arith) (or_right (analysis_questions m table work) (ask (counters_ok d limit) 22) (sym yes)))

  pub jobs_hold : d.jobs + 1 ≤ most
  jobs_hold = jobs_fit d limit counters_yes

  -- an answer of the analysis makes no more passes than the limit
  pub passes_hold : (a : Answer) (t w : List ℤ) → ◌≡◌ {A = Analysed} (record { answer = Ok a; table = t; work = w }) (answered m (analysis m limit) table work) → d.passes + passes_of a ≤ most
  passes_hold a t w is = omega (arith, limit_fits d limit counters_yes, ap (λ (x : Analysed). (reply_of x).value) is, within_limit m limit)
