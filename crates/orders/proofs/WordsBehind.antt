-- Words that follow a model's change nothing that the desk and the quote give.
use Rattle.std.specs.Prelude.{Ok}
use mathlib.Core.Path.{◌≡◌, refl, ap, ◌∙◌}
use mathlib.Core.List.{List}
use Prim.Native.Nat.{ℕ, zero, suc}
use lib.IntN.{ℤ}
use Rattle.plant.specs.Ask.{ask, ◌then◌}
use Rattle.plant.specs.Questions.{model_questions}
use Rattle.plant.specs.Calls.{analysis_questions}
use Rattle.plant.proofs.Asks.{or_left}
use Rattle.plant.proofs.AnalysisAsked.{model_asked}
use Rattle.plant.proofs.Beginning.{alone, questions_alone}
use Rattle.plant.proofs.Alike.{Alike, same_size, same_longest, same_ceiling}
use Rattle.plant.proofs.WordsBehind.{alike_alone, answered_alone, analysis_questions_alone}
use Rattle.orders.specs.declared.Desk.{Desk}
use Rattle.orders.specs.Desks.{counters_ok, desk_questions, counted, desk_by, desk_call}
use Rattle.orders.specs.Quotes.{quote_by, quote_call}

module _ (m : List ℤ) where
  quote_by_lem : (q : ℕ) → (q ≡ 0 → model_questions m ≡ 0) → quote_by (alone m) q ≡ quote_by m q
  quote_by_lem zero h =
      let like : Alike (alone m) m = alike_alone m (h refl) in
      λ i. Ok (record { words = same_size (alone m) m like i; bytes = same_longest (alone m) m like i; ceiling = same_ceiling (alone m) m like i })
  quote_by_lem (suc q) h = refl

  pub quote_alone : quote_call (alone m) ≡ quote_call m
  unfolding quote_call
  quote_alone = ap (quote_by (alone m)) (questions_alone m) ∙ quote_by_lem (model_questions m) (λ e. e)

  module _ (d : Desk) (limit : ℕ) (table work : List ℤ) where
    desk_by_lem : (q : ℕ) → (q ≡ 0 → model_questions m ≡ 0) → desk_by q d (alone m) limit table work ≡ desk_by q d m limit table work
    desk_by_lem zero h = ap (counted d) (answered_alone m (h refl) limit table work)
    desk_by_lem (suc q) h = refl

    pub desk_alone : desk_call d (alone m) limit table work ≡ desk_call d m limit table work
    unfolding desk_call desk_questions
    desk_alone =
        ap (λ (q : ℕ). desk_by (q then ask (counters_ok d limit) 22) d (alone m) limit table work) (analysis_questions_alone m table work)
        ∙ desk_by_lem (desk_questions d m limit table work) (λ e. model_asked m table work (or_left (analysis_questions m table work) _ e))
