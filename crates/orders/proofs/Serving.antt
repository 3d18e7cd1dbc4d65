-- The desk call by cases: what the definition gives in each branch of the code, and that the counters hold what is added.
use Rattle.std.specs.Prelude.{Ok, Err}
use mathlib.Core.Path.{◌≡◌, refl, sym, ap, ap₂, ◌∙◌, subst}
use mathlib.Core.Bool.{Bool, true, false, ◌&&◌}
use mathlib.Core.List.{List}
use Prim.Native.Nat.{ℕ, zero, suc, ◌+◌, ◌-◌, ◌≤◌}
use native.Mathlib.Omega.{arith}
use borrow.Author.Tests.{leb-true, leb-false, lt-ltb, le-ltb, le-leb, lt-leb}
use lib.Dec.{T, leb, ltb}
use lib.IntN.{ℤ}
use Rattle.plant.specs.Ask.{ask}
use Rattle.plant.specs.declared.Answer.{Answer}
use Rattle.plant.specs.Calls.{Analysed, reply_of, analysis, passes_of, analysis_questions, answered}
use Rattle.plant.proofs.Asks.{go, halt, ask_intro, then_intro}
use Rattle.plant.proofs.Search.{within_limit}
use Rattle.orders.specs.declared.Desk.{Desk}
use Rattle.orders.specs.Desks.{most, counters_ok, desk_questions, Served, counted, desk_by, desk_call}

-- ---- 22, asked of the counters without a sum that could overflow

decide : (x y : Bool) → (y ≡ true → x ≡ true) → (y ≡ false → x ≡ false) → x ≡ y
decide x true f g = f refl
decide x false f g = g refl

both_true : (a b : Bool) → (a && b) ≡ true → (a ≡ true) × (b ≡ true)
both_true true b e = (refl, e)
both_true false b e = absurd (subst T (sym e) tt)

module _ (d : Desk) (limit : ℕ) where
  pub counters_is : limit ≤ most → (ltb d.jobs most && leb d.passes (most - limit)) ≡ counters_ok d limit
  unfolding counters_ok
  counters_is h =
      ap₂ ◌&&◌
      (decide (ltb d.jobs most) (leb (d.jobs + 1) most) (λ e. lt-ltb d.jobs most (omega (arith, leb-true (d.jobs + 1) most e))) (λ e. le-ltb d.jobs most (omega (arith, leb-false (d.jobs + 1) most e))))
      (decide (leb d.passes (most - limit)) (leb (d.passes + limit) most) (λ e. le-leb d.passes (most - limit) (omega (arith, h, leb-true (d.passes + limit) most e))) (λ e. lt-leb d.passes (most - limit) (omega (arith, h, leb-false (d.passes + limit) most e))))

  -- the counters hold what is added
  module _ (room : counters_ok d limit ≡ true) where
    pub jobs_fit : d.jobs + 1 ≤ most
    unfolding counters_ok
    jobs_fit = leb-true (d.jobs + 1) most (both_true (leb (d.jobs + 1) most) (leb (d.passes + limit) most) room).0

    pub limit_fits : d.passes + limit ≤ most
    unfolding counters_ok
    limit_fits = leb-true (d.passes + limit) most (both_true (leb (d.jobs + 1) most) (leb (d.passes + limit) most) room).1

-- ---- the cases

module _ (d : Desk) (m : List ℤ) (limit : ℕ) (table work : List ℤ) where
  -- a refusal moves nothing and changes nothing lent
  abbrev unmoved : ℕ → Served
  unmoved q = record { desk = d; analysed = record { answer = Err q; table = table; work = work } }

  unmoved_by : (q : ℕ) → (q ≡ 0 → ⊥) → unmoved q ≡ desk_by q d m limit table work
  unmoved_by zero n = absurd (n refl)
  unmoved_by (suc q) n = refl

  refused_with : (q : ℕ) → q ≡ desk_questions d m limit table work → (q ≡ 0 → ⊥) → unmoved q ≡ desk_call d m limit table work
  unfolding desk_call
  refused_with q e n = unmoved_by q n ∙ ap (λ (x : ℕ). desk_by x d m limit table work) e

  pub desk_refused : (q : ℕ) → q ≡ analysis_questions m table work → (q ≡ 0 → ⊥) → unmoved q ≡ desk_call d m limit table work
  unfolding desk_questions
  desk_refused q e n = refused_with q (halt _ e n) n

  module _ (yes : analysis_questions m table work ≡ 0) where
    pub desk_full : counters_ok d limit ≡ false → unmoved 22 ≡ desk_call d m limit table work
    unfolding desk_questions
    desk_full h = refused_with 22 (go refl yes (ap (λ (b : Bool). ask b 22) (sym h))) (λ e. omega arith)

    -- an answer a of the analysis, with k passes made
    module _ (room : counters_ok d limit ≡ true) (a : Answer) (t w : List ℤ) (is : ◌≡◌ {A = Analysed} (record { answer = Ok a; table = t; work = w }) (answered m (analysis m limit) table work)) (k : ℕ) (made : k ≡ passes_of a) where
      pub k_within : k ≤ limit
      k_within =
          let e : passes_of a ≡ passes_of (analysis m limit) = ap (λ (x : Analysed). (reply_of x).value) is in
          omega (arith, made, e, within_limit m limit)

      all_yes : 0 ≡ desk_questions d m limit table work
      unfolding desk_questions
      all_yes = sym (then_intro yes (ask_intro (counters_ok d limit) 22 (subst T (sym room) tt)))

      pub desk_answered : ◌≡◌ {A = Served} (record { desk = record { jobs = d.jobs + 1; passes = d.passes + k }; analysed = record { answer = Ok a; table = t; work = w } }) (desk_call d m limit table work)
      unfolding desk_call
      desk_answered =
          ap (λ (x : ℕ). record { desk = record { jobs = d.jobs + 1; passes = d.passes + x }; analysed = record { answer = Ok a; table = t; work = w } }) made
          ∙ ap (counted d) is
          ∙ ap (λ (x : ℕ). desk_by x d m limit table work) all_yes
