-- The calls by their questions' answer.
use mathlib.Core.Path.{◌≡◌, refl, sym, ap, ap₂, ◌∙◌}
use mathlib.Core.List.{List, ◌++◌}
use Prim.Native.Nat.{ℕ, zero, suc, ◌<◌}
use native.Mathlib.Omega.{arith}
use lib.IntN.{ℤ, pos}
use lib.ListN.{length, drop, replicate}
use lib.Seq.{take_all}
use Rattle.std.specs.Prelude.{Result, Ok, Err}
use Rattle.integers.specs.Words.{equal, onto}
use Rattle.plant.specs.declared.Answer.{Answer}
use Rattle.plant.specs.declared.Refusal.{Refusal}
use Rattle.plant.specs.Refusals.{number, asked, numbered}
use Rattle.plant.specs.Tables.{table_size, pass}
use Rattle.plant.specs.Calls.{unchanged, verdict_by, analysis, answer_table, passes_of, Analysed, answered}
use Rattle.plant.proofs.Refusing.{number_positive}
use Rattle.plant.proofs.Keeps.{after_length}

-- ---- the checker

-- all of the words are the table
pub unchanged_is : (m t : List ℤ) → length t ≡ table_size m → unchanged m t ≡ equal (pass m t) t
unfolding unchanged
unchanged_is m t size = ap (equal (pass m t)) (take_all (table_size m) t (omega arith))

positive : (k : ℕ) → 0 < k → ◌≡◌ {A = Result Unit ℕ} (Err k) (verdict_by k)
positive zero h = absurd (omega arith)
positive (suc k) h = refl

-- the verdict is the questions' answer
pub verdict_is : (a : Result Unit Refusal) → numbered a ≡ verdict_by (asked a)
verdict_is (Ok u) = refl
verdict_is (Err r) = positive (number r) (number_positive r)

-- ---- the analysis

module _ (m : List ℤ) (limit : ℕ) (table work : List ℤ) where
  -- an answer a that leaves t at the front of the table buffer and w in the work buffer
  module _ (a : Answer) (is_analysis : a ≡ analysis m limit) (t : List ℤ) (is_table : t ≡ answer_table m a) (size : ℕ) (is_size : size ≡ table_size m) (w : List ℤ) (is_clear : w ≡ replicate (length work) (pos 0)) where
    length_is : size ≡ length (answer_table m a)
    unfolding answer_table
    length_is = is_size ∙ sym (after_length m (passes_of a))

    begins : t ++ drop size table ≡ onto (answer_table m a) table
    unfolding onto
    begins = ap₂ (λ (x : List ℤ) (k : ℕ). x ++ drop k table) is_table length_is

    pub is_answered : ◌≡◌ {A = Analysed} (record { answer = Ok a; table = t ++ drop size table; work = w }) (answered m (analysis m limit) table work)
    is_answered =
        ap₂ (λ (x y : List ℤ). record { answer = Ok a; table = x; work = y }) begins is_clear
        ∙ ap (λ (x : Answer). answered m x table work) is_analysis
