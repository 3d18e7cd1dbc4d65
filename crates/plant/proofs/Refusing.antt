-- Laws of refusals: each has a number of its own, which is not 0; and how code with `?` comes to the answer of questions in an order.
use mathlib.Core.Path.{◌≡◌, refl, sym, ap, ◌∙◌}
use Prim.Native.Nat.{ℕ, zero, suc, ◌+◌, ◌-◌, ◌<◌}
use native.Mathlib.Omega.{arith}
use Rattle.std.specs.Prelude.{Result, Ok, Err, List, [], ◌∷◌}
use Rattle.std.proofs.Common.{get_or}
use Rattle.plant.specs.declared.Refusal.{Refusal}
use Rattle.plant.specs.declared.Refusal.TheVariants.{FirstField, Variables, Locations, SwitchesAndBoxes, Words, FieldTag, FieldLength, ModelEnd, Invariant, Rates, Start, Places, SwitchBoxes, MaskedResets, Guard, Landing, Forbidden, TableWords, WorkWords, Counters, Table, Unchanged, Touching, CountField, PieceField, PieceOrder, TableEnd, TableBytes, ModelBytes, Edition, CutPlace}
use Rattle.plant.specs.Ask.{ask, ◌then◌, first}
use Rattle.plant.specs.Refusals.{number, OneMeaning, asked}
use Rattle.plant.proofs.Asks.{halt, first_none, first_more, run_stop}

-- ---- the number of a refusal

number_between : (r : Refusal) → (0 < number r) × (number r < 100)
number_between FirstField = (omega arith, omega arith)
number_between Variables = (omega arith, omega arith)
number_between Locations = (omega arith, omega arith)
number_between SwitchesAndBoxes = (omega arith, omega arith)
number_between Words = (omega arith, omega arith)
number_between FieldTag = (omega arith, omega arith)
number_between FieldLength = (omega arith, omega arith)
number_between ModelEnd = (omega arith, omega arith)
number_between Invariant = (omega arith, omega arith)
number_between Rates = (omega arith, omega arith)
number_between Start = (omega arith, omega arith)
number_between Places = (omega arith, omega arith)
number_between SwitchBoxes = (omega arith, omega arith)
number_between MaskedResets = (omega arith, omega arith)
number_between Guard = (omega arith, omega arith)
number_between Landing = (omega arith, omega arith)
number_between Forbidden = (omega arith, omega arith)
number_between TableWords = (omega arith, omega arith)
number_between WorkWords = (omega arith, omega arith)
number_between Counters = (omega arith, omega arith)
number_between Table = (omega arith, omega arith)
number_between Unchanged = (omega arith, omega arith)
number_between Touching = (omega arith, omega arith)
number_between CountField = (omega arith, omega arith)
number_between PieceField = (omega arith, omega arith)
number_between PieceOrder = (omega arith, omega arith)
number_between TableEnd = (omega arith, omega arith)
number_between TableBytes = (omega arith, omega arith)
number_between ModelBytes = (omega arith, omega arith)
number_between Edition = (omega arith, omega arith)
number_between CutPlace = (omega arith, omega arith)

pub number_positive : (r : Refusal) → 0 < number r
number_positive r = (number_between r).0

pub number_suc : (r : Refusal) → number r ≡ suc (number r - 1)
number_suc r = omega (arith, number_positive r)

pub number_not_0 : (r : Refusal) → number r ≡ 0 → ⊥
number_not_0 r e = absurd (omega (arith, number_positive r, e))

-- the refusals by their numbers, with the last in place of each that is missing
abbrev by_number : List Refusal
by_number = CutPlace ∷ FirstField ∷ Variables ∷ Locations ∷ SwitchesAndBoxes ∷ Words ∷ FieldTag ∷ FieldLength ∷ ModelEnd ∷ CutPlace ∷ CutPlace ∷ Invariant ∷ Rates ∷ Start ∷ Places ∷ SwitchBoxes ∷ MaskedResets ∷ Guard ∷ Landing ∷ Forbidden ∷ TableWords ∷ WorkWords ∷ Counters ∷ CutPlace ∷ CutPlace ∷ CutPlace ∷ CutPlace ∷ CutPlace ∷ CutPlace ∷ CutPlace ∷ CutPlace ∷ CutPlace ∷ Table ∷ Unchanged ∷ Touching ∷ CountField ∷ PieceField ∷ PieceOrder ∷ TableEnd ∷ TableBytes ∷ ModelBytes ∷ CutPlace ∷ CutPlace ∷ Edition ∷ CutPlace ∷ CutPlace ∷ CutPlace ∷ []

numbered_back : (r : Refusal) → get_or by_number (number r) CutPlace ≡ r
numbered_back FirstField = refl
numbered_back Variables = refl
numbered_back Locations = refl
numbered_back SwitchesAndBoxes = refl
numbered_back Words = refl
numbered_back FieldTag = refl
numbered_back FieldLength = refl
numbered_back ModelEnd = refl
numbered_back Invariant = refl
numbered_back Rates = refl
numbered_back Start = refl
numbered_back Places = refl
numbered_back SwitchBoxes = refl
numbered_back MaskedResets = refl
numbered_back Guard = refl
numbered_back Landing = refl
numbered_back Forbidden = refl
numbered_back TableWords = refl
numbered_back WorkWords = refl
numbered_back Counters = refl
numbered_back Table = refl
numbered_back Unchanged = refl
numbered_back Touching = refl
numbered_back CountField = refl
numbered_back PieceField = refl
numbered_back PieceOrder = refl
numbered_back TableEnd = refl
numbered_back TableBytes = refl
numbered_back ModelBytes = refl
numbered_back Edition = refl
numbered_back CutPlace = refl

-- each refusal has its own number
pub number_same : (r s : Refusal) → number r ≡ number s → r ≡ s
number_same r s e = sym (numbered_back r) ∙ ap (λ (k : ℕ). get_or by_number k CutPlace) e ∙ numbered_back s

pub one_meaning : OneMeaning
one_meaning = record { number_once = number_same; not_0 = number_positive; below_answers = λ r. (number_between r).1 }

-- ---- the answer of code to questions

pub asked_yes : (a : Result Unit Refusal) → asked a ≡ 0 → a ≡ Ok tt
asked_yes (Ok u) e = refl
asked_yes (Err r) e = absurd (number_not_0 r e)

-- the first question was answered no, and its refusal is the answer; or it was answered yes, and the rest decides
pub refused_first : (r : Refusal) {q : ℕ} (rest : ℕ) → number r ≡ q → number r ≡ (q then rest)
refused_first r {q} rest e = halt rest e (number_not_0 r)

pub passed_first : {q a rest : ℕ} → 0 ≡ q → a ≡ rest → a ≡ (q then rest)
unfolding ◌then◌
passed_first {q} {a} {rest} z e = rw (← z) e

-- a run of questions: one was answered no, or one more was answered yes
module _ (q : ℕ → ℕ) where
  pub refused_at : (r : Refusal) (k i : ℕ) → first i q ≡ 0 → i < k → number r ≡ q i → number r ≡ first k q
  refused_at r k i z l e = run_stop q k i e (number_not_0 r) z l

  pub passed_more : (i : ℕ) → first i q ≡ 0 → 0 ≡ q i → first (i + 1) q ≡ 0
  passed_more i z e = first_more q i z (sym e)

-- by which a check finds the answer of questions in turn, and of a run of questions
pub ruleset chains = (refused_first, passed_first)

pub ruleset runs = (first_none, refused_at, passed_more)
