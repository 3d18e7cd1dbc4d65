-- A model file that is refused, by a reader that holds N words for the model: they were enough, or they are as many as any model has.
use mathlib.Core.Path.{◌≡◌, refl, ap}
use mathlib.Core.Bool.{Bool, true, false}
use mathlib.Core.List.{List}
use Prim.Native.Nat.{ℕ}
use lib.Dec.{eqb}
use borrow.Author.Tests.{eqb-true, eqb-false}
use lib.IntN.{ℤ, pos}
use lib.ListN.{replicate}
use Rattle.std.specs.Prelude.{Result, Ok, Err, IsErrOf}
use Rattle.plant.specs.declared.Refusal.{Refusal}
use Rattle.plant.specs.declared.Refusal.TheVariants.{Words}
use Rattle.plant.specs.Refusals.{number}
use Rattle.plant.specs.Calls.{ReadOutcome}
use Rattle.plant.proofs.Refusing.{number_same}
use Rattle.files.specs.ModelFile.{read_model_call}
use Rattle.interface.specs.Hosts.{model_file_questions}
use Rattle.interface.proofs.Reading.{Roomy, most_roomy, other_roomy, read_refused}

module _ {T : Type 0} (s : List ℕ) (N : ℕ) (r : Refusal) {x : List ℤ} (e : ◌≡◌ {A = ReadOutcome} (record { count = Err (number r); words = x }) (read_model_call s (replicate N (pos 0)))) (most : IsErrOf {T = T} (Err r) Words → N ≡ 7173) where
  roomy : Roomy s (replicate N (pos 0))
  roomy = by (eqb (number r) 5) refl
    where
      by : (b : Bool) → eqb (number r) 5 ≡ b → Roomy s (replicate N (pos 0))
      by true h = rw (most (ap (λ (w : Refusal). Err w) (number_same r Words (eqb-true (number r) 5 h)))) (most_roomy s)
      by false h = other_roomy s _ e (eqb-false (number r) 5 h)

  pub refused_by : (number r ≡ model_file_questions s) × (model_file_questions s ≡ 0 → ⊥)
  refused_by = read_refused s _ roomy e
