-- Loops over every number below k: tests that all hold, and a search for one that holds.
use mathlib.Core.Path.{◌≡◌, refl, ap₂}
use mathlib.Core.Bool.{Bool, true, false, ◌&&◌}
use Prim.Native.Nat.{ℕ, ◌+◌, ◌<◌}
use native.Mathlib.Numerals.{add-one}
use Rattle.integers.specs.Counted.{all_below, any_below}
use Rattle.integers.proofs.Tests.{is_true, true_is}
use Rattle.integers.proofs.Counted.{any_intro}

module _ (f : ℕ → Bool) where
  pub all_none : true ≡ all_below 0 f
  unfolding all_below
  all_none = refl

  pub all_more : (i : ℕ) {ok t : Bool} → ok ≡ all_below i f → t ≡ f i → (ok && t) ≡ all_below (i + 1) f
  unfolding all_below
  all_more i e h = rw add-one (ap₂ (λ (a b : Bool). a && b) e h)

  pub any_none : any_below 0 f ≡ false
  unfolding any_below
  any_none = refl

  pub any_more : (i : ℕ) → any_below i f ≡ false → f i ≡ false → any_below (i + 1) f ≡ false
  unfolding any_below
  any_more i e h = rw (add-one, e, h) refl

  pub any_found : (i k : ℕ) → i < k → f i ≡ true → any_below k f ≡ true
  any_found i k l e = is_true (any_intro k f i l (true_is e))

pub ruleset all_steps = (all_none, all_more)
