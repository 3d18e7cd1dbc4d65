-- The last box of a location below k is one of the location's; no box is linked at first, and one more in each turn.
use mathlib.Core.Path.{◌≡◌, refl}
use mathlib.Core.List.{List}
use Prim.Native.Nat.{ℕ, zero, suc, ◌+◌, ◌-◌, ◌<◌, ◌≤◌}
use native.Mathlib.Numerals.{add-one}
use native.Mathlib.Omega.{arith}
use lib.IntN.{ℤ}
use lib.ListN.{get_or, set, replicate, get_or-replicate}
use Rattle.std.proofs.lemmas.Grind.{common_steps}
use Rattle.plant.specs.Model.{forbidden_location}
use Rattle.checks.specs.Links.{last_box, Linked}

module _ (m : List ℤ) where
  pub last_within : (l k : ℕ) → last_box m l k ≤ k
  unfolding last_box
  last_within l zero = omega arith
  last_within l (suc k) = grind (arith, common_steps, last_within l k)

  pub last_own : (l k : ℕ) → 0 < last_box m l k → forbidden_location m (last_box m l k - 1) ≡ l
  unfolding last_box
  last_own l zero = grind arith
  last_own l (suc k) = grind (arith, common_steps, last_own l k)

  pub none_linked : Linked m 0 (replicate 64 0) (replicate 64 0)
  unfolding last_box
  none_linked = record {
    last_long = refl;
    before_long = refl;
    last_is = λ l u. get_or-replicate 64 l 0 0 u;
    before_is = λ b u. absurd (omega arith);
  }

  module _ (b : ℕ) {last before : List ℕ} (h : Linked m b last before) (u : b < 64) {l : ℕ} (own : l ≡ forbidden_location m b) (v : l < 64) where
    -- box b is now the last of its location, and of no other
    last_more : (j : ℕ) → j < 64 → get_or (set last l (b + 1)) j 0 ≡ last_box m j (suc b)
    unfolding last_box
    last_more j w = grind (arith, common_steps, h.last_is j w)

    -- before it stands what was the last
    before_more : (j : ℕ) → j < suc b → get_or (set before b (get_or last l 0)) j 0 ≡ last_box m (forbidden_location m j) j
    before_more j w = grind (arith, common_steps, h.before_is j, h.last_is l v)

    pub one_linked : Linked m (b + 1) (set last l (b + 1)) (set before b (get_or last l 0))
    one_linked = rw (add-one b) (record {
      last_long = grind (arith, common_steps);
      before_long = grind (arith, common_steps);
      last_is = rw (add-one b) at last_more;
      before_is = before_more;
    })
