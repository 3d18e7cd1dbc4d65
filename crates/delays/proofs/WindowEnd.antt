-- A part inside the invariant is there at delay 0, so each of its variables has an interval from 0 to its latest delay, and the window
-- from 0 to the soonest of these. A wall's delays begin at 0 or later: cut to such a window, they keep their earliest.
use Rattle.std.specs.Prelude.{Option, Some, None}
use mathlib.Core.Path.{◌≡◌, refl, sym, ap, ◌∙◌, subst}
use mathlib.Core.Bool.{false, cond}
use mathlib.Core.List.{List}
use Prim.Native.Nat.{ℕ, suc, ◌+◌, ◌*◌, ◌<◌}
use native.Mathlib.Numerals.{add-one}
use native.Mathlib.Omega.{arith}
use lib.Dec.{T, not_T, leb→le}
use lib.IntN.{ℤ, pos, neg_ℤ, nat_abs, ◌-ℤ◌}
use lib.Signed.{◌≤ℤ◌, lt_z}
use Rattle.integers.proofs.Parts.{arith_z, #◌, ◌⊟◌}
use Rattle.integers.proofs.Order.{trans}
use Rattle.integers.proofs.Tests.{by_test, is_false}
use Rattle.plant.specs.declared.Fraction.{Fraction}
use Rattle.plant.specs.declared.End.{End}
use Rattle.plant.specs.declared.End.TheVariants.{Endless}
use Rattle.plant.specs.declared.Interval.{Interval}
use Rattle.plant.specs.Box.{low, high}
use Rattle.plant.specs.Delays.{ratio, no_delay, latest_into, delays_into, delays_to, le_f, later, sooner, both_delays, reaches_end, or_never}
use Rattle.plant.specs.Steps.{delays_into_box}
use Rattle.plant.proofs.DelaysExact.{abs_positive}
use Rattle.delays.specs.Ranges.{LevelAt, Levels, Rates, InInvariant, SmallEnd, SmallInterval, SmallDelays}
use Rattle.delays.specs.Windows.{up_to}
use Rattle.delays.proofs.Small.{latest_into_small, shared_small, sooner_small, in_levels}
use Rattle.delays.proofs.Touching.{both_between}

-- ---- the window of a part inside the invariant

less_no : (a b : ℤ) → b ≤ℤ a → lt_z a b ≡ false
less_no a b h = is_false (not_T (lt_z a b) (λ t. omega arith_z))

-- of one variable
from_inside : (p q a c lo hi : ℤ) → p ≤ℤ q → lo ≤ℤ p → q ≤ℤ hi → delays_into p q a c lo hi ≡ Some (up_to (latest_into p q a c lo hi))
unfolding delays_into
from_inside p q a c lo hi pq above below = simp (less_no hi p (trans pq below), less_no q lo (trans above pq))

module _ (n : ℕ) (inv rate part : List ℤ) where
  abbrev pub latest_of : ℕ → End
  latest_of i = latest_into (low part i) (high part i) (low rate i) (high rate i) (low inv i) (high inv i)

  -- before variable i: the end of the window of those so far
  pub record EndSoFar (e : End) (i : ℕ) : Type 0 where
    pub shares : delays_into_box rate part inv i ≡ Some (up_to e)
    pub small : SmallEnd e

  pub end_start : EndSoFar Endless 0
  unfolding delays_into_box
  end_start = record { shares = refl; small = tt }

  next : (i : ℕ) → delays_into_box rate part inv (suc i) ≡ both_delays (delays_into_box rate part inv i) (delays_into (low part i) (high part i) (low rate i) (high rate i) (low inv i) (high inv i))
  unfolding delays_into_box
  next i = refl

  module _ (invs : Levels n inv) (rates : Rates n rate) (parts : InInvariant n inv part) where
    pub latest_small : {l : End} (i : ℕ) → i < n → l ≡ latest_of i → SmallEnd l
    latest_small i u k =
        let v : LevelAt part i = in_levels invs parts i u in
        subst SmallEnd (sym k)
        (latest_into_small (low part i) (high part i) (low rate i) (high rate i) (low inv i) (high inv i) v.low_in v.high_in (rates i u).low_in (rates i u).high_in (invs i u).low_in (invs i u).high_in)

    pub end_more : {e l : End} {i : ℕ} → EndSoFar e i → i < n → l ≡ latest_of i → EndSoFar (sooner e l) (i + 1)
    end_more {e} {l} {i} h u k =
        let own : delays_into (low part i) (high part i) (low rate i) (high rate i) (low inv i) (high inv i) ≡ Some (up_to l) =
        from_inside (low part i) (high part i) (low rate i) (high rate i) (low inv i) (high inv i) (parts.is_ordered i u) (parts.inside.lower i u) (parts.inside.higher i u) ∙ ap (λ (x : End). Some (up_to x)) (sym k) in
        record {
          shares = rw add-one (next i ∙ both_between h.shares own);
          small = sooner_small e l h.small (latest_small i u k);
        }

-- ---- a wall's delays, cut to such a window

-- a delay after 0 is the later of the two
after_zero : (f : Fraction) → 0 < f.num → later f (ratio (pos 0) (pos 1)) ≡ f
after_zero f h = simp (is_false {b = le_f f (ratio (pos 0) (pos 1))} (not_T (le_f f (ratio (pos 0) (pos 1))) (λ t. omega (arith, leb→le (f.num * 1) (0 * f.den) t))))

abbrev KeepsEarliest : Option Interval → Type 0
KeepsEarliest None = Unit {0}
KeepsEarliest (Some t) = later t.earliest (ratio (pos 0) (pos 1)) ≡ t.earliest

away : (x y : ℤ) → T (lt_z y x) → 0 < nat_abs (x -ℤ y)
away x y t = abs_positive (x -ℤ y) (omega (arith_z, # x ⊟ # y))

earliest_kept : (p q a c lo hi : ℤ) → KeepsEarliest (delays_into p q a c lo hi)
unfolding delays_into
earliest_kept p q a c lo hi = by_test KeepsEarliest (no_delay p q a c lo hi) (λ _. tt) (λ _.
    by_test Kept (lt_z hi p) (λ t. after_zero (ratio (p -ℤ hi) (neg_ℤ a)) (away p hi t))
    (λ _. by_test Kept (lt_z q lo) (λ t. after_zero (ratio (lo -ℤ q) c) (away lo q t)) (λ _. refl)))
  where
    Kept : Fraction → Type 0
    Kept f = later f (ratio (pos 0) (pos 1)) ≡ f

module _ (p q a c b : ℤ) {t : Interval} (found : delays_to p q a c b ≡ Some t) (e : End) where
  cut_is : both_delays (delays_to p q a c b) (Some (up_to e)) ≡ Some (record { earliest = t.earliest; latest = sooner t.latest e })
  unfolding both_delays
  cut_is = ap (λ (ds : Option Interval). both_delays ds (Some (up_to e))) found
      ∙ ap (λ (f : Fraction). Some (record { earliest = f; latest = sooner t.latest e })) (subst KeepsEarliest found (earliest_kept p q a c b b))

  -- by the test of what is left
  pub wall-cut : cond (reaches_end t.earliest (sooner t.latest e)) (Some (record { earliest = t.earliest; latest = sooner t.latest e })) None ≡ or_never (both_delays (delays_to p q a c b) (Some (up_to e)))
  unfolding or_never
  wall-cut = ap or_never (sym cut_is)

pub wall_none : (ds : Option Interval) (e : End) → ds ≡ None → None ≡ or_never (both_delays ds (Some (up_to e)))
unfolding or_never both_delays
wall_none ds e none = ap (λ (x : Option Interval). or_never (both_delays x (Some (up_to e)))) (sym none)

-- what is left of small delays is small
both_small : (s t : Option Interval) → SmallDelays s → SmallDelays t → SmallDelays (both_delays s t)
unfolding both_delays
both_small None t x y = tt
both_small (Some s) None x y = tt
both_small (Some s) (Some t) x y = shared_small x y

or_never_small : (ds : Option Interval) → SmallDelays ds → SmallDelays (or_never ds)
unfolding or_never
or_never_small None x = tt
or_never_small (Some t) x = by_test SmallDelays (reaches_end t.earliest t.latest) (λ _. x) (λ _. tt)

pub wall_small : (ds : Option Interval) (e : End) (t : Interval) → SmallDelays ds → SmallEnd e → or_never (both_delays ds (Some (up_to e))) ≡ Some t → SmallInterval t
wall_small ds e t x y k = subst SmallDelays k (or_never_small (both_delays ds (Some (up_to e)))
    (both_small ds (Some (up_to e)) x (record { earliest_small = record { num_small = omega arith; den_positive = omega arith; den_small = omega arith }; latest_small = y })))
