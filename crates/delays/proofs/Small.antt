-- Delays between two levels at a rate are small: their cross products fit a word.
use mathlib.Core.Bool.{Bool, true, false, not, ◌&&◌, ◌||◌}
use mathlib.Core.List.{List}
use Prim.Native.Nat.{ℕ, ◌<◌}
use native.Mathlib.Omega.{arith}
use lib.Dec.{T}
use lib.IntN.{ℤ, pos, negsuc, neg_ℤ, nat_abs, ◌-ℤ◌}
use lib.Signed.{lt_z, le_z}
use Rattle.integers.proofs.Parts.{arith_z}
use Rattle.integers.specs.Rounding.{max_z, min_z}
use Rattle.integers.proofs.Tests.{by_test, or_no, and_no}
use Rattle.integers.proofs.Order.{trans}
use Rattle.integers.proofs.Signed.{abs_neg, abs_minus, between}
use Rattle.plant.specs.declared.Fraction.{Fraction}
use Rattle.plant.specs.declared.End.{End}
use Rattle.plant.specs.declared.End.TheVariants.{At, Endless}
use Rattle.plant.specs.declared.Interval.{Interval}
use Rattle.plant.specs.Delays.{ratio, no_delay, earliest_into, is_endless, latest_into, delays_into, le_f, later, sooner, both}
use Rattle.plant.specs.Box.{low, high}
use Rattle.delays.specs.Ranges.{Level, Rate, Levels, InInvariant, Small, SmallEnd, SmallInterval, SmallDelays}

ratio_small : (x y d : ℤ) → Level x → Level y → Rate d → 0 < nat_abs d → Small (ratio (x -ℤ y) d)
ratio_small x y d h k r l = record { num_small = omega (arith, abs_minus x y); den_positive = l; den_small = r }

-- at the rate -d
ratio_small_neg : (x y d : ℤ) → Level x → Level y → Rate d → 0 < nat_abs d → Small (ratio (x -ℤ y) (neg_ℤ d))
ratio_small_neg x y d h k r l = ratio_small x y (neg_ℤ d) h k (omega (arith, abs_neg d)) (omega (arith, abs_neg d))

-- a rate that a test tells from 0
below : (z : ℤ) → T (not (le_z (pos 0) z)) → 0 < nat_abs z
below (pos n) t = absurd (omega arith_z)
below (negsuc n) t = omega arith

above : (z : ℤ) → T (not (le_z z (pos 0))) → 0 < nat_abs z
above (pos n) t = omega arith_z
above (negsuc n) t = absurd (omega arith_z)

and_no_left : (s t : Bool) → T (not (s && t)) → T t → T (not s)
and_no_left true true h k = h
and_no_left true false h k = k
and_no_left false t h k = tt

module _ (p q a c lo hi : ℤ) (lp : Level p) (lq : Level q) (ra : Rate a) (rc : Rate c) (ll : Level lo) (lh : Level hi) where
  earliest_into_small : T (not (no_delay p q a c lo hi)) → Small (earliest_into p q a c lo hi)
  earliest_into_small t =
      let u = or_no (lt_z hi p && le_z (pos 0) a) (lt_z q lo && le_z c (pos 0)) t in
      by_test Small (lt_z hi p)
      (λ h. ratio_small_neg p hi a lp lh ra (below a (and_no (lt_z hi p) (le_z (pos 0) a) u.0 h)))
      (λ _. by_test Small (lt_z q lo)
      (λ h. ratio_small lo q c ll lq rc (above c (and_no (lt_z q lo) (le_z c (pos 0)) u.1 h)))
      (λ _. record { num_small = omega arith; den_positive = omega arith; den_small = omega arith }))

  pub latest_into_small : SmallEnd (latest_into p q a c lo hi)
  latest_into_small =
      by_test SmallEnd (is_endless p q a c lo hi) (λ _. tt)
      (λ t.
      let u = or_no (le_z a (pos 0) && le_z (pos 0) c) ((lt_z hi p && le_z (pos 0) c) || (lt_z q lo && le_z a (pos 0))) t in
      by_test Small (lt_z c (pos 0))
      (λ h. ratio_small_neg q lo c lq ll rc (below c (omega arith_z)))
      (λ h. ratio_small hi p a lh lp ra (above a (and_no_left (le_z a (pos 0)) (le_z (pos 0) c) u.0 (omega arith_z)))))

  pub into_small : SmallDelays (delays_into p q a c lo hi)
  unfolding delays_into
  into_small = by_test SmallDelays (no_delay p q a c lo hi) (λ _. tt) (λ n. record { earliest_small = earliest_into_small n; latest_small = latest_into_small })

-- ---- what two small intervals share is small

later_small : {e f : Fraction} → Small e → Small f → Small (later e f)
later_small {e} {f} s t = by_test Small (le_f e f) (λ _. t) (λ _. s)

pub sooner_small : (e f : End) → SmallEnd e → SmallEnd f → SmallEnd (sooner e f)
sooner_small Endless f s t = t
sooner_small (At e) Endless s t = s
sooner_small (At e) (At f) s t = by_test Small (le_f e f) (λ _. s) (λ _. t)

pub shared_small : {s t : Interval} → SmallInterval s → SmallInterval t → SmallInterval (both s t)
shared_small {s} {t} h k =
    record {
      earliest_small = later_small h.earliest_small k.earliest_small;
      latest_small = sooner_small s.latest t.latest h.latest_small k.latest_small;
    }

-- ---- the ends of a cut are levels

pub level_max : (x y : ℤ) → Level x → Level y → Level (max_z x y)
unfolding max_z
level_max x y h k = by_test Level (lt_z x y) (λ _. k) (λ _. h)

pub level_min : (x y : ℤ) → Level x → Level y → Level (min_z x y)
unfolding min_z
level_min x y h k = by_test Level (lt_z x y) (λ _. h) (λ _. k)

-- ---- a box inside an invariant of levels is one of levels

pub in_levels : {n : ℕ} {inv b : List ℤ} → Levels n inv → InInvariant n inv b → Levels n b
in_levels {n} {inv} {b} v h i l = record {
  there = omega (arith, h.sized);
  low_in = between (low b i) (h.inside.lower i l) (trans (h.is_ordered i l) (h.inside.higher i l)) (v i l).low_in (v i l).high_in;
  high_in = between (high b i) (trans (h.inside.lower i l) (h.is_ordered i l)) (h.inside.higher i l) (v i l).low_in (v i l).high_in;
}
