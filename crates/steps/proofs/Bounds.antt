-- The words of a step fit 32 bits, whether or not its box is ordered.
use mathlib.Core.Bool.{Bool, true, false, cond}
use mathlib.Core.List.{List}
use Prim.Native.Nat.{ℕ, ◌≤◌}
use native.Mathlib.Omega.{arith}
use lib.Dec.{eqb}
use lib.IntN.{ℤ, pos, nat_abs, ◌*ℤ◌}
use lib.Signed.{lt_z}
use Rattle.integers.specs.Rounding.{floor_z, ceil_z, max_z, min_z}
use Rattle.integers.proofs.Signed.{abs_add, floor_abs, ceil_abs, scaled}
use Rattle.plant.specs.declared.Fraction.{Fraction}
use Rattle.plant.specs.declared.End.{End}
use Rattle.plant.specs.declared.End.TheVariants.{At, Endless}
use Rattle.plant.specs.declared.Interval.{Interval}
use Rattle.plant.specs.Steps.{low_at, high_at, Bound, unbounded, bound, low_late, high_late, low_bound, high_bound, cut_low, cut_high, low_after, high_after}
use Rattle.plant.specs.Box.{low, high}
use Rattle.delays.specs.Ranges.{Level, Rate, LevelAt, RateAt, Small, SmallEnd, SmallInterval}
use Rattle.integers.proofs.Rounding.{floor_shift, ceil_shift}

-- a level and a rate times a delay
abbrev pub Word : ℤ → Type 0
Word z = nat_abs z ≤ 2001000000

abbrev WordBound : Bound → Type 0
WordBound unbounded = Unit {0}
WordBound (bound x) = Word x

either : {A : Type 0} (P : A → Type 0) (f : Bool) (x y : A) → P x → P y → P (cond f x y)
either P true x y h k = h
either P false x y h k = k

pub max_abs : {k : ℕ} (x y : ℤ) → nat_abs x ≤ k → nat_abs y ≤ k → nat_abs (max_z x y) ≤ k
unfolding max_z
max_abs {k} x y g h = either (λ (z : ℤ). nat_abs z ≤ k) (lt_z x y) y x h g

pub min_abs : {k : ℕ} (x y : ℤ) → nat_abs x ≤ k → nat_abs y ≤ k → nat_abs (min_z x y) ≤ k
unfolding min_z
min_abs {k} x y g h = either (λ (z : ℤ). nat_abs z ≤ k) (lt_z x y) x y g h

pub cond_abs : {k : ℕ} (f : Bool) (x y : ℤ) → nat_abs x ≤ k → nat_abs y ≤ k → nat_abs (cond f x y) ≤ k
cond_abs {k} f x y g h = either (λ (z : ℤ). nat_abs z ≤ k) f x y g h

module _ (p a : ℤ) (lp : Level p) (ra : Rate a) where
  low_at_word : (f : Fraction) → Small f → Word (low_at p a f)
  unfolding low_at
  low_at_word f s =
      let z = a *ℤ pos f.num in
      rw (floor_shift p z f.den s.den_positive)
      (omega (arith, abs_add p (floor_z z f.den), floor_abs z f.den, scaled a f.num ra s.num_small))

  high_at_word : (f : Fraction) → Small f → Word (high_at p a f)
  unfolding high_at
  high_at_word f s =
      let z = a *ℤ pos f.num in
      rw (ceil_shift p z f.den s.den_positive)
      (omega (arith, abs_add p (ceil_z z f.den), ceil_abs z f.den, scaled a f.num ra s.num_small))

  low_late_word : (e : End) → SmallEnd e → WordBound (low_late p a e)
  low_late_word (At f) s = low_at_word f s
  low_late_word Endless s = tt

  high_late_word : (e : End) → SmallEnd e → WordBound (high_late p a e)
  high_late_word (At f) s = high_at_word f s
  high_late_word Endless s = tt

  low_bound_word : (t : Interval) → SmallInterval t → WordBound (low_bound p a t)
  low_bound_word t s = either WordBound (lt_z a (pos 0)) (low_late p a t.latest) (bound (low_at p a t.earliest)) (low_late_word t.latest s.latest_small) (low_at_word t.earliest s.earliest_small)

  high_bound_word : (t : Interval) → SmallInterval t → WordBound (high_bound p a t)
  high_bound_word t s = either WordBound (lt_z (pos 0) a) (high_late p a t.latest) (bound (high_at p a t.earliest)) (high_late_word t.latest s.latest_small) (high_at_word t.earliest s.earliest_small)

cut-low-word : (m : Bound) (v : ℤ) → WordBound m → Level v → Word (cut_low m v)
cut-low-word unbounded v h l = omega arith
cut-low-word (bound x) v h l = max_abs x v h (omega arith)

cut-high-word : (m : Bound) (v : ℤ) → WordBound m → Level v → Word (cut_high m v)
cut-high-word unbounded v h l = omega arith
cut-high-word (bound x) v h l = min_abs x v h (omega arith)

module _ (n : ℕ) (inv rate part : List ℤ) (d : ℕ) (b : ℤ) (t : Interval) (i : ℕ) where
  pub low_after_word : LevelAt inv i → RateAt rate i → LevelAt part i → Level b → SmallInterval t → Word (low_after n inv rate part d b t i)
  unfolding low_after
  low_after_word v a p l s =
      cut-low-word (cond (eqb i d) (bound b) (low_bound (low part i) (low rate i) t)) (low inv i)
      (either WordBound (eqb i d) (bound b) (low_bound (low part i) (low rate i) t) (omega arith) (low_bound_word (low part i) (low rate i) p.low_in a.low_in t s))
      v.low_in

  pub high_after_word : LevelAt inv i → RateAt rate i → LevelAt part i → Level b → SmallInterval t → Word (high_after n inv rate part d b t i)
  unfolding high_after
  high_after_word v a p l s =
      cut-high-word (cond (eqb i d) (bound b) (high_bound (high part i) (high rate i) t)) (high inv i)
      (either WordBound (eqb i d) (bound b) (high_bound (high part i) (high rate i) t) (omega arith) (high_bound_word (high part i) (high rate i) p.high_in a.high_in t s))
      v.high_in
