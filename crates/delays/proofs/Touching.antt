-- The touch test goes through the variables and keeps the interval of delays that serve all so far. One variable whose cut
-- is empty, or that no delay brings into its range, settles the test.
use Rattle.std.specs.Prelude.{Option, Some, None}
use mathlib.Core.Path.{◌≡◌, refl, sym, ap, ap₂, ◌∙◌, subst}
use mathlib.Core.Logic.{⊎_elim}
use mathlib.Core.Bool.{Bool, true, false, not, ◌&&◌, ◌||◌}
use mathlib.Core.List.{List}
use Prim.Native.Nat.{ℕ, zero, suc, ◌+◌, ◌≤◌, ◌<◌}
use native.Mathlib.Numerals.{add-one}
use native.Mathlib.Omega.{arith}
use lib.Dec.{T, not_T}
use lib.IntN.{ℤ}
use lib.Signed.{◌≤ℤ◌, lt_z}
use Rattle.integers.specs.Rounding.{max_z, min_z}
use Rattle.integers.proofs.Parts.{arith_z}
use Rattle.integers.proofs.Tests.{or_yes, is_true, is_false}
use Rattle.integers.proofs.Counted.{split}
use Rattle.plant.specs.declared.Interval.{Interval}
use Rattle.plant.specs.Box.{low, high, ordered, cut}
use Rattle.plant.specs.Delays.{no_delay, delays_into, both_delays, has_delay, any_delay, reaches_end, both}
use Rattle.plant.specs.Steps.{delays_into_box, touches}
use Rattle.plant.proofs.Boxes.{low_cut, high_cut, ordered_yes, ordered_intro}
use Rattle.delays.specs.Ranges.{Level, LevelAt, SmallInterval}
use Rattle.delays.proofs.Small.{shared_small, level_max, level_min}

-- delays shared with none are none; two intervals share an interval
both_never : (s t : Option Interval) → t ≡ None → both_delays s t ≡ None
unfolding both_delays
both_never None t e = refl
both_never (Some s) t e = ap (both_delays (Some s)) e

pub both_between : {s t : (Option Interval)} {w v : Interval} → s ≡ Some w → t ≡ Some v → both_delays s t ≡ Some (both w v)
unfolding both_delays
both_between e f = ap₂ both_delays e f

not_less : (a b : ℤ) → lt_z a b ≡ false → b ≤ℤ a
not_less a b e = let t : T (not (lt_z a b)) = subst (λ (x : Bool). T (not x)) (sym e) tt in omega arith_z

pub and_false : (s t : Bool) → t ≡ false → s && t ≡ false
and_false true t e = e
and_false false t e = refl

never : (p q a c lo hi : ℤ) → no_delay p q a c lo hi ≡ true → delays_into p q a c lo hi ≡ None
unfolding delays_into
never p q a c lo hi e = simp e

-- ---- variable i

-- its range of the box cut to the invariant, and the delays of the part into it
abbrev pub lowest : (inv box : List ℤ) → ℕ → ℤ
lowest inv box i = max_z (low box i) (low inv i)

abbrev pub highest : (inv box : List ℤ) → ℕ → ℤ
highest inv box i = min_z (high box i) (high inv i)

abbrev pub delays_at : (inv rate part box : List ℤ) → ℕ → Option Interval
delays_at inv rate part box i = delays_into (low part i) (high part i) (low rate i) (high rate i) (lowest inv box i) (highest inv box i)

abbrev pub no_delay_at : (inv rate part box : List ℤ) → ℕ → Bool
no_delay_at inv rate part box i = no_delay (low part i) (high part i) (low rate i) (high rate i) (lowest inv box i) (highest inv box i)

module _ {inv box : List ℤ} {i : ℕ} (v : LevelAt inv i) (b : LevelAt box i) where
  pub lowest_in : Level (lowest inv box i)
  lowest_in = level_max (low box i) (low inv i) b.low_in v.low_in

  pub highest_in : Level (highest inv box i)
  highest_in = level_min (high box i) (high inv i) b.high_in v.high_in

-- ---- all variables

module _ (n : ℕ) (inv rate part box : List ℤ) where
  -- the box cut to the invariant
  abbrev region : List ℤ
  region = cut n box inv

  -- before variable i: no cut so far is empty, and the shared is what the delays so far share
  pub record SharedSoFar (w : Interval) (i : ℕ) : Type 0 where
    pub cuts : (j : ℕ) → j < i → low region j ≤ℤ high region j
    pub shares : delays_into_box rate part region i ≡ Some w
    pub small : SmallInterval w

  pub shared_start : SharedSoFar any_delay 0
  unfolding delays_into_box
  shared_start =
      record {
        cuts = λ j l. absurd (omega arith);
        shares = refl;
        small = record { earliest_small = record { num_small = omega arith; den_positive = omega arith; den_small = omega arith }; latest_small = tt };
      }

  -- the delays of variable i in the definition
  delays_at_lem : (i : ℕ) → i < n → delays_into_box rate part region (suc i) ≡ both_delays (delays_into_box rate part region i) (delays_at inv rate part box i)
  unfolding delays_into_box
  delays_at_lem i l = ap₂ (λ (x y : ℤ). both_delays (delays_into_box rate part region i) (delays_into (low part i) (high part i) (low rate i) (high rate i) x y)) (low_cut n box inv i l) (high_cut n box inv i l)

  -- the test of a cut's range
  cut_holds : (i : ℕ) → i < n → lt_z (highest inv box i) (lowest inv box i) ≡ false → low region i ≤ℤ high region i
  cut_holds i l u = rw (low_cut n box inv i l, high_cut n box inv i l) (not_less (highest inv box i) (lowest inv box i) u)

  pub shared_more : {w t : Interval} {i : ℕ} → SharedSoFar w i → i < n → lt_z (highest inv box i) (lowest inv box i) ≡ false → delays_at inv rate part box i ≡ Some t → SmallInterval t → SharedSoFar (both w t) (i + 1)
  shared_more {w} {t} {i} h l u e k =
      record {
        cuts = λ j m. ⊎_elim (h.cuts j) (λ q. subst (λ (x : ℕ). low region x ≤ℤ high region x) (sym q) (cut_holds i l u)) (split j i (omega arith));
        shares = rw add-one (delays_at_lem i l ∙ both_between h.shares e);
        small = shared_small h.small k;
      }

  pub shared_end : {w : Interval} {i : ℕ} → SharedSoFar w i → i ≡ n → reaches_end w.earliest w.latest ≡ touches n inv rate part box
  unfolding touches has_delay
  shared_end {w} {i} h e =
      let o : ordered n region ≡ true = is_true (ordered_intro n region (λ j l. h.cuts j (omega arith))) in
      let d : delays_into_box rate part region n ≡ Some w = subst (λ (x : ℕ). delays_into_box rate part region x ≡ Some w) e h.shares in
      simp (o, d)

  -- a cut that is empty is never touched
  pub empty_cut : (i : ℕ) → i < n → lt_z (highest inv box i) (lowest inv box i) ≡ true → touches n inv rate part box ≡ false
  unfolding touches
  empty_cut i l e =
      let o : ordered n region ≡ false = is_false (not_T (ordered n region) (λ t. omega (arith_z, low_cut n box inv i l, high_cut n box inv i l, ordered_yes n region t i l))) in
      simp o

  -- once a variable has no delay, none is shared any more
  never_stays : (i k : ℕ) → i < k → k ≤ n → delays_at inv rate part box i ≡ None → delays_into_box rate part region k ≡ None
  unfolding both_delays
  never_stays i zero l m e = absurd (omega arith)
  never_stays i (suc k) l m e =
      delays_at_lem k (omega arith) ∙
      ⊎_elim (λ u. ap (λ (s : Option Interval). both_delays s (delays_at inv rate part box k)) (never_stays i k u (omega arith) e))
      (λ q. both_never (delays_into_box rate part region k) (delays_at inv rate part box k) (subst (λ (x : ℕ). delays_at inv rate part box x ≡ None) q e))
      (split i k l)

  pub no_delay_lem : (i : ℕ) → i < n → delays_at inv rate part box i ≡ None → touches n inv rate part box ≡ false
  unfolding touches has_delay
  no_delay_lem i l e = and_false (ordered n region) (has_delay (delays_into_box rate part region n)) (ap has_delay (never_stays i n l (omega arith) e))

  -- the test of one variable by comparisons alone
  pub ruled_out : (i : ℕ) → i < n → lt_z (highest inv box i) (lowest inv box i) || no_delay_at inv rate part box i ≡ true → touches n inv rate part box ≡ false
  ruled_out i l e =
      ⊎_elim (λ t. empty_cut i l (is_true t))
      (λ t. no_delay_lem i l (never (low part i) (high part i) (low rate i) (high rate i) (lowest inv box i) (highest inv box i) (is_true t)))
      (or_yes (lt_z (highest inv box i) (lowest inv box i)) (no_delay_at inv rate part box i) (subst T (sym e) tt))
