-- The ranges in which the code computes: levels and rates of document 01, and the delays that they give.
use Rattle.std.specs.Prelude.{◌≡◌, ℕ, ◌+◌, ◌*◌, ◌≤◌, ◌<◌, List, ℤ, nat_abs, length, Option, Some, None}
use Rattle.plant.specs.Box.{low, high, Ordered, Inside}
use Rattle.plant.specs.declared.Fraction.{Fraction}
use Rattle.plant.specs.declared.End.{End}
use Rattle.plant.specs.declared.End.TheVariants.{At, Endless}
use Rattle.plant.specs.declared.Interval.{Interval}

-- levels lie in -1,000,000..1,000,000, rates in -1,000..1,000
abbrev pub Level : ℤ → Type 0
Level z = nat_abs z ≤ 1000000

abbrev pub Rate : ℤ → Type 0
Rate z = nat_abs z ≤ 1000

-- the low and the high of variable i stand in the words b, and are levels
pub record LevelAt (b : List ℤ) (i : ℕ) : Type 0 where
  pub there : 2 * i + 1 < length b
  pub low_in : Level (low b i)
  pub high_in : Level (high b i)

-- and are rates
pub record RateAt (b : List ℤ) (i : ℕ) : Type 0 where
  pub there : 2 * i + 1 < length b
  pub low_in : Rate (low b i)
  pub high_in : Rate (high b i)

-- the same of each of n variables
abbrev pub Levels : ℕ → List ℤ → Type 0
Levels n b = (i : ℕ) → i < n → LevelAt b i

abbrev pub Rates : ℕ → List ℤ → Type 0
Rates n b = (i : ℕ) → i < n → RateAt b i

-- a box of n variables, ordered and inside the invariant
pub record InInvariant (n : ℕ) (inv b : List ℤ) : Type 0 where
  pub sized : length b ≡ 2 * n
  pub is_ordered : Ordered n b
  pub inside : Inside n b inv

-- a delay between two levels at a rate
pub record Small (f : Fraction) : Type 0 where
  pub num_small : f.num ≤ 2000000
  pub den_positive : 0 < f.den
  pub den_small : f.den ≤ 1000

abbrev pub SmallEnd : End → Type 0
SmallEnd (At f) = Small f
SmallEnd Endless = Unit {0}

pub record SmallInterval (t : Interval) : Type 0 where
  pub earliest_small : Small t.earliest
  pub latest_small : SmallEnd t.latest

-- where there is an interval of delays, it is small
abbrev pub SmallDelays : Option Interval → Type 0
SmallDelays None = Unit {0}
SmallDelays (Some t) = SmallInterval t
