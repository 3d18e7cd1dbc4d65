-- What the checks of a location's pieces ask of the words that they are lent.
use Rattle.std.specs.Prelude.{◌≡◌, List, ℕ, ◌+◌, ◌*◌, ◌<◌, ◌≤◌, ℤ, length, Option, Some, None}
use Rattle.plant.specs.declared.Cut.{Cut}

-- the ends of a cut's variable, if there is a cut, stand in a box of k words
abbrev pub CutNamed : ℕ → Option Cut → Type 0
CutNamed k None = Unit {0}
CutNamed k (Some cut) = 2 * cut.variable + 1 < k

-- a location: its invariant of n variables, and its cut
pub record LocationReady (n : ℕ) (inv : List ℤ) (cut : Option Cut) : Type 0 where
  pub n_small : n ≤ 6
  pub inv_length : length inv ≡ 2 * n
  pub named : CutNamed (2 * n) cut
