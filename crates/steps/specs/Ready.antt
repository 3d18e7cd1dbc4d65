-- What is read is in range, and there is room for the box that is written.
use Rattle.std.specs.Prelude.{List, ℕ, ◌*◌, ◌≤◌, ℤ, length}
use Rattle.delays.specs.Ranges.{Level, Levels, Rates, InInvariant}

-- the box a, to be cut to the box b
pub record CutReady (n : ℕ) (a b out : List ℤ) : Type 0 where
  pub a_in : Levels n a
  pub b_in : Levels n b
  pub room : 2 * n ≤ length out

-- from a part inside the invariant to a wall value b
pub record WallReady (n : ℕ) (inv rate part : List ℤ) (b : ℤ) (out : List ℤ) : Type 0 where
  pub inv_in : Levels n inv
  pub rate_in : Rates n rate
  pub part_lies_in : InInvariant n inv part
  pub wall_in : Level b
  pub room : 2 * n ≤ length out

pub record SwitchReady (n : ℕ) (guard reset inv from out : List ℤ) : Type 0 where
  pub guard_in : Levels n guard
  pub reset_in : Levels n reset
  pub inv_in : Levels n inv
  pub from_in : Levels n from
  pub room : 2 * n ≤ length out
