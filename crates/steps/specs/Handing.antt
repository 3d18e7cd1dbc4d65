-- How a step, the cut of a box and a start part are handed over, as a face: by the answer there is none, or its box stands at the front of the lent words. Where there is
-- none, nothing is said of the first places; the rest is unchanged.
use Rattle.std.specs.Prelude.{◌≡◌, Bool, cond, List, ℕ, ◌*◌, ℤ, length, take}
use Rattle.integers.specs.Words.{onto}
use Rattle.plant.specs.Box.{Face, absent, present}

-- of a face of n variables: the answer r, the words at exit, and those at entry
pub record Handed (n : ℕ) (r : Bool) (exit out : List ℤ) (face : Face) : Type 0 where
  pub is_face : face ≡ cond r (present (take (2 * n) exit)) absent
  pub is_exit : exit ≡ onto (take (2 * n) exit) out
  pub sized : length (take (2 * n) exit) ≡ 2 * n
