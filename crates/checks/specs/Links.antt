-- The forbidden boxes of a location, from the last to the first: a box b stands as b + 1, and 0 is none.
use Rattle.std.specs.Prelude.{◌≡◌, cond, List, ℕ, zero, suc, ◌<◌, eqb, ℤ, length, get_or}
use Rattle.plant.specs.Model.{forbidden_location}

-- the last box of location l below box k
unfoldable pub last_box : List ℤ → (l k : ℕ) → ℕ
last_box m l zero = 0
last_box m l (suc k) = cond (eqb (forbidden_location m k) l) (suc k) (last_box m l k)

-- the boxes below k are linked, in two lists of 64: `last` has the last box of each location, `before` the one before each
-- box in its location
pub record Linked (m : List ℤ) (k : ℕ) (last before : List ℕ) : Type 0 where
  pub last_long : length last ≡ 64
  pub before_long : length before ≡ 64
  pub last_is : (l : ℕ) → l < 64 → get_or last l 0 ≡ last_box m l k
  pub before_is : (b : ℕ) → b < k → get_or before b 0 ≡ last_box m (forbidden_location m b) b
