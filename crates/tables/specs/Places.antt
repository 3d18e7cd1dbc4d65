-- Where the pieces of each location stand in a table.
use Rattle.std.specs.Prelude.{◌≡◌, List, ℕ, ◌≤◌, ℤ, length, get_or}
use Rattle.plant.specs.Model.{L#}
use Rattle.plant.specs.Tables.{pieces_before}

-- how many pieces stand before each location of the model m; and at L all of them
pub record Places (m : List ℤ) (places : List ℕ) : Type 0 where
  pub long : length places ≡ 65
  pub each : (l : ℕ) → l ≤ L# m → get_or places l 0 ≡ pieces_before m l
