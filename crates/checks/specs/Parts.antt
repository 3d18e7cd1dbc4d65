-- The words of a location's parts, as the search for a touch has them: `start` holds those of its start part, and its pieces stand
-- behind the earlier ones in the table.
use Rattle.std.specs.Prelude.{List, ℕ, zero, suc, ◌+◌, ◌*◌, ◌<◌, ◌≤◌, ℤ, length, take, drop}
use Rattle.plant.specs.Tables.{face_size}

-- of a location of n variables: part 0 is its start part, part q + 1 its piece q
unfoldable pub part_words : (n : ℕ) (start table : List ℤ) (earlier p : ℕ) → List ℤ
part_words n start table earlier zero = take (face_size n) start
part_words n start table earlier (suc q) = take (face_size n) (drop ((earlier + q) * face_size n) table)

-- they are there
pub record PartAt (n : ℕ) (start table : List ℤ) (earlier p : ℕ) : Type 0 where
  pub n_small : n ≤ 6
  pub start_there : face_size n ≤ length start
  pub earlier_small : earlier ≤ 1536
  pub few : p ≤ 24
  pub piece_there : 0 < p → (earlier + p) * face_size n ≤ length table
