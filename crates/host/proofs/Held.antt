-- N words that are held are enough for a table.
use mathlib.Core.List.{List}
use Prim.Native.Nat.{ℕ, ◌≤◌}
use native.Mathlib.Omega.{arith}
use lib.IntN.{ℤ, pos}
use lib.ListN.{length, replicate, length-replicate}
use Rattle.plant.specs.Tables.{table_size}

pub fits : (m : List ℤ) (N : ℕ) → table_size m ≤ N → table_size m ≤ length (replicate N (pos 0))
fits m N h = omega (arith, length-replicate N (pos 0))
