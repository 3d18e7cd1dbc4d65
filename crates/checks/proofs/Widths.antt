-- Widths of levels and their sums are small.
use mathlib.Core.List.{List}
use Prim.Native.Nat.{ℕ, ◌*◌, ◌≤◌}
use lib.IntN.{ℤ}
use Rattle.delays.specs.Ranges.{Levels}
use Rattle.plant.specs.Tables.{all_widths}
use Rattle.plant.proofs.Widths as widths

pub widths_small : (b : List ℤ) (n : ℕ) → Levels n b → all_widths n b ≤ n * 2000000
widths_small b n h = widths.widths_small n b (λ i l. widths.width_small b i (h i l).low_in (h i l).high_in)
