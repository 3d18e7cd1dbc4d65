-- The first words of those that are lent.
use mathlib.Core.Path.{◌≡◌}
use mathlib.Core.List.{List}
use Prim.Native.Nat.{ℕ, ◌≤◌}
use lib.IntN.{ℤ}
use lib.ListN.{length, take}
use lib.Seq.{length-take-le}

pub lent : (n : ℕ) (words : List ℤ) → n ≤ length words → length (take n words) ≡ n
lent n words h = length-take-le n words h
