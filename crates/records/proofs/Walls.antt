-- A wall of an invariant stands at its variable and side.
use mathlib.Core.Path.{◌≡◌, refl}
use mathlib.Core.List.{List}
use Prim.Native.Nat.{ℕ, zero, suc, ◌+◌, ◌*◌, ◌≤◌}
use native.Mathlib.Nat.{add-zero}
use native.Mathlib.Omega.{arith}
use lib.IntN.{ℤ}
use Rattle.integers.specs.Words.{word}
use Rattle.plant.specs.Box.{low, high}
use Rattle.plant.specs.Model.{wall}

pub wall_at : (inv : List ℤ) (d s : ℕ) → s ≤ 1 → word inv (2 * d + s) ≡ wall inv d s
unfolding wall low high
wall_at inv d zero h = rw add-zero
wall_at inv d (suc zero) h = refl
wall_at inv d (suc (suc s)) h = absurd (omega arith)
