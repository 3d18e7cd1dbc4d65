-- The window of a part that is inside the invariant: it begins at 0, so its end says all of it.
use Rattle.std.specs.Prelude.{◌≡◌, List, ℕ, ℤ, pos, ◌≤ℤ◌, Some}
use Rattle.plant.specs.declared.End.{End}
use Rattle.plant.specs.declared.Interval.{Interval}
use Rattle.plant.specs.Box.{low, high}
use Rattle.plant.specs.Delays.{ratio}
use Rattle.plant.specs.Steps.{window}
use Rattle.delays.specs.Ranges.{SmallEnd}

-- variable i of a part can be in the invariant's range: the part is neither above nor below it
pub record WithinAt (inv part : List ℤ) (i : ℕ) : Type 0 where
  pub not_above : low part i ≤ℤ high inv i
  pub not_below : low inv i ≤ℤ high part i

-- the delays from 0 to an end
abbrev pub up_to : End → Interval
up_to e = record { earliest = ratio (pos 0) (pos 1); latest = e }

-- the window of a part ends at e
pub record WindowEnd (n : ℕ) (inv rate part : List ℤ) (e : End) : Type 0 where
  pub is_window : window n inv rate part ≡ Some (up_to e)
  pub small : SmallEnd e
