-- One turn of a loop: a test of every number below i, with the test of i, is the test of every number below i + 1.
use mathlib.Core.Path.{◌≡◌, refl}
use mathlib.Core.Bool.{Bool, true, ◌&&◌}
use Prim.Native.Nat.{ℕ, ◌+◌}
use native.Mathlib.Numerals.{add-one}
use Rattle.integers.specs.Counted.{all_below}

pub all_none : (f : ℕ → Bool) → all_below 0 f ≡ true
unfolding all_below
all_none f = refl

pub all_more : (f : ℕ → Bool) (i : ℕ) → all_below (i + 1) f ≡ (all_below i f && f i)
unfolding all_below
all_more f i = rw add-one refl

pub ruleset turns = (all_none, all_more)
