-- The flag is the test of the variables passed.
use mathlib.Core.Path.{◌≡◌}
use Rattle.integers.specs.Counted.{all_below}
use Rattle.plant.specs.Questions.{single_at}
use Rattle.model.proofs.all_single.Given as goal

abbrev pub invariant-loop-i : goal.invariant-loop-i
invariant-loop-i l = l.ok ≡ all_below l.i (single_at l.model l.e)
