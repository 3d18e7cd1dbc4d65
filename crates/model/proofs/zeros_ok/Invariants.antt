-- The flag is the test of the words passed: the invariant is the definition itself, at i.
use mathlib.Core.Path.{◌≡◌}
use Rattle.plant.specs.Questions.{zeros_ok}
use Rattle.model.proofs.zeros_ok.Given as goal

abbrev pub invariant-loop-i : goal.invariant-loop-i
invariant-loop-i l = l.ok ≡ zeros_ok l.i l.s
