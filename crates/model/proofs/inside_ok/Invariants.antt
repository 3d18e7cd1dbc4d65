-- The flag is the test of the variables passed: the invariant is the definition itself, at i.
use mathlib.Core.Path.{◌≡◌}
use Rattle.plant.specs.Questions.{inside_ok}
use Rattle.model.proofs.inside_ok.Given as goal

abbrev pub invariant-loop-i : goal.invariant-loop-i
invariant-loop-i l = l.ok ≡ inside_ok l.i l.b l.c
