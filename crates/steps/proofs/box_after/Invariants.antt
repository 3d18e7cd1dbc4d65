-- The loop has written the ends of the first i variables, and each of them is ordered.
use Rattle.plant.specs.Steps.{low_after, high_after}
use Rattle.steps.proofs.Written.{OrderedSoFar}
use Rattle.steps.proofs.box_after.Given as goal

abbrev pub invariant-loop-i : goal.invariant-loop-i
invariant-loop-i l =
    OrderedSoFar (low_after l.n l.inv l.rate l.part l.d l.b l.t) (high_after l.n l.inv l.rate l.part l.d l.b l.t) l.initial.out l.out l.i
