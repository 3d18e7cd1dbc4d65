-- The loop keeps a SharedSoFar: no cut so far is empty, and the shared is what the delays so far share. A variable whose cut is
-- empty, or that has no delay, settles the answer, and the comparisons before the loop find most of these.
use Rattle.delays.proofs.Touching.{SharedSoFar}
use Rattle.delays.proofs.touches.Given as goal

abbrev pub invariant-loop-i : goal.invariant-loop-i
invariant-loop-i l = SharedSoFar l.n l.inv l.rate l.part l.forbidden l.shared l.i
