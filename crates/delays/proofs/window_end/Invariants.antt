-- The loop keeps the end of the window of the variables so far.
use Rattle.delays.proofs.WindowEnd.{EndSoFar}
use Rattle.delays.proofs.window_end.Given as goal

abbrev pub invariant-loop-i : goal.invariant-loop-i
invariant-loop-i l = EndSoFar l.n l.inv l.rate l.part l.end l.i
