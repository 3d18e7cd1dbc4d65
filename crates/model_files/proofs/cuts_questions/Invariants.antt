-- The invariant: the fields passed are all answered yes, and the next may name a location from the least on.
use Prim.Native.Nat.{◌-◌}
use lib.ListN.{length}
use Rattle.model_files.proofs.CutTurns.{CutsAsked}
use Rattle.model_files.proofs.cuts_questions.Given as goal

abbrev pub invariant-loop-at : goal.invariant-loop-at
invariant-loop-at l = CutsAsked l.file l.from l.count l.least l.at

abbrev pub decreases-loop-at : goal.decreases-loop-at
decreases-loop-at l = length l.file - l.at
