-- The words of the locations passed are filled in, and the next field is the first that names none of them.
use Rattle.model_files.proofs.CutTurns.{CutsFilled}
use Rattle.model_files.proofs.fill_cuts.Given as goal

abbrev pub invariant-loop-l : goal.invariant-loop-l
invariant-loop-l l = CutsFilled l.file l.from l.count l.initial.words l.to l.words l.at l.l
