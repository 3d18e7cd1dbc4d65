-- After all questions the analysis may be made, and the counters hold what is added.
use native.Mathlib.Omega.{arith}
use Rattle.desk.proofs.Yes.{analysis_yes, jobs_hold, passes_hold}
use Rattle.desk.proofs.serve.Goals as goal

pub analyse_passed-answer-requires : goal.analyse_passed-answer-requires
analyse_passed-answer-requires c = analysis_yes _ _ _ _ _ c.in_default.ensures

pub overflow_add-jobs : goal.overflow_add-jobs
overflow_add-jobs c = omega (arith, jobs_hold _ _ _ _ _ c.in_default.ensures)

pub overflow_add-passes : goal.overflow_add-passes
overflow_add-passes c = omega (arith, c.passes_of-k.ensures, passes_hold _ _ _ _ _ c.in_default.ensures _ _ _ c.analyse_passed-answer.ensures)
