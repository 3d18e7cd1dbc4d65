-- A field is refused, or the file has ended.
use Rattle.std.proofs.lemmas.Result.{err_from_is_err_and}
use Rattle.model_files.proofs.CutTurns.{asked_stop, asked_all}
use Rattle.model_files.proofs.cuts_questions.Goals as goal

pub returns-in_err-cut_questions : goal.returns-in_err-cut_questions
returns-in_err-cut_questions c =
    let p = err_from_is_err_and c.from_residual.result c.from_residual.ensures.1 in
    rw (p.1, p.2) (asked_stop _ _ _ c.loop-at.invariant _ c.loop-at-test.true c.in_err-cut_questions.ensures)

pub returns : goal.returns
returns c = asked_all c.args.file.now c.args.from c.args.count c.loop-at.invariant c.loop-at-test.false
