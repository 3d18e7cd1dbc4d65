-- The file's number is the refusal, or its table's file is asked.
use mathlib.Core.Path.{◌≡◌, ap, ◌∙◌}
use Prim.Native.Nat.{ℕ}
use Rattle.std.specs.Prelude.{Result}
use Rattle.std.proofs.Common.{arith}
use Rattle.std.proofs.lemmas.Result.{err_from_is_err_and}
use Rattle.plant.specs.Calls.{verdict_reply, check_by}
use Rattle.interface.proofs.Reading.{read_yes, read_front, model_passes}
use Rattle.interface.proofs.Checking.{check_refused, check_words}
use Rattle.analysis.proofs.Calls.{verdict_is}
use Rattle.host.proofs.Reading.{refused_by}
use Rattle.host.proofs.check_in.Goals as goal

pub returns-in_err-size : goal.returns-in_err-size
returns-in_err-size g c =
    let p = err_from_is_err_and c.from_residual.result c.from_residual.ensures.1 in
    rw (p.1, p.2) (λ most. let k = refused_by _ _ _ c.in_err-size.ensures most in check_refused _ _ k.0 k.1)

pub shared_whole_as_front-check_table : goal.shared_whole_as_front-check_table
shared_whole_as_front-check_table g c =
    let there = (read_front _ _ c.in_ok-size.ensures).there in
    (omega (arith, there), omega arith)

pub check_table-requires : goal.check_table-requires
check_table-requires g c = model_passes _ _ c.in_ok-size.ensures

pub returns : goal.returns
returns g c = λ _.
    check_words _ _ (read_yes _ _ c.in_ok-size.ensures) (read_front _ _ c.in_ok-size.ensures).are
    (ap (λ (v : Result Unit ℕ). (verdict_reply v).code) (verdict_is c.check_table.result) ∙ ap (λ (q : ℕ). (check_by q).code) c.check_table.ensures)
