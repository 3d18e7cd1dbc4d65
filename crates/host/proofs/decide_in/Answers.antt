-- The file's number is the refusal, or its words are decided.
use mathlib.Core.Path.{refl}
use Rattle.std.proofs.Common.{arith}
use Rattle.std.proofs.lemmas.Result.{err_from_is_err_and}
use Rattle.interface.proofs.Reading.{read_yes, read_front, model_passes}
use Rattle.interface.proofs.Deciding.{decide_refused, decide_words}
use Rattle.host.proofs.Reading.{refused_by}
use Rattle.host.proofs.decide_in.Goals as goal

pub returns-in_err-size-clause-decided : goal.returns-in_err-size-clause-decided
returns-in_err-size-clause-decided g c =
    let p = err_from_is_err_and c.from_residual.result c.from_residual.ensures.1 in
    rw (p.1, p.2) (λ most. let k = refused_by _ _ _ c.in_err-size.ensures most in decide_refused _ _ _ refl k.0 k.1)

pub shared_whole_as_front-decide_words : goal.shared_whole_as_front-decide_words
shared_whole_as_front-decide_words g c =
    let there = (read_front _ _ c.in_ok-size.ensures).there in
    (omega (arith, there), omega arith)

pub decide_words-requires : goal.decide_words-requires
decide_words-requires g c = model_passes _ _ c.in_ok-size.ensures

pub returns-clause-decided : goal.returns-clause-decided
returns-clause-decided g c = λ _. decide_words _ _ _ (read_yes _ _ c.in_ok-size.ensures) (read_front _ _ c.in_ok-size.ensures).are c.decide_words.ensures.decided
