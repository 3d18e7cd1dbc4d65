-- The flag before the box is the answer whether there is a start part.
use Rattle.std.proofs.Common.{sym, ◌∙◌, arith}
use Rattle.std.proofs.lemmas.Grind.{common_steps}
use Rattle.plant.specs.Model.{n#}
use Rattle.checks.proofs.Parts.{flag_put}
use Rattle.checks.proofs.touch.start_words.Goals as goal

pub returns : goal.returns
returns c =
    let r = c.start_part-there in
    flag_put (n# c.args.model.now) _ r.result r.new.out c.args.words.now (grind (arith, common_steps)) (omega arith) ∙ sym r.ensures.is_face
