-- A refusal zeroes the words.
use mathlib.Core.Path.{◌≡◌, refl, sym, ap, ◌∙◌}
use native.Mathlib.Omega.{arith}
use lib.IntN.{pos}
use lib.ListN.{length, replicate}
use Rattle.plant.proofs.Reading.{refused_at, past}
use Rattle.plant.proofs.Refusing.{number_not_0}
use Rattle.model_files.proofs.read_records.Goals as goal

pub returns-in-Err : goal.returns-in-Err
returns-in-Err c =
    let e : length c.fill_asked.new.words ≡ length c.args.words.now = omega arith in
    refused_at _ c.in-Err.ensures.answer (number_not_0 c.in-Err.refusal) (c.fill.ensures.after (λ y z. z) ∙ ap (λ k. replicate k (pos 0)) e)

pub returns : goal.returns
returns c = past _ (sym c.in_default.ensures.answer) (rw (c.size.ensures, c.in_default.ensures.filled) refl)
