-- What is known of a model and a table that passed their questions.
use Rattle.passes.proofs.Reading.{whole, placed}
use Rattle.passes.proofs.pass.Goals as goal

pub invariant_of-given : goal.invariant_of-given
invariant_of-given c =
    let m = c.args.model.now in
    let t = c.args.table.now in
    record { checked = c.requires.0; counted = c.requires.1; whole = whole m t c.requires.0; placed = placed m t c.requires.0 }
