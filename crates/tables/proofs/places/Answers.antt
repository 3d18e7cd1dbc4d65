-- After l turns the places of the locations up to l are written.
use Rattle.std.proofs.Common.{sym, arith}
use Rattle.std.proofs.lemmas.Grind.{common_steps}
use Rattle.plant.proofs.PieceCases.{before_none, before_more}
use Rattle.plant.proofs.Tables.{pieces-most}
use Rattle.tables.proofs.Sizes.{before_most}
use Rattle.tables.proofs.places.Goals as goal

pub loop-l-init : goal.loop-l-init
loop-l-init c =
    let none = before_none c.args.model.now in
    record { long = grind (arith, common_steps); before_is = sym none; each = λ k h. grind (arith, common_steps, none) }

pub overflow_add-before : goal.overflow_add-before
overflow_add-before c =
    let m = c.args.model.now in
    let l = c.loop-l.l in
    record { fits = omega (arith, before_most m c.requires.0.head l (omega arith), pieces-most m l c.requires.0.head.n_small) }

pub loop-l-preserved : goal.loop-l-preserved
loop-l-preserved c =
    let more = before_more c.args.model.now c.loop-l.l in
    record {
      long = grind (arith, common_steps);
      before_is = omega (arith, more);
      each = λ k h. grind (arith, common_steps, more, c.loop-l.invariant.each k);
    }

pub returns : goal.returns
returns c = record { long = c.loop-l.invariant.long; each = λ k h. c.loop-l.invariant.each k (omega arith) }
