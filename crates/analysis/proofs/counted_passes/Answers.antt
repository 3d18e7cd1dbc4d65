-- Before each turn the table is table k, and the answer is the one that the search gives from there on (`Going`).
use mathlib.Core.Path.{◌≡◌}
use Rattle.std.proofs.Common.{arith}
use Rattle.plant.specs.Tables.{pass}
use Rattle.analysis.proofs.Counting.{going_first, going_unknown, going_safe, going_limit, going_more}
use Rattle.analysis.proofs.counted_passes.Goals as goal

pub loop-links-init : goal.loop-links-init
loop-links-init c = let clear = c.fill.ensures.after (λ y h. h) in rw clear (going_first _ _ _ _ c.requires.0.size c.requires.2.size)

pub returns-then-touching : goal.returns-then-touching
returns-then-touching c = going_unknown _ _ _ _ _ c.loop-links.invariant (cc)

pub returns-then-fixpoint : goal.returns-then-fixpoint
returns-then-fixpoint c = going_safe _ _ _ _ _ c.loop-links.invariant (cc) (cc)

pub returns-then-k-limit : goal.returns-then-k-limit
returns-then-k-limit c = going_limit _ _ _ _ _ c.loop-links.invariant (cc) (cc) c.if-k-limit.true

pub loop-links-preserved : goal.loop-links-preserved
loop-links-preserved c =
    let is_pass : c.copy.new.to ≡ pass c.args.model.now c.loop-links.table = cc in
    rw is_pass (going_more _ _ _ _ _ c.loop-links.invariant (cc) (cc) (omega arith) _ (cc))
