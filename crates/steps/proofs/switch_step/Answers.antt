-- The loop has written where the first i variables land, and tested the order of both cuts; what is left of the mask begins with bit i.
use Rattle.std.proofs.Common.{◌≡◌, arith, sym, ◌∙◌}
use Rattle.std.proofs.lemmas.Bool.Decides.{nat_tests}
use Rattle.plant.specs.Model.{masked}
use Rattle.integers.proofs.Signed.{fits32}
use Rattle.steps.proofs.Written.{none_written, next_written, not_less}
use Rattle.steps.proofs.Landing.{guarded_low, guarded_high, landed_low, landed_high, landed_by, lands_by, none_both, next_both, whole_mask, half_mask, landed_low_level, landed_high_level}
use Rattle.steps.proofs.Faces.{switch_handed}
use Rattle.steps.proofs.switch_step.Goals as goal
use Rattle.steps.proofs.switch_step.Goals.{After-land-landed}

-- where variable i lands
lands : (c : After-land-landed) → let a = c.args in let i = c.loop-i.i in
    c.land-landed.result ≡ record { low = landed_low a.mask a.guard.now a.reset.now a.inv.now a.from.now i; high = landed_high a.mask a.guard.now a.reset.now a.inv.now a.from.now i }
unfolding guarded_low guarded_high landed_low landed_high masked
lands c = grind (arith, nat_tests)

guards : (c : After-land-landed) → let a = c.args in let i = c.loop-i.i in
    c.cut-guarded.result ≡ record { low = guarded_low a.guard.now a.from.now i; high = guarded_high a.guard.now a.from.now i }
unfolding guarded_low guarded_high
guards c = grind arith

pub loop-i-init : goal.loop-i-init
loop-i-init c = record { halved = whole_mask _; written = none_written _ _ _; tested = none_both _ _ }

pub put-requires : goal.put-requires
put-requires c =
    let r = c.requires in
    let i = c.loop-i.i in
    let l = c.loop-i-test.true in
    let low = landed_low_level c.args.mask _ _ _ _ i (r.guard_in i l) (r.reset_in i l) (r.inv_in i l) (r.from_in i l) in
    let high = landed_high_level c.args.mask _ _ _ _ i (r.guard_in i l) (r.reset_in i l) (r.inv_in i l) (r.from_in i l) in
    grind (arith, fits32, lands (goal.at.put-requires c).After-land-landed)

pub loop-i-preserved : goal.loop-i-preserved
loop-i-preserved c =
    let place = (goal.at.loop-i-preserved c).After-land-landed in
    let i = c.loop-i.i in
    record {
      halved = rw c.loop-i.invariant.halved (half_mask c.args.mask i);
      written = rw (c.put.ensures, lands place, c.loop-i.invariant.written) (next_written _ _ i c.args.out.now (omega arith));
      tested = rw (c.is_empty.ensures, c.is_empty-in-loop-i.ensures, guards place, lands place, not_less, not_less, c.loop-i.invariant.tested) (next_both _ _ i);
    }

pub returns : goal.returns
returns c =
    let a = c.args in
    let l = c.loop-i.invariant in
    let e : c.loop-i.i ≡ a.n = omega arith in
    switch_handed a.n a.mask a.guard.now a.reset.now a.inv.now a.from.now
    (rw e at l.tested ∙ sym (lands_by a.n a.mask a.guard.now a.reset.now a.inv.now a.from.now))
    (rw (landed_by a.n a.mask a.guard.now a.reset.now a.inv.now a.from.now) (rw e at l.written))
