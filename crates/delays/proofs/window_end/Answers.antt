use Rattle.delays.proofs.WindowEnd.{end_start, end_more, latest_small}
use Rattle.delays.proofs.window_end.Goals as goal

pub loop-i-init : goal.loop-i-init
loop-i-init c = end_start _ _ _ _

pub loop-i-preserved : goal.loop-i-preserved
loop-i-preserved c =
    rw c.sooner-end.ensures
    (end_more _ _ _ _ c.requires.0 c.requires.1 c.requires.2 c.loop-i.invariant c.loop-i-test.true c.latest_inside.ensures)

pub sooner-end-requires : goal.sooner-end-requires
sooner-end-requires c =
    (c.loop-i.invariant.small, latest_small _ _ _ _ c.requires.0 c.requires.1 c.requires.2 c.loop-i.i c.loop-i-test.true c.latest_inside.ensures)
