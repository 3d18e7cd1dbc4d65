use Rattle.std.proofs.Common.{arith}
use Rattle.delays.proofs.Touching.{shared_start, shared_more, shared_end, empty_cut, no_delay_lem, lowest_in, highest_in}
use Rattle.delays.proofs.touches.Goals as goal

pub loop-i-init : goal.loop-i-init
loop-i-init c = shared_start _ _ _ _ _

pub returns-then-is_empty : goal.returns-then-is_empty
returns-then-is_empty c = grind (arith, empty_cut)

pub variable_delays-requires : goal.variable_delays-requires
variable_delays-requires c = grind (arith, lowest_in, highest_in)

pub returns-in_default : goal.returns-in_default
returns-in_default c = grind (arith, no_delay_lem)

pub loop-i-preserved : goal.loop-i-preserved
loop-i-preserved c =
    rw c.both-shared.ensures
    (shared_more _ _ _ _ _ c.loop-i.invariant c.loop-i-test.true (grind arith) (grind arith) c.in-Some.ensures.small)

pub returns : goal.returns
returns c = grind (arith, shared_end)
