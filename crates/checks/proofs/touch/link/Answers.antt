-- The boxes passed are linked.
use Rattle.std.proofs.Common.{arith}
use Rattle.checks.proofs.Linking.{none_linked, one_linked}
use Rattle.checks.proofs.Model.{of_model}
use Rattle.checks.proofs.touch.link.Goals as goal

pub loop-b-init : goal.loop-b-init
loop-b-init c = none_linked _

pub loop-b-preserved : goal.loop-b-preserved
loop-b-preserved c = one_linked _ c.loop-b.b c.loop-b.invariant (grind (arith, of_model)) c.forbidden_location-l.ensures (grind (arith, of_model))
