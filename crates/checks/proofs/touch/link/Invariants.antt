-- The boxes passed are linked.
use Rattle.checks.specs.Links.{Linked}
use Rattle.checks.proofs.touch.link.Given as goal

abbrev pub invariant-loop-b : goal.invariant-loop-b
invariant-loop-b l = Linked l.model l.b l.links.last l.links.before
