-- What was passed in each of the three loops touches nothing: the boxes of a location are passed from its last to its first.
use Rattle.std.proofs.Common.{◌≡◌, false}
use Rattle.checks.proofs.Search.{parts_touch, locations_touch, BoxesLeft}
use Rattle.checks.proofs.touch.touching.Given as goal

abbrev pub invariant-boxes : goal.invariant-boxes
invariant-boxes l = BoxesLeft l.model l.table l.l l.p l.b

abbrev pub decreases-boxes : goal.decreases-boxes
decreases-boxes l = l.b

abbrev pub invariant-parts : goal.invariant-parts
invariant-parts l = parts_touch l.model l.table l.l l.p ≡ false

abbrev pub invariant-search : goal.invariant-search
invariant-search l = locations_touch l.model l.table l.l ≡ false
