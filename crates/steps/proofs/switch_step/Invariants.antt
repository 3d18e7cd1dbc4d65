-- The loop has written where the first i variables land, and tested the order of both cuts; what is left of the mask begins with bit i.
use Rattle.std.proofs.Common.{◌≡◌, ◌/◌, ◌^◌, ◌&&◌}
use lib.Signed.{le_z}
use Rattle.integers.specs.Words.{onto}
use Rattle.integers.specs.Counted.{all_below}
use Rattle.plant.specs.Box.{box_by}
use Rattle.steps.proofs.Landing.{guarded_low, guarded_high, landed_low, landed_high}
use Rattle.steps.proofs.switch_step.Given as goal

abbrev pub invariant-loop-i : goal.invariant-loop-i
invariant-loop-i l =
    let glo = guarded_low l.guard l.from in
    let ghi = guarded_high l.guard l.from in
    let lo = landed_low l.mask l.guard l.reset l.inv l.from in
    let hi = landed_high l.mask l.guard l.reset l.inv l.from in
    record {
      halved : l.rest ≡ l.mask / 2 ^ l.i;
      written : l.out ≡ onto (box_by l.i lo hi) l.initial.out;
      tested : l.ok ≡ all_below l.i (λ j. le_z (glo j) (ghi j)) && all_below l.i (λ j. le_z (lo j) (hi j));
    }
