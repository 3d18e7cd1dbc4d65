-- The sum over the numbers of the locations is small.
use Rattle.std.proofs.Common.{◌∙◌, arith, rules}
use Rattle.plant.proofs.Passed.{passed}
use Rattle.plant.proofs.Widths.{ceiling-most}
use Rattle.checks.proofs.Counts.{ceiling_at, ceiling_is}
use Rattle.checks.proofs.Sums.{sum_fits, sum_gives}
use Rattle.checks.proofs.ceiling.ceiling_of.Goals as goal

pub sum-requires-clause-fits : goal.sum-requires-clause-fits
sum-requires-clause-fits c =
    let m = c.args.model.now in
    sum_fits _ (ceiling_at m) c.locations.result c.map.ensures.source c.map.ensures.closure (λ x r q k. search rules) _
    (rw c.locations.ensures (omega (arith, ceiling_is m, ceiling-most m (passed m c.requires))))

pub returns : goal.returns
returns c =
    let m = c.args.model.now in
    sum_gives _ (ceiling_at m) c.locations.result c.map.ensures.source c.map.ensures.closure (λ x r q k. search rules) _ c.sum.ensures.ran
    ∙ rw c.locations.ensures (ceiling_is m)
