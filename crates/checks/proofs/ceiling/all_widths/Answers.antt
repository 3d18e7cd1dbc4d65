-- The widths are small, and so is their sum.
use Rattle.std.proofs.Common.{arith, rules}
use Rattle.plant.specs.Tables.{width, all_widths}
use Rattle.checks.proofs.Sums.{sum_fits, sum_gives}
use Rattle.checks.proofs.Widths.{widths_small}
use Rattle.checks.proofs.ceiling.all_widths.Goals as goal

pub sum-requires-clause-fits : goal.sum-requires-clause-fits
unfolding all_widths
sum-requires-clause-fits c =
    let inv = c.args.inv.now in
    sum_fits _ (width inv) c.args.n c.map.ensures.source c.map.ensures.closure (λ x r q k. search rules) _
    (omega (arith, widths_small inv c.args.n c.requires.1))

pub returns : goal.returns
unfolding all_widths
returns c =
    sum_gives _ (width c.args.inv.now) c.args.n c.map.ensures.source c.map.ensures.closure (λ x r q k. search rules) _
    c.sum.ensures.ran
