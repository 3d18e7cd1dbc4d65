-- With a cut, the widths of the other variables are all but that of the cut's.
use Rattle.std.proofs.Common.{◌≡◌, ◌+◌, ◌<◌, sym, ◌∙◌, arith}
use Rattle.plant.specs.Model.{n#}
use Rattle.plant.specs.Tables.{width, all_widths, other_widths, location_ceiling}
use Rattle.checks.proofs.Counts.{with_others}
use Rattle.checks.proofs.Model.{of_model, level_at, cut_below}
use Rattle.checks.proofs.ceiling.location_ceiling.Goals as goal
use Rattle.checks.proofs.ceiling.location_ceiling.Goals.{In-Some}

pub all_widths-widths-requires : goal.all_widths-widths-requires
all_widths-widths-requires c =
    (grind (arith, of_model), rw (c.variables-n.ensures, c.invariant-inv.ensures) (level_at c.args.model.now c.requires.0 c.args.l c.requires.1))

pub returns-in_default : goal.returns-in_default
unfolding location_ceiling
returns-in_default c = (grind arith, omega arith)

below : (c : In-Some) → c.in-Some.cut.variable < n# c.args.model.now
below c = cut_below c.args.model.now c.requires.0 c.args.l c.requires.1 c.in-Some.cut (sym c.cut.ensures ∙ c.in-Some.is)

others : (c : In-Some) → let v = c.in-Some.cut.variable in let inv = c.invariant-inv.result.now in other_widths c.variables-n.result v inv + width inv v ≡ all_widths c.variables-n.result inv
others c = with_others c.variables-n.result c.in-Some.cut.variable c.invariant-inv.result.now (omega (arith, below c))

pub width-requires : goal.width-requires
width-requires c = rw c.invariant-inv.ensures (level_at c.args.model.now c.requires.0 c.args.l c.requires.1 c.in-Some.cut.variable (below c))

pub overflow_sub-others : goal.overflow_sub-others
overflow_sub-others c = omega (arith, others (goal.at.overflow_sub-others c).In-Some)

pub returns : goal.returns
unfolding location_ceiling
returns c =
    let h = others (goal.at.returns c).In-Some in
    (grind arith, omega arith)
