-- After e turns each piece is joined with its wall steps and the steps of the switches below e.
use Rattle.std.proofs.Common.{◌≡◌, ℕ, ap, ◌∙◌, arith}
use Rattle.plant.specs.Model.{E#}
use Rattle.plant.specs.Tables.{table_by}
use Rattle.passes.specs.Joining.{joined_below}
use Rattle.passes.proofs.Landing.{switches_none, switches_all}
use Rattle.passes.proofs.given.Given.switches_cut.Goals as goal

pub loop-e-init : goal.loop-e-init
loop-e-init c = let g = c.args.self.now in c.requires ∙ switches_none g.model.now g.table.now

pub returns : goal.returns
returns c =
    let m = c.args.self.now.model.now in
    let t = c.args.self.now.table.now in
    let e : c.loop-e.e ≡ E# m = omega arith in
    c.loop-e.invariant ∙ ap (λ (k : ℕ). table_by m (joined_below m t k)) e ∙ switches_all m t
