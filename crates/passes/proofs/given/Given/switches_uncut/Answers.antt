-- After e turns each piece is joined with its wall steps and the steps of the switches below e, each from the one piece of its
-- source's face.
use Rattle.std.proofs.Common.{◌≡◌, ℕ, ◌<◌, sym, ap, ◌∙◌, arith}
use Rattle.plant.specs.Model.{E#, source}
use Rattle.plant.specs.Pieces.{per_face}
use Rattle.plant.specs.Tables.{table_by}
use Rattle.passes.specs.Joining.{joined_below}
use Rattle.passes.proofs.Reading.{lands_uncut}
use Rattle.passes.proofs.Landing.{switches_none, switches_all, from_one, is_table}
use Rattle.passes.proofs.given.Given.switches_uncut.Goals as goal

pub loop-e-init : goal.loop-e-init
loop-e-init c = let g = c.args.self.now in c.requires.0 ∙ switches_none g.model.now g.table.now

pub land_from-requires : goal.land_from-requires
land_from-requires c =
    let g = c.args.self.now in
    let m = g.model.now in
    let e = c.loop-e.e in
    let is_switch : e < E# m = omega arith in
    let single : per_face m (source m e) ≡ 1 = c.requires.1.one_each (source m e) (g.placed e is_switch).source_is in
    (record { is_switch = is_switch; count_is = sym single; is_piece = omega arith }, lands_uncut g c.requires.1 e is_switch, is_table m g.table.now (joined_below m g.table.now e) c.loop-e.invariant)

pub loop-e-preserved : goal.loop-e-preserved
loop-e-preserved c =
    let g = c.args.self.now in
    let m = g.model.now in
    let e = c.loop-e.e in
    let is_switch : e < E# m = omega arith in
    c.land_from.ensures ∙ from_one m g.table.now e (c.requires.1.one_each (source m e) (g.placed e is_switch).source_is) c.loop-e.invariant

pub returns : goal.returns
returns c =
    let m = c.args.self.now.model.now in
    let t = c.args.self.now.table.now in
    let e : c.loop-e.e ≡ E# m = omega arith in
    c.loop-e.invariant ∙ ap (λ (k : ℕ). table_by m (joined_below m t k)) e ∙ switches_all m t
