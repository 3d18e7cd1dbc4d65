-- After k turns each piece is joined with the steps of switch e from the pieces of its source's face below k.
use Rattle.std.proofs.Common.{◌≡◌, ℕ, ap, ◌∙◌, arith}
use Rattle.plant.specs.Model.{source, cut_of}
use Rattle.plant.specs.Pieces.{per_face}
use Rattle.plant.specs.Tables.{table_by}
use Rattle.passes.proofs.Landing.{joined_from, from_none, from_all, from_more, is_table}
use Rattle.passes.proofs.given.Given.land_each.Goals as goal

pub target-requires : goal.target-requires
target-requires c = (c.args.self.now.placed c.args.e c.requires.0).numbered

pub loop-k-init : goal.loop-k-init
loop-k-init c = let g = c.args.self.now in c.requires.1 ∙ from_none g.model.now g.table.now c.args.e

pub land_from-requires : goal.land_from-requires
land_from-requires c =
    let g = c.args.self.now in
    let m = g.model.now in
    let count_is : c.per_face-count.result ≡ per_face m (source m c.args.e) = c.per_face-count.ensures ∙ ap (per_face m) c.source.ensures in (
      record { is_switch = c.requires.0; count_is = count_is; is_piece = omega (arith, count_is) },
      c.cut-cut.ensures ∙ ap (cut_of m) c.target.ensures,
      is_table m g.table.now (joined_from m g.table.now c.args.e c.loop-k.k) c.loop-k.invariant,
    )

pub loop-k-preserved : goal.loop-k-preserved
loop-k-preserved c = let g = c.args.self.now in c.land_from.ensures ∙ from_more g.model.now g.table.now c.args.e c.loop-k.k c.loop-k.invariant

pub returns : goal.returns
returns c =
    let m = c.args.self.now.model.now in
    let t = c.args.self.now.table.now in
    let e : c.loop-k.k ≡ per_face m (source m c.args.e) = omega (arith, c.per_face-count.ensures, ap (per_face m) c.source.ensures) in
    c.loop-k.invariant ∙ ap (λ (k : ℕ). table_by m (joined_from m t c.args.e k)) e ∙ from_all m t c.args.e
