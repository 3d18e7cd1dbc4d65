-- An absent piece leaves the table as it is.
use Rattle.std.proofs.Common.{◌≡◌, ap, ◌∙◌, arith, pos, ℕ}
use Rattle.std.proofs.lemmas.Int.{ints}
use Rattle.integers.specs.Words.{word}
use Rattle.plant.specs.Box.{box_at}
use Rattle.plant.specs.Model.{n#}
use Rattle.passes.proofs.PartWords.{part_there, part_gone}
use Rattle.passes.proofs.Reading.{source_levels}
use Rattle.passes.proofs.Landing.{nothing_landed, landed_from, step_none}
use Rattle.passes.proofs.given.Given.land_from.Goals as goal

pub land-requires : goal.land-requires
land-requires c =
    let g = c.args.self.now in
    let from = c.source_piece-from in
    let there : word from.result.now 0 ≡ pos 1 = omega (arith, ints) in
    let levels = (source_levels g c.args.e c.args.k c.requires.0.is_switch c.requires.0.is_piece from.ensures).has there in
    (c.requires.0.is_switch, c.requires.1, rw (c.box_at.ensures, c.variables-n.ensures) levels, c.requires.2)

pub returns-then-from-eq1 : goal.returns-then-from-eq1
returns-then-from-eq1 c =
    let g = c.args.self.now in
    let from = c.source_piece-from in
    let there : word from.result.now 0 ≡ pos 1 = omega (arith, ints) in
    let box_is : c.box_at.result.now ≡ box_at (n# g.model.now) from.result.now 1 = c.box_at.ensures ∙ ap (λ (n : ℕ). box_at n from.result.now 1) c.variables-n.ensures in
    landed_from g.model.now g.table.now c.args.e c.args.k from.ensures.gives c.args.out.now (rw (part_there (n# g.model.now) from.result.now there, ← box_is) c.land.ensures)

pub returns-else-from-eq1 : goal.returns-else-from-eq1
returns-else-from-eq1 c =
    let g = c.args.self.now in
    let from = c.source_piece-from in
    let gone = part_gone (n# g.model.now) from.result.now (λ e. c.if-from-eq1.false (omega (arith, ints, e))) in
    landed_from g.model.now g.table.now c.args.e c.args.k from.ensures.gives c.args.out.now (nothing_landed g.model.now c.args.e (step_none g.model.now g.table.now c.args.e c.args.k gone) c.requires.2)
