-- Under start flag 1 the cut of two boxes of levels; else nothing is written.
use Rattle.std.proofs.Common.{◌≡◌, sym, ◌∙◌, arith, pos}
use Rattle.std.proofs.lemmas.Int.{ints}
use Rattle.plant.proofs.Passed.{Passed, passed}
use Rattle.plant.proofs.Passing.{whole}
use Rattle.steps.proofs.Faces.{nothing_handed}
use Rattle.plant.specs.Model.{n#}
use Rattle.plant.specs.Tables.{start_part}
use Rattle.passes.proofs.PartWords.{invariant_in, start_in, start_there, start_gone}
use Rattle.passes.proofs.parts.start_part.Goals as goal

pub start_flag-requires : goal.start_flag-requires
start_flag-requires c = (whole c.args.model.now c.requires.0, c.requires.1)

pub variables-n-requires : goal.variables-n-requires
variables-n-requires c = (whole c.args.model.now c.requires.0).head

pub start_box-start-requires : goal.start_box-start-requires
start_box-start-requires c = (whole c.args.model.now c.requires.0, c.requires.1)

pub invariant-inv-requires : goal.invariant-inv-requires
invariant-inv-requires c = (whole c.args.model.now c.requires.0, c.requires.1)

pub cut_box-requires : goal.cut_box-requires
cut_box-requires c =
    let m = c.args.model.now in
    let ok : Passed m = passed m c.requires.0 in
    rw (c.variables-n.ensures, c.start_box-start.ensures, c.invariant-inv.ensures)
    (record { a_in = start_in m ok c.args.l c.requires.1; b_in = invariant_in m ok c.args.l c.requires.1; room = c.requires.2 })

pub returns-then-start_flag-eq1 : goal.returns-then-start_flag-eq1
returns-then-start_flag-eq1 c =
    let flag : c.start_flag.result ≡ pos 1 = omega (arith, ints) in
    rw (start_there c.args.model.now c.args.l (sym c.start_flag.ensures ∙ flag))
    (rw (c.variables-n.ensures, c.start_box-start.ensures, c.invariant-inv.ensures) at c.cut_box.ensures)

pub returns-else-start_flag-eq1 : goal.returns-else-start_flag-eq1
returns-else-start_flag-eq1 c =
    let m = c.args.model.now in
    nothing_handed (n# m) c.args.out.now (start_part m c.args.l) c.requires.2 (start_gone m c.args.l (λ e. c.if-start_flag-eq1.false (omega (arith, ints, c.start_flag.ensures, e))))
