-- Without a start part the location's words stay; from one the steps to all faces are joined to them.
use Rattle.std.proofs.Common.{sym}
use Rattle.plant.specs.Model.{n#, invariant}
use Rattle.plant.proofs.Passed.{passed}
use Rattle.delays.specs.Ranges.{InInvariant}
use Rattle.passes.proofs.PartWords.{start_inside}
use Rattle.passes.proofs.Handing.{part_none, handed_box, handed_none, handed_all}
use Rattle.passes.proofs.walls.Place.join_started.Goals as goal

pub slice_bounds-join_walls-end : goal.slice_bounds-join_walls-end
slice_bounds-join_walls-end c = sym (rw (← c.requires.2.n_is) at c.start_part.ensures.sized)

pub join_walls-requires : goal.join_walls-requires
join_walls-requires c =
    let a = c.args in
    let inside = handed_all c.start_part.ensures (InInvariant (n# a.model.now) (invariant a.model.now a.l)) c.if-start_part.true (start_inside a.model.now (passed a.model.now c.requires.0) a.l c.requires.1) in
    (rw (c.requires.2.n_is, c.requires.2.invariant_is) inside, c.requires.3)

pub returns-then-start_part : goal.returns-then-start_part
returns-then-start_part c = rw (handed_box c.start_part.ensures c.if-start_part.true, ← c.requires.2.n_is) c.join_walls.ensures

pub returns-else-start_part : goal.returns-else-start_part
returns-else-start_part c = part_none c.args.self.now c.requires.3 (handed_none c.start_part.ensures c.if-start_part.false)
