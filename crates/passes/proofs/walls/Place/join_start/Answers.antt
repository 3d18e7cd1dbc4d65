-- Without start flag 1 there is no start part, and the location's words stay.
use Rattle.std.proofs.Common.{arith}
use Rattle.std.proofs.lemmas.Int.{ints}
use Rattle.plant.proofs.Passing.{whole}
use Rattle.passes.proofs.PartWords.{start_gone}
use Rattle.passes.proofs.Handing.{part_none}
use Rattle.passes.proofs.walls.Place.join_start.Goals as goal

pub start_flag-requires : goal.start_flag-requires
start_flag-requires c = (whole c.args.model.now c.requires.0, c.requires.1)

pub returns-else-start_flag-eq1 : goal.returns-else-start_flag-eq1
returns-else-start_flag-eq1 c =
    let a = c.args in
    part_none a.self.now c.requires.3 (start_gone a.model.now a.l (λ e. c.if-start_flag-eq1.false (omega (arith, ints, c.start_flag.ensures, e))))
