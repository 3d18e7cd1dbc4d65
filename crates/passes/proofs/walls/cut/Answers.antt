-- A location with 2n pieces is not cut.
use mathlib.Core.Path.{sym}
use native.Mathlib.Omega.{arith}
use Rattle.plant.proofs.Passed.{passed}
use Rattle.plant.proofs.Passing.{whole}
use Rattle.passes.proofs.Reading.{uncut_of}
use Rattle.passes.proofs.walls.cut.Goals as goal

pub overflow_mul-n : goal.overflow_mul-n
overflow_mul-n c = omega (arith, c.requires.n_is, (passed c.args.model.now c.requires.passes).n_small)

pub cut-requires : goal.cut-requires
cut-requires c = (whole c.args.model.now c.requires.passes, c.requires.below)

pub returns-then-count-n : goal.returns-then-count-n
returns-then-count-n c = sym (uncut_of c.requires c.if-count-n.true)
