-- A width is the magnitude of a difference of levels.
use Rattle.std.proofs.Common.{arith}
use Rattle.std.proofs.lemmas.Int.{ints}
use Rattle.plant.specs.Box.{low, high}
use Rattle.plant.specs.Tables as T
use Rattle.checks.proofs.ceiling.width.Goals as goal

pub overflow_sub-word : goal.overflow_sub-word
unfolding low high
overflow_sub-word c = omega (arith, ints)

pub returns : goal.returns
unfolding low high T.width
returns c = grind (arith, ints)
