-- After f turns the pieces of the faces below f are joined with their steps, and the words behind them are the location's as they
-- were.
use mathlib.Core.Path.{◌≡◌}
use Rattle.integers.specs.Words.{onto}
use Rattle.integers.specs.Counted.{cat}
use Rattle.plant.specs.Box.{present}
use Rattle.passes.specs.Placing.{walls_from}
use Rattle.passes.proofs.Locations.{joined_group}
use Rattle.passes.proofs.walls.Place.join_walls.Given as goal

abbrev pub invariant-loop-f : goal.invariant-loop-f
invariant-loop-f l = l.block ≡ onto (cat l.f (joined_group l.self.n l.self.cut l.initial.block (walls_from l.self (present l.bounds)))) l.initial.block
