-- In each turn the low and the high of one more variable: the smaller of the two lows, the larger of the two highs.
use mathlib.Core.Path.{◌≡◌}
use mathlib.Core.List.{◌∷◌}
use lib.IntN.{pos}
use Rattle.integers.specs.Words.{onto}
use Rattle.plant.specs.Box.{hull, box_at}
use Rattle.passes.specs.Placing.{after}
use Rattle.passes.proofs.walls.Place.widen_after.Given as goal

abbrev pub invariant-loop-i : goal.invariant-loop-i
invariant-loop-i l = l.face ≡ onto (pos 1 ∷ hull l.i (box_at l.self.n l.initial.face 1) (after l.self l.bounds l.d l.b l.t)) l.initial.face
