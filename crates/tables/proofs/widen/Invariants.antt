-- Filled from the front: in each turn the low and the high of one more variable.
use mathlib.Core.Path.{◌≡◌}
use mathlib.Core.List.{◌∷◌}
use lib.IntN.{pos}
use Rattle.integers.specs.Words.{onto}
use Rattle.plant.specs.Box.{hull, box_at}
use Rattle.tables.proofs.widen.Given as goal

abbrev pub invariant-loop-i : goal.invariant-loop-i
invariant-loop-i l = l.face ≡ onto (pos 1 ∷ hull l.i (box_at l.n l.initial.face 1) l.from) l.initial.face
