-- After l turns the locations below l are counted.
use mathlib.Core.Path.{◌≡◌}
use Rattle.tables.proofs.Sizes.{layers_before}
use Rattle.tables.proofs.layers.Given as goal

abbrev pub invariant-loop-l : goal.invariant-loop-l
invariant-loop-l l = l.count ≡ layers_before l.model l.l
