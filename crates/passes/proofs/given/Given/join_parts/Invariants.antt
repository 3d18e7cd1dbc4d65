-- At piece q the location's pieces are joined with the wall steps from the start part, before the loop, and from the pieces below q.
use mathlib.Core.Path.{◌≡◌}
use Prim.Native.Nat.{◌+◌}
use Rattle.plant.specs.Model.{n#}
use Rattle.plant.specs.Box.{joins}
use Rattle.plant.specs.Tables.{piece_of, wall_from}
use Rattle.passes.specs.Joining.{location_by}
use Rattle.passes.proofs.given.Given.join_parts.Given as goal

abbrev pub invariant-loop-q : goal.invariant-loop-q
invariant-loop-q l =
    l.block ≡ location_by l.self.model.now l.l (λ i. joins (n# l.self.model.now) (l.q + 1) (wall_from l.self.model.now l.self.table.now l.l i) (piece_of l.self.model.now l.self.table.now l.l i))
