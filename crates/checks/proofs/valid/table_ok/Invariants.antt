-- The pieces of the locations passed are all right.
use Rattle.std.proofs.Common.{◌≡◌}
use Rattle.integers.specs.Counted.{all_below}
use Rattle.plant.specs.Pieces.{pieces}
use Rattle.plant.specs.Tables.{piece_ok}
use Rattle.checks.proofs.valid.table_ok.Given as goal

abbrev pub invariant-loop-l : goal.invariant-loop-l
invariant-loop-l l = l.ok ≡ all_below l.l (λ k. all_below (pieces l.model k) (piece_ok l.model l.table k))
