-- The pieces passed are all right.
use Rattle.std.proofs.Common.{◌≡◌}
use Rattle.integers.specs.Counted.{all_below}
use Rattle.plant.specs.Tables.{piece_ok}
use Rattle.checks.proofs.valid.location_ok.Given as goal

abbrev pub invariant-loop-q : goal.invariant-loop-q
invariant-loop-q l = l.ok ≡ all_below l.q (piece_ok l.model l.table l.l)
