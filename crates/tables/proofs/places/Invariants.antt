-- After l turns the places of the locations up to l are written.
use Rattle.std.proofs.Common.{◌≡◌, ℕ, ◌≤◌, length, get_or}
use Rattle.plant.specs.Tables.{pieces_before}
use Rattle.tables.proofs.places.Given as goal

abbrev pub invariant-loop-l : goal.invariant-loop-l
invariant-loop-l l = record {
  long : length l.places ≡ 65;
  before_is : l.before ≡ pieces_before l.model l.l;
  each : (k : ℕ) → k ≤ l.l → get_or l.places k 0 ≡ pieces_before l.model k;
}
