-- Where the fields of a run stand in a file, and their words in the buffer.
use mathlib.Core.Path.{◌≡◌}
use mathlib.Core.List.{List}
use Prim.Native.Nat.{ℕ, zero, suc, ◌+◌, ◌*◌, ◌≤◌, ◌<◌}
use native.Mathlib.Omega.{arith}
use lib.IntN.{ℤ}
use lib.ListN.{length}
use Rattle.files.specs.Fields.{payload_length, field_length}
use Rattle.files.specs.ModelFile.{run_questions}
use Rattle.files.proofs.Fields.{due}
use Rattle.files.proofs.ModelReading.{run_passed}
use Rattle.model_files.specs.declared.Run.{Run}
use Rattle.model_files.specs.Room.{RunReady}
use Rattle.plant.proofs.Positions.{row_within}

-- where the next one begins, after i that passed: within the file, or they are none
pub run_below : (s : List ℕ) (from tag w i : ℕ) {size m : ℕ} → size ≡ field_length w → run_questions s from i tag w ≡ 0 → from ≤ m → length s ≤ m → from + i * size ≤ m
run_below s from tag w zero e q h k = omega arith
run_below s from tag w (suc i) e q h k = rw e (omega (arith, (due _ _ _ _ (run_passed s from (suc i) tag w q i (omega arith))).there))

-- field i of those that stand whole, and room for its words
module _ {s : List ℕ} {run : Run} {words : List ℤ} (r : RunReady s run words) {i : ℕ} (l : i < run.count) where
  pub run_there : {size : ℕ} → size ≡ field_length run.w → run.from + i * size + 3 + payload_length run.w ≤ length s
  run_there e = rw e (due _ _ _ _ (r.whole i l)).there

  pub run_room : run.place + i * run.w + run.w ≤ length words
  run_room = omega (arith, row_within run.w l, r.room)
