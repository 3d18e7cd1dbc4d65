-- A field begins within the file, or is the first.
use Prim.Native.Nat.{◌+◌, ◌*◌, ◌≤◌}
use native.Mathlib.Omega.{arith}
use Rattle.model_files.proofs.Runs.{run_below}
use Rattle.model_files.proofs.run_questions.Goals as goal
use Rattle.model_files.proofs.run_questions.Goals.{In-loop-i}

below : (c : In-loop-i) → c.args.run.from + c.loop-i.i * c.field_length-size.result ≤ 18446744073709551615
below c = run_below c.args.file.now c.args.run.from c.args.run.tag c.args.run.w c.loop-i.i c.field_length-size.ensures c.loop-i.invariant (omega (arith, c.well_formed)) (omega (arith, c.well_formed))

pub overflow_mul-i : goal.overflow_mul-i
overflow_mul-i c = record { fits = omega (arith, below c) }

pub overflow_add-run : goal.overflow_add-run
overflow_add-run c = record { fits = omega (arith, below (goal.at.overflow_add-run c).In-loop-i) }
