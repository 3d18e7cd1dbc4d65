-- The due fields stand whole, and each turn copies the words of one more.
use mathlib.Core.Path.{refl}
use Prim.Native.Nat.{◌+◌, ◌*◌, ◌≤◌}
use native.Mathlib.Omega.{arith}
use lib.ListN.{length}
use Rattle.files.specs.Fields.{payload_length}
use Rattle.files.proofs.ModelReading.{run_start, run_turn}
use Rattle.model_files.proofs.Runs.{run_there, run_room}
use Rattle.model_files.proofs.copy_run.Goals as goal
use Rattle.model_files.proofs.copy_run.Goals.{In-loop-i}

there : (c : In-loop-i) → let a = c.args in a.run.from + c.loop-i.i * c.field_length-size.result + 3 + payload_length a.run.w ≤ length a.file.now
there c = run_there c.requires c.loop-i-test.true c.field_length-size.ensures

pub loop-i-init : goal.loop-i-init
loop-i-init c =
    let a = c.args in
    run_start a.file.now a.run.from a.run.w a.run.place a.words.now (omega (arith, c.requires.room))

pub overflow_mul-start : goal.overflow_mul-start
overflow_mul-start c = record { fits = omega (arith, c.well_formed, there c) }

pub overflow_add-start : goal.overflow_add-start
overflow_add-start c = record { fits = omega (arith, c.well_formed, there (goal.at.overflow_add-start c).In-loop-i) }

pub overflow_add-start-in-loop-i : goal.overflow_add-start-in-loop-i
overflow_add-start-in-loop-i c = record { fits = omega (arith, c.well_formed, there (goal.at.overflow_add-start-in-loop-i c).In-loop-i) }

pub copy_words-requires : goal.copy_words-requires
copy_words-requires c = (there (goal.at.copy_words-requires c).In-loop-i, omega (arith, run_room c.requires c.loop-i-test.true))

pub loop-i-preserved : goal.loop-i-preserved
loop-i-preserved c =
    let a = c.args in
    let l = c.loop-i in
    run_turn a.file.now a.run.from a.run.w a.run.place l.i _ _ a.words.now l.words _ l.invariant (omega (arith, c.requires.room)) (rw c.field_length-size.ensures refl) refl c.copy_words.ensures
