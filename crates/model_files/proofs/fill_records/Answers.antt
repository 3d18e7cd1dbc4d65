-- The head words are filled in, then those of the three runs, each behind the one before.
use mathlib.Core.Path.{sym, ◌∙◌}
use native.Mathlib.Omega.{arith}
use lib.Seq.{length-take-le}
use Rattle.files.proofs.ModelReading.{body_passed, filled}
use Rattle.model_files.proofs.Filling.{five, head_room, head_put, locations_ready, switches_ready, forbiddens_ready}
use Rattle.plant.proofs.Heads.{locations_at}
use Rattle.model_files.proofs.fill_records.Goals as goal

pub slice_bounds-copy_from_slice-end : goal.slice_bounds-copy_from_slice-end
slice_bounds-copy_from_slice-end c = head_room c.requires.0

pub slice_bounds-copy_from_slice-end-2 : goal.slice_bounds-copy_from_slice-end-2
slice_bounds-copy_from_slice-end-2 c = sym (length-take-le 5 c.args.words.now (head_room c.requires.0))

pub copy_from_slice-requires : goal.copy_from_slice-requires
copy_from_slice-requires c = length-take-le 5 c.args.words.now (head_room c.requires.0) ∙ sym (five c.requires.0)

pub copy_run-requires : goal.copy_run-requires
copy_run-requires c =
    let p = c.requires in
    rw c.locations_run.ensures (locations_ready _ _ p.0.head (body_passed _ _ p.1) _ (omega (arith, p.0.room)))

pub copy_run-requires-2 : goal.copy_run-requires-2
copy_run-requires-2 c =
    let p = c.requires in
    rw c.switches_run.ensures (switches_ready _ _ p.0.head (body_passed _ _ p.1) _ (omega (arith, p.0.room)))

pub copy_run-requires-3 : goal.copy_run-requires-3
copy_run-requires-3 c =
    let p = c.requires in
    rw c.forbiddens_run.ensures (forbiddens_ready _ _ p.0.head (body_passed _ _ p.1) _ (omega (arith, p.0.room)))

pub returns : goal.returns
returns c =
    let a = c.args in
    let p = c.requires.0 in
    filled a.file.now a.head.now (five p) a.words.now _ _ _ _
    (head_put p c.copy_from_slice.ensures.after)
    (rw (c.locations_run.ensures, locations_at a.head.now) at c.copy_run.ensures)
    (rw c.switches_run.ensures at c.copy_run-2.ensures)
    (rw c.forbiddens_run.ensures at c.copy_run-3.ensures)
