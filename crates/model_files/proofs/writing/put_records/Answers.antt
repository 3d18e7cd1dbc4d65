-- The first field, then the three runs, each behind the one before.
use native.Mathlib.Omega.{arith}
use Rattle.integers.proofs.Signed.{got32}
use Rattle.model_files.proofs.ModelWriting.{cuts_room, locations_room, switches_room, forbiddens_room, records_put}
use Rattle.model_files.proofs.writing.put_records.Goals as goal

pub put_record-requires : goal.put_record-requires
put_record-requires c = (omega (arith, c.requires.whole.head.there), omega (arith, cuts_room _ _ c.requires), omega arith)

pub put_run-requires : goal.put_run-requires
put_run-requires c = rw c.locations_run.ensures (locations_room _ _ c.requires (omega arith))

pub put_run-requires-2 : goal.put_run-requires-2
put_run-requires-2 c = rw c.switches_run.ensures (switches_room _ _ c.requires (omega arith))

pub put_run-requires-3 : goal.put_run-requires-3
put_run-requires-3 c = rw c.forbiddens_run.ensures (forbiddens_room _ _ c.requires (omega arith))

pub returns : goal.returns
returns c =
    records_put c.args.model.now c.requires.whole c.args.file.now _ _ _ _
    (rw (c.first_tag-tag.ensures, got32 c.edition.result c.edition.type_inv, c.edition.ensures) at c.put_record.ensures)
    (rw c.locations_run.ensures at c.put_run.ensures)
    (rw c.switches_run.ensures at c.put_run-2.ensures)
    (rw c.forbiddens_run.ensures at c.put_run-3.ensures)
