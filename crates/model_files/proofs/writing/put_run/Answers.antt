-- Each turn writes the field of one record more.
use native.Mathlib.Omega.{arith}
use Rattle.integers.proofs.Filling.{written_none, written_more}
use Rattle.model_files.proofs.ModelWriting.{length_one, run_room, record_room}
use Rattle.model_files.proofs.writing.put_run.Goals as goal

pub loop-i-init : goal.loop-i-init
loop-i-init c = written_none _ _ _ (run_room _ _ _ c.requires) (omega arith)

pub put_record-requires : goal.put_record-requires
put_record-requires c = record_room _ _ _ c.requires c.loop-i-test.true c.loop-i.auto.file c.loop-i.invariant

pub loop-i-preserved : goal.loop-i-preserved
loop-i-preserved c =
    written_more _ _ _ (run_room _ _ _ c.requires) c.loop-i.invariant c.put_record.ensures (omega (arith, c.field_length-size.ensures, length_one _ _ _ c.requires c.loop-i.i c.loop-i-test.true))
