-- Each turn writes the field of one location more.
use native.Mathlib.Omega.{arith}
use Rattle.integers.proofs.Filling.{written_none, written_more}
use Rattle.model_files.proofs.ModelWriting.{cuts_room, cut_room, cuts_written}
use Rattle.model_files.proofs.writing.put_cuts.Goals as goal

pub loop-l-init : goal.loop-l-init
loop-l-init c = written_none _ _ _ (omega (arith, cuts_room _ _ c.requires)) c.cuts_from-to.ensures

pub put_cut-to-requires : goal.put_cut-to-requires
put_cut-to-requires c = cut_room _ _ c.requires (omega arith) c.loop-l.invariant

pub loop-l-preserved : goal.loop-l-preserved
loop-l-preserved c = written_more _ _ _ (omega (arith, cuts_room _ _ c.requires)) c.loop-l.invariant c.put_cut-to.ensures.bytes c.put_cut-to.ensures.next

pub returns : goal.returns
returns c =
    let w = cuts_written _ _ c.requires (omega arith) c.loop-l.invariant in
    record { bytes = w.0; end = w.1 }
