-- The fields of the locations passed stand behind the head field, and end at the position; so many pieces stand before.
use mathlib.Core.Path.{sym, ap₂, ◌∙◌}
use Prim.Native.Nat.{◌+◌}
use native.Mathlib.Omega.{arith}
use Rattle.plant.proofs.PieceCases.{before_more, before_none}
use Rattle.integers.proofs.Filling.{written_none, written_more}
use Rattle.files.proofs.TableSizes.{location_counted, pieces_few}
use Rattle.table_files.proofs.TableWriting.{head_room, pieces_room, room_of_location, all_written}
use Rattle.table_files.proofs.writing.put_pieces.Goals as goal

pub loop-l-init : goal.loop-l-init
loop-l-init c = record { before = sym (before_none _); written = written_none _ _ _ (head_room _ _ _ c.requires) c.pieces_from-to.ensures }

pub put_location-to-requires : goal.put_location-to-requires
put_location-to-requires c = room_of_location _ _ _ c.requires (omega (arith, c.locations-l-end.ensures)) c.any_cut-any_cut.ensures c.loop-l.invariant.before c.loop-l.invariant.written

pub overflow_add-before : goal.overflow_add-before
overflow_add-before c = record { fits = omega (arith, c.loop-l.invariant.before, c.pieces-before.ensures, location_counted c.args.model.now c.loop-l.l (omega (arith, c.locations-l-end.ensures)), pieces_few _ c.requires.whole) }

pub loop-l-preserved : goal.loop-l-preserved
loop-l-preserved c = record { before = ap₂ ◌+◌ c.loop-l.invariant.before c.pieces-before.ensures ∙ sym (before_more _ _); written = written_more _ _ _ (head_room _ _ _ c.requires) c.loop-l.invariant.written c.put_location-to.ensures.bytes c.put_location-to.ensures.end }

pub shape_of-file : goal.shape_of-file
shape_of-file c = (pieces_room _ _ _ c.requires (omega (arith, c.locations-l-end.ensures)) c.loop-l.invariant.written).0

pub returns : goal.returns
returns c =
    let w = all_written _ _ _ c.requires (omega (arith, c.locations-l-end.ensures, c.loop-l-test.false)) c.loop-l.invariant.written in
    record { bytes = w.0; end = w.1 }
