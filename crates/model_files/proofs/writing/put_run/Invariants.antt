-- So far the fields of i records are written.
use Prim.Native.Nat.{◌+◌, ◌*◌}
use Rattle.integers.proofs.Filling.{Written}
use Rattle.model_files.specs.Room.{field_of}
use Rattle.model_files.proofs.writing.put_run.Given as goal

abbrev pub invariant-loop-i : goal.invariant-loop-i
invariant-loop-i l = Written (field_of l.model l.run) l.initial.file l.run.from l.i (l.run.from + l.i * l.size) l.file
