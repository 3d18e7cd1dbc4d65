-- The fields of the pieces passed stand behind the position, and end at the next.
use Rattle.integers.proofs.Filling.{Written}
use Rattle.files.proofs.TableSizes.{fields_of}
use Rattle.table_files.proofs.writing.put_location.Given as goal

abbrev pub invariant-loop-q : goal.invariant-loop-q
invariant-loop-q l = Written (fields_of l.model l.table l.l) l.initial.file l.to l.q l.next l.file
