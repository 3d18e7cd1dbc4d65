-- So far i words are copied.
use mathlib.Core.Path.{◌≡◌}
use lib.ListN.{take}
use Rattle.files.specs.Bytes.{words_at}
use Rattle.wire.proofs.copy_words.Given as goal

abbrev pub invariant-loop-i : goal.invariant-loop-i
invariant-loop-i l = take l.i l.word-items ≡ words_at l.file l.from l.i
