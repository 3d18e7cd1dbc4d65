-- So far the bytes of i words are written.
use mathlib.Core.Path.{◌≡◌}
use mathlib.Core.List.{◌++◌}
use lib.ListN.{take}
use Rattle.integers.specs.Words.{onto}
use Rattle.files.specs.Bytes.{words_bytes, part}
use Rattle.wire.proofs.put_words.Given as goal

abbrev pub invariant-loop-i : goal.invariant-loop-i
invariant-loop-i l = l.out ≡ onto (take l.to l.initial.out ++ words_bytes (part l.words l.from l.i)) l.initial.out
