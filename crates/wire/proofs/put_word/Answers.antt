-- The bytes of the word's bits.
use mathlib.Core.Path.{◌∙◌}
use native.Mathlib.Omega.{arith}
use mir.Facts.{to_z-of_z}
use Rattle.files.proofs.Words.{length-word}
use Rattle.wire.proofs.Parts.{part_put, word_bytes_are}
use Rattle.wire.proofs.put_word.Goals as goal

pub returns : goal.returns
returns c =
    let a = c.args in
    part_put a.out.now _ _ a.at _ (c.copy_from_slice.ensures.after ∙ c.to_be_bytes.ensures ∙ rw (to_z-of_z c.ranges.z) (word_bytes_are a.z c.ranges.z)) (omega (arith, length-word a.z)) (omega arith)
