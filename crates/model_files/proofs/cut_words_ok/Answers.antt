-- The words as they stand in the file, the location in 64 bits.
use native.Mathlib.Omega.{arith}
use Rattle.std.proofs.lemmas.Int.{ints, to_z-of_z}
use Rattle.integers.proofs.Signed.{bits_eq, as_signed}
use Rattle.files.specs.ModelFile.{cut_words_ok}
use Rattle.model_files.proofs.CutTurns.{location_word, variable_word}
use Rattle.model_files.proofs.cut_words_ok.Goals as goal

pub returns : goal.returns
unfolding cut_words_ok
returns c = search (arith, ints, to_z-of_z, bits_eq, as_signed, location_word, variable_word, c.within-named.ensures, c.from-location.ensures, c.word_at.ensures, c.word_at-variable.ensures)
