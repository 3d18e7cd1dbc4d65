-- The count's word stands behind the head field's header.
use native.Mathlib.Omega.{arith}
use Rattle.files.specs.TableFile.{count_word}
use Rattle.table_files.proofs.reading.count_of.Goals as goal

pub number_at-requires : goal.number_at-requires
unfolding count_word
number_at-requires c = (omega (arith, c.requires.there), c.requires.natural)

pub returns : goal.returns
unfolding count_word
returns c = c.number_at.ensures
