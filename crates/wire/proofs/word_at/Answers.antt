-- The word of the bytes.
use mathlib.Core.Path.{◌∙◌}
use Rattle.integers.proofs.Signed.{got32}
use Rattle.files.specs.Bytes.{bits_at, word_at}
use Rattle.wire.proofs.word_at.Goals as goal

pub returns : goal.returns
unfolding word_at bits_at
returns c = got32 _ c.from_be_bytes.type_inv ∙ c.from_be_bytes.ensures
