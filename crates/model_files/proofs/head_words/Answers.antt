-- Four words of the first field, and the edition behind them.
use mathlib.Core.Path.{◌∙◌}
use native.Mathlib.Omega.{arith}
use Rattle.integers.proofs.Buffers.{onto_all}
use Rattle.integers.proofs.Signed.{got32}
use Rattle.files.specs.ModelFile.{head_words}
use Rattle.files.proofs.FirstField.{first_field, head_read, length_head}
use Rattle.model_files.proofs.head_words.Goals as goal

pub copy_words-requires : goal.copy_words-requires
copy_words-requires c = (omega (arith, (first_field c.args.file.now c.requires).is_due.there), omega arith)

pub bounds-file-0 : goal.bounds-file-0
bounds-file-0 c = omega (arith, (first_field c.args.file.now c.requires).is_due.there)

pub returns : goal.returns
returns c =
    head_read c.args.file.now _ _ _ (omega arith) c.copy_words.ensures (got32 c.edition_of.result c.edition_of.type_inv ∙ c.edition_of.ensures)
    ∙ onto_all (head_words c.args.file.now) _ (length_head c.args.file.now)
