-- The records, then the cuts.
use mathlib.Core.Path.{sym, ap₂, ◌∙◌}
use Prim.Native.Nat.{◌+◌}
use native.Mathlib.Omega.{arith}
use Rattle.files.proofs.ModelReading.{cuts_small}
use Rattle.files.proofs.ModelLength.{cuts_most, length_of_file}
use Rattle.model_files.proofs.writing.file_length.Goals as goal

pub overflow_add-result : goal.overflow_add-result
overflow_add-result c = record { fits = omega (arith, c.cuts_from-cuts_at.ensures, c.cuts_length.ensures, cuts_small _ c.requires.head, cuts_most _ c.requires) }

pub returns : goal.returns
returns c = ap₂ ◌+◌ c.cuts_from-cuts_at.ensures c.cuts_length.ensures ∙ sym (length_of_file _ c.requires)
