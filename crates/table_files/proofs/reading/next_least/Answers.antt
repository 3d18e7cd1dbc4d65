-- A place that names a piece has a key, which is small.
use native.Mathlib.Omega.{arith}
use mathlib.Core.Path.{sym, ◌∙◌}
use Rattle.table_files.specs.TableRoom.{KeyAt}
use Rattle.table_files.proofs.TableReading.{key_named, key_few}
use Rattle.table_files.proofs.reading.next_least.Goals as goal
use Rattle.table_files.proofs.reading.next_least.Goals.{Else-not-names_piece}

named : (c : Else-not-names_piece) → let a = c.args in KeyAt a.model.now a.places.now a.any_cut a.file.now a.start
named c = key_named c.args.model.now _ c.requires.0 _ c.requires.1 (sym c.names_piece.ensures ∙ c.if-not-names_piece.false)

pub key_at-key-requires : goal.key_at-key-requires
key_at-key-requires c = named (goal.at.key_at-key-requires c).Else-not-names_piece

pub overflow_add-result : goal.overflow_add-result
overflow_add-result c = record { fits = omega (arith, c.key_at-key.ensures, key_few (named (goal.at.overflow_add-result c).Else-not-names_piece)) }
