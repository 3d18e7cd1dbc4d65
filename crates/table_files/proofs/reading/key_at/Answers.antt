-- The numbers name a piece of the model, so that the key is small.
use mathlib.Core.Path.{◌≡◌}
use Prim.Native.Nat.{◌+◌, ◌*◌}
use native.Mathlib.Omega.{arith}
use lib.ListN.{get_or}
use Rattle.files.specs.Bytes.{words_at}
use Rattle.files.specs.TableFile.{piece_field_size, piece_key}
use Rattle.table_files.proofs.TableReading.{before_is, number_few, key_made, key_few}
use Rattle.table_files.proofs.reading.key_at.Goals as goal
use Rattle.table_files.proofs.reading.key_at.Goals.{After-per_face}

made : (c : After-per_face) → let a = c.args in get_or a.places.now c.number_at-l.result 0 + (c.number_at-f.result * c.per_face.result + c.index_at-k.result) ≡ piece_key a.model.now (words_at a.file.now a.start (piece_field_size a.model.now))
made c = let r = c.requires in
    key_made _ _ _ r.ready.cut_is c.number_at-l.ensures c.number_at-f.ensures c.index_at-k.ensures c.per_face.ensures
    (before_is r.ready _ (omega (arith, c.number_at-l.ensures, r.location_below)))

pub overflow_mul-result : goal.overflow_mul-result
overflow_mul-result c = record { fits = omega (arith, number_few c.requires _ c.number_at-f.ensures c.per_face.ensures) }

pub overflow_add-result : goal.overflow_add-result
overflow_add-result c = record { fits = omega (arith, made (goal.at.overflow_add-result c).After-per_face, key_few c.requires) }

pub overflow_add-result-2 : goal.overflow_add-result-2
overflow_add-result-2 c = record { fits = omega (arith, made (goal.at.overflow_add-result-2 c).After-per_face, key_few c.requires) }

pub returns : goal.returns
returns c = made (goal.at.returns c).After-per_face
