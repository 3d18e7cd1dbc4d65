-- Document 02, T-12: a model without cuts has the table files of document 01, byte for byte.
use Rattle.std.specs.Prelude.{◌≡◌, List, [], ◌∷◌, ◌++◌, ℕ, ◌*◌, ℤ, pos}
use Rattle.integers.specs.Counted.{cat, sum_below}
use Rattle.files.specs.Bytes.{word_bytes, words_bytes}
use Rattle.files.specs.Fields.{field}
use Rattle.plant.specs.Box.{low, high, box_by, Face, absent, present}
use Rattle.plant.specs.Model.{n#, L#}
use Rattle.plant.specs.Tables.{piece_of}
use Rattle.plant.specs.Meaning.{Uncut}
use Rattle.files.specs.TableFile.{presence, table_file}

-- the field of a face: location, face number, box
abbrev pub face_field : (n l f : ℕ) → Face → List ℕ
face_field n l f absent = []
face_field n l f (present b) = field 5 (words_bytes (pos l ∷ pos f ∷ box_by n (low b) (high b)))

-- the count of present faces, then a field for each, by location, then face
abbrev pub face_file : (m t : List ℤ) → List ℕ
face_file m t =
    field 6 (word_bytes (pos (sum_below (L# m) (λ l. sum_below (2 * n# m) (λ f. presence (piece_of m t l f))))))
    ++ cat (L# m) (λ l. cat (2 * n# m) (λ f. face_field (n# m) l f (piece_of m t l f)))

pub record UncutTableFile : Type 0 where
  pub uncut : (m t : List ℤ) → Uncut m → table_file m t ≡ face_file m t
