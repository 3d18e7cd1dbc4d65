-- The words of a part: a flag and a box.
use Rattle.std.specs.Prelude.{◌≡◌, List, ℕ, ℤ, length}
use Rattle.plant.specs.Box.{Face}
use Rattle.plant.specs.Tables.{face_size, face_read}

-- as many words as a face of n variables has, from which the part is read
pub record IsPart (n : ℕ) (words : List ℤ) (part : Face) : Type 0 where
  pub sized : length words ≡ face_size n
  pub gives : face_read n words 0 ≡ part
