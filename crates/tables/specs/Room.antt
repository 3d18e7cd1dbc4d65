-- What the code on faces asks of the words that it is lent, and the words that it leaves.
use Rattle.std.specs.Prelude.{◌≡◌, List, ℕ, ◌+◌, ◌*◌, ◌<◌, ◌≤◌, ℤ, cond, length, set, Option, Some, None}
use Rattle.std.specs.Int.Signed.{le_z}
use Rattle.integers.specs.Counted.{cat}
use Rattle.plant.specs.Box.{Ordered, Face, absent, present, on_box, face_words, join}
use Rattle.plant.specs.declared.Cut.{Cut}
use Rattle.plant.specs.Pieces.{extent_by, cut_to_extent, pieces_per_face}
use Rattle.plant.specs.Tables.{face_size, face_read}

-- a box of n variables at the front of from, and the words of a face
pub record Joinable (n : ℕ) (from face : List ℤ) : Type 0 where
  pub n_small : n ≤ 6
  pub box_there : 2 * n ≤ length from
  pub face_length : length face ≡ face_size n

-- the words are those of a face of n variables
abbrev pub IsFace : ℕ → List ℤ → Type 0
IsFace n face = face_words n (face_read n face 0) ≡ face

-- the words of a face, joined with the face g
abbrev pub joined_with : ℕ → List ℤ → Face → List ℤ
joined_with n face g = face_words n (join n (face_read n face 0) g)

-- ---- faces that stand one after the other: the pieces of a face, or all of a location

-- the words of the k faces g
abbrev pub faces_by : (n k : ℕ) → (ℕ → Face) → List ℤ
faces_by n k g = cat k (λ q. face_words n (g q))

-- face q of some words
abbrev pub face_in : ℕ → List ℤ → ℕ → Face
face_in n words q = face_read n words (q * face_size n)

-- the words are those of k faces
abbrev pub AreFaces : (n k : ℕ) → List ℤ → Type 0
AreFaces n k words = faces_by n k (face_in n words) ≡ words

-- the words of k faces, each face q joined with the face h q
abbrev pub joined_each : (n k : ℕ) → List ℤ → (ℕ → Face) → List ℤ
joined_each n k words h = faces_by n k (λ q. join n (face_in n words q) (h q))

-- ---- a box cut to the pieces of a face

-- what a box has with variable v from low to high: nothing, where low is above high
abbrev pub between : ℕ → (low high : ℤ) → List ℤ → Face
between v low high b = cond (le_z low high) (present (set (set b (2 * v) low) (2 * v + 1) high)) absent

-- what each piece k of a face of wall variable d gets of the face g, by its location's cut
abbrev pub cut_each : ℕ → Option Cut → ℕ → Face → ℕ → Face
cut_each n c d g k = on_box g (cut_to_extent n (extent_by c d k))

-- a cut, where there is one, is at a value of one of n variables
abbrev pub CutBelow : ℕ → Option Cut → Type 0
CutBelow n None = Unit {0}
CutBelow n (Some cut) = cut.variable < n

-- an ordered box, and the pieces of a face in a location with this cut
pub record PiecesJoinable (n : ℕ) (cut : Option Cut) (from pieces : List ℤ) : Type 0 where
  pub n_small : n ≤ 6
  pub box_length : length from ≡ 2 * n
  pub box_ordered : Ordered n from
  pub cut_below : CutBelow n cut
  pub are_pieces : AreFaces n (pieces_per_face cut) pieces
