-- Document 02, T-12, "Cut faces": when the second of two models is the first with further cuts, and a table of the first divided into
-- the second's pieces.
use Rattle.std.specs.Prelude.{◌≡◌, ◌⊎◌, List, ℕ, ◌<◌, ℤ, take, Option, Some, None}
use Rattle.plant.specs.declared.Cut.{Cut}
use Rattle.plant.specs.Model.{L#, uncut, cut_by, cut_at, cut_of}
use Rattle.plant.specs.Pieces.{piece_face}
use Rattle.plant.specs.Tables.{table_by, piece_of, to_piece}

-- the second is the first with further cuts
pub record Finer (second first : List ℤ) : Type 0 where
  -- up to the cuts, which stand last, the two have the same words
  pub same_words : take (cut_at first 0) second ≡ take (cut_at first 0) first
  -- a location that the first does not cut may have any cut in the second, or none; one that it cuts has the same cut
  pub cuts : (l : ℕ) → l < L# first → (cut_of first l ≡ uncut) ⊎ (cut_of second l ≡ cut_of first l)

-- ---- piece q of location l of the second belongs to one piece of the first: where the first does not cut l, to the whole face, whose
-- one piece has the face's number; where it does, to the same piece

abbrev pub undivided_by : Option Cut → (face q : ℕ) → ℕ
undivided_by None face q = face
undivided_by (Some cut) face q = q

unfoldable pub undivided : (second first : List ℤ) (l q : ℕ) → ℕ
undivided second first l q = undivided_by (cut_of first l) (piece_face second l q) q

-- the first's table t, divided: each piece of the second is the piece of the first to which it belongs, cut to its side as a step's
-- result is (an empty cut is absent, and so is the second piece on the cut variable's own walls; where the first is cut, its pieces
-- keep to their sides as they are)
unfoldable pub divided : (second first t : List ℤ) → List ℤ
divided second first t = table_by second (λ l q. to_piece second l q (piece_of first t l (undivided second first l q)))
