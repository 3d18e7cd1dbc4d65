-- The ends of a face's box alone join to the same words.
use mathlib.Core.Path.{◌≡◌, sym, ap, ◌∙◌}
use Prim.Native.Nat.{ℕ}
use Rattle.plant.specs.Box.{Face, face_words, join}
use Rattle.plant.proofs.FaceWords.{read_words}
use Rattle.plant.proofs.Tables.{ends}
use Rattle.tables.proofs.Faces.{join_words}

pub join_ends : (n : ℕ) (g h : Face) → face_words n (join n (ends n g) h) ≡ face_words n (join n g h)
join_ends n g h = ap (λ (x : Face). face_words n (join n x h)) (sym (read_words n g)) ∙ join_words n g h
