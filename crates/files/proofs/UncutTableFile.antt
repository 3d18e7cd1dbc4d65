-- Where no location is cut, a face is one piece, and its place has no word for it.
use mathlib.Core.Path.{◌≡◌, refl, ap, ap₂, ◌∙◌}
use mathlib.Core.List.{List, [], ◌∷◌, ◌++◌}
use Prim.Native.Nat.{ℕ, ◌*◌, ◌/◌, ◌<◌}
use native.Mathlib.Omega.{arith}
use lib.IntN.{ℤ, pos}
use Rattle.integers.specs.Counted.{cat, sum_below}
use Rattle.integers.proofs.Counted.{sum_ext}
use Rattle.integers.proofs.Buffers.{cat_ext}
use Rattle.files.specs.Bytes.{word_bytes, words_bytes}
use Rattle.files.specs.Fields.{field}
use Rattle.plant.specs.Box.{low, high, box_by, Face, absent, present}
use Rattle.plant.specs.Model.{n#, L#}
use Rattle.plant.specs.Pieces.{per_face, piece_face}
use Rattle.plant.specs.Tables.{piece_of}
use Rattle.plant.specs.Meaning.{Uncut}
use Rattle.plant.proofs.Uncut.{all_pieces, not_any}
use Rattle.files.specs.TableFile.{place_words, piece_field, presence, present_pieces, location_fields, piece_fields, table_file}
use Rattle.files.specs.UncutTableFile.{face_field, UncutTableFile}
use Rattle.plant.proofs.Pieces.{one_piece}

module _ (m t : List ℤ) (none : Uncut m) where
  place_is : (l f : ℕ) → l < L# m → place_words m l f ≡ pos l ∷ pos f ∷ []
  unfolding place_words piece_face
  place_is l f u =
      let e : f / per_face m l ≡ f = ap (λ (k : ℕ). f / k) (one_piece m l (not_any m none) u) ∙ omega arith in
      rw (not_any m none, e) refl

  field_is : (l f : ℕ) → l < L# m → (g : Face) → piece_field m l f g ≡ face_field (n# m) l f g
  field_is l f u absent = refl
  field_is l f u (present b) = ap (λ (p : List ℤ). field 5 (words_bytes (p ++ box_by (n# m) (low b) (high b)))) (place_is l f u)

  count_is : present_pieces m t ≡ sum_below (L# m) (λ l. sum_below (2 * n# m) (λ f. presence (piece_of m t l f)))
  unfolding present_pieces
  count_is = sum_ext (L# m) _ _ (λ l u. ap (λ (k : ℕ). sum_below k (λ f. presence (piece_of m t l f))) (all_pieces m none l u))

  fields_are : piece_fields m t ≡ cat (L# m) (λ l. cat (2 * n# m) (λ f. face_field (n# m) l f (piece_of m t l f)))
  unfolding piece_fields location_fields
  fields_are = cat_ext (L# m) _ _ (λ l u.
      ap (λ (k : ℕ). cat k (λ f. piece_field m l f (piece_of m t l f))) (all_pieces m none l u)
      ∙ cat_ext (2 * n# m) _ _ (λ f v. field_is l f u (piece_of m t l f)))

pub uncut_table_file : UncutTableFile
unfolding table_file
uncut_table_file = record {
  uncut = λ m t none. ap₂ (λ (k : ℕ) (s : List ℕ). field 6 (word_bytes (pos k)) ++ s) (count_is m t none) (fields_are m t none);
}
