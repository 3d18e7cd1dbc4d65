-- How long a table's file is: no piece's field, and no file, is longer than 39's number counts.
use mathlib.Core.Path.{◌≡◌}
use mathlib.Core.Logic.{⊎_elim}
use mathlib.Core.List.{List, ◌++◌}
use Prim.Native.Nat.{ℕ, zero, suc, ◌+◌, ◌*◌, ◌≤◌, ◌<◌}
use native.Mathlib.Omega.{arith}
use lib.IntN.{ℤ, pos}
use lib.ListN.{length, length-append}
use Rattle.integers.specs.Counted.{cat, sum_below}
use Rattle.integers.proofs.Counted.{split, sum_part}
use Rattle.files.specs.Bytes.{word_bytes, words_bytes}
use Rattle.files.specs.Fields.{field_length, field}
use Rattle.files.proofs.Words.{length-word, length_bytes}
use Rattle.files.proofs.Fields.{length-field, place_small}
use Rattle.plant.specs.Box.{low, high, box_by, Face, absent, present}
use Rattle.plant.specs.Model.{n#, L#}
use Rattle.plant.specs.Pieces.{pieces}
use Rattle.plant.specs.Tables.{pieces_before, piece_count, longest_table_file, piece_of}
use Rattle.plant.proofs.Boxes.{length-box_by}
use Rattle.plant.proofs.Tables.{count_most}
use Rattle.plant.proofs.Whole.{Whole}
use Rattle.files.specs.TableFile.{piece_field_size, place_words, piece_field, present_pieces, location_fields, piece_fields, table_file}
use Rattle.files.proofs.PlaceWords.{place_most, longest_is, length_place}

-- the pieces of a location, with those before, are among all
pub location_counted : (m : List ℤ) (l : ℕ) → l < L# m → pieces_before m l + pieces m l ≤ piece_count m
unfolding piece_count pieces_before
location_counted m l u = sum_part (L# m) (pieces m) l u

pub before_le : (m : List ℤ) (l : ℕ) → l ≤ L# m → pieces_before m l ≤ piece_count m
unfolding piece_count
before_le m l u = ⊎_elim (λ v. omega (arith, location_counted m l v)) (λ e. rw e (omega arith)) (split l (L# m) (omega arith))

-- the field of a piece in bytes
abbrev pub piece_bytes : List ℤ → ℕ
piece_bytes m = field_length (piece_field_size m)

pub longest_least : (m : List ℤ) → 7 ≤ longest_table_file m
unfolding longest_table_file
longest_least m = omega arith

module _ (m : List ℤ) (w : Whole m) where
  pub pieces_few : piece_count m ≤ 1536
  pieces_few = count_most m w.head.n_small w.head.L_small

  -- the longest file of all
  pub longest_most : longest_table_file m ≤ 96775
  longest_most = omega (arith, longest_is m, place_small (piece_field_size m) (piece_count m) 15 1536 pieces_few (omega (arith, place_most m, w.head.n_small)))

-- ---- the fields

pub field-length : (m : List ℤ) (l q : ℕ) (g : Face) → length (piece_field m l q g) ≤ piece_bytes m
field-length m l q absent = omega arith
field-length m l q (present b) =
    omega (
      arith,
      length-field 5 (words_bytes (place_words m l q ++ box_by (n# m) (low b) (high b))),
      length_bytes (place_words m l q ++ box_by (n# m) (low b) (high b)),
      length-append (place_words m l q) (box_by (n# m) (low b) (high b)),
      length_place m l q,
      length-box_by (n# m) (low b) (high b),
    )

-- the fields of a location
abbrev pub fields_of : (m t : List ℤ) (l q : ℕ) → List ℕ
fields_of m t l q = piece_field m l q (piece_of m t l q)

module _ (m t : List ℤ) where
  pub fields_le : (l q : ℕ) → length (cat q (fields_of m t l)) ≤ q * piece_bytes m
  unfolding cat
  fields_le l zero = omega arith
  fields_le l (suc q) = omega (arith, length-append (cat q (fields_of m t l)) (fields_of m t l q), fields_le l q, field-length m l q (piece_of m t l q))

  pub locations_le : (l : ℕ) → length (cat l (location_fields m t)) ≤ pieces_before m l * piece_bytes m
  unfolding cat location_fields pieces_before sum_below
  locations_le zero = omega arith
  locations_le (suc l) = omega (arith, length-append (cat l (location_fields m t)) (location_fields m t l), locations_le l, fields_le l (pieces m l))

-- ---- the whole file

pub length_of_file : (m t : List ℤ) → 7 + length (piece_fields m t) ≡ length (table_file m t)
unfolding table_file
length_of_file m t = omega (arith, length-append (field 6 (word_bytes (pos (present_pieces m t)))) (piece_fields m t), length-field 6 (word_bytes (pos (present_pieces m t))), length-word (pos (present_pieces m t)))

-- no table's file is longer than the number that 39 asks for
pub file_most : (m t : List ℤ) → length (table_file m t) ≤ longest_table_file m
unfolding piece_fields piece_count
file_most m t = omega (arith, length_of_file m t, locations_le m t (L# m), longest_is m)
