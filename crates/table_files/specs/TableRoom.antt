-- What the code on table files asks of what it is lent.
use Rattle.std.specs.Prelude.{◌≡◌, Bool, cond, ◌&&◌, List, ℕ, ◌+◌, ◌-◌, ◌*◌, ◌<◌, ◌≤◌, T, ℤ, pos, nat_abs, length, Option, Some, None}
use Rattle.std.specs.Int.Signed.{non_neg}
use Rattle.integers.specs.Words.{within}
use Rattle.files.specs.Bytes.{word_size, word_at}
use Rattle.files.specs.Fields.{payload_length, field_length}
use Rattle.plant.specs.Model.{n#, L#}
use Rattle.plant.specs.Pieces.{any_cut, per_face, pieces}
use Rattle.plant.specs.Questions.{model_questions}
use Rattle.plant.specs.Tables.{face_size, pieces_before, table_size, longest_table_file}
use Rattle.plant.proofs.Whole.{Whole}
use Rattle.tables.specs.Places.{Places}
use Rattle.files.specs.TableFile.{count_field_size, piece_field_size, count_word, piece_key, place_ok}

-- how many words a place has, by whether the model has any cut
abbrev pub size_by : Bool → ℕ
size_by any_cut = cond any_cut 3 2

-- ---- writing

-- a whole model, a table of it, and room for the longest file of one
pub record WriteReady (m t : List ℤ) (file : List ℕ) : Type 0 where
  pub whole : Whole m
  pub room : table_size m ≤ length t
  pub bytes : longest_table_file m ≤ length file

-- piece q of location l, and whether the model has any cut
pub record IsPiece (m : List ℤ) (cut : Bool) (l q : ℕ) : Type 0 where
  pub whole : Whole m
  pub cut_is : cut ≡ any_cut m
  pub location : l < L# m
  pub piece : q < pieces m l

-- its words, and room for its field
pub record PieceRoom (m : List ℤ) (cut : Bool) (l q : ℕ) (piece : List ℤ) (file : List ℕ) (to : ℕ) : Type 0 where
  pub is_piece : IsPiece m cut l q
  pub long : length piece ≡ face_size (n# m)
  pub room : to + field_length (piece_field_size m) ≤ length file

-- the words of location l, before which so many pieces stand, and room for the fields of all its pieces
pub record LocationRoom (m : List ℤ) (cut : Bool) (before : ℕ) (t : List ℤ) (l : ℕ) (file : List ℕ) (to : ℕ) : Type 0 where
  pub whole : Whole m
  pub cut_is : cut ≡ any_cut m
  pub location : l < L# m
  pub before_is : before ≡ pieces_before m l
  pub there : table_size m ≤ length t
  pub room : to + pieces m l * field_length (piece_field_size m) ≤ length file

-- ---- reading

-- a model that passes its questions, and words for a table of it
pub record WordsReady (m t : List ℤ) : Type 0 where
  pub passes : model_questions m ≡ 0
  pub long : length t ≡ table_size m

-- a model, how many pieces stand before each location, and whether any is cut
pub record FieldsReady (m : List ℤ) (places : List ℕ) (cut : Bool) : Type 0 where
  pub whole : Whole m
  pub are_places : Places m places
  pub cut_is : cut ≡ any_cut m

-- the head field is there, and its count is no negative number
pub record CountAt (s : List ℕ) : Type 0 where
  pub there : field_length count_field_size ≤ length s
  pub natural : T (non_neg (count_word s))

-- ---- the location, the face number and which piece of the face, of the field whose payload starts at a position, in a model with
-- any cut or without

abbrev pub location_word : List ℕ → ℕ → ℤ
location_word s start = word_at s start

abbrev pub face_word : List ℕ → ℕ → ℤ
face_word s start = word_at s (start + word_size)

abbrev pub index_word : List ℕ → ℕ → Bool → ℤ
index_word s start cut = cond cut (word_at s (start + 2 * word_size)) (pos 0)

-- the last is there, and no negative number
pub record IndexAt (s : List ℕ) (start : ℕ) (cut : Bool) : Type 0 where
  pub there : start + payload_length (size_by cut) ≤ length s
  pub natural : T (non_neg (index_word s start cut))

-- the location exists, the face, and the piece of it
abbrev pub names_piece : (m : List ℤ) (cut : Bool) (s : List ℕ) (start : ℕ) → Bool
names_piece m cut s start =
    within (pos 0) (pos (L# m - 1)) (location_word s start)
    && (within (pos 0) (pos (2 * n# m - 1)) (face_word s start)
    && within (pos 0) (pos (per_face m (nat_abs (location_word s start)) - 1)) (index_word s start cut))

-- one more than the key that the words w of a field name, or none where they don't pass 37
unfoldable pub next_least : (m w : List ℤ) (least : ℕ) → Option ℕ
next_least m w least = cond (place_ok m w least) (Some (piece_key m w + 1)) None

-- all are there, and name a piece of the model
pub record KeyAt (m : List ℤ) (places : List ℕ) (cut : Bool) (s : List ℕ) (start : ℕ) : Type 0 where
  pub ready : FieldsReady m places cut
  pub index : IndexAt s start cut
  pub location_natural : T (non_neg (location_word s start))
  pub face_natural : T (non_neg (face_word s start))
  pub location_below : nat_abs (location_word s start) < L# m
  pub face_below : nat_abs (face_word s start) < 2 * n# m
  pub index_below : nat_abs (index_word s start cut) < per_face m (nat_abs (location_word s start))
