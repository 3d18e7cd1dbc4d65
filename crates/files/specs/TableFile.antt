-- Document 01, "Files" and "The questions, in order", with pieces for faces (document 02, T-12): the file of a table, and what
-- reading and writing one give.
use Rattle.std.specs.Prelude.{Bool, cond, ◌&&◌, List, [], ◌∷◌, ◌++◌, ℕ, zero, suc, ◌+◌, ◌-◌, ◌*◌, eqb, leb, ℤ, pos, nat_abs, length, get_or, Ok}
use Rattle.integers.specs.Words.{word, num, within, onto}
use Rattle.integers.specs.Counted.{cat, sum_below}
use Rattle.files.specs.Bytes.{word_at, words_at, word_bytes, words_bytes}
use Rattle.files.specs.Fields.{header_size, payload_length, field_place, length_at, field_at, is_field, field}
use Rattle.plant.specs.Ask.{ask, ◌then◌, first}
use Rattle.plant.specs.Box.{low, high, box_by, box_at, Face, absent, present}
use Rattle.plant.specs.Model.{n#, L#}
use Rattle.plant.specs.Questions.{model_questions}
use Rattle.plant.specs.Pieces.{any_cut, per_face, pieces, piece_number, piece_face, piece_index}
use Rattle.plant.specs.Tables.{pieces_before, piece_count, table_size, table_by, piece_of, table_ok}
use Rattle.plant.specs.Calls.{ReadOutcome, unless_refused, zeroed, WriteOutcome, write_by, table_room_question, bytes_question}

-- ---- the file of a table: tag 6 (count of present pieces), then a tag 5 for each (its place, its box) in the table's order: by
-- location, then face, then piece

-- how many words the head field has; a piece's place: location, face number, and with any cut in the model the piece, 0 or 1; and a
-- piece's field
abbrev pub count_field_size : ℕ
count_field_size = 1

unfoldable pub place_size : List ℤ → ℕ
place_size m = cond (any_cut m) 3 2

abbrev pub piece_field_size : List ℤ → ℕ
piece_field_size m = place_size m + 2 * n# m

-- the words of the place of piece q of location l
unfoldable pub place_words : (m : List ℤ) (l q : ℕ) → List ℤ
place_words m l q = pos l ∷ pos (piece_face m l q) ∷ cond (any_cut m) (pos (piece_index m l q) ∷ []) []

abbrev pub piece_field : (m : List ℤ) (l q : ℕ) → Face → List ℕ
piece_field m l q absent = []
piece_field m l q (present b) = field 5 (words_bytes (place_words m l q ++ box_by (n# m) (low b) (high b)))

abbrev pub presence : Face → ℕ
presence absent = 0
presence (present b) = 1

unfoldable pub present_pieces : (m t : List ℤ) → ℕ
present_pieces m t = sum_below (L# m) (λ l. sum_below (pieces m l) (λ q. presence (piece_of m t l q)))

-- the fields of a location's present pieces; of all
unfoldable pub location_fields : (m t : List ℤ) (l : ℕ) → List ℕ
location_fields m t l = cat (pieces m l) (λ q. piece_field m l q (piece_of m t l q))

unfoldable pub piece_fields : (m t : List ℤ) → List ℕ
piece_fields m t = cat (L# m) (location_fields m t)

unfoldable pub table_file : (m t : List ℤ) → List ℕ
table_file m t = field 6 (word_bytes (pos (present_pieces m t))) ++ piece_fields m t

-- where the pieces' fields begin
abbrev pub pieces_from : ℕ
pieces_from = field_place 0 count_field_size 1

-- the length of the table file that bytes begin with, by the last two bytes of its count and the payload's length of its first
-- piece
abbrev pub file_length : List ℕ → ℕ
file_length s = pieces_from + (get_or s 5 0 * 256 + get_or s 6 0) * (header_size + length_at s pieces_from)

-- ---- the questions of a table file

-- where piece field i begins
abbrev pub piece_field_at : (m : List ℤ) (i : ℕ) → ℕ
piece_field_at m i = field_place pieces_from (piece_field_size m) i

-- the count as the head field has it
unfoldable pub count_word : List ℕ → ℤ
count_word s = word_at s header_size

-- head field whole, tag 6, length 4, count 0 to the number of pieces
unfoldable pub count_question : (m : List ℤ) (s : List ℕ) → ℕ
count_question m s =
    ask (is_field (field_at s 0) 6 (payload_length count_field_size)) 35
    then ask (within (pos 0) (pos (piece_count m)) (count_word s)) 35

-- the words of the piece field at a position: place, box; of field i
abbrev pub words_of_field : (m : List ℤ) (s : List ℕ) (at : ℕ) → List ℤ
words_of_field m s at = words_at s (at + header_size) (piece_field_size m)

unfoldable pub piece_field_words : (m : List ℤ) (s : List ℕ) (i : ℕ) → List ℤ
piece_field_words m s i = words_of_field m s (piece_field_at m i)

-- what a field's words w name: which piece of the face (0 where a place has no word for it); the piece of the location; and where it
-- stands in the table's order
unfoldable pub piece_word : (m w : List ℤ) → ℤ
piece_word m w = cond (any_cut m) (word w 2) (pos 0)

unfoldable pub piece_named : (m w : List ℤ) → ℕ
piece_named m w = piece_number m (num w 0) (num w 1) (nat_abs (piece_word m w))

abbrev pub piece_key : (m w : List ℤ) → ℕ
piece_key m w = pieces_before m (num w 0) + piece_named m w

-- after the one before: the least key that field i may have
abbrev pub least_key : (m : List ℤ) (s : List ℕ) (i : ℕ) → ℕ
least_key m s zero = 0
least_key m s (suc i) = piece_key m (piece_field_words m s i) + 1

-- of a field's words w: location, face and piece exist (0 everywhere, 1 at every face of a cut location), and the key is at least
-- the least
unfoldable pub place_ok : (m w : List ℤ) (least : ℕ) → Bool
place_ok m w least =
    within (pos 0) (pos (L# m - 1)) (word w 0)
    && (within (pos 0) (pos (2 * n# m - 1)) (word w 1)
    && (within (pos 0) (pos (per_face m (num w 0) - 1)) (piece_word m w)
    && leb least (piece_key m w)))

-- the field at a position: whole, tag 5, due length? 36; location, face and piece exist, after the one before? 37
unfoldable pub piece_question : (m : List ℤ) (s : List ℕ) (at least : ℕ) → ℕ
piece_question m s at least =
    ask (is_field (field_at s at) 5 (payload_length (piece_field_size m))) 36
    then ask (place_ok m (words_of_field m s at) least) 37

abbrev pub piece_questions : (m : List ℤ) (s : List ℕ) (i : ℕ) → ℕ
piece_questions m s i = piece_question m s (piece_field_at m i) (least_key m s i)

-- ---- the table of a file: a piece is present with the box of the field that names it

unfoldable pub file_face : (m : List ℤ) (s : List ℕ) → ℕ → (l q : ℕ) → Face
file_face m s zero l q = absent
file_face m s (suc i) l q =
    cond (eqb (num (piece_field_words m s i) 0) l && eqb (piece_named m (piece_field_words m s i)) q)
    (present (box_at (n# m) (piece_field_words m s i) (place_size m)))
    (file_face m s i l q)

abbrev pub count# : List ℕ → ℕ
count# s = num (count_word s ∷ []) 0

unfoldable pub file_table : (m : List ℤ) (s : List ℕ) → List ℤ
file_table m s = table_by m (file_face m s (count# s))

-- each field in turn; when all are read: file ended? 38
unfoldable pub fields_questions : (m : List ℤ) (s : List ℕ) → ℕ
fields_questions m s =
    count_question m s
    then first (count# s) (piece_questions m s)
    then ask (eqb (length s) (piece_field_at m (count# s))) 38

-- then 32 of the outcome
unfoldable pub table_file_questions : (m : List ℤ) (s : List ℕ) → ℕ
table_file_questions m s = fields_questions m s then ask (table_ok m (file_table m s)) 32

-- ---- reading a table file: the model's questions and 20 change nothing, 35 to 38 and 32 zero the whole table buffer

-- the model's questions, then: table buffer or list long enough? 20
unfoldable pub room_questions : (m : List ℤ) (room : ℕ) → ℕ
room_questions m room = model_questions m then table_room_question m room

-- once these are yes
abbrev pub read_faces : (m : List ℤ) (s : List ℕ) (table : List ℤ) → ReadOutcome
read_faces m s table =
    unless_refused (table_file_questions m s) (zeroed table)
    (record { count = Ok (table_size m); words = onto (file_table m s) table })

unfoldable pub read_table_call : (m : List ℤ) (s : List ℕ) (table : List ℤ) → ReadOutcome
read_table_call m s table = unless_refused (room_questions m (length table)) table (read_faces m s table)

-- ---- writing a table file: model's questions, 20, 32, 39; a refusal changes nothing

unfoldable pub write_questions : (m t : List ℤ) (room : ℕ) → ℕ
write_questions m t room =
    room_questions m (length t)
    then ask (table_ok m t) 32
    then bytes_question m room

unfoldable pub write_table_call : (m t : List ℤ) (buffer : List ℕ) → WriteOutcome
write_table_call m t buffer = write_by (write_questions m t (length buffer)) (table_file m t) buffer
