-- Document 01, "Files" and "The questions, in order": the file of a model, and what reading one gives. And document 02: its first tag,
-- which gives its edition (T-10), the fields of its cuts (T-12), and what writing one gives (T-01).
use Rattle.std.specs.Prelude.{Bool, false, cond, not, ◌&&◌, ◌||◌, List, [], ◌∷◌, ◌++◌, ℕ, zero, suc, ◌+◌, ◌-◌, eqb, leb, ℤ, pos, negsuc, length, get_or, Ok}
use Rattle.integers.specs.Words.{word, num, eq_z, within, onto}
use Rattle.integers.specs.Counted.{cat}
use Rattle.files.specs.Bytes.{words_at, words_bytes, part}
use Rattle.files.specs.Fields.{header_size, payload_length, field_place, field_at, is_field, field}
use Rattle.files.specs.declared.Field.{Field}
use Rattle.files.specs.declared.Field.TheVariants.{Whole, Cut, Short}
use Rattle.plant.specs.Ask.{ask, ◌then◌, first}
use Rattle.plant.specs.Model.{n#, L#, E#, B#, edition, location_size, switch_size, forbidden_size, location_at, switch_at, forbidden_at, cut_variable, cut_value, model_size}
use Rattle.plant.specs.Questions.{ranges_questions, records_questions, model_questions}
use Rattle.plant.specs.Calls.{ReadOutcome, unless_refused, zeroed, WriteOutcome, write_by}

-- ---- the file of a model's words: tag 1, or 9 in edition 2 (n, L, E, B), then L of tag 2, E of tag 3, B of tag 4, each one record;
-- then one of tag 8 for each location that is cut (location, variable, value)

-- the edition gives the first tag, and is given by it
abbrev pub first_tag : (edition : ℤ) → ℕ
first_tag edition = cond (eq_z edition (pos 2)) 9 1

abbrev pub edition_of : (tag : ℕ) → ℤ
edition_of tag = cond (eqb tag 9) (pos 2) (pos 1)

-- how many words the first field has, and a cut's
abbrev pub head_field_size : ℕ
head_field_size = 4

abbrev pub cut_field_size : ℕ
cut_field_size = 3

-- a field whose payload is count words of the list m, from a place on
abbrev pub record_field : (tag : ℕ) (m : List ℤ) (from count : ℕ) → List ℕ
record_field tag m from count = field tag (words_bytes (part m from count))

-- the field of a location's cut; none where the variable is -1
abbrev pub cut_field : (l : ℕ) (variable value : ℤ) → List ℕ
cut_field l variable value = cond (eq_z variable (negsuc 0)) [] (field 8 (words_bytes (pos l ∷ variable ∷ value ∷ [])))

unfoldable pub model_file : List ℤ → List ℕ
model_file m =
    record_field (first_tag (edition m)) m 0 head_field_size
    ++ (cat (L# m) (λ l. record_field 2 m (location_at m l) (location_size (n# m)))
    ++ (cat (E# m) (λ e. record_field 3 m (switch_at m e) (switch_size (n# m)))
    ++ (cat (B# m) (λ b. record_field 4 m (forbidden_at m b) (forbidden_size (n# m)))
    ++ cat (L# m) (λ l. cut_field l (cut_variable m l) (cut_value m l)))))

-- ---- the questions of a file

-- three bytes left and the due tag
abbrev pub has_tag : Field → ℕ → Bool
has_tag (Whole t start l next) tag = eqb t tag
has_tag (Cut t) tag = eqb t tag
has_tag Short tag = false

-- the due tag? 6. The record's length, all there? 7
abbrev pub field_questions : Field → (tag len : ℕ) → ℕ
field_questions f tag len = ask (has_tag f tag) 6 then ask (is_field f tag len) 7

-- of count fields, each with a payload of w words, from a position on
unfoldable pub run_questions : (s : List ℕ) (from count tag w : ℕ) → ℕ
run_questions s from count tag w = first count (λ i. field_questions (field_at s (field_place from w i)) tag (payload_length w))

-- n, L, E and B as the first field has them, and the edition that its tag, the file's first byte, gives
unfoldable pub head_words : List ℕ → List ℤ
head_words s = words_at s header_size head_field_size ++ (edition_of (get_or s 0 0) ∷ [])

-- whole, tag 1 or 9, length 16
abbrev pub is_head : Field → Bool
is_head f = is_field f 1 (payload_length head_field_size) || is_field f 9 (payload_length head_field_size)

-- first field so? 1. n, L, E and B allowed? 2 to 4. (The edition is 1 or 2, so 43 is not asked.)
unfoldable pub head_questions : List ℕ → ℕ
head_questions s = ask (is_head (field_at s 0)) 1 then ranges_questions (head_words s)

-- word buffer long enough for the model of the head words h? 5
abbrev pub buffer_question : (h : List ℤ) (room : ℕ) → ℕ
buffer_question h room = ask (leb (model_size h) room) 5

-- where the fields of the locations, the switches, the forbidden boxes and the cuts begin; h are the head words
abbrev pub locations_from : ℕ
locations_from = field_place 0 head_field_size 1

abbrev pub switches_from : List ℤ → ℕ
switches_from h = field_place locations_from (location_size (n# h)) (L# h)

abbrev pub forbiddens_from : List ℤ → ℕ
forbiddens_from h = field_place (switches_from h) (switch_size (n# h)) (E# h)

abbrev pub cuts_from : List ℤ → ℕ
cuts_from h = field_place (forbiddens_from h) (forbidden_size (n# h)) (B# h)

-- ---- the fields of the cuts, from a position on, in a model of L locations

-- where field i begins, if the file has not ended there
abbrev pub cut_place : (from i : ℕ) → ℕ
cut_place from i = field_place from cut_field_size i

abbrev pub ended_at : (s : List ℕ) (at : ℕ) → Bool
ended_at s at = leb (length s) at

-- the words of the field at a position: location, variable, value
abbrev pub cut_field_words : (s : List ℕ) (at : ℕ) → List ℤ
cut_field_words s at = words_at s (at + header_size) cut_field_size

-- above the one before: the least location that field i may name
abbrev pub least_location : (s : List ℕ) (from i : ℕ) → ℕ
least_location s from zero = 0
least_location s from (suc i) = num (cut_field_words s (cut_place from i)) 0 + 1

-- of a field's words w: a location from the least to L - 1, and a variable that is not -1
unfoldable pub cut_words_ok : (w : List ℤ) (least L : ℕ) → Bool
cut_words_ok w least L = within (pos least) (pos (L - 1)) (word w 0) && not (eq_z (word w 1) (negsuc 0))

-- where the file has not ended: a first byte of 8, with which the field of a cut begins? 8. The field whole, of three words, these
-- as they may be? 46
unfoldable pub cut_field_questions : (s : List ℕ) (at least L : ℕ) → ℕ
cut_field_questions s at least L =
    ask (eqb (get_or s at 0) 8) 8
    then ask (is_field (field_at s at) 8 (payload_length cut_field_size)) 46
    then ask (cut_words_ok (cut_field_words s at) least L) 46

-- where field i would begin: the end of the file is yes
unfoldable pub end_questions : (s : List ℕ) (from L i : ℕ) → ℕ
end_questions s from L i =
    cond (ended_at s (cut_place from i)) 0
    (cut_field_questions s (cut_place from i) (least_location s from i) L)

-- after none, one, .. and L fields: no field after L of them names a location above theirs, so this asks all bytes
unfoldable pub cuts_questions : (s : List ℕ) (from L : ℕ) → ℕ
cuts_questions s from L = first (suc L) (end_questions s from L)

-- ---- each record's field in turn; then the cuts' fields, and the end

unfoldable pub body_questions : (s : List ℕ) (h : List ℤ) → ℕ
body_questions s h =
    run_questions s locations_from (L# h) 2 (location_size (n# h))
    then run_questions s (switches_from h) (E# h) 3 (switch_size (n# h))
    then run_questions s (forbiddens_from h) (B# h) 4 (forbidden_size (n# h))
    then cuts_questions s (cuts_from h) (L# h)

-- ---- the words of a file

-- the payloads of count fields of w words each
unfoldable pub run_words : (s : List ℕ) (from count w : ℕ) → List ℤ
run_words s from count w = cat count (λ i. words_at s (field_place from w i + header_size) w)

-- the head's and all records'
unfoldable pub record_words : (s : List ℕ) (h : List ℤ) → List ℤ
record_words s h =
    h
    ++ (run_words s locations_from (L# h) (location_size (n# h))
    ++ (run_words s (switches_from h) (E# h) (switch_size (n# h))
    ++ run_words s (forbiddens_from h) (B# h) (forbidden_size (n# h))))

-- the field at a position is there, and names location l
abbrev pub names_location : (s : List ℕ) (at l : ℕ) → Bool
names_location s at l = not (ended_at s at) && eqb (num (cut_field_words s at) 0) l

-- variable and value of location l: those of the field below k that names it, -1 and 0 where none does
unfoldable pub file_cut : (s : List ℕ) (from k l : ℕ) → List ℤ
file_cut s from zero l = negsuc 0 ∷ pos 0 ∷ []
file_cut s from (suc i) l =
    cond (names_location s (cut_place from i) l)
    (word (cut_field_words s (cut_place from i)) 1 ∷ word (cut_field_words s (cut_place from i)) 2 ∷ [])
    (file_cut s from i l)

unfoldable pub cut_words : (s : List ℕ) (from L : ℕ) → List ℤ
cut_words s from L = cat L (file_cut s from L)

unfoldable pub file_words : (s : List ℕ) (h : List ℤ) → List ℤ
file_words s h = record_words s h ++ cut_words s (cuts_from h) (L# h)

-- the questions after those of the head: of the fields, 6 to 8 and 46, and of the words that they give, 11 to 19 and 46
unfoldable pub records_file_questions : (s : List ℕ) (h : List ℤ) → ℕ
records_file_questions s h = body_questions s h then records_questions (file_words s h)

-- ---- reading a model: 1 to 5 change nothing, 6 to 19 and 46 zero the whole word buffer

-- once the head words h are accepted
abbrev pub read_records : (s : List ℕ) (h words : List ℤ) → ReadOutcome
read_records s h words =
    unless_refused (records_file_questions s h) (zeroed words)
    (record { count = Ok (model_size h); words = onto (file_words s h) words })

unfoldable pub read_model_call : (s : List ℕ) (words : List ℤ) → ReadOutcome
read_model_call s words =
    unless_refused (head_questions s then buffer_question (head_words s) (length words)) words
    (read_records s (head_words s) words)

-- ---- writing a model: its questions, 40; a refusal changes nothing

-- byte buffer long enough for the file? 40
abbrev pub file_room_question : (m : List ℤ) (room : ℕ) → ℕ
file_room_question m room = ask (leb (length (model_file m)) room) 40

unfoldable pub write_model_questions : (m : List ℤ) (room : ℕ) → ℕ
write_model_questions m room = model_questions m then file_room_question m room

unfoldable pub write_model_call : (m : List ℤ) (buffer : List ℕ) → WriteOutcome
write_model_call m buffer = write_by (write_model_questions m (length buffer)) (model_file m) buffer
