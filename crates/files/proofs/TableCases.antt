-- The files of plant P's table and of a table with cut faces, read and written by computing with the definitions.
use Rattle.std.specs.Prelude.{Err, Ok}
use mathlib.Core.Path.{◌≡◌, refl}
use mathlib.Core.List.{List, [], ◌∷◌, ◌++◌}
use Prim.Native.Nat.{ℕ}
use lib.IntN.{ℤ, pos}
use lib.ListN.{length, replicate}
use Rattle.integers.specs.Words.{onto}
use Rattle.integers.specs.Counted.{cat, all_below, any_below, sum_below}
use Rattle.files.specs.Bytes.{bits_at, word_at, words_at, word_bytes, words_bytes}
use Rattle.files.specs.Fields.{field_at, field}
use Rattle.plant.specs.Ask.{◌then◌, first}
use Rattle.plant.specs.Box.{low, high, box_by, box_at, ordered, face_words}
use Rattle.plant.specs.Model.{location_at, invariant, rate, start_flag, start_box, switch_at, source, target, wall_variable, source_side, target_side, reset_mask, masked, guard, reset, forbidden_at, forbidden_location, forbidden_box, cut_at, cut_variable, cut_value, cut_from, cut_of, model_size, wall, face_wall}
use Rattle.plant.specs.Questions.{box_ok, inside_ok, zeros_ok, start_ok, location_questions, places_ok, boxes_ok, single_at, single_ok, source_wall, target_wall, guard_ok, level_after, lands_ok, switch_questions, forbidden_question, strictly_inside, cut_ok, cut_question, ranges_questions, edition_question, records_questions, model_questions}
use Rattle.plant.specs.Pieces.{extent_by, keeps_to, pieces_per_face, per_face, any_cut, pieces, piece_number, piece_face, piece_index, piece_variable, piece_wall, piece_extent}
use Rattle.plant.specs.Tables.{pieces_before, piece_count, table_size, longest_table_file, piece_at, table_by, face_read, piece_of, on_wall, absent_ok, present_ok, piece_ok, table_ok}
use Rattle.plant.specs.Calls.{unless_refused}
use Rattle.plant.specs.Cases.{plant_p, P, table_p, box₂}
use Rattle.plant.proofs.Samples.{gone, there, plant_d, no_cut, cut_y}
use Rattle.files.specs.TableFile.{place_size, place_words, present_pieces, location_fields, piece_fields, table_file, count_word, count_question, piece_field_words, piece_word, piece_named, place_ok, piece_question, file_face, file_table, fields_questions, table_file_questions, room_questions, read_table_call, write_questions, write_table_call}

-- the table has 20 words and two present faces; read into 21 words its file gives it, and the last word is left
record Table : Type 0 where
  length_of_file : length (table_file P (table_p 2)) ≡ 61
  reads : read_table_call P (table_file P (table_p 2)) (replicate 21 (pos 7)) ≡ record { count = Ok 20; words = table_p 2 ++ (pos 7 ∷ []) }
  one_byte_more : read_table_call P (table_file P (table_p 2) ++ (0 ∷ [])) (replicate 20 (pos 7)) ≡ record { count = Err 38; words = replicate 20 (pos 0) }
  longest : longest_table_file P ≡ 115
  writes : (write_table_call P (table_p 2) (replicate 115 9)).count ≡ Ok 61

table : Table
unfolding onto cat all_below any_below sum_below bits_at word_at words_at word_bytes words_bytes field_at field ◌then◌ first low high box_by box_at ordered face_words location_at invariant rate start_flag start_box switch_at source target wall_variable source_side target_side reset_mask masked guard reset forbidden_at forbidden_location forbidden_box cut_at cut_variable cut_value cut_from cut_of model_size wall face_wall box_ok inside_ok zeros_ok start_ok location_questions places_ok boxes_ok single_at single_ok source_wall target_wall guard_ok level_after lands_ok switch_questions forbidden_question strictly_inside cut_ok cut_question ranges_questions edition_question records_questions model_questions extent_by keeps_to pieces_per_face per_face any_cut pieces piece_number piece_face piece_index piece_variable piece_wall piece_extent pieces_before piece_count table_size longest_table_file piece_at table_by face_read piece_of on_wall absent_ok present_ok piece_ok table_ok place_size place_words present_pieces location_fields piece_fields table_file count_word count_question piece_field_words piece_word piece_named place_ok piece_question file_face file_table fields_questions table_file_questions room_questions read_table_call write_questions write_table_call unless_refused plant_p P table_p
table = record {
  length_of_file = refl;
  reads = refl;
  one_byte_more = refl;
  longest = refl;
  writes = refl;
}

-- two locations, the first cut at y 5: eight pieces and four, of which six are present
unfoldable D : List ℤ
D = plant_d cut_y no_cut

unfoldable table_d : List ℤ
table_d =
    there 0 0 0 2 ++ gone ++ there 4 4 4 5 ++ there 4 4 5 6 ++ there 0 0 0 0 ++ gone ++ gone ++ gone
    ++ there 0 0 4 6 ++ there 4 4 4 6 ++ gone ++ gone

-- a file of one field, of two
abbrev one : List ℤ → List ℕ
one a = field 6 (word_bytes (pos 1)) ++ field 5 (words_bytes a)

abbrev two : (a b : List ℤ) → List ℕ
two a b = field 6 (word_bytes (pos 2)) ++ (field 5 (words_bytes a) ++ field 5 (words_bytes b))

-- reading a file of it is refused
abbrev Refuses : ℕ → List ℕ → Type 0
Refuses k s = read_table_call D s (replicate 60 (pos 7)) ≡ record { count = Err k; words = replicate 60 (pos 0) }

record CutTable : Type 0 where
  -- each field has the piece after the face number, also at the second location, which is not cut
  length_of_file : length (table_file D table_d) ≡ 193
  second_piece : piece_field_words D (table_file D table_d) 2 ≡ pos 0 ∷ pos 1 ∷ pos 1 ∷ box₂ 4 4 5 6
  uncut_location : piece_field_words D (table_file D table_d) 5 ≡ pos 1 ∷ pos 1 ∷ pos 0 ∷ box₂ 4 4 4 6
  reads : read_table_call D (table_file D table_d) (replicate 61 (pos 7)) ≡ record { count = Ok 60; words = table_d ++ (pos 7 ∷ []) }
  longest : longest_table_file D ≡ 379
  writes : (write_table_call D table_d (replicate 379 9)).count ≡ Ok 193
  -- 35: thirteen pieces
  too_many : Refuses 35 (field 6 (word_bytes (pos 13)))
  -- 36: a field without the piece, at a location that is cut, at one that is not
  no_piece : Refuses 36 (one (pos 0 ∷ pos 1 ∷ box₂ 4 4 4 5))
  no_piece_uncut : Refuses 36 (one (pos 1 ∷ pos 1 ∷ box₂ 4 4 4 6))
  -- 37: piece 2; piece 1 of a location that is not cut; the first piece after the second; one piece twice
  piece_two : Refuses 37 (one (pos 0 ∷ pos 1 ∷ pos 2 ∷ box₂ 4 4 4 5))
  piece_uncut : Refuses 37 (one (pos 1 ∷ pos 1 ∷ pos 1 ∷ box₂ 4 4 4 6))
  descending : Refuses 37 (two (pos 0 ∷ pos 1 ∷ pos 1 ∷ box₂ 4 4 5 6) (pos 0 ∷ pos 1 ∷ pos 0 ∷ box₂ 4 4 4 5))
  twice : Refuses 37 (two (pos 0 ∷ pos 1 ∷ pos 1 ∷ box₂ 4 4 5 6) (pos 0 ∷ pos 1 ∷ pos 1 ∷ box₂ 4 4 5 6))
  -- 32, not 37: the second piece on the cut variable's own wall
  own_wall : Refuses 32 (one (pos 0 ∷ pos 2 ∷ pos 1 ∷ box₂ 0 0 0 0))

cut_table : CutTable
unfolding onto cat all_below any_below sum_below bits_at word_at words_at word_bytes words_bytes field_at field ◌then◌ first low high box_by box_at ordered face_words location_at invariant rate start_flag start_box switch_at source target wall_variable source_side target_side reset_mask masked guard reset forbidden_at forbidden_location forbidden_box cut_at cut_variable cut_value cut_from cut_of model_size wall face_wall box_ok inside_ok zeros_ok start_ok location_questions places_ok boxes_ok single_at single_ok source_wall target_wall guard_ok level_after lands_ok switch_questions forbidden_question strictly_inside cut_ok cut_question ranges_questions edition_question records_questions model_questions extent_by keeps_to pieces_per_face per_face any_cut pieces piece_number piece_face piece_index piece_variable piece_wall piece_extent pieces_before piece_count table_size longest_table_file piece_at table_by face_read piece_of on_wall absent_ok present_ok piece_ok table_ok place_size place_words present_pieces location_fields piece_fields table_file count_word count_question piece_field_words piece_word piece_named place_ok piece_question file_face file_table fields_questions table_file_questions room_questions read_table_call write_questions write_table_call unless_refused plant_d D table_d
cut_table = record {
  length_of_file = refl;
  second_piece = refl;
  uncut_location = refl;
  reads = refl;
  longest = refl;
  writes = refl;
  too_many = refl;
  no_piece = refl;
  no_piece_uncut = refl;
  piece_two = refl;
  piece_uncut = refl;
  descending = refl;
  twice = refl;
  own_wall = refl;
}
