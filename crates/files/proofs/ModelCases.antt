-- Plant P's file, read and written by computing with the definitions; in edition 2; and with a cut.
use Rattle.std.specs.Prelude.{Err, Ok, Result}
use mathlib.Core.Path.{◌≡◌, refl}
use mathlib.Core.List.{List, [], ◌∷◌, ◌++◌}
use Prim.Native.Nat.{ℕ}
use lib.IntN.{ℤ, pos, negsuc}
use lib.ListN.{length, replicate, take, set}
use Rattle.integers.specs.Words.{onto}
use Rattle.integers.specs.Counted.{cat, all_below}
use Rattle.files.specs.Bytes.{bits_at, word_at, words_at, word_bytes, words_bytes}
use Rattle.files.specs.Fields.{field_at, field}
use Rattle.plant.specs.Ask.{◌then◌, first}
use Rattle.plant.specs.Box.{low, high, box_by, box_at}
use Rattle.plant.specs.Model.{location_at, invariant, rate, start_flag, start_box, switch_at, source, target, wall_variable, source_side, target_side, reset_mask, masked, guard, reset, forbidden_at, forbidden_location, forbidden_box, cut_at, cut_variable, cut_value, model_size, wall}
use Rattle.plant.specs.Questions.{box_ok, inside_ok, zeros_ok, start_ok, location_questions, places_ok, boxes_ok, single_at, single_ok, source_wall, target_wall, guard_ok, level_after, lands_ok, switch_questions, forbidden_question, strictly_inside, cut_ok, cut_question, edition_question, ranges_questions, records_questions, model_questions}
use Rattle.plant.specs.Calls.{unless_refused}
use Rattle.plant.specs.Cases.{plant_p, P}
use Rattle.plant.proofs.Samples.{dosing, dose}
use Rattle.files.specs.ModelFile.{model_file, run_questions, head_words, head_questions, cut_words_ok, cut_field_questions, end_questions, cuts_questions, body_questions, run_words, record_words, file_cut, cut_words, file_words, records_file_questions, read_model_call, write_model_questions, write_model_call}

-- P's file has 22 of P's 25 words, in 3 fields: its tag gives the edition, no field the two words of no cut; read into 26 words it gives P,
-- and the last word is left
record Read : Type 0 where
  length_of_file : length (model_file P) ≡ 97
  reads : read_model_call (model_file P) (replicate 26 (pos 7)) ≡ record { count = Ok 25; words = P ++ (pos 7 ∷ []) }
  too_short : (read_model_call (model_file P) (replicate 24 (pos 7))).count ≡ Err 5
  one_byte_more : read_model_call (model_file P ++ (0 ∷ [])) (replicate 25 (pos 7)) ≡ record { count = Err 8; words = replicate 25 (pos 0) }
  one_byte_less : (read_model_call (take 96 (model_file P)) (replicate 25 (pos 7))).count ≡ Err 7
  no_byte : read_model_call [] (replicate 25 (pos 7)) ≡ record { count = Err 1; words = replicate 25 (pos 7) }

-- P's file with a field of tag 8 after it; and of P with an invariant that is not ordered
abbrev with_cut : (m words : List ℤ) → List ℕ
with_cut m words = model_file m ++ field 8 (words_bytes words)

abbrev answered : List ℕ → Result ℕ ℕ
answered s = (read_model_call s (replicate 25 (pos 7))).count

abbrev disordered : List ℤ
disordered = set P 6 (negsuc 0)

-- the first tag in place of a file's own
abbrev tagged : ℕ → List ℕ → List ℕ
tagged tag s = set s 0 tag

-- document 02, T-10: P's file under tag 9 is P of edition 2, and its file has tag 9; any other first tag gets 1, and so does a head of
-- another length
record EditionRead : Type 0 where
  reads : read_model_call (tagged 9 (model_file P)) (replicate 25 (pos 7)) ≡ record { count = Ok 25; words = set P 4 (pos 2) }
  written : model_file (set P 4 (pos 2)) ≡ tagged 9 (model_file P)
  tag_0 : answered (tagged 0 (model_file P)) ≡ Err 1
  tag_2 : answered (tagged 2 (model_file P)) ≡ Err 1
  tag_8 : answered (tagged 8 (model_file P)) ≡ Err 1
  tag_10 : answered (tagged 10 (model_file P)) ≡ Err 1
  head_of_20 : answered (field 9 (words_bytes (take 5 P))) ≡ Err 1
  head_cut_short : answered (take 18 (tagged 9 (model_file P))) ≡ Err 1
  -- the dose of 5..8 under tag 9, and the same bytes under tag 1
  range_reads : read_model_call (model_file (dose (pos 2) 5 8)) (replicate 54 (pos 7)) ≡ record { count = Ok 54; words = dose (pos 2) 5 8 }
  range_under_1 : read_model_call (tagged 1 (model_file (dose (pos 2) 5 8))) (replicate 54 (pos 7)) ≡ record { count = Err 16; words = replicate 54 (pos 0) }
  range_tag : take 3 (model_file (dose (pos 2) 5 8)) ≡ 9 ∷ 0 ∷ 16 ∷ []

-- location 0 of P cut at y 5
abbrev cut_p : List ℤ
cut_p = take 23 P ++ (pos 1 ∷ pos 5 ∷ [])

record CutRead : Type 0 where
  -- its file is that of P with the cut
  reads : read_model_call (with_cut P (pos 0 ∷ pos 1 ∷ pos 5 ∷ [])) (replicate 25 (pos 7)) ≡ record { count = Ok 25; words = cut_p }
  written : model_file cut_p ≡ with_cut P (pos 0 ∷ pos 1 ∷ pos 5 ∷ [])
  -- a first byte of 8 alone; a field of two words; one of the right length of which a byte is missing
  tag_alone : read_model_call (model_file P ++ (8 ∷ [])) (replicate 25 (pos 7)) ≡ record { count = Err 46; words = replicate 25 (pos 0) }
  two_words : answered (with_cut P (pos 0 ∷ pos 1 ∷ [])) ≡ Err 46
  cut_short : answered (take 111 (with_cut P (pos 0 ∷ pos 1 ∷ pos 5 ∷ []))) ≡ Err 46
  -- a location that there is not; location 0 again; a byte after the last field
  next_location : answered (with_cut P (pos 1 ∷ pos 1 ∷ pos 5 ∷ [])) ≡ Err 46
  negative_location : answered (with_cut P (negsuc 0 ∷ pos 1 ∷ pos 5 ∷ [])) ≡ Err 46
  twice : answered (with_cut P (pos 0 ∷ pos 1 ∷ pos 5 ∷ []) ++ field 8 (words_bytes (pos 0 ∷ pos 1 ∷ pos 5 ∷ []))) ≡ Err 46
  byte_after : answered (with_cut P (pos 0 ∷ pos 1 ∷ pos 5 ∷ []) ++ (0 ∷ [])) ≡ Err 8
  -- variable -1, whatever the value; -2 and n; values on the walls
  no_variable : answered (with_cut P (pos 0 ∷ negsuc 0 ∷ pos 0 ∷ [])) ≡ Err 46
  negative_variable : answered (with_cut P (pos 0 ∷ negsuc 1 ∷ pos 5 ∷ [])) ≡ Err 46
  third_variable : answered (with_cut P (pos 0 ∷ pos 2 ∷ pos 5 ∷ [])) ≡ Err 46
  low_wall : answered (with_cut P (pos 0 ∷ pos 1 ∷ pos 0 ∷ [])) ≡ Err 46
  high_wall : answered (with_cut P (pos 0 ∷ pos 1 ∷ pos 10 ∷ [])) ≡ Err 46
  -- of the variable only -1 is asked before the records
  before_records : answered (with_cut disordered (pos 0 ∷ negsuc 0 ∷ pos 0 ∷ [])) ≡ Err 46
  after_records : answered (with_cut disordered (pos 0 ∷ negsuc 1 ∷ pos 5 ∷ [])) ≡ Err 11

-- a buffer of so many bytes, all 7
abbrev bytes : ℕ → List ℕ
bytes k = replicate k 7

-- document 02, T-01: P's file is written into as many bytes as it has; the rest is left; into fewer, nothing is. All the model's questions
-- come before 40, the last one too
record Write : Type 0 where
  exact : write_model_call P (bytes 97) ≡ record { count = Ok 97; file = model_file P }
  rest_left : write_model_call P (bytes 99) ≡ record { count = Ok 97; file = model_file P ++ (7 ∷ 7 ∷ []) }
  one_byte_less : write_model_call P (bytes 96) ≡ record { count = Err 40; file = bytes 96 }
  no_byte : write_model_call P [] ≡ record { count = Err 40; file = [] }
  word_behind : write_model_call (P ++ (pos 3 ∷ [])) (bytes 97) ≡ record { count = Ok 97; file = model_file P }
  word_missing : write_model_call (take 24 P) (bytes 97) ≡ record { count = Err 5; file = bytes 97 }
  not_ordered : (write_model_call disordered []).count ≡ Err 11
  edition_2 : write_model_call (set P 4 (pos 2)) (bytes 97) ≡ record { count = Ok 97; file = tagged 9 (model_file P) }
  edition_3 : (write_model_call (set P 4 (pos 3)) []).count ≡ Err 43
  cut : write_model_call cut_p (bytes 112) ≡ record { count = Ok 112; file = with_cut P (pos 0 ∷ pos 1 ∷ pos 5 ∷ []) }
  cut_one_byte_less : (write_model_call cut_p (bytes 111)).count ≡ Err 40
  cut_at_wall : (write_model_call (set cut_p 24 (pos 10)) []).count ≡ Err 46

-- a plant of edition 2 with a field of every kind: n 1, two locations, a switch, a forbidden box, location 1 cut at 8
abbrev small : List ℤ
small =
    pos 1 ∷ pos 2 ∷ pos 1 ∷ pos 1 ∷ pos 2 ∷
    pos 0 ∷ pos 9 ∷ pos 1 ∷ pos 1 ∷ pos 1 ∷ pos 0 ∷ pos 3 ∷
    pos 0 ∷ pos 9 ∷ negsuc 0 ∷ negsuc 0 ∷ pos 0 ∷ pos 0 ∷ pos 0 ∷
    pos 0 ∷ pos 1 ∷ pos 0 ∷ pos 1 ∷ pos 1 ∷ pos 0 ∷ pos 9 ∷ pos 9 ∷ pos 0 ∷ pos 9 ∷
    pos 1 ∷ negsuc 1 ∷ negsuc 0 ∷
    negsuc 0 ∷ pos 0 ∷ pos 0 ∷ pos 8 ∷ []

-- its file, byte by byte
abbrev small_file : List ℕ
small_file =
    9 ∷ 0 ∷ 16 ∷ 0 ∷ 0 ∷ 0 ∷ 1 ∷ 0 ∷ 0 ∷ 0 ∷ 2 ∷ 0 ∷ 0 ∷ 0 ∷ 1 ∷ 0 ∷ 0 ∷ 0 ∷ 1 ∷
    2 ∷ 0 ∷ 28 ∷ 0 ∷ 0 ∷ 0 ∷ 0 ∷ 0 ∷ 0 ∷ 0 ∷ 9 ∷ 0 ∷ 0 ∷ 0 ∷ 1 ∷ 0 ∷ 0 ∷ 0 ∷ 1 ∷ 0 ∷ 0 ∷ 0 ∷ 1 ∷ 0 ∷ 0 ∷ 0 ∷ 0 ∷ 0 ∷ 0 ∷ 0 ∷ 3 ∷
    2 ∷ 0 ∷ 28 ∷ 0 ∷ 0 ∷ 0 ∷ 0 ∷ 0 ∷ 0 ∷ 0 ∷ 9 ∷ 255 ∷ 255 ∷ 255 ∷ 255 ∷ 255 ∷ 255 ∷ 255 ∷ 255 ∷ 0 ∷ 0 ∷ 0 ∷ 0 ∷ 0 ∷ 0 ∷ 0 ∷ 0 ∷ 0 ∷ 0 ∷ 0 ∷ 0 ∷
    3 ∷ 0 ∷ 40 ∷ 0 ∷ 0 ∷ 0 ∷ 0 ∷ 0 ∷ 0 ∷ 0 ∷ 1 ∷ 0 ∷ 0 ∷ 0 ∷ 0 ∷ 0 ∷ 0 ∷ 0 ∷ 1 ∷ 0 ∷ 0 ∷ 0 ∷ 1 ∷ 0 ∷ 0 ∷ 0 ∷ 0 ∷ 0 ∷ 0 ∷ 0 ∷ 9 ∷ 0 ∷ 0 ∷ 0 ∷ 9 ∷ 0 ∷ 0 ∷ 0 ∷ 0 ∷ 0 ∷ 0 ∷ 0 ∷ 9 ∷
    4 ∷ 0 ∷ 12 ∷ 0 ∷ 0 ∷ 0 ∷ 1 ∷ 255 ∷ 255 ∷ 255 ∷ 254 ∷ 255 ∷ 255 ∷ 255 ∷ 255 ∷
    8 ∷ 0 ∷ 12 ∷ 0 ∷ 0 ∷ 0 ∷ 1 ∷ 0 ∷ 0 ∷ 0 ∷ 0 ∷ 0 ∷ 0 ∷ 0 ∷ 8 ∷ []

record InBytes : Type 0 where
  is_file : model_file small ≡ small_file
  written : write_model_call small (bytes 155) ≡ record { count = Ok 154; file = small_file ++ (7 ∷ []) }
  reads : read_model_call small_file (replicate 37 (pos 7)) ≡ record { count = Ok 36; words = small ++ (pos 7 ∷ []) }

read : Read
unfolding onto cat all_below bits_at word_at words_at word_bytes words_bytes field_at field ◌then◌ first low high box_by box_at location_at invariant rate start_flag start_box switch_at forbidden_at forbidden_location forbidden_box cut_at cut_variable cut_value model_size box_ok inside_ok zeros_ok start_ok location_questions forbidden_question strictly_inside cut_ok cut_question ranges_questions records_questions plant_p P model_file run_questions head_words head_questions cut_words_ok cut_field_questions end_questions cuts_questions body_questions run_words record_words file_cut cut_words file_words records_file_questions unless_refused read_model_call
read = record { length_of_file = refl; reads = refl; too_short = refl; one_byte_more = refl; one_byte_less = refl; no_byte = refl }

edition_read : EditionRead
unfolding dosing dose onto cat all_below bits_at word_at words_at word_bytes words_bytes field_at field ◌then◌ first low high box_by box_at location_at invariant rate start_flag start_box switch_at forbidden_at forbidden_location forbidden_box cut_at cut_variable cut_value model_size box_ok inside_ok zeros_ok start_ok location_questions forbidden_question strictly_inside cut_ok cut_question ranges_questions records_questions plant_p P model_file run_questions head_words head_questions cut_words_ok cut_field_questions end_questions cuts_questions body_questions run_words record_words file_cut cut_words file_words records_file_questions unless_refused read_model_call source target wall_variable source_side target_side reset_mask masked guard reset wall places_ok boxes_ok single_at single_ok source_wall target_wall guard_ok level_after lands_ok switch_questions
edition_read = record {
  reads = refl;
  written = refl;
  tag_0 = refl;
  tag_2 = refl;
  tag_8 = refl;
  tag_10 = refl;
  head_of_20 = refl;
  head_cut_short = refl;
  range_reads = refl;
  range_under_1 = refl;
  range_tag = refl;
}

cut_read : CutRead
unfolding onto cat all_below bits_at word_at words_at word_bytes words_bytes field_at field ◌then◌ first low high box_by box_at location_at invariant rate start_flag start_box switch_at forbidden_at forbidden_location forbidden_box cut_at cut_variable cut_value model_size box_ok inside_ok zeros_ok start_ok location_questions forbidden_question strictly_inside cut_ok cut_question ranges_questions records_questions plant_p P model_file run_questions head_words head_questions cut_words_ok cut_field_questions end_questions cuts_questions body_questions run_words record_words file_cut cut_words file_words records_file_questions unless_refused read_model_call
cut_read = record {
  reads = refl;
  written = refl;
  tag_alone = refl;
  two_words = refl;
  cut_short = refl;
  next_location = refl;
  negative_location = refl;
  twice = refl;
  byte_after = refl;
  no_variable = refl;
  negative_variable = refl;
  third_variable = refl;
  low_wall = refl;
  high_wall = refl;
  before_records = refl;
  after_records = refl;
}

write : Write
unfolding onto cat all_below word_bytes words_bytes field ◌then◌ first low high box_by box_at location_at invariant rate start_flag start_box switch_at forbidden_at forbidden_location forbidden_box cut_at cut_variable cut_value model_size box_ok inside_ok zeros_ok start_ok location_questions forbidden_question strictly_inside cut_ok cut_question ranges_questions records_questions plant_p P model_file edition_question model_questions write_model_questions write_model_call
write = record {
  exact = refl;
  rest_left = refl;
  one_byte_less = refl;
  no_byte = refl;
  word_behind = refl;
  word_missing = refl;
  not_ordered = refl;
  edition_2 = refl;
  edition_3 = refl;
  cut = refl;
  cut_one_byte_less = refl;
  cut_at_wall = refl;
}

in_bytes : InBytes
unfolding onto cat all_below bits_at word_at words_at word_bytes words_bytes field_at field ◌then◌ first low high box_by box_at location_at invariant rate start_flag start_box switch_at forbidden_at forbidden_location forbidden_box cut_at cut_variable cut_value model_size box_ok inside_ok zeros_ok start_ok location_questions forbidden_question strictly_inside cut_ok cut_question ranges_questions records_questions plant_p P model_file run_questions head_words head_questions cut_words_ok cut_field_questions end_questions cuts_questions body_questions run_words record_words file_cut cut_words file_words records_file_questions unless_refused read_model_call source target wall_variable source_side target_side reset_mask masked guard reset wall places_ok boxes_ok single_at single_ok source_wall target_wall guard_ok level_after lands_ok switch_questions edition_question model_questions write_model_questions write_model_call
in_bytes = record { is_file = refl; written = refl; reads = refl }
