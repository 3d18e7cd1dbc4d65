-- A cut never hurts: plant P of document 01 and P with a cut, at x 5 and at y 5; and a plant of two locations of which one keeps its cut
-- and the other gets one. Their tables, divided, are accepted, and not whole. And it is one-way: a plant that is safe need not be so
-- without its cut, or with another in its place. By computing with the definitions.
use mathlib.Core.Path.{◌≡◌, refl, sym, ◌∙◌, subst}
use mathlib.Core.Logic.{inl, inr}
use mathlib.Core.List.{List, [], ◌∷◌, ◌++◌}
use lib.IntN.{ℤ, pos}
use lib.ListN.{take}
use Rattle.integers.specs.Rounding.{floor_z, ceil_z, max_z, min_z}
use Rattle.integers.specs.Words.{equal}
use Rattle.integers.specs.Counted.{cat, all_below, any_below, sum_below}
use Rattle.integers.proofs.Few.{one, both}
use Rattle.plant.specs.Ask.{◌then◌, first}
use Rattle.plant.specs.Box.{low, high, box_by, box_at, ordered, cut, hull, unless_empty, face_words, join, joins}
use Rattle.plant.specs.Model.{location_at, invariant, rate, start_flag, start_box, switch_at, source, target, wall_variable, source_side, target_side, reset_mask, masked, guard, reset, forbidden_at, forbidden_location, forbidden_box, cut_at, cut_variable, cut_value, cut_from, cut_of, model_size, wall, face_wall}
use Rattle.plant.specs.Questions.{box_ok, inside_ok, zeros_ok, start_ok, location_questions, places_ok, boxes_ok, single_at, single_ok, source_wall, target_wall, guard_ok, level_after, lands_ok, switch_questions, forbidden_question, strictly_inside, cut_ok, cut_question, ranges_questions, edition_question, records_questions, model_questions}
use Rattle.plant.specs.Delays.{delays_into, both_delays, has_delay, or_never}
use Rattle.plant.specs.Steps.{delays_into_box, touches, low_at, high_at, low_after, high_after, box_after, wall_delays, wall_step, set_masked, guarded, landed, switch_step}
use Rattle.plant.specs.Pieces.{extent_by, keeps_to, box_up_to, box_from, cut_to_extent, pieces_per_face, per_face, pieces, piece_number, piece_face, piece_index, piece_variable, piece_wall, piece_extent}
use Rattle.plant.specs.Tables.{pieces_before, piece_count, table_size, piece_at, table_by, face_read, piece_of, on_wall, absent_ok, present_ok, piece_ok, table_ok, start_part, part_of, to_piece, wall_step_at, wall_from, source_piece, switch_step_at, switch_onto, walls_joined, switches_joined, new_piece, pass, part_touches, touching, width, all_widths, other_widths, uncut_ceiling, location_ceiling, ceiling_of}
use Rattle.plant.specs.Calls.{unchanged, certificate_questions, table_questions, checker_questions}
use Rattle.plant.specs.Cases.{plant_p, P, table_p, wider_table, box₂}
use Rattle.plant.proofs.Samples.{plant_c, uncut_c, cut_c, gone, there, table_c, plant_d, no_cut, cut_y, plant_q}
use Rattle.files.specs.ModelFile.{model_file}
use Rattle.interface.specs.Hosts.{model_of, model_file_questions}
use Rattle.interface.proofs.Demand.{host_demand}
use Rattle.finer.specs.Finer.{Finer, undivided, divided}
use Rattle.finer.specs.CutStaysSafe.{CutStaysSafe}
use Rattle.finer.specs.CutFilesStaySafe.{CutFilesStaySafe}
use Rattle.finer.proofs.CutStaysSafe.{finer_stays_safe}
use Rattle.finer.proofs.CutFilesStaySafe.{finer_files_stay_safe}

-- ---- the plants

abbrev x_at_5 : List ℤ
x_at_5 = pos 0 ∷ pos 5 ∷ []

abbrev x_at_2 : List ℤ
x_at_2 = pos 0 ∷ pos 2 ∷ []

-- plant P with this cut
unfoldable pub cut_p : List ℤ → List ℤ
cut_p cut = plant_q (pos 1 ∷ pos 2 ∷ []) (pos 1) (box₂ 0 0 2 5) (box₂ 9 10 0 4) cut

-- a table of P cut at x 5: these two pieces of face 3, the wall y 10
unfoldable pub table_at_x : (up from : List ℤ) → List ℤ
table_at_x up from = there 0 0 2 5 ++ gone ++ gone ++ gone ++ gone ++ gone ++ up ++ from

-- the table of D cut at y 5 in the second location alone: of the first location, of the second
unfoldable pub table_d : List ℤ
table_d = there 0 0 0 2 ++ there 4 4 4 6 ++ there 0 0 0 0 ++ gone

unfoldable pub table_e : List ℤ
table_e = there 0 0 4 5 ++ there 0 0 5 6 ++ there 4 4 4 5 ++ there 4 4 5 6 ++ gone ++ gone ++ gone ++ gone

pub record FinerCases : Type 0 where
  -- P, and P cut at x 5 and at y 5; a cut adds to the ceiling
  pub is_P : cut_p no_cut ≡ P
  pub P_passes : model_questions P ≡ 0
  pub x_passes : model_questions (cut_p x_at_5) ≡ 0
  pub y_passes : model_questions (cut_p cut_y) ≡ 0
  pub P_ceiling : ceiling_of P ≡ 44
  pub x_ceiling : ceiling_of (cut_p x_at_5) ≡ 46
  -- P's table; divided at x 5 the wall y 10 has two pieces, the walls of x their one; divided at y 5 the wall x 0 has two, the second of
  -- one level
  pub P_accepted : checker_questions P (table_p 2) ≡ 0
  pub x_divided : divided (cut_p x_at_5) P (table_p 2) ≡ table_at_x (there 2 5 10 10) (there 5 8 10 10)
  pub x_accepted : checker_questions (cut_p x_at_5) (table_at_x (there 2 5 10 10) (there 5 8 10 10)) ≡ 0
  pub y_divided : divided (cut_p cut_y) P (table_p 2) ≡ there 0 0 2 5 ++ there 0 0 5 5 ++ gone ++ gone ++ gone ++ gone ++ there 2 8 10 10 ++ gone
  pub y_accepted : checker_questions (cut_p cut_y) (divided (cut_p cut_y) P (table_p 2)) ≡ 0
  -- document 01's wider table of P, divided
  pub wider_divided :
      divided (cut_p x_at_5) P wider_table
      ≡ there 0 0 2 10 ++ gone ++ there 10 10 10 10 ++ gone ++ gone ++ gone ++ there 0 5 10 10 ++ there 5 10 10 10
  pub wider_accepted : checker_questions (cut_p x_at_5) (divided (cut_p x_at_5) P wider_table) ≡ 0
  -- not divided: P's words as they are, its whole face as the first piece; and a piece left out
  pub as_it_is : checker_questions (cut_p x_at_5) (table_p 2) ≡ 20
  pub whole : checker_questions (cut_p x_at_5) (table_at_x (there 2 8 10 10) gone) ≡ 32
  pub second_left_out : checker_questions (cut_p x_at_5) (table_at_x (there 2 5 10 10) gone) ≡ 33
  -- two locations: the second keeps its cut, and its pieces are the same; the first gets one
  pub one_passes : model_questions (plant_d no_cut cut_y) ≡ 0
  pub both_pass : model_questions (plant_d x_at_2 cut_y) ≡ 0
  pub one_accepted : checker_questions (plant_d no_cut cut_y) (table_d ++ table_e) ≡ 0
  pub both_divided :
      divided (plant_d x_at_2 cut_y) (plant_d no_cut cut_y) (table_d ++ table_e)
      ≡ there 0 0 0 2 ++ gone ++ there 4 4 4 6 ++ gone ++ there 0 0 0 0 ++ gone ++ gone ++ gone ++ table_e
  pub both_accepted : checker_questions (plant_d x_at_2 cut_y) (divided (plant_d x_at_2 cut_y) (plant_d no_cut cut_y) (table_d ++ table_e)) ≡ 0
  -- one-way: what is accepted with a cut is not without it, once the two pieces of a face are one again (and no other table is: such a
  -- plant is unknown, `CutCases.whole_unknown`)
  pub cut_accepted : checker_questions cut_c (table_c gone (there 1 1 6 6) (there 6 6 6 6)) ≡ 0
  pub cut_removed : checker_questions uncut_c (gone ++ there 6 6 6 6 ++ gone ++ there 1 6 6 6) ≡ 34
  -- nor with another cut in its place, which leaves the face whole
  pub cut_changed : checker_questions (plant_c (pos 1) (pos 2)) (divided (plant_c (pos 1) (pos 2)) cut_c (table_c gone (there 1 1 6 6) (there 6 6 6 6))) ≡ 33

pub finer_cases : FinerCases
unfolding floor_z ceil_z max_z min_z equal cat all_below any_below sum_below ◌then◌ first low high box_by box_at ordered cut hull unless_empty face_words join joins location_at invariant rate start_flag start_box switch_at source target wall_variable source_side target_side reset_mask masked guard reset forbidden_at forbidden_location forbidden_box cut_at cut_variable cut_value cut_from cut_of model_size wall face_wall box_ok inside_ok zeros_ok start_ok location_questions places_ok boxes_ok single_at single_ok source_wall target_wall guard_ok level_after lands_ok switch_questions forbidden_question strictly_inside cut_ok cut_question ranges_questions edition_question records_questions model_questions delays_into both_delays has_delay or_never delays_into_box touches low_at high_at low_after high_after box_after wall_delays wall_step set_masked guarded landed switch_step extent_by keeps_to box_up_to box_from cut_to_extent pieces_per_face per_face pieces piece_number piece_face piece_index piece_variable piece_wall piece_extent pieces_before piece_count table_size piece_at table_by face_read piece_of on_wall absent_ok present_ok piece_ok table_ok start_part part_of to_piece wall_step_at wall_from source_piece switch_step_at switch_onto walls_joined switches_joined new_piece pass part_touches touching width all_widths other_widths uncut_ceiling location_ceiling ceiling_of unchanged certificate_questions table_questions checker_questions plant_p P table_p wider_table plant_c uncut_c cut_c table_c plant_d plant_q undivided divided cut_p table_at_x table_d table_e
finer_cases = record {
  is_P = refl;
  P_passes = refl;
  x_passes = refl;
  y_passes = refl;
  P_ceiling = refl;
  x_ceiling = refl;
  P_accepted = refl;
  x_divided = refl;
  x_accepted = refl;
  y_divided = refl;
  y_accepted = refl;
  wider_divided = refl;
  wider_accepted = refl;
  as_it_is = refl;
  whole = refl;
  second_left_out = refl;
  one_passes = refl;
  both_pass = refl;
  one_accepted = refl;
  both_divided = refl;
  both_accepted = refl;
  cut_accepted = refl;
  cut_removed = refl;
  cut_changed = refl;
}

-- ---- the relation holds of both pairs, so the theorem speaks of them

pub x_finer : Finer (cut_p x_at_5) P
unfolding plant_p P plant_q cut_p location_at switch_at forbidden_at cut_at cut_variable cut_value cut_from cut_of
x_finer = record { same_words = refl; cuts = one _ (inl refl) }

pub both_finer : Finer (plant_d x_at_2 cut_y) (plant_d no_cut cut_y)
unfolding plant_d location_at switch_at forbidden_at cut_at cut_variable cut_value cut_from cut_of
both_finer = record { same_words = refl; cuts = both _ (inl refl) (inr refl) }

pub x_stays_safe : CutStaysSafe (cut_p x_at_5) P
x_stays_safe = finer_stays_safe P (cut_p x_at_5) finer_cases.P_passes finer_cases.x_passes x_finer

pub both_stay_safe : CutStaysSafe (plant_d x_at_2 cut_y) (plant_d no_cut cut_y)
both_stay_safe = finer_stays_safe (plant_d no_cut cut_y) (plant_d x_at_2 cut_y) finer_cases.one_passes finer_cases.both_pass both_finer

-- and of their files
taken : (m : List ℤ) → model_questions m ≡ 0 → take (model_size m) m ≡ m → (model_file_questions (model_file m) ≡ 0) × (model_of (model_file m) ≡ m)
taken m asks whole = let p : _ × _ = host_demand.model_passes m asks in (p.0, p.1 ∙ whole)

P_taken : (model_file_questions (model_file P) ≡ 0) × (model_of (model_file P) ≡ P)
unfolding location_at switch_at forbidden_at cut_at model_size plant_p P
P_taken = taken P finer_cases.P_passes refl

x_taken : (model_file_questions (model_file (cut_p x_at_5)) ≡ 0) × (model_of (model_file (cut_p x_at_5)) ≡ cut_p x_at_5)
unfolding location_at switch_at forbidden_at cut_at model_size plant_q cut_p
x_taken = taken (cut_p x_at_5) finer_cases.x_passes refl

pub x_files_stay_safe : CutFilesStaySafe (model_file (cut_p x_at_5)) (model_file P)
x_files_stay_safe = finer_files_stay_safe (model_file P) (model_file (cut_p x_at_5)) P_taken.0 x_taken.0
    (subst (λ (m : List ℤ). Finer m (model_of (model_file P))) (sym x_taken.1) (subst (Finer (cut_p x_at_5)) (sym P_taken.1) x_finer))
