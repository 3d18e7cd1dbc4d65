-- Cases of the wall step, and of plants, as they were before request T-06.
use mathlib.Core.Path.{◌≡◌, refl}
use mathlib.Core.Bool.{true}
use mathlib.Core.List.{◌∷◌}
use lib.IntN.{pos}
use lib.ListN.{take, drop}
use Rattle.integers.specs.Rounding.{floor_z, ceil_z, max_z, min_z}
use Rattle.integers.specs.Words.{equal}
use Rattle.integers.specs.Counted.{cat, all_below, any_below, sum_below}
use Rattle.plant.specs.Ask.{◌then◌, first}
use Rattle.plant.specs.Box.{present, low, high, box_by, box_at, ordered, cut, hull, unless_empty, face_words, join, joins}
use Rattle.plant.specs.Model.{location_at, invariant, rate, start_flag, start_box, switch_at, source, target, wall_variable, source_side, target_side, reset_mask, masked, guard, reset, forbidden_at, forbidden_location, forbidden_box, cut_at, cut_variable, cut_value, cut_from, cut_of, model_size, wall, face_wall}
use Rattle.plant.specs.Questions.{box_ok, inside_ok, zeros_ok, start_ok, location_questions, places_ok, boxes_ok, single_at, single_ok, source_wall, target_wall, guard_ok, level_after, lands_ok, switch_questions, forbidden_question, strictly_inside, cut_ok, cut_question, ranges_questions, edition_question, records_questions, model_questions}
use Rattle.plant.specs.Delays.{delays_into, both_delays, has_delay, or_never}
use Rattle.plant.specs.Steps.{delays_into_box, touches, low_at, high_at, low_after, high_after, box_after, wall_delays, wall_step, set_masked, guarded, landed, switch_step}
use Rattle.plant.specs.Pieces.{extent_by, keeps_to, box_up_to, box_from, cut_to_extent, pieces_per_face, per_face, pieces, piece_number, piece_face, piece_index, piece_variable, piece_wall, piece_extent}
use Rattle.plant.specs.Tables.{pieces_before, piece_count, table_size, piece_at, table_by, face_read, piece_of, on_wall, absent_ok, present_ok, piece_ok, table_ok, start_part, part_of, to_piece, wall_step_at, wall_from, source_piece, switch_step_at, switch_onto, walls_joined, switches_joined, new_piece, pass, table_after, part_touches, touching, width, all_widths, other_widths, uncut_ceiling, location_ceiling, ceiling_of}
use Rattle.plant.specs.Calls.{unchanged, certificate_questions, table_questions, checker_questions, search, analysis}
use Rattle.earlier.specs.WithoutWindow as before
use Rattle.plant.specs.Cases.{P, plant_p, table_p, wider_table, box₂}
use Rattle.plant.proofs.Samples.{box₃, rates, pump, table_of_pump, plant_s, plant_c, cut_c, table_c, gone, there, plant_d, no_cut}

pub record WithoutWindowCases : Type 0 where
  pub document_before : before.wall_step 3 (box₃ 0 10 0 10 0 10) rates (box₃ 0 0 5 5 10 10) 0 (pos 0) ≡ present (box₃ 0 0 5 10 0 10)
  pub nothing_before : before.wall_step 2 (box₂ 0 11 0 10) (box₂ 2 2 1 1) (box₂ 0 0 5 5) 0 (pos 11) ≡ present (box₂ 11 11 10 10)
  pub pump_before : touching pump (before.table_after pump 1) ≡ true
  pub refused_before : before.checker_questions pump (table_of_pump 4) ≡ 33
  pub wider_before : before.checker_questions P wider_table ≡ 0
  pub own_before : before.checker_questions P (table_p 2) ≡ 0
  pub own_table : before.table_after P 1 ≡ table_p 2
  pub switch_before : before.checker_questions cut_c (table_c gone (there 1 1 6 6) (there 6 6 6 6)) ≡ 0
  pub two_before : before.checker_questions (plant_d no_cut no_cut) (table_after (plant_d no_cut no_cut) 3) ≡ 0
  pub cut_before : take 7 (drop 42 (before.table_after plant_s 1)) ≡ pos 1 ∷ box₃ 0 2 2 2 1 1

pub without_window_cases : WithoutWindowCases
unfolding floor_z ceil_z max_z min_z equal cat all_below any_below sum_below ◌then◌ first low high box_by box_at ordered cut hull unless_empty face_words join joins location_at invariant rate start_flag start_box switch_at source target wall_variable source_side target_side reset_mask masked guard reset forbidden_at forbidden_location forbidden_box cut_at cut_variable cut_value cut_from cut_of model_size wall face_wall box_ok inside_ok zeros_ok start_ok location_questions places_ok boxes_ok single_at single_ok source_wall target_wall guard_ok level_after lands_ok switch_questions forbidden_question strictly_inside cut_ok cut_question ranges_questions edition_question records_questions model_questions delays_into both_delays has_delay or_never delays_into_box touches low_at high_at low_after high_after box_after wall_delays wall_step set_masked guarded landed switch_step extent_by keeps_to box_up_to box_from cut_to_extent pieces_per_face per_face pieces piece_number piece_face piece_index piece_variable piece_wall piece_extent pieces_before piece_count table_size piece_at table_by face_read piece_of on_wall absent_ok present_ok piece_ok table_ok start_part part_of to_piece wall_step_at wall_from source_piece switch_step_at switch_onto walls_joined switches_joined new_piece pass table_after part_touches touching width all_widths other_widths uncut_ceiling location_ceiling ceiling_of unchanged certificate_questions table_questions checker_questions search analysis before.wall_delays before.wall_step before.wall_from before.switches_joined before.pass before.table_after before.checker_questions P plant_p table_p wider_table cut_c plant_c table_c plant_d pump table_of_pump plant_s
without_window_cases = record { document_before = refl; nothing_before = refl; pump_before = refl; refused_before = refl; wider_before = refl; own_before = refl; own_table = refl; switch_before = refl; two_before = refl; cut_before = refl }
