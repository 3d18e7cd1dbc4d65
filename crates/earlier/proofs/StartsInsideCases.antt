-- Cases of start boxes that cross the wall, as they were before request T-02.
use mathlib.Core.Path.{◌≡◌, refl}
use lib.IntN.{pos}
use Rattle.integers.specs.Rounding.{floor_z, ceil_z, max_z, min_z}
use Rattle.integers.specs.Words.{equal}
use Rattle.integers.specs.Counted.{cat, all_below, any_below, sum_below}
use Rattle.plant.specs.declared.Answer.TheVariants.{Unknown}
use Rattle.plant.specs.Ask.{◌then◌, first}
use Rattle.plant.specs.Box.{low, high, box_by, box_at, ordered, cut, hull, unless_empty, face_words, join, joins}
use Rattle.plant.specs.Model.{location_at, invariant, rate, start_flag, start_box, switch_at, source, target, wall_variable, source_side, target_side, reset_mask, masked, guard, reset, forbidden_at, forbidden_location, forbidden_box, cut_at, cut_variable, cut_value, cut_from, cut_of, model_size, wall, face_wall}
use Rattle.plant.specs.Questions.{box_ok, inside_ok, zeros_ok, start_ok, location_questions, places_ok, boxes_ok, single_at, single_ok, source_wall, target_wall, guard_ok, level_after, lands_ok, switch_questions, forbidden_question, strictly_inside, cut_ok, cut_question, ranges_questions, edition_question, records_questions, model_questions}
use Rattle.plant.specs.Delays.{delays_into, both_delays, has_delay, or_never}
use Rattle.plant.specs.Steps.{delays_into_box, touches, low_at, high_at, low_after, high_after, box_after, wall_delays, wall_step, set_masked, guarded, landed, switch_step}
use Rattle.plant.specs.Pieces.{extent_by, keeps_to, box_up_to, box_from, cut_to_extent, pieces_per_face, per_face, pieces, piece_number, piece_face, piece_index, piece_variable, piece_wall, piece_extent}
use Rattle.plant.specs.Tables.{pieces_before, piece_count, table_size, piece_at, table_by, face_read, piece_of, on_wall, absent_ok, present_ok, piece_ok, table_ok, start_part, part_of, to_piece, wall_step_at, wall_from, source_piece, switch_step_at, switch_onto, walls_joined, switches_joined, new_piece, pass, table_after, part_touches, touching}
use Rattle.plant.specs.Calls.{unchanged, certificate_questions, table_questions, checker_questions, search, analysis}
use Rattle.earlier.specs.StartsInside as before
use Rattle.plant.specs.Cases.{box₂}
use Rattle.plant.proofs.Samples.{plant_q, starting_p, starting_y, falling, overhang, overhang_table, two, cut_q}

pub record StartsInsideCases : Type 0 where
  pub overhang_before : before.analysis overhang 44 ≡ Unknown 0
  pub overhang_before_table : before.table_after overhang 1 ≡ overhang_table 10 5 5
  pub leads_back_before : before.analysis (falling 11 15 (box₂ 0 10 8 9)) 44 ≡ Unknown 0
  pub before_crossing : before.model_questions (starting_y (pos 2) (pos 15)) ≡ 13
  pub before_inside : before.model_questions (starting_y (pos 2) (pos 5)) ≡ 0

pub starts_inside_cases : StartsInsideCases
unfolding floor_z ceil_z max_z min_z equal cat all_below any_below sum_below ◌then◌ first low high box_by box_at ordered cut hull unless_empty face_words join joins location_at invariant rate start_flag start_box switch_at source target wall_variable source_side target_side reset_mask masked guard reset forbidden_at forbidden_location forbidden_box cut_at cut_variable cut_value cut_from cut_of model_size wall face_wall box_ok inside_ok zeros_ok start_ok location_questions places_ok boxes_ok single_at single_ok source_wall target_wall guard_ok level_after lands_ok switch_questions forbidden_question strictly_inside cut_ok cut_question ranges_questions edition_question records_questions model_questions delays_into both_delays has_delay or_never delays_into_box touches low_at high_at low_after high_after box_after wall_delays wall_step set_masked guarded landed switch_step extent_by keeps_to box_up_to box_from cut_to_extent pieces_per_face per_face pieces piece_number piece_face piece_index piece_variable piece_wall piece_extent pieces_before piece_count table_size piece_at table_by face_read piece_of on_wall absent_ok present_ok piece_ok table_ok start_part part_of to_piece wall_step_at wall_from source_piece switch_step_at switch_onto walls_joined switches_joined new_piece pass table_after part_touches touching unchanged certificate_questions table_questions checker_questions search analysis before.start_ok before.location_questions before.model_questions before.start_part before.part_of before.wall_from before.switches_joined before.pass before.table_after before.touching before.search before.analysis plant_q starting_p starting_y falling overhang overhang_table two cut_q
starts_inside_cases = record { overhang_before = refl; overhang_before_table = refl; leads_back_before = refl; before_crossing = refl; before_inside = refl }
