-- Document 02, T-13: two plants of which the second is narrower than the first, and a third that is narrower than the second as far as
-- T-13's letter lets it: together they differ in all that T-13 lets differ. The first's table is accepted for both, and not the other
-- way round. A pair of which the second takes more passes. And plants that break one condition, for which the first's table is refused.
-- By computing with the definitions.
use mathlib.Core.Path.{◌≡◌, refl}
use mathlib.Core.List.{List, [], ◌∷◌, ◌++◌}
use Prim.Native.Nat.{ℕ}
use native.Mathlib.Omega.{arith}
use lib.IntN.{ℤ, pos, negsuc}
use lib.ListN.{set}
use Rattle.integers.specs.Rounding.{floor_z, ceil_z, max_z, min_z}
use Rattle.integers.specs.Words.{equal}
use Rattle.integers.specs.Counted.{cat, all_below, any_below, sum_below}
use Rattle.plant.specs.declared.Answer.TheVariants.{Safe, Unknown, Unfinished}
use Rattle.plant.specs.Ask.{◌then◌, first}
use Rattle.plant.specs.Box.{low, high, box_by, box_at, ordered, cut, hull, unless_empty, face_words, join, joins}
use Rattle.plant.specs.Model.{location_at, invariant, rate, start_flag, start_box, switch_at, source, target, wall_variable, source_side, target_side, reset_mask, masked, guard, reset, forbidden_at, forbidden_location, forbidden_box, cut_at, cut_variable, cut_value, cut_from, cut_of, model_size, wall, face_wall}
use Rattle.plant.specs.Questions.{box_ok, inside_ok, zeros_ok, start_ok, location_questions, places_ok, boxes_ok, single_at, single_ok, source_wall, target_wall, guard_ok, level_after, lands_ok, switch_questions, forbidden_question, strictly_inside, cut_ok, cut_question, ranges_questions, edition_question, records_questions, model_questions}
use Rattle.plant.specs.Delays.{delays_into, both_delays, has_delay, or_never}
use Rattle.plant.specs.Steps.{delays_into_box, touches, low_at, high_at, low_after, high_after, box_after, wall_delays, wall_step, set_masked, guarded, landed, switch_step}
use Rattle.plant.specs.Pieces.{extent_by, keeps_to, box_up_to, box_from, cut_to_extent, pieces_per_face, per_face, pieces, piece_number, piece_face, piece_index, piece_variable, piece_wall, piece_extent}
use Rattle.plant.specs.Tables.{pieces_before, piece_count, table_size, piece_at, table_by, face_read, piece_of, on_wall, absent_ok, present_ok, piece_ok, table_ok, start_part, part_of, to_piece, wall_step_at, wall_from, source_piece, switch_step_at, switch_onto, walls_joined, switches_joined, new_piece, pass, table_after, part_touches, touching, width, all_widths, other_widths, uncut_ceiling, location_ceiling, ceiling_of}
use Rattle.plant.specs.Calls.{unchanged, certificate_questions, table_questions, checker_questions, search, analysis}
use Rattle.plant.specs.Narrower.{Narrower}
use Rattle.narrower.specs.StaysSafe.{StaysSafe}
use Rattle.plant.specs.Cases.{box₂}
use Rattle.plant.proofs.Passed.{inside_is}
use Rattle.plant.proofs.Samples.{gone, there, no_cut}
use Rattle.narrower.proofs.StaysSafe.{narrower_stays_safe}
use Rattle.integers.proofs.Few.{one, both, three}

-- ---- the two plants: a tank of brine, x its level, y its strength, both 0..100; location 0 fills it with water, location 1 empties it

-- full, a dose sets the strength, and the tank is emptied; empty, it is filled again
unfoldable pub dosed : (guard dose : List ℤ) → List ℤ
dosed guard dose = (pos 0 ∷ pos 1 ∷ pos 0 ∷ pos 1 ∷ pos 1 ∷ pos 2 ∷ []) ++ guard ++ dose

unfoldable pub refilled : List ℤ
refilled = (pos 1 ∷ pos 0 ∷ pos 0 ∷ pos 0 ∷ pos 0 ∷ pos 0 ∷ []) ++ box₂ 0 0 0 100 ++ box₂ 0 0 0 100

-- the first (models/brine-tank.model), with an uneven pump: edition 2, doses of 20 to 40 by hand, or weak ones of 10 to 15. It may begin
-- with a strong batch of 70 to 80, half emptied, which a cut keeps apart. Strengths of 45 to 65 are forbidden while it is emptied
unfoldable pub brine_tank : List ℤ
brine_tank =
    (pos 2 ∷ pos 2 ∷ pos 3 ∷ pos 1 ∷ pos 2 ∷ [])
    ++ box₂ 0 100 0 100 ++ (pos 2 ∷ pos 6 ∷ negsuc 0 ∷ pos 0 ∷ []) ++ there 0 10 20 30
    ++ box₂ 0 100 0 100 ++ (negsuc 4 ∷ negsuc 3 ∷ pos 0 ∷ pos 0 ∷ []) ++ there 50 60 70 80
    ++ dosed (box₂ 100 100 0 100) (box₂ 100 100 20 40) ++ dosed (box₂ 100 100 0 100) (box₂ 100 100 10 15) ++ refilled
    ++ (pos 1 ∷ box₂ 0 100 45 65)
    ++ no_cut ++ (pos 1 ∷ pos 60 ∷ [])

-- the second (models/brine-tank-steadier.model), with a steadier one: edition 1, a measured dose of 30, no weak dose and no strong
-- batch; two smaller forbidden boxes
unfoldable pub steadier_tank : List ℤ
steadier_tank =
    (pos 2 ∷ pos 2 ∷ pos 2 ∷ pos 2 ∷ pos 1 ∷ [])
    ++ box₂ 0 100 0 100 ++ (pos 3 ∷ pos 4 ∷ negsuc 0 ∷ pos 0 ∷ []) ++ there 0 5 25 30
    ++ box₂ 0 100 0 100 ++ (negsuc 4 ∷ negsuc 4 ∷ pos 0 ∷ pos 0 ∷ []) ++ gone
    ++ refilled ++ dosed (box₂ 100 100 0 50) (box₂ 100 100 30 30)
    ++ (pos 1 ∷ box₂ 0 100 45 55) ++ (pos 1 ∷ box₂ 20 80 50 65)
    ++ no_cut ++ (pos 1 ∷ pos 60 ∷ [])

-- the tables of their listings
unfoldable pub first_table : List ℤ
first_table =
    there 0 0 10 80 ++ there 100 100 0 80 ++ there 20 100 0 0 ++ gone
    ++ there 0 0 10 40 ++ there 0 0 70 80 ++ there 100 100 10 40 ++ gone ++ gone ++ gone ++ gone ++ gone

unfoldable pub second_table : List ℤ
second_table =
    there 0 0 25 30 ++ there 100 100 0 30 ++ there 75 100 0 0 ++ gone
    ++ there 0 0 30 30 ++ gone ++ there 100 100 30 30 ++ gone ++ gone ++ gone ++ gone ++ gone

-- the second drawn anew, in edition 2: the dose stands there twice, one forbidden box is left; the start box in location 0 sticks out of
-- the invariant, with the same part, and one in location 1 lies behind the wall, so that no start is in use there
unfoldable pub redrawn_tank : List ℤ
redrawn_tank =
    (pos 2 ∷ pos 2 ∷ pos 3 ∷ pos 1 ∷ pos 2 ∷ [])
    ++ box₂ 0 100 0 100 ++ (pos 3 ∷ pos 4 ∷ negsuc 0 ∷ pos 0 ∷ []) ++ (pos 1 ∷ negsuc 9 ∷ pos 5 ∷ pos 25 ∷ pos 30 ∷ [])
    ++ box₂ 0 100 0 100 ++ (negsuc 4 ∷ negsuc 4 ∷ pos 0 ∷ pos 0 ∷ []) ++ there 110 120 70 80
    ++ dosed (box₂ 100 100 0 50) (box₂ 100 100 30 30) ++ refilled ++ dosed (box₂ 100 100 0 50) (box₂ 100 100 30 30)
    ++ (pos 1 ∷ box₂ 20 80 50 65)
    ++ no_cut ++ (pos 1 ∷ pos 60 ∷ [])

-- the first, refilled up to a strength of 60 alone, and its table
unfoldable pub guarded_tank : List ℤ
guarded_tank = set brine_tank 68 (pos 60)

unfoldable pub guarded_table : List ℤ
guarded_table =
    there 0 0 10 40 ++ there 100 100 0 40 ++ there 20 100 0 0 ++ gone
    ++ there 0 0 10 40 ++ there 0 0 70 80 ++ there 100 100 10 40 ++ gone ++ gone ++ gone ++ gone ++ gone

-- strokes of x, from 0 to 1 and set back to 0, during which y rises by 1, up to 3; with y from 0 up to this level at first
unfoldable pub strokes : ℕ → List ℤ
strokes y =
    (pos 2 ∷ pos 1 ∷ pos 1 ∷ pos 0 ∷ pos 1 ∷ [])
    ++ box₂ 0 1 0 3 ++ box₂ 1 1 1 1 ++ there 0 0 0 y
    ++ (pos 0 ∷ pos 0 ∷ pos 0 ∷ pos 1 ∷ pos 0 ∷ pos 1 ∷ []) ++ box₂ 1 1 0 3 ++ box₂ 0 0 0 3
    ++ no_cut

-- the second with another word at a place; and so in edition 2, which takes ranges
abbrev with_word : ℕ → ℤ → List ℤ
with_word at x = set steadier_tank at x

abbrev with_range : ℕ → ℤ → List ℤ
with_range at x = set (set steadier_tank 4 (pos 2)) at x

pub record NarrowerCases : Type 0 where
  -- both pass their questions, with one ceiling, and are safe; the first not without its cut
  pub first_passes : model_questions brine_tank ≡ 0
  pub second_passes : model_questions steadier_tank ≡ 0
  pub first_ceiling : ceiling_of brine_tank ≡ 810
  pub second_ceiling : ceiling_of steadier_tank ≡ 810
  pub first_safe : analysis brine_tank 810 ≡ Safe 5
  pub second_safe : analysis steadier_tank 810 ≡ Safe 3
  pub without_cut : analysis (set (set brine_tank 80 (negsuc 0)) 81 (pos 0)) 810 ≡ Unknown 3
  -- the tables differ; the first's is accepted for the second, and the second's refused for the first
  pub first_table_lem : table_after brine_tank 5 ≡ first_table
  pub second_table_lem : table_after steadier_tank 3 ≡ second_table
  pub first_accepted : checker_questions steadier_tank first_table ≡ 0
  pub one_way : checker_questions brine_tank second_table ≡ 33
  -- the second drawn anew has its table
  pub redrawn_passes : model_questions redrawn_tank ≡ 0
  pub redrawn_safe : analysis redrawn_tank 810 ≡ Safe 3
  pub redrawn_table : table_after redrawn_tank 3 ≡ second_table
  pub redrawn_accepted : checker_questions redrawn_tank first_table ≡ 0
  -- a narrower plant that takes more passes, and under the first's is unfinished: each level of y takes two
  pub few_asked : model_questions (strokes 3) ≡ 0
  pub more_asked : model_questions (strokes 0) ≡ 0
  pub few_passes : analysis (strokes 3) 1 ≡ Safe 1
  pub more_passes : analysis (strokes 0) 20 ≡ Safe 7
  pub unfinished : analysis (strokes 0) 1 ≡ Unfinished 1
  -- the second with one condition broken, and the first's table for it. Invariants: y from -10 in location 0, so that the face at y 0 is
  -- on no wall; cuts: at y 35, or none
  pub other_invariant : checker_questions (with_word 7 (negsuc 9)) first_table ≡ 32
  pub other_cut : checker_questions (with_word 72 (pos 35)) first_table ≡ 32
  pub no_cuts : checker_questions (set (with_word 71 (negsuc 0)) 72 (pos 0)) first_table ≡ 32
  -- rates: y rises by up to 1 while the tank is emptied
  pub wider_rate : checker_questions (with_word 25 (pos 1)) first_table ≡ 33
  -- starts: of a strength up to 90 in location 0
  pub wider_start : checker_questions (with_word 17 (pos 90)) first_table ≡ 33
  -- switches: the one at an empty tank leads from location 0 to location 1; a mask that sets the strength as the tank is refilled, to
  -- 0..100, the reset box of the first; a dose of up to 45; and a guard up to 100, where the first refills up to 60 alone
  pub switch_elsewhere : checker_questions (set (with_word 31 (pos 0)) 32 (pos 1)) first_table ≡ 33
  pub other_mask : checker_questions (with_range 36 (pos 2)) first_table ≡ 33
  pub wider_reset : checker_questions (with_range 58 (pos 45)) first_table ≡ 33
  pub guard_accepted : checker_questions guarded_tank guarded_table ≡ 0
  pub wider_guard : checker_questions steadier_tank guarded_table ≡ 33
  -- forbidden boxes: strengths from 40; the same box in location 0
  pub wider_box : checker_questions (with_word 62 (pos 40)) first_table ≡ 34
  pub box_elsewhere : checker_questions (with_word 59 (pos 0)) first_table ≡ 34

pub narrower_cases : NarrowerCases
unfolding floor_z ceil_z max_z min_z equal cat all_below any_below sum_below ◌then◌ first low high box_by box_at ordered cut hull unless_empty face_words join joins location_at invariant rate start_flag start_box switch_at source target wall_variable source_side target_side reset_mask masked guard reset forbidden_at forbidden_location forbidden_box cut_at cut_variable cut_value cut_from cut_of model_size wall face_wall box_ok inside_ok zeros_ok start_ok location_questions places_ok boxes_ok single_at single_ok source_wall target_wall guard_ok level_after lands_ok switch_questions forbidden_question strictly_inside cut_ok cut_question ranges_questions edition_question records_questions model_questions delays_into both_delays has_delay or_never delays_into_box touches low_at high_at low_after high_after box_after wall_delays wall_step set_masked guarded landed switch_step extent_by keeps_to box_up_to box_from cut_to_extent pieces_per_face per_face pieces piece_number piece_face piece_index piece_variable piece_wall piece_extent pieces_before piece_count table_size piece_at table_by face_read piece_of on_wall absent_ok present_ok piece_ok table_ok start_part part_of to_piece wall_step_at wall_from source_piece switch_step_at switch_onto walls_joined switches_joined new_piece pass table_after part_touches touching width all_widths other_widths uncut_ceiling location_ceiling ceiling_of unchanged certificate_questions table_questions checker_questions search analysis dosed refilled brine_tank steadier_tank redrawn_tank first_table second_table guarded_tank guarded_table strokes
narrower_cases = record {
  first_passes = refl;
  second_passes = refl;
  first_ceiling = refl;
  second_ceiling = refl;
  first_safe = refl;
  second_safe = refl;
  without_cut = refl;
  first_table_lem = refl;
  second_table_lem = refl;
  first_accepted = refl;
  one_way = refl;
  redrawn_passes = refl;
  redrawn_safe = refl;
  redrawn_table = refl;
  redrawn_accepted = refl;
  few_asked = refl;
  more_asked = refl;
  few_passes = refl;
  more_passes = refl;
  unfinished = refl;
  other_invariant = refl;
  other_cut = refl;
  no_cuts = refl;
  wider_rate = refl;
  wider_start = refl;
  switch_elsewhere = refl;
  other_mask = refl;
  wider_reset = refl;
  guard_accepted = refl;
  wider_guard = refl;
  wider_box = refl;
  box_elsewhere = refl;
}

-- ---- the relation holds of the three pairs, so the theorem speaks of them

pub steadier_narrower : Narrower steadier_tank brine_tank
unfolding dosed refilled brine_tank steadier_tank max_z min_z cat all_below low high box_by box_at ordered cut unless_empty location_at invariant rate start_flag start_box switch_at source target wall_variable source_side target_side reset_mask guard reset forbidden_at forbidden_location forbidden_box cut_at cut_variable cut_value cut_from cut_of inside_ok start_part
steadier_narrower = record {
  same_n = refl;
  same_L = refl;
  same_invariant = both _ refl refl;
  same_cut = both _ refl refl;
  rates = both _ (inside_is 2 (rate steadier_tank 0) (rate brine_tank 0) tt) (inside_is 2 (rate steadier_tank 1) (rate brine_tank 1) tt);
  starts = both _ (inside_is 2 (box₂ 0 5 25 30) (box₂ 0 10 20 30) tt) tt;
  switches = both _
      (record { number = 2; is_number = omega arith; same_source = refl; same_target = refl; same_variable = refl; same_source_side = refl; same_target_side = refl; same_mask = refl; guards = inside_is 2 (guard steadier_tank 0) (guard brine_tank 2) tt; resets = inside_is 2 (reset steadier_tank 0) (reset brine_tank 2) tt })
      (record { number = 0; is_number = omega arith; same_source = refl; same_target = refl; same_variable = refl; same_source_side = refl; same_target_side = refl; same_mask = refl; guards = inside_is 2 (guard steadier_tank 1) (guard brine_tank 0) tt; resets = inside_is 2 (reset steadier_tank 1) (reset brine_tank 0) tt });
  forbidden = both _
      (record { number = 0; is_number = omega arith; same_location = refl; boxes = inside_is 2 (forbidden_box steadier_tank 0) (forbidden_box brine_tank 0) tt })
      (record { number = 0; is_number = omega arith; same_location = refl; boxes = inside_is 2 (forbidden_box steadier_tank 1) (forbidden_box brine_tank 0) tt });
}

pub redrawn_narrower : Narrower redrawn_tank steadier_tank
unfolding dosed refilled steadier_tank redrawn_tank max_z min_z cat all_below low high box_by box_at ordered cut unless_empty location_at invariant rate start_flag start_box switch_at source target wall_variable source_side target_side reset_mask guard reset forbidden_at forbidden_location forbidden_box cut_at cut_variable cut_value cut_from cut_of inside_ok start_part
redrawn_narrower = record {
  same_n = refl;
  same_L = refl;
  same_invariant = both _ refl refl;
  same_cut = both _ refl refl;
  rates = both _ (inside_is 2 (rate redrawn_tank 0) (rate steadier_tank 0) tt) (inside_is 2 (rate redrawn_tank 1) (rate steadier_tank 1) tt);
  starts = both _ (inside_is 2 (box₂ 0 5 25 30) (box₂ 0 5 25 30) tt) tt;
  switches = three _
      (record { number = 1; is_number = omega arith; same_source = refl; same_target = refl; same_variable = refl; same_source_side = refl; same_target_side = refl; same_mask = refl; guards = inside_is 2 (guard redrawn_tank 0) (guard steadier_tank 1) tt; resets = inside_is 2 (reset redrawn_tank 0) (reset steadier_tank 1) tt })
      (record { number = 0; is_number = omega arith; same_source = refl; same_target = refl; same_variable = refl; same_source_side = refl; same_target_side = refl; same_mask = refl; guards = inside_is 2 (guard redrawn_tank 1) (guard steadier_tank 0) tt; resets = inside_is 2 (reset redrawn_tank 1) (reset steadier_tank 0) tt })
      (record { number = 1; is_number = omega arith; same_source = refl; same_target = refl; same_variable = refl; same_source_side = refl; same_target_side = refl; same_mask = refl; guards = inside_is 2 (guard redrawn_tank 2) (guard steadier_tank 1) tt; resets = inside_is 2 (reset redrawn_tank 2) (reset steadier_tank 1) tt });
  forbidden = one _ (record { number = 1; is_number = omega arith; same_location = refl; boxes = inside_is 2 (forbidden_box redrawn_tank 0) (forbidden_box steadier_tank 1) tt });
}

pub strokes_narrower : Narrower (strokes 0) (strokes 3)
unfolding strokes max_z min_z cat all_below low high box_by box_at ordered cut unless_empty location_at invariant rate start_flag start_box switch_at source target wall_variable source_side target_side reset_mask guard reset forbidden_at forbidden_location forbidden_box cut_at cut_variable cut_value cut_from cut_of inside_ok start_part
strokes_narrower = record {
  same_n = refl;
  same_L = refl;
  same_invariant = one _ refl;
  same_cut = one _ refl;
  rates = one _ (inside_is 2 (rate (strokes 0) 0) (rate (strokes 3) 0) tt);
  starts = one _ (inside_is 2 (box₂ 0 0 0 0) (box₂ 0 0 0 3) tt);
  switches = one _ (record { number = 0; is_number = omega arith; same_source = refl; same_target = refl; same_variable = refl; same_source_side = refl; same_target_side = refl; same_mask = refl; guards = inside_is 2 (guard (strokes 0) 0) (guard (strokes 3) 0) tt; resets = inside_is 2 (reset (strokes 0) 0) (reset (strokes 3) 0) tt });
  forbidden = λ b u. absurd (omega arith);
}

pub steadier_stays_safe : StaysSafe steadier_tank brine_tank
steadier_stays_safe = narrower_stays_safe brine_tank steadier_tank narrower_cases.first_passes narrower_cases.second_passes steadier_narrower

pub redrawn_stays_safe : StaysSafe redrawn_tank steadier_tank
redrawn_stays_safe = narrower_stays_safe steadier_tank redrawn_tank narrower_cases.second_passes narrower_cases.redrawn_passes redrawn_narrower

pub strokes_stay_safe : StaysSafe (strokes 0) (strokes 3)
strokes_stay_safe = narrower_stays_safe (strokes 3) (strokes 0) narrower_cases.few_asked narrower_cases.more_asked strokes_narrower
