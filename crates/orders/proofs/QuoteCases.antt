-- Quotes computed with the definitions: of plant P, of locations with and without cuts, of one and of three variables, of a width
-- of 0; and refusals.
use mathlib.Core.Path.{◌≡◌, refl}
use mathlib.Core.List.{List, [], ◌∷◌}
use Prim.Native.Nat.{ℕ}
use lib.IntN.{ℤ, pos}
use Rattle.integers.specs.Counted.{cat, all_below, any_below, sum_below}
use Rattle.plant.specs.Ask.{◌then◌, first}
use Rattle.plant.specs.Box.{low, high, box_by, box_at, ordered}
use Rattle.plant.specs.Model.{location_at, invariant, rate, start_flag, start_box, switch_at, source, target, wall_variable, source_side, target_side, reset_mask, masked, guard, reset, forbidden_at, forbidden_location, forbidden_box, cut_at, cut_variable, cut_value, cut_from, cut_of, model_size, wall}
use Rattle.plant.specs.Questions.{box_ok, inside_ok, zeros_ok, start_ok, location_questions, places_ok, boxes_ok, single_at, single_ok, source_wall, target_wall, guard_ok, level_after, lands_ok, switch_questions, forbidden_question, strictly_inside, cut_ok, cut_question, ranges_questions, edition_question, records_questions, model_questions}
use Rattle.plant.specs.Pieces.{pieces_per_face, per_face, any_cut, pieces}
use Rattle.plant.specs.Tables.{pieces_before, piece_count, table_size, longest_table_file, width, all_widths, other_widths, uncut_ceiling, location_ceiling, ceiling_of}
use Rattle.plant.specs.Cases.{plant_p, P}
use Rattle.plant.proofs.Samples.{plant_c, uncut_c, cut_c, plant_d, no_cut, cut_y}
use Rattle.orders.specs.Quotes.{QuoteReply, quote_call, quoted}

abbrev figures : (words bytes ceiling : ℕ) → QuoteReply
figures words bytes ceiling = record { code = 100; words = words; bytes = bytes; ceiling = ceiling }

abbrev refusal : ℕ → QuoteReply
refusal k = record { code = k; words = 0; bytes = 0; ceiling = 0 }

-- a location of one variable, 0..high; of three, x 0..high, y 0..10, z 0..100; with this cut
unfoldable single : (high : ℕ) (cut : List ℤ) → List ℤ
single high cut = pos 1 ∷ pos 1 ∷ pos 0 ∷ pos 0 ∷ pos 1 ∷ pos 0 ∷ pos high ∷ pos 1 ∷ pos 1 ∷ pos 0 ∷ pos 0 ∷ pos 0 ∷ cut

unfoldable triple : (high : ℕ) (cut : List ℤ) → List ℤ
triple high cut =
    pos 3 ∷ pos 1 ∷ pos 0 ∷ pos 0 ∷ pos 1
    ∷ pos 0 ∷ pos high ∷ pos 0 ∷ pos 10 ∷ pos 0 ∷ pos 100
    ∷ pos 1 ∷ pos 1 ∷ pos 1 ∷ pos 1 ∷ pos 1 ∷ pos 1
    ∷ pos 0 ∷ pos 0 ∷ pos 0 ∷ pos 0 ∷ pos 0 ∷ pos 0 ∷ pos 0 ∷ cut

record Quotes : Type 0 where
  -- plant P: four faces of five words, 7 + 4 × 27 bytes, 4 + 2 × 20
  P_quoted : quoted P ≡ figures 20 115 44
  -- x and y 0..6, uncut and cut at x 2: a cut in x divides the faces of y, each of which had the width 6 of x
  C_whole : quoted uncut_c ≡ figures 20 115 28
  C_cut : quoted cut_c ≡ figures 40 255 30
  -- two locations of x 0..4, y 0..8, the first cut at y 5: every field is the longer one
  D_cut : quoted (plant_d cut_y no_cut) ≡ figures 60 379 58
  D_whole : quoted (plant_d no_cut no_cut) ≡ figures 40 223 56
  -- one variable: 2(n - 1) is 0, and a cut adds no piece that may be present
  one : quoted (single 9 no_cut) ≡ figures 6 45 2
  one_cut : quoted (single 9 (pos 0 ∷ pos 4 ∷ [])) ≡ figures 12 99 2
  one_point : quoted (single 0 no_cut) ≡ figures 6 45 2
  -- three: 6 + 4 × 111; a cut adds 4 + 2 × what the two others have
  three : quoted (triple 1 no_cut) ≡ figures 42 217 450
  three_y : quoted (triple 1 (pos 1 ∷ pos 5 ∷ [])) ≡ figures 84 475 656
  three_z : quoted (triple 1 (pos 2 ∷ pos 5 ∷ [])) ≡ figures 84 475 476
  -- x at one level
  flat : quoted (triple 0 no_cut) ≡ figures 42 217 446
  flat_y : quoted (triple 0 (pos 1 ∷ pos 9 ∷ [])) ≡ figures 84 475 650
  -- refusals
  no_words : quoted [] ≡ refusal 5
  seven : quoted (pos 7 ∷ pos 1 ∷ pos 0 ∷ pos 0 ∷ pos 3 ∷ []) ≡ refusal 2
  edition_3 : quoted (pos 1 ∷ pos 1 ∷ pos 0 ∷ pos 0 ∷ pos 3 ∷ []) ≡ refusal 43
  cut_at_the_wall : quoted (single 9 (pos 0 ∷ pos 9 ∷ [])) ≡ refusal 46

quotes : Quotes
unfolding cat all_below any_below sum_below ◌then◌ first low high box_by box_at ordered location_at invariant rate start_flag start_box switch_at source target wall_variable source_side target_side reset_mask masked guard reset forbidden_at forbidden_location forbidden_box cut_at cut_variable cut_value cut_from cut_of model_size wall box_ok inside_ok zeros_ok start_ok location_questions places_ok boxes_ok single_at single_ok source_wall target_wall guard_ok level_after lands_ok switch_questions forbidden_question strictly_inside cut_ok cut_question ranges_questions edition_question records_questions model_questions pieces_per_face per_face any_cut pieces pieces_before piece_count table_size longest_table_file width all_widths other_widths uncut_ceiling location_ceiling ceiling_of plant_p P plant_c uncut_c cut_c plant_d quote_call single triple
quotes = record {
  P_quoted = refl;
  C_whole = refl;
  C_cut = refl;
  D_cut = refl;
  D_whole = refl;
  one = refl;
  one_cut = refl;
  one_point = refl;
  three = refl;
  three_y = refl;
  three_z = refl;
  flat = refl;
  flat_y = refl;
  no_words = refl;
  seven = refl;
  edition_3 = refl;
  cut_at_the_wall = refl;
}
