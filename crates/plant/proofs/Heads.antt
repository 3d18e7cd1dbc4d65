-- Where the words of a model's records begin, and how many there are; two lists with the same head words, which have these places and
-- the questions of the head in common; and the longest model.
use mathlib.Core.Path.{◌≡◌, refl}
use mathlib.Core.List.{List, ◌++◌}
use Prim.Native.Nat.{ℕ, ◌+◌, ◌*◌, ◌≤◌, ◌<◌}
use native.Mathlib.Omega.{arith}
use lib.IntN.{ℤ, pos}
use lib.ListN.{length, get_or-append}
use Rattle.integers.specs.Words.{word}
use Rattle.plant.specs.Model.{n#, L#, E#, B#, location_at, switch_at, forbidden_at, cut_at, model_size}
use Rattle.plant.specs.Questions.{ranges_questions, edition_question}
use Rattle.plant.proofs.Whole.{Head}
use Rattle.plant.proofs.Positions.{locations_small, switches_small, forbiddens_small}

-- where the words of the locations, the switches, the forbidden boxes and the cuts begin
pub locations_at : (h : List ℤ) → location_at h 0 ≡ 5
unfolding location_at
locations_at h = omega arith

pub switches_at : (h : List ℤ) → switch_at h 0 ≡ 5 + L# h * (6 * n# h + 1)
unfolding switch_at location_at
switches_at h = omega arith

pub forbiddens_at : (h : List ℤ) → forbidden_at h 0 ≡ switch_at h 0 + E# h * (6 + 4 * n# h)
unfolding forbidden_at switch_at
forbiddens_at h = omega arith

pub cuts_at : (h : List ℤ) → cut_at h 0 ≡ forbidden_at h 0 + B# h * (1 + 2 * n# h)
unfolding cut_at forbidden_at
cuts_at h = omega arith

pub words_end : (h : List ℤ) → model_size h ≡ cut_at h 0 + L# h * 2
unfolding model_size cut_at
words_end h = omega arith

-- ---- two lists with the same head words

abbrev pub SameHead : (a b : List ℤ) → Type 0
SameHead a b = (j : ℕ) → j < 5 → word a j ≡ word b j

module _ (a b : List ℤ) (e : SameHead a b) where
  pub same_size : model_size a ≡ model_size b
  unfolding model_size cut_at forbidden_at switch_at location_at
  same_size = rw (e 0 (omega arith), e 1 (omega arith), e 2 (omega arith), e 3 (omega arith)) refl

  pub same_ranges : ranges_questions a ≡ ranges_questions b
  unfolding ranges_questions
  same_ranges = rw (e 0 (omega arith), e 1 (omega arith), e 2 (omega arith), e 3 (omega arith)) refl

  pub same_edition : edition_question a ≡ edition_question b
  unfolding edition_question
  same_edition = rw (e 4 (omega arith)) refl

  pub same_allowed : 5 ≤ length a → Head b → Head a
  same_allowed long ok = record {
    there = long;
    not_negative = λ j l. rw (e j (omega arith)) (ok.not_negative j l);
    n_positive = rw (e 0 (omega arith)) ok.n_positive;
    n_small = rw (e 0 (omega arith)) ok.n_small;
    L_positive = rw (e 1 (omega arith)) ok.L_positive;
    L_small = rw (e 1 (omega arith)) ok.L_small;
    E_small = rw (e 2 (omega arith)) ok.E_small;
    B_small = rw (e 3 (omega arith)) ok.B_small;
  }

-- the head words stand first
pub same_front : (h r : List ℤ) → length h ≡ 5 → SameHead (h ++ r) h
same_front h r e j l = get_or-append h r (pos 0) j (omega arith)

-- ---- the largest model: 64 locations of 6 variables, 128 switches, 64 forbidden boxes, every location cut

pub most_words : (h : List ℤ) → Head h → model_size h ≤ 7173
most_words h ok =
    omega (
      arith,
      ok.L_small,
      switches_at h,
      forbiddens_at h,
      cuts_at h,
      words_end h,
      locations_small (n# h) (L# h) ok.L_small ok.n_small,
      switches_small (n# h) (E# h) ok.E_small ok.n_small,
      forbiddens_small (n# h) (B# h) ok.B_small ok.n_small,
    )
