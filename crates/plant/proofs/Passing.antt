-- What code knows once a question was answered: the head's numbers after 2 to 4, a switch's numbers after 14, the length
-- after 5. And that a model that passes all its questions has them.
use mathlib.Core.Path.{◌≡◌}
use mathlib.Core.List.{List}
use Prim.Native.Nat.{ℕ, ◌^◌, ◌<◌, ◌≤◌}
use native.Mathlib.Omega.{arith}
use lib.Dec.{T}
use lib.IntN.{ℤ}
use lib.Pow.{pow_pos, pow_mono}
use lib.ListN.{length}
use Rattle.integers.specs.Words.{word}
use Rattle.integers.proofs.Counted.{within_abs, within_one}
use Rattle.plant.specs.Model.{E#, head_size}
use Rattle.plant.specs.Questions.{places_ok, ranges_questions, model_questions}
use Rattle.plant.proofs.Passed.{one_abs, head_nonneg, RangesPassed, ranges_passed, PlacesPassed, places_passed, SwitchPassed, Passed, passed}
use Rattle.plant.proofs.Whole.{Head, Whole, Placed}
use Rattle.plant.proofs.Positions.{head_first}

pub head_passed : (m : List ℤ) → head_size ≤ length m → ranges_questions m ≡ 0 → Head m
head_passed m h e =
    let r : RangesPassed m = ranges_passed m e in
    record {
      there = h;
      not_negative = head_nonneg m r;
      n_positive = within_one (word m 0) 6 r.n_within;
      n_small = one_abs (word m 0) 6 r.n_within;
      L_positive = within_one (word m 1) 64 r.L_within;
      L_small = one_abs (word m 1) 64 r.L_within;
      E_small = within_abs (word m 2) 128 r.E_within;
      B_small = within_abs (word m 3) 64 r.B_within;
    }

pub placed : (m : List ℤ) (e : ℕ) → Whole m → e < E# m → T (places_ok m e) → Placed m e
placed m e w l h =
    let p : PlacesPassed m e = places_passed m e w.head.n_positive w.head.L_positive h in
    record {
      numbered = record { whole = w; below = l; not_negative = p.not_negative };
      source_is = p.source_is;
      target_is = p.target_is;
      variable_is = p.variable_is;
      source_side_is = p.source_side_is;
      target_side_is = p.target_side_is;
    }

-- ---- a model that passes all its questions

pub whole_passed : (m : List ℤ) → Passed m → Whole m
whole_passed m p = record {
  head = record {
    there = omega (arith, p.long, head_first m);
    not_negative = p.head;
    n_positive = p.n_positive;
    n_small = p.n_small;
    L_positive = p.L_positive;
    L_small = p.L_small;
    E_small = p.E_small;
    B_small = p.B_small;
  };
  long = p.long;
}

pub whole : (m : List ℤ) → model_questions m ≡ 0 → Whole m
whole m e = whole_passed m (passed m e)

pub head_ready : (m : List ℤ) → model_questions m ≡ 0 → Head m
head_ready m e = (whole m e).head

pub switch_placed : (m : List ℤ) → Passed m → (e : ℕ) → e < E# m → Placed m e
switch_placed m p e l =
    let s : SwitchPassed m e = p.of_switch e l in
    record {
      numbered = record { whole = whole_passed m p; below = l; not_negative = s.not_negative };
      source_is = s.source_is;
      target_is = s.target_is;
      variable_is = s.variable_is;
      source_side_is = s.source_side_is;
      target_side_is = s.target_side_is;
    }

-- ---- masks

-- the masks of n variables lie below 2 ^ n, which is at most 64
pub masks_small : (n : ℕ) → n ≤ 6 → (1 ≤ 2 ^ n) × (2 ^ n ≤ 64)
masks_small n h = let g : 2 ^ n ≤ 2 ^ 6 = pow_mono h in (pow_pos n, omega arith)
