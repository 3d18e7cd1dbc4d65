-- Where a switch lands, variable by variable: the nested cuts of the definition as one low and one high; and the mask's bits, halved turn by turn.
use mathlib.Core.Path.{◌≡◌, refl, sym, ap, ◌∙◌}
use mathlib.Core.Bool.{Bool, true, false, cond, ◌&&◌}
use mathlib.Core.List.{List}
use Prim.Native.Nat.{ℕ, ◌+◌, ◌/◌, ◌^◌, ◌<◌}
use native.Mathlib.Nat.{div-div-eq-div-mul, div-one, pow-suc}
use native.Mathlib.Numerals.{add-one}
use lib.IntN.{ℤ}
use lib.Signed.{le_z}
use Rattle.integers.specs.Rounding.{max_z, min_z}
use Rattle.integers.specs.Counted.{all_below}
use Rattle.plant.specs.Box.{low, high, box_by, ordered, cut}
use Rattle.plant.specs.Model.{masked}
use Rattle.plant.specs.Steps.{set_masked}
use Rattle.plant.proofs.Boxes.{box_ext, low_cut, high_cut, low-set_masked, high-set_masked}
use Rattle.delays.specs.Ranges.{Level, LevelAt}
use Rattle.steps.proofs.Bounds.{max_abs, min_abs, cond_abs}
use Rattle.steps.proofs.Written.{ordered_by, next_tested}

-- ---- the mask

pub whole_mask : (mask : ℕ) → mask ≡ mask / 2 ^ 0
whole_mask mask = sym (div-one mask)

pub half_mask : (mask i : ℕ) → mask / 2 ^ i / 2 ≡ mask / 2 ^ (i + 1)
half_mask mask i = div-div-eq-div-mul mask (2 ^ i) 2 ∙ ap (λ (k : ℕ). mask / k) (sym (pow-suc 2 i) ∙ ap (λ (k : ℕ). 2 ^ k) (sym (add-one i)))

-- ---- the ends

-- the box on which a switch lands the box of the source's face
unfoldable pub landed_box : (n mask : ℕ) (guard reset inv from : List ℤ) → List ℤ
landed_box n mask guard reset inv from = cut n (cut n (set_masked n mask reset (cut n from guard)) reset) inv

unfoldable pub guarded_low : (guard from : List ℤ) → ℕ → ℤ
guarded_low guard from i = max_z (low from i) (low guard i)

unfoldable pub guarded_high : (guard from : List ℤ) → ℕ → ℤ
guarded_high guard from i = min_z (high from i) (high guard i)

unfoldable pub landed_low : (mask : ℕ) (guard reset inv from : List ℤ) → ℕ → ℤ
landed_low mask guard reset inv from i = max_z (max_z (cond (masked mask i) (low reset i) (guarded_low guard from i)) (low reset i)) (low inv i)

unfoldable pub landed_high : (mask : ℕ) (guard reset inv from : List ℤ) → ℕ → ℤ
landed_high mask guard reset inv from i = min_z (min_z (cond (masked mask i) (high reset i) (guarded_high guard from i)) (high reset i)) (high inv i)

module _ (n mask : ℕ) (guard reset inv from : List ℤ) where
  guarded_by : cut n from guard ≡ box_by n (guarded_low guard from) (guarded_high guard from)
  unfolding cut guarded_low guarded_high
  guarded_by = refl

  abbrev after_reset : List ℤ
  after_reset = set_masked n mask reset (cut n from guard)

  low_lands : (i : ℕ) → i < n → max_z (low (cut n after_reset reset) i) (low inv i) ≡ landed_low mask guard reset inv from i
  unfolding landed_low guarded_low
  low_lands i l = rw (low_cut n after_reset reset i l, low-set_masked n mask reset (cut n from guard) i l, low_cut n from guard i l)

  high_lands : (i : ℕ) → i < n → min_z (high (cut n after_reset reset) i) (high inv i) ≡ landed_high mask guard reset inv from i
  unfolding landed_high guarded_high
  high_lands i l = rw (high_cut n after_reset reset i l, high-set_masked n mask reset (cut n from guard) i l, high_cut n from guard i l)

  cut_by : (a b : List ℤ) (lo hi : ℕ → ℤ) → ((i : ℕ) → i < n → max_z (low a i) (low b i) ≡ lo i) → ((i : ℕ) → i < n → min_z (high a i) (high b i) ≡ hi i) → cut n a b ≡ box_by n lo hi
  unfolding cut
  cut_by a b lo hi e f = box_ext n (λ i. max_z (low a i) (low b i)) (λ i. min_z (high a i) (high b i)) lo hi e f

  pub landed_by : landed_box n mask guard reset inv from ≡ box_by n (landed_low mask guard reset inv from) (landed_high mask guard reset inv from)
  unfolding landed_box
  landed_by = cut_by (cut n after_reset reset) inv (landed_low mask guard reset inv from) (landed_high mask guard reset inv from) low_lands high_lands

  -- neither cut is empty
  pub lands_by : ordered n (cut n from guard) && ordered n (landed_box n mask guard reset inv from)
      ≡ all_below n (λ i. le_z (guarded_low guard from i) (guarded_high guard from i)) && all_below n (λ i. le_z (landed_low mask guard reset inv from i) (landed_high mask guard reset inv from i))
  lands_by = rw (guarded_by, landed_by, ordered_by n (guarded_low guard from) (guarded_high guard from), ordered_by n (landed_low mask guard reset inv from) (landed_high mask guard reset inv from))

-- ---- the two tests of a turn

both : (a b f g : Bool) → (a && b) && (f && g) ≡ (a && f) && (b && g)
both false b f g = refl
both true false false g = refl
both true false true g = refl
both true true f g = refl

pub none_both : (f g : ℕ → Bool) → true ≡ all_below 0 f && all_below 0 g
unfolding all_below
none_both f g = refl

pub next_both : (f g : ℕ → Bool) (i : ℕ) → (all_below i f && all_below i g) && (f i && g i) ≡ all_below (i + 1) f && all_below (i + 1) g
next_both f g i = both (all_below i f) (all_below i g) (f i) (g i) ∙ rw (next_tested f i, next_tested g i)

-- ---- the words are levels

module _ (mask : ℕ) (guard reset inv from : List ℤ) (i : ℕ) (gs : LevelAt guard i) (rs : LevelAt reset i) (vs : LevelAt inv i) (fs : LevelAt from i) where
  pub landed_low_level : Level (landed_low mask guard reset inv from i)
  unfolding landed_low guarded_low
  landed_low_level =
      max_abs _ _ (max_abs _ _ (cond_abs (masked mask i) _ _ rs.low_in (max_abs _ _ fs.low_in gs.low_in)) rs.low_in) vs.low_in

  pub landed_high_level : Level (landed_high mask guard reset inv from i)
  unfolding landed_high guarded_high
  landed_high_level =
      min_abs _ _ (min_abs _ _ (cond_abs (masked mask i) _ _ rs.high_in (min_abs _ _ fs.high_in gs.high_in)) rs.high_in) vs.high_in
