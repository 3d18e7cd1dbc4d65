-- Where the records of a model stand: each begins at a small place, and lies within the words.
use mathlib.Core.Path.{◌≡◌}
use mathlib.Core.List.{List}
use Prim.Native.Nat.{ℕ, ◌+◌, ◌*◌, ◌<◌, ◌≤◌}
use native.Mathlib.Nat.{mul-le-mul, mul-le-mul_right}
use native.Mathlib.Omega.{arith}
use lib.IntN.{ℤ}
use lib.ListN.{length}
use Rattle.plant.specs.Model.{n#, L#, E#, B#, head_size, location_size, switch_size, forbidden_size, location_at, invariant, rate, start_box, switch_at, guard, reset, forbidden_at, forbidden_box, cut_size, cut_at, model_size}
use Rattle.plant.proofs.Boxes.{length-box_at}
use Rattle.plant.proofs.StartPart.{length_start}
use Rattle.plant.proofs.Whole.{Head, Whole}

-- record i of some records of w words ends with them
pub row_within : {i rows : ℕ} (w : ℕ) → i < rows → i * w + w ≤ rows * w
row_within {i} {rows} w h = omega (arith, mul-le-mul_right w h)

-- ---- small places, where n is the number of variables

pub locations_small : (n l : ℕ) → l ≤ 64 → n ≤ 6 → l * location_size n ≤ 2368
locations_small n l h k = let f : 6 * n + 1 ≤ 37 = omega arith in let g : l * (6 * n + 1) ≤ 64 * 37 = mul-le-mul h f in omega arith

pub switches_small : (n e : ℕ) → e ≤ 128 → n ≤ 6 → e * switch_size n ≤ 3840
switches_small n e h k = let f : 6 + 4 * n ≤ 30 = omega arith in let g : e * (6 + 4 * n) ≤ 128 * 30 = mul-le-mul h f in omega arith

pub forbiddens_small : (n b : ℕ) → b ≤ 64 → n ≤ 6 → b * forbidden_size n ≤ 832
forbiddens_small n b h k = let f : 1 + 2 * n ≤ 13 = omega arith in let g : b * (1 + 2 * n) ≤ 64 * 13 = mul-le-mul h f in omega arith

module _ (m : List ℤ) (h : Head m) where
  pub location_small : (l : ℕ) → l ≤ 64 → location_at m l ≤ 2373
  unfolding location_at
  location_small l k = omega (arith, locations_small (n# m) l k h.n_small)

  pub switch_small : (e : ℕ) → e ≤ 128 → switch_at m e ≤ 6213
  unfolding switch_at
  switch_small e k = omega (arith, location_small (L# m) h.L_small, switches_small (n# m) e k h.n_small)

  pub forbidden_small : (b : ℕ) → b ≤ 64 → forbidden_at m b ≤ 7045
  unfolding forbidden_at
  forbidden_small b k = omega (arith, switch_small (E# m) h.E_small, forbiddens_small (n# m) b k h.n_small)

-- ---- the records lie within the words

-- after the head
pub head_first : (m : List ℤ) → head_size ≤ model_size m
unfolding model_size cut_at forbidden_at switch_at location_at
head_first m = omega arith

-- before the cuts
pub cuts_last : (m : List ℤ) → cut_at m 0 ≤ model_size m
unfolding model_size cut_at
cuts_last m = omega arith

module _ (m : List ℤ) where
  pub forbidden_before : (b : ℕ) → b < B# m → forbidden_at m b + forbidden_size (n# m) ≤ cut_at m 0
  unfolding forbidden_at cut_at
  forbidden_before b l = omega (arith, row_within (forbidden_size (n# m)) l)

  pub switch_before : (e : ℕ) → e < E# m → switch_at m e + switch_size (n# m) ≤ cut_at m 0
  unfolding switch_at forbidden_at cut_at
  switch_before e l = omega (arith, row_within (switch_size (n# m)) l)

  pub location_before : (l : ℕ) → l < L# m → location_at m l + location_size (n# m) ≤ cut_at m 0
  unfolding location_at switch_at forbidden_at cut_at
  location_before l k = omega (arith, row_within (location_size (n# m)) k)

module _ (m : List ℤ) (w : Whole m) where
  pub cut-within : (l : ℕ) → l < L# m → cut_at m l + cut_size ≤ length m
  unfolding cut_at model_size
  cut-within l k = omega (arith, w.long, row_within cut_size k)

  pub switch_within : (e : ℕ) → e < E# m → switch_at m e + switch_size (n# m) ≤ length m
  switch_within e l = omega (arith, w.long, cuts_last m, switch_before m e l)

  pub forbidden_within : (b : ℕ) → b < B# m → forbidden_at m b + forbidden_size (n# m) ≤ length m
  forbidden_within b l = omega (arith, w.long, cuts_last m, forbidden_before m b l)

  pub location_within : (l : ℕ) → l < L# m → location_at m l + location_size (n# m) ≤ length m
  location_within l k = omega (arith, w.long, cuts_last m, location_before m l k)

  -- and so do their boxes
  pub length-invariant : (l : ℕ) → l < L# m → length (invariant m l) ≡ 2 * n# m
  unfolding invariant
  length-invariant l k = length-box_at (n# m) m (location_at m l) (omega (arith, location_within l k))

  pub length-rate : (l : ℕ) → l < L# m → length (rate m l) ≡ 2 * n# m
  unfolding rate
  length-rate l k = length-box_at (n# m) m (location_at m l + 2 * n# m) (omega (arith, location_within l k))

  pub length-start_box : (l : ℕ) → l < L# m → length (start_box m l) ≡ 2 * n# m
  length-start_box l = length_start m l w.long

  pub length-guard : (e : ℕ) → e < E# m → length (guard m e) ≡ 2 * n# m
  unfolding guard
  length-guard e k = length-box_at (n# m) m (switch_at m e + 6) (omega (arith, switch_within e k))

  pub length-reset : (e : ℕ) → e < E# m → length (reset m e) ≡ 2 * n# m
  unfolding reset
  length-reset e k = length-box_at (n# m) m (switch_at m e + (6 + 2 * n# m)) (omega (arith, switch_within e k))

  pub length-forbidden_box : (b : ℕ) → b < B# m → length (forbidden_box m b) ≡ 2 * n# m
  unfolding forbidden_box
  length-forbidden_box b k = length-box_at (n# m) m (forbidden_at m b + 1) (omega (arith, forbidden_within b k))
