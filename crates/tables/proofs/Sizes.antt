-- How many pieces stand before a location, and the sizes that follow.
use mathlib.Core.Path.{◌≡◌, refl, sym, ap, ap₂, ◌∙◌}
use mathlib.Core.List.{List}
use Prim.Native.Nat.{ℕ, ◌+◌, ◌*◌, ◌≤◌}
use native.Mathlib.Numerals.{add-one}
use native.Mathlib.Omega.{arith}
use lib.IntN.{ℤ}
use Rattle.integers.specs.Counted.{sum_below}
use Rattle.integers.proofs.Counted.{sum_times, sum_ext, sum_le, sum_same}
use Rattle.plant.specs.Model.{n#, L#}
use Rattle.plant.specs.Pieces.{per_face, pieces}
use Rattle.plant.specs.Tables.{words_per_location, face_size, pieces_before, piece_count, table_size}
use Rattle.plant.proofs.Pieces.{per_face_most}
use Rattle.plant.proofs.Tables.{pieces-most}
use Rattle.plant.proofs.Whole.{Head}

-- ---- sums over the locations

module _ (m : List ℤ) where
  -- the locations before l, a cut one counted twice
  abbrev pub layers_before : ℕ → ℕ
  layers_before l = sum_below l (per_face m)

  pub layers_none : 0 ≡ layers_before 0
  unfolding sum_below
  layers_none = refl

  pub layers_more : (l : ℕ) {count k : ℕ} → count ≡ layers_before l → k ≡ per_face m l → count + k ≡ layers_before (l + 1)
  unfolding sum_below
  layers_more l e h = rw (add-one l) (ap₂ ◌+◌ e h)

  -- each of them has 2n pieces
  layer_pieces : (l : ℕ) → layers_before l * (2 * n# m) ≡ pieces_before m l
  unfolding pieces_before pieces
  layer_pieces l = sym (sum_times l (per_face m) (2 * n# m)) ∙ sum_ext l (λ i. per_face m i * (2 * n# m)) (λ i. 2 * n# m * per_face m i) (λ i u. omega arith)

  pub count_layers : 2 * n# m * layers_before (L# m) ≡ piece_count m
  unfolding piece_count
  count_layers = omega (arith, layer_pieces (L# m))

  pub table_layers : layers_before (L# m) * words_per_location (n# m) ≡ table_size m
  unfolding table_size words_per_location
  table_layers = omega (arith, ap (λ (k : ℕ). k * face_size (n# m)) count_layers)

  pub layers_most : (l : ℕ) → l ≤ 64 → layers_before l ≤ 128
  layers_most l u = omega (arith, sum_le l (per_face m) (λ i. 2) (λ i _. per_face_most m i), sum_same l 2)

  module _ (h : Head m) where
    pub before_most : (l : ℕ) → l ≤ L# m → pieces_before m l ≤ 1536
    unfolding pieces_before
    before_most l u = omega (arith, sum_le l (pieces m) (λ i. 24) (λ i _. pieces-most m i h.n_small), sum_same l 24, h.L_small)
