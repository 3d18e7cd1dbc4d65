-- Two lists with the same words up to the cuts have the same records.
use mathlib.Core.Path.{◌≡◌, refl, sym, ap, ◌∙◌}
use mathlib.Core.List.{List}
use Prim.Native.Nat.{ℕ, ◌+◌, ◌*◌, ◌<◌, ◌≤◌}
use native.Mathlib.Omega.{arith}
use lib.IntN.{ℤ, pos, nat_abs}
use lib.ListN.{take, drop}
use lib.Seq.{get_or-take}
use Rattle.integers.specs.Words.{word, num}
use Rattle.integers.proofs.Buffers.{part_front}
use Rattle.plant.specs.Box.{box_at}
use Rattle.plant.specs.Model.{n#, L#, E#, B#, edition, head_size, location_at, invariant, rate, start_flag, start_box, switch_at, source, target, wall_variable, source_side, target_side, reset_mask, guard, reset, forbidden_at, forbidden_location, forbidden_box, cut_at}
use Rattle.plant.specs.Tables.{start_part}
use Rattle.plant.proofs.Positions.{location_before, switch_before, forbidden_before}

-- the head stands before the cuts
head_before : (a : List ℤ) → head_size ≤ cut_at a 0
unfolding cut_at forbidden_at switch_at location_at
head_before a = omega arith

-- the first k words of m are those of a, and a's cuts begin no sooner than there
module _ (m a : List ℤ) (k : ℕ) (same : take k m ≡ take k a) (far : cut_at a 0 ≤ k) where
  pub word_same : (i : ℕ) → i < k → word m i ≡ word a i
  word_same i l = sym (get_or-take k m i (pos 0) l) ∙ ap (λ (s : List ℤ). word s i) same ∙ get_or-take k a i (pos 0) l

  num_same : (i : ℕ) → i < k → num m i ≡ num a i
  num_same i l = ap nat_abs (word_same i l)

  pub part_same : (at j : ℕ) → at + j ≤ k → take j (drop at m) ≡ take j (drop at a)
  part_same at j l = sym (part_front at j k m l) ∙ ap (λ (s : List ℤ). take j (drop at s)) same ∙ part_front at j k a l

  box_same : (at : ℕ) → at + 2 * n# a ≤ k → box_at (n# a) m at ≡ box_at (n# a) a at
  unfolding box_at
  box_same at = part_same at (2 * n# a)

  pub n_same : n# m ≡ n# a
  n_same = num_same 0 (omega (arith, head_before a))

  pub L_same : L# m ≡ L# a
  L_same = num_same 1 (omega (arith, head_before a))

  pub E_same : E# m ≡ E# a
  E_same = num_same 2 (omega (arith, head_before a))

  pub B_same : B# m ≡ B# a
  B_same = num_same 3 (omega (arith, head_before a))

  pub edition_same : edition m ≡ edition a
  edition_same = word_same 4 (omega (arith, head_before a))

  -- ---- locations

  pub location_same : (l : ℕ) → location_at m l ≡ location_at a l
  unfolding location_at
  location_same l = rw n_same refl

  module _ (l : ℕ) (u : l < L# a) where
    pub invariant_same : invariant m l ≡ invariant a l
    unfolding invariant
    invariant_same = rw (n_same, location_same l) (box_same (location_at a l) (omega (arith, location_before a l u)))

    pub rate_same : rate m l ≡ rate a l
    unfolding rate
    rate_same = rw (n_same, location_same l) (box_same (location_at a l + 2 * n# a) (omega (arith, location_before a l u)))

    pub flag_same : start_flag m l ≡ start_flag a l
    unfolding start_flag
    flag_same = rw (n_same, location_same l) (word_same (location_at a l + 4 * n# a) (omega (arith, location_before a l u)))

    pub start_same : start_box m l ≡ start_box a l
    unfolding start_box
    start_same = rw (n_same, location_same l) (box_same (location_at a l + (4 * n# a + 1)) (omega (arith, location_before a l u)))

    pub start_part_same : start_part m l ≡ start_part a l
    unfolding start_part
    start_part_same = rw (n_same, flag_same, start_same, invariant_same) refl

  -- ---- switches

  pub switch_same : (e : ℕ) → switch_at m e ≡ switch_at a e
  unfolding switch_at
  switch_same e = rw (n_same, L_same, location_same (L# a)) refl

  module _ (e : ℕ) (u : e < E# a) where
    -- word j of the switch
    pub at_same : (j : ℕ) → j < 6 → word m (switch_at a e + j) ≡ word a (switch_at a e + j)
    at_same j l = word_same (switch_at a e + j) (omega (arith, switch_before a e u))

    pub first_same : word m (switch_at a e) ≡ word a (switch_at a e)
    first_same = word_same (switch_at a e) (omega (arith, switch_before a e u))

    pub source_same : source m e ≡ source a e
    unfolding source
    source_same = rw (switch_same e, first_same) refl

    pub target_same : target m e ≡ target a e
    unfolding target
    target_same = rw (switch_same e, at_same 1 (omega arith)) refl

    pub variable_same : wall_variable m e ≡ wall_variable a e
    unfolding wall_variable
    variable_same = rw (switch_same e, at_same 2 (omega arith)) refl

    pub source_side_same : source_side m e ≡ source_side a e
    unfolding source_side
    source_side_same = rw (switch_same e, at_same 3 (omega arith)) refl

    pub target_side_same : target_side m e ≡ target_side a e
    unfolding target_side
    target_side_same = rw (switch_same e, at_same 4 (omega arith)) refl

    pub mask_same : reset_mask m e ≡ reset_mask a e
    unfolding reset_mask
    mask_same = rw (switch_same e, at_same 5 (omega arith)) refl

    pub guard_same : guard m e ≡ guard a e
    unfolding guard
    guard_same = rw (n_same, switch_same e) (box_same (switch_at a e + 6) (omega (arith, switch_before a e u)))

    pub reset_same : reset m e ≡ reset a e
    unfolding reset
    reset_same = rw (n_same, switch_same e) (box_same (switch_at a e + (6 + 2 * n# a)) (omega (arith, switch_before a e u)))

  -- ---- forbidden boxes

  pub forbidden_same : (b : ℕ) → forbidden_at m b ≡ forbidden_at a b
  unfolding forbidden_at
  forbidden_same b = rw (n_same, E_same, switch_same (E# a)) refl

  module _ (b : ℕ) (u : b < B# a) where
    pub forbidden_word_same : word m (forbidden_at a b) ≡ word a (forbidden_at a b)
    forbidden_word_same = word_same (forbidden_at a b) (omega (arith, forbidden_before a b u))

    pub forbidden_location_same : forbidden_location m b ≡ forbidden_location a b
    unfolding forbidden_location
    forbidden_location_same = rw (forbidden_same b, forbidden_word_same) refl

    pub forbidden_box_same : forbidden_box m b ≡ forbidden_box a b
    unfolding forbidden_box
    forbidden_box_same = rw (n_same, forbidden_same b) (box_same (forbidden_at a b + 1) (omega (arith, forbidden_before a b u)))

  -- ---- where the cuts stand

  pub cut_same : (l : ℕ) → cut_at m l ≡ cut_at a l
  unfolding cut_at
  cut_same l = rw (B_same, forbidden_same (B# a)) refl
