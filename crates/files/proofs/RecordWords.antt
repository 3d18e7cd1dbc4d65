-- The words of a model that passes its questions are signed 32-bit words, record by record: its numbers are small, and the ends of its
-- boxes are levels or rates.
use mathlib.Core.Path.{◌≡◌, sym, subst, ◌∙◌}
use mathlib.Core.Logic.{⊎_elim}
use mathlib.Core.List.{List, [], ◌∷◌}
use Prim.Native.Nat.{ℕ, zero, suc, ◌+◌, ◌-◌, ◌*◌, ◌≤◌, ◌<◌}
use native.Mathlib.Decide.{dec_lt}
use native.Mathlib.Omega.{arith}
use lib.IntN.{ℤ, pos, nat_abs}
use lib.ListN.{take, drop}
use lib.Seq.{get_or-take, get_or-drop}
use mir.Facts.{sfits_lit}
use Rattle.integers.specs.Words.{word, AreWords}
use Rattle.integers.proofs.Parts.{arith_z}
use Rattle.integers.proofs.Signed.{between}
use Rattle.files.specs.Bytes.{part}
use Rattle.plant.specs.Box.{low, high, box_at}
use Rattle.plant.specs.Model.{n#, L#, E#, B#, location_size, switch_size, forbidden_size, location_at, invariant, rate, start_flag, start_box, switch_at, source, target, wall_variable, source_side, target_side, reset_mask, guard, reset, forbidden_at, forbidden_location, forbidden_box, cut_variable, cut_value}
use Rattle.plant.proofs.Passed.{InRange, IsUncut, IsCut, LocationPassed, SwitchPassed, ForbiddenPassed, Passed}
use Rattle.plant.proofs.TableWords.{small}
use Rattle.plant.proofs.Passing.{masks_small}

front : (zs : List ℤ) (k : ℕ) → ((j : ℕ) → j < k → nat_abs (word zs j) ≤ 1000000) → AreWords (take k zs)
front zs zero h i = sfits_lit tt
front [] (suc k) h i = sfits_lit tt
front (z ∷ zs) (suc k) h zero = small z (h 0 (omega arith))
front (z ∷ zs) (suc k) h (suc i) = front zs k (λ j l. h (suc j) (omega arith)) i

module _ (m : List ℤ) where
  -- the word at a place is small
  abbrev Small : ℕ → Type 0
  Small i = nat_abs (word m i) ≤ 1000000

  at : {i k : ℕ} → i ≡ k → Small i → Small k
  at e h = subst Small e h

  of_part : (from k : ℕ) → ((j : ℕ) → j < k → Small (from + j)) → AreWords (part m from k)
  of_part from k h = front (drop from m) k (λ j l. subst (λ (z : ℤ). nat_abs z ≤ 1000000) (sym (get_or-drop from m j (pos 0))) (h j l))

  -- word j of a box that stands at a place
  of_box : (n from most : ℕ) → InRange (2 * n) most (box_at n m from) → most ≤ 1000000 → (j : ℕ) → j < 2 * n → Small (from + j)
  unfolding box_at
  of_box n from most r h j l =
      let e : word (box_at n m from) j ≡ word m (from + j) = get_or-take (2 * n) (drop from m) j (pos 0) l ∙ get_or-drop from m j (pos 0) in
      subst (λ (z : ℤ). nat_abs z ≤ 1000000) e (omega (arith, r j l))

  module _ (ok : Passed m) where
    pub head_fits : AreWords (part m 0 4)
    head_fits = of_part 0 4 by
      where
        by : (j : ℕ) → j < 4 → Small (0 + j)
        by zero l = omega (arith, ok.n_small)
        by (suc zero) l = omega (arith, ok.L_small)
        by (suc (suc zero)) l = omega (arith, ok.E_small)
        by (suc (suc (suc zero))) l = omega (arith, ok.B_small)
        by (suc (suc (suc (suc j)))) l = absurd (omega arith)

    module _ (l : ℕ) (u : l < L# m) where
      abbrev words_of_location : LocationPassed m l
      words_of_location = ok.of_location l u

      flag_small : Small (location_at m l + 4 * n# m)
      unfolding start_flag
      flag_small = ⊎_elim (λ e. rw e (omega arith)) (λ e. rw e (omega arith)) words_of_location.start_flag_is

      location_small : (j : ℕ) → j < location_size (n# m) → Small (location_at m l + j)
      unfolding invariant rate start_box
      location_small j h = by (dec_lt j (2 * n# m)) (dec_lt j (4 * n# m)) (dec_lt (4 * n# m) j)
        where
          by : Dec (j < 2 * n# m) → Dec (j < 4 * n# m) → Dec (4 * n# m < j) → Small (location_at m l + j)
          by (yes a) b c = of_box (n# m) (location_at m l) 1000000 words_of_location.invariant_levels (omega arith) j a
          by (no a) (yes b) c = at (omega arith) (of_box (n# m) (location_at m l + 2 * n# m) 1000 words_of_location.rate_range (omega arith) (j - 2 * n# m) (omega arith))
          by (no a) (no b) (no c) = at (omega arith) flag_small
          by (no a) (no b) (yes c) = at (omega arith) (of_box (n# m) (location_at m l + (4 * n# m + 1)) 1000000 words_of_location.start_levels (omega arith) (j - (4 * n# m + 1)) (omega arith))

      pub location_fits : AreWords (part m (location_at m l) (location_size (n# m)))
      location_fits = of_part (location_at m l) (location_size (n# m)) location_small

    module _ (e : ℕ) (u : e < E# m) where
      abbrev words_of_switch : SwitchPassed m e
      words_of_switch = ok.of_switch e u

      switch_small : (j : ℕ) → j < switch_size (n# m) → Small (switch_at m e + j)
      unfolding source target wall_variable source_side target_side reset_mask guard reset
      switch_small zero h = at {i = switch_at m e} (omega arith) (omega (arith, words_of_switch.source_is, ok.L_small))
      switch_small (suc zero) h = omega (arith, words_of_switch.target_is, ok.L_small)
      switch_small (suc (suc zero)) h = omega (arith, words_of_switch.variable_is, ok.n_small)
      switch_small (suc (suc (suc zero))) h = omega (arith, words_of_switch.source_side_is)
      switch_small (suc (suc (suc (suc zero)))) h = omega (arith, words_of_switch.target_side_is)
      switch_small (suc (suc (suc (suc (suc zero))))) h = omega (arith, words_of_switch.mask_is, masks_small (n# m) ok.n_small)
      switch_small (suc (suc (suc (suc (suc (suc j)))))) h = by (dec_lt j (2 * n# m))
        where
          by : Dec (j < 2 * n# m) → Small (switch_at m e + suc (suc (suc (suc (suc (suc j))))))
          by (yes a) = at (omega arith) (of_box (n# m) (switch_at m e + 6) 1000000 words_of_switch.guard_levels (omega arith) j a)
          by (no a) = at (omega arith) (of_box (n# m) (switch_at m e + (6 + 2 * n# m)) 1000000 words_of_switch.reset_levels (omega arith) (j - 2 * n# m) (omega arith))

      pub switch_fits : AreWords (part m (switch_at m e) (switch_size (n# m)))
      switch_fits = of_part (switch_at m e) (switch_size (n# m)) switch_small

    module _ (b : ℕ) (u : b < B# m) where
      abbrev words_of_forbidden : ForbiddenPassed m b
      words_of_forbidden = ok.of_forbidden b u

      forbidden_small : (j : ℕ) → j < forbidden_size (n# m) → Small (forbidden_at m b + j)
      unfolding forbidden_location forbidden_box
      forbidden_small zero h = at {i = forbidden_at m b} (omega arith) (omega (arith, words_of_forbidden.location_is, ok.L_small))
      forbidden_small (suc j) h = at (omega arith) (of_box (n# m) (forbidden_at m b + 1) 1000000 words_of_forbidden.box_levels (omega arith) j (omega arith))

      pub forbidden_fits : AreWords (part m (forbidden_at m b) (forbidden_size (n# m)))
      forbidden_fits = of_part (forbidden_at m b) (forbidden_size (n# m)) forbidden_small

    module _ (l : ℕ) (u : l < L# m) where
      variable_small : nat_abs (cut_variable m l) ≤ 1000000
      variable_small = ⊎_elim (λ (c : IsUncut m l). rw c.no_variable (omega arith)) (λ (c : IsCut m l). omega (arith, c.inside.0, ok.n_small)) (ok.of_cut l u).words

      value_small : nat_abs (cut_value m l) ≤ 1000000
      unfolding low high
      value_small = ⊎_elim (λ (c : IsUncut m l). rw c.no_value (omega arith)) inside (ok.of_cut l u).words
        where
          inside : IsCut m l → nat_abs (cut_value m l) ≤ 1000000
          inside c =
              let r : InRange (2 * n# m) 1000000 (invariant m l) = (ok.of_location l u).invariant_levels in
              let v : ℕ = nat_abs (cut_variable m l) in
              between {v = low (invariant m l) v} {w = high (invariant m l) v} (cut_value m l) (omega (arith_z, c.inside.1)) (omega (arith_z, c.inside.2)) (r (2 * v) (omega (arith, c.inside.0))) (r (2 * v + 1) (omega (arith, c.inside.0)))

      pub cut_fits : AreWords (pos l ∷ cut_variable m l ∷ cut_value m l ∷ [])
      cut_fits zero = small (pos l) (omega (arith, ok.L_small))
      cut_fits (suc zero) = small (cut_variable m l) variable_small
      cut_fits (suc (suc zero)) = small (cut_value m l) value_small
      cut_fits (suc (suc (suc i))) = sfits_lit tt
