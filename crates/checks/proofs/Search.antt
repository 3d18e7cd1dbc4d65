-- The search for a touch, by its three loops: the locations passed, the parts passed and the forbidden boxes passed. A part is
-- asked of its own location's boxes alone, from the last to the first.
use mathlib.Core.Path.{◌≡◌, refl, sym, ap, ◌∙◌}
use mathlib.Core.Bool.{Bool, true, false, or-false}
use mathlib.Core.List.{List}
use Prim.Native.Nat.{ℕ, zero, suc, ◌+◌, ◌-◌, ◌<◌, ◌≤◌}
use native.Mathlib.Omega.{arith}
use lib.Dec.{eqb}
use lib.IntN.{ℤ}
use Rattle.std.proofs.lemmas.Grind.{common_steps}
use Rattle.integers.specs.Counted.{any_below}
use Rattle.plant.specs.Box.{Face, absent, present}
use Rattle.plant.specs.Model.{L#, B#, forbidden_location}
use Rattle.plant.specs.Pieces.{pieces}
use Rattle.plant.specs.Tables.{part_of, part_touches, touching}
use Rattle.checks.specs.Links.{last_box}
use Rattle.checks.proofs.Linking.{last_within, last_own}
use Rattle.checks.proofs.Loops.{any_none, any_more, any_found}

module _ (m t : List ℤ) where
  -- part p of location l touches some box below k; some part below k touches one; so in a location below k
  unfoldable pub boxes_touched : (l p k : ℕ) → Bool
  boxes_touched l p k = any_below k (λ b. part_touches m l b (part_of m t l p))

  unfoldable pub parts_touch : (l k : ℕ) → Bool
  parts_touch l k = any_below k (λ p. boxes_touched l p (B# m))

  unfoldable pub locations_touch : ℕ → Bool
  locations_touch k = any_below k (λ l. parts_touch l (suc (pieces m l)))

  pub search_is : locations_touch (L# m) ≡ touching m t
  unfolding locations_touch parts_touch boxes_touched touching
  search_is = refl

  -- none at first
  no_box : (l p : ℕ) → boxes_touched l p 0 ≡ false
  unfolding boxes_touched
  no_box l p = any_none (λ b. part_touches m l b (part_of m t l p))

  pub no_part : (l : ℕ) → parts_touch l 0 ≡ false
  unfolding parts_touch
  no_part l = any_none (λ p. boxes_touched l p (B# m))

  pub no_location : locations_touch 0 ≡ false
  unfolding locations_touch
  no_location = any_none (λ l. parts_touch l (suc (pieces m l)))

  -- nor after one that does not touch, or is not touched
  box_less : (l p b : ℕ) → part_touches m l b (part_of m t l p) ≡ false → boxes_touched l p (suc b) ≡ boxes_touched l p b
  unfolding boxes_touched any_below
  box_less l p b h = rw h (or-false (boxes_touched l p b))

  pub part_more : (l p : ℕ) → parts_touch l p ≡ false → boxes_touched l p (B# m) ≡ false → parts_touch l (p + 1) ≡ false
  unfolding parts_touch
  part_more l p e h = any_more (λ p. boxes_touched l p (B# m)) p e h

  pub location_more : (l : ℕ) → locations_touch l ≡ false → parts_touch l (suc (pieces m l)) ≡ false → locations_touch (l + 1) ≡ false
  unfolding locations_touch
  location_more l e h = any_more (λ l. parts_touch l (suc (pieces m l))) l e h

  -- an absent part touches nothing, and no part a box of another location
  pub none_absent : (l p k : ℕ) → part_of m t l p ≡ absent → boxes_touched l p k ≡ false
  unfolding boxes_touched any_below part_touches
  none_absent l p zero e = refl
  none_absent l p (suc k) e = rw (none_absent l p k e, e) refl

  elsewhere : (l b : ℕ) (g : Face) → eqb (forbidden_location m b) l ≡ false → part_touches m l b g ≡ false
  unfolding part_touches
  elsewhere l b absent e = refl
  elsewhere l b (present x) e = rw e refl

  -- the last box of the location below k is touched, or one before it, if one below k is
  up_to_last : (l p k : ℕ) → boxes_touched l p (last_box m l k) ≡ boxes_touched l p k
  unfolding last_box
  up_to_last l p zero = refl
  up_to_last l p (suc k) = grind (arith, common_steps, up_to_last l p k, box_less l p k, elsewhere l k (part_of m t l p))

  -- so that no part of a location without boxes touches one
  pub no_boxes : (l : ℕ) → last_box m l (B# m) ≡ 0 → (k : ℕ) → parts_touch l k ≡ false
  unfolding parts_touch any_below
  no_boxes l e zero = refl
  no_boxes l e (suc k) = rw (no_boxes l e k, sym (up_to_last l k (B# m)) ∙ ap (boxes_touched l k) e ∙ no_box l k) refl

  -- of the boxes of location l, box b - 1 and those before it are left to be asked of part p, or none at 0
  pub record BoxesLeft (l p b : ℕ) : Type 0 where
    pub within : b ≤ B# m
    pub own : 0 < b → forbidden_location m (b - 1) ≡ l
    pub passed : boxes_touched l p b ≡ boxes_touched l p (B# m)

  module _ (l p : ℕ) where
    left_below : (k : ℕ) → k ≤ B# m → boxes_touched l p k ≡ boxes_touched l p (B# m) → BoxesLeft l p (last_box m l k)
    left_below k u e = record { within = omega (arith, last_within m l k); own = last_own m l k; passed = up_to_last l p k ∙ e }

    pub all_left : BoxesLeft l p (last_box m l (B# m))
    all_left = left_below (B# m) (omega arith) refl

    pub one_less : {b c : ℕ} → BoxesLeft l p b → 0 < b → part_touches m l (b - 1) (part_of m t l p) ≡ false → c ≡ last_box m (forbidden_location m (b - 1)) (b - 1) → BoxesLeft l p c
    one_less {b} h u e d =
        let is : suc (b - 1) ≡ b = omega arith in
        rw (d, h.own u) (left_below (b - 1) (omega (arith, h.within)) (sym (box_less l p (b - 1) e) ∙ ap (boxes_touched l p) is ∙ h.passed))

    pub none_left : BoxesLeft l p 0 → boxes_touched l p (B# m) ≡ false
    none_left h = sym h.passed ∙ no_box l p

  -- the first touch
  pub found : (l p b : ℕ) → l < L# m → p < suc (pieces m l) → b < B# m → part_touches m l b (part_of m t l p) ≡ true → touching m t ≡ true
  unfolding touching
  found l p b u v w e =
      any_found (λ l. any_below (suc (pieces m l)) (λ p. any_below (B# m) (λ b. part_touches m l b (part_of m t l p)))) l (L# m) u
      (any_found (λ p. any_below (B# m) (λ b. part_touches m l b (part_of m t l p))) p (suc (pieces m l)) v
      (any_found (λ b. part_touches m l b (part_of m t l p)) b (B# m) w e))
