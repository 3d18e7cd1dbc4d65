-- Two lists of words that hold one model, and two tables with the same pieces: their passes and their touches are the same.
use mathlib.Core.Path.{◌≡◌, refl, ap, ◌∙◌}
use mathlib.Core.Bool.{cond, ◌&&◌}
use mathlib.Core.List.{List}
use Prim.Native.Nat.{ℕ, zero, suc, ◌+◌, ◌*◌, ◌<◌, ◌≤◌}
use native.Mathlib.Omega.{arith}
use lib.Dec.{eqb}
use lib.IntN.{ℤ}
use Rattle.integers.specs.Counted.{any_below}
use Rattle.integers.proofs.Counted.{any_ext}
use Rattle.plant.specs.Box.{Face, absent, present, on_box, joins}
use Rattle.plant.specs.Model.{n#, L#, E#, B#, invariant, rate, source, target, wall_variable, source_side, target_side, reset_mask, guard, reset, forbidden_location, forbidden_box, wall, variable_of, side_of, face_wall}
use Rattle.plant.specs.Steps.{wall_step, switch_step, touches}
use Rattle.plant.specs.Pieces.{cut_to_extent, per_face, pieces, piece_number}
use Rattle.plant.specs.Tables.{piece_of, start_part, part_of, to_piece, wall_step_at, wall_from, source_face, source_piece, switch_step_at, switch_onto, walls_joined, switches_joined, new_piece, pass, part_touches, touching}
use Rattle.plant.proofs.Boxes.{joins_ext}
use Rattle.plant.proofs.Passed.{Passed, SwitchPassed}
use Rattle.plant.proofs.Pieces.{number_below}
use Rattle.plant.proofs.Alike.{Alike, same_per_face, same_pieces, same_number, same_face, same_side, same_table}

-- ---- what is read of both is equal (but the edition, at which no pass looks)

pub record SameSwitch (m m' : List ℤ) (e : ℕ) : Type 0 where
  pub sources : source m e ≡ source m' e
  pub targets : target m e ≡ target m' e
  pub variables : wall_variable m e ≡ wall_variable m' e
  pub source_sides : source_side m e ≡ source_side m' e
  pub target_sides : target_side m e ≡ target_side m' e
  pub masks : reset_mask m e ≡ reset_mask m' e
  pub guards : guard m e ≡ guard m' e
  pub resets : reset m e ≡ reset m' e

pub record SameModel (m m' : List ℤ) : Type 0 where
  pub alike : Alike m m'
  pub same_E : E# m ≡ E# m'
  pub same_B : B# m ≡ B# m'
  pub rates : (l : ℕ) → l < L# m → rate m l ≡ rate m' l
  pub starts : (l : ℕ) → l < L# m → start_part m l ≡ start_part m' l
  pub switches : (e : ℕ) → e < E# m → SameSwitch m m' e
  pub locations : (b : ℕ) → b < B# m → forbidden_location m b ≡ forbidden_location m' b
  pub boxes : (b : ℕ) → b < B# m → forbidden_box m b ≡ forbidden_box m' b

pub itself : (m : List ℤ) → SameModel m m
itself m = record {
  alike = record { same_n = refl; same_L = refl; same_invariant = λ l u. refl; same_cut = λ l u. refl };
  same_E = refl;
  same_B = refl;
  rates = λ l u. refl;
  starts = λ l u. refl;
  switches = λ e u. record { sources = refl; targets = refl; variables = refl; source_sides = refl; target_sides = refl; masks = refl; guards = refl; resets = refl };
  locations = λ b u. refl;
  boxes = λ b u. refl;
}

-- ---- and of both tables

module _ (m m' : List ℤ) (same : SameModel m m') (ok : Passed m) (t t' : List ℤ) (each : (l q : ℕ) → l < L# m → q < pieces m l → piece_of m t l q ≡ piece_of m' t' l q) where
  abbrev like : Alike m m'
  like = same.alike

  same_parts : (l p : ℕ) → l < L# m → p < suc (pieces m l) → part_of m t l p ≡ part_of m' t' l p
  unfolding part_of
  same_parts l zero u v = same.starts l u
  same_parts l (suc q) u v = each l q u (omega arith)

  -- ---- a pass

  module _ (l q : ℕ) (u : l < L# m) (v : q < pieces m l) where
    same_wall : (p : ℕ) → p < suc (pieces m l) → wall_from m t l q p ≡ wall_from m' t' l q p
    unfolding wall_from to_piece wall_step_at face_wall
    same_wall p w = λ i.
        let n : ℕ = like.same_n i in
        let inv : List ℤ = like.same_invariant l u i in
        let f : ℕ = same_face m m' like l u q i in
        on_box (on_box (same_parts l p u w i) (λ b. wall_step n inv (same.rates l u i) b (variable_of f) (wall inv (variable_of f) (side_of f)))) (cut_to_extent n (same_side m m' like l u q i))

    same_walls : walls_joined m t l q ≡ walls_joined m' t' l q
    unfolding walls_joined
    same_walls =
        joins_ext (n# m) (suc (pieces m l)) (wall_from m t l q) (wall_from m' t' l q) (piece_of m t l q) same_wall
        ∙ λ i. joins (like.same_n i) (suc (same_pieces m m' like l u i)) (wall_from m' t' l q) (each l q u v i)

    module _ (e : ℕ) (w : e < E# m) where
      abbrev on : SwitchPassed m e
      on = ok.of_switch e w

      abbrev s : SameSwitch m m' e
      s = same.switches e w

      same_from : (k : ℕ) → k < per_face m (source m e) → piece_of m t (source m e) (source_piece m e k) ≡ piece_of m' t' (source m' e) (source_piece m' e k)
      unfolding source_piece
      same_from k x =
          each (source m e) (source_piece m e k) on.source_is (number_below m (source m e) (source_face m e) k (omega (arith, on.variable_is, on.source_side_is)) x)
          ∙ ap (piece_of m' t' (source m e)) (same_number m m' like (source m e) on.source_is (source_face m e) k)
          ∙ λ i. piece_of m' t' (s.sources i) (piece_number m' (s.sources i) (2 * s.variables i + s.source_sides i) k)

      same_landing : (k : ℕ) → k < per_face m (source m e) → switch_onto m t l q e k ≡ switch_onto m' t' l q e k
      unfolding switch_onto to_piece switch_step_at
      same_landing k x = λ i.
          let n : ℕ = like.same_n i in
          cond (eqb (s.targets i) l && eqb (2 * s.variables i + s.target_sides i) (same_face m m' like l u q i))
          (on_box (switch_step n (s.masks i) (s.guards i) (s.resets i) (inv i) (same_from k x i)) (cut_to_extent n (same_side m m' like l u q i))) absent
        where
          inv : invariant m (target m e) ≡ invariant m' (target m' e)
          inv = like.same_invariant (target m e) on.target_is ∙ ap (invariant m') s.targets

      same_per : per_face m (source m e) ≡ per_face m' (source m' e)
      same_per = same_per_face m m' like (source m e) on.source_is ∙ ap (per_face m') s.sources

    same_switches : (e : ℕ) → e ≤ E# m → switches_joined m t l q e ≡ switches_joined m' t' l q e
    unfolding switches_joined
    same_switches zero w = same_walls
    same_switches (suc e) w =
        joins_ext (n# m) (per_face m (source m e)) (switch_onto m t l q e) (switch_onto m' t' l q e) (switches_joined m t l q e) (same_landing e w)
        ∙ λ i. joins (like.same_n i) (same_per e w i) (switch_onto m' t' l q e) (same_switches e (omega arith) i)

    same_new : new_piece m t l q ≡ new_piece m' t' l q
    unfolding new_piece
    same_new = same_switches (E# m) (omega arith) ∙ ap (switches_joined m' t' l q) same.same_E

  pub same_pass : pass m t ≡ pass m' t'
  unfolding pass
  same_pass = same_table m m' like (new_piece m t) (new_piece m' t') same_new

  -- ---- touching

  same_part_touches : (l b : ℕ) → l < L# m → b < B# m → (g : Face) → part_touches m l b g ≡ part_touches m' l b g
  unfolding part_touches
  same_part_touches l b u v absent = refl
  same_part_touches l b u v (present p) = λ i.
      eqb (same.locations b v i) l && touches (like.same_n i) (like.same_invariant l u i) (same.rates l u i) p (same.boxes b v i)

  pub same_touching : touching m t ≡ touching m' t'
  unfolding touching
  same_touching =
      any_ext (L# m) (λ l. any_below (suc (pieces m l)) (λ p. any_below (B# m) (λ b. part_touches m l b (part_of m t l p)))) (λ l. any_below (suc (pieces m' l)) (λ p. any_below (B# m') (λ b. part_touches m' l b (part_of m' t' l p))))
      (λ l u. any_ext (suc (pieces m l)) (λ p. any_below (B# m) (λ b. part_touches m l b (part_of m t l p))) (λ p. any_below (B# m') (λ b. part_touches m' l b (part_of m' t' l p)))
      (λ p v. any_ext (B# m) (λ b. part_touches m l b (part_of m t l p)) (λ b. part_touches m' l b (part_of m' t' l p))
      (λ b w. same_part_touches l b u w (part_of m t l p) ∙ ap (part_touches m' l b) (same_parts l p u v))
      ∙ ap (λ (k : ℕ). any_below k (λ b. part_touches m' l b (part_of m' t' l p))) same.same_B)
      ∙ ap (λ (k : ℕ). any_below (suc k) (λ p. any_below (B# m') (λ b. part_touches m' l b (part_of m' t' l p)))) (same_pieces m m' like l u))
      ∙ ap (λ (k : ℕ). any_below k (λ l. any_below (suc (pieces m' l)) (λ p. any_below (B# m') (λ b. part_touches m' l b (part_of m' t' l p))))) like.same_L
