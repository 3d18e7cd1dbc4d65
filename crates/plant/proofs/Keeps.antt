-- What a pass makes passes 32: each wall step and each switch step lies ordered in the invariant and on its wall, a cut to an
-- extent keeps to it, and the smallest box that holds two such boxes does.
use mathlib.Core.Path.{◌≡◌, refl, sym, ap, ◌∙◌, subst}
use mathlib.Core.Bool.{true, ◌&&◌}
use mathlib.Core.List.{List}
use Prim.Native.Nat.{ℕ, zero, suc, ◌/◌, ◌%◌, ◌<◌}
use native.Mathlib.Omega.{arith}
use lib.Dec.{T, eqb, eqb→eq}
use lib.IntN.{ℤ}
use lib.ListN.{length, take}
use lib.Seq.{take_all}
use Rattle.integers.specs.Words.{onto}
use Rattle.integers.proofs.Tests.{by_test, is_true, and_yes}
use Rattle.plant.specs.Box.{Face, absent, on_box}
use Rattle.plant.specs.Model.{n#, L#, E#, invariant, rate, source, target, wall_variable, target_side, reset_mask, guard, reset, wall, variable_of, side_of, face_wall}
use Rattle.plant.specs.Questions.{source_wall, target_wall}
use Rattle.plant.specs.Pieces.{cut_to_extent, pieces, piece_face, piece_variable, piece_wall, piece_extent}
use Rattle.plant.specs.Tables.{table_size, table_by, piece_of, table_ok, part_of, to_piece, wall_step_at, wall_from, source_piece, target_face, switch_step_at, switch_onto, new_piece, pass, table_after}
use Rattle.plant.proofs.Boxes.{FaceAll, on_box_keeps, on_box_all}
use Rattle.plant.proofs.Passed.{Passed, SwitchPassed}
use Rattle.plant.proofs.WallStep.{OnWall, wall_ok}
use Rattle.plant.proofs.SwitchStep.{switch_ok}
use Rattle.plant.proofs.Pieces.{variable_below, extent_ok, hull_on_piece, extent_of}
use Rattle.plant.proofs.Tables.{OkBox, OkFace, Valid, Begins, begins_itself, begins_onto, begins_again, table_length, made_valid, made_ok}
use Rattle.plant.proofs.Growth.{new_all}

module _ (m : List ℤ) (ok : Passed m) where
  -- what lies on the wall of a piece's face, cut to the piece
  pub to_piece_ok : (l q : ℕ) → l < L# m → q < pieces m l → (g : Face) → FaceAll (OnWall (n# m) (invariant m l) (piece_variable m l q) (piece_wall m l q)) g → OkFace m l q (to_piece m l q g)
  unfolding to_piece
  to_piece_ok l q u v g h = on_box_keeps (OnWall (n# m) (invariant m l) (piece_variable m l q) (piece_wall m l q)) (OkBox m l q) (cut_to_extent (n# m) (piece_extent m l q))
      (extent_ok (n# m) (invariant m l) (piece_variable m l q) (piece_wall m l q) (variable_below m l q v) (piece_extent m l q) (extent_of m ok l q u)) g h

  -- a wall step lies on the wall of its face
  wall_from_ok : (t : List ℤ) (l q p : ℕ) → l < L# m → q < pieces m l → OkFace m l q (wall_from m t l q p)
  unfolding wall_from wall_step_at piece_variable piece_wall
  wall_from_ok t l q p u v = to_piece_ok l q u v (on_box (part_of m t l p) (wall_step_at m l (piece_face m l q)))
      (on_box_all (OnWall (n# m) (invariant m l) (piece_variable m l q) (piece_wall m l q)) (wall_step_at m l (piece_face m l q))
      (λ b. wall_ok (n# m) (invariant m l) (rate m l) b (piece_variable m l q) (piece_wall m l q) (variable_below m l q v)) (part_of m t l p))

  -- a switch step lies on the wall of the face on which it lands
  switch_step_ok : (e : ℕ) → e < E# m → (g : Face) → FaceAll (OnWall (n# m) (invariant m (target m e)) (variable_of (target_face m e)) (face_wall m (target m e) (target_face m e))) (switch_step_at m e g)
  unfolding switch_step_at face_wall target_wall
  switch_step_ok e u g =
      subst (λ (d : ℕ). FaceAll (OnWall (n# m) inv d (wall inv d (side_of (target_face m e)))) (switch_step_at m e g)) (sym half)
      (subst (λ (x : ℕ). FaceAll (OnWall (n# m) inv (wall_variable m e) (wall inv (wall_variable m e) x)) (switch_step_at m e g)) (sym side)
      (switch_ok (n# m) (reset_mask m e) (guard m e) (reset m e) inv (wall_variable m e) (source_wall m e) (target_wall m e) s.variable_is s.guard_low s.guard_high s.single_wall s.lands g))
    where
      inv : List ℤ
      inv = invariant m (target m e)

      s : SwitchPassed m e
      s = ok.of_switch e u

      half : target_face m e / 2 ≡ wall_variable m e
      half = omega (arith, s.target_side_is)

      side : target_face m e % 2 ≡ target_side m e
      side = omega (arith, s.target_side_is)

  pub switch_onto_ok : (t : List ℤ) (l q e k : ℕ) → l < L# m → q < pieces m l → e < E# m → OkFace m l q (switch_onto m t l q e k)
  unfolding switch_onto piece_variable piece_wall
  switch_onto_ok t l q e k u v w = by_test (OkFace m l q) (eqb (target m e) l && eqb (target_face m e) (piece_face m l q)) lands (λ _. tt)
    where
      stepped : Face
      stepped = switch_step_at m e (piece_of m t (source m e) (source_piece m e k))

      lands : T (eqb (target m e) l && eqb (target_face m e) (piece_face m l q)) → OkFace m l q (to_piece m l q stepped)
      lands h =
          let p : T (eqb (target m e) l) × T (eqb (target_face m e) (piece_face m l q)) = and_yes (eqb (target m e) l) (eqb (target_face m e) (piece_face m l q)) h in
          to_piece_ok l q u v stepped
          (subst (λ (f : ℕ). FaceAll (OnWall (n# m) (invariant m l) (variable_of f) (face_wall m l f)) stepped) (eqb→eq (target_face m e) (piece_face m l q) p.1)
          (subst (λ (x : ℕ). FaceAll (OnWall (n# m) (invariant m x) (variable_of (target_face m e)) (face_wall m x (target_face m e))) stepped) (eqb→eq (target m e) l p.0)
          (switch_step_ok e w (piece_of m t (source m e) (source_piece m e k)))))

  -- a piece after a pass
  pub new_ok : (t : List ℤ) → Valid m t → (l q : ℕ) → l < L# m → q < pieces m l → OkFace m l q (new_piece m t l q)
  new_ok t good l q u v = new_all m t l q (OkBox m l q)
      (hull_on_piece (n# m) (invariant m l) (piece_variable m l q) (piece_wall m l q) (variable_below m l q v) (piece_extent m l q) (extent_of m ok l q u))
      (good.valid l q u v) (λ p w. wall_from_ok t l q p u v) (λ e k w x. switch_onto_ok t l q e k u v w)

  pub pass_valid : (t : List ℤ) → Valid m t → Valid m (pass m t)
  unfolding pass
  pass_valid t good = made_valid m ok (pass m t) (new_piece m t) (begins_itself m (new_piece m t)) (new_ok t good)

-- ---- the tables of the passes

-- the pieces of which table k is made
abbrev pub pieces_after : List ℤ → ℕ → ℕ → ℕ → Face
pieces_after m zero l q = absent
pieces_after m (suc k) l q = new_piece m (table_after m k) l q

pub after_made : (m : List ℤ) (k : ℕ) → table_after m k ≡ table_by m (pieces_after m k)
unfolding table_after pass
after_made m zero = refl
after_made m (suc k) = refl

pub after_pass : (m : List ℤ) (k : ℕ) → pass m (table_after m k) ≡ table_after m (suc k)
unfolding table_after
after_pass m k = refl

module _ (m : List ℤ) where
  pub after_length : (k : ℕ) → length (table_after m k) ≡ table_size m
  after_length k = ap length (after_made m k) ∙ table_length m (pieces_after m k)

  -- table k, and with words put behind it
  pub after_begins : (k : ℕ) → Begins m (table_after m k) (pieces_after m k)
  after_begins k = ap (take (table_size m)) (after_made m k) ∙ begins_itself m (pieces_after m k)

  pub onto_begins : (k : ℕ) (s : List ℤ) → Begins m (onto (table_after m k) s) (pieces_after m k)
  onto_begins k s = ap (λ (t : List ℤ). take (table_size m) (onto t s)) (after_made m k) ∙ begins_onto m (pieces_after m k) s

  -- it is made of the pieces that are read of it
  pub after_again : (k : ℕ) → table_after m k ≡ table_by m (piece_of m (table_after m k))
  after_again k =
      sym (take_all (table_size m) (table_after m k) (omega (arith, after_length k)))
      ∙ begins_again m (table_after m k) (pieces_after m k) (after_begins k)

-- table k passes 32
module _ (m : List ℤ) (ok : Passed m) where
  pub after_valid : (k : ℕ) → Valid m (table_after m k)
  after_valid zero = made_valid m ok (table_after m zero) (pieces_after m zero) (after_begins m zero) (λ l q u v. tt)
  after_valid (suc k) = made_valid m ok (table_after m (suc k)) (pieces_after m (suc k)) (after_begins m (suc k)) (new_ok m ok (table_after m k) (after_valid k))

  pub pieces_ok : (k l q : ℕ) → l < L# m → q < pieces m l → OkFace m l q (pieces_after m k l q)
  pieces_ok zero l q u v = tt
  pieces_ok (suc k) l q u v = new_ok m ok (table_after m k) (after_valid k) l q u v

  pub after_ok : (k : ℕ) → table_ok m (table_after m k) ≡ true
  after_ok k = is_true (made_ok m ok (table_after m k) (pieces_after m k) (after_begins m k) (pieces_ok k))
