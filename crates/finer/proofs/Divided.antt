-- A model with further cuts: the first is wider in the sense of growth, each piece of the second belonging to one of the first's. And
-- the first's table, divided, lies inside it.
use Rattle.std.specs.Prelude.{Option, Some, None}
use mathlib.Core.Path.{◌≡◌, refl, sym, ap, ◌∙◌, subst, subst₃}
use mathlib.Core.Logic.{◌⊎◌, inl, inr, ⊎_elim}
use mathlib.Core.List.{List}
use Prim.Native.Nat.{ℕ, ◌*◌, ◌/◌, ◌%◌, ◌<◌, ◌≤◌}
use native.Mathlib.Omega.{arith}
use lib.IntN.{ℤ}
use Rattle.plant.specs.Box.{Inside, Face, absent, present, FaceIn}
use Rattle.plant.specs.declared.Cut.{Cut}
use Rattle.plant.specs.Model.{n#, L#, E#, B#, invariant, rate, guard, reset, forbidden_box, uncut, cut_by, cut_at, cut_of, variable_of, side_of, wall, face_wall}
use Rattle.plant.specs.Narrower.{SwitchWithin, BoxWithin}
use Rattle.plant.specs.Pieces.{extent_by, cut_to_extent, pieces_per_face, per_face, pieces, piece_face, piece_index, piece_variable, piece_wall, piece_extent}
use Rattle.plant.specs.Tables.{piece_of, to_piece}
use Rattle.plant.proofs.Boxes.{inside_refl, face_eq, face_trans, all_map}
use Rattle.plant.proofs.Passed.{Passed}
use Rattle.plant.proofs.WallStep.{OnWall}
use Rattle.plant.proofs.Pieces.{face_below, extent_inside, extent_range}
use Rattle.plant.proofs.Tables.{OkBox, OkFace, Valid, Begins, begins_itself, piece_read, ends, ends_in, made_valid}
use Rattle.plant.proofs.Records as records
use Rattle.plant.proofs.Growth.{Wider, PiecesIn}
use Rattle.plant.proofs.Keeps.{to_piece_ok}
use Rattle.finer.specs.Finer.{Finer, undivided_by, undivided, divided}

-- what is cut to a piece is the greatest face inside it that passes 32 there
module _ (m : List ℤ) (l q : ℕ) where
  cut_inside : (g : Face) → FaceIn (n# m) (to_piece m l q g) g
  unfolding to_piece
  cut_inside absent = tt
  cut_inside (present b) = extent_inside (n# m) (piece_extent m l q) b

  pub cut_greatest : (f g : Face) → OkFace m l q f → FaceIn (n# m) f g → FaceIn (n# m) f (to_piece m l q g)
  unfolding to_piece
  cut_greatest absent g h p = tt
  cut_greatest (present a) absent h p = absurd p
  cut_greatest (present a) (present b) h p = extent_range (n# m) (piece_extent m l q) a b h.wall.ordered h.keeps p

-- the pieces of a divided table
abbrev pub cut_piece : (second first t : List ℤ) (l q : ℕ) → Face
cut_piece second first t l q = to_piece second l q (piece_of first t l (undivided second first l q))

pub divided_begins : (second first t : List ℤ) → Begins second (divided second first t) (cut_piece second first t)
unfolding divided
divided_begins second first t = begins_itself second (cut_piece second first t)

module _ (second first : List ℤ) (into : Finer second first) where
  abbrev k : ℕ
  k = cut_at first 0

  pub far : cut_at first 0 ≤ k
  far = omega arith

  pub same_n : n# second ≡ n# first
  same_n = records.n_same second first k into.same_words far

  pub same_L : L# second ≡ L# first
  same_L = records.L_same second first k into.same_words far

  pub same_invariant : (l : ℕ) → l < L# first → invariant second l ≡ invariant first l
  same_invariant = records.invariant_same second first k into.same_words far

  pub in_first : {l : ℕ} → l < L# second → l < L# first
  in_first {l} u = subst (λ (x : ℕ). l < x) same_L u

  -- ---- piece q of location l belongs to a whole face of the first, or to the same piece

  module _ (l q : ℕ) where
    abbrev whole : ℕ
    whole = undivided second first l q

    abbrev OfFace : Type 0
    OfFace = (cut_of first l ≡ uncut) × (whole ≡ piece_face second l q)

    abbrev SamePiece : Type 0
    SamePiece = (cut_of second l ≡ cut_of first l) × (whole ≡ q)

    one_of : l < L# second → OfFace ⊎ SamePiece
    unfolding undivided
    one_of u = ⊎_elim (λ e. inl (e, ap (λ (c : Option Cut). undivided_by c (piece_face second l q) q) e)) (λ e. by (cut_of first l) refl e) (into.cuts l (in_first u))
      where
        by : (c : Option Cut) → cut_of first l ≡ c → cut_of second l ≡ cut_of first l → OfFace ⊎ SamePiece
        by None f e = inl (f, ap (λ (c : Option Cut). undivided_by c (piece_face second l q) q) f)
        by (Some cut) f e = inr (e, ap (λ (c : Option Cut). undivided_by c (piece_face second l q) q) f)

    pub is_piece : l < L# second → q < pieces second l → whole < pieces first l
    unfolding pieces per_face pieces_per_face
    is_piece u v = ⊎_elim
        (λ s. subst (λ (x : ℕ). x < pieces first l) (sym s.1) (subst (λ (c : Option Cut). piece_face second l q < 2 * n# first * pieces_per_face c) (sym s.0) (omega (arith, face_below second l q v, same_n))))
        (λ s. subst (λ (x : ℕ). x < pieces first l) (sym s.1) (subst (λ (x : ℕ). q < x) (λ i. 2 * same_n i * pieces_per_face (s.0 i)) v))
        (one_of u)

    pub same_face : l < L# second → piece_face second l q ≡ piece_face first l whole
    unfolding piece_face per_face pieces_per_face
    same_face u = ⊎_elim
        (λ s. sym ((λ i. s.1 i / pieces_per_face (s.0 i)) ∙ omega arith))
        (λ s. λ i. sym s.1 i / pieces_per_face (s.0 i))
        (one_of u)

    pub sides : l < L# second → (b : List ℤ) → FaceIn (n# second) (cut_to_extent (n# second) (piece_extent second l q) b) (cut_to_extent (n# first) (piece_extent first l whole) b)
    unfolding piece_extent piece_variable piece_face piece_index per_face extent_by cut_to_extent
    sides u b = ⊎_elim
        (λ s. subst (λ (c : Option Cut). FaceIn (n# second) (cut_to_extent (n# second) (piece_extent second l q) b) (cut_to_extent (n# first) (extent_by c (piece_variable first l whole) (piece_index first l whole)) b)) (sym s.0) (extent_inside (n# second) (piece_extent second l q) b))
        (λ s. face_eq (n# second) (λ i. cut_to_extent (same_n i) (extent_by (s.0 i) (variable_of (sym s.1 i / pieces_per_face (s.0 i))) (sym s.1 i % pieces_per_face (s.0 i))) b))
        (one_of u)

  -- ---- the first is as wide as the second

  abbrev pub wider : Wider second first
  wider = record {
    same_n = same_n;
    same_L = same_L;
    same_invariant = λ l u. same_invariant l (in_first u);
    rates = λ l u. subst (Inside (n# second) (rate second l)) (records.rate_same second first k into.same_words far l (in_first u)) (inside_refl (n# second) (rate second l));
    starts = λ l u. face_eq (n# second) (records.start_part_same second first k into.same_words far l (in_first u));
    switches = switches;
    forbidden = forbidden;
    piece = undivided second first;
    is_piece = is_piece;
    same_face = same_face;
    sides = sides;
  }
    where
      switches : (e : ℕ) → e < E# second → SwitchWithin second first e
      switches e u =
          let v : e < E# first = subst (λ (x : ℕ). e < x) (records.E_same second first k into.same_words far) u in
          record {
            number = e;
            is_number = v;
            same_source = records.source_same second first k into.same_words far e v;
            same_target = records.target_same second first k into.same_words far e v;
            same_variable = records.variable_same second first k into.same_words far e v;
            same_source_side = records.source_side_same second first k into.same_words far e v;
            same_target_side = records.target_side_same second first k into.same_words far e v;
            same_mask = records.mask_same second first k into.same_words far e v;
            guards = subst (Inside (n# second) (guard second e)) (records.guard_same second first k into.same_words far e v) (inside_refl (n# second) (guard second e));
            resets = subst (Inside (n# second) (reset second e)) (records.reset_same second first k into.same_words far e v) (inside_refl (n# second) (reset second e));
          }

      forbidden : (b : ℕ) → b < B# second → BoxWithin second first b
      forbidden b u =
          let v : b < B# first = subst (λ (x : ℕ). b < x) (records.B_same second first k into.same_words far) u in
          record {
            number = b;
            is_number = v;
            same_location = records.forbidden_location_same second first k into.same_words far b v;
            boxes = subst (Inside (n# second) (forbidden_box second b)) (records.forbidden_box_same second first k into.same_words far b v) (inside_refl (n# second) (forbidden_box second b));
          }

  -- ---- a table of the first, divided

  module _ (ok : Passed second) (t : List ℤ) (good : Valid first t) where
    -- a piece of the first lies on the wall of its face; cut to a side, it passes 32 for the second
    on_wall_lem : (l q : ℕ) → l < L# second → q < pieces second l → (b : List ℤ) → OkBox first l (undivided second first l q) b
        → OnWall (n# second) (invariant second l) (piece_variable second l q) (piece_wall second l q) b
    unfolding piece_variable piece_wall face_wall
    on_wall_lem l q u v b h = subst₃ (λ (n : ℕ) (inv : List ℤ) (f : ℕ). OnWall n inv (variable_of f) (wall inv (variable_of f) (side_of f)) b)
        (sym same_n) (sym (same_invariant l (in_first u))) (sym (same_face l q u)) h.wall

    pub divided_ok : (l q : ℕ) → l < L# second → q < pieces second l → OkFace second l q (cut_piece second first t l q)
    divided_ok l q u v = to_piece_ok second ok l q u v (piece_of first t l (undivided second first l q))
        (all_map (OkBox first l (undivided second first l q)) _ (piece_of first t l (undivided second first l q)) (on_wall_lem l q u v) (good.valid l (undivided second first l q) (in_first u) (is_piece l q u v)))

    pub divided_valid : Valid second (divided second first t)
    divided_valid = made_valid second ok (divided second first t) (cut_piece second first t) (divided_begins second first t) divided_ok

    -- it lies inside the table
    pub divided_in : PiecesIn second first wider (divided second first t) t
    divided_in = record {
      each = λ l q u v.
          subst (λ (g : Face). FaceIn (n# second) g (piece_of first t l (undivided second first l q))) (sym (piece_read second (divided second first t) (cut_piece second first t) (divided_begins second first t) l q u v))
          (face_trans (n# second) (ends (n# second) (cut_piece second first t l q)) (cut_piece second first t l q) (piece_of first t l (undivided second first l q))
          (ends_in (n# second) (cut_piece second first t l q)) (cut_inside second l q (piece_of first t l (undivided second first l q))));
    }
