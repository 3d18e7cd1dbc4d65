-- The words of a part give the part, and its box, if it is there, lies inside the invariant, that of a start part and that of a
-- piece; so it is one of levels.
use mathlib.Core.Path.{◌≡◌, refl, sym, ap, ap₂, ◌∙◌, subst}
use mathlib.Core.Bool.{Bool, true, false, cond}
use mathlib.Core.Logic.{⊎_elim}
use mathlib.Core.List.{List}
use Prim.Native.Nat.{ℕ, zero, suc, ◌+◌, ◌*◌, ◌/◌, ◌%◌, ◌<◌, ◌≤◌}
use native.Mathlib.Omega.{arith}
use lib.Dec.{T}
use lib.IntN.{ℤ, pos}
use lib.Signed.{◌≤ℤ◌, ≤ℤ_refl}
use lib.ListN.{length, take, drop, length-drop}
use lib.Seq.{length-take-le}
use Rattle.integers.specs.Words.{word, eq_z}
use Rattle.integers.proofs.Tests.{by_test, is_true}
use Rattle.integers.proofs.Counted.{eq_z_eq, eq_z_intro, split}
use Rattle.delays.specs.Ranges.{Levels, Rates, InInvariant}
use Rattle.delays.proofs.Small.{in_levels}
use Rattle.plant.specs.Box.{low, high, Ordered, box_at, cut, Face, absent, present, unless_empty}
use Rattle.plant.specs.Model.{n#, L#, invariant, rate, start_flag, start_box}
use Rattle.plant.specs.Pieces.{pieces}
use Rattle.plant.specs.Tables.{face_size, pieces_before, table_size, piece_at, face_read, piece_of, table_ok, start_part, part_of}
use Rattle.plant.proofs.Boxes.{FaceAll, all_map, length-box_at, length_cut, cut_right}
use Rattle.plant.proofs.Passed.{InRange, Passed}
use Rattle.plant.proofs.StartPart.{start_all}
use Rattle.plant.proofs.Tables.{piece_inside, OkBox, ok_valid}
use Rattle.plant.proofs.Positions.{length-invariant, length-rate, length-start_box}
use Rattle.plant.proofs.Passing.{whole_passed}
use Rattle.passes.specs.Parts.{IsPart}
use Rattle.passes.specs.Joining.{PartOk}
use Rattle.plant.proofs.FaceWords.{read_present, read_absent, face_there}

-- ---- the boxes of a model's records

pub levels_from : (n : ℕ) (b : List ℤ) → length b ≡ 2 * n → InRange (2 * n) 1000000 b → Levels n b
unfolding low high
levels_from n b e h i l = record { there = omega arith; low_in = h (2 * i) (omega arith); high_in = h (2 * i + 1) (omega arith) }

-- a bound of an ordered box lies between the low and the high of its variable
pub between_ends : (n : ℕ) (b : List ℤ) → Ordered n b → (f : ℕ) → f < 2 * n → (low b (f / 2) ≤ℤ word b f) × (word b f ≤ℤ high b (f / 2))
unfolding low high
between_ends n b h f u = ⊎_elim
    (λ v. let e : f ≡ 2 * (f / 2) = omega arith in (subst (λ (k : ℕ). low b (f / 2) ≤ℤ word b k) (sym e) (≤ℤ_refl (low b (f / 2))), subst (λ (k : ℕ). word b k ≤ℤ high b (f / 2)) (sym e) (h (f / 2) (omega arith))))
    (λ v. let e : f ≡ 2 * (f / 2) + 1 = omega arith in (subst (λ (k : ℕ). low b (f / 2) ≤ℤ word b k) (sym e) (h (f / 2) (omega arith)), subst (λ (k : ℕ). word b k ≤ℤ high b (f / 2)) (sym e) (≤ℤ_refl (high b (f / 2)))))
    (split (f % 2) 1 (omega arith))

rates_from : (n : ℕ) (b : List ℤ) → length b ≡ 2 * n → InRange (2 * n) 1000 b → Rates n b
unfolding low high
rates_from n b e h i l = record { there = omega arith; low_in = h (2 * i) (omega arith); high_in = h (2 * i + 1) (omega arith) }

module _ (m : List ℤ) (ok : Passed m) where
  pub invariant_in : (l : ℕ) → l < L# m → Levels (n# m) (invariant m l)
  invariant_in l u = levels_from (n# m) (invariant m l) (length-invariant m (whole_passed m ok) l u) (ok.of_location l u).invariant_levels

  pub rate_in : (l : ℕ) → l < L# m → Rates (n# m) (rate m l)
  rate_in l u = rates_from (n# m) (rate m l) (length-rate m (whole_passed m ok) l u) (ok.of_location l u).rate_range

-- where a piece begins, by what code has: how many pieces stand before its location
pub place_is : (m : List ℤ) (l q : ℕ) {n before at : ℕ} → n ≡ n# m → before ≡ pieces_before m l → at ≡ (before + q) * face_size n → at ≡ piece_at m l q
unfolding piece_at
place_is m l q e b h = h ∙ ap₂ (λ (x n : ℕ). (x + q) * face_size n) b e

-- ---- the words of a part

-- piece q's words, at the place that code has
module _ (m : List ℤ) (l : ℕ) (u : l < L# m) (t : List ℤ) (room : table_size m ≤ length t) (q : ℕ) (v : q < pieces m l) {n at : ℕ} (n_is : n ≡ n# m) (at_is : at ≡ piece_at m l q) where
  pub piece_end : at + face_size n ≤ length t
  piece_end = omega (arith, n_is, at_is, piece_inside m l q u v)

  pub piece_part : {words : List ℤ} → words ≡ take (face_size n) (drop at t) → IsPart (n# m) words (piece_of m t l q)
  unfolding piece_of
  piece_part e = rw (e, at_is, n_is) (record {
    sized = length-take-le (face_size (n# m)) (drop (piece_at m l q) t) (omega (arith, length-drop (piece_at m l q) t, piece_inside m l q u v));
    gives = face_there (n# m) t (piece_at m l q);
  })

module _ (m : List ℤ) (ok : Passed m) (l : ℕ) (u : l < L# m) where
  -- the start box is one of levels, and the start part lies inside the invariant
  pub start_in : Levels (n# m) (start_box m l)
  start_in = levels_from (n# m) (start_box m l) (length-start_box m (whole_passed m ok) l u) (ok.of_location l u).start_levels

  pub start_inside : FaceAll (InInvariant (n# m) (invariant m l)) (start_part m l)
  start_inside = start_all m l (InInvariant (n# m) (invariant m l)) (λ _ o.
      record { sized = length_cut (n# m) (start_box m l) (invariant m l); is_ordered = o; inside = cut_right (n# m) (start_box m l) (invariant m l) })

  module _ (t : List ℤ) (room : table_size m ≤ length t) where
    -- the box of a part lies inside the invariant, and so is one of levels
    piece_within : T (table_ok m t) → (q : ℕ) → q < pieces m l → FaceAll (InInvariant (n# m) (invariant m l)) (piece_of m t l q)
    unfolding piece_of face_read
    piece_within valid q v = by_test (FaceAll (InInvariant (n# m) (invariant m l))) (eq_z (word t (piece_at m l q)) (pos 1)) flagged (λ _. tt)
      where
        there : T (eq_z (word t (piece_at m l q)) (pos 1)) → piece_of m t l q ≡ present (box_at (n# m) t (piece_at m l q + 1))
        there h = ap (λ (b : Bool). cond b (present (box_at (n# m) t (piece_at m l q + 1))) absent) (is_true {b = eq_z (word t (piece_at m l q)) (pos 1)} h)

        flagged : T (eq_z (word t (piece_at m l q)) (pos 1)) → InInvariant (n# m) (invariant m l) (box_at (n# m) t (piece_at m l q + 1))
        flagged h =
            let k : OkBox m l q (box_at (n# m) t (piece_at m l q + 1)) = subst (FaceAll (OkBox m l q)) (there h) ((ok_valid m t valid).valid l q u v) in
            record { sized = length-box_at (n# m) t (piece_at m l q + 1) (omega (arith, piece_inside m l q u v)); is_ordered = k.wall.ordered; inside = k.wall.inside }

    pub part-within : T (table_ok m t) → (p : ℕ) → p ≤ pieces m l → FaceAll (InInvariant (n# m) (invariant m l)) (part_of m t l p)
    unfolding part_of
    part-within valid zero v = start_inside
    part-within valid (suc q) v = piece_within valid q (omega arith)

    pub part_levels : T (table_ok m t) → (p : ℕ) → p ≤ pieces m l → FaceAll (Levels (n# m)) (part_of m t l p)
    part_levels valid p v = all_map (InInvariant (n# m) (invariant m l)) (Levels (n# m)) (part_of m t l p) (λ b. in_levels {n = n# m} {inv = invariant m l} {b = b} (invariant_in m ok l u)) (part-within valid p v)

-- ---- a flag is 1, or not

not_one : {z : ℤ} → (z ≡ pos 1 → ⊥) → eq_z z (pos 1) ≡ false
not_one {z} h = no_test (eq_z z (pos 1)) (λ t. h (eq_z_eq z (pos 1) t))
  where
    no_test : (b : Bool) → (T b → ⊥) → b ≡ false
    no_test true n = absurd (n tt)
    no_test false n = refl

module _ (n : ℕ) (part : List ℤ) where
  pub part_there : word part 0 ≡ pos 1 → face_read n part 0 ≡ present (box_at n part 1)
  part_there e = read_present n part (is_true (eq_z_intro e))

  pub part_gone : (word part 0 ≡ pos 1 → ⊥) → face_read n part 0 ≡ absent
  part_gone e = read_absent n part (not_one e)

module _ (m : List ℤ) (l : ℕ) where
  pub start_there : start_flag m l ≡ pos 1 → start_part m l ≡ unless_empty (n# m) (cut (n# m) (start_box m l) (invariant m l))
  unfolding start_part
  start_there e = rw e refl

  pub start_gone : (start_flag m l ≡ pos 1 → ⊥) → start_part m l ≡ absent
  unfolding start_part
  start_gone e = rw (not_one e) refl

-- words that give a part whose box has P
pub is_part_ok : (n : ℕ) (P : List ℤ → Type 0) (words : List ℤ) (part : Face) → IsPart n words part → FaceAll P part → PartOk n P words
is_part_ok n P words part p h = record {
  sized = p.sized;
  has = λ e. subst (FaceAll P) (sym p.gives ∙ part_there n words e) h;
}
