-- The size of a table, present pieces and the widths of their boxes: a pass that changes a table that passes 32 raises it, and
-- it never exceeds the ceiling.
use mathlib.Core.Path.{◌≡◌, refl, sym, ap, ◌∙◌, subst}
use mathlib.Core.Bool.{Bool, true, false, not, cond}
use mathlib.Core.List.{List, ◌∷◌}
use Prim.Native.Nat.{ℕ, suc, ◌<◌, ◌≤◌}
use native.Mathlib.Omega.{arith}
use lib.Dec.{T, eqb, eqb→eq}
use lib.IntN.{ℤ, pos, negsuc, nat_abs, ◌-ℤ◌}
use lib.Signed.{◌≤ℤ◌}
use Rattle.integers.specs.Counted.{sum_below}
use Rattle.integers.proofs.Parts.{arith_z, #◌, ◌⊟◌}
use Rattle.integers.proofs.Tests.{by_test₂, is_false}
use Rattle.integers.proofs.Counted.{sum_le, sum_back}
use Rattle.plant.specs.Box.{low, high, Ordered, Inside, Face, absent, present, face_words, FaceIn}
use Rattle.plant.specs.Model.{n#, L#, invariant}
use Rattle.plant.specs.Pieces.{pieces, piece_variable, piece_extent, piece_range}
use Rattle.plant.specs.Tables.{piece_of, new_piece, pass, table_after, width, other_widths, face_count, ceiling_by_pieces}
use Rattle.plant.proofs.Boxes.{FaceAll, box_ext, face_trans, all_map}
use Rattle.plant.proofs.Passed.{Passed}
use Rattle.plant.proofs.Pieces.{extent_range}
use Rattle.plant.proofs.Tables.{OkBox, OkFace, Valid, ends, in_ends, begins_itself, piece_read, table_ext}
use Rattle.plant.proofs.Growth.{TableIn, grows}
use Rattle.plant.proofs.Keeps.{pass_valid, after_valid, after_again}

-- ---- widths

abs_mono : (y z : ℤ) → pos 0 ≤ℤ y → y ≤ℤ z → nat_abs y ≤ nat_abs z
abs_mono (pos y) (pos z) p q = omega arith_z
abs_mono (pos y) (negsuc z) p q = absurd (omega arith_z)
abs_mono (negsuc y) z p q = absurd (omega arith_z)

abs_back : (y z : ℤ) → pos 0 ≤ℤ y → pos 0 ≤ℤ z → nat_abs z ≤ nat_abs y → z ≤ℤ y
abs_back (pos y) (pos z) p q h = omega arith_z
abs_back (pos y) (negsuc z) p q h = absurd (omega arith_z)
abs_back (negsuc y) z p q h = absurd (omega arith_z)

-- [a, b] is no wider than [c, d] that holds it, and as wide only if it is the same
module _ (a b c d : ℤ) (ordered : a ≤ℤ b) (lower : c ≤ℤ a) (higher : b ≤ℤ d) where
  width_mono : nat_abs (b -ℤ a) ≤ nat_abs (d -ℤ c)
  width_mono = abs_mono (b -ℤ a) (d -ℤ c) (omega (arith_z, # b ⊟ # a)) (omega (arith_z, # b ⊟ # a, # d ⊟ # c))

  width_back : nat_abs (d -ℤ c) ≤ nat_abs (b -ℤ a) → (c ≡ a) × (d ≡ b)
  width_back h =
      let k : (d -ℤ c) ≤ℤ (b -ℤ a) = abs_back (b -ℤ a) (d -ℤ c) (omega (arith_z, # b ⊟ # a)) (omega (arith_z, # d ⊟ # c)) h in
      (omega (arith_z, # b ⊟ # a, # d ⊟ # c), omega (arith_z, # b ⊟ # a, # d ⊟ # c))

module _ (n d : ℕ) (a b : List ℤ) (o : Ordered n a) (p : Inside n a b) where
  abbrev width_but : List ℤ → ℕ → ℕ
  width_but x i = cond (eqb i d) 0 (width x i)

  each_width : (i : ℕ) → i < n → width_but a i ≤ width_but b i
  unfolding width
  each_width i u = by_test₂ ◌≤◌ (eqb i d) (λ _. omega arith) (λ _. width_mono (low a i) (high a i) (low b i) (high b i) (o i u) (p.lower i u) (p.higher i u))

  widths_mono : other_widths n d a ≤ other_widths n d b
  unfolding other_widths
  widths_mono = sum_le n (width_but a) (width_but b) each_width

  -- no wider, so the same ends, but for d
  widths_back : other_widths n d b ≤ other_widths n d a → (i : ℕ) → i < n → T (not (eqb i d)) → (low b i ≡ low a i) × (high b i ≡ high a i)
  unfolding other_widths width
  widths_back h i u k =
      width_back (low a i) (high a i) (low b i) (high b i) (o i u) (p.lower i u) (p.higher i u)
      (subst (λ (z : Bool). cond z 0 (nat_abs (high b i -ℤ low b i)) ≤ cond z 0 (nat_abs (high a i -ℤ low a i))) (is_false {b = eqb i d} k)
      (sum_back n (width_but a) (width_but b) each_width h i u))

-- ---- pieces

module _ (m : List ℤ) (l q : ℕ) where
  -- present pieces and widths of a piece
  abbrev count : Face → ℕ
  count g = face_count (n# m) (piece_variable m l q) g

  count_mono : (g h : Face) → FaceAll (Ordered (n# m)) g → FaceIn (n# m) g h → count g ≤ count h
  unfolding face_count
  count_mono absent h p r = omega arith
  count_mono (present a) absent p r = absurd r
  count_mono (present a) (present b) p r = omega (arith, widths_mono (n# m) (piece_variable m l q) a b p r)

  ok_ordered : (g : Face) → OkFace m l q g → FaceAll (Ordered (n# m)) g
  ok_ordered g p = all_map (OkBox m l q) (Ordered (n# m)) g (λ b k. k.wall.ordered) p

  -- a piece lies in its range
  in_range : (g : Face) → OkFace m l q g → FaceIn (n# m) g (piece_range m l q)
  unfolding piece_range
  in_range absent p = tt
  in_range (present a) p = extent_range (n# m) (piece_extent m l q) a (invariant m l) p.wall.ordered p.keeps p.wall.inside

  count_ceiling : (g : Face) → OkFace m l q g → count g ≤ count (piece_range m l q)
  count_ceiling g p = count_mono g (piece_range m l q) (ok_ordered g p) (in_range g p)

  -- no larger, so the same words
  count_back : (g h : Face) → OkFace m l q g → OkFace m l q h → FaceIn (n# m) g h → count h ≤ count g → face_words (n# m) h ≡ face_words (n# m) g
  unfolding face_words face_count
  count_back absent absent p r i s = refl
  count_back absent (present b) p r i s = absurd (omega arith)
  count_back (present a) absent p r i s = absurd i
  count_back (present a) (present b) p r i s = ap (λ (w : List ℤ). pos 1 ∷ w) (box_ext (n# m) (low b) (high b) (low a) (high a) (λ j u. (both j u).0) (λ j u. (both j u).1))
    where
      d : ℕ
      d = piece_variable m l q

      cases : (j : ℕ) → j < n# m → (t : Bool) → eqb j d ≡ t → (low b j ≡ low a j) × (high b j ≡ high a j)
      cases j u true e =
          let k : j ≡ d = eqb→eq j d (subst T (sym e) tt) in
          subst (λ (x : ℕ). (low b x ≡ low a x) × (high b x ≡ high a x)) (sym k) (r.wall.on_low ∙ sym p.wall.on_low, r.wall.on_high ∙ sym p.wall.on_high)
      cases j u false e = widths_back (n# m) d a b p.wall.ordered i (omega arith) j u (subst (λ (x : Bool). T (not x)) (sym e) tt)

      both : (j : ℕ) → j < n# m → (low b j ≡ low a j) × (high b j ≡ high a j)
      both j u = cases j u (eqb j d) refl

-- ---- tables

-- of piece q of location l; of a location; of the table
abbrev piece_sum : List ℤ → List ℤ → ℕ → ℕ → ℕ
piece_sum m t l q = face_count (n# m) (piece_variable m l q) (piece_of m t l q)

abbrev location_sum : List ℤ → List ℤ → ℕ → ℕ
location_sum m t l = sum_below (pieces m l) (piece_sum m t l)

unfoldable pub size : List ℤ → List ℤ → ℕ
size m t = sum_below (L# m) (location_sum m t)

pub size_le_ceiling : (m t : List ℤ) → Valid m t → size m t ≤ ceiling_by_pieces m
unfolding size ceiling_by_pieces
size_le_ceiling m t good = sum_le (L# m) (location_sum m t) _ (λ l u. sum_le (pieces m l) (piece_sum m t l) _ (λ q v. count_ceiling m l q (piece_of m t l q) (good.valid l q u v)))

-- a pass only adds
pub pass_grows : (m t : List ℤ) → TableIn m t (pass m t)
unfolding pass
pass_grows m t = record {
  each = λ l q u v. subst (FaceIn (n# m) (piece_of m t l q)) (sym (piece_read m (pass m t) (new_piece m t) (begins_itself m (new_piece m t)) l q u v))
      (face_trans (n# m) (piece_of m t l q) (new_piece m t l q) (ends (n# m) (new_piece m t l q)) (grows m t l q) (in_ends (n# m) (new_piece m t l q)));
}

module _ (m : List ℤ) (ok : Passed m) (t : List ℤ) (good : Valid m t) where
  piece_le : (l q : ℕ) → l < L# m → q < pieces m l → piece_sum m t l q ≤ piece_sum m (pass m t) l q
  piece_le l q u v = count_mono m l q (piece_of m t l q) (piece_of m (pass m t) l q) (ok_ordered m l q (piece_of m t l q) (good.valid l q u v)) ((pass_grows m t).each l q u v)

  location_le : (l : ℕ) → l < L# m → location_sum m t l ≤ location_sum m (pass m t) l
  location_le l u = sum_le (pieces m l) (piece_sum m t l) (piece_sum m (pass m t) l) (λ q v. piece_le l q u v)

  -- a pass that does not raise the size leaves every piece's words
  pub size_same : size m (pass m t) ≤ size m t → (l q : ℕ) → l < L# m → q < pieces m l → face_words (n# m) (piece_of m (pass m t) l q) ≡ face_words (n# m) (piece_of m t l q)
  unfolding size
  size_same h l q u v = count_back m l q (piece_of m t l q) (piece_of m (pass m t) l q) (good.valid l q u v) ((pass_valid m ok t good).valid l q u v) ((pass_grows m t).each l q u v)
      (sum_back (pieces m l) (piece_sum m t l) (piece_sum m (pass m t) l) (λ q v. piece_le l q u v)
      (sum_back (L# m) (location_sum m t) (location_sum m (pass m t)) location_le h l u) q v)

-- a pass that does not raise the size of table k changes nothing
pub no_growth : (m : List ℤ) → Passed m → (k : ℕ) → size m (table_after m (suc k)) ≤ size m (table_after m k) → table_after m (suc k) ≡ table_after m k
unfolding table_after
no_growth m ok k h =
    after_again m (suc k)
    ∙ table_ext m (piece_of m (table_after m (suc k))) (piece_of m (table_after m k)) (λ l q u v. size_same m ok (table_after m k) (after_valid m ok k) h l q u v)
    ∙ sym (after_again m k)
