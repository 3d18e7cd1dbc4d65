-- A table read back: where its words stand, which faces they give, and what 32 says of them. Everything that a table's layout
-- needs of the sizes is one law, `words_before`.
use mathlib.Core.Path.{◌≡◌, refl, sym, ap, ap₂, ◌∙◌, subst}
use mathlib.Core.Bool.{cond, ◌&&◌, ◌||◌}
use mathlib.Core.Logic.{⊎_elim}
use mathlib.Core.List.{List, [], ◌∷◌}
use Prim.Native.Nat.{ℕ, suc, ◌+◌, ◌*◌, ◌<◌, ◌≤◌}
use native.Mathlib.Nat.{mul-le-mul_right, mul-le-mul_left}
use native.Mathlib.Omega.{arith}
use lib.Dec.{T}
use lib.IntN.{ℤ, pos}
use lib.Signed.{le_z}
use lib.ListN.{length, take, drop, get_or-replicate, length-take, length-drop}
use lib.Seq.{get_or-take, get_or-drop, drop-drop, length-take-le, take_all, take-nil, take_at, ext_get_or}
use Rattle.integers.specs.Words.{word, eq_z, onto}
use Rattle.integers.specs.Counted.{cat, all_below, sum_below}
use Rattle.integers.proofs.Tests.{by_test, and_yes, and_intro, or_yes, or_intro}
use Rattle.integers.proofs.Counted.{all_yes, all_intro, or_right, sum_le, sum_same, sum_part, sum_times, sum_ext, cat_at, cat_at_sum, eq_z_eq, eq_z_intro}
use Rattle.integers.proofs.Buffers.{length-cat, length_cat_sum, cat_ext}
use Rattle.plant.specs.Box.{low, high, box_by, box_at, Ordered, Inside, Face, absent, present, face_words, FaceIn}
use Rattle.plant.specs.Model.{n#, L#, invariant, cut_by, cut_of, face_number}
use Rattle.plant.specs.Questions.{inside_ok, zeros_ok}
use Rattle.plant.specs.Meaning.{ExtentOf}
use Rattle.plant.specs.Pieces.{Extent, no_extent, keeps_to, per_face, pieces, piece_number, piece_variable, piece_wall, piece_extent}
use Rattle.plant.specs.Tables.{face_size, words_per_location, pieces_before, piece_count, table_size, piece_at, table_by, face_read, piece_of, on_wall, absent_ok, present_ok, piece_ok, table_ok}
use Rattle.plant.proofs.Boxes.{low-box_by, high-box_by, box_ext, length_face, FaceAll, inside_ends, ends_inside}
use Rattle.plant.proofs.Passed.{Passed, inside_ordered, inside_is}
use Rattle.plant.proofs.WallStep.{OnWall}
use Rattle.plant.proofs.Pieces.{per_face_most, variable_below, number_below, two_pieces, own_second, keeps_yes, keeps_intro, ends_keep, OnPiece, extent_of}

-- ---- where pieces stand

-- the words of a location are those of its pieces; and of the locations before
abbrev pub location_words : List ℤ → ℕ → ℕ
location_words m l = pieces m l * face_size (n# m)

pub words_before : (m : List ℤ) (l : ℕ) → sum_below l (location_words m) ≡ pieces_before m l * face_size (n# m)
unfolding pieces_before
words_before m l = sum_times l (pieces m) (face_size (n# m))

pub piece_place : (m : List ℤ) (l q : ℕ) → piece_at m l q ≡ pieces_before m l * face_size (n# m) + q * face_size (n# m)
unfolding piece_at
piece_place m l q = omega arith

-- a piece is one of the table's, and its words lie in the table
pub piece_counted : (m : List ℤ) (l q : ℕ) → l < L# m → q < pieces m l → pieces_before m l + q < piece_count m
unfolding piece_count pieces_before
piece_counted m l q u v = omega (arith, sum_part (L# m) (pieces m) l u)

pub piece_inside : (m : List ℤ) (l q : ℕ) → l < L# m → q < pieces m l → piece_at m l q + face_size (n# m) ≤ table_size m
unfolding piece_at table_size
piece_inside m l q u v = omega (arith, mul-le-mul_right (face_size (n# m)) (piece_counted m l q u v))

-- a location has the words of T-04's formula, or twice as many
pub location_words_lem : (m : List ℤ) (l : ℕ) → location_words m l ≡ per_face m l * words_per_location (n# m)
unfolding pieces words_per_location
location_words_lem m l = omega arith

pub table_words : (m : List ℤ) → table_size m ≡ sum_below (L# m) (λ l. per_face m l * words_per_location (n# m))
unfolding table_size piece_count
table_words m = sym (words_before m (L# m)) ∙ sum_ext (L# m) (location_words m) (λ l. per_face m l * words_per_location (n# m)) (λ l u. location_words_lem m l)

-- at most 24 pieces a location, 1,536 in all, of 13 words
pub pieces-most : (m : List ℤ) (l : ℕ) → n# m ≤ 6 → pieces m l ≤ 24
unfolding pieces
pieces-most m l u = omega (arith, mul-le-mul_left (2 * n# m) (per_face_most m l), u)

pub count_most : (m : List ℤ) → n# m ≤ 6 → L# m ≤ 64 → piece_count m ≤ 1536
unfolding piece_count pieces_before
count_most m u v = omega (arith, sum_le (L# m) (pieces m) (λ l. 24) (λ l _. pieces-most m l u), sum_same (L# m) 24, v)

pub table_most : (m : List ℤ) → n# m ≤ 6 → L# m ≤ 64 → table_size m ≤ 19968
unfolding table_size
table_most m u v = omega (arith, mul-le-mul_right (face_size (n# m)) (count_most m u v), u)

-- ---- the words of a face

abbrev pub words_of : List ℤ → List ℤ → ℕ → ℕ → List ℤ
words_of m t l q = take (face_size (n# m)) (drop (piece_at m l q) t)

-- the face with the ends of its box alone
abbrev pub ends : ℕ → Face → Face
ends n absent = absent
ends n (present b) = present (box_by n (low b) (high b))

pub ends_in : (n : ℕ) (f : Face) → FaceIn n (ends n f) f
ends_in n absent = tt
ends_in n (present b) = ends_inside n b

pub in_ends : (n : ℕ) (f : Face) → FaceIn n f (ends n f)
in_ends n absent = tt
in_ends n (present b) = inside_ends n b

-- the words of a box are its ends
pub words_ends : (n : ℕ) (f : Face) → face_words n (ends n f) ≡ face_words n f
unfolding face_words
words_ends n absent = refl
words_ends n (present b) = ap (λ (s : List ℤ). pos 1 ∷ s) (box_ext n (low (box_by n (low b) (high b))) (high (box_by n (low b) (high b))) (low b) (high b) (low-box_by n (low b) (high b)) (high-box_by n (low b) (high b)))

-- the face that its words give: the flag, and the box behind it
abbrev face_from : List ℤ → Face
face_from s = cond (eq_z (word s 0) (pos 1)) (present (drop 1 s)) absent

pub take_behind : (k : ℕ) (s : List ℤ) → take k (drop 1 s) ≡ drop 1 (take (suc k) s)
take_behind k [] = take-nil k
take_behind k (x ∷ xs) = refl

read_from : (n : ℕ) (t : List ℤ) (at : ℕ) → face_read n t at ≡ face_from (take (face_size n) (drop at t))
unfolding face_read box_at
read_from n t at = ap₂ (λ (z : ℤ) (b : List ℤ). cond (eq_z z (pos 1)) (present b) absent) (sym flag) box
  where
    flag : word (take (face_size n) (drop at t)) 0 ≡ word t at
    flag = get_or-take (face_size n) (drop at t) 0 (pos 0) (omega arith) ∙ get_or-drop at t 0 (pos 0) ∙ ap (word t) (omega arith)

    one_more : suc (2 * n) ≡ face_size n
    one_more = omega arith

    box : box_at n t (at + 1) ≡ drop 1 (take (face_size n) (drop at t))
    box = ap (take (2 * n)) (sym (drop-drop 1 at t)) ∙ take_behind (2 * n) (drop at t) ∙ ap (λ (k : ℕ). drop 1 (take k (drop at t))) one_more

from_words : (n : ℕ) (f : Face) → face_from (face_words n f) ≡ ends n f
unfolding face_words
from_words n absent = ap (λ (z : ℤ). cond (eq_z z (pos 1)) (present (drop 1 (face_words n absent))) absent) (get_or-replicate (face_size n) 0 (pos 0) (pos 0) (omega arith))
from_words n (present b) = refl

-- ---- a table made of pieces

module _ (m : List ℤ) (g : ℕ → ℕ → Face) where
  abbrev piece_words : ℕ → ℕ → List ℤ
  piece_words l q = face_words (n# m) (g l q)

  pub location_length : (l : ℕ) → length (cat (pieces m l) (piece_words l)) ≡ location_words m l
  location_length l = length-cat (pieces m l) (face_size (n# m)) (piece_words l) (λ q u. length_face (n# m) (g l q))

  pub table_length : length (table_by m g) ≡ table_size m
  unfolding table_by table_size piece_count
  table_length = length_cat_sum (L# m) (location_words m) (λ l. cat (pieces m l) (piece_words l)) (λ l u. location_length l) ∙ words_before m (L# m)

  -- word j of piece q of location l
  pub table_word : (l q j : ℕ) → l < L# m → q < pieces m l → j < face_size (n# m) → word (table_by m g) (piece_at m l q + j) ≡ word (piece_words l q) j
  unfolding table_by
  table_word l q j u v w =
      ap (word (table_by m g)) place
      ∙ cat_at_sum (L# m) (location_words m) (λ l. cat (pieces m l) (piece_words l)) (λ l u. location_length l) l (q * face_size (n# m) + j) u
      (omega (arith, mul-le-mul_right (face_size (n# m)) v))
      ∙ cat_at (pieces m l) (face_size (n# m)) (piece_words l) (λ q u. length_face (n# m) (g l q)) q j v w
    where
      place : piece_at m l q + j ≡ sum_below l (location_words m) + (q * face_size (n# m) + j)
      place = omega (arith, piece_place m l q, words_before m l)

pub table_ext : (m : List ℤ) (g h : ℕ → ℕ → Face) → ((l q : ℕ) → l < L# m → q < pieces m l → face_words (n# m) (g l q) ≡ face_words (n# m) (h l q)) → table_by m g ≡ table_by m h
unfolding table_by
table_ext m g h e = cat_ext (L# m) (λ l. cat (pieces m l) (λ q. face_words (n# m) (g l q))) (λ l. cat (pieces m l) (λ q. face_words (n# m) (h l q)))
    (λ l u. cat_ext (pieces m l) (λ q. face_words (n# m) (g l q)) (λ q. face_words (n# m) (h l q)) (λ q v. e l q u v))

-- ---- a list of words that begins with the table made of the pieces g; words past the table's length are not part of it

abbrev pub Begins : List ℤ → List ℤ → (ℕ → ℕ → Face) → Type 0
Begins m t g = take (table_size m) t ≡ table_by m g

pub begins_itself : (m : List ℤ) → (g : ℕ → ℕ → Face) → Begins m (table_by m g) g
begins_itself m g = take_all (table_size m) (table_by m g) (omega (arith, table_length m g))

-- with words put behind it
pub begins_onto : (m : List ℤ) → (g : ℕ → ℕ → Face) (s : List ℤ) → Begins m (onto (table_by m g) s) g
unfolding onto
begins_onto m g s = take_at (table_by m g) (drop (length (table_by m g)) s) (table_size m) (table_length m g)

module _ (m : List ℤ) (t : List ℤ) (g : ℕ → ℕ → Face) (begins : Begins m t g) where
  pub long_enough : table_size m ≤ length t
  long_enough = omega (arith, length-take (table_size m) t, ap length begins, table_length m g)

  -- the words of its pieces
  pub piece_words_lem : (l q : ℕ) → l < L# m → q < pieces m l → words_of m t l q ≡ face_words (n# m) (g l q)
  piece_words_lem l q u v = ext_get_or (pos 0) (words_of m t l q) (face_words (n# m) (g l q)) (long ∙ sym (length_face (n# m) (g l q))) each
    where
      long : length (words_of m t l q) ≡ face_size (n# m)
      long = length-take-le (face_size (n# m)) (drop (piece_at m l q) t) (omega (arith, length-drop (piece_at m l q) t, long_enough, piece_inside m l q u v))

      each : (j : ℕ) → j < length (words_of m t l q) → word (words_of m t l q) j ≡ word (face_words (n# m) (g l q)) j
      each j w =
          let k : j < face_size (n# m) = omega (arith, long) in
          get_or-take (face_size (n# m)) (drop (piece_at m l q) t) j (pos 0) k
          ∙ get_or-drop (piece_at m l q) t j (pos 0)
          ∙ sym (get_or-take (table_size m) t (piece_at m l q + j) (pos 0) (omega (arith, piece_inside m l q u v)))
          ∙ ap (λ (s : List ℤ). word s (piece_at m l q + j)) begins
          ∙ table_word m g l q j u v k

  -- its pieces are those that it is made of
  pub piece_read : (l q : ℕ) → l < L# m → q < pieces m l → piece_of m t l q ≡ ends (n# m) (g l q)
  unfolding piece_of
  piece_read l q u v = read_from (n# m) t (piece_at m l q) ∙ ap face_from (piece_words_lem l q u v) ∙ from_words (n# m) (g l q)

  -- and it is made of the pieces read back
  pub begins_again : Begins m t (piece_of m t)
  begins_again = begins ∙ table_ext m g (piece_of m t) (λ l q u v. sym (words_ends (n# m) (g l q)) ∙ ap (face_words (n# m)) (sym (piece_read l q u v)))

-- ---- what 32 asks

-- of the box of piece q of location l; of the piece; of the table
abbrev pub OkBox : List ℤ → ℕ → ℕ → List ℤ → Type 0
OkBox m l q b = OnPiece (n# m) (invariant m l) (piece_variable m l q) (piece_wall m l q) (piece_extent m l q) b

abbrev pub OkFace : List ℤ → ℕ → ℕ → Face → Type 0
OkFace m l q g = FaceAll (OkBox m l q) g

pub record Valid (m t : List ℤ) : Type 0 where
  pub valid : (l q : ℕ) → l < L# m → q < pieces m l → OkFace m l q (piece_of m t l q)

module _ (n : ℕ) (inv : List ℤ) (d : ℕ) (w : ℤ) where
  on_wall_lem : (b : List ℤ) → T (inside_ok n b inv) → T (on_wall b d w) → OnWall n inv d w b
  unfolding on_wall
  on_wall_lem b h k =
      let q : T (eq_z (low b d) w) × T (eq_z (high b d) w) = and_yes (eq_z (low b d) w) (eq_z (high b d) w) k in
      record { ordered = inside_ordered n b inv h; inside = inside_is n b inv h; on_low = eq_z_eq (low b d) w q.0; on_high = eq_z_eq (high b d) w q.1 }

  inside_test : (b : List ℤ) → Ordered n b → Inside n b inv → T (inside_ok n b inv)
  unfolding inside_ok
  inside_test b o p = all_intro n (λ i. le_z (low b i) (high b i) && (le_z (low inv i) (low b i) && le_z (high b i) (high inv i)))
      (λ i l. and_intro (le_z (low b i) (high b i)) (le_z (low inv i) (low b i) && le_z (high b i) (high inv i)) (o i l).le (and_intro (le_z (low inv i) (low b i)) (le_z (high b i) (high inv i)) (p.lower i l).le (p.higher i l).le))

  wall_test : (b : List ℤ) → OnWall n inv d w b → T (on_wall b d w)
  unfolding on_wall
  wall_test b k = and_intro (eq_z (low b d) w) (eq_z (high b d) w) (eq_z_intro k.on_low) (eq_z_intro k.on_high)

  -- the ends of a box alone keep it so
  ends_on_wall : d < n → (b : List ℤ) → OnWall n inv d w b → OnWall n inv d w (box_by n (low b) (high b))
  ends_on_wall u b p = record {
    ordered = λ i v. rw (low-box_by n (low b) (high b) i v, high-box_by n (low b) (high b) i v) (p.ordered i v);
    inside = record {
      lower = λ i v. rw (low-box_by n (low b) (high b) i v) (p.inside.lower i v);
      higher = λ i v. rw (high-box_by n (low b) (high b) i v) (p.inside.higher i v);
    };
    on_low = low-box_by n (low b) (high b) d u ∙ p.on_low;
    on_high = high-box_by n (low b) (high b) d u ∙ p.on_high;
  }

  module _ (extent : Extent) where
    on_piece : (b : List ℤ) → T (inside_ok n b inv && (on_wall b d w && keeps_to extent b)) → OnPiece n inv d w extent b
    on_piece b h =
        let p : T (inside_ok n b inv) × T (on_wall b d w && keeps_to extent b) = and_yes (inside_ok n b inv) (on_wall b d w && keeps_to extent b) h in
        let q : T (on_wall b d w) × T (keeps_to extent b) = and_yes (on_wall b d w) (keeps_to extent b) p.1 in
        record { wall = on_wall_lem b p.0 q.0; keeps = keeps_yes extent b q.1 }

    piece_test : (b : List ℤ) → OnPiece n inv d w extent b → T (inside_ok n b inv && (on_wall b d w && keeps_to extent b))
    piece_test b k = and_intro (inside_ok n b inv) (on_wall b d w && keeps_to extent b) (inside_test b k.wall.ordered k.wall.inside)
        (and_intro (on_wall b d w) (keeps_to extent b) (wall_test b k.wall) (keeps_intro extent b k.keeps))

    ends_on_piece : d < n → ExtentOf n extent → (h : Face) → FaceAll (OnPiece n inv d w extent) h → FaceAll (OnPiece n inv d w extent) (ends n h)
    ends_on_piece u o absent p = tt
    ends_on_piece u o (present b) p = record { wall = ends_on_wall u b p.wall; keeps = ends_keep n extent o b p.keeps }

    -- the words s of a piece that pass give such a piece
    words_valid : (s : List ℤ) → T (absent_ok n s || present_ok n inv d w extent s) → FaceAll (OnPiece n inv d w extent) (face_from s)
    unfolding absent_ok present_ok
    words_valid s h = by_test (FaceAll (OnPiece n inv d w extent)) (eq_z (word s 0) (pos 1)) flagged (λ u. tt)
      where
        flagged : T (eq_z (word s 0) (pos 1)) → OnPiece n inv d w extent (drop 1 s)
        flagged u = ⊎_elim
            (λ v. absurd (subst (λ (z : ℤ). T (eq_z z (pos 0))) (eq_z_eq (word s 0) (pos 1) u) (and_yes (eq_z (word s 0) (pos 0)) (zeros_ok (2 * n) (drop 1 s)) v).0))
            (λ v. on_piece (drop 1 s) (and_yes (eq_z (word s 0) (pos 1)) (inside_ok n (drop 1 s) inv && (on_wall (drop 1 s) d w && keeps_to extent (drop 1 s))) v).1)
            (or_yes (absent_ok n s) (present_ok n inv d w extent s) h)

    -- and the words of such a piece pass
    words_pass : d < n → ExtentOf n extent → (h : Face) → FaceAll (OnPiece n inv d w extent) h → T (absent_ok n (face_words n h) || present_ok n inv d w extent (face_words n h))
    unfolding absent_ok present_ok face_words zeros_ok
    words_pass u o absent p =
        or_intro (absent_ok n (face_words n absent)) (present_ok n inv d w extent (face_words n absent))
        (and_intro (eq_z (word (face_words n absent) 0) (pos 0)) (zeros_ok (2 * n) (drop 1 (face_words n absent)))
        (eq_z_intro (get_or-replicate (face_size n) 0 (pos 0) (pos 0) (omega arith)))
        (all_intro (2 * n) (λ i. eq_z (word (drop 1 (face_words n absent)) i) (pos 0)) (λ i v. eq_z_intro (get_or-drop 1 (face_words n absent) i (pos 0) ∙ get_or-replicate (face_size n) (1 + i) (pos 0) (pos 0) (omega arith)))))
    words_pass u o (present b) p =
        or_right (absent_ok n (face_words n (present b))) (present_ok n inv d w extent (face_words n (present b)))
        (piece_test (box_by n (low b) (high b)) (ends_on_piece u o (present b) p))

pub ok_valid : (m t : List ℤ) → T (table_ok m t) → Valid m t
unfolding table_ok piece_ok piece_of
ok_valid m t h = record {
  valid = λ l q u v. subst (OkFace m l q) (sym (read_from (n# m) t (piece_at m l q)))
      (words_valid (n# m) (invariant m l) (piece_variable m l q) (piece_wall m l q) (piece_extent m l q) (words_of m t l q)
      (all_yes (pieces m l) (piece_ok m t l) (all_yes (L# m) (λ l. all_below (pieces m l) (piece_ok m t l)) h l u) q v));
}

-- so the second piece is absent on the cut variable's own walls (d is the cut's variable, s the side of the wall)
pub second_absent : (m t : List ℤ) → Valid m t → (l d s : ℕ) (x : ℤ) → l < L# m → d < n# m → s ≤ 1 → cut_of m l ≡ cut_by d x → piece_of m t l (piece_number m l (face_number d s) 1) ≡ absent
second_absent m t good l d s x u v w e =
    gone (piece_of m t l q) (subst (λ (y : Extent). FaceAll (OnPiece (n# m) (invariant m l) (piece_variable m l q) (piece_wall m l q) y) (piece_of m t l q)) (own_second m l d s x w e) (good.valid l q u (number_below m l (face_number d s) 1 (omega arith) (two_pieces m l d x e))))
  where
    q : ℕ
    q = piece_number m l (face_number d s) 1

    gone : (g : Face) → FaceAll (OnPiece (n# m) (invariant m l) (piece_variable m l q) (piece_wall m l q) no_extent) g → g ≡ absent
    gone absent h = refl
    gone (present b) h = absurd h.keeps

-- words that begin with a table of such pieces pass 32
module _ (m : List ℤ) (passes : Passed m) (t : List ℤ) (g : ℕ → ℕ → Face) (begins : Begins m t g)
    (ok : (l q : ℕ) → l < L# m → q < pieces m l → OkFace m l q (g l q)) where
  pub made_valid : Valid m t
  made_valid = record {
    valid = λ l q u v. subst (OkFace m l q) (sym (piece_read m t g begins l q u v))
        (ends_on_piece (n# m) (invariant m l) (piece_variable m l q) (piece_wall m l q) (piece_extent m l q) (variable_below m l q v) (extent_of m passes l q u) (g l q) (ok l q u v));
  }

  pub made_ok : T (table_ok m t)
  unfolding table_ok piece_ok
  made_ok = all_intro (L# m) (λ l. all_below (pieces m l) (piece_ok m t l)) (λ l u. all_intro (pieces m l) (piece_ok m t l) (λ q v.
      subst (λ (s : List ℤ). T (absent_ok (n# m) s || present_ok (n# m) (invariant m l) (piece_variable m l q) (piece_wall m l q) (piece_extent m l q) s)) (sym (piece_words_lem m t g begins l q u v))
      (words_pass (n# m) (invariant m l) (piece_variable m l q) (piece_wall m l q) (piece_extent m l q) (variable_below m l q v) (extent_of m passes l q u) (g l q) (ok l q u v))))
