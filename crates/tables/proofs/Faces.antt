-- The words of a face, filled from the front: by a box, and by the smallest box holding two. And the words that a face is
-- read back from give the face again, so that joins follow each other on the same words.
use mathlib.Core.Path.{◌≡◌, refl, sym, ap, ap₂, ◌∙◌}
use mathlib.Core.Bool.{true, false, cond}
use mathlib.Core.List.{List, [], ◌∷◌, ◌++◌, append-nil}
use Prim.Native.Nat.{ℕ, ◌+◌, ◌*◌, ◌-◌, ◌<◌, ◌≤◌}
use native.Mathlib.Nat.{mul-le-mul}
use native.Mathlib.Omega.{arith}
use lib.IntN.{ℤ, pos}
use lib.Signed.{mag, lt_z}
use lib.ListN.{length, drop, take, set, get_or-replicate, drop_of_length-le}
use borrow.Rule.Slice.PartMut.{put_mid}
use Rattle.std.specs.Int.{int_max, int_min}
use Rattle.integers.proofs.Library.{max_is, min_is}
use lib.Seq.{get_or-set_other, get_or-append-add, get_or-drop, take_all}
use Rattle.integers.specs.Words.{word, eq_z, onto}
use Rattle.integers.specs.Counted.{cat}
use Rattle.integers.specs.Rounding.{max_z, min_z}
use Rattle.integers.proofs.Signed.{cond_case}
use Rattle.integers.proofs.Buffers.{onto_two, onto_all, cat_more}
use Rattle.plant.specs.Box.{low, high, box_by, box_at, hull, Face, absent, present, face_words, join}
use Rattle.plant.specs.Tables.{words_per_location, face_size, table_size, face_read}
use Rattle.plant.proofs.Boxes.{low-box_by, high-box_by, length-box_by, box_ext, low-box_at, high-box_at, length-box_at, box_ends, length_face, length-hull}
use Rattle.plant.proofs.Tables as P
use Rattle.plant.proofs.Whole.{Head}
use Rattle.tables.specs.Room.{IsFace, joined_with}

-- ---- a buffer that is filled from the front

-- a word that is not filled yet
word-onto : (a d : List ℤ) (j : ℕ) → length a ≤ j → word (onto a d) j ≡ word d j
unfolding onto
word-onto a d j h =
    ap (word (onto a d)) split ∙ get_or-append-add a (drop (length a) d) (j - length a) (pos 0) ∙ get_or-drop (length a) d (j - length a) (pos 0) ∙ ap (word d) (sym split)
  where
    split : j ≡ length a + (j - length a)
    split = omega arith

-- ---- the box at the front of some words

box_front : (n : ℕ) (b : List ℤ) → 2 * n ≤ length b → box_by n (low b) (high b) ≡ take (2 * n) b
unfolding box_at low high
box_front n b h =
    box_ext n (low b) (high b) (low (box_at n b 0)) (high (box_at n b 0))
    (λ i l. sym (low-box_at n b 0 i l ∙ ap (word b) (omega arith)))
    (λ i l. sym (high-box_at n b 0 i l ∙ ap (word b) (omega arith)))
    ∙ box_ends n (box_at n b 0) (length-box_at n b 0 (omega arith))

-- a face whose flag is set
flagged : (d : List ℤ) → 0 < length d → word d 0 ≡ pos 1 → d ≡ onto (pos 1 ∷ []) d
unfolding onto
flagged [] h e = absurd (omega arith)
flagged (x ∷ xs) h e = ap (λ (z : ℤ). z ∷ xs) e

-- ---- an absent face becomes the box

pub placed : (n : ℕ) (from d box : List ℤ) → box ≡ take (2 * n) from → 2 * n ≤ length from → 0 < length d → put_mid 1 (length (set d 0 (pos 1)) - 1) (set d 0 (pos 1)) box ≡ face_words n (present from)
unfolding face_words
placed n from [] box e h k = absurd (omega arith)
placed n from (x ∷ xs) box e h k =
    rw (e, box_front n from h)
    (ap (λ (r : List ℤ). pos 1 ∷ (take (2 * n) from ++ r)) (drop_of_length-le xs {i = length {A = ℤ} (x ∷ xs) - 1} (omega arith)) ∙ ap (λ (r : List ℤ). pos 1 ∷ r) (append-nil (take (2 * n) from)))

-- ---- a present face is widened

-- the smaller and the larger of two words are words
pub min_small : (x y : ℤ) → mag x < 2147483648 → mag y < 2147483648 → mag (min_z x y) < 2147483648
unfolding min_z
min_small x y p q = cond_case (lt_z x y) x y (λ z. mag z < 2147483648) (λ _. p) (λ _. q)

pub max_small : (x y : ℤ) → mag x < 2147483648 → mag y < 2147483648 → mag (max_z x y) < 2147483648
unfolding max_z
max_small x y p q = cond_case (lt_z x y) y x (λ z. mag z < 2147483648) (λ _. q) (λ _. p)

pub widen_start : (a b d : List ℤ) → 0 < length d → word d 0 ≡ pos 1 → d ≡ onto (pos 1 ∷ hull 0 a b) d
unfolding hull box_by cat
widen_start a b d h e = flagged d h e

hull_more : (i : ℕ) (a b : List ℤ) → hull (i + 1) a b ≡ hull i a b ++ (min_z (low a i) (low b i) ∷ max_z (high a i) (high b i) ∷ [])
unfolding hull box_by
hull_more i a b = cat_more i (λ i. min_z (low a i) (low b i) ∷ max_z (high a i) (high b i) ∷ [])

module _ (n : ℕ) (b d face : List ℤ) (i : ℕ) (l : i < n) (e : face ≡ onto (pos 1 ∷ hull i (box_at n d 1) b) d) (h : length d ≡ 1 + 2 * n) where
  filled : length (pos 1 ∷ hull i (box_at n d 1) b) ≡ 2 * i + 1
  filled = omega (arith, length-hull i (box_at n d 1) b)

  old_low : word face (2 * i + 1) ≡ low (box_at n d 1) i
  old_low = ap (λ (s : List ℤ). word s (2 * i + 1)) e ∙ word-onto (pos 1 ∷ hull i (box_at n d 1) b) d (2 * i + 1) (omega (arith, filled)) ∙ ap (word d) (omega arith) ∙ sym (low-box_at n d 1 i l)

  old_high : word face (2 * i + 2) ≡ high (box_at n d 1) i
  old_high = ap (λ (s : List ℤ). word s (2 * i + 2)) e ∙ word-onto (pos 1 ∷ hull i (box_at n d 1) b) d (2 * i + 2) (omega (arith, filled)) ∙ ap (word d) (omega arith) ∙ sym (high-box_at n d 1 i l)

  pub widen_turn : (x y : ℤ) → x ≡ min_z (word face (2 * i + 1)) (word b (2 * i)) → y ≡ max_z (word face (2 * i + 2)) (word b (2 * i + 1)) → set (set face (2 * i + 1) x) (2 * i + 2) y ≡ onto (pos 1 ∷ hull (i + 1) (box_at n d 1) b) d
  unfolding low high
  widen_turn x y p q =
      ap (λ (s : List ℤ). set (set s (2 * i + 1) x) (2 * i + 2) y) e
      ∙ ap (λ (k : ℕ). set (set (onto (pos 1 ∷ hull i (box_at n d 1) b) d) (2 * i + 1) x) k y) (omega arith)
      ∙ onto_two (pos 1 ∷ hull i (box_at n d 1) b) d (2 * i + 1) x y filled (omega arith)
      ∙ ap₂ (λ (u v : ℤ). onto (pos 1 ∷ (hull i (box_at n d 1) b ++ (u ∷ v ∷ []))) d)
      (p ∙ ap (λ (z : ℤ). min_z z (word b (2 * i))) old_low) (q ∙ ap (λ (z : ℤ). max_z z (word b (2 * i + 1))) old_high)
      ∙ ap (λ (s : List ℤ). onto (pos 1 ∷ s) d) (sym (hull_more i (box_at n d 1) b))

  -- by the library's methods, the high read once the low is written
  pub widen_words : (x y : ℤ) → x ≡ int_min (word face (2 * i + 1)) (word b (2 * i)) → y ≡ int_max (word (set face (2 * i + 1) x) (2 * i + 1 + 1)) (word b (2 * i + 1))
      → set (set face (2 * i + 1) x) (2 * i + 1 + 1) y ≡ onto (pos 1 ∷ hull (i + 1) (box_at n d 1) b) d
  widen_words x y p q =
      let two : 2 * i + 1 + 1 ≡ 2 * i + 2 = omega arith in
      rw two (
      widen_turn x y (p ∙ min_is _ _)
      ((rw two at q) ∙ max_is _ _ ∙ ap (λ (z : ℤ). max_z z (word b (2 * i + 1))) (get_or-set_other face (2 * i + 1) (2 * i + 2) x (pos 0) (λ w. omega arith)))
      )

pub widen_end : (n : ℕ) (a b d face : List ℤ) → face ≡ onto (pos 1 ∷ hull n a b) d → length d ≡ 1 + 2 * n → face ≡ face_words n (present (hull n a b))
unfolding face_words
widen_end n a b d face e h =
    e ∙ onto_all (pos 1 ∷ hull n a b) d (omega (arith, length-hull n a b)) ∙ ap (λ (s : List ℤ). pos 1 ∷ s) (sym (box_ends n (hull n a b) (length-hull n a b)))

-- ---- which of the two a join is

pub join_placed : (n : ℕ) (face b : List ℤ) → eq_z (word face 0) (pos 1) ≡ false → face_words n (present b) ≡ face_words n (join n (face_read n face 0) (present b))
unfolding face_read join
join_placed n face b e = rw e refl

pub join_widened : (n : ℕ) (face b : List ℤ) → eq_z (word face 0) (pos 1) ≡ true → face_words n (present (hull n (box_at n face 1) b)) ≡ face_words n (join n (face_read n face 0) (present b))
unfolding face_read join
join_widened n face b e = rw e refl

-- ---- a face is read back from its words

read_absent : (n : ℕ) → face_read n (face_words n absent) 0 ≡ absent
unfolding face_read face_words
read_absent n = ap (λ (z : ℤ). cond (eq_z z (pos 1)) (present (box_at n (face_words n absent) 1)) absent) (get_or-replicate (1 + 2 * n) 0 (pos 0) (pos 0) (omega arith))

read_present : (n : ℕ) (a : List ℤ) → face_read n (face_words n (present a)) 0 ≡ present (box_by n (low a) (high a))
unfolding face_read face_words box_at
read_present n a = ap present (take_all (2 * n) (box_by n (low a) (high a)) (omega (arith, length-box_by n (low a) (high a))))

same_words : (n : ℕ) (a b : List ℤ) → ((i : ℕ) → i < n → low a i ≡ low b i) → ((i : ℕ) → i < n → high a i ≡ high b i) → face_words n (present a) ≡ face_words n (present b)
unfolding face_words
same_words n a b p q = ap (λ (s : List ℤ). pos 1 ∷ s) (box_ext n (low a) (high a) (low b) (high b) p q)

hull_ends : (n : ℕ) (a b : List ℤ) → hull n (box_by n (low a) (high a)) b ≡ hull n a b
unfolding hull
hull_ends n a b =
    box_ext n (λ i. min_z (low (box_by n (low a) (high a)) i) (low b i)) (λ i. max_z (high (box_by n (low a) (high a)) i) (high b i)) (λ i. min_z (low a i) (low b i)) (λ i. max_z (high a i) (high b i))
    (λ i l. ap (λ (z : ℤ). min_z z (low b i)) (low-box_by n (low a) (high a) i l))
    (λ i l. ap (λ (z : ℤ). max_z z (high b i)) (high-box_by n (low a) (high a) i l))

join_ends : (n : ℕ) (a : List ℤ) (g : Face) → face_words n (join n (present (box_by n (low a) (high a))) g) ≡ face_words n (join n (present a) g)
unfolding join
join_ends n a absent = same_words n (box_by n (low a) (high a)) a (low-box_by n (low a) (high a)) (high-box_by n (low a) (high a))
join_ends n a (present b) = ap (λ (s : List ℤ). face_words n (present s)) (hull_ends n a b)

-- what is joined to the face of some words is joined to the face that they are the words of
pub join_words : (n : ℕ) (x g : Face) → face_words n (join n (face_read n (face_words n x) 0) g) ≡ face_words n (join n x g)
join_words n absent g = ap (λ (f : Face). face_words n (join n f g)) (read_absent n)
join_words n (present a) g = ap (λ (f : Face). face_words n (join n f g)) (read_present n a) ∙ join_ends n a g

-- the words of a face are those of a face
pub is_face : (n : ℕ) (x : Face) {s : List ℤ} → s ≡ face_words n x → IsFace n s
is_face n absent e = rw e (ap (face_words n) (read_absent n))
is_face n (present a) e = rw e (ap (face_words n) (read_present n a) ∙ same_words n (box_by n (low a) (high a)) a (low-box_by n (low a) (high a)) (high-box_by n (low a) (high a)))

pub face_long : (n : ℕ) {s : List ℤ} → IsFace n s → length s ≡ face_size n
face_long n {s} e = ap length (sym e) ∙ length_face n (face_read n s 0)

-- and join as the face does
pub joined_words : (n : ℕ) (x g : Face) {s : List ℤ} → s ≡ face_words n x → joined_with n s g ≡ face_words n (join n x g)
joined_words n x g e = rw e (join_words n x g)

-- joined with nothing it stays
pub join_absent : (n : ℕ) (x : Face) → join n x absent ≡ x
unfolding join
join_absent n absent = refl
join_absent n (present a) = refl

pub nothing_joined : (n : ℕ) (g : Face) {s : List ℤ} → IsFace n s → g ≡ absent → s ≡ joined_with n s g
nothing_joined n g {s} f e = sym (ap (joined_with n s) e ∙ ap (face_words n) (join_absent n (face_read n s 0)) ∙ f)

-- ---- how many words

-- words per location grow with the number of variables
pub words_grow : (n k : ℕ) → n ≤ k → words_per_location n ≤ words_per_location k
unfolding words_per_location
words_grow n k h = let a : 2 * n ≤ 2 * k = omega arith in let b : face_size n ≤ face_size k = omega arith in mul-le-mul a b

-- the largest table: 64 locations of 6 variables, all cut
pub table_most : (m : List ℤ) → Head m → table_size m ≤ 19968
table_most m h = P.table_most m h.n_small h.L_small
