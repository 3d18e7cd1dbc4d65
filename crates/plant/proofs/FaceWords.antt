-- The words of a face: written and read again they give the ends of its box; those that pass 32 are the words of the face that is read
-- from them, at whatever place of a table they stand.
use mathlib.Core.Path.{◌≡◌, sym, ap, ap₂, ◌∙◌}
use mathlib.Core.Bool.{true, false, cond, ◌&&◌, ◌||◌}
use mathlib.Core.Logic.{⊎_elim}
use mathlib.Core.List.{List, [], ◌∷◌}
use Prim.Native.Nat.{ℕ, zero, suc, ◌+◌, ◌*◌, ◌<◌, ◌≤◌}
use native.Mathlib.Nat.{le_refl}
use native.Mathlib.Omega.{arith}
use lib.Dec.{T}
use lib.IntN.{ℤ, pos}
use lib.ListN.{length, take, drop, length-drop, get_or-replicate, length-replicate}
use lib.Seq.{take_all, take-take, drop-drop, get_or-take, get_or-drop, length-take-le, ext_get_or}
use Rattle.integers.specs.Words.{word, eq_z}
use Rattle.integers.specs.Counted.{all_below}
use Rattle.integers.proofs.Tests.{and_yes, or_yes}
use Rattle.integers.proofs.Counted.{all_yes, eq_z_eq}
use Rattle.plant.specs.Box.{low, high, box_by, box_at, Face, absent, present, face_words}
use Rattle.plant.specs.Model.{n#, L#, invariant}
use Rattle.plant.specs.Questions.{inside_ok, zeros_ok}
use Rattle.plant.specs.Pieces.{Extent, keeps_to, pieces, piece_variable, piece_wall, piece_extent}
use Rattle.plant.specs.Tables.{face_size, table_size, piece_at, face_read, piece_of, on_wall, absent_ok, present_ok, piece_ok, table_ok}
use Rattle.plant.proofs.Boxes.{length-box_by, length-box_at, box_ends}
use Rattle.plant.proofs.Tables.{take_behind, piece_inside, ends, words_of}

pub read_words : (n : ℕ) (g : Face) → face_read n (face_words n g) 0 ≡ ends n g
unfolding face_read face_words box_at
read_words n absent = ap (λ (z : ℤ). cond (eq_z z (pos 1)) (present (take (2 * n) (drop 1 (face_words n absent)))) absent) (get_or-replicate (1 + 2 * n) 0 (pos 0) (pos 0) (omega arith))
read_words n (present b) = ap present (take_all (2 * n) (box_by n (low b) (high b)) (omega (arith, length-box_by n (low b) (high b))))

-- the face of some words, by its flag
module _ (n : ℕ) (s : List ℤ) where
  pub read_present : eq_z (word s 0) (pos 1) ≡ true → face_read n s 0 ≡ present (box_at n s 1)
  unfolding face_read
  read_present e = rw e

  pub read_absent : eq_z (word s 0) (pos 1) ≡ false → face_read n s 0 ≡ absent
  unfolding face_read
  read_absent e = rw e

-- ---- the words of a piece that passes 32

module _ (n : ℕ) (s : List ℤ) (sized : length s ≡ 1 + 2 * n) where
  zero_words : T (absent_ok n s) → (i : ℕ) → i < length s → word s i ≡ pos 0
  unfolding absent_ok zeros_ok
  zero_words h zero l = eq_z_eq (word s 0) (pos 0) (and_yes (eq_z (word s 0) (pos 0)) (zeros_ok (2 * n) (drop 1 s)) h).0
  zero_words h (suc i) l =
      let z : T (zeros_ok (2 * n) (drop 1 s)) = (and_yes (eq_z (word s 0) (pos 0)) (zeros_ok (2 * n) (drop 1 s)) h).1 in
      ap (word s) (omega arith) ∙ sym (get_or-drop 1 s i (pos 0)) ∙ eq_z_eq (word (drop 1 s) i) (pos 0) (all_yes (2 * n) (λ i. eq_z (word (drop 1 s) i) (pos 0)) z i (omega arith))

  zeros : T (absent_ok n s) → face_words n absent ≡ s
  unfolding face_words
  zeros h = ext_get_or (pos 0) (face_words n absent) s (length-replicate (1 + 2 * n) (pos 0) ∙ sym sized)
      (λ i l. let k : i < 1 + 2 * n = omega (arith, length-replicate (1 + 2 * n) (pos 0)) in
      get_or-replicate (1 + 2 * n) i (pos 0) (pos 0) k ∙ sym (zero_words h i (omega arith)))

  absent_kept : T (absent_ok n s) → face_words n (face_read n s 0) ≡ s
  unfolding face_read
  absent_kept h = ap (λ (z : ℤ). face_words n (cond (eq_z z (pos 1)) (present (box_at n s 1)) absent)) (zero_words h 0 (omega arith)) ∙ zeros h

-- a flag and the words behind it
flag_first : (k : ℕ) (s : List ℤ) → length s ≡ 1 + k → word s 0 ≡ pos 1 → pos 1 ∷ take k (drop 1 s) ≡ s
flag_first k [] e h = absurd (omega (arith, e))
flag_first k (x ∷ xs) e h = ap₂ (λ (z : ℤ) (zs : List ℤ). z ∷ zs) (sym h) (take_all k xs (omega (arith, e)))

present_kept : (n : ℕ) (s : List ℤ) → length s ≡ 1 + 2 * n → word s 0 ≡ pos 1 → face_words n (face_read n s 0) ≡ s
unfolding face_read face_words box_at
present_kept n s e h =
    ap (λ (z : ℤ). face_words n (cond (eq_z z (pos 1)) (present (box_at n s 1)) absent)) h
    ∙ ap (λ (b : List ℤ). pos 1 ∷ b) (box_ends n (box_at n s 1) (length-box_at n s 1 (omega arith)))
    ∙ flag_first (2 * n) s e h

pub words_kept : (n : ℕ) (inv : List ℤ) (d : ℕ) (w : ℤ) (extent : Extent) (s : List ℤ) → length s ≡ 1 + 2 * n → T (absent_ok n s || present_ok n inv d w extent s) → face_words n (face_read n s 0) ≡ s
unfolding present_ok
words_kept n inv d w extent s e h =
    ⊎_elim (absent_kept n s e)
    (λ u. present_kept n s e (eq_z_eq (word s 0) (pos 1) (and_yes (eq_z (word s 0) (pos 1)) (inside_ok n (drop 1 s) inv && (on_wall (drop 1 s) d w && keeps_to extent (drop 1 s))) u).0))
    (or_yes (absent_ok n s) (present_ok n inv d w extent s) h)

-- ---- the words of a face that stands at a place

module _ (n : ℕ) (s : List ℤ) (at : ℕ) where
  flag_there : word (take (face_size n) (drop at s)) 0 ≡ word s at
  flag_there = get_or-take (face_size n) (drop at s) 0 (pos 0) (omega arith) ∙ get_or-drop at s 0 (pos 0) ∙ ap (word s) (omega arith)

  one_more : face_size n ≡ suc (2 * n)
  one_more = omega arith

  box_there : box_at n (take (face_size n) (drop at s)) 1 ≡ box_at n s (at + 1)
  unfolding box_at
  box_there =
      ap (λ (k : ℕ). take (2 * n) (drop 1 (take k (drop at s)))) one_more
      ∙ ap (take (2 * n)) (sym (take_behind (2 * n) (drop at s)))
      ∙ take-take (2 * n) (2 * n) (drop 1 (drop at s)) (le_refl (2 * n))
      ∙ ap (take (2 * n)) (drop-drop 1 at s)

  pub face_there : face_read n (take (face_size n) (drop at s)) 0 ≡ face_read n s at
  unfolding face_read
  face_there = ap₂ (λ (z : ℤ) (b : List ℤ). cond (eq_z z (pos 1)) (present b) absent) flag_there box_there

-- the words of a piece of a table that passes 32 are those of the piece
pub piece_words_lem : (m t : List ℤ) → table_size m ≤ length t → T (table_ok m t) → (l q : ℕ) → l < L# m → q < pieces m l → words_of m t l q ≡ face_words (n# m) (piece_of m t l q)
unfolding table_ok piece_ok piece_of
piece_words_lem m t room valid l q u v =
    sym (words_kept (n# m) (invariant m l) (piece_variable m l q) (piece_wall m l q) (piece_extent m l q) (words_of m t l q)
    (length-take-le (face_size (n# m)) (drop (piece_at m l q) t) (omega (arith, length-drop (piece_at m l q) t, piece_inside m l q u v)))
    (all_yes (pieces m l) (piece_ok m t l) (all_yes (L# m) (λ l. all_below (pieces m l) (piece_ok m t l)) valid l u) q v))
    ∙ ap (face_words (n# m)) (face_there (n# m) t (piece_at m l q))
