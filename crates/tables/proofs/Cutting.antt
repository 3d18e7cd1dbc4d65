-- A box cut to the pieces of a face, and joined to them.
use Rattle.std.specs.Prelude.{Option, Some}
use mathlib.Core.Path.{◌≡◌, refl, sym, ap, ap₂, ◌∙◌, subst}
use mathlib.Core.Bool.{Bool, true, false, cond}
use mathlib.Core.List.{List, ◌++◌}
use Prim.Native.Nat.{ℕ, ◌+◌, ◌*◌, ◌<◌}
use native.Mathlib.Omega.{arith}
use lib.Dec.{T}
use lib.IntN.{ℤ, pos}
use lib.Signed.{◌≤ℤ◌, le_z, lt_z}
use lib.ListN.{length, take, drop, set, length-set, length-append}
use lib.Seq.{take_at, drop_at, set-append_left, set-get_or, get_or-set_other}
use borrow.Author.Tests.{eq-eqb, ne_eqb}
use Rattle.std.specs.Int.{int_max, int_min}
use Rattle.integers.specs.Rounding.{max_z, min_z}
use Rattle.integers.proofs.Library.{max_is, min_is}
use Rattle.integers.proofs.Parts.{arith_z}
use Rattle.integers.proofs.Tests.{by_test, is_true}
use Rattle.integers.specs.Words.{word}
use Rattle.integers.specs.Counted.{cat}
use Rattle.plant.specs.Box.{low, high, Face, absent, present, face_words, join}
use Rattle.plant.specs.declared.Cut.{Cut}
use Rattle.plant.specs.Model.{uncut}
use Rattle.plant.specs.Pieces.{Extent, up_to_value, from_value, extent_by, cut_to_extent, pieces_per_face}
use Rattle.plant.specs.Tables.{face_size, face_read}
use Rattle.plant.proofs.Boxes.{length_face}
use Rattle.plant.proofs.PieceCases.{extent_own_first, extent_own_second, extent_first, extent_second, cut_to_whole, cut_to_none}
use Rattle.plant.proofs.PieceWords.{up_to_set, from-set, up_to_left, from-left}
use Rattle.tables.specs.Room.{Joinable, IsFace, joined_with, face_in, AreFaces, joined_each, cut_each, between, PiecesJoinable}
use Rattle.tables.proofs.Faces.{is_face, face_long, joined_words, nothing_joined}

-- ---- a box with variable v from low to high, in a copy of it

between_words : (n v : ℕ) (low high : ℤ) (from copy rest : List ℤ) → copy ≡ from → length from ≡ 2 * n → v < n → take (2 * n) (set (set (copy ++ rest) (2 * v) low) (2 * v + 1) high) ≡ set (set from (2 * v) low) (2 * v + 1) high
between_words n v low high from copy rest e l u =
    rw e (ap (λ (s : List ℤ). take (2 * n) (set s (2 * v + 1) high)) (set-append_left from rest (2 * v) low (omega arith))
    ∙ ap (take (2 * n)) (set-append_left (set from (2 * v) low) rest (2 * v + 1) high (omega (arith, length-set from (2 * v) low)))
    ∙ take_at (set (set from (2 * v) low) (2 * v + 1) high) rest (2 * n) (length-set (set from (2 * v) low) (2 * v + 1) high ∙ length-set from (2 * v) low ∙ l))

module _ (n v : ℕ) (low high : ℤ) (from piece : List ℤ) where
  pub between_joined : le_z low high ≡ true → (copy rest : List ℤ) → copy ≡ from → length from ≡ 2 * n → v < n
      → {a : List ℤ} → a ≡ joined_with n piece (present (take (2 * n) (set (set (copy ++ rest) (2 * v) low) (2 * v + 1) high))) → a ≡ joined_with n piece (between v low high from)
  between_joined t copy rest c l u e = e ∙ ap (λ (b : List ℤ). joined_with n piece (present b)) (between_words n v low high from copy rest c l u) ∙ rw t refl

  pub between_none : le_z low high ≡ false → IsFace n piece → piece ≡ joined_with n piece (between v low high from)
  between_none t f = nothing_joined n (between v low high from) f (rw t refl)

-- of an ordered range what is up to a value, and what is from it, is empty by one test
up_to_test : (a b x : ℤ) → a ≤ℤ b → le_z a (min_z b x) ≡ le_z a x
unfolding min_z
up_to_test a b x h = by_test (λ (m : ℤ). le_z a m ≡ le_z a x) (lt_z b x) (λ t. let p : T (le_z a b) = omega arith_z in let q : T (le_z a x) = omega arith_z in is_true p ∙ sym (is_true q)) (λ t. refl)

from_test : (a b x : ℤ) → a ≤ℤ b → le_z (max_z a x) b ≡ le_z x b
unfolding max_z
from_test a b x h = by_test (λ (m : ℤ). le_z m b ≡ le_z x b) (lt_z a x) (λ t. refl) (λ t. let p : T (le_z a b) = omega arith_z in let q : T (le_z x b) = omega arith_z in is_true p ∙ sym (is_true q))

-- ---- a box joined to the two pieces of a face in a cut location

module _ {n : ℕ} {cut : Cut} {from pieces : List ℤ} (ok : PiecesJoinable n (Some cut) from pieces) where
  abbrev v : ℕ
  v = cut.variable

  abbrev x : ℤ
  x = cut.value

  -- what it has up to the value, and from it
  up_to_is : between v (word from (2 * v)) (min_z (word from (2 * v + 1)) x) from ≡ cut_to_extent n (up_to_value v x) from
  unfolding low high
  up_to_is =
      ap₂ (λ (t : Bool) (s : List ℤ). cond t (present (set s (2 * v + 1) (min_z (word from (2 * v + 1)) x))) absent)
      (up_to_test (word from (2 * v)) (word from (2 * v + 1)) x (ok.box_ordered v ok.cut_below)) (set-get_or from (2 * v) (pos 0))
      ∙ sym (up_to_left n v x from ok.cut_below ok.box_ordered ∙ ap (λ (s : List ℤ). cond (le_z (word from (2 * v)) x) (present s) absent) (up_to_set n v x from ok.cut_below ok.box_length))

  from_is : between v (max_z (word from (2 * v)) x) (word from (2 * v + 1)) from ≡ cut_to_extent n (from_value v x) from
  unfolding low high
  from_is =
      ap₂ (λ (t : Bool) (s : List ℤ). cond t (present s) absent)
      (from_test (word from (2 * v)) (word from (2 * v + 1)) x (ok.box_ordered v ok.cut_below)) high_stays
      ∙ sym (from-left n v x from ok.cut_below ok.box_ordered ∙ ap (λ (s : List ℤ). cond (le_z x (word from (2 * v + 1))) (present s) absent) (from-set n v x from ok.cut_below ok.box_length))
    where
      high_stays : let s = set from (2 * v) (max_z (word from (2 * v)) x) in set s (2 * v + 1) (word from (2 * v + 1)) ≡ s
      high_stays =
          let s = set from (2 * v) (max_z (word from (2 * v)) x) in
          ap (set s (2 * v + 1)) (sym (get_or-set_other from (2 * v) (2 * v + 1) (max_z (word from (2 * v)) x) (pos 0) (λ w. omega arith))) ∙ set-get_or s (2 * v + 1) (pos 0)

  -- the two pieces, each of k words
  module _ {k : ℕ} (k-is : k ≡ face_size n) where
    abbrev piece : ℕ → List ℤ
    piece j = face_words n (face_in n pieces j)

    two : piece 0 ++ piece 1 ≡ pieces
    unfolding cat pieces_per_face
    two = ok.are_pieces

    pub two_long : length pieces ≡ 2 * k
    two_long = omega (arith, ap length two, length-append (piece 0) (piece 1), length_face n (face_in n pieces 0), length_face n (face_in n pieces 1))

    module _ {first second : List ℤ} (front : first ≡ take k pieces) (back : second ≡ drop k pieces) where
      first_words : first ≡ piece 0
      first_words = front ∙ ap (take k) (sym two) ∙ take_at (piece 0) (piece 1) k (length_face n (face_in n pieces 0) ∙ sym k-is)

      second_words : second ≡ piece 1
      second_words = back ∙ ap (drop k) (sym two) ∙ drop_at (piece 0) (piece 1) k (length_face n (face_in n pieces 0) ∙ sym k-is)

      pub first_is_face : IsFace n first
      first_is_face = is_face n (face_in n pieces 0) first_words

      pub second_is_face : IsFace n second
      second_is_face = is_face n (face_in n pieces 1) second_words

      -- each joined with its own
      both_joined : (h : ℕ → Face) {a b : List ℤ} → a ≡ joined_with n first (h 0) → b ≡ joined_with n second (h 1) → a ++ b ≡ joined_each n 2 pieces h
      unfolding cat
      both_joined h e f = ap₂ (λ (a b : List ℤ). a ++ b) (e ∙ joined_words n (face_in n pieces 0) (h 0) first_words) (f ∙ joined_words n (face_in n pieces 1) (h 1) second_words)

      module _ (d : ℕ) where
        abbrev each : ℕ → Face
        each = cut_each n (Some cut) d (present from)

        -- on the walls of the cut's variable
        pub own_joined : v ≡ d → {a : List ℤ} → a ≡ joined_with n first (present from) → a ++ second ≡ joined_each n 2 pieces each
        own_joined u e =
            both_joined each
            (e ∙ ap (joined_with n first) (sym (ap (λ (s : Extent). cut_to_extent n s from) (extent_own_first v x d (eq-eqb v d u)) ∙ cut_to_whole n from)))
            (nothing_joined n (each 1) (is_face n (face_in n pieces 1) second_words) (ap (λ (s : Extent). cut_to_extent n s from) (extent_own_second v x d (eq-eqb v d u)) ∙ cut_to_none n from))

        -- on any other
        pub other_joined : (v ≡ d → ⊥) → {low high : ℤ} → high ≡ int_min (word from (2 * v + 1)) x → low ≡ int_max (word from (2 * v)) x
            → {a b : List ℤ} → a ≡ joined_with n first (between v (word from (2 * v)) high from) → b ≡ joined_with n second (between v low (word from (2 * v + 1)) from) → a ++ b ≡ joined_each n 2 pieces each
        other_joined u p q e f =
            both_joined each
            (e ∙ ap (λ (z : ℤ). joined_with n first (between v (word from (2 * v)) z from)) (p ∙ min_is _ x)
            ∙ ap (joined_with n first) (up_to_is ∙ sym (ap (λ (s : Extent). cut_to_extent n s from) (extent_first v x d (ne_eqb v d u)))))
            (f ∙ ap (λ (z : ℤ). joined_with n second (between v z (word from (2 * v + 1)) from)) (q ∙ max_is _ x)
            ∙ ap (joined_with n second) (from_is ∙ sym (ap (λ (s : Extent). cut_to_extent n s from) (extent_second v x d (ne_eqb v d u)))))

-- ---- a box joined to the one piece of a face in a location with no cut

module _ (n d : ℕ) {cut : Option Cut} (from pieces : List ℤ) (ok : PiecesJoinable n cut from pieces) (none : cut ≡ uncut) where
  one_face : IsFace n pieces
  unfolding cat pieces_per_face
  one_face = ap (λ (k : ℕ). face_words n (face_read n pieces k)) (omega arith) ∙ subst (λ (c : Option Cut). AreFaces n (pieces_per_face c) pieces) none ok.are_pieces

  pub one_joinable : Joinable n from pieces
  one_joinable = record { n_small = ok.n_small; box_there = omega (arith, ok.box_length); face_length = face_long n one_face }

  pub one_joined : {exit : List ℤ} → exit ≡ joined_with n pieces (present from) → exit ≡ joined_each n (pieces_per_face cut) pieces (cut_each n cut d (present from))
  unfolding cat pieces_per_face extent_by cut_to_extent
  one_joined e = e ∙ rw none (ap (λ (k : ℕ). face_words n (join n (face_read n pieces k) (present from))) (omega arith))
