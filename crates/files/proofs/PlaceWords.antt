-- The place of a piece in a field: two words or three, by whether the model has any cut; which piece they name; and that a field's
-- words are a place and a box.
use mathlib.Core.Path.{◌≡◌, refl, sym, ap, ◌∙◌}
use mathlib.Core.Bool.{Bool, true, false}
use mathlib.Core.List.{List, [], ◌∷◌, ◌++◌}
use Prim.Native.Nat.{ℕ, ◌+◌, ◌*◌, ◌<◌, ◌≤◌}
use native.Mathlib.Numerals.{add-one}
use native.Mathlib.Omega.{arith}
use borrow.Author.Tests.{eq-eqb, ne_eqb}
use lib.Dec.{eqb}
use lib.IntN.{ℤ, pos, nat_abs}
use lib.ListN.{length, take}
use lib.Seq.{take_all, drop_at}
use Rattle.integers.specs.Words.{word, num}
use Rattle.integers.specs.Counted.{any_below}
use Rattle.integers.proofs.Tests.{is_true, true_is}
use Rattle.integers.proofs.Counted.{any_intro}
use Rattle.plant.specs.Box.{box_at}
use Rattle.plant.specs.Model.{n#, L#}
use Rattle.plant.specs.Pieces.{per_face, any_cut, piece_face, piece_index}
use Rattle.plant.specs.Tables.{piece_count, longest_table_file}
use Rattle.plant.proofs.Pieces.{number_again, number_face, number_index, index_below, one_piece}
use Rattle.files.specs.TableFile.{place_size, piece_field_size, place_words, piece_field_at, piece_word, piece_named}

-- ---- how many words a place has

module _ (m : List ℤ) where
  -- two words, or three with any cut
  pub place_with : any_cut m ≡ true → place_size m ≡ 3
  unfolding place_size
  place_with e = rw e refl

  pub place_without : any_cut m ≡ false → place_size m ≡ 2
  unfolding place_size
  place_without e = rw e refl

  by_cuts : {P : Type 0} → (any_cut m ≡ true → P) → (any_cut m ≡ false → P) → P
  by_cuts {P} f g = by (any_cut m) refl
    where
      by : (b : Bool) → any_cut m ≡ b → P
      by true e = f e
      by false e = g e

  pub place_least : 2 ≤ place_size m
  place_least = by_cuts (λ e. omega (arith, place_with e)) (λ e. omega (arith, place_without e))

  pub place_most : place_size m ≤ 3
  place_most = by_cuts (λ e. omega (arith, place_with e)) (λ e. omega (arith, place_without e))

  -- and its size tells
  pub cut_by_size : place_size m ≡ 3 → any_cut m ≡ true
  cut_by_size h = by_cuts (λ e. e) (λ e. absurd (omega (arith, place_without e)))

  pub uncut_by_size : (place_size m ≡ 3 → ⊥) → any_cut m ≡ false
  uncut_by_size h = by_cuts (λ e. absurd (h (place_with e))) (λ e. e)

  -- the longest file has a field for each piece
  pub longest_is : longest_table_file m ≡ piece_field_at m (piece_count m)
  unfolding longest_table_file
  longest_is = ap (λ (k : ℕ). 7 + piece_count m * k) (by_cuts
      (λ e. rw e (omega (arith, place_with e)))
      (λ e. rw e (omega (arith, place_without e))))

-- ---- how code asks it, location by location

-- no location below l is cut
abbrev pub none_cut : List ℤ → ℕ → Type 0
none_cut m l = any_below l (λ i. eqb (per_face m i) 2) ≡ false

module _ (m : List ℤ) where
  pub none_cut_lem : none_cut m 0
  unfolding any_below
  none_cut_lem = refl

  module _ (l : ℕ) {k : ℕ} (ek : k ≡ per_face m l) where
    pub none_more : none_cut m l → (k ≡ 2 → ⊥) → none_cut m (l + 1)
    unfolding any_below
    none_more e h = rw (add-one l, e, ← ek, ne_eqb k 2 h) refl

    pub cut_found : l < L# m → k ≡ 2 → 3 ≡ place_size m
    unfolding any_cut
    cut_found u h = sym (place_with m (is_true (any_intro (L# m) (λ i. eqb (per_face m i) 2) l u (true_is (eq-eqb (per_face m l) 2 (sym ek ∙ h))))))

  pub none_all : {l : ℕ} → l ≡ L# m → none_cut m l → 2 ≡ place_size m
  unfolding any_cut
  none_all u e = sym (place_without m (ap (λ (l : ℕ). any_below l (λ i. eqb (per_face m i) 2)) (sym u) ∙ e))

-- ---- the words of a field: a place and a box

module _ (m : List ℤ) (l q : ℕ) where
  pub length_place : length (place_words m l q) ≡ place_size m
  unfolding place_words
  length_place = by_cuts m (λ e. rw (e, place_with m e) refl) (λ e. rw (e, place_without m e) refl)

  module _ (b : List ℤ) where
    pub place_location : word (place_words m l q ++ b) 0 ≡ pos l
    unfolding place_words
    place_location = refl

    pub place_face : word (place_words m l q ++ b) 1 ≡ pos (piece_face m l q)
    unfolding place_words
    place_face = refl

    pub place_piece : l < L# m → piece_word m (place_words m l q ++ b) ≡ pos (piece_index m l q)
    unfolding place_words piece_word
    place_piece u = by_cuts m (λ e. rw e refl) (λ e. rw e (ap pos (only e)))
      where
        only : any_cut m ≡ false → 0 ≡ piece_index m l q
        only e = omega (arith, one_piece m l e u, index_below m l q)

    pub place_named : l < L# m → piece_named m (place_words m l q ++ b) ≡ q
    unfolding piece_named
    place_named u = rw (place_location, place_face, place_piece u) (number_again m l q)

    pub place_box : length b ≡ 2 * n# m → box_at (n# m) (place_words m l q ++ b) (place_size m) ≡ b
    unfolding box_at
    place_box e = ap (take (2 * n# m)) (drop_at (place_words m l q) b (place_size m) length_place) ∙ take_all (2 * n# m) b (omega arith)

-- words of a field are such a place and a box
two_and_box : (n : ℕ) (w : List ℤ) → length w ≡ 2 + 2 * n → word w 0 ∷ word w 1 ∷ box_at n w 2 ≡ w
unfolding box_at
two_and_box n [] e = absurd (omega arith)
two_and_box n (x ∷ []) e = absurd (omega arith)
two_and_box n (x ∷ y ∷ w) e = ap (λ (z : List ℤ). x ∷ y ∷ z) (take_all (2 * n) w (omega arith))

three_and_box : (n : ℕ) (w : List ℤ) → length w ≡ 3 + 2 * n → word w 0 ∷ word w 1 ∷ word w 2 ∷ box_at n w 3 ≡ w
unfolding box_at
three_and_box n [] e = absurd (omega arith)
three_and_box n (x ∷ []) e = absurd (omega arith)
three_and_box n (x ∷ y ∷ []) e = absurd (omega arith)
three_and_box n (x ∷ y ∷ z ∷ w) e = ap (λ (r : List ℤ). x ∷ y ∷ z ∷ r) (take_all (2 * n) w (omega arith))

module _ (m w : List ℤ) (u : nat_abs (piece_word m w) < per_face m (num w 0)) where
  pub named_face : piece_face m (num w 0) (piece_named m w) ≡ num w 1
  unfolding piece_named
  named_face = number_face m (num w 0) (num w 1) (nat_abs (piece_word m w)) u

  pub named_index : piece_index m (num w 0) (piece_named m w) ≡ nat_abs (piece_word m w)
  unfolding piece_named
  named_index = number_index m (num w 0) (num w 1) (nat_abs (piece_word m w)) u

  word_with : any_cut m ≡ true → piece_word m w ≡ word w 2
  unfolding piece_word
  word_with e = rw e refl

  pub place_and_box : length w ≡ piece_field_size m → word w 0 ≡ pos (num w 0) → word w 1 ≡ pos (num w 1) → piece_word m w ≡ pos (nat_abs (piece_word m w))
      → place_words m (num w 0) (piece_named m w) ++ box_at (n# m) w (place_size m) ≡ w
  unfolding place_words
  place_and_box long el ef ek = by_cuts m
      (λ e. let k : pos (nat_abs (piece_word m w)) ≡ word w 2 = sym ek ∙ word_with e in
      rw (e, place_with m e, named_face, named_index, k, ← el, ← ef) (three_and_box (n# m) w (omega (arith, long, place_with m e))))
      (λ e. rw (e, place_without m e, named_face, ← el, ← ef) (two_and_box (n# m) w (omega (arith, long, place_without m e))))
