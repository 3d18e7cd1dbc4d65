-- A table file is a list of fields, one for each present piece, by ascending key. What is written so is read back field by
-- field, and the bytes that are read are those of such a list.
use mathlib.Core.Path.{◌≡◌, refl, sym, ap, ap₂, ◌∙◌, subst}
use mathlib.Core.Bool.{Bool, true, false, not, cond, ◌&&◌}
use mathlib.Core.Logic.{⊎_elim}
use mathlib.Core.List.{List, [], ◌∷◌, ◌++◌, append-nil, append_assoc}
use Prim.Native.Nat.{ℕ, zero, suc, ◌+◌, ◌*◌, ◌/◌, ◌%◌, ◌<◌, ◌≤◌}
use native.Mathlib.Omega.{arith}
use borrow.Author.Tests.{eq-eqb}
use lib.Dec.{T, eqb, eqb→eq}
use lib.IntN.{ℤ, pos}
use lib.ListN.{length, get_or, length-append}
use Rattle.integers.specs.Words.{num, AreWords}
use Rattle.integers.specs.Counted.{cat, sum_below}
use Rattle.integers.proofs.Counted.{split}
use Rattle.integers.proofs.Buffers.{cat_ext}
use Rattle.integers.proofs.Rows.{cat_rows, sum_rows}
use Rattle.integers.proofs.Signed.{fits32}
use Rattle.files.specs.Bytes.{words_at, word_bytes, words_bytes}
use Rattle.files.specs.Fields.{length_at, field_at, field}
use Rattle.files.specs.declared.Field.TheVariants.{Whole}
use Rattle.files.proofs.Words.{length-word, word_back}
use Rattle.files.proofs.Fields.{length-field, field_back, field_lies, length_fields, fields_back, fields_words_back}
use Rattle.plant.specs.Box.{low, high, box_by, box_at, Face, absent, present}
use Rattle.plant.specs.Model.{n#, L#}
use Rattle.plant.specs.Pieces.{pieces}
use Rattle.plant.specs.Tables.{pieces_before, piece_count, piece_of}
use Rattle.plant.proofs.Tables.{piece_counted}
use Rattle.files.specs.TableFile.{place_size, piece_field_size, place_words, piece_field, presence, present_pieces, location_fields, piece_fields, table_file, pieces_from, file_length, piece_field_at, count_word, piece_field_words, piece_named, piece_key, file_face}
use Rattle.files.proofs.Keys.{Ascending, key_le, along, counted_all}
use Rattle.files.proofs.PieceKeys.{location_of, piece_in, key_location, key_piece, key_again, at_key, at_key_lem}
use Rattle.files.proofs.PlaceWords.{place_most}

-- ---- the field of a piece

abbrev pub is_present : Face → Bool
is_present absent = false
is_present (present b) = true

abbrev pub box_of : Face → List ℤ
box_of absent = []
box_of (present b) = b

-- the words of the field of piece q of location l, with this box
abbrev pub entry : (m : List ℤ) (l q : ℕ) → List ℤ → List ℤ
entry m l q b = place_words m l q ++ box_by (n# m) (low b) (high b)

field_none : (m : List ℤ) (l q : ℕ) (g : Face) → T (not (is_present g)) → piece_field m l q g ≡ []
field_none m l q absent h = refl
field_none m l q (present b) h = absurd h

field_some : (m : List ℤ) (l q : ℕ) (g : Face) → T (is_present g) → piece_field m l q g ≡ field 5 (words_bytes (entry m l q (box_of g)))
field_some m l q absent h = absurd h
field_some m l q (present b) h = refl

presence_none : (g : Face) → T (not (is_present g)) → presence g ≡ 0
presence_none absent h = refl
presence_none (present b) h = absurd h

presence_some : (g : Face) → T (is_present g) → presence g ≡ 1
presence_some absent h = absurd h
presence_some (present b) h = refl

-- ---- the file of a table, by the list of its present pieces

-- the file with the fields e 0, e 1, .. below k
abbrev pub listed : ℕ → (ℕ → List ℤ) → List ℕ
listed k e = field 6 (word_bytes (pos k)) ++ cat k (λ i. field 5 (words_bytes (e i)))

module _ (m t : List ℤ) where
  -- the field of a key, and the count of it
  abbrev pub one : ℕ → List ℕ
  one j = piece_field m (location_of m j) (piece_in m j) (at_key m (piece_of m t) j)

  abbrev pub counts : ℕ → ℕ
  counts j = presence (at_key m (piece_of m t) j)

  -- all fields, and their count, by key
  pub fields_keys : piece_fields m t ≡ cat (piece_count m) one
  unfolding piece_fields location_fields piece_count pieces_before
  fields_keys = cat_rows (L# m) (pieces m) (λ l q. piece_field m l q (piece_of m t l q)) one (λ l q u v. sym (at_key_lem m (λ l q. piece_field m l q (piece_of m t l q)) l q u v))

  pub present_keys : present_pieces m t ≡ sum_below (piece_count m) counts
  unfolding present_pieces piece_count pieces_before
  present_keys = sum_rows (L# m) (pieces m) (λ l q. presence (piece_of m t l q)) counts (λ l q u v. sym (at_key_lem m (λ l q. presence (piece_of m t l q)) l q u v))

  module _ (k : ℕ) (key : ℕ → ℕ) (asc : Ascending (piece_count m) (λ j. is_present (at_key m (piece_of m t) j)) k key) where
    pub file_listed : table_file m t ≡ listed k (λ i. entry m (location_of m (key i)) (piece_in m (key i)) (box_of (at_key m (piece_of m t) (key i))))
    unfolding table_file
    file_listed = ap₂ (λ (x : ℕ) (s : List ℕ). field 6 (word_bytes (pos x)) ++ s)
        (present_keys ∙ counted_all (piece_count m) (λ j. is_present (at_key m (piece_of m t) j)) k key asc one none counts some zero_counts)
        (fields_keys ∙ along (piece_count m) (λ j. is_present (at_key m (piece_of m t) j)) k key asc one none counts some zero_counts
        ∙ cat_ext k _ _ (λ i l. field_some m (location_of m (key i)) (piece_in m (key i)) (at_key m (piece_of m t) (key i)) (asc.is_marked i l)))
      where
        none : (j : ℕ) → j < piece_count m → T (not (is_present (at_key m (piece_of m t) j))) → one j ≡ []
        none j l h = field_none m (location_of m j) (piece_in m j) (at_key m (piece_of m t) j) h

        some : (j : ℕ) → j < piece_count m → T (is_present (at_key m (piece_of m t) j)) → counts j ≡ 1
        some j l h = presence_some (at_key m (piece_of m t) j) h

        zero_counts : (j : ℕ) → j < piece_count m → T (not (is_present (at_key m (piece_of m t) j))) → counts j ≡ 0
        zero_counts j l h = presence_none (at_key m (piece_of m t) j) h

-- ---- reading such a file

module _ (m : List ℤ) (k : ℕ) (e : ℕ → List ℤ) (small : n# m ≤ 6) (few : k < 2147483648) (sized : (i : ℕ) → i < k → length (e i) ≡ piece_field_size m) where
  abbrev file : List ℕ
  file = listed k e

  abbrev head : List ℕ
  head = field 6 (word_bytes (pos k))

  head_length : length head ≡ pieces_from
  head_length = length-field 6 (word_bytes (pos k)) ∙ ap (λ (j : ℕ). 3 + j) (length-word (pos k))

  pub head_back : field_at file 0 ≡ Whole 6 3 4 7
  head_back = field_back [] 6 (word_bytes (pos k)) (cat k (λ i. field 5 (words_bytes (e i)))) 0 4 refl (length-word (pos k)) (omega arith)

  pub count_back : count_word file ≡ pos k
  unfolding count_word field
  count_back = word_back (6 ∷ (length (word_bytes (pos k)) / 256) ∷ (length (word_bytes (pos k)) % 256) ∷ []) (pos k) (cat k (λ i. field 5 (words_bytes (e i)))) 3 refl (fits32 (omega arith))

  pub piece_field_back : (i : ℕ) → i < k → field_at file (piece_field_at m i) ≡ Whole 5 (piece_field_at m i + 3) (4 * piece_field_size m) (piece_field_at m i + 3 + 4 * piece_field_size m)
  piece_field_back i l =
      subst (λ (x : List ℕ). field_at (head ++ x) (piece_field_at m i) ≡ Whole 5 (piece_field_at m i + 3) (4 * piece_field_size m) (piece_field_at m i + 3 + 4 * piece_field_size m))
      (append-nil (cat k (λ i. field 5 (words_bytes (e i)))))
      (fields_back head 5 e k (piece_field_size m) [] pieces_from head_length sized i l (omega (arith, place_most m)))

  pub piece_words_back : (i : ℕ) → i < k → AreWords (e i) → piece_field_words m file i ≡ e i
  unfolding piece_field_words
  piece_words_back i l f =
      subst (λ (x : List ℕ). words_at (head ++ x) (piece_field_at m i + 3) (piece_field_size m) ≡ e i) (append-nil (cat k (λ i. field 5 (words_bytes (e i)))))
      (fields_words_back head 5 e k (piece_field_size m) [] pieces_from head_length sized i l f)

  pub length_of_file : length file ≡ piece_field_at m k
  length_of_file = omega (arith, length-append head (cat k (λ i. field 5 (words_bytes (e i)))), head_length, length_fields head 5 e k (piece_field_size m) [] pieces_from head_length sized k (omega arith))

  -- its length is told by its own bytes, whatever follows it
  module _ (rest : List ℕ) where
    count_told : k < 65536 → get_or (file ++ rest) 5 0 * 256 + get_or (file ++ rest) 6 0 ≡ k
    unfolding field word_bytes
    count_told h = omega arith

    first_told : 0 < k → length_at (file ++ rest) pieces_from ≡ 4 * piece_field_size m
    first_told h =
        let at : pieces_from ≡ piece_field_at m 0 = omega arith in
        ap₂ length_at (append_assoc head (cat k (λ i. field 5 (words_bytes (e i)))) rest) at
        ∙ sym (field_lies _ _ _ _ _ _ (fields_back head 5 e k (piece_field_size m) rest pieces_from head_length sized 0 h (omega (arith, place_most m)))).len_is

    pub length_told : k < 65536 → file_length (file ++ rest) ≡ length file
    length_told h = rw (count_told h) (total k (length_at (file ++ rest) pieces_from) first_told ∙ sym length_of_file)
      where
        total : (i l : ℕ) → (0 < i → l ≡ 4 * piece_field_size m) → pieces_from + i * (3 + l) ≡ piece_field_at m i
        total zero l f = omega arith
        total (suc i) l f = rw (f (omega arith)) refl

-- ---- the pieces of a file

-- two numbers that are not both equal to two others
pub not_named : (a b c d : ℕ) → (a ≡ c → b ≡ d → ⊥) → (eqb a c && eqb b d) ≡ false
not_named a b c d h = by (eqb a c) (eqb b d) refl refl
  where
    by : (x y : Bool) → eqb a c ≡ x → eqb b d ≡ y → (x && y) ≡ false
    by true true e f = absurd (h (eqb→eq a c (rw e tt)) (eqb→eq b d (rw f tt)))
    by true false e f = refl
    by false y e f = refl

module _ (m : List ℤ) (s : List ℕ) where
  abbrev pub field_words : ℕ → List ℤ
  field_words i = piece_field_words m s i

  -- the location and the piece that field i names, and its box
  abbrev pub location_at : ℕ → ℕ
  location_at i = num (field_words i) 0

  abbrev pub piece_named_at : ℕ → ℕ
  piece_named_at i = piece_named m (field_words i)

  abbrev pub box_at_field : ℕ → List ℤ
  box_at_field i = box_at (n# m) (field_words i) (place_size m)

  -- field i names piece q of location l
  abbrev names : (i l q : ℕ) → Bool
  names i l q = eqb (location_at i) l && eqb (piece_named_at i) q

  piece_none : (k l q : ℕ) → ((i : ℕ) → i < k → names i l q ≡ false) → file_face m s k l q ≡ absent
  unfolding file_face
  piece_none zero l q h = refl
  piece_none (suc k) l q h = rw (h k (omega arith)) (piece_none k l q (λ i u. h i (omega arith)))

  piece_at : (k i l q : ℕ) → i < k → names i l q ≡ true → ((j : ℕ) → i < j → j < k → names j l q ≡ false) → file_face m s k l q ≡ present (box_at_field i)
  unfolding file_face
  piece_at zero i l q u e h = absurd (omega arith)
  piece_at (suc k) i l q u e h =
      ⊎_elim (λ v. rw (h k v (omega arith)) (piece_at k i l q v e (λ j w x. h j w (omega arith)))) (λ (p : i ≡ k). rw (← p) (rw e refl)) (split i k u)

  record Named (k l q : ℕ) : Type 0 where
    index : ℕ
    is_below : index < k
    location : location_at index ≡ l
    piece : piece_named_at index ≡ q

  piece_found : (k l q : ℕ) → T (is_present (file_face m s k l q)) → Named k l q
  unfolding file_face
  piece_found zero l q h = absurd h
  piece_found (suc k) l q h = by (piece_found k l q) (eqb (location_at k) l) (eqb (piece_named_at k) q) refl refl h
    where
      by : (T (is_present (file_face m s k l q)) → Named k l q) → (a b : Bool) → eqb (location_at k) l ≡ a → eqb (piece_named_at k) q ≡ b
          → T (is_present (cond (a && b) (present (box_at_field k)) (file_face m s k l q))) → Named (suc k) l q
      by rest true true x y g = record { index = k; is_below = omega arith; location = eqb→eq _ _ (rw x tt); piece = eqb→eq _ _ (rw y tt) }
      by rest true false x y g = let r : Named k l q = rest g in record { index = r.index; is_below = omega (arith, r.is_below); location = r.location; piece = r.piece }
      by rest false b x y g = let r : Named k l q = rest g in record { index = r.index; is_below = omega (arith, r.is_below); location = r.location; piece = r.piece }

  -- k fields name pieces that exist, in ascending order
  pub record InOrder (k : ℕ) : Type 0 where
    pub location : (i : ℕ) → i < k → location_at i < L# m
    pub piece : (i : ℕ) → i < k → piece_named_at i < pieces m (location_at i)
    pub ascends : (i : ℕ) → suc i < k → piece_key m (field_words i) < piece_key m (field_words (suc i))

  module _ (k : ℕ) (p : InOrder k) where
    abbrev pub key_of : ℕ → ℕ
    key_of i = piece_key m (field_words i)

    pub key_l : (i : ℕ) → i < k → location_of m (key_of i) ≡ location_at i
    key_l i u = key_location m (location_at i) (piece_named_at i) (p.location i u) (p.piece i u)

    pub key_q : (i : ℕ) → i < k → piece_in m (key_of i) ≡ piece_named_at i
    key_q i u = key_piece m (location_at i) (piece_named_at i) (p.location i u) (p.piece i u)

    -- the piece that field i names has its box
    pub piece_of_field : (i : ℕ) → i < k → file_face m s k (location_at i) (piece_named_at i) ≡ present (box_at_field i)
    piece_of_field i u = piece_at k i (location_at i) (piece_named_at i) u
        (rw (eq-eqb (location_at i) (location_at i) refl, eq-eqb (piece_named_at i) (piece_named_at i) refl) refl) others
      where
        later : (j : ℕ) → i < j → j < k → key_of i < key_of j
        later j v w = omega (arith, p.ascends i (omega arith), key_le k key_of p.ascends (suc i) j v w)

        others : (j : ℕ) → i < j → j < k → names j (location_at i) (piece_named_at i) ≡ false
        others j v w = not_named (location_at j) (piece_named_at j) (location_at i) (piece_named_at i)
            (λ a b. omega (arith, later j v w, ap (pieces_before m) a, b))

    -- the fields are those of the present pieces
    pub in_order : Ascending (piece_count m) (λ j. is_present (at_key m (file_face m s k) j)) k key_of
    in_order = record {
      below = λ i u. piece_counted m (location_at i) (piece_named_at i) (p.location i u) (p.piece i u);
      ascends = p.ascends;
      is_marked = λ i u. rw (key_l i u, key_q i u, piece_of_field i u) tt;
      found = λ j u h. let r : Named k (location_of m j) (piece_in m j) = piece_found k (location_of m j) (piece_in m j) h in
          record { index = r.index; is_below = r.is_below; is = ap₂ (λ (l q : ℕ). pieces_before m l + q) r.location r.piece ∙ key_again m j u };
    }
