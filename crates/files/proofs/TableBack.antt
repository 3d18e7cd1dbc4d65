-- Reading and writing a table file undo each other: both sides are the list of the present pieces by ascending key.
use Rattle.std.specs.Prelude.{Err, Ok}
use mathlib.Core.Path.{◌≡◌, refl, sym, ap, ap₂, ◌∙◌, subst}
use mathlib.Core.Bool.{true, cond}
use mathlib.Core.List.{List, [], ◌∷◌, ◌++◌}
use Prim.Native.Nat.{ℕ, zero, suc, ◌+◌, ◌*◌, ◌-◌, ◌<◌, ◌≤◌}
use native.Mathlib.Omega.{arith}
use borrow.Author.Tests.{eq-eqb, lt-leb}
use lib.Dec.{T, eqb, eqb_refl, leb, le→leb, leb→le}
use lib.IntN.{ℤ, pos, nat_abs}
use lib.Signed.{le_z}
use lib.ListN.{length, take, length-append, replicate}
use mir.Syntax.{w32}
use mir.Val.{SFits}
use mir.Facts.{sfits_lit}
use Rattle.integers.specs.Words.{word, num, AreWords, AreBytes, within, onto}
use Rattle.integers.proofs.Order.{trans}
use Rattle.integers.proofs.Tests.{by_test, and_intro, is_true}
use Rattle.integers.specs.Counted.{cat}
use Rattle.integers.proofs.Every.{every_none, every_more, every_append, every_cat}
use Rattle.integers.proofs.Buffers.{cat_ext, take-onto}
use Rattle.integers.proofs.Signed.{fits32, between}
use Rattle.files.specs.Bytes.{word_bytes, words_bytes}
use Rattle.files.specs.Fields.{field_at, field, is_field}
use Rattle.files.proofs.Words.{length-word, length_bytes, length_words, word_are_bytes, words_are_bytes}
use Rattle.files.proofs.Fields.{field_are_bytes}
use Rattle.plant.specs.Ask.{ask, first, ◌then◌}
use Rattle.plant.specs.Box.{low, high, box_by, box_at, Face, absent, present, face_words}
use Rattle.plant.specs.Model.{n#, L#, invariant}
use Rattle.plant.specs.Questions.{model_questions}
use Rattle.plant.specs.Pieces.{any_cut, per_face, pieces, piece_face, piece_index}
use Rattle.plant.specs.Tables.{pieces_before, piece_count, table_size, longest_table_file, table_by, piece_of, table_ok}
use Rattle.plant.proofs.Asks.{ask_intro, ask_yes, asked, then_both, then_intro, first_intro, ask_le, then_le, first_le}
use Rattle.plant.proofs.Numbers.{model_le}
use Rattle.plant.proofs.Boxes.{length-box_by, length-box_at, box_ends}
use Rattle.plant.proofs.Passed.{InRange, Passed, passed}
use Rattle.plant.proofs.Pieces.{per_face_most, face_below, index_below}
use Rattle.plant.proofs.Tables.{ends, words_ends, piece_counted, count_most, table_length, table_ext, begins_itself, piece_read, OkFace, ok_valid, made_ok}
use Rattle.plant.specs.Calls.{ReadOutcome, read_reply, words_read, zeroed, WriteOutcome, write_reply, bytes_written, write_by, unless_refused}
use Rattle.plant.proofs.FaceWords.{piece_words_lem}
use Rattle.plant.proofs.Reading.{past, done}
use Rattle.plant.proofs.Writing.{not_refused}
use Rattle.files.specs.TableFile.{place_size, piece_field_size, place_words, table_file, file_length, piece_field_at, count_word, count_question, words_of_field, piece_field_words, piece_word, piece_named, piece_key, least_key, place_ok, piece_question, piece_questions, file_face, count#, file_table, fields_questions, table_file_questions, room_questions, read_faces, read_table_call, write_questions, write_table_call}
use Rattle.files.specs.TableBack.{TableBack}
use Rattle.files.proofs.Keys.{Among, Ascending, Listing, listing, no_longer}
use Rattle.files.proofs.PieceKeys.{location_of, piece_in, key_location, key_piece, key_below, key_again, at_key, at_key_lem, table_again}
use Rattle.files.proofs.PlaceWords.{place_most, length_place, place_location, place_face, place_piece, place_named, place_box, place_and_box}
use Rattle.files.proofs.Listed.{is_present, box_of, entry, listed, file_listed, head_back, count_back, piece_field_back, piece_words_back, length_of_file, length_told, field_words, location_at, piece_named_at, box_at_field, InOrder, key_of, key_l, key_q, piece_of_field, in_order}
use Rattle.files.proofs.TableAsked.{FieldsYes, fields_yes, fields_in_order, file_again, room_yes}

-- ---- words

abbrev Fits : ℤ → Type 0
Fits z = SFits w32 z

-- a box of words
box_words : (n : ℕ) (lo hi : ℕ → ℤ) → ((i : ℕ) → i < n → Fits (lo i)) → ((i : ℕ) → i < n → Fits (hi i)) → AreWords (box_by n lo hi)
unfolding box_by
box_words n lo hi p q = every_cat Fits (pos 0) (sfits_lit tt) n (λ i. lo i ∷ hi i ∷ [])
    (λ i l. every_more Fits (pos 0) (lo i) (hi i ∷ []) (p i l) (every_more Fits (pos 0) (hi i) [] (q i l) (every_none Fits (pos 0) (sfits_lit tt))))

-- a place of small numbers
place_words_lem : (m : List ℤ) (l q : ℕ) → l < 64 → piece_face m l q < 12 → AreWords (place_words m l q)
unfolding place_words
place_words_lem m l q u v =
    let piece : List ℤ = cond (any_cut m) (pos (piece_index m l q) ∷ []) [] in
    every_more Fits (pos 0) (pos l) (pos (piece_face m l q) ∷ piece) (fits32 (omega arith))
    (every_more Fits (pos 0) (pos (piece_face m l q)) piece (fits32 (omega arith))
    (by_test AreWords (any_cut m)
    (λ _. every_more Fits (pos 0) (pos (piece_index m l q)) [] (fits32 (omega (arith, index_below m l q, per_face_most m l))) (every_none Fits (pos 0) (sfits_lit tt)))
    (λ _. every_none Fits (pos 0) (sfits_lit tt))))

entry_words : (m : List ℤ) (l q : ℕ) (b : List ℤ) → l < 64 → piece_face m l q < 12 → AreWords (box_by (n# m) (low b) (high b)) → AreWords (entry m l q b)
entry_words m l q b u v h = every_append Fits (pos 0) (place_words m l q) (box_by (n# m) (low b) (high b)) (place_words_lem m l q u v) h

ok_words : (m : List ℤ) → Passed m → (l q : ℕ) → l < L# m → (g : Face) → OkFace m l q g → AreWords (box_by (n# m) (low (box_of g)) (high (box_of g)))
unfolding low high
ok_words m ok l q u absent p = box_words (n# m) (low []) (high []) (λ i v. sfits_lit tt) (λ i v. sfits_lit tt)
ok_words m ok l q u (present b) p = box_words (n# m) (low b) (high b)
    (λ i v. fits32 (omega (arith, low_level i v)))
    (λ i v. fits32 (omega (arith, high_level i v)))
  where
    inv : List ℤ
    inv = invariant m l

    levels : InRange (2 * n# m) 1000000 inv
    levels = (ok.of_location l u).invariant_levels

    low_level : (i : ℕ) → i < n# m → nat_abs (low b i) ≤ 1000000
    low_level i v = between (low b i) (p.wall.inside.lower i v) (trans (p.wall.ordered i v) (p.wall.inside.higher i v)) (levels (2 * i) (omega arith)) (levels (2 * i + 1) (omega arith))

    high_level : (i : ℕ) → i < n# m → nat_abs (high b i) ≤ 1000000
    high_level i v = between (high b i) (trans (p.wall.inside.lower i v) (p.wall.ordered i v)) (p.wall.inside.higher i v) (levels (2 * i) (omega arith)) (levels (2 * i + 1) (omega arith))

-- ---- written, then read

within_intro : (k most : ℕ) → k ≤ most → T (within (pos 0) (pos most) (pos k))
within_intro k most h = and_intro (le_z (pos 0) (pos k)) (le_z (pos k) (pos most)) (le→leb 0 k (omega arith)) (le→leb k most h)

module _ (m t : List ℤ) (asks : model_questions m ≡ 0) (long : table_size m ≤ length t) (good : T (table_ok m t)) where
  ok : Passed m
  ok = passed m asks

  abbrev given : ℕ → Face
  given j = at_key m (piece_of m t) j

  list : Listing (piece_count m) (λ j. is_present (given j))
  list = listing (piece_count m) (λ j. is_present (given j))

  k : ℕ
  k = list.count

  -- the location and the piece of field i
  abbrev at_l : ℕ → ℕ
  at_l i = location_of m (list.key i)

  abbrev at_q : ℕ → ℕ
  at_q i = piece_in m (list.key i)

  abbrev box : ℕ → List ℤ
  box i = let b = box_of (given (list.key i)) in box_by (n# m) (low b) (high b)

  words : ℕ → List ℤ
  words i = entry m (at_l i) (at_q i) (box_of (given (list.key i)))

  file : List ℕ
  file = listed k words

  is_file : table_file m t ≡ file
  unfolding file k words
  is_file = file_listed m t list.count list.key list.asc

  box_length : (i : ℕ) → length (box i) ≡ 2 * n# m
  box_length i = let b = box_of (given (list.key i)) in length-box_by (n# m) (low b) (high b)

  sized : (i : ℕ) → i < k → length (words i) ≡ piece_field_size m
  unfolding words
  sized i u = omega (arith, length-append (place_words m (at_l i) (at_q i)) (box i), length_place m (at_l i) (at_q i), box_length i)

  most : k ≤ piece_count m
  unfolding k
  most = no_longer (piece_count m) _ list.count list.key list.asc

  few : k ≤ 1536
  few = omega (arith, most, count_most m ok.n_small ok.L_small)

  below : (i : ℕ) → i < k → (at_l i < L# m) × (at_q i < pieces m (at_l i))
  unfolding k
  below i u = key_below m (list.key i) (list.asc.below i u)

  face_small : (i : ℕ) → i < k → piece_face m (at_l i) (at_q i) < 2 * n# m
  face_small i u = face_below m (at_l i) (at_q i) (below i u).1

  are_words : (i : ℕ) → i < k → AreWords (words i)
  unfolding words
  are_words i u =
      entry_words m (at_l i) (at_q i) (box_of (given (list.key i))) (omega (arith, (below i u).0, ok.L_small)) (omega (arith, face_small i u, ok.n_small))
      (ok_words m ok (at_l i) (at_q i) (below i u).0 (given (list.key i)) ((ok_valid m t good).valid (at_l i) (at_q i) (below i u).0 (below i u).1))

  read_words : (i : ℕ) → i < k → field_words m file i ≡ words i
  unfolding file
  read_words i u = piece_words_back m k words ok.n_small (omega (arith, few)) sized i u (are_words i u)

  count_is : count# file ≡ k
  unfolding file
  count_is = ap nat_abs (count_back m k words ok.n_small (omega (arith, few)) sized)

  -- what field i names
  word_location : (i : ℕ) → i < k → word (field_words m file i) 0 ≡ pos (at_l i)
  unfolding words
  word_location i u = ap (λ (w : List ℤ). word w 0) (read_words i u) ∙ place_location m (at_l i) (at_q i) (box i)

  word_face : (i : ℕ) → i < k → word (field_words m file i) 1 ≡ pos (piece_face m (at_l i) (at_q i))
  unfolding words
  word_face i u = ap (λ (w : List ℤ). word w 1) (read_words i u) ∙ place_face m (at_l i) (at_q i) (box i)

  word_piece : (i : ℕ) → i < k → piece_word m (field_words m file i) ≡ pos (piece_index m (at_l i) (at_q i))
  unfolding words
  word_piece i u = ap (piece_word m) (read_words i u) ∙ place_piece m (at_l i) (at_q i) (box i) (below i u).0

  num_location : (i : ℕ) → i < k → location_at m file i ≡ at_l i
  num_location i u = ap nat_abs (word_location i u)

  named_piece : (i : ℕ) → i < k → piece_named_at m file i ≡ at_q i
  unfolding words
  named_piece i u = ap (piece_named m) (read_words i u) ∙ place_named m (at_l i) (at_q i) (box i) (below i u).0

  key_is : (i : ℕ) → i < k → piece_key m (field_words m file i) ≡ list.key i
  unfolding k
  key_is i u = ap₂ (λ (l q : ℕ). pieces_before m l + q) (num_location i u) (named_piece i u) ∙ key_again m (list.key i) (list.asc.below i u)

  after_is : (i : ℕ) → i < k → T (leb (least_key m file i) (piece_key m (field_words m file i)))
  unfolding k
  after_is zero u = le→leb 0 (piece_key m (field_words m file 0)) (omega arith)
  after_is (suc i) u = le→leb (piece_key m (field_words m file i) + 1) (piece_key m (field_words m file (suc i))) (omega (arith, key_is i (omega arith), key_is (suc i) u, list.asc.ascends i u))

  place_is : (i : ℕ) → i < k → T (place_ok m (field_words m file i) (least_key m file i))
  unfolding place_ok
  place_is i u =
      let w : List ℤ = field_words m file i in
      let a : T (within (pos 0) (pos (L# m - 1)) (word w 0)) = rw (word_location i u) (within_intro (at_l i) (L# m - 1) (omega (arith, (below i u).0))) in
      let b : T (within (pos 0) (pos (2 * n# m - 1)) (word w 1)) = rw (word_face i u) (within_intro (piece_face m (at_l i) (at_q i)) (2 * n# m - 1) (omega (arith, face_small i u))) in
      let c : T (within (pos 0) (pos (per_face m (num w 0) - 1)) (piece_word m w)) =
      rw (word_piece i u, word_location i u) (within_intro (piece_index m (at_l i) (at_q i)) (per_face m (at_l i) - 1) (omega (arith, index_below m (at_l i) (at_q i)))) in
      and_intro (within (pos 0) (pos (L# m - 1)) (word w 0)) _ a
      (and_intro (within (pos 0) (pos (2 * n# m - 1)) (word w 1)) _ b
      (and_intro (within (pos 0) (pos (per_face m (num w 0) - 1)) (piece_word m w)) (leb (least_key m file i) (piece_key m w)) c (after_is i u)))

  field_is : (i : ℕ) → i < k → T (is_field (field_at file (piece_field_at m i)) 5 (4 * piece_field_size m))
  unfolding file
  field_is i u = rw (piece_field_back m k words ok.n_small (omega (arith, few)) sized i u) (eqb_refl (4 * piece_field_size m))

  count_asked : count_question m file ≡ 0
  unfolding count_question file
  count_asked =
      let a : T (is_field (field_at file 0) 6 4) = rw (head_back m k words ok.n_small (omega (arith, few)) sized) tt in
      let b : T (within (pos 0) (pos (piece_count m)) (count_word file)) = rw (count_back m k words ok.n_small (omega (arith, few)) sized) (within_intro k (piece_count m) most) in
      then_intro (ask_intro (is_field (field_at file 0) 6 4) 35 a) (ask_intro (within (pos 0) (pos (piece_count m)) (count_word file)) 35 b)

  piece_asked : (i : ℕ) → i < k → piece_questions m file i ≡ 0
  unfolding piece_question piece_field_words
  piece_asked i u = then_intro (ask_intro (is_field (field_at file (piece_field_at m i)) 5 (4 * piece_field_size m)) 36 (field_is i u)) (ask_intro (place_ok m (field_words m file i) (least_key m file i)) 37 (place_is i u))

  end_asked : eqb (length file) (piece_field_at m (count# file)) ≡ true
  unfolding file
  end_asked = eq-eqb (length file) (piece_field_at m (count# file)) (length_of_file m k words ok.n_small (omega (arith, few)) sized ∙ ap (piece_field_at m) (sym count_is))

  fields_asked : fields_questions m file ≡ 0
  unfolding fields_questions
  fields_asked =
      then_intro count_asked
      (then_intro (first_intro (count# file) (piece_questions m file) (λ i u. piece_asked i (omega (arith, count_is)))) (rw end_asked))

  -- and its box
  read_box : (i : ℕ) → i < k → box_at_field m file i ≡ box i
  unfolding words
  read_box i u = ap (λ (w : List ℤ). box_at (n# m) w (place_size m)) (read_words i u) ∙ place_box m (at_l i) (at_q i) (box i) (box_length i)

  order : InOrder m file k
  unfolding k
  order = record {
    location = λ i u. rw (num_location i u) (below i u).0;
    piece = λ i u. rw (named_piece i u, num_location i u) (below i u).1;
    ascends = λ i u. omega (arith, key_is i (omega arith), key_is (suc i) u, list.asc.ascends i u);
  }

  -- the piece that is read has the box of the piece that was written
  same_words : (l q : ℕ) → l < L# m → q < pieces m l → face_words (n# m) (file_face m file k l q) ≡ face_words (n# m) (piece_of m t l q)
  unfolding k
  same_words l q u v = by (piece_of m t l q) refl
    where
      j : ℕ
      j = pieces_before m l + q

      j_below : j < piece_count m
      j_below = piece_counted m l q u v

      at_j : (g : ℕ → ℕ → Face) → at_key m g j ≡ g l q
      at_j g = at_key_lem m g l q u v

      by : (g : Face) → piece_of m t l q ≡ g → face_words (n# m) (file_face m file k l q) ≡ face_words (n# m) (piece_of m t l q)
      by absent e = none (file_face m file k l q) refl
        where
          none : (g : Face) → file_face m file k l q ≡ g → face_words (n# m) (file_face m file k l q) ≡ face_words (n# m) (piece_of m t l q)
          none absent h = ap (face_words (n# m)) (h ∙ sym e)
          none (present b) h =
              let a : Among k (key_of m file k order) j = (in_order m file k order).found j j_below (rw (at_j (file_face m file k), h) tt) in
              let z : list.key a.index ≡ j = sym (key_is a.index a.is_below) ∙ a.is in
              absurd (subst (λ (x : Face). T (is_present x)) (ap given z ∙ at_j (piece_of m t) ∙ e) (list.asc.is_marked a.index a.is_below))
      by (present b) e =
          let a : Among k list.key j = list.asc.found j j_below (rw (at_j (piece_of m t), e) tt) in
          let el : location_at m file a.index ≡ l = num_location a.index a.is_below ∙ ap (location_of m) a.is ∙ key_location m l q u v in
          let eq : piece_named_at m file a.index ≡ q = named_piece a.index a.is_below ∙ ap (piece_in m) a.is ∙ key_piece m l q u v in
          ap (face_words (n# m))
          (ap₂ (file_face m file k) (sym el) (sym eq) ∙ piece_of_field m file k order a.index a.is_below
          ∙ ap present (read_box a.index a.is_below ∙ ap (λ (g : Face). box_by (n# m) (low (box_of g)) (high (box_of g))) (ap given a.is ∙ at_j (piece_of m t) ∙ e)))
          ∙ words_ends (n# m) (present b) ∙ ap (face_words (n# m)) (sym e)

  table_pieces : take (table_size m) t ≡ table_by m (piece_of m t)
  table_pieces = table_again m t (piece_words_lem m t long good)

  table_is : file_table m file ≡ take (table_size m) t
  unfolding file_table
  table_is = ap (λ (c : ℕ). table_by m (file_face m file c)) count_is ∙ table_ext m (file_face m file k) (piece_of m t) same_words ∙ sym table_pieces

  table_asked : T (table_ok m (file_table m file))
  table_asked = rw (table_is, table_pieces) (made_ok m ok (table_by m (piece_of m t)) (piece_of m t) (begins_itself m (piece_of m t)) (ok_valid m t good).valid)

  questions : table_file_questions m file ≡ 0
  unfolding table_file_questions
  questions = then_intro fields_asked (ask_intro (table_ok m (file_table m file)) 32 table_asked)

  -- the file passes its questions, and its table is the one that was written
  pub file_asked : table_file_questions m (table_file m t) ≡ 0
  file_asked = ap (table_file_questions m) is_file ∙ questions

  pub file_table_lem : file_table m (table_file m t) ≡ take (table_size m) t
  file_table_lem = ap (file_table m) is_file ∙ table_is

  -- it is bytes
  pub file_bytes : AreBytes (table_file m t)
  unfolding file
  file_bytes =
      rw is_file
      (every_append (λ (b : ℕ). b < 256) 0 (field 6 (word_bytes (pos k))) (cat k (λ i. field 5 (words_bytes (words i))))
      (field_are_bytes 6 (word_bytes (pos k)) (omega arith) (omega (arith, length-word (pos k))) (word_are_bytes (pos k) (fits32 (omega (arith, few)))))
      (every_cat (λ (b : ℕ). b < 256) 0 (omega arith) k (λ i. field 5 (words_bytes (words i)))
      (λ i u. field_are_bytes 5 (words_bytes (words i)) (omega arith) (omega (arith, length_bytes (words i), sized i u, place_most m, ok.n_small)) (words_are_bytes (words i) (are_words i u)))))

  -- its length is told by its own bytes
  pub file_told : (rest : List ℕ) → file_length (table_file m t ++ rest) ≡ length (table_file m t)
  unfolding file
  file_told rest = rw is_file (length_told m k words ok.n_small (omega (arith, few)) sized rest (omega (arith, few)))

-- ---- read, then written

-- no refusal is 100
pub table_le : (m : List ℤ) (s : List ℕ) → table_file_questions m s ≤ 38
unfolding table_file_questions fields_questions count_question piece_question
table_le m s =
    then_le (fields_questions m s) _ 38
    (then_le (count_question m s) _ 38 (then_le (ask (is_field (field_at s 0) 6 4) 35) _ 38 (omega (arith, ask_le (is_field (field_at s 0) 6 4) 35)) (omega (arith, ask_le (within (pos 0) (pos (piece_count m)) (count_word s)) 35)))
    (then_le (first (count# s) (piece_questions m s)) _ 38
    (first_le (count# s) (piece_questions m s) 38 (λ i. then_le (ask (is_field (field_at s (piece_field_at m i)) 5 (4 * piece_field_size m)) 36) _ 38
    (omega (arith, ask_le (is_field (field_at s (piece_field_at m i)) 5 (4 * piece_field_size m)) 36)) (omega (arith, ask_le (place_ok m (words_of_field m s (piece_field_at m i)) (least_key m s i)) 37))))
    (ask_le (eqb (length s) (piece_field_at m (count# s))) 38)))
    (omega (arith, ask_le (table_ok m (file_table m s)) 32))

module _ (m : List ℤ) (ok : Passed m) (s : List ℕ) (y : FieldsYes m s) where
  c : ℕ
  c = count# s

  named : InOrder m s c
  unfolding c
  named = fields_in_order m s y

  abbrev key : ℕ → ℕ
  key = key_of m s c named

  read_piece : (j : ℕ) → j < piece_count m → at_key m (piece_of m (file_table m s)) j ≡ ends (n# m) (at_key m (file_face m s c) j)
  unfolding file_table c
  read_piece j u =
      let b : (location_of m j < L# m) × (piece_in m j < pieces m (location_of m j)) = key_below m j u in
      piece_read m (table_by m (file_face m s (count# s))) (file_face m s (count# s)) (begins_itself m (file_face m s (count# s))) (location_of m j) (piece_in m j) b.0 b.1

  present_ends : (g : Face) → is_present (ends (n# m) g) ≡ is_present g
  present_ends absent = refl
  present_ends (present b) = refl

  present_same : (j : ℕ) → j < piece_count m → is_present (at_key m (piece_of m (file_table m s)) j) ≡ is_present (at_key m (file_face m s c) j)
  present_same j u = ap is_present (read_piece j u) ∙ present_ends (at_key m (file_face m s c) j)

  asc : Ascending (piece_count m) (λ j. is_present (at_key m (piece_of m (file_table m s)) j)) c key
  asc = let p = in_order m s c named in record {
    below = p.below;
    ascends = p.ascends;
    is_marked = λ i u. subst T (sym (present_same (key i) (p.below i u))) (p.is_marked i u);
    found = λ j u h. p.found j u (subst T (present_same j u) h);
  }

  field-length : (i : ℕ) → length (field_words m s i) ≡ piece_field_size m
  unfolding piece_field_words
  field-length i = length_words s (piece_field_at m i + 3) (piece_field_size m)

  -- the words of a field are those that its piece would be written with
  field_again : (i : ℕ) → i < c → entry m (location_of m (key i)) (piece_in m (key i)) (box_of (at_key m (piece_of m (file_table m s)) (key i))) ≡ field_words m s i
  unfolding c
  field_again i u =
      let w : List ℤ = field_words m s i in
      let b : List ℤ = box_at (n# m) w (place_size m) in
      let lb : length b ≡ 2 * n# m = length-box_at (n# m) w (place_size m) (omega (arith, field-length i)) in
      let eb : box_by (n# m) (low b) (high b) ≡ b = box_ends (n# m) b lb in
      let at : at_key m (file_face m s c) (key i) ≡ present b = rw (key_l m s c named i u, key_q m s c named i u) (piece_of_field m s c named i u) in
      let bx : box_of (at_key m (piece_of m (file_table m s)) (key i)) ≡ b = ap box_of (read_piece (key i) ((in_order m s c named).below i u) ∙ ap (ends (n# m)) at) ∙ eb in
      let p = y.places i u in
      rw (bx, key_l m s c named i u, key_q m s c named i u, eb)
      (place_and_box m w p.piece_below (field-length i) p.location_natural p.face_natural p.piece_natural)

  pub again : AreBytes s → table_file m (file_table m s) ≡ s
  unfolding c
  again b =
      file_listed m (file_table m s) c key asc
      ∙ ap (λ (x : List ℕ). field 6 (word_bytes (pos c)) ++ x) (cat_ext c _ _ (λ i u. ap (λ (w : List ℤ). field 5 (words_bytes w)) (field_again i u)))
      ∙ sym (file_again m s y b)

-- ---- over the calls

module _ (m : List ℤ) where
  room_le : (room : ℕ) → room_questions m room ≤ 46
  unfolding room_questions
  room_le room = then_le (model_questions m) _ 46 (model_le m) (omega (arith, ask_le (leb (table_size m) room) 20))

  room_asked : model_questions m ≡ 0 → (room : ℕ) → table_size m ≤ room → room_questions m room ≡ 0
  unfolding room_questions
  room_asked asks room h = then_intro asks (ask_intro (leb (table_size m) room) 20 (le→leb (table_size m) room h))

  -- ---- a read whose questions are all yes, and only such a one, gives the file's table

  abbrev is_read : List ℕ → List ℤ → ReadOutcome
  is_read s buffer = record { count = Ok (table_size m); words = onto (file_table m s) buffer }

  reads : (s : List ℕ) (buffer : List ℤ) → room_questions m (length buffer) ≡ 0 → table_file_questions m s ≡ 0 → read_table_call m s buffer ≡ is_read s buffer
  unfolding read_table_call
  reads s buffer r q = sym (past buffer r (past (zeroed buffer) q refl))

  read_yes : (s : List ℕ) (buffer : List ℤ) → (read_reply (read_table_call m s buffer)).code ≡ 100 → (room_questions m (length buffer) ≡ 0) × (table_file_questions m s ≡ 0)
  unfolding read_table_call
  read_yes s buffer code =
      let a = done (room_questions m (length buffer)) buffer (read_faces m s buffer) (omega (arith, room_le (length buffer))) code in
      (a.0, (done (table_file_questions m s) (zeroed buffer) (is_read s buffer) (omega (arith, table_le m s)) (ap (λ (o : ReadOutcome). (read_reply o).code) (sym a.1) ∙ code)).0)

  -- ---- the same of a write, and the table's file

  abbrev is_written : List ℤ → List ℕ → WriteOutcome
  is_written t bytes = record { count = Ok (length (table_file m t)); file = onto (table_file m t) bytes }

  -- the questions of a write, in two parts
  abbrev AsksWrite : List ℤ → ℕ → Type 0
  AsksWrite t room = (room_questions m (length t) ≡ 0) × T (table_ok m t) × (longest_table_file m ≤ room)

  writes : (t : List ℤ) (bytes : List ℕ) → AsksWrite t (length bytes) → write_table_call m t bytes ≡ is_written t bytes
  unfolding write_table_call write_questions
  writes t bytes y = ap (λ (q : ℕ). write_by q (table_file m t) bytes)
      (then_intro y.0
      (then_intro (ask_intro (table_ok m t) 32 y.1) (ask_intro (leb (longest_table_file m) (length bytes)) 39 (le→leb (longest_table_file m) (length bytes) y.2))))

  write_yes : (t : List ℤ) (bytes : List ℕ) → (write_reply (write_table_call m t bytes)).code ≡ 100 → AsksWrite t (length bytes)
  unfolding write_table_call write_questions
  write_yes t bytes code =
      let few : write_questions m t (length bytes) ≤ 46 =
      then_le (room_questions m (length t)) _ 46 (room_le (length t))
      (then_le (ask (table_ok m t) 32) _ 46 (omega (arith, ask_le (table_ok m t) 32)) (omega (arith, ask_le (leb (longest_table_file m) (length bytes)) 39))) in
      let a : (room_questions m (length t) ≡ 0) × _ = then_both (room_questions m (length t)) _ (not_refused (table_file m t) bytes (write_questions m t (length bytes)) (omega (arith, few)) code) in
      let b : T (table_ok m t) × _ = asked (table_ok m t) 32 _ (omega arith) a.1 in
      (a.0, b.0, leb→le (longest_table_file m) (length bytes) (ask_yes (leb (longest_table_file m) (length bytes)) 39 (omega arith) b.1))

-- ---- refusals

refused_by : (m t : List ℤ) (bytes : List ℕ) (q : ℕ) → write_questions m t (length bytes) ≡ suc q → write_table_call m t bytes ≡ record { count = Err (suc q); file = bytes }
unfolding write_table_call
refused_by m t bytes q e = rw e refl

too_short : (m t : List ℤ) (bytes : List ℕ) → model_questions m ≡ 0 → table_size m ≤ length t → T (table_ok m t) → length bytes < longest_table_file m → write_table_call m t bytes ≡ record { count = Err 39; file = bytes }
unfolding write_questions ◌then◌
too_short m t bytes asks long good short =
    refused_by m t bytes 38 (rw (room_asked m asks (length t) long, is_true {b = table_ok m t} good, lt-leb (longest_table_file m) (length bytes) short) refl)

read_refused_by : (m : List ℤ) (s : List ℕ) (buffer : List ℤ) (q : ℕ) → room_questions m (length buffer) ≡ suc q → read_table_call m s buffer ≡ record { count = Err (suc q); words = buffer }
unfolding read_table_call unless_refused
read_refused_by m s buffer q e = rw e refl

read_zeroed_by : (m : List ℤ) (s : List ℕ) (buffer : List ℤ) (q : ℕ) → room_questions m (length buffer) ≡ 0 → table_file_questions m s ≡ suc q
    → read_table_call m s buffer ≡ record { count = Err (suc q); words = replicate (length buffer) (pos 0) }
unfolding read_table_call unless_refused
read_zeroed_by m s buffer q e f = rw (e, f) refl

-- ---- the theorem

written : (m t : List ℤ) (bytes : List ℕ) → model_questions m ≡ 0 → table_size m ≤ length t → T (table_ok m t) → longest_table_file m ≤ length bytes
    → write_table_call m t bytes ≡ record { count = Ok (length (table_file m t)); file = onto (table_file m t) bytes }
written m t bytes asks long good room = writes m t bytes (room_asked m asks (length t) long, good, room)

written_read : (m t : List ℤ) (bytes : List ℕ) (buffer : List ℤ) → (write_reply (write_table_call m t bytes)).code ≡ 100 → table_size m ≤ length buffer
    → read_table_call m (bytes_written (write_table_call m t bytes)) buffer ≡ record { count = Ok (table_size m); words = onto (take (table_size m) t) buffer }
written_read m t bytes buffer code room =
    let y : AsksWrite m t (length bytes) = write_yes m t bytes code in
    let p : (model_questions m ≡ 0) × (table_size m ≤ length t) = room_yes m (length t) y.0 in
    let f : bytes_written (write_table_call m t bytes) ≡ table_file m t = ap bytes_written (writes m t bytes y) ∙ take-onto (table_file m t) bytes (length (table_file m t)) refl in
    ap (λ (s : List ℕ). read_table_call m s buffer) f
    ∙ reads m (table_file m t) buffer (room_asked m p.0 (length buffer) room) (file_asked m t p.0 p.1 y.1)
    ∙ ap (λ (w : List ℤ). record { count = Ok (table_size m); words = onto w buffer }) (file_table_lem m t p.0 p.1 y.1)

read_written : (m : List ℤ) (s : List ℕ) (buffer : List ℤ) (bytes : List ℕ) → AreBytes s → (read_reply (read_table_call m s buffer)).code ≡ 100 → longest_table_file m ≤ length bytes
    → write_table_call m (words_read (read_table_call m s buffer)) bytes ≡ record { count = Ok (length s); file = onto s bytes }
unfolding table_file_questions file_table
read_written m s buffer bytes are code room =
    let r : (room_questions m (length buffer) ≡ 0) × (table_file_questions m s ≡ 0) = read_yes m s buffer code in
    let asks : model_questions m ≡ 0 = (room_yes m (length buffer) r.0).0 in
    let ok : Passed m = passed m asks in
    let q : (fields_questions m s ≡ 0) × _ = then_both (fields_questions m s) _ r.1 in
    let l : length (file_table m s) ≡ table_size m = table_length m (file_face m s (count# s)) in
    let w : words_read (read_table_call m s buffer) ≡ file_table m s = ap words_read (reads m s buffer r.0 r.1) ∙ take-onto (file_table m s) buffer (table_size m) l in
    ap (λ (t : List ℤ). write_table_call m t bytes) w
    ∙ writes m (file_table m s) bytes (room_asked m asks (length (file_table m s)) (omega (arith, l)), ask_yes (table_ok m (file_table m s)) 32 (omega arith) q.1, room)
    ∙ ap (λ (x : List ℕ). record { count = Ok (length x); file = onto x bytes }) (again m ok s (fields_yes m s ok.n_positive ok.L_positive q.0) are)

pub table_back : TableBack
table_back = record {
  written = written;
  too_short = too_short;
  refused_by = refused_by;
  read_refused_by = read_refused_by;
  read_zeroed_by = read_zeroed_by;
  written_read = written_read;
  read_written = read_written;
}
