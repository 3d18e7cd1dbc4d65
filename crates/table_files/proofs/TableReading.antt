-- Laws of reading a table's file: the questions by the position and the least key that the code keeps, what a yes to them
-- tells, and how the table is filled piece by piece.
use mathlib.Core.Path.{◌≡◌, refl, sym, ap, ap₂, ◌∙◌, subst}
use mathlib.Core.Bool.{Bool, true, false, cond, ◌&&◌}
use mathlib.Core.List.{List, [], ◌∷◌, ◌++◌}
use Prim.Native.Nat.{ℕ, ◌+◌, ◌*◌, ◌-◌, ◌≤◌, ◌<◌}
use native.Mathlib.Nat.{mul-le-mul}
use native.Mathlib.Numerals.{add-one}
use native.Mathlib.Omega.{arith}
use borrow.Author.Tests.{le-leb, lt-leb, eq-eqb}
use borrow.Rule.Slice.PartMut.{put_mid}
use lib.Dec.{T, leb}
use lib.IntN.{ℤ, pos, nat_abs}
use lib.ListN.{length, take, drop, replicate, set, get_or, length-append, length-drop}
use lib.Seq.{get_or-take, get_or-drop, ext_get_or, length-take-le}
use Rattle.std.proofs.lemmas.List.{take-append-drop}
use Rattle.integers.specs.Words.{word, num, within, onto}
use Rattle.std.proofs.Math.Bool.{and_assoc}
use Rattle.integers.proofs.Tests.{and_yes, is_true, true_is}
use Rattle.integers.proofs.Counted.{within_abs}
use Rattle.integers.proofs.Buffers.{onto_all}
use Rattle.integers.proofs.Rows.{replicate-cat}
use Rattle.files.specs.Bytes.{word_at, words_at}
use Rattle.files.specs.Fields.{header_size, payload_length, field_at, is_field}
use Rattle.files.proofs.Words.{length_words, words_nth}
use Rattle.files.proofs.Fields.{field_lies, due, whole_is}
use Rattle.plant.specs.Ask.{ask, ◌then◌}
use Rattle.plant.specs.Box.{box_at, present, face_words}
use Rattle.plant.specs.Model.{n#, L#}
use Rattle.plant.specs.Pieces.{any_cut, per_face, piece_number}
use Rattle.plant.specs.Tables.{face_size, pieces_before, piece_count, table_size, piece_at, table_by}
use Rattle.std.specs.Prelude.{Option, Some, None, Ok, Err}
use Rattle.plant.specs.Calls.{zeroed}
use Rattle.plant.specs.declared.Refusal.{Refusal}
use Rattle.plant.specs.Refusals.{number}
use Rattle.plant.proofs.Asks.{or_left}
use Rattle.plant.proofs.Refusing.{number_not_0, refused_first}
use Rattle.plant.proofs.Boxes.{length-box_at, box_ends}
use Rattle.plant.proofs.Passed.{within_nonneg}
use Rattle.plant.proofs.Pieces.{per_face_most, per_face_least, number_below}
use Rattle.plant.proofs.Tables.{piece_counted, piece_inside, table_length}
use Rattle.plant.proofs.Reading.{refused_at, past}
use Rattle.plant.proofs.Whole.{Whole}
use Rattle.passes.proofs.Landing.{piece_put}
use Rattle.files.specs.TableFile.{place_size, piece_field_size, piece_field_at, count_word, count_question, piece_field_words, piece_word, piece_named, piece_key, least_key, place_ok, piece_question, file_face, count#, file_table, fields_questions, table_file_questions, read_faces}
use Rattle.table_files.specs.TableRoom.{size_by, FieldsReady, CountAt, names_piece, next_least, location_word, face_word, index_word, KeyAt}
use Rattle.table_files.proofs.Cuts.{size_is}
use Rattle.files.proofs.PieceKeys.{table_keys}
use Rattle.files.proofs.PlaceWords.{place_least, place_with}
use Rattle.files.proofs.Listed.{not_named, field_words, location_at, piece_named_at, box_at_field}
use Rattle.files.proofs.TableAsked.{PlaceYes, named_below, FieldsYes, count_yes}
use Rattle.files.proofs.TableSizes.{pieces_few}

-- ---- the words of a field by the position of its payload

module _ (m : List ℤ) (s : List ℕ) (start : ℕ) where
  abbrev pub words_from : List ℤ
  words_from = words_at s start (piece_field_size m)

  pub location_at_lem : word words_from 0 ≡ location_word s start
  location_at_lem = words_nth s start (piece_field_size m) 0 (omega (arith, place_least m)) ∙ ap (word_at s) (omega arith)

  pub face_at : word words_from 1 ≡ face_word s start
  face_at = words_nth s start (piece_field_size m) 1 (omega (arith, place_least m)) ∙ ap (word_at s) (omega arith)

  pub index_at : {cut : Bool} → cut ≡ any_cut m → piece_word m words_from ≡ index_word s start cut
  unfolding piece_word
  index_at {cut} ec = rw ec (by (any_cut m) refl)
    where
      by : (b : Bool) → any_cut m ≡ b → cond (any_cut m) (word words_from 2) (pos 0) ≡ index_word s start (any_cut m)
      by true e = rw e (words_nth s start (piece_field_size m) 2 (omega (arith, place_with m e)))
      by false e = rw e refl

  -- its key: so many pieces stand before the location l, of face f it is piece k, and a face has so many
  pub key_made : {cut : Bool} {l f k per before : ℕ} → cut ≡ any_cut m → l ≡ nat_abs (location_word s start) → f ≡ nat_abs (face_word s start) → k ≡ nat_abs (index_word s start cut)
      → per ≡ per_face m l → before ≡ pieces_before m l → before + (f * per + k) ≡ piece_key m words_from
  unfolding piece_named piece_number
  key_made ec el ef ek er eb = rw (location_at_lem, face_at, index_at ec, ← el, ← ef, ← ek, er, eb) refl

-- a model, how many pieces stand before each location, and whether any is cut
module _ {m : List ℤ} {places : List ℕ} {cut : Bool} (r : FieldsReady m places cut) where
  -- what stands before a location, as code has it
  pub before_is : (l : ℕ) → l < L# m → get_or places l 0 ≡ pieces_before m l
  before_is l u = r.are_places.each l (omega arith)

-- the least key of the next field, by 37 of this one
module _ (m w : List ℤ) (least : ℕ) where
  -- what code learns of it
  by_place : {P : Type 0} (o : Option ℕ) → o ≡ next_least m w least → (place_ok m w least ≡ false → o ≡ None → P) → (place_ok m w least ≡ true → o ≡ Some (piece_key m w + 1) → P) → P
  unfolding next_least
  by_place {P} o e refused passed = by (place_ok m w least) refl
    where
      by : (b : Bool) → place_ok m w least ≡ b → P
      by true h = passed h (rw h at e)
      by false h = refused h (rw h at e)

  pub least_none : None ≡ next_least m w least → false ≡ place_ok m w least
  least_none e = by_place None e (λ h _. sym h) (λ _ z. absurd (let k : ◌≡◌ {A = ℕ} 0 1 = cc in omega arith))

  pub least_some : {k : ℕ} → Some k ≡ next_least m w least → (true ≡ place_ok m w least) × (k ≡ piece_key m w + 1)
  least_some {k} e = by_place (Some k) e (λ _ z. absurd (let k : ◌≡◌ {A = ℕ} 0 1 = cc in omega arith)) (λ h z. (sym h, cc))

module _ (m : List ℤ) (s : List ℕ) where
  -- 37: the place names a piece, whose key is compared
  module _ {places : List ℕ} {cut : Bool} (r : FieldsReady m places cut) (start : ℕ) where
    abbrev location : Bool
    location = within (pos 0) (pos (L# m - 1)) (location_word s start)

    abbrev face : Bool
    face = within (pos 0) (pos (2 * n# m - 1)) (face_word s start)

    abbrev most : ℕ
    most = per_face m (nat_abs (location_word s start)) - 1

    abbrev index : Bool
    index = within (pos 0) (pos most) (index_word s start cut)

    place_named : (least : ℕ) → place_ok m (words_from m s start) least ≡ (names_piece m cut s start && leb least (piece_key m (words_from m s start)))
    unfolding place_ok
    place_named least =
        let w : List ℤ = words_from m s start in
        let key : Bool = leb least (piece_key m w) in
        let tests : ℤ → ℤ → ℤ → Bool = λ l f i. within (pos 0) (pos (L# m - 1)) l && (within (pos 0) (pos (2 * n# m - 1)) f && (within (pos 0) (pos (per_face m (nat_abs l) - 1)) i && key)) in
        ap (λ (z : ℤ). tests z (word w 1) (piece_word m w)) (location_at_lem m s start)
        ∙ ap₂ (tests (location_word s start)) (face_at m s start) (index_at m s start r.cut_is)
        ∙ sym (and_assoc location (face && index) key ∙ ap (λ (b : Bool). location && b) (and_assoc face index key))

    pub key_named : start + payload_length (size_by cut) ≤ length s → names_piece m cut s start ≡ true → KeyAt m places cut s start
    key_named there e =
        let l : T location × T (face && index) = and_yes location (face && index) (true_is e) in
        let f : T face × T index = and_yes face index l.1 in
        record {
          ready = r;
          index = record { there = there; natural = within_nonneg most (index_word s start cut) f.1 };
          location_natural = within_nonneg (L# m - 1) (location_word s start) l.0;
          face_natural = within_nonneg (2 * n# m - 1) (face_word s start) f.0;
          location_below = omega (arith, within_abs (location_word s start) (L# m - 1) l.0, r.whole.head.L_positive);
          face_below = omega (arith, within_abs (face_word s start) (2 * n# m - 1) f.0, r.whole.head.n_positive);
          index_below = omega (arith, within_abs (index_word s start cut) most f.1, per_face_least m (nat_abs (location_word s start)));
        }

    module _ (least : ℕ) where
      pub next_none : names_piece m cut s start ≡ false → None ≡ next_least m (words_from m s start) least
      unfolding next_least
      next_none e = rw (place_named least, e) refl

      module _ {k : ℕ} (e : names_piece m cut s start ≡ true) (ek : k ≡ piece_key m (words_from m s start)) where
        pub next_late : k < least → None ≡ next_least m (words_from m s start) least
        unfolding next_least
        next_late h = rw (place_named least, e, ← ek, lt-leb least k h) refl

        pub next_made : least ≤ k → Some (k + 1) ≡ next_least m (words_from m s start) least
        unfolding next_least
        next_made h = rw (place_named least, e, ← ek, le-leb least k h) refl

  -- a place that passes 37 names a piece
  pub key_passed : {places : List ℕ} {cut : Bool} {start least : ℕ} → FieldsReady m places cut → start + payload_length (size_by cut) ≤ length s → PlaceYes m (words_from m s start) least → KeyAt m places cut s start
  key_passed {cut = cut} {start} r there y =
      let lw : location_word s start ≡ pos (num (words_from m s start) 0) = sym (location_at_lem m s start) ∙ y.location_natural in
      let fw : face_word s start ≡ pos (num (words_from m s start) 1) = sym (face_at m s start) ∙ y.face_natural in
      let iw : index_word s start cut ≡ pos (nat_abs (piece_word m (words_from m s start))) = sym (index_at m s start r.cut_is) ∙ y.piece_natural in
      record {
        ready = r;
        index = record { there = there; natural = rw iw tt };
        location_natural = rw lw tt;
        face_natural = rw fw tt;
        location_below = rw lw y.location_below;
        face_below = rw fw y.face_below;
        index_below = rw (iw, lw) y.piece_below;
      }

  -- ---- the field at a position

  module _ (at least : ℕ) where
    abbrev len : ℕ
    len = payload_length (piece_field_size m)

    pub field_refused : (r : Refusal) → number r ≡ ask (is_field (field_at s at) 5 len) 36 → number r ≡ piece_question m s at least
    unfolding piece_question
    field_refused r e = refused_first r _ e

    module _ (whole : T (is_field (field_at s at) 5 len)) {start : ℕ} (es : start ≡ at + header_size) where
      pub field_there : {cut : Bool} → cut ≡ any_cut m → start + payload_length (size_by cut) ≤ length s
      field_there ec = omega (arith, (due s at 5 len whole).there, size_is m ec)

      pub piece_answered : {b : Bool} → b ≡ place_ok m (words_from m s start) least → piece_question m s at least ≡ ask b 37
      unfolding piece_question ◌then◌
      piece_answered {b} e =
          let w : is_field (field_at s at) 5 len ≡ true = is_true whole in
          rw (w, ← es) (ap (λ (x : Bool). ask x 37) (sym e))

  -- the position and the least key after field i
  pub place_next : (i : ℕ) {at next : ℕ} → at ≡ piece_field_at m i → next ≡ at + header_size + payload_length (piece_field_size m) → next ≡ piece_field_at m (i + 1)
  place_next i e f = omega arith

  pub least_next : (i : ℕ) {at start k : ℕ} → at ≡ piece_field_at m i → start ≡ at + header_size → k ≡ piece_key m (words_from m s start) + 1 → k ≡ least_key m s (i + 1)
  unfolding piece_field_words
  least_next i e es ek = rw (add-one i, ek, es, e) refl

-- the numbers stay small
module _ {m : List ℤ} {places s : List ℕ} {cut : Bool} {start : ℕ} (k : KeyAt m places cut s start) where
  -- the number of the piece, from its face f, the pieces of a face, and which of them it is
  pub number_few : {f per : ℕ} (l : ℕ) → f ≡ nat_abs (face_word s start) → per ≡ per_face m l → f * per ≤ 24
  number_few {f} {per} l ef ep =
      let a : f ≤ 12 = omega (arith, k.face_below, k.ready.whole.head.n_small) in
      let b : per ≤ 2 = omega (arith, per_face_most m l) in
      omega (arith, mul-le-mul a b)

  pub key_below : piece_key m (words_from m s start) < piece_count m
  unfolding piece_named
  key_below = rw (location_at_lem m s start, face_at m s start, index_at m s start k.ready.cut_is)
      (piece_counted m l _ k.location_below (number_below m l (nat_abs (face_word s start)) (nat_abs (index_word s start cut)) k.face_below k.index_below))
    where
      l : ℕ
      l = nat_abs (location_word s start)

  pub key_few : piece_key m (words_from m s start) < 1536
  key_few = omega (arith, key_below, pieces_few m k.ready.whole)

-- ---- what a file that passes tells

module _ (m : List ℤ) (w : Whole m) (s : List ℕ) (y : FieldsYes m s) where
  pub count_few : {c : ℕ} → c ≡ count# s → c ≤ 1536
  count_few e = omega (arith, y.count_most, pieces_few m w)

  module _ {c : ℕ} (ec : c ≡ count# s) (i at : ℕ) (below : i < c) (e : at ≡ piece_field_at m i) where
    counted : i < count# s
    counted = omega arith

    pub place_yes_at : PlaceYes m (field_words m s i) (least_key m s i)
    place_yes_at = y.places i counted

    -- field i is the due one
    pub field_due : T (is_field (field_at s at) 5 (payload_length (piece_field_size m)))
    field_due = rw e (whole_is _ 5 _ _ _ (y.fields i counted))

    module _ {start : ℕ} (es : start ≡ at + header_size) where
      pub field_ends : {cut : Bool} {n : ℕ} → cut ≡ any_cut m → n ≡ n# m → start + payload_length (size_by cut) + payload_length (2 * n) ≤ length s
      field_ends ec en = omega (arith, size_is m ec, en, (due s at 5 (payload_length (piece_field_size m)) field_due).there)

      words_are : words_from m s start ≡ field_words m s i
      unfolding piece_field_words
      words_are = rw (es, e) refl

      pub field_key : {places : List ℕ} {cut : Bool} → FieldsReady m places cut → KeyAt m places cut s start
      field_key r = key_passed m s r (omega (arith, field_ends r.cut_is refl)) (subst (λ (x : List ℤ). PlaceYes m x (least_key m s i)) (sym words_are) place_yes_at)

      -- its key k, and where the words of the piece stand in the table
      module _ {k size : ℕ} (ek : k ≡ piece_key m (words_from m s start)) (ez : size ≡ face_size (n# m)) where
        pub place_is : k * size ≡ piece_at m (location_at m s i) (piece_named_at m s i)
        unfolding piece_at
        place_is = ap₂ (λ (a b : ℕ). a * b) (ek ∙ ap (piece_key m) words_are) ez

        pub place_inside : k * size + size ≤ table_size m
        place_inside = omega (arith, ez, place_is, piece_inside m (location_at m s i) (piece_named_at m s i) place_yes_at.location_below (named_below place_yes_at))

pub asked_count : (m : List ℤ) (s : List ℕ) → fields_questions m s ≡ 0 → count_question m s ≡ 0
unfolding fields_questions
asked_count m s e = or_left (count_question m s) _ e

-- the count once 35 is answered yes
module _ (m : List ℤ) (s : List ℕ) (e : count_question m s ≡ 0) where
  pub counted_at : CountAt s
  counted_at = record {
    there = (field_lies s 0 6 3 4 7 (count_yes m s e).0).there;
    natural = within_nonneg (piece_count m) (count_word s) (count_yes m s e).1;
  }

  pub counted_few : Whole m → {c : ℕ} → c ≡ count# s → c ≤ 1536
  counted_few w ec = omega (arith, ec, within_abs (count_word s) (piece_count m) (count_yes m s e).1, pieces_few m w)

-- ---- filling the table

module _ (m : List ℤ) (s : List ℕ) where
  abbrev N : ℕ
  N = 2 * n# m

  abbrev w : ℕ
  w = face_size (n# m)

  -- all pieces absent
  pub table_none : (k : ℕ) → k ≡ table_size m → replicate k (pos 0) ≡ table_by m (file_face m s 0)
  unfolding file_face face_words table_size
  table_none k e = rw e (replicate-cat (piece_count m) w (pos 0)) ∙ sym (table_keys m (file_face m s 0))

  -- field i gives the piece that it names, and no other
  named_here : (i l q : ℕ) → location_at m s i ≡ l → piece_named_at m s i ≡ q → file_face m s (i + 1) l q ≡ present (box_at_field m s i)
  unfolding file_face
  named_here i l q a b = rw (add-one i, eq-eqb (location_at m s i) l a, eq-eqb (piece_named_at m s i) q b) refl

  named_elsewhere : (i l q : ℕ) → (location_at m s i ≡ l → piece_named_at m s i ≡ q → ⊥) → file_face m s i l q ≡ file_face m s (i + 1) l q
  unfolding file_face
  named_elsewhere i l q apart = rw (add-one i, not_named (location_at m s i) (piece_named_at m s i) l q apart) refl

  -- the box of field i, as its words stand in the file
  abbrev box_from : ℕ → ℕ
  box_from i = piece_field_at m i + header_size + payload_length (place_size m)

  box_is : (i : ℕ) → box_at_field m s i ≡ words_at s (box_from i) N
  unfolding box_at piece_field_words
  box_is i =
      let a : ℕ = piece_field_at m i + header_size in
      let p : ℕ = place_size m in
      let words : List ℤ = words_from m s a in
      let lb : length (box_at (n# m) words p) ≡ N = length-box_at (n# m) words p (omega (arith, length_words s a (piece_field_size m))) in
      ext_get_or (pos 0) (box_at (n# m) words p) (words_at s (box_from i) N) (lb ∙ sym (length_words s (box_from i) N))
      (λ j l. let k : j < N = omega (arith, lb) in
      get_or-take N (drop p words) j (pos 0) k ∙ get_or-drop p words j (pos 0) ∙ words_nth s a (piece_field_size m) (p + j) (omega arith)
      ∙ ap (word_at s) (omega arith) ∙ sym (words_nth s (box_from i) N j k))

  piece_is : (i : ℕ) → pos 1 ∷ words_at s (box_from i) N ≡ face_words (n# m) (present (box_at_field m s i))
  unfolding face_words
  piece_is i =
      ap (λ (x : List ℤ). pos 1 ∷ x) (sym (box_is i) ∙ sym (box_ends (n# m) (box_at_field m s i) (ap length (box_is i) ∙ length_words s (box_from i) N)))

  -- one piece more
  pub table_more : (i from : ℕ) (x : List ℤ) → from ≡ box_from i → PlaceYes m (field_words m s i) (least_key m s i)
      → x ≡ table_by m (file_face m s i)
      → put_mid (piece_at m (location_at m s i) (piece_named_at m s i)) w x (pos 1 ∷ words_at s from N) ≡ table_by m (file_face m s (i + 1))
  table_more i from x e y ex =
      ap (λ (z : List ℤ). put_mid (piece_at m l q) w z (pos 1 ∷ words_at s from N)) ex
      ∙ ap (put_mid (piece_at m l q) w (table_by m (file_face m s i))) (ap (λ (a : ℕ). pos 1 ∷ words_at s a N) e ∙ piece_is i ∙ ap (face_words (n# m)) (sym here))
      ∙ piece_put m (file_face m s i) (file_face m s (i + 1)) l q y.location_below (named_below y) elsewhere
    where
      l : ℕ
      l = location_at m s i

      q : ℕ
      q = piece_named_at m s i

      here : file_face m s (i + 1) l q ≡ present (box_at_field m s i)
      here = named_here i l q refl refl

      elsewhere : (a b : ℕ) → (a ≡ l → b ≡ q → ⊥) → file_face m s i a b ≡ file_face m s (i + 1) a b
      elsewhere a b no_piece = named_elsewhere i a b (λ x z. no_piece (sym x) (sym z))

  -- as the code puts it: at the place to of the words x, up to end
  pub table_put : (i : ℕ) (x y : List ℤ) {n to size start from : ℕ} → n ≡ n# m → size ≡ face_size n → start ≡ piece_field_at m i + header_size → from ≡ payload_length (place_size m)
      → PlaceYes m (field_words m s i) (least_key m s i) → x ≡ table_by m (file_face m s i) → to ≡ piece_at m (location_at m s i) (piece_named_at m s i)
      → y ≡ pos 1 ∷ words_at s (start + from) (2 * n) → put_mid to (to + size - to) x y ≡ table_by m (file_face m s (i + 1))
  table_put i x y {n} {to} {size} {start} {from} en es e ef p ex et ey =
      let ez : to + size - to ≡ face_size (n# m) = omega (arith, en) in
      rw (ez, ey, et, en) (table_more i (start + from) x (omega arith) p ex)

  pub table_size_lem : (i : ℕ) {x : List ℤ} → x ≡ table_by m (file_face m s i) → length x ≡ table_size m
  table_size_lem i e = rw e (table_length m (file_face m s i))

  pub table_end : (i : ℕ) → i ≡ count# s → table_by m (file_face m s i) ≡ file_table m s
  unfolding file_table
  table_end i e = rw e refl

pub row_length : (x : List ℤ) (a w : ℕ) → a + w ≤ length x → length (take (a + w - a) (drop a x)) ≡ w
row_length x a w h = length-take-le (a + w - a) (drop a x) (omega (arith, length-drop a x)) ∙ omega arith

-- ---- the words of one piece

pub piece_filled : (d y z : List ℤ) (k : ℕ) → length d ≡ 1 + k → length z ≡ k → y ≡ onto (take 1 (set d 0 (pos 1)) ++ z) (set d 0 (pos 1)) → y ≡ pos 1 ∷ z
piece_filled [] y z k e f h = absurd (omega arith)
piece_filled (x ∷ d) y z k e f h = h ∙ onto_all (pos 1 ∷ z) (pos 1 ∷ d) (omega arith)

-- ---- how the call ends, where the first k words of d became x

module _ (m : List ℤ) (s : List ℕ) (d x : List ℤ) (k : ℕ) where
  -- all words are zeroed
  pub faces_refused : (r : Refusal) {z : List ℤ} → number r ≡ table_file_questions m s → length x ≡ length (take k d) → z ≡ replicate (length (x ++ drop k d)) (pos 0) → record { count = Err (number r); words = z } ≡ read_faces m s d
  faces_refused r e ex ez = refused_at _ e (number_not_0 r) (ez ∙ ap (λ (j : ℕ). replicate j (pos 0)) long)
    where
      long : length (x ++ drop k d) ≡ length d
      long = length-append x (drop k d) ∙ ap (λ (j : ℕ). j + length (drop k d)) ex ∙ sym (length-append (take k d) (drop k d)) ∙ ap length (take-append-drop k d)

  -- x is the table
  pub faces_read : 0 ≡ table_file_questions m s → k ≡ table_size m → x ≡ file_table m s → record { count = Ok k; words = x ++ drop k d } ≡ read_faces m s d
  unfolding onto
  faces_read e ek ex = past (zeroed d) (sym e) (ap₂ (λ (n : ℕ) (w : List ℤ). record { count = Ok n; words = w }) ek front)
    where
      long : length x ≡ k
      long = table_size_lem m s (count# s) (ex ∙ sym (table_end m s (count# s) refl)) ∙ sym ek

      front : x ++ drop k d ≡ onto (file_table m s) d
      front = ap (λ (j : ℕ). x ++ drop j d) (sym long) ∙ ap (λ (y : List ℤ). y ++ drop (length y) d) ex
