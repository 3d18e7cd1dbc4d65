-- What a table file that passes 35 to 38 is: fields that stand one after the other and name pieces in ascending order.
use mathlib.Core.Path.{◌≡◌, refl, sym, ap, ◌∙◌}
use mathlib.Core.List.{List, ◌++◌}
use Prim.Native.Nat.{ℕ, suc, ◌+◌, ◌*◌, ◌-◌, ◌<◌, ◌≤◌}
use native.Mathlib.Omega.{arith}
use lib.Dec.{T, leb, leb→le, eqb, eqb→eq}
use lib.IntN.{ℤ, pos, negsuc, nat_abs}
use lib.ListN.{length, take, drop, length-drop, take-append-drop}
use lib.Seq.{take_all}
use Rattle.integers.specs.Words.{word, num, AreBytes, within}
use Rattle.integers.specs.Counted.{cat}
use Rattle.integers.proofs.Tests.{and_yes}
use Rattle.integers.proofs.Counted.{within_abs}
use Rattle.files.specs.Bytes.{word_bytes, words_bytes}
use Rattle.files.specs.Fields.{field_at, field, is_field}
use Rattle.files.specs.declared.Field.TheVariants.{Whole}
use Rattle.files.proofs.Words.{bytes_back}
use Rattle.files.proofs.Fields.{Lies, field_lies, field-part, fields_stand, due}
use Rattle.plant.specs.Ask.{ask, first}
use Rattle.plant.specs.Model.{n#, L#}
use Rattle.plant.specs.Questions.{model_questions}
use Rattle.plant.specs.Pieces.{per_face, pieces}
use Rattle.plant.specs.Tables.{piece_count, table_size}
use Rattle.plant.proofs.Asks.{ask_yes, asked, then_both, first_each}
use Rattle.plant.proofs.Pieces.{per_face_least, number_below}
use Rattle.files.specs.TableFile.{piece_field_size, piece_field_at, count_word, count_question, piece_field_words, piece_word, piece_named, piece_key, least_key, place_ok, piece_question, piece_questions, count#, fields_questions, room_questions}
use Rattle.files.proofs.Listed.{listed, field_words, InOrder}

-- ---- one question

-- the model passes its questions and there is room for its table
pub room_yes : (m : List ℤ) (room : ℕ) → room_questions m room ≡ 0 → (model_questions m ≡ 0) × (table_size m ≤ room)
unfolding room_questions
room_yes m room e =
    let a : (model_questions m ≡ 0) × (ask (leb (table_size m) room) 20 ≡ 0) = then_both (model_questions m) (ask (leb (table_size m) room) 20) e in
    (a.0, leb→le (table_size m) room (ask_yes (leb (table_size m) room) 20 (omega arith) a.1))

-- a number from 0 on is its magnitude
pub is_natural : (k : ℕ) (z : ℤ) → T (within (pos 0) (pos k) z) → z ≡ pos (nat_abs z)
is_natural k (pos a) h = refl
is_natural k (negsuc a) h = absurd h

-- ---- the piece that a field's words w name

pub record PlaceYes (m w : List ℤ) (least : ℕ) : Type 0 where
  pub location_natural : word w 0 ≡ pos (num w 0)
  pub location_below : num w 0 < L# m
  pub face_natural : word w 1 ≡ pos (num w 1)
  pub face_below : num w 1 < 2 * n# m
  pub piece_natural : piece_word m w ≡ pos (nat_abs (piece_word m w))
  pub piece_below : nat_abs (piece_word m w) < per_face m (num w 0)
  pub after : least ≤ piece_key m w

pub place_yes : (m w : List ℤ) (least : ℕ) → 0 < n# m → 0 < L# m → T (place_ok m w least) → PlaceYes m w least
unfolding place_ok
place_yes m w least hn hl h =
    let a : T (within (pos 0) (pos (L# m - 1)) (word w 0)) × _ = and_yes (within (pos 0) (pos (L# m - 1)) (word w 0)) _ h in
    let b : T (within (pos 0) (pos (2 * n# m - 1)) (word w 1)) × _ = and_yes (within (pos 0) (pos (2 * n# m - 1)) (word w 1)) _ a.1 in
    let c : T (within (pos 0) (pos (per_face m (num w 0) - 1)) (piece_word m w)) × T (leb least (piece_key m w)) = and_yes (within (pos 0) (pos (per_face m (num w 0) - 1)) (piece_word m w)) (leb least (piece_key m w)) b.1 in
    record {
      location_natural = is_natural (L# m - 1) (word w 0) a.0;
      location_below = omega (arith, within_abs (word w 0) (L# m - 1) a.0);
      face_natural = is_natural (2 * n# m - 1) (word w 1) b.0;
      face_below = omega (arith, within_abs (word w 1) (2 * n# m - 1) b.0);
      piece_natural = is_natural (per_face m (num w 0) - 1) (piece_word m w) c.0;
      piece_below = omega (arith, within_abs (piece_word m w) (per_face m (num w 0) - 1) c.0, per_face_least m (num w 0));
      after = leb→le least (piece_key m w) c.1;
    }

pub named_below : {m w : List ℤ} {least : ℕ} → PlaceYes m w least → piece_named m w < pieces m (num w 0)
unfolding piece_named
named_below {m} {w} y = number_below m (num w 0) (num w 1) (nat_abs (piece_word m w)) y.face_below y.piece_below

-- ---- the whole file

pub record FieldsYes (m : List ℤ) (s : List ℕ) : Type 0 where
  pub head : field_at s 0 ≡ Whole 6 3 4 7
  pub count_natural : count_word s ≡ pos (count# s)
  pub count_most : count# s ≤ piece_count m
  pub fields : (i : ℕ) → i < count# s → field_at s (piece_field_at m i) ≡ Whole 5 (piece_field_at m i + 3) (4 * piece_field_size m) (piece_field_at m i + 3 + 4 * piece_field_size m)
  pub places : (i : ℕ) → i < count# s → PlaceYes m (field_words m s i) (least_key m s i)
  pub ended : length s ≡ piece_field_at m (count# s)

module _ (m : List ℤ) (s : List ℕ) where
  pub field_yes : (i : ℕ) → piece_questions m s i ≡ 0 → T (is_field (field_at s (piece_field_at m i)) 5 (4 * piece_field_size m)) × T (place_ok m (field_words m s i) (least_key m s i))
  unfolding piece_question piece_field_words
  field_yes i h =
      let a : T (is_field (field_at s (piece_field_at m i)) 5 (4 * piece_field_size m)) × _ = asked (is_field (field_at s (piece_field_at m i)) 5 (4 * piece_field_size m)) 36 _ (omega arith) h in
      (a.0, ask_yes (place_ok m (field_words m s i) (least_key m s i)) 37 (omega arith) a.1)

  pub count_yes : count_question m s ≡ 0 → (field_at s 0 ≡ Whole 6 3 4 7) × T (within (pos 0) (pos (piece_count m)) (count_word s))
  unfolding count_question
  count_yes h =
      let a : T (is_field (field_at s 0) 6 4) × _ = asked (is_field (field_at s 0) 6 4) 35 _ (omega arith) h in
      ((due s 0 6 4 a.0).field_is, ask_yes (within (pos 0) (pos (piece_count m)) (count_word s)) 35 (omega arith) a.1)

  pub fields_yes : 0 < n# m → 0 < L# m → fields_questions m s ≡ 0 → FieldsYes m s
  unfolding fields_questions
  fields_yes hn hl h =
      let a : (count_question m s ≡ 0) × _ = then_both (count_question m s) _ h in
      let b : (first (count# s) (piece_questions m s) ≡ 0) × _ = then_both (first (count# s) (piece_questions m s)) _ a.1 in
      let c : (field_at s 0 ≡ Whole 6 3 4 7) × T (within (pos 0) (pos (piece_count m)) (count_word s)) = count_yes a.0 in
      record {
        head = c.0;
        count_natural = is_natural (piece_count m) (count_word s) c.1;
        count_most = within_abs (count_word s) (piece_count m) c.1;
        fields = λ i u. (due s (piece_field_at m i) 5 (4 * piece_field_size m) (field_yes i (first_each (count# s) (piece_questions m s) b.0 i u)).0).field_is;
        places = λ i u. place_yes m (field_words m s i) (least_key m s i) hn hl (field_yes i (first_each (count# s) (piece_questions m s) b.0 i u)).1;
        ended = eqb→eq (length s) (piece_field_at m (count# s)) (ask_yes (eqb (length s) (piece_field_at m (count# s))) 38 (omega arith) b.1);
      }

module _ (m : List ℤ) (s : List ℕ) (y : FieldsYes m s) where
  pub fields_in_order : InOrder m s (count# s)
  fields_in_order = record {
    location = λ i u. (y.places i u).location_below;
    piece = λ i u. named_below (y.places i u);
    ascends = λ i u. omega (arith, (y.places (suc i) u).after);
  }

  -- the bytes are those of its fields
  pub file_again : AreBytes s → s ≡ listed (count# s) (field_words m s)
  unfolding count_word piece_field_words
  file_again b =
      let l : Lies s 0 6 3 4 7 = field_lies s 0 6 3 4 7 y.head in
      let e : take 7 s ≡ field 6 (word_bytes (pos (count# s))) =
      field-part s 0 6 3 4 7 b y.head ∙ ap (field 6) (sym (bytes_back s 3 b l.there) ∙ ap word_bytes y.count_natural) in
      let f : drop 7 s ≡ cat (count# s) (λ i. field 5 (words_bytes (field_words m s i))) =
      sym (take_all (count# s * (3 + 4 * piece_field_size m)) (drop 7 s) (omega (arith, y.ended, length-drop 7 s)))
      ∙ fields_stand s b 7 5 (piece_field_size m) (count# s) y.fields in
      sym (take-append-drop 7 s) ∙ ap (λ (x : List ℕ). x ++ drop 7 s) e ∙ ap (λ (x : List ℕ). field 6 (word_bytes (pos (count# s))) ++ x) f
