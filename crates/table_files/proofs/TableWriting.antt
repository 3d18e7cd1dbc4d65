-- Laws of writing a table's file: the sizes are small, one loop counts the pieces by key, two write their fields, and the field of
-- a piece is put together.
use mathlib.Core.Path.{◌≡◌, refl, sym, ap, ap₂, ◌∙◌}
use mathlib.Core.Bool.{Bool, true, false, cond}
use mathlib.Core.List.{List, [], ◌∷◌, ◌++◌, append_assoc}
use Prim.Native.Nat.{ℕ, ◌+◌, ◌*◌, ◌/◌, ◌%◌, ◌≤◌, ◌<◌}
use native.Mathlib.Nat.{mul-le-mul_right}
use native.Mathlib.Omega.{arith}
use lib.Dec.{leb, leb→le}
use lib.IntN.{ℤ, pos}
use lib.ListN.{length, take, length-append}
use Rattle.integers.specs.Words.{word, eq_z, onto}
use Rattle.integers.specs.Counted.{cat, sum_below}
use Rattle.integers.proofs.Counted.{sum_ext}
use Rattle.integers.proofs.Buffers.{onto_start}
use Rattle.files.specs.Bytes.{word_bytes, words_bytes, part}
use Rattle.files.specs.Fields.{header_size, payload_length, field_length, field_place, header, field}
use Rattle.integers.proofs.Filling.{onto_then, Written, length_written}
use Rattle.files.proofs.Words.{length-word, length_bytes, length_part, bytes_append}
use Rattle.files.proofs.Fields.{length-field}
use Rattle.plant.specs.Ask.{ask}
use Rattle.plant.specs.Box.{box_at, Face, absent, present}
use Rattle.plant.specs.Model.{n#, L#}
use Rattle.plant.specs.Questions.{model_questions}
use Rattle.plant.specs.Pieces.{any_cut, per_face, pieces, piece_face, piece_index}
use Rattle.plant.specs.Tables.{face_size, pieces_before, piece_count, table_size, longest_table_file, face_read, piece_of, table_ok}
use Rattle.plant.specs.declared.Refusal.{Refusal}
use Rattle.plant.specs.Refusals.{number}
use Rattle.plant.proofs.Asks.{ask_yes, then_both}
use Rattle.plant.proofs.Refusing.{number_not_0}
use Rattle.plant.proofs.Writing.{write_refused, write_done}
use Rattle.std.specs.Prelude.{Ok, Err}
use Rattle.plant.proofs.Boxes.{length-box_at, box_ends}
use Rattle.plant.proofs.Whole.{Whole}
use Rattle.plant.proofs.Positions.{row_within}
use Rattle.plant.proofs.Passing.{whole}
use Rattle.tables.proofs.Faces.{table_most}
use Rattle.files.specs.TableFile.{count_field_size, place_size, piece_field_size, place_words, piece_field, presence, present_pieces, location_fields, piece_fields, table_file, pieces_from, room_questions, write_questions, write_table_call}
use Rattle.table_files.specs.TableRoom.{size_by, WriteReady, PieceRoom, LocationRoom}
use Rattle.table_files.proofs.Cuts.{count_most, size_is}
use Rattle.files.proofs.PieceKeys.{key_at, at_key}
use Rattle.files.proofs.PlaceWords.{place_most, longest_is, length_place}
use Rattle.files.proofs.Listed.{present_keys}
use Rattle.files.proofs.TableAsked.{room_yes}
use Rattle.files.proofs.TableSizes.{location_counted, before_le, piece_bytes, longest_least, pieces_few, fields_of, fields_le, locations_le}

-- ---- sizes

module _ (m : List ℤ) (w : Whole m) where
  -- as the code computes them, from whether any location is cut and n variables
  module _ {cut : Bool} {n size : ℕ} (ec : cut ≡ any_cut m) (en : n ≡ n# m) (es : size ≡ size_by cut + 2 * n) where
    pub field_size_is : size ≡ piece_field_size m
    field_size_is = omega (arith, size_is m ec)

    pub size_few : size ≤ 15
    size_few = omega (arith, field_size_is, place_most m, w.head.n_small)

    pub longest_made : {from k r : ℕ} → from ≡ pieces_from → k ≡ piece_count m → r ≡ field_place from size k → r ≡ longest_table_file m
    longest_made ef ek er = er ∙ rw (ef, field_size_is, ek) (sym (longest_is m))

-- ---- one piece, by its flag

module _ (n : ℕ) (t : List ℤ) (at : ℕ) where
  pub read_present : eq_z (word t at) (pos 1) ≡ true → face_read n t at ≡ present (box_at n t (at + 1))
  unfolding face_read
  read_present e = rw e

  pub read_absent : eq_z (word t at) (pos 1) ≡ false → face_read n t at ≡ absent
  unfolding face_read
  read_absent e = rw e

  pub presence_read : cond (eq_z (word t at) (pos 1)) 1 0 ≡ presence (face_read n t at)
  presence_read = by (eq_z (word t at) (pos 1)) refl
    where
      by : (b : Bool) → eq_z (word t at) (pos 1) ≡ b → cond (eq_z (word t at) (pos 1)) 1 0 ≡ presence (face_read n t at)
      by true e = rw (e, read_present e) refl
      by false e = rw (e, read_absent e) refl

pub presence_le : (g : Face) → presence g ≤ 1
presence_le absent = omega arith
presence_le (present b) = omega arith

-- ---- the pieces that are present, by their flags

-- piece k lies in the table
pub key_inside : (m : List ℤ) {n size pieces k : ℕ} → Whole m → n ≡ n# m → size ≡ face_size n → pieces ≡ piece_count m → k < pieces → k * size < table_size m
unfolding table_size
key_inside m {n} {size} {pieces} {k} w en es ep u =
    let e : size ≡ face_size (n# m) = rw en at es in
    let v : k < piece_count m = omega arith in
    rw e (omega (arith, row_within (face_size (n# m)) v))

pub key_small : (m : List ℤ) {n size pieces k : ℕ} → Whole m → n ≡ n# m → size ≡ face_size n → pieces ≡ piece_count m → k < pieces → k * size < 19968
key_small m w en es ep u = omega (arith, key_inside m w en es ep u, table_most m w.head)

-- by key, as the code counts them
pub present_counted : (m t : List ℤ) → sum_below (piece_count m) (λ k. cond (eq_z (word t (k * face_size (n# m))) (pos 1)) 1 0) ≡ present_pieces m t
unfolding piece_of
present_counted m t = sum_ext (piece_count m) (λ k. cond (eq_z (word t (k * face_size (n# m))) (pos 1)) 1 0) (λ k. presence (at_key m (piece_of m t) k))
    (λ k u. presence_read (n# m) t (k * face_size (n# m)) ∙ ap (λ (at : ℕ). presence (face_read (n# m) t at)) (sym (key_at m k u))) ∙ sym (present_keys m t)

pub present_few : (m t : List ℤ) → Whole m → present_pieces m t ≤ 1536
present_few m t w = omega (arith, present_counted m t, count_most (λ k. eq_z (word t (k * face_size (n# m))) (pos 1)) (piece_count m), pieces_few m w)

-- ---- the field of a piece

-- its place, word by word
module _ (m : List ℤ) (l q : ℕ) {per : ℕ} (ep : per ≡ per_face m l) where
  pub face_is : q / per ≡ piece_face m l q
  unfolding piece_face
  face_is = ap (λ (k : ℕ). q / k) ep

  pub index_is : q % per ≡ piece_index m l q
  unfolding piece_index
  index_is = ap (λ (k : ℕ). q % k) ep

  pub place_is_part : {cut : Bool} {size : ℕ} → cut ≡ any_cut m → size ≡ size_by cut → part (pos l ∷ pos (q / per) ∷ pos (q % per) ∷ []) 0 size ≡ place_words m l q
  unfolding place_words
  place_is_part {cut} {size} ec es = rw (es, face_is, index_is) (by cut ec)
    where
      by : (b : Bool) → b ≡ any_cut m → part (pos l ∷ pos (piece_face m l q) ∷ pos (piece_index m l q) ∷ []) 0 (size_by b) ≡ pos l ∷ pos (piece_face m l q) ∷ cond (any_cut m) (pos (piece_index m l q) ∷ []) []
      by true e = rw (← e) refl
      by false e = rw (← e) refl

-- by the words of piece q of location l
module _ (m piece : List ℤ) (l q : ℕ) (long : length piece ≡ face_size (n# m)) where
  abbrev payload : List ℕ
  payload = words_bytes (place_words m l q) ++ words_bytes (part piece 1 (2 * n# m))

  payload_length_lem : length payload ≡ payload_length (piece_field_size m)
  payload_length_lem = omega (
    arith,
    length-append (words_bytes (place_words m l q)) (words_bytes (part piece 1 (2 * n# m))),
    length_bytes (place_words m l q),
    length_place m l q,
    length_bytes (part piece 1 (2 * n# m)),
    length_part piece 1 (2 * n# m) (omega arith),
  )

  -- a present piece's field has them
  payload_is : eq_z (word piece 0) (pos 1) ≡ true → piece_field m l q (face_read (n# m) piece 0) ≡ field 5 payload
  unfolding box_at
  payload_is e = rw (read_present (n# m) piece 0 e)
      (ap (λ (b : List ℤ). field 5 (words_bytes (place_words m l q ++ b))) (box_ends (n# m) (box_at (n# m) piece 1) (length-box_at (n# m) piece 1 (omega arith)))
      ∙ ap (field 5) (bytes_append (place_words m l q) (part piece 1 (2 * n# m))))

  -- header, place and box, each put behind the one before
  pub piece_put : (d x y z : List ℕ) (to : ℕ) {len box n : ℕ} → eq_z (word piece 0) (pos 1) ≡ true → to ≤ length d → len ≡ payload_length (piece_field_size m) → box ≡ payload_length (place_size m) → n ≡ n# m
      → x ≡ onto (take to d ++ header 5 len) d
      → y ≡ onto (take (to + header_size) x ++ words_bytes (place_words m l q)) x
      → z ≡ onto (take (to + header_size + box) y ++ words_bytes (part piece 1 (2 * n))) y
      → z ≡ onto (take to d ++ piece_field m l q (face_read (n# m) piece 0)) d
  unfolding field
  piece_put d x y z to {len} {box} {n} e room el eb en ex ey ez =
      let hd : List ℕ = header 5 len in
      let place : List ℕ = words_bytes (place_words m l q) in
      let words : List ℕ = words_bytes (part piece 1 (2 * n)) in
      let ey' : y ≡ onto (take to d ++ (hd ++ place)) d = ey ∙ onto_then hd place d x to (to + 3) ex room (omega arith) in
      let ez' : z ≡ onto (take to d ++ ((hd ++ place) ++ words)) d = ez ∙ onto_then (hd ++ place) words d y to (to + header_size + box) ey' room
      (omega (arith, length-append hd place, length_bytes (place_words m l q), length_place m l q)) in
      ez' ∙ ap (λ (s : List ℕ). onto (take to d ++ s) d)
      (append_assoc hd place words ∙ ap₂ (λ (i j : ℕ). header 5 i ++ (place ++ words_bytes (part piece 1 (2 * j)))) (el ∙ sym payload_length_lem) en ∙ sym (payload_is e))

  pub piece_next : (to : ℕ) {size r : ℕ} → eq_z (word piece 0) (pos 1) ≡ true → size ≡ piece_field_size m → r ≡ field_length size → to + r ≡ to + length (piece_field m l q (face_read (n# m) piece 0))
  piece_next to e es er = rw (payload_is e) (omega (arith, length-field 5 payload, payload_length_lem))

  -- an absent piece's field is nothing
  pub piece_skip : (d : List ℕ) (to : ℕ) → eq_z (word piece 0) (pos 1) ≡ false → to ≤ length d → d ≡ onto (take to d ++ piece_field m l q (face_read (n# m) piece 0)) d
  piece_skip d to e room = rw (read_absent (n# m) piece 0 e) (onto_start to d room)

  pub skip_next : (to : ℕ) → eq_z (word piece 0) (pos 1) ≡ false → to ≡ to + length (piece_field m l q (face_read (n# m) piece 0))
  skip_next to e = rw (read_absent (n# m) piece 0 e) (omega arith)

-- ---- the loops that write them

module _ (m t : List ℤ) (d : List ℕ) {cut : Bool} {before l to : ℕ} (r : LocationRoom m cut before t l d to) where
  -- there is room for one more
  pub location_room : {q next : ℕ} {x : List ℕ} → q ≤ pieces m l → Written (fields_of m t l) d to q next x → (length x ≡ length d) × (next ≤ to + q * piece_bytes m)
  location_room {q} {next} {x} u w =
      let k : q * piece_bytes m ≤ pieces m l * piece_bytes m = mul-le-mul_right (piece_bytes m) u in
      let b : next ≤ to + q * piece_bytes m = omega (arith, w.to_is, fields_le m t l q) in
      (length_written (fields_of m t l) d to (omega (arith, r.room)) w (omega (arith, r.room)), b)

  pub piece_room : {q next : ℕ} {piece : List ℤ} {x : List ℕ} → q < pieces m l → length piece ≡ face_size (n# m) → Written (fields_of m t l) d to q next x → PieceRoom m cut l q piece x next
  piece_room {q} {next} {piece} {x} u long w =
      let lw : (length x ≡ length d) × (next ≤ to + q * piece_bytes m) = location_room (omega arith) w in
      let k : q * piece_bytes m + piece_bytes m ≤ pieces m l * piece_bytes m = row_within (piece_bytes m) u in
      record {
        is_piece = record { whole = r.whole; cut_is = r.cut_is; location = r.location; piece = u };
        long = long;
        room = omega (arith, lw, r.room);
      }

  pub location_written : {q next : ℕ} {x : List ℕ} → q ≡ pieces m l → Written (fields_of m t l) d to q next x → (x ≡ onto (take to d ++ location_fields m t l) d) × (next ≡ to + length (location_fields m t l))
  unfolding location_fields
  location_written e w = (w.buffer_is ∙ ap (λ (k : ℕ). onto (take to d ++ cat k (fields_of m t l)) d) e, w.to_is ∙ ap (λ (k : ℕ). to + length (cat k (fields_of m t l))) e)

module _ (m t : List ℤ) (d : List ℕ) (r : WriteReady m t d) where
  pub head_room : 7 ≤ length d
  head_room = omega (arith, longest_least m, r.bytes)

  pub pieces_room : {l to : ℕ} {x : List ℕ} → l ≤ L# m → Written (location_fields m t) d 7 l to x → (length x ≡ length d) × (to ≤ 7 + pieces_before m l * piece_bytes m)
  pieces_room {l} {to} {x} u w =
      let b : to ≤ 7 + pieces_before m l * piece_bytes m = omega (arith, w.to_is, locations_le m t l) in
      let k : pieces_before m l * piece_bytes m ≤ piece_count m * piece_bytes m = mul-le-mul_right (piece_bytes m) (before_le m l u) in
      (length_written (location_fields m t) d 7 head_room w (omega (arith, longest_is m, r.bytes)), b)

  pub room_of_location : {cut : Bool} {l before to : ℕ} {x : List ℕ} → l < L# m → cut ≡ any_cut m → before ≡ pieces_before m l → Written (location_fields m t) d 7 l to x → LocationRoom m cut before t l x to
  room_of_location {cut} {l} {before} {to} {x} u ec eb w =
      let lw : (length x ≡ length d) × (to ≤ 7 + pieces_before m l * piece_bytes m) = pieces_room (omega arith) w in
      let k : (pieces_before m l + pieces m l) * piece_bytes m ≤ piece_count m * piece_bytes m = mul-le-mul_right (piece_bytes m) (location_counted m l u) in
      record {
        whole = r.whole;
        cut_is = ec;
        location = u;
        before_is = eb;
        there = r.room;
        room = omega (arith, lw, longest_is m, r.bytes);
      }

  pub all_written : {l to : ℕ} {x : List ℕ} → l ≡ L# m → Written (location_fields m t) d 7 l to x → (x ≡ onto (take 7 d ++ piece_fields m t) d) × (to ≡ 7 + length (piece_fields m t))
  unfolding piece_fields
  all_written e w = (w.buffer_is ∙ ap (λ (k : ℕ). onto (take 7 d ++ cat k (location_fields m t)) d) e, w.to_is ∙ ap (λ (k : ℕ). 7 + length (cat k (location_fields m t))) e)

-- ---- the whole file

-- the count, then the fields
pub file_put : (m t : List ℤ) (d x y z : List ℕ) {len : ℕ}
    → len ≡ payload_length count_field_size
    → x ≡ onto (take 0 d ++ header 6 len) d
    → y ≡ onto (take 3 x ++ word_bytes (pos (present_pieces m t))) x
    → z ≡ onto (take 7 y ++ piece_fields m t) y
    → z ≡ onto (table_file m t) d
unfolding table_file field word_bytes
file_put m t d x y z el ex' ey ez =
    let ex = rw el at ex' in
    let w : List ℕ = word_bytes (pos (present_pieces m t)) in
    let ey' : y ≡ onto (take 0 d ++ (header 6 4 ++ w)) d = ey ∙ onto_then (header 6 4) w d x 0 3 ex (omega arith) (omega arith) in
    let ez' : z ≡ onto (take 0 d ++ ((header 6 4 ++ w) ++ piece_fields m t)) d = ez ∙ onto_then (header 6 4 ++ w) (piece_fields m t) d y 0 7 ey' (omega arith) (omega (arith, length-append (header 6 4) w, length-word (pos (present_pieces m t)))) in
    ez'

-- ---- how the call ends

module _ (m t : List ℤ) (d : List ℕ) where
  pub write_asked : 0 ≡ write_questions m t (length d) → WriteReady m t d
  unfolding write_questions
  write_asked e =
      let a : (room_questions m (length t) ≡ 0) × _ = then_both (room_questions m (length t)) _ (sym e) in
      let b : _ × (ask (leb (longest_table_file m) (length d)) 39 ≡ 0) = then_both (ask (table_ok m t) 32) (ask (leb (longest_table_file m) (length d)) 39) a.1 in
      let r : (model_questions m ≡ 0) × (table_size m ≤ length t) = room_yes m (length t) a.0 in
      record { whole = whole m r.0; room = r.1; bytes = leb→le (longest_table_file m) (length d) (ask_yes (leb (longest_table_file m) (length d)) 39 (omega arith) b.1) }

  pub table_refused : (r : Refusal) → number r ≡ write_questions m t (length d) → record { count = Err (number r); file = d } ≡ write_table_call m t d
  unfolding write_table_call
  table_refused r e = write_refused (table_file m t) d e (number_not_0 r)

  pub table_done : {n : ℕ} {x : List ℕ} → 0 ≡ write_questions m t (length d) → x ≡ onto (table_file m t) d → n ≡ length (table_file m t) → record { count = Ok n; file = x } ≡ write_table_call m t d
  unfolding write_table_call
  table_done e ex en = write_done (table_file m t) d e refl en ex
