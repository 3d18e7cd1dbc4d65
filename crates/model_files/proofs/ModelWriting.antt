-- Laws of writing a model's file: the fields of a record and of a cut are put together, one loop writes a run of records and one the
-- cuts, and how long the file is.
use mathlib.Core.Path.{◌≡◌, refl, sym, ap, ap₂, ◌∙◌}
use mathlib.Core.Bool.{Bool, true, false, not}
use mathlib.Core.Logic.{⊎_elim}
use mathlib.Core.List.{List, [], ◌∷◌, ◌++◌, append_assoc}
use Prim.Native.Nat.{ℕ, ◌+◌, ◌*◌, ◌≤◌, ◌<◌}
use native.Mathlib.Omega.{arith}
use lib.Dec.{leb, leb→le}
use lib.IntN.{ℤ, pos, negsuc}
use lib.ListN.{length, take, length-append}
use Rattle.integers.specs.Words.{word, eq_z, onto}
use Rattle.integers.specs.Counted.{cat}
use Rattle.integers.proofs.Buffers.{onto_start, cat_ext, cat_at, length-cat}
use Rattle.integers.proofs.Counted.{split}
use Rattle.files.specs.Bytes.{word_size, word_bytes, words_bytes, part}
use Rattle.files.specs.Fields.{header_size, payload_length, field_length, header, field}
use Rattle.integers.proofs.Filling.{onto_then, Written, length_written}
use Rattle.files.proofs.Words.{length-word, length_bytes, length_part}
use Rattle.files.proofs.Fields.{length-field}
use Rattle.plant.specs.Model.{n#, L#, E#, B#, location_size, switch_size, forbidden_size, location_at, switch_at, forbidden_at, cut_size, cut_at, cut_variable, cut_value}
use Rattle.plant.specs.Questions.{model_questions}
use Rattle.plant.proofs.Asks.{ask_yes, then_both}
use Rattle.plant.specs.declared.Refusal.{Refusal}
use Rattle.plant.specs.Refusals.{number}
use Rattle.plant.proofs.Refusing.{number_not_0}
use Rattle.plant.proofs.Writing.{write_refused, write_done}
use Rattle.std.specs.Prelude.{Ok, Err}
use Rattle.plant.proofs.Passed.{passed}
use Rattle.plant.proofs.Whole.{Whole}
use Rattle.plant.proofs.Positions.{row_within, cut-within}
use Rattle.plant.proofs.Passing.{whole_passed}
use Rattle.files.specs.ModelFile.{cut_field_size, record_field, model_file, locations_from, switches_from, forbiddens_from, cuts_from, file_room_question, write_model_questions, write_model_call}
use Rattle.files.specs.UncutModelFile.{records_file}
use Rattle.model_files.specs.declared.Run.{Run}
use Rattle.model_files.specs.Room.{locations_run, switches_run, forbiddens_run, field_of, record_fields, RunRoom, CutRoom, FileRoom}
use Rattle.files.proofs.ModelLength.{cut_field_of, cut_fields, length-cut-field, records_in_turn, records_length, file_is, length_of_file}
use Rattle.plant.proofs.Heads.{locations_at, switches_at, forbiddens_at, cuts_at, words_end}
use Rattle.files.proofs.ModelRoundTrip.{two_words, head_field, locations, switches, forbiddens, length_head_field, before_switches, before_forbiddens}

-- ---- one record

module _ (m : List ℤ) (tag from w : ℕ) (there : from + w ≤ length m) where
  abbrev payload : List ℕ
  payload = words_bytes (part m from w)

  payload_length_lem : length payload ≡ payload_length w
  payload_length_lem = omega (arith, length_bytes (part m from w), length_part m from w there)

  pub length_record : length (record_field tag m from w) ≡ field_length w
  length_record = omega (arith, length-field tag payload, payload_length_lem)

  -- header and words, one behind the other
  pub record_put : (d x y : List ℕ) (to : ℕ) {len : ℕ} → to ≤ length d → len ≡ payload_length w → x ≡ onto (take to d ++ header tag len) d → y ≡ onto (take (to + header_size) x ++ payload) x
      → y ≡ onto (take to d ++ record_field tag m from w) d
  unfolding field
  record_put d x y to {len} room el ex ey =
      ey
      ∙ onto_then (header tag len) payload d x to (to + header_size) ex room (omega arith)
      ∙ ap (λ (k : ℕ). onto (take to d ++ (header tag k ++ payload)) d) (el ∙ sym payload_length_lem)

-- ---- a run of records

module _ (m : List ℤ) (run : Run) (d : List ℕ) (r : RunRoom m run d) where
  record_there : (i : ℕ) → i < run.count → run.place + i * run.w + run.w ≤ length m
  record_there i u = omega (arith, r.there, row_within run.w u)

  pub length_one : (i : ℕ) → i < run.count → length (field_of m run i) ≡ field_length run.w
  length_one i u = length_record m run.tag (run.place + i * run.w) run.w (record_there i u)

  length_some : (i : ℕ) → i ≤ run.count → length (cat i (field_of m run)) ≡ i * field_length run.w
  length_some i u = length-cat i (field_length run.w) (field_of m run) (λ j v. length_one j (omega arith))

  pub run_room : run.from ≤ length d
  run_room = omega (arith, r.room)

  -- there is room for one more
  pub record_room : {i next : ℕ} {x : List ℕ} → i < run.count → length x ≡ length d → Written (field_of m run) d run.from i next x → (run.place + i * run.w + run.w ≤ length m) × (next + field_length run.w ≤ length x) × (run.w ≤ 37)
  record_room {i} u e h = (record_there i u, omega (arith, h.to_is, length_some i (omega arith), r.room, row_within (field_length run.w) u), r.w_small)

-- ---- the cuts

not_no : {b : Bool} → false ≡ not b → b ≡ true
not_no {b = true} e = refl
not_no {b = false} e = e

not_yes : {b : Bool} → true ≡ not b → b ≡ false
not_yes {b = true} e = e
not_yes {b = false} e = refl

module _ (m : List ℤ) where
  pub cuts_all : {l bytes : ℕ} → l ≡ L# m → bytes ≡ length (cat l (cut_field_of m)) → bytes ≡ length (cut_fields m)
  unfolding cut_fields
  cuts_all e eb = eb ∙ ap (λ (k : ℕ). length (cat k (cut_field_of m))) e

  -- those before location l, and its own, are among all
  pub cuts_within : (l : ℕ) → l < L# m → length (cat l (cut_field_of m)) + length (cut_field_of m l) ≤ length (cut_fields m)
  unfolding cut_fields
  cuts_within l u =
      let c = cat_at (cut_field_of m) (L# m) l u in
      rw c.1 (omega (arith, length-append (cat l (cut_field_of m)) (cut_field_of m l ++ c.0), length-append (cut_field_of m l) c.0))

  -- the field of a location that is not cut is nothing
  module _ (l : ℕ) (uncut : false ≡ not (eq_z (cut_variable m l) (negsuc 0))) where
    no : eq_z (cut_variable m l) (negsuc 0) ≡ true
    no = not_no uncut

    pub cut_skip : (d : List ℕ) (to : ℕ) → to ≤ length d → d ≡ onto (take to d ++ cut_field_of m l) d
    cut_skip d to room = rw no (onto_start to d room)

    pub skip_length : length (cut_field_of m l) ≡ 0
    skip_length = rw no refl

  -- the field of one that is: header, location, variable and value, each put behind the one before
  module _ (l : ℕ) (is_cut : true ≡ not (eq_z (cut_variable m l) (negsuc 0))) where
    cut : eq_z (cut_variable m l) (negsuc 0) ≡ false
    cut = not_yes is_cut

    pub cut_length : length (cut_field_of m l) ≡ field_length cut_field_size
    cut_length = length-cut-field m l ∙ rw cut refl

    pub cut_put : (d x y z : List ℕ) (to : ℕ) {at len : ℕ} → Whole m → l < L# m → at ≡ cut_at m l → to ≤ length d → len ≡ payload_length cut_field_size
        → x ≡ onto (take to d ++ header 8 len) d
        → y ≡ onto (take (to + header_size) x ++ word_bytes (pos l)) x
        → z ≡ onto (take (to + header_size + word_size) y ++ words_bytes (part m at cut_size)) y
        → z ≡ onto (take to d ++ cut_field_of m l) d
    unfolding cut_variable cut_value field words_bytes word_bytes
    cut_put d x y z to {at} {len} w u ea room el ex ey ez =
        let hd : List ℕ = header 8 len in
        let name : List ℕ = word_bytes (pos l) in
        let cut_words : List ℕ = words_bytes (part m at cut_size) in
        let ey' : y ≡ onto (take to d ++ (hd ++ name)) d = ey ∙ onto_then hd name d x to (to + header_size) ex room (omega arith) in
        let ez' : z ≡ onto (take to d ++ ((hd ++ name) ++ cut_words)) d = ez ∙ onto_then (hd ++ name) cut_words d y to (to + header_size + word_size) ey' room (omega (arith, length-append hd name, length-word (pos l))) in
        let two : part m at cut_size ≡ cut_variable m l ∷ cut_value m l ∷ [] = two_words m at (omega (arith, ea, cut-within m w l u)) ∙ ap (λ (k : ℕ). word m k ∷ word m (k + 1) ∷ []) ea in
        ez' ∙ ap (λ (s : List ℕ). onto (take to d ++ s) d) (append_assoc hd name cut_words ∙ ap₂ (λ (k : ℕ) (s : List ℤ). header 8 k ++ (name ++ words_bytes s)) el two ∙ rw cut refl)

-- ---- the whole file

module _ (m : List ℤ) (w : Whole m) where
  -- the three runs, as the loops write them
  locations_are : record_fields m (locations_run m) ≡ locations m
  unfolding location_at
  locations_are = cat_ext (L# m) _ _ (λ l _. let e : location_at m 0 + l * location_size (n# m) ≡ location_at m l = omega arith in ap (λ (at : ℕ). record_field 2 m at (location_size (n# m))) e)

  switches_are : record_fields m (switches_run m) ≡ switches m
  unfolding switch_at
  switches_are = cat_ext (E# m) _ _ (λ e _. let h : switch_at m 0 + e * switch_size (n# m) ≡ switch_at m e = omega arith in ap (λ (at : ℕ). record_field 3 m at (switch_size (n# m))) h)

  forbiddens_are : record_fields m (forbiddens_run m) ≡ forbiddens m
  unfolding forbidden_at
  forbiddens_are = cat_ext (B# m) _ _ (λ b _. let e : forbidden_at m 0 + b * forbidden_size (n# m) ≡ forbidden_at m b = omega arith in ap (λ (at : ℕ). record_field 4 m at (forbidden_size (n# m))) e)

  pub records_put : (d x₁ x₂ x₃ x₄ : List ℕ)
      → x₁ ≡ onto (take 0 d ++ head_field m) d
      → x₂ ≡ onto (take locations_from x₁ ++ record_fields m (locations_run m)) x₁
      → x₃ ≡ onto (take (switches_from m) x₂ ++ record_fields m (switches_run m)) x₂
      → x₄ ≡ onto (take (forbiddens_from m) x₃ ++ record_fields m (forbiddens_run m)) x₃
      → x₄ ≡ onto (records_file m) d
  records_put d x₁ x₂ x₃ x₄ e₁ e₂ e₃ e₄ =
      let f₂ : x₂ ≡ onto (head_field m ++ locations m) d = rw locations_are at e₂ ∙ onto_then (head_field m) (locations m) d x₁ 0 19 e₁ (omega arith) (omega (arith, length_head_field m w)) in
      let f₃ : x₃ ≡ onto ((head_field m ++ locations m) ++ switches m) d = rw switches_are at e₃ ∙ onto_then (head_field m ++ locations m) (switches m) d x₂ 0 (switches_from m) f₂ (omega arith) (omega (arith, before_switches m w)) in
      let f₄ : x₄ ≡ onto (((head_field m ++ locations m) ++ switches m) ++ forbiddens m) d = rw forbiddens_are at e₄ ∙ onto_then ((head_field m ++ locations m) ++ switches m) (forbiddens m) d x₃ 0 (forbiddens_from m) f₃ (omega arith) (omega (arith, before_forbiddens m w)) in
      f₄ ∙ ap (λ (s : List ℕ). onto s d) (records_in_turn m w)

  -- the records, then the cuts
  pub file_put : (d x y : List ℕ) → x ≡ onto (records_file m) d → y ≡ onto (take (cuts_from m) x ++ cut_fields m) x → y ≡ onto (model_file m) d
  file_put d x y ex ey = ey ∙ onto_then (records_file m) (cut_fields m) d x 0 (cuts_from m) ex (omega arith) (omega (arith, records_length m w)) ∙ ap (λ (s : List ℕ). onto s d) (sym (file_is m w))

-- ---- room for it

module _ (m : List ℤ) (d : List ℕ) (r : FileRoom m d) where
  pub cuts_room : cuts_from m + length (cut_fields m) ≤ length d
  cuts_room = omega (arith, length_of_file m r.whole, r.room)

  module _ {x : List ℕ} (same : length x ≡ length d) where
    pub locations_room : RunRoom m (locations_run m) x
    locations_room = record { there = omega (arith, locations_at m, switches_at m, forbiddens_at m, cuts_at m, words_end m, r.whole.long); room = omega (arith, cuts_room); w_small = omega (arith, r.whole.head.n_small) }

    pub switches_room : RunRoom m (switches_run m) x
    switches_room = record { there = omega (arith, forbiddens_at m, cuts_at m, words_end m, r.whole.long); room = omega (arith, cuts_room); w_small = omega (arith, r.whole.head.n_small) }

    pub forbiddens_room : RunRoom m (forbiddens_run m) x
    forbiddens_room = record { there = omega (arith, cuts_at m, words_end m, r.whole.long); room = omega (arith, cuts_room); w_small = omega (arith, r.whole.head.n_small) }

  -- the loop over the cuts
  pub cut_place : {l to : ℕ} {x : List ℕ} → l ≤ L# m → Written (cut_field_of m) d (cuts_from m) l to x → length x ≡ length d
  cut_place {l} {to} {x} u h = length_written (cut_field_of m) d (cuts_from m) (omega (arith, cuts_room)) h
      (⊎_elim (λ v. omega (arith, h.to_is, cuts_within m l v, cuts_room)) (λ e. omega (arith, h.to_is, cuts_all m e refl, cuts_room)) (split l (L# m) (omega arith)))

  pub cut_room : {l to : ℕ} {x : List ℕ} → l < L# m → Written (cut_field_of m) d (cuts_from m) l to x → CutRoom m l x to
  cut_room {l} {to} {x} u h = record { whole = r.whole; location = u; room = omega (arith, cut_place (omega arith) h, h.to_is, cuts_within m l u, cuts_room) }

  pub cuts_written : {l to : ℕ} {x : List ℕ} → l ≡ L# m → Written (cut_field_of m) d (cuts_from m) l to x → (x ≡ onto (take (cuts_from m) d ++ cut_fields m) d) × (to ≡ cuts_from m + length (cut_fields m))
  unfolding cut_fields
  cuts_written e h = (h.buffer_is ∙ ap (λ (k : ℕ). onto (take (cuts_from m) d ++ cat k (cut_field_of m)) d) e, h.to_is ∙ ap (λ (k : ℕ). cuts_from m + length (cat k (cut_field_of m))) e)

-- ---- how the call ends

module _ (m : List ℤ) (d : List ℕ) where
  pub write_stopped : (r : Refusal) → number r ≡ write_model_questions m (length d) → record { count = Err (number r); file = d } ≡ write_model_call m d
  unfolding write_model_call
  write_stopped r e = write_refused (model_file m) d e (number_not_0 r)

  module _ (yes : 0 ≡ write_model_questions m (length d)) where
    pub write_yes : FileRoom m d
    unfolding write_model_questions
    write_yes =
        let a : (model_questions m ≡ 0) × (file_room_question m (length d) ≡ 0) = then_both (model_questions m) (file_room_question m (length d)) (sym yes) in
        record { whole = whole_passed m (passed m a.0); room = leb→le (length (model_file m)) (length d) (ask_yes (leb (length (model_file m)) (length d)) 40 (omega arith) a.1) }

    pub write_passed : {k : ℕ} {x : List ℕ} → k ≡ length (model_file m) → x ≡ onto (model_file m) d → record { count = Ok k; file = x } ≡ write_model_call m d
    unfolding write_model_call
    write_passed ek ex = write_done (model_file m) d yes refl ek ex
