-- A model's file is read exactly if it is the file of words that pass the questions, and then gives those words. One way, each
-- field that is written is read back; the other way, each field that is read is the one that would be written.
use Rattle.std.specs.Prelude.{Err, Ok}
use mathlib.Core.Path.{◌≡◌, refl, sym, ap, ap₂, subst, ◌∙◌}
use mathlib.Core.Bool.{Bool}
use mathlib.Core.Logic.{⊎_elim}
use mathlib.Core.List.{List, [], ◌∷◌, ◌++◌, append_assoc}
use Prim.Native.Nat.{ℕ, suc, ◌+◌, ◌*◌, ◌≤◌, ◌<◌}
use native.Mathlib.Omega.{arith}
use lib.Dec.{T, leb, eqb, le→leb, eqb_refl}
use lib.IntN.{ℤ, pos, negsuc}
use lib.Signed.{non_neg}
use lib.ListN.{length, get_or, take, drop, length-append, length-drop, take-append-drop, replicate}
use lib.Seq.{get_or_at, take-add, take_at, drop_at, get_or-take, get_or-drop, get_or-append-add}
use Rattle.integers.specs.Words.{word, within, AreWords, AreBytes, onto}
use Rattle.integers.specs.Counted.{cat}
use Rattle.integers.proofs.Tests.{by_test}
use Rattle.integers.proofs.Counted as counted
use Rattle.integers.proofs.Counted.{within_one}
use Rattle.integers.proofs.Buffers.{cat_ext, cat_at, cat_parts, length-cat, take-onto}
use Rattle.files.specs.Bytes.{words_at, words_bytes, part}
use Rattle.files.specs.Fields.{field_at, field, field_place, is_field}
use Rattle.files.specs.declared.Field.{Field}
use Rattle.files.specs.declared.Field.TheVariants.{Whole}
use Rattle.files.proofs.Words.{length_bytes, length_part, length_words, all_bytes_back}
use Rattle.files.proofs.Fields.{length-field, field_back, field_words_back, field-part, length_fields, fields_back, fields_words_back, fields_stand, due, whole_is}
use Rattle.plant.specs.Ask.{ask, ◌then◌}
use Rattle.plant.specs.Model.{n#, L#, E#, B#, edition, location_at, switch_at, forbidden_at, cut_at, cut_variable, cut_value, model_size}
use Rattle.plant.specs.Questions.{ranges_questions, edition_question, records_questions, model_questions}
use Rattle.plant.proofs.Asks.{ask_intro, ask_le, asked, then_both, then_intro, then_le, first_intro, first_le}
use Rattle.plant.proofs.Numbers.{records_le, ranges_le}
use Rattle.plant.proofs.Passed.{IsUncut, IsCut, Passed, passed, ranges_passed}
use Rattle.plant.specs.Calls.{read_reply, words_read, unless_refused}
use Rattle.plant.proofs.Reading.{past, done}
use Rattle.plant.proofs.Whole as model
use Rattle.plant.proofs.Positions.{head_first, location_within, switch_within, forbidden_within, cut-within}
use Rattle.plant.proofs.Passing.{whole_passed}
use Rattle.files.specs.ModelFile.{first_tag, edition_of, record_field, cut_field, model_file, has_tag, field_questions, run_questions, head_words, is_head, head_questions, buffer_question, records_file_questions, switches_from, forbiddens_from, cuts_from, cut_place, cut_field_words, least_location, cut_words_ok, cut_field_questions, end_questions, cuts_questions, body_questions, run_words, record_words, file_cut, cut_words, file_words, read_model_call}
use Rattle.files.specs.ModelFilesExact.{IsModelFile, ModelFilesExact}
use Rattle.plant.proofs.Beginning.{records_alone}
use Rattle.files.proofs.RecordWords.{head_fits, location_fits, switch_fits, forbidden_fits, cut_fits}
use Rattle.files.proofs.Cuts.{length_cut}
use Rattle.files.proofs.CutsBack.{cuts_stand, cuts_asked, cuts_read}
use Rattle.files.proofs.FirstField.{FirstField, first_field, edition_back, edition-within, head_is, length_head, one_more}
use Rattle.plant.proofs.Heads.{SameHead, same_size, same_ranges, same_edition, switches_at, forbiddens_at, cuts_at, words_end}
use Rattle.files.proofs.ModelReading.{same_body, same_words, same_file, to_cuts, length_file, length_run, BodyPassed, body_passed}

-- ---- lists in four parts

module _ {A : Type 0} where
  -- the front of a list, in four parts
  four_parts : (l : List A) (x a b c : ℕ) → take x l ++ (part l x a ++ (part l (x + a) b ++ part l (x + a + b) c)) ≡ take (x + a + b + c) l
  four_parts l x a b c =
      ap (λ (r : List A). take x l ++ r) (sym (append_assoc (part l x a) (part l (x + a) b) (part l (x + a + b) c)))
      ∙ sym (append_assoc (take x l) (part l x a ++ part l (x + a) b) (part l (x + a + b) c))
      ∙ ap (λ (r : List A). r ++ part l (x + a + b) c) (sym (append_assoc (take x l) (part l x a) (part l (x + a) b)) ∙ ap (λ (r : List A). r ++ part l (x + a) b) (sym (take-add x a l)) ∙ sym (take-add (x + a) b l))
      ∙ sym (take-add (x + a + b) c l)

  -- and the rest
  five_parts : (l : List A) (x a b c : ℕ) → take x l ++ (part l x a ++ (part l (x + a) b ++ (part l (x + a + b) c ++ drop (x + a + b + c) l))) ≡ l
  five_parts l x a b c =
      ap (λ (r : List A). take x l ++ r)
      (ap (λ (r : List A). part l x a ++ r) (sym (append_assoc (part l (x + a) b) (part l (x + a + b) c) (drop (x + a + b + c) l)))
      ∙ sym (append_assoc (part l x a) (part l (x + a) b ++ part l (x + a + b) c) (drop (x + a + b + c) l)))
      ∙ sym (append_assoc (take x l) (part l x a ++ (part l (x + a) b ++ part l (x + a + b) c)) (drop (x + a + b + c) l))
      ∙ ap (λ (r : List A). r ++ drop (x + a + b + c) l) (four_parts l x a b c)
      ∙ take-append-drop (x + a + b + c) l

  -- list i of lists of one length, after p
  part_of_cat : (p : List A) (g : ℕ → List A) (q : List A) (k w at i : ℕ) → length p ≡ at → ((i : ℕ) → i < k → length (g i) ≡ w) → i < k → part (p ++ (cat k g ++ q)) (at + i * w) w ≡ g i
  part_of_cat p g q k w at i e lens l =
      let c = cat_at g k i l in
      let around : p ++ (cat k g ++ q) ≡ (p ++ cat i g) ++ (g i ++ (c.0 ++ q)) =
      ap (λ (x : List A). p ++ (x ++ q)) c.1
      ∙ ap (λ (x : List A). p ++ x) (append_assoc (cat i g) (g i ++ c.0) q ∙ ap (λ (x : List A). cat i g ++ x) (append_assoc (g i) c.0 q))
      ∙ sym (append_assoc p (cat i g) (g i ++ (c.0 ++ q))) in
      let before : length (p ++ cat i g) ≡ at + i * w = omega (arith, length-append p (cat i g), length-cat i w g (λ j u. lens j (omega arith))) in
      rw around (ap (take w) (drop_at (p ++ cat i g) (g i ++ (c.0 ++ q)) (at + i * w) before) ∙ take_at (g i) (c.0 ++ q) w (lens i l))

-- two words of a list
front_two : (s : List ℤ) → 2 ≤ length s → take 2 s ≡ word s 0 ∷ word s 1 ∷ []
front_two [] h = absurd (omega arith)
front_two (a ∷ []) h = absurd (omega arith)
front_two (a ∷ b ∷ s) h = refl

pub two_words : (s : List ℤ) (at : ℕ) → at + 2 ≤ length s → part s at 2 ≡ word s at ∷ word s (at + 1) ∷ []
two_words s at h = front_two (drop at s) (omega (arith, length-drop at s)) ∙ ap₂ (λ (a b : ℤ). a ∷ b ∷ []) (get_or-drop at s 0 (pos 0) ∙ ap (word s) (omega arith)) (get_or-drop at s 1 (pos 0))

-- ---- a run of fields that is written is read back

tag_yes : (f : Field) (tag start len next : ℕ) → f ≡ Whole tag start len next → T (has_tag f tag)
tag_yes f tag start len next e = rw e (eqb_refl tag)

questions_yes : (f : Field) (tag start len next : ℕ) → f ≡ Whole tag start len next → field_questions f tag len ≡ 0
questions_yes f tag start len next e = then_intro (ask_intro (has_tag f tag) 6 (tag_yes f tag start len next e)) (ask_intro (is_field f tag len) 7 (whole_is f tag start len next e))

module _ (s p : List ℕ) (tag : ℕ) (zs : ℕ → List ℤ) (k w : ℕ) (q : List ℕ) (at : ℕ) (es : s ≡ p ++ (cat k (λ i. field tag (words_bytes (zs i))) ++ q)) (ep : length p ≡ at) (ew : (i : ℕ) → i < k → length (zs i) ≡ w) where
  run_yes : 4 * w < 65536 → run_questions s at k tag w ≡ 0
  unfolding run_questions
  run_yes h =
      first_intro k (λ i. field_questions (field_at s (field_place at w i)) tag (4 * w)) (λ i l.
      questions_yes (field_at s (field_place at w i)) tag (field_place at w i + 3) (4 * w) (field_place at w i + 3 + 4 * w) (rw es (fields_back p tag zs k w q at ep ew i l h)))

  run_words_lem : ((i : ℕ) → i < k → AreWords (zs i)) → run_words s at k w ≡ cat k zs
  unfolding run_words
  run_words_lem f = cat_ext k (λ i. words_at s (field_place at w i + 3) w) zs (λ i l. rw es (fields_words_back p tag zs k w q at ep ew i l (f i l)))

-- ---- the file of a model's words is read

module _ (m : List ℤ) where
  abbrev location_words : ℕ → List ℤ
  location_words l = part m (location_at m l) (6 * n# m + 1)

  abbrev switch_words : ℕ → List ℤ
  switch_words e = part m (switch_at m e) (6 + 4 * n# m)

  abbrev forbidden_words : ℕ → List ℤ
  forbidden_words b = part m (forbidden_at m b) (1 + 2 * n# m)

  abbrev pub head_field : List ℕ
  head_field = field (first_tag (edition m)) (words_bytes (part m 0 4))

  abbrev pub locations : List ℕ
  locations = cat (L# m) (λ l. field 2 (words_bytes (location_words l)))

  abbrev pub switches : List ℕ
  switches = cat (E# m) (λ e. field 3 (words_bytes (switch_words e)))

  abbrev pub forbiddens : List ℕ
  forbiddens = cat (B# m) (λ b. field 4 (words_bytes (forbidden_words b)))

  abbrev pub cuts : List ℕ
  cuts = cat (L# m) (λ l. cut_field l (cut_variable m l) (cut_value m l))

  abbrev s : List ℕ
  s = head_field ++ (locations ++ (switches ++ (forbiddens ++ cuts)))

  module _ (w : model.Whole m) where
    -- lengths

    four : length (part m 0 4) ≡ 4
    four = length_part m 0 4 (omega (arith, w.head.there))

    length_payload : length (words_bytes (part m 0 4)) ≡ 16
    length_payload = omega (arith, length_bytes (part m 0 4), four)

    pub length_head_field : length head_field ≡ 19
    length_head_field = omega (arith, length-field (first_tag (edition m)) (words_bytes (part m 0 4)), length_payload)

    length_location : (l : ℕ) → l < L# m → length (location_words l) ≡ 6 * n# m + 1
    length_location l u = length_part m (location_at m l) (6 * n# m + 1) (location_within m w l u)

    length_switch : (e : ℕ) → e < E# m → length (switch_words e) ≡ 6 + 4 * n# m
    length_switch e u = length_part m (switch_at m e) (6 + 4 * n# m) (switch_within m w e u)

    length_forbidden : (b : ℕ) → b < B# m → length (forbidden_words b) ≡ 1 + 2 * n# m
    length_forbidden b u = length_part m (forbidden_at m b) (1 + 2 * n# m) (forbidden_within m w b u)

    -- what stands before each run

    pub before_switches : length (head_field ++ locations) ≡ switches_from m
    before_switches =
        omega (arith, length-append head_field locations, length_head_field, length_fields head_field 2 location_words (L# m) (6 * n# m + 1) (switches ++ (forbiddens ++ cuts)) 19 length_head_field length_location (L# m) (omega arith))

    pub before_forbiddens : length ((head_field ++ locations) ++ switches) ≡ forbiddens_from m
    before_forbiddens =
        omega (arith, length-append (head_field ++ locations) switches, before_switches, length_fields (head_field ++ locations) 3 switch_words (E# m) (6 + 4 * n# m) (forbiddens ++ cuts) (switches_from m) before_switches length_switch (E# m) (omega arith))

    pub before_cuts : length (((head_field ++ locations) ++ switches) ++ forbiddens) ≡ cuts_from m
    before_cuts =
        omega (arith, length-append ((head_field ++ locations) ++ switches) forbiddens, before_forbiddens, length_fields ((head_field ++ locations) ++ switches) 4 forbidden_words (B# m) (1 + 2 * n# m) cuts (forbiddens_from m) before_forbiddens length_forbidden (B# m) (omega arith))

    around_switches : s ≡ (head_field ++ locations) ++ (switches ++ (forbiddens ++ cuts))
    around_switches = sym (append_assoc head_field locations (switches ++ (forbiddens ++ cuts)))

    around_forbiddens : s ≡ ((head_field ++ locations) ++ switches) ++ (forbiddens ++ cuts)
    around_forbiddens = around_switches ∙ sym (append_assoc (head_field ++ locations) switches (forbiddens ++ cuts))

    pub around_cuts : s ≡ (((head_field ++ locations) ++ switches) ++ forbiddens) ++ cuts
    around_cuts = around_forbiddens ∙ sym (append_assoc ((head_field ++ locations) ++ switches) forbiddens cuts)

    module _ (ok : Passed m) where
      -- the value of a location that is not cut

      no_value : (l : ℕ) → l < L# m → cut_variable m l ≡ negsuc 0 → cut_value m l ≡ pos 0
      no_value l u e = ⊎_elim (λ (c : IsUncut m l). c.no_value) (λ (c : IsCut m l). absurd (subst (λ (z : ℤ). T (non_neg z)) e c.not_negative)) (ok.of_cut l u).words

      -- the questions of the fields

      body_yes : body_questions s m ≡ 0
      unfolding body_questions
      body_yes =
          let small : n# m ≤ 6 = ok.n_small in
          then_intro (run_yes s head_field 2 location_words (L# m) (6 * n# m + 1) (switches ++ (forbiddens ++ cuts)) 19 refl length_head_field length_location (omega arith))
          (then_intro (run_yes s (head_field ++ locations) 3 switch_words (E# m) (6 + 4 * n# m) (forbiddens ++ cuts) (switches_from m) around_switches before_switches length_switch (omega arith))
          (then_intro (run_yes s ((head_field ++ locations) ++ switches) 4 forbidden_words (B# m) (1 + 2 * n# m) cuts (forbiddens_from m) around_forbiddens before_forbiddens length_forbidden (omega arith))
          (rw around_cuts (cuts_asked (((head_field ++ locations) ++ switches) ++ forbiddens) (cut_variable m) (cut_value m) (cuts_from m) (L# m) before_cuts (cut_fits m ok) no_value))))

      head_yes : T (is_head (field_at s 0))
      head_yes = head_is (field_at s 0) (edition m) (whole_is (field_at s 0) (first_tag (edition m)) 3 16 19 (field_back [] (first_tag (edition m)) (words_bytes (part m 0 4)) (locations ++ (switches ++ (forbiddens ++ cuts))) 0 16 refl length_payload (omega arith)))

      -- the words

      first_byte : get_or s 0 0 ≡ first_tag (edition m)
      unfolding field
      first_byte = refl

      head_words_lem : head_words s ≡ take 5 m
      unfolding head_words
      head_words_lem =
          ap₂ (λ (x : List ℤ) (z : ℤ). x ++ (z ∷ []))
          (field_words_back [] (first_tag (edition m)) (part m 0 4) (locations ++ (switches ++ (forbiddens ++ cuts))) 0 4 refl four (head_fits m ok))
          (ap edition_of first_byte ∙ edition_back (edition m) ok.edition_is)
          ∙ sym (one_more 4 m (omega (arith, w.head.there)))

      same : SameHead (head_words s) m
      same j l = rw head_words_lem (get_or-take 5 m j (pos 0) l)

      location_parts : cat (L# m) location_words ≡ part m 5 (L# m * (6 * n# m + 1))
      unfolding location_at
      location_parts = cat_parts m 5 (6 * n# m + 1) (L# m)

      switch_parts : cat (E# m) switch_words ≡ part m (5 + L# m * (6 * n# m + 1)) (E# m * (6 + 4 * n# m))
      unfolding switch_at location_at
      switch_parts = cat_parts m (5 + L# m * (6 * n# m + 1)) (6 + 4 * n# m) (E# m)

      forbidden_parts : cat (B# m) forbidden_words ≡ part m (5 + L# m * (6 * n# m + 1) + E# m * (6 + 4 * n# m)) (B# m * (1 + 2 * n# m))
      unfolding forbidden_at switch_at location_at
      forbidden_parts = cat_parts m (5 + L# m * (6 * n# m + 1) + E# m * (6 + 4 * n# m)) (1 + 2 * n# m) (B# m)

      runs : run_words s 19 (L# m) (6 * n# m + 1) ++ (run_words s (switches_from m) (E# m) (6 + 4 * n# m) ++ run_words s (forbiddens_from m) (B# m) (1 + 2 * n# m))
          ≡ cat (L# m) location_words ++ (cat (E# m) switch_words ++ cat (B# m) forbidden_words)
      runs =
          ap₂ (λ (x y : List ℤ). x ++ y) (run_words_lem s head_field 2 location_words (L# m) (6 * n# m + 1) (switches ++ (forbiddens ++ cuts)) 19 refl length_head_field length_location (location_fits m ok))
          (ap₂ (λ (x y : List ℤ). x ++ y) (run_words_lem s (head_field ++ locations) 3 switch_words (E# m) (6 + 4 * n# m) (forbiddens ++ cuts) (switches_from m) around_switches before_switches length_switch (switch_fits m ok))
          (run_words_lem s ((head_field ++ locations) ++ switches) 4 forbidden_words (B# m) (1 + 2 * n# m) cuts (forbiddens_from m) around_forbiddens before_forbiddens length_forbidden (forbidden_fits m ok)))

      cut_parts : cut_words s (cuts_from m) (L# m) ≡ part m (5 + L# m * (6 * n# m + 1) + E# m * (6 + 4 * n# m) + B# m * (1 + 2 * n# m)) (L# m * 2)
      unfolding cut_words cut_variable cut_value cut_at forbidden_at switch_at location_at
      cut_parts =
          cat_ext (L# m) (file_cut s (cuts_from m) (L# m)) (λ l. part m (cut_at m l) 2)
          (λ l u. subst (λ (x : List ℕ). file_cut x (cuts_from m) (L# m) l ≡ cut_variable m l ∷ cut_value m l ∷ []) (sym around_cuts)
          (cuts_read (((head_field ++ locations) ++ switches) ++ forbiddens) (cut_variable m) (cut_value m) (cuts_from m) (L# m) before_cuts (cut_fits m ok) no_value l u)
          ∙ sym (two_words m (cut_at m l) (cut-within m w l u)))
          ∙ cat_parts m (5 + L# m * (6 * n# m + 1) + E# m * (6 + 4 * n# m) + B# m * (1 + 2 * n# m)) 2 (L# m)

      size_is : 5 + L# m * (6 * n# m + 1) + E# m * (6 + 4 * n# m) + B# m * (1 + 2 * n# m) + L# m * 2 ≡ model_size m
      size_is = omega (arith, switches_at m, forbiddens_at m, cuts_at m, words_end m)

      words_are : file_words s (head_words s) ≡ take (model_size m) m
      words_are =
          same_words (head_words s) m same s
          ∙ ap₂ (λ (x y : List ℤ). x ++ y)
          (ap₂ (λ (x y : List ℤ). x ++ y) head_words_lem (runs ∙ ap₂ (λ (x y : List ℤ). x ++ y) location_parts (ap₂ (λ (x y : List ℤ). x ++ y) switch_parts forbidden_parts))
          ∙ four_parts m 5 (L# m * (6 * n# m + 1)) (E# m * (6 + 4 * n# m)) (B# m * (1 + 2 * n# m)))
          cut_parts
          ∙ sym (take-add (5 + L# m * (6 * n# m + 1) + E# m * (6 + 4 * n# m) + B# m * (1 + 2 * n# m)) (L# m * 2) m)
          ∙ ap (λ (k : ℕ). take k m) size_is

      reads : (words : List ℤ) → ranges_questions m ≡ 0 → records_questions m ≡ 0 → model_size m ≤ length words
          → record { count = Ok (model_size m); words = onto (take (model_size m) m) words } ≡ read_model_call s words
      unfolding read_model_call head_questions records_file_questions
      reads words ranges records room =
          let size : model_size (head_words s) ≡ model_size m = same_size (head_words s) m same in
          past _
          (then_intro (then_intro (ask_intro (is_head (field_at s 0)) 1 head_yes) (same_ranges (head_words s) m same ∙ ranges))
          (ask_intro (leb (model_size (head_words s)) (length words)) 5 (le→leb (model_size (head_words s)) (length words) (omega (arith, size)))))
          (past _ (then_intro (same_body (head_words s) m same s ∙ body_yes) (ap records_questions words_are ∙ records_alone m w ∙ records))
          (rw (size, words_are) refl))

-- ---- no refusal is 100

asks : (b : Bool) (k : ℕ) → k ≤ 46 → ask b k ≤ 46
asks b k h = omega (arith, ask_le b k)

module _ (s : List ℕ) where
  run_le : (from count tag w : ℕ) → run_questions s from count tag w ≤ 46
  unfolding run_questions
  run_le from count tag w =
      first_le count (λ i. field_questions (field_at s (field_place from w i)) tag (4 * w)) 46 (λ i.
      let f : Field = field_at s (field_place from w i) in
      then_le _ _ 46 (asks (has_tag f tag) 6 (omega arith)) (asks (is_field f tag (4 * w)) 7 (omega arith)))

  cuts_le : (from L : ℕ) → cuts_questions s from L ≤ 46
  unfolding cuts_questions end_questions cut_field_questions
  cuts_le from L =
      first_le (suc L) (end_questions s from L) 46 (λ i.
      let at : ℕ = cut_place from i in
      let least : ℕ = least_location s from i in
      by_test (λ (q : ℕ). q ≤ 46) (leb (length s) at) (λ _. omega arith)
      (λ _. then_le _ _ 46 (asks (eqb (get_or s at 0) 8) 8 (omega arith))
      (then_le _ _ 46 (asks (is_field (field_at s at) 8 12) 46 (omega arith)) (asks (cut_words_ok (cut_field_words s at) least L) 46 (omega arith)))))

  pub head_le : head_questions s ≤ 46
  unfolding head_questions
  head_le = then_le _ _ 46 (asks (is_head (field_at s 0)) 1 (omega arith)) (ranges_le (head_words s))

  body_le : (h : List ℤ) → body_questions s h ≤ 46
  unfolding body_questions
  body_le h =
      then_le _ _ 46 (run_le 19 (L# h) 2 (6 * n# h + 1))
      (then_le _ _ 46 (run_le (switches_from h) (E# h) 3 (6 + 4 * n# h))
      (then_le _ _ 46 (run_le (forbiddens_from h) (B# h) 4 (1 + 2 * n# h))
      (cuts_le (cuts_from h) (L# h))))

  pub records_file_le : (h : List ℤ) → records_file_questions s h ≤ 46
  unfolding records_file_questions
  records_file_le h = then_le _ _ 46 (body_le h) (records_le (file_words s h))

-- ---- bytes that are read are the file of the words that they give

-- the file of the words a, by the head words b
file_by : (a b : List ℤ) → SameHead a b → model_file a
    ≡ record_field (first_tag (edition b)) a 0 4
    ++ (cat (L# b) (λ i. record_field 2 a (5 + i * (6 * n# b + 1)) (6 * n# b + 1))
    ++ (cat (E# b) (λ i. record_field 3 a (5 + L# b * (6 * n# b + 1) + i * (6 + 4 * n# b)) (6 + 4 * n# b))
    ++ (cat (B# b) (λ i. record_field 4 a (5 + L# b * (6 * n# b + 1) + E# b * (6 + 4 * n# b) + i * (1 + 2 * n# b)) (1 + 2 * n# b))
    ++ cat (L# b) (λ i. cut_field i (word a (5 + L# b * (6 * n# b + 1) + E# b * (6 + 4 * n# b) + B# b * (1 + 2 * n# b) + i * 2)) (word a (5 + L# b * (6 * n# b + 1) + E# b * (6 + 4 * n# b) + B# b * (1 + 2 * n# b) + i * 2 + 1))))))
unfolding model_file location_at switch_at forbidden_at cut_variable cut_value cut_at
file_by a b e = rw (e 0 (omega arith), e 1 (omega arith), e 2 (omega arith), e 3 (omega arith), e 4 (omega arith)) refl

-- the fields of a run are the file's part that is read
run_stands : (s : List ℕ) (b : AreBytes s) (a p : List ℤ) (q : List ℤ) (from count tag w at : ℕ) → a ≡ p ++ (run_words s from count w ++ q) → length p ≡ at
    → ((i : ℕ) → i < count → T (is_field (field_at s (field_place from w i)) tag (4 * w))) → cat count (λ i. record_field tag a (at + i * w) w) ≡ part s from (count * (3 + 4 * w))
unfolding run_words
run_stands s b a p q from count tag w at ea ep whole =
    cat_ext count (λ i. record_field tag a (at + i * w) w) (λ i. field tag (words_bytes (words_at s (field_place from w i + 3) w)))
    (λ i l. ap (λ (x : List ℤ). field tag (words_bytes x)) (ap (λ (x : List ℤ). part x (at + i * w) w) ea ∙ part_of_cat p (λ i. words_at s (field_place from w i + 3) w) q count w at i ep (λ j u. length_words s (field_place from w j + 3) w) l))
    ∙ sym (fields_stand s b from tag w count (λ i l. (due s (field_place from w i) tag (4 * w) (whole i l)).field_is))

-- the words of a file pass the questions of words
module _ (s : List ℕ) where
  same_read : SameHead (file_words s (head_words s)) (head_words s)
  same_read = same_file s (head_words s) (length_head s)

  length_read : length (file_words s (head_words s)) ≡ model_size (head_words s)
  length_read = length_file s (head_words s) (length_head s)

  read_size : model_size (file_words s (head_words s)) ≡ model_size (head_words s)
  read_size = same_size (file_words s (head_words s)) (head_words s) same_read

  edition_read : edition (head_words s) ≡ edition_of (get_or s 0 0)
  unfolding head_words
  edition_read = get_or_at (words_at s 3 4) (edition_of (get_or s 0 0)) [] (pos 0) 4 (length_words s 3 4)

  edition_yes : edition_question (head_words s) ≡ 0
  unfolding edition_question
  edition_yes = rw edition_read (ask_intro (within (pos 1) (pos 2) (edition_of (get_or s 0 0))) 43 (edition-within (get_or s 0 0)))

  pub read_passes : ranges_questions (head_words s) ≡ 0 → records_questions (file_words s (head_words s)) ≡ 0 → model_questions (file_words s (head_words s)) ≡ 0
  unfolding model_questions
  read_passes ranges records =
      let a : List ℤ = file_words s (head_words s) in
      then_intro (ask_intro (leb 5 (length a)) 5 (le→leb 5 (length a) (omega (arith, length_read, head_first (head_words s)))))
      (then_intro (same_ranges a (head_words s) same_read ∙ ranges)
      (then_intro (same_edition a (head_words s) same_read ∙ edition_yes)
      (then_intro (ask_intro (leb (model_size a) (length a)) 5 (le→leb (model_size a) (length a) (omega (arith, length_read, read_size)))) records)))

module _ (s : List ℕ) (b : AreBytes s) (first : FirstField s) (some : 0 < L# (head_words s)) (y : BodyPassed s (head_words s)) where
  abbrev h : List ℤ
  h = head_words s

  abbrev a : List ℤ
  a = file_words s h

  abbrev location_run : List ℤ
  location_run = run_words s 19 (L# h) (6 * n# h + 1)

  abbrev switch_run : List ℤ
  switch_run = run_words s (switches_from h) (E# h) (6 + 4 * n# h)

  abbrev forbidden_run : List ℤ
  forbidden_run = run_words s (forbiddens_from h) (B# h) (1 + 2 * n# h)

  abbrev cut_run : List ℤ
  cut_run = cut_words s (cuts_from h) (L# h)

  around_locations : a ≡ h ++ (location_run ++ (switch_run ++ (forbidden_run ++ cut_run)))
  unfolding file_words record_words
  around_locations =
      append_assoc h (location_run ++ (switch_run ++ forbidden_run)) cut_run
      ∙ ap (λ (x : List ℤ). h ++ x) (append_assoc location_run (switch_run ++ forbidden_run) cut_run ∙ ap (λ (x : List ℤ). location_run ++ x) (append_assoc switch_run forbidden_run cut_run))

  around_switch_run : a ≡ (h ++ location_run) ++ (switch_run ++ (forbidden_run ++ cut_run))
  around_switch_run = around_locations ∙ sym (append_assoc h location_run (switch_run ++ (forbidden_run ++ cut_run)))

  around_forbidden_run : a ≡ ((h ++ location_run) ++ switch_run) ++ (forbidden_run ++ cut_run)
  around_forbidden_run = around_switch_run ∙ sym (append_assoc (h ++ location_run) switch_run (forbidden_run ++ cut_run))

  length_two : length (h ++ location_run) ≡ 5 + L# h * (6 * n# h + 1)
  length_two = omega (arith, length-append h location_run, length_head s, length_run s 19 (L# h) (6 * n# h + 1))

  length_three : length ((h ++ location_run) ++ switch_run) ≡ 5 + L# h * (6 * n# h + 1) + E# h * (6 + 4 * n# h)
  length_three = omega (arith, length-append (h ++ location_run) switch_run, length_two, length_run s (switches_from h) (E# h) (6 + 4 * n# h))

  head_part : part a 0 4 ≡ words_at s 3 4
  unfolding head_words
  head_part =
      let rest : List ℤ = location_run ++ (switch_run ++ (forbidden_run ++ cut_run)) in
      let fifth : List ℤ = edition_of (get_or s 0 0) ∷ [] in
      ap (λ (x : List ℤ). part x 0 4) (around_locations ∙ append_assoc (words_at s 3 4) fifth rest) ∙ take_at (words_at s 3 4) (fifth ++ rest) 4 (length_words s 3 4)

  head_stands : record_field (first_tag (edition h)) a 0 4 ≡ take 19 s
  head_stands =
      ap₂ (λ (tag : ℕ) (x : List ℤ). field tag (words_bytes x)) (ap first_tag (edition_read s) ∙ first.is_tag) head_part
      ∙ ap (field first.tag) (all_bytes_back s 3 4 b first.is_due.there)
      ∙ sym (field-part s 0 first.tag 3 16 19 b first.is_due.field_is)

  -- word j of the cut of location l
  cut_word : (at l j : ℕ) → length (record_words s h) ≡ at → l < L# h → j < 2 → word a (at + (l * 2 + j)) ≡ word (file_cut s (cuts_from h) (L# h) l) j
  unfolding file_words cut_words
  cut_word at l j e u v =
      rw (← e) (get_or-append-add (record_words s h) cut_run (l * 2 + j) (pos 0) ∙ counted.cat_at (L# h) 2 (file_cut s (cuts_from h) (L# h)) (λ i _. length_cut s (cuts_from h) (L# h) i) l j u v)

  -- the fields of the cuts are the rest of the file
  cuts_again : (at : ℕ) → length (record_words s h) ≡ at → cat (L# h) (λ l. cut_field l (word a (at + l * 2)) (word a (at + l * 2 + 1))) ≡ drop (cuts_from h) s
  cuts_again at e =
      cat_ext (L# h) (λ l. cut_field l (word a (at + l * 2)) (word a (at + l * 2 + 1))) (λ l. cut_field l (word (file_cut s (cuts_from h) (L# h) l) 0) (word (file_cut s (cuts_from h) (L# h) l) 1))
      (λ l u.
      let p : at + l * 2 ≡ at + (l * 2 + 0) = omega arith in
      let q : at + l * 2 + 1 ≡ at + (l * 2 + 1) = omega arith in
      ap₂ (λ (v x : ℤ). cut_field l v x) (ap (word a) p ∙ cut_word at l 0 e u (omega arith)) (ap (word a) q ∙ cut_word at l 1 e u (omega arith)))
      ∙ cuts_stand s b (cuts_from h) (L# h) some y.cuts_pass

  is_file : s ≡ model_file a
  is_file =
      sym (file_by a h (same_file s h (length_head s))
      ∙ ap₂ (λ (x y : List ℕ). x ++ y) head_stands
      (ap₂ (λ (x y : List ℕ). x ++ y) (run_stands s b a h (switch_run ++ (forbidden_run ++ cut_run)) 19 (L# h) 2 (6 * n# h + 1) 5 around_locations (length_head s) y.locations_whole)
      (ap₂ (λ (x y : List ℕ). x ++ y) (run_stands s b a (h ++ location_run) (forbidden_run ++ cut_run) (switches_from h) (E# h) 3 (6 + 4 * n# h) (5 + L# h * (6 * n# h + 1)) around_switch_run length_two y.switches_whole)
      (ap₂ (λ (x y : List ℕ). x ++ y) (run_stands s b a ((h ++ location_run) ++ switch_run) cut_run (forbiddens_from h) (B# h) 4 (1 + 2 * n# h) (5 + L# h * (6 * n# h + 1) + E# h * (6 + 4 * n# h)) around_forbidden_run length_three y.forbiddens_whole)
      (cuts_again (5 + L# h * (6 * n# h + 1) + E# h * (6 + 4 * n# h) + B# h * (1 + 2 * n# h)) (to_cuts s h (length_head s) ∙ omega (arith, switches_at h, forbiddens_at h, cuts_at h))))))
      ∙ five_parts s 19 (L# h * (3 + 4 * (6 * n# h + 1))) (E# h * (3 + 4 * (6 + 4 * n# h))) (B# h * (3 + 4 * (1 + 2 * n# h))))

  read_file : ranges_questions h ≡ 0 → records_questions a ≡ 0 → IsModelFile s a
  read_file ranges records = record { is_file = is_file; passes = read_passes s ranges records; no_more = length_read s ∙ sym (read_size s) }

head_passed : (s : List ℕ) → head_questions s ≡ 0 → FirstField s × (ranges_questions (head_words s) ≡ 0)
unfolding head_questions
head_passed s e =
    let x : T (is_head (field_at s 0)) × (ranges_questions (head_words s) ≡ 0) = asked (is_head (field_at s 0)) 1 (ranges_questions (head_words s)) (omega arith) e in
    (first_field s x.0, x.1)

-- ---- the theorem

pub file_read : (m words : List ℤ) → model_questions m ≡ 0 → model_size m ≤ length words
    → record { count = Ok (model_size m); words = onto (take (model_size m) m) words } ≡ read_model_call (model_file m) words
unfolding model_file model_questions
file_read m words e room =
    let x : _ × _ = asked (leb 5 (length m)) 5 _ (omega arith) e in
    let y : (ranges_questions m ≡ 0) × _ = then_both (ranges_questions m) _ x.1 in
    let k : (edition_question m ≡ 0) × _ = then_both (edition_question m) _ y.1 in
    let z : _ × (records_questions m ≡ 0) = asked (leb (model_size m) (length m)) 5 (records_questions m) (omega arith) k.1 in
    let ok : Passed m = passed m e in
    reads m (whole_passed m ok) ok words y.0 z.1 room

read_is_file : (s : List ℕ) (words : List ℤ) → AreBytes s → (read_reply (read_model_call s words)).code ≡ 100 → IsModelFile s (words_read (read_model_call s words))
unfolding read_model_call records_file_questions
read_is_file s words b e =
    let h : List ℤ = head_words s in
    let x = done (head_questions s then buffer_question h (length words)) _ _ (omega (arith, then_le _ _ 46 (head_le s) (asks (leb (model_size h) (length words)) 5 (omega arith)))) e in
    let y = done (records_file_questions s h) _ _ (omega (arith, records_file_le s h)) (rw x.1 at e) in
    let z : (body_questions s h ≡ 0) × (records_questions (file_words s h) ≡ 0) = then_both (body_questions s h) (records_questions (file_words s h)) y.0 in
    let k = head_passed s (then_both (head_questions s) _ x.0).0 in
    rw (x.1 ∙ y.1, take-onto (file_words s h) words (model_size h) (length_file s h (length_head s)))
    (read_file s b k.0 (within_one (word h 1) 64 (ranges_passed h k.1).L_within) (body_passed s h z.0) k.1 z.1)

-- what a refusal leaves
refused_by : (s : List ℕ) (words : List ℤ) (q : ℕ) → (head_questions s then buffer_question (head_words s) (length words)) ≡ suc q → read_model_call s words ≡ record { count = Err (suc q); words = words }
unfolding read_model_call unless_refused
refused_by s words q e = rw e refl

zeroed_by : (s : List ℕ) (words : List ℤ) (q : ℕ) → (head_questions s then buffer_question (head_words s) (length words)) ≡ 0
    → records_file_questions s (head_words s) ≡ suc q → read_model_call s words ≡ record { count = Err (suc q); words = replicate (length words) (pos 0) }
unfolding read_model_call unless_refused
zeroed_by s words q e f = rw (e, f) refl

pub model_files_exact : ModelFilesExact
model_files_exact = record {
  refused_by = refused_by;
  zeroed_by = zeroed_by;
  file_reads = λ m words e room. sym (file_read m words e room);
  read_is_file = read_is_file;
}
