-- Words that follow a model's are no part of it: a list that begins with a model's words has the same answer to the questions of the
-- records, and to all of the model's questions.
use mathlib.Core.Path.{◌≡◌, refl, sym, ap, ◌∙◌}
use mathlib.Core.Bool.{Bool, true, false}
use mathlib.Core.List.{List, ◌++◌}
use Prim.Native.Nat.{ℕ, zero, suc, ◌+◌, ◌<◌, ◌≤◌}
use native.Mathlib.Decide.{dec_lt}
use native.Mathlib.Omega.{arith}
use borrow.Author.Tests.{le-leb}
use lib.IntN.{ℤ, pos}
use lib.ListN.{length, take, drop, take-append-drop}
use lib.Seq.{take_all, length-take-le, take-append-le, get_or-take}
use Rattle.integers.specs.Words.{word, eq_z}
use Rattle.integers.proofs.Tests.{by_test₂}
use Rattle.integers.proofs.Counted.{all_ext}
use Rattle.plant.specs.Ask.{◌then◌}
use Rattle.plant.specs.Model.{n#, L#, E#, B#, edition, location_at, invariant, switch_at, source, target, wall_variable, reset_mask, guard, reset, forbidden_at, cut_at, cut_variable, cut_value, model_size}
use Rattle.plant.specs.Questions.{start_ok, location_questions, places_ok, boxes_ok, single_at, single_ok, source_wall, target_wall, guard_ok, level_after, lands_ok, switch_questions, forbidden_question, cut_ok, cut_question, ranges_questions, edition_question, records_questions, model_questions}
use Rattle.plant.proofs.Asks.{first_ext}
use Rattle.plant.proofs.Passed.{PlacesPassed, places_passed}
use Rattle.plant.proofs.Whole.{Whole}
use Rattle.plant.proofs.Positions.{head_first, cuts_last, cut-within}
use Rattle.plant.proofs.Records as records
use Rattle.plant.proofs.Heads.{SameHead, same_size, same_ranges, same_edition, same_allowed}
use Rattle.plant.proofs.Passing.{head_passed}

module _ (a r : List ℤ) (w : Whole a) where
  abbrev m : List ℤ
  m = a ++ r

  -- they have the words of a
  pub same : take (length a) m ≡ take (length a) a
  same = take-append-le (length a) a r (omega arith)

  pub far : cut_at a 0 ≤ length a
  far = omega (arith, w.long, cuts_last a)

  word_same : (i : ℕ) → i < length a → word m i ≡ word a i
  word_same = records.word_same m a (length a) same far

  pub n_same : n# m ≡ n# a
  n_same = records.n_same m a (length a) same far

  pub L_same : L# m ≡ L# a
  L_same = records.L_same m a (length a) same far

  pub E_same : E# m ≡ E# a
  E_same = records.E_same m a (length a) same far

  pub B_same : B# m ≡ B# a
  B_same = records.B_same m a (length a) same far

  pub edition_same : edition m ≡ edition a
  edition_same = records.edition_same m a (length a) same far

  pub part_same : (at k : ℕ) → at + k ≤ length a → take k (drop at m) ≡ take k (drop at a)
  part_same = records.part_same m a (length a) same far

  -- ---- locations

  pub location_same : (l : ℕ) → location_at m l ≡ location_at a l
  location_same = records.location_same m a (length a) same far

  invariant_same : (l : ℕ) → l < L# a → invariant m l ≡ invariant a l
  invariant_same = records.invariant_same m a (length a) same far

  module _ (l : ℕ) (u : l < L# a) where
    location_questions_same : location_questions m l ≡ location_questions a l
    unfolding location_questions start_ok
    location_questions_same = rw (n_same, invariant_same l u, records.rate_same m a (length a) same far l u, records.flag_same m a (length a) same far l u, records.start_same m a (length a) same far l u) refl

  -- ---- switches

  pub switch_same : (e : ℕ) → switch_at m e ≡ switch_at a e
  switch_same = records.switch_same m a (length a) same far

  module _ (e : ℕ) (u : e < E# a) where
    at_same : (j : ℕ) → j < 6 → word m (switch_at a e + j) ≡ word a (switch_at a e + j)
    at_same = records.at_same m a (length a) same far e u

    first_same : word m (switch_at a e) ≡ word a (switch_at a e)
    first_same = records.first_same m a (length a) same far e u

    source_same : source m e ≡ source a e
    source_same = records.source_same m a (length a) same far e u

    target_same : target m e ≡ target a e
    target_same = records.target_same m a (length a) same far e u

    variable_same : wall_variable m e ≡ wall_variable a e
    variable_same = records.variable_same m a (length a) same far e u

    mask_same : reset_mask m e ≡ reset_mask a e
    mask_same = records.mask_same m a (length a) same far e u

    guard_same : guard m e ≡ guard a e
    guard_same = records.guard_same m a (length a) same far e u

    reset_same : reset m e ≡ reset a e
    reset_same = records.reset_same m a (length a) same far e u

    places_same : places_ok m e ≡ places_ok a e
    unfolding places_ok
    places_same =
        rw (n_same, L_same, switch_same e, first_same, at_same 1 (omega arith), at_same 2 (omega arith), at_same 3 (omega arith), at_same 4 (omega arith), at_same 5 (omega arith)) refl

    boxes_same : boxes_ok m e ≡ boxes_ok a e
    unfolding boxes_ok
    boxes_same = rw (n_same, guard_same, reset_same) refl

    one_same : (i : ℕ) → single_at m e i ≡ single_at a e i
    unfolding single_at
    one_same i = rw (mask_same, reset_same) refl

    single_same : single_ok m e ≡ single_ok a e
    unfolding single_ok
    single_same = rw (n_same, edition_same, variable_same) (by_test₂ ◌≡◌ (eq_z (edition a) (pos 2)) (λ _. one_same (wall_variable a e)) (λ _. all_ext (n# a) (single_at m e) (single_at a e) (λ i _. one_same i)))

    -- its walls are walls of locations that exist
    module _ (p : PlacesPassed a e) where
      source_wall_same : source_wall m e ≡ source_wall a e
      unfolding source_wall
      source_wall_same = rw (source_same, variable_same, records.source_side_same m a (length a) same far e u, invariant_same (source a e) p.source_is) refl

      target_wall_same : target_wall m e ≡ target_wall a e
      unfolding target_wall
      target_wall_same = rw (target_same, variable_same, records.target_side_same m a (length a) same far e u, invariant_same (target a e) p.target_is) refl

      guard_ok_same : guard_ok m e ≡ guard_ok a e
      unfolding guard_ok
      guard_ok_same = rw (guard_same, variable_same, source_wall_same) refl

      lands_same : lands_ok m e ≡ lands_ok a e
      unfolding lands_ok level_after
      lands_same = rw (target_wall_same, mask_same, variable_same, reset_same, source_wall_same) refl

      switch_questions_same : switch_questions m e ≡ switch_questions a e
      unfolding switch_questions
      switch_questions_same = rw (places_same, boxes_same, single_same, guard_ok_same, lands_same) refl

    -- where they don't exist, 14 is asked of the same words
    switch_all_same : switch_questions m e ≡ switch_questions a e
    unfolding switch_questions ◌then◌
    switch_all_same = by (places_ok a e) refl
      where
        by : (b : Bool) → places_ok a e ≡ b → switch_questions m e ≡ switch_questions a e
        by true t = switch_questions_same (places_passed a e w.head.n_positive w.head.L_positive (rw t tt))
        by false t = rw (places_same, t) refl

  -- ---- forbidden boxes

  pub forbidden_same : (b : ℕ) → forbidden_at m b ≡ forbidden_at a b
  forbidden_same = records.forbidden_same m a (length a) same far

  forbidden_question_same : (b : ℕ) → b < B# a → forbidden_question m b ≡ forbidden_question a b
  unfolding forbidden_question
  forbidden_question_same b u =
      rw (n_same, L_same, forbidden_same b, records.forbidden_word_same m a (length a) same far b u, records.forbidden_box_same m a (length a) same far b u) refl

  -- ---- cuts

  cut_same : (l : ℕ) → cut_at m l ≡ cut_at a l
  cut_same = records.cut_same m a (length a) same far

  module _ (l : ℕ) (u : l < L# a) where
    word_of_cut : word m (cut_at m l) ≡ word a (cut_at a l)
    word_of_cut = rw (cut_same l) (word_same (cut_at a l) (omega (arith, cut-within a w l u)))

    pub cut_variable_same : cut_variable m l ≡ cut_variable a l
    unfolding cut_variable
    cut_variable_same = word_of_cut

    pub cut_value_same : cut_value m l ≡ cut_value a l
    unfolding cut_value
    cut_value_same = rw (cut_same l) (word_same (cut_at a l + 1) (omega (arith, cut-within a w l u)))

    cut_question_same : cut_question m l ≡ cut_question a l
    unfolding cut_question cut_ok
    cut_question_same = rw (cut_variable_same, cut_value_same, word_of_cut, n_same, invariant_same l u) refl

  -- ---- all records, and all cuts

  records_same : records_questions m ≡ records_questions a
  unfolding records_questions
  records_same =
      rw (
        L_same,
        E_same,
        B_same,
        first_ext (L# a) (location_questions m) (location_questions a) location_questions_same,
        first_ext (E# a) (switch_questions m) (switch_questions a) switch_all_same,
        first_ext (B# a) (forbidden_question m) (forbidden_question a) forbidden_question_same,
        first_ext (L# a) (cut_question m) (cut_question a) cut_question_same,
      ) refl

-- ---- the words of a model alone, and with words that follow

module _ (m : List ℤ) where
  abbrev pub alone : List ℤ
  alone = take (model_size m) m

  pub same_alone : SameHead alone m
  same_alone j l = get_or-take (model_size m) m j (pos 0) (omega (arith, head_first m))

  pub length_alone : model_size m ≤ length m → length alone ≡ model_size m
  length_alone long = length-take-le (model_size m) m long

  module _ (w : Whole m) where
    pub alone_whole : Whole alone
    alone_whole = record {
      head = same_allowed alone m same_alone (omega (arith, length_alone w.long, head_first m)) w.head;
      long = omega (arith, length_alone w.long, same_size alone m same_alone);
    }

    pub records_alone : records_questions alone ≡ records_questions m
    records_alone = sym (records_same alone (drop (model_size m) m) alone_whole) ∙ ap records_questions (take-append-drop (model_size m) m)

  -- where there are some, the questions up to those of the records are of the same words, and 5 is yes of both
  asked_alone : model_size m ≤ length m → model_questions alone ≡ model_questions m
  unfolding model_questions ◌then◌
  asked_alone long =
      let k : length alone ≡ model_size m = length_alone long in
      let same : model_size alone ≡ model_size m = same_size alone m same_alone in
      rw (le-leb 5 (length alone) (omega (arith, k, head_first m)), le-leb 5 (length m) (omega (arith, head_first m)), same_ranges alone m same_alone, same_edition alone m same_alone, le-leb (model_size alone) (length alone) (omega (arith, k, same)), le-leb (model_size m) (length m) long)
      (by (ranges_questions m) refl)
    where
      by : (q : ℕ) → ranges_questions m ≡ q → (0 then (q then (edition_question m then (0 then records_questions alone)))) ≡ (0 then (q then (edition_question m then (0 then records_questions m))))
      by zero e = ap (λ (x : ℕ). edition_question m then x) (records_alone (record { head = head_passed m (omega (arith, head_first m)) e; long = long }))
      by (suc q) e = refl

  pub questions_alone : model_questions alone ≡ model_questions m
  questions_alone = by (dec_lt (length m) (model_size m))
    where
      by : Dec (length m < model_size m) → model_questions alone ≡ model_questions m
      by (yes h) = ap model_questions (take_all (model_size m) m (omega arith))
      by (no h) = asked_alone (omega arith)
