-- The demands for bytes, from those for words: check asks the checker's questions of the table that a file holds, and decide's
-- number is the analysis's answer, which the analysis also gives with its own table as both buffers.
use mathlib.Core.Path.{◌≡◌, refl, sym, ap, ap₂, ◌∙◌, subst}
use mathlib.Core.Logic.{◌⊎◌, inl, inr}
use mathlib.Core.List.{List}
use Prim.Native.Nat.{ℕ, zero, suc, ◌+◌, ◌*◌, ◌/◌, ◌%◌, ◌<◌, ◌≤◌}
use native.Mathlib.Nat.{mul-le-mul}
use native.Mathlib.Omega.{arith}
use lib.Dec.{T, leb, le→leb, leb→le}
use lib.IntN.{ℤ}
use lib.ListN.{length, take, drop}
use Rattle.integers.specs.Words.{AreBytes, onto}
use Rattle.integers.proofs.Tests.{by_test}
use Rattle.integers.proofs.Buffers.{onto_all, take-onto}
use Rattle.plant.specs.declared.Answer.{Answer}
use Rattle.plant.specs.Ask.{◌then◌}
use Rattle.plant.specs.Questions.{model_questions}
use Rattle.plant.specs.Pieces.{any_cut}
use Rattle.plant.specs.Tables.{piece_count, table_size, piece_field_length, longest_table_file, table_ok, table_after}
use Rattle.plant.specs.Calls.{answer_reply, certificate_questions, table_questions, checker_questions, check_by, check_call, analysis, answer_table, passes_of, Analysed, reply_of, answered, analyse_call, bytes_question}
use Rattle.plant.specs.Demands.{Accepts, ceiling, answers, NoRunMeets, ThirdDemand}
use Rattle.plant.proofs.Asks.{ask_intro, ask_le, ask_yes, asked, then_both, then_intro, then_le}
use Rattle.plant.proofs.Passed.{passed}
use Rattle.plant.proofs.Tables.{count_most}
use Rattle.plant.proofs.Keeps.{after_length, after_ok}
use Rattle.plant.proofs.Search.{within_limit, answer_code}
use Rattle.plant.proofs.Accepted.{certificate_le, accepted_code, accepts_yes}
use Rattle.plant.proofs.Demands.{first_demand, third_demand, passes_within}
use Rattle.plant.proofs.Passing.{head_ready}
use Rattle.plant.proofs.Front.{front, questions_front}
use Rattle.plant.proofs.AnalysisAsked.{all_yes, analyse_answered}
use Rattle.files.specs.TableFile.{table_file, file_length, file_table, table_file_questions}
use Rattle.files.proofs.TableSizes.{file_most}
use Rattle.files.proofs.TableBack.{table_le, file_asked, file_table_lem, file_told, file_bytes}
use Rattle.orders.specs.Quotes.{quoted}
use Rattle.orders.proofs.Quoted.{words_are, bytes_are, ceiling_is}
use Rattle.interface.specs.Hosts.{model_of, model_file_questions, Decided, decided, decide_by, decide_call, certificate_file_questions, host_check_call}
use Rattle.interface.specs.HostDemand.{AcceptableFile, code, passes, answer_file, Decides, HostDemand}
use Rattle.interface.proofs.Reading.{questions_le, longest_model, model_asked, is_model, file_passes}
use Rattle.interface.proofs.Deciding.{length_answer}
use Rattle.interface.proofs.Checking.{length_table}

module _ (s : List ℕ) where
  abbrev m : List ℤ
  m = model_of s

  -- at most 1,536 pieces, with 63 bytes each
  longest_table : model_file_questions s ≡ 0 → longest_table_file m ≤ 96775
  unfolding longest_table_file
  longest_table passes =
      let h = head_ready m (model_asked s passes) in
      let few : piece_count m ≤ 1536 = count_most m h.n_small h.L_small in
      let short : piece_field_length m ≤ 63 = by_test (λ (k : ℕ). k ≤ 63) (any_cut m) (λ _. omega (arith, h.n_small)) (λ _. omega (arith, h.n_small)) in
      omega (arith, mul-le-mul few short)

  -- ---- check

  pub check_yes : (t : List ℕ) → host_check_call s t ≡ 100 → (model_file_questions s ≡ 0) × (table_file_questions m t ≡ 0) × (certificate_questions m (file_table m t) ≡ 0)
  unfolding host_check_call certificate_file_questions
  check_yes t h =
      let few : (model_file_questions s then certificate_file_questions m t) ≤ 46 =
      then_le (model_file_questions s) _ 46 (questions_le s) (then_le (table_file_questions m t) _ 46 (omega (arith, table_le m t)) (omega (arith, certificate_le m (file_table m t)))) in
      let a : (model_file_questions s ≡ 0) × _ = then_both (model_file_questions s) _ (accepted_code _ (omega arith) h) in
      let b : (table_file_questions m t ≡ 0) × (certificate_questions m (file_table m t) ≡ 0) = then_both (table_file_questions m t) (certificate_questions m (file_table m t)) a.1 in
      (a.0, b.0, b.1)

  -- the checker accepts the table that an accepted file holds
  pub file_accepts : (t : List ℕ) → host_check_call s t ≡ 100 → Accepts m (file_table m t)
  unfolding check_call checker_questions table_questions table_file_questions
  file_accepts t h =
      let y = check_yes t h in
      let asks : model_questions m ≡ 0 = model_asked s y.0 in
      ap (λ (q : ℕ). (check_by q).code)
      (then_intro asks
      (then_intro (ask_intro (leb (table_size m) (length (file_table m t))) 20 (le→leb (table_size m) (length (file_table m t)) (omega (arith, length_table m t))))
      (then_intro (then_both _ _ y.1).1 y.2)))

  no_run_meets : (t : List ℕ) → host_check_call s t ≡ 100 → NoRunMeets m
  no_run_meets t h = (third_demand m).no_run_meets (file_table m t) (file_accepts t h)

  -- and check accepts the file of every table that the checker accepts
  table_accepted : (t : List ℤ) → model_file_questions s ≡ 0 → Accepts m t → host_check_call s (table_file m t) ≡ 100
  unfolding host_check_call certificate_file_questions checker_questions table_questions
  table_accepted t file-yes h =
      let asks : model_questions m ≡ 0 = model_asked s file-yes in
      let r : T (leb (table_size m) (length t)) × (table_questions m t ≡ 0) = asked (leb (table_size m) (length t)) 20 (table_questions m t) (omega arith) (then_both _ _ (accepts_yes m t h)).1 in
      let long : table_size m ≤ length t = leb→le (table_size m) (length t) r.0 in
      let good : T (table_ok m t) = (asked (table_ok m t) 32 (certificate_questions m t) (omega arith) r.1).0 in
      let closed : certificate_questions m (front m t) ≡ 0 = (asked (table_ok m (front m t)) 32 (certificate_questions m (front m t)) (omega arith) (questions_front m (passed m asks) t ∙ r.1)).1 in
      ap (λ (q : ℕ). (check_by q).code) (then_intro file-yes (then_intro (file_asked m t asks long good) (ap (certificate_questions m) (file_table_lem m t asks long good) ∙ closed)))

  check_refused_by : (t : List ℕ) (q : ℕ) → (model_file_questions s then certificate_file_questions m t) ≡ suc q → host_check_call s t ≡ suc q
  unfolding host_check_call
  check_refused_by t q e = ap (λ (x : ℕ). (check_by x).code) e

  -- ---- decide

  -- a number in its two parts
  parts : (c k : ℕ) → k < 4294967296 → ((c * 4294967296 + k) / 4294967296 ≡ c) × ((c * 4294967296 + k) % 4294967296 ≡ k)
  parts c k h = (omega arith, omega arith)

  module _ (file : List ℕ) (limit : ℕ) (small : limit < 4294967296) where
    abbrev a : Answer
    a = analysis m limit

    questions : ℕ
    questions = model_file_questions s then bytes_question m (length file)

    few : questions ≤ 46
    unfolding questions
    few = then_le (model_file_questions s) _ 46 (questions_le s) (omega (arith, ask_le (leb (longest_table_file m) (length file)) 39))

    -- by the questions' number
    answer_parts : ((decided m a file).number / 4294967296 ≡ (answer_reply a).code) × ((decided m a file).number % 4294967296 ≡ (answer_reply a).value)
    answer_parts = parts (answer_reply a).code (answer_reply a).value (omega (arith, within_limit m limit))

    refusal_by : (q : ℕ) → (decide_by q m file limit).number / 4294967296 < 100 → ((decide_by q m file limit).number % 4294967296 ≡ 0) × ((decide_by q m file limit).file ≡ file)
    refusal_by zero h = absurd (omega (arith, answer_parts.0, answer_code m limit))
    refusal_by (suc q) h = ((parts (suc q) 0 (omega arith)).1, refl)

    within_by : (q : ℕ) → (decide_by q m file limit).number % 4294967296 ≤ limit
    within_by zero = omega (arith, answer_parts.1, within_limit m limit)
    within_by (suc q) = omega (arith, (parts (suc q) 0 (omega arith)).1)

    yes_by : (q : ℕ) → q ≤ 46 → 100 ≤ (decide_by q m file limit).number / 4294967296 → q ≡ 0
    yes_by zero l h = refl
    yes_by (suc q) l h = absurd (omega (arith, (parts (suc q) 0 (omega arith)).0))

    -- an answer: its questions are all yes
    answer_yes : 100 ≤ code s file limit → questions ≡ 0
    unfolding decide_call questions
    answer_yes h = yes_by questions few h

    only_passing : 100 ≤ code s file limit → (model_file_questions s ≡ 0) × (longest_table_file m ≤ length file)
    unfolding questions
    only_passing h =
        let y : (model_file_questions s ≡ 0) × _ = then_both (model_file_questions s) _ (answer_yes h) in
        (y.0, leb→le (longest_table_file m) (length file) (ask_yes (leb (longest_table_file m) (length file)) 39 (omega arith) y.1))

    refused_by : (q : ℕ) → questions ≡ suc q → code s file limit ≡ suc q
    unfolding decide_call questions
    refused_by q e = ap (λ (x : ℕ). (decide_by x m file limit).number / 4294967296) e ∙ (parts (suc q) 0 (omega arith)).0

    module _ (yes : questions ≡ 0) where
      is_model_file : model_file_questions s ≡ 0
      unfolding questions
      is_model_file = (then_both (model_file_questions s) _ yes).0

      asks : model_questions m ≡ 0
      asks = model_asked s is_model_file

      is_decided : decide_call s file limit ≡ decided m a file
      unfolding decide_call questions
      is_decided = ap (λ (q : ℕ). decide_by q m file limit) yes

      code_is : code s file limit ≡ (answer_reply a).code
      code_is = ap (λ (d : Decided). d.number / 4294967296) is_decided ∙ answer_parts.0

      passes_is : passes s file limit ≡ passes_of a
      passes_is = ap (λ (d : Decided). d.number % 4294967296) is_decided ∙ answer_parts.1

      -- the answer's table, and its file in the buffer
      abbrev t : List ℤ
      t = answer_table m a

      long : table_size m ≤ length t
      long = omega (arith, length_answer m limit)

      written : (decide_call s file limit).file ≡ onto (table_file m t) file
      written = ap (λ (d : Decided). d.file) is_decided

      good : T (table_ok m t)
      unfolding answer_table
      good = subst T (sym (after_ok m (passed m asks) (passes_of a))) tt

      told : file_length (onto (table_file m t) file) ≡ length (table_file m t)
      unfolding onto
      told = file_told m t asks long good (drop (length (table_file m t)) file)

      file_is : answer_file s file limit ≡ table_file m t
      file_is = ap (λ (b : List ℕ). take (file_length b) b) written ∙ take-onto (table_file m t) file (file_length (onto (table_file m t) file)) (sym told)

      -- the analysis with that table as both buffers
      analysed : analyse_call m limit t t ≡ answered m a t t
      analysed = sym (analyse_answered m limit t t 0 (all_yes m t t asks long long) (answered m a t t) refl refl)

      answers_are : answers m limit t t ≡ code s file limit
      answers_are = ap (λ (x : Analysed). (reply_of x).code) analysed ∙ sym code_is

      table_is : (analyse_call m limit t t).table ≡ t
      table_is = ap (λ (x : Analysed). x.table) analysed ∙ onto_all t t refl

      demand : ThirdDemand m
      demand = third_demand m

      three : (code s file limit ≡ 100) ⊎ ((code s file limit ≡ 101) ⊎ (code s file limit ≡ 102))
      three = subst (λ (c : ℕ). (c ≡ 100) ⊎ ((c ≡ 101) ⊎ (c ≡ 102))) answers_are ((first_demand m).is_answered asks limit t t (record { table_room = long; work_room = long }))

      safe_accepts : code s file limit ≡ 100 → Accepts m t
      safe_accepts h = subst (Accepts m) table_is (demand.safe_accepted limit t t (answers_are ∙ h))

      safe_accepted : code s file limit ≡ 100 → host_check_call s (answer_file s file limit) ≡ 100
      safe_accepted h = subst (λ (x : List ℕ). host_check_call s x ≡ 100) (sym file_is) (table_accepted t is_model_file (safe_accepts h))

      unknown_refused : code s file limit ≡ 101 → (x : List ℕ) → host_check_call s x ≡ 100 → ⊥
      unknown_refused h x y = demand.unknown_refused limit t t (answers_are ∙ h) (file_table m x) (file_accepts x y)

      never_unfinished : ceiling m ≤ limit → code s file limit ≡ 102 → ⊥
      never_unfinished u h = demand.never_unfinished limit t t u (answers_are ∙ h)

      accepted_safe : ceiling m ≤ limit → (x : List ℕ) → host_check_call s x ≡ 100 → code s file limit ≡ 100
      accepted_safe u x accepts = by three
        where
          by : (code s file limit ≡ 100) ⊎ ((code s file limit ≡ 101) ⊎ (code s file limit ≡ 102)) → code s file limit ≡ 100
          by (inl h) = h
          by (inr (inl h)) = absurd (unknown_refused h x accepts)
          by (inr (inr h)) = absurd (never_unfinished u h)

      safe_acceptable : code s file limit ≡ 100 → AcceptableFile s
      safe_acceptable h = record { table = answer_file s file limit; are_bytes = subst AreBytes (sym file_is) (file_bytes m t asks long good); accepts = safe_accepted h }

      none_unknown : ceiling m ≤ limit → (AcceptableFile s → ⊥) → code s file limit ≡ 101
      none_unknown u none = by three
        where
          by : (code s file limit ≡ 100) ⊎ ((code s file limit ≡ 101) ⊎ (code s file limit ≡ 102)) → code s file limit ≡ 101
          by (inl h) = absurd (none (safe_acceptable h))
          by (inr (inl h)) = h
          by (inr (inr h)) = absurd (never_unfinished u h)

      -- ---- the quote

      few_passes : (decided m a file).number % 4294967296 ≤ (quoted m).ceiling
      few_passes = omega (arith, answer_parts.1, passes_within m asks limit, ceiling_is m asks)

      few_bytes : length (answer_file s file limit) ≤ (quoted m).bytes
      few_bytes = omega (arith, ap length file_is, file_most m t, bytes_are m asks)

    ceiling_by_lem : (q : ℕ) → questions ≡ q → (decide_by q m file limit).number % 4294967296 ≤ (quoted m).ceiling
    ceiling_by_lem zero e = few_passes e
    ceiling_by_lem (suc q) e = omega (arith, (parts (suc q) 0 (omega arith)).1)

    -- a model file that passes, with room for its longest table file
    with_room : model_file_questions s ≡ 0 → longest_table_file m ≤ length file → questions ≡ 0
    unfolding questions
    with_room file-yes room = then_intro file-yes (ask_intro (leb (longest_table_file m) (length file)) 39 (le→leb (longest_table_file m) (length file) room))

    -- what check accepts makes the answer safe
    pub file_accepted_safe : model_file_questions s ≡ 0 → longest_table_file m ≤ length file → ceiling m ≤ limit → (x : List ℕ) → host_check_call s x ≡ 100 → code s file limit ≡ 100
    file_accepted_safe file-yes room = accepted_safe (with_room file-yes room)

    -- ---- the call

    decides : Decides s file limit
    unfolding decide_call questions answer_table
    decides = record {
      answered = λ yes room. three (with_room yes room);
      only_passing = only_passing;
      refused_by = refused_by;
      refused = refusal_by questions;
      is_analysis = λ h. ap₂ (λ (c k : ℕ). record { code = c; value = k }) (code_is (answer_yes h)) (passes_is (answer_yes h));
      within_limit = within_by questions;
      is_file = λ h. file_is (answer_yes h) ∙ ap (λ (k : ℕ). table_file m (table_after m k)) (sym (passes_is (answer_yes h)));
      written = λ h. written (answer_yes h) ∙ ap (λ (x : List ℕ). onto x file) (sym (file_is (answer_yes h)));
      safe_no_run_meets = λ h. let yes : questions ≡ 0 = answer_yes (omega arith) in (demand yes).no_run_meets (t yes) (safe_accepts yes h);
      safe_accepted = λ h. safe_accepted (answer_yes (omega arith)) h;
      unknown_refused = λ h. unknown_refused (answer_yes (omega arith)) h;
      never_unfinished = λ u h. never_unfinished (answer_yes (omega arith)) u h;
      safe_exactly = λ u yes room. (safe_acceptable (with_room yes room), λ x. accepted_safe (with_room yes room) u x.table x.accepts);
      otherwise_unknown = λ u yes room. (
        λ h x. unknown_refused (with_room yes room) h x.table x.accepts,
        none_unknown (with_room yes room) u,
      );
      within_ceiling = ceiling_by_lem questions refl;
      table_words = λ h. let yes : questions ≡ 0 = answer_yes h in after_length m (passes s file limit) ∙ sym (words_are m (asks yes));
      within_bytes = λ h. few_bytes (answer_yes h);
      enough_bytes = λ yes room. let all_yes : questions ≡ 0 = with_room yes (omega (arith, bytes_are m (model_asked s yes))) in omega (arith, code_is all_yes, answer_code m limit);
    }

pub host_demand : HostDemand
host_demand = record {
  model_passes = file_passes;
  is_model = λ s bytes passed. is_model s passed bytes;
  longest_model = longest_model;
  longest_table = longest_table;
  no_run_meets = no_run_meets;
  accepted_table = λ s t h. ((check_yes s t h).0, file_accepts s t h);
  table_accepted = table_accepted;
  check_refused_by = check_refused_by;
  decides = decides;
}
