-- Reading a model's file ends after questions 1 to 5, or with its records.
use mathlib.Core.Path.{◌≡◌, refl, sym, ap, ◌∙◌}
use mathlib.Core.Bool.{Bool}
use mathlib.Core.List.{List}
use Prim.Native.Nat.{ℕ}
use native.Mathlib.Omega.{arith}
use lib.IntN.{ℤ}
use lib.ListN.{length}
use Rattle.std.specs.Prelude.{Err}
use Rattle.files.specs.Fields.{field_at}
use Rattle.plant.specs.declared.Refusal.{Refusal}
use Rattle.plant.specs.Ask.{ask, ◌then◌}
use Rattle.plant.specs.Calls.{ReadOutcome}
use Rattle.plant.specs.Questions.{ranges_questions}
use Rattle.plant.specs.Refusals.{number}
use Rattle.plant.proofs.Asks.{ask_yes, then_both, then_intro}
use Rattle.plant.proofs.Passing.{head_passed}
use Rattle.plant.proofs.Reading.{refused_at, past}
use Rattle.plant.proofs.Refusing.{number_not_0, refused_first, passed_first}
use Rattle.files.specs.ModelFile.{head_words, is_head, head_questions, buffer_question, read_records, read_model_call}
use Rattle.files.proofs.FirstField.{length_head}
use Rattle.files.proofs.ModelReading.{then_assoc, buffer_room}
use Rattle.model_files.specs.Room.{HeadRead}

module _ (s : List ℕ) (words : List ℤ) where
  -- 2 to 5, of the words h
  abbrev pub sizes : List ℤ → ℕ
  sizes h = ranges_questions h then buffer_question h (length words)

  -- 1 to 5 as one chain
  chain : (head_questions s then buffer_question (head_words s) (length words)) ≡ (ask (is_head (field_at s 0)) 1 then sizes (head_words s))
  unfolding head_questions
  chain = then_assoc (ask (is_head (field_at s 0)) 1) (ranges_questions (head_words s)) (buffer_question (head_words s) (length words))

  module _ {t : Bool} (et : t ≡ is_head (field_at s 0)) where
    pub refused_by_1 : (r : Refusal) → number r ≡ ask t 1 → record { count = Err (number r); words = words } ≡ read_model_call s words
    unfolding read_model_call
    refused_by_1 r e = refused_at _ (refused_first r (sizes (head_words s)) (rw et at e) ∙ sym chain) (number_not_0 r) refl

    module _ {h : List ℤ} (yes : 0 ≡ ask t 1) (eh : h ≡ head_words s) where
      pub refused_by_sizes : (r : Refusal) → number r ≡ sizes h → record { count = Err (number r); words = words } ≡ read_model_call s words
      unfolding read_model_call
      refused_by_sizes r e = refused_at _ (passed_first (rw et at yes) (rw eh at e) ∙ sym chain) (number_not_0 r) refl

      module _ (sized : 0 ≡ sizes h) where
        pub head_there : HeadRead s h words
        head_there =
            let q : (ranges_questions h ≡ 0) × (buffer_question h (length words) ≡ 0) = then_both (ranges_questions h) (buffer_question h (length words)) (sym sized) in
            record {
              first_field = rw (← et) (ask_yes t 1 (omega arith) (sym yes));
              is_read = eh;
              head = head_passed h (omega (arith, ap length eh, length_head s)) q.0;
              room = buffer_room h (length words) q.1;
            }

        pub passed_on : {o : ReadOutcome} → o ≡ read_records s h words → o ≡ read_model_call s words
        unfolding read_model_call
        passed_on e = past words (chain ∙ then_intro (sym (rw et at yes)) (sym (rw eh at sized))) (rw eh at e)
