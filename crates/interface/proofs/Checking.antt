-- The host check's number, from what the calls below it say.
use Rattle.std.specs.Prelude.{Err, Ok}
use mathlib.Core.Path.{◌≡◌, refl, sym, ap, ◌∙◌}
use mathlib.Core.Bool.{true}
use mathlib.Core.List.{List}
use Prim.Native.Nat.{ℕ, zero, suc, ◌≤◌}
use native.Mathlib.Omega.{arith}
use lib.IntN.{ℤ}
use lib.ListN.{length, take}
use Rattle.integers.specs.Words.{onto}
use Rattle.integers.proofs.Tests.{is_true}
use Rattle.plant.specs.Ask.{◌then◌}
use Rattle.plant.specs.Tables.{table_size, table_ok}
use Rattle.plant.specs.Calls.{certificate_questions, check_by, ReadOutcome, read_reply, zeroed}
use Rattle.plant.proofs.Asks.{ask_yes, then_both}
use Rattle.plant.proofs.Reading.{done}
use Rattle.plant.proofs.Tables.{table_length}
use Rattle.files.specs.TableFile.{count#, file_face, file_table, table_file_questions, read_faces}
use Rattle.files.proofs.TableBack.{table_le}
use Rattle.interface.specs.Hosts.{model_of, model_file_questions, certificate_file_questions, host_check_call}
use Rattle.interface.proofs.Held.{Front, front}
use Rattle.interface.proofs.Reading.{refused_number}

-- ---- reading the table file into words that are lent for it

module _ (m : List ℤ) (t : List ℕ) where
  pub length_table : length (file_table m t) ≡ table_size m
  unfolding file_table
  length_table = table_length m (file_face m t (count# t))

  module _ (held : List ℤ) (fits : table_size m ≤ length held) where
    abbrev all : ReadOutcome
    all = record { count = Ok (table_size m); words = onto (file_table m t) held }

    -- a refusal is the number of the file's questions
    pub table_refused : {q : ℕ} {x : List ℤ} → ◌≡◌ {A = ReadOutcome} (record { count = Err q; words = x }) (read_faces m t held) → (q ≡ table_file_questions m t) × (table_file_questions m t ≡ 0 → ⊥)
    table_refused {q} e = refused_number (table_file_questions m t) (zeroed held) all (table_size m) q refl (ap (λ (o : ReadOutcome). o.count) e)

    -- else all of them are yes, and the words are the file's table
    module _ {size : ℕ} {x : List ℤ} (e : ◌≡◌ {A = ReadOutcome} (record { count = Ok size; words = x }) (read_faces m t held)) where
      read_done : (table_file_questions m t ≡ 0) × (read_faces m t held ≡ all)
      read_done = done (table_file_questions m t) (zeroed held) all (omega (arith, table_le m t)) (sym (ap (λ (o : ReadOutcome). (read_reply o).code) e))

      pub table_yes : table_file_questions m t ≡ 0
      table_yes = read_done.0

      read_all : ◌≡◌ {A = ReadOutcome} (record { count = Ok size; words = x }) all
      read_all = e ∙ read_done.1

      pub table_front : Front x size (file_table m t)
      table_front =
          let is_size : size ≡ table_size m = ap (λ (o : ReadOutcome). (read_reply o).value) read_all in
          front held (ap (λ (o : ReadOutcome). o.words) read_all) (length_table ∙ sym is_size) (omega (arith, is_size, fits))

      pub table_sized : length (take size x) ≡ table_size m
      table_sized = ap length table_front.are ∙ length_table

      pub table_valid : table_ok m (take size x) ≡ true
      unfolding table_file_questions
      table_valid = ap (table_ok m) table_front.are ∙ is_true (ask_yes (table_ok m (file_table m t)) 32 (omega arith) (then_both _ _ table_yes).1)

-- ---- the numbers

refused-code : (k rest : ℕ) → (k ≡ 0 → ⊥) → k ≡ (check_by (k then rest)).code
unfolding ◌then◌
refused-code zero rest n = absurd (n refl)
refused-code (suc k) rest n = refl

past_yes : (k rest : ℕ) → k ≡ 0 → (k then rest) ≡ rest
unfolding ◌then◌
past_yes k rest z = rw z refl

module _ (m : List ℤ) (t : List ℕ) where
  pub file_refused : {q : ℕ} → q ≡ table_file_questions m t → (table_file_questions m t ≡ 0 → ⊥) → q ≡ (check_by (certificate_file_questions m t)).code
  unfolding certificate_file_questions
  file_refused e n = e ∙ refused-code (table_file_questions m t) _ n

  pub file_asked : {table : List ℤ} {q r : ℕ} → table_file_questions m t ≡ 0 → table ≡ file_table m t → q ≡ certificate_questions m table → r ≡ (check_by q).code → r ≡ (check_by (certificate_file_questions m t)).code
  unfolding certificate_file_questions
  file_asked {table} z w e c = c ∙ ap (λ (k : ℕ). (check_by k).code) (e ∙ ap (certificate_questions m) w ∙ sym (past_yes (table_file_questions m t) (certificate_questions m (file_table m t)) z))

module _ (s t : List ℕ) where
  pub check_refused : {q : ℕ} → q ≡ model_file_questions s → (model_file_questions s ≡ 0 → ⊥) → q ≡ host_check_call s t
  unfolding host_check_call
  check_refused e n = e ∙ refused-code (model_file_questions s) _ n

  pub check_words : {r : ℕ} {m : List ℤ} → model_file_questions s ≡ 0 → m ≡ model_of s → r ≡ (check_by (certificate_file_questions m t)).code → r ≡ host_check_call s t
  unfolding host_check_call
  check_words {r} {m} z w e = e ∙ ap (λ (k : ℕ). (check_by k).code) (ap (λ (x : List ℤ). certificate_file_questions x t) w ∙ sym (past_yes (model_file_questions s) (certificate_file_questions (model_of s) t) z))
