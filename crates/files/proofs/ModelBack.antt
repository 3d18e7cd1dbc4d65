-- Reading and writing a model file undo each other: both are about the file of the words, and reading is exact.
use Rattle.std.specs.Prelude.{Err, Ok}
use mathlib.Core.Path.{◌≡◌, refl, sym, ap, ap₂, ◌∙◌}
use mathlib.Core.Bool.{Bool, true, false, cond}
use mathlib.Core.List.{List}
use Prim.Native.Nat.{ℕ, zero, suc, ◌+◌, ◌*◌, ◌≤◌, ◌<◌}
use native.Mathlib.Omega.{arith}
use borrow.Author.Tests.{lt-leb}
use lib.Dec.{leb, le→leb, leb→le}
use lib.IntN.{ℤ, negsuc}
use lib.ListN.{length, take}
use Rattle.integers.specs.Words.{eq_z, AreBytes, onto}
use Rattle.integers.specs.Counted.{sum_below}
use Rattle.integers.proofs.Buffers.{take-onto, length_cat_sum}
use Rattle.files.specs.Fields.{field_length}
use Rattle.plant.specs.Ask.{ask, ◌then◌}
use Rattle.plant.specs.Model.{n#, L#, E#, B#, cut_variable, model_size}
use Rattle.plant.specs.Questions.{model_questions}
use Rattle.plant.specs.Calls.{read_reply, words_read, write_reply, bytes_written, write_by}
use Rattle.plant.proofs.Asks.{ask_intro, ask_yes, ask_le, then_both, then_intro, then_le}
use Rattle.plant.proofs.Numbers.{model_le}
use Rattle.plant.proofs.Passed.{passed}
use Rattle.plant.proofs.Writing.{not_refused}
use Rattle.plant.proofs.Whole.{Whole}
use Rattle.plant.proofs.Passing.{whole_passed}
use Rattle.files.specs.ModelFile.{cut_field_size, model_file, read_model_call, write_model_questions, write_model_call}
use Rattle.files.specs.ModelFilesExact.{IsModelFile}
use Rattle.files.proofs.ModelLength.{cut_field_of, cut_fields, length-cut-field, cuts_most}
use Rattle.files.specs.ModelBack.{cut_locations, ModelBack}
use Rattle.files.proofs.ModelReading.{cuts_small}
use Rattle.plant.proofs.Beginning.{alone, questions_alone}
use Rattle.files.proofs.FileAlone.{file_alone}
use Rattle.files.proofs.ModelRoundTrip.{model_files_exact}
use Rattle.files.proofs.ModelLength as lengths

-- ---- how the call ends

module _ (m : List ℤ) (bytes : List ℕ) (asks : model_questions m ≡ 0) where
  written : length (model_file m) ≤ length bytes → write_model_call m bytes ≡ record { count = Ok (length (model_file m)); file = onto (model_file m) bytes }
  unfolding write_model_call write_model_questions
  written h = ap (λ (q : ℕ). write_by q (model_file m) bytes) (then_intro asks (ask_intro (leb (length (model_file m)) (length bytes)) 40 (le→leb (length (model_file m)) (length bytes) h)))

  too_short : length bytes < length (model_file m) → write_model_call m bytes ≡ record { count = Err 40; file = bytes }
  unfolding write_model_call write_model_questions ◌then◌
  too_short h = rw (asks, lt-leb (length (model_file m)) (length bytes) h) refl

refused_by : (m : List ℤ) (bytes : List ℕ) (q : ℕ) → model_questions m ≡ suc q → write_model_call m bytes ≡ record { count = Err (suc q); file = bytes }
unfolding write_model_call write_model_questions ◌then◌
refused_by m bytes q e = rw e refl

-- a call that is done had its questions answered yes
write_asked : (m : List ℤ) (bytes : List ℕ) → (write_reply (write_model_call m bytes)).code ≡ 100 → (model_questions m ≡ 0) × (length (model_file m) ≤ length bytes)
unfolding write_model_call write_model_questions
write_asked m bytes code =
    let few : write_model_questions m (length bytes) ≤ 46 = then_le (model_questions m) _ 46 (model_le m) (omega (arith, ask_le (leb (length (model_file m)) (length bytes)) 40)) in
    let q : write_model_questions m (length bytes) ≡ 0 = not_refused (model_file m) bytes (write_model_questions m (length bytes)) (omega (arith, few)) code in
    ((then_both (model_questions m) _ q).0, leb→le (length (model_file m)) (length bytes) (ask_yes (leb (length (model_file m)) (length bytes)) 40 (omega arith) (then_both (model_questions m) _ q).1))

-- ---- how long the file is

module _ (m : List ℤ) where
  cut_bytes : (cut : Bool) → cond cut 0 (field_length cut_field_size) ≡ cond cut 0 1 * 15
  cut_bytes true = refl
  cut_bytes false = refl

  some_cuts : (l : ℕ) → sum_below l (λ i. length (cut_field_of m i)) ≡ sum_below l (λ i. cond (eq_z (cut_variable m i) (negsuc 0)) 0 1) * 15
  unfolding sum_below
  some_cuts zero = refl
  some_cuts (suc l) = omega (arith, some_cuts l, length-cut-field m l, cut_bytes (eq_z (cut_variable m l) (negsuc 0)))

  cuts_length : length (cut_fields m) ≡ cut_locations m * 15
  unfolding cut_fields cut_locations
  cuts_length = length_cat_sum (L# m) (λ l. length (cut_field_of m l)) (cut_field_of m) (λ l _. refl) ∙ some_cuts (L# m)

  length_of_file : model_questions m ≡ 0 → length (model_file m) ≡ 19 + L# m * (24 * n# m + 7) + E# m * (16 * n# m + 27) + B# m * (8 * n# m + 7) + cut_locations m * 15
  length_of_file asks = lengths.length_of_file m (whole_passed m (passed m asks)) ∙ omega (arith, cuts_length)

  longest : model_questions m ≡ 0 → length (model_file m) ≤ 29907
  longest asks = let w : Whole m = whole_passed m (passed m asks) in omega (arith, lengths.length_of_file m w, cuts_small m w.head, cuts_most m w)

-- ---- both ways

written_read : (m : List ℤ) (bytes : List ℕ) (words : List ℤ) → (write_reply (write_model_call m bytes)).code ≡ 100 → model_size m ≤ length words
    → read_model_call (bytes_written (write_model_call m bytes)) words ≡ record { count = Ok (model_size m); words = onto (take (model_size m) m) words }
written_read m bytes words code room =
    let y : (model_questions m ≡ 0) × (length (model_file m) ≤ length bytes) = write_asked m bytes code in
    let s : bytes_written (write_model_call m bytes) ≡ model_file m = ap bytes_written (written m bytes y.0 y.1) ∙ take-onto (model_file m) bytes (length (model_file m)) refl in
    ap (λ (s : List ℕ). read_model_call s words) s ∙ model_files_exact.file_reads m words y.0 room

-- what is written of words whose file is s
writes : (s : List ℕ) (m : List ℤ) (bytes : List ℕ) → IsModelFile s m → length s ≤ length bytes → write_model_call m bytes ≡ record { count = Ok (length s); file = onto s bytes }
writes s m bytes i room =
    let e : model_file m ≡ s = sym i.is_file in
    written m bytes i.passes (omega (arith, ap length e)) ∙ ap (λ (x : List ℕ). record { count = Ok (length x); file = onto x bytes }) e

read_written : (s : List ℕ) (words : List ℤ) (bytes : List ℕ) → AreBytes s → (read_reply (read_model_call s words)).code ≡ 100 → length s ≤ length bytes
    → write_model_call (words_read (read_model_call s words)) bytes ≡ record { count = Ok (length s); file = onto s bytes }
read_written s words bytes b code = writes s (words_read (read_model_call s words)) bytes (model_files_exact.read_is_file s words b code)

-- ---- words past the model's length

module _ (m : List ℤ) where
  words_behind : (bytes : List ℕ) → write_model_call (alone m) bytes ≡ write_model_call m bytes
  unfolding write_model_call write_model_questions
  words_behind bytes = by (model_questions m) refl
    where
      by : (q : ℕ) → model_questions m ≡ q → write_model_call (alone m) bytes ≡ write_model_call m bytes
      by zero e = ap₂ (λ (q : ℕ) (s : List ℕ). write_by (q then ask (leb (length s) (length bytes)) 40) s bytes) (questions_alone m) (file_alone m (whole_passed m (passed m e)))
      by (suc q) e = refused_by (alone m) bytes q (questions_alone m ∙ e) ∙ sym (refused_by m bytes q e)

pub model_back : ModelBack
model_back = record {
  written = written;
  too_short = too_short;
  refused_by = refused_by;
  length_of_file = length_of_file;
  longest = longest;
  written_read = written_read;
  read_written = read_written;
  words_behind = words_behind;
}
