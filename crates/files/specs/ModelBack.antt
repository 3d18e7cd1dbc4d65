-- Document 02, T-01: reading and writing a model file undo each other, and 40 asks for the file's own length.
use Rattle.std.specs.Prelude.{◌≡◌, cond, List, ℕ, suc, ◌+◌, ◌*◌, ◌≤◌, ◌<◌, ℤ, negsuc, length, take, Err, Ok}
use Rattle.integers.specs.Words.{eq_z, AreBytes, onto}
use Rattle.integers.specs.Counted.{sum_below}
use Rattle.plant.specs.Model.{n#, L#, E#, B#, cut_variable, model_size}
use Rattle.plant.specs.Questions.{model_questions}
use Rattle.plant.specs.Calls.{read_reply, words_read, write_reply, bytes_written}
use Rattle.files.specs.ModelFile.{model_file, read_model_call, write_model_call}

-- how many locations are cut
unfoldable pub cut_locations : List ℤ → ℕ
cut_locations m = sum_below (L# m) (λ l. cond (eq_z (cut_variable m l) (negsuc 0)) 0 1)

pub record ModelBack : Type 0 where
  -- words that pass the model's questions are written, into any buffer that is long enough for their file, as that file
  pub written : (m : List ℤ) (bytes : List ℕ) → model_questions m ≡ 0 → length (model_file m) ≤ length bytes
      → write_model_call m bytes ≡ record { count = Ok (length (model_file m)); file = onto (model_file m) bytes }
  -- and into no shorter one: 40, and nothing is written
  pub too_short : (m : List ℤ) (bytes : List ℕ) → model_questions m ≡ 0 → length bytes < length (model_file m)
      → write_model_call m bytes ≡ record { count = Err 40; file = bytes }
  -- every other list gets the number of the first question that it fails, whatever the buffer, and nothing is written
  pub refused_by : (m : List ℤ) (bytes : List ℕ) (q : ℕ) → model_questions m ≡ suc q → write_model_call m bytes ≡ record { count = Err (suc q); file = bytes }
  -- how long the file is, and that none is longer than 29,907 bytes
  pub length_of_file : (m : List ℤ) → model_questions m ≡ 0
      → length (model_file m) ≡ 19 + L# m * (24 * n# m + 7) + E# m * (16 * n# m + 27) + B# m * (8 * n# m + 7) + cut_locations m * 15
  pub longest : (m : List ℤ) → model_questions m ≡ 0 → length (model_file m) ≤ 29907
  -- what is written is read, into any buffer that is long enough, as the same words
  pub written_read : (m : List ℤ) (bytes : List ℕ) (words : List ℤ) → (write_reply (write_model_call m bytes)).code ≡ 100 → model_size m ≤ length words
      → read_model_call (bytes_written (write_model_call m bytes)) words ≡ record { count = Ok (model_size m); words = onto (take (model_size m) m) words }
  -- what is read is written, into any buffer that is long enough, as the same bytes
  pub read_written : (s : List ℕ) (words : List ℤ) (bytes : List ℕ) → AreBytes s → (read_reply (read_model_call s words)).code ≡ 100 → length s ≤ length bytes
      → write_model_call (words_read (read_model_call s words)) bytes ≡ record { count = Ok (length s); file = onto s bytes }
  -- words past the model's length are not part of it
  pub words_behind : (m : List ℤ) (bytes : List ℕ) → write_model_call (take (model_size m) m) bytes ≡ write_model_call m bytes
