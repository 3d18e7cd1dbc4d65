-- Document 01, "Files": reading and writing a table file undo each other.
use Rattle.std.specs.Prelude.{◌≡◌, List, ℕ, suc, ◌≤◌, ◌<◌, T, ℤ, pos, length, take, replicate, Err, Ok}
use Rattle.integers.specs.Words.{AreBytes, onto}
use Rattle.plant.specs.Questions.{model_questions}
use Rattle.plant.specs.Tables.{table_size, longest_table_file, table_ok}
use Rattle.plant.specs.Calls.{read_reply, words_read, write_reply, bytes_written}
use Rattle.files.specs.TableFile.{table_file, table_file_questions, room_questions, read_table_call, write_questions, write_table_call}

pub record TableBack : Type 0 where
  -- a table that passes 20 and 32 is written, into any buffer that is long enough, as its file
  pub written : (m t : List ℤ) (bytes : List ℕ) → model_questions m ≡ 0 → table_size m ≤ length t → T (table_ok m t) → longest_table_file m ≤ length bytes
      → write_table_call m t bytes ≡ record { count = Ok (length (table_file m t)); file = onto (table_file m t) bytes }
  -- and into no shorter one: 39, asked after 32, and nothing is written
  pub too_short : (m t : List ℤ) (bytes : List ℕ) → model_questions m ≡ 0 → table_size m ≤ length t → T (table_ok m t) → length bytes < longest_table_file m
      → write_table_call m t bytes ≡ record { count = Err 39; file = bytes }
  -- every input that fails a question, the model's, 20, 32 or 39, gets the number of the first that it fails, and nothing is written
  pub refused_by : (m t : List ℤ) (bytes : List ℕ) (q : ℕ) → write_questions m t (length bytes) ≡ suc q → write_table_call m t bytes ≡ record { count = Err (suc q); file = bytes }
  -- a read that fails one of the model's questions or 20 gets its number and changes nothing; one that fails 35 to 38 or 32 gets its
  -- number, and the whole buffer is zero
  pub read_refused_by : (m : List ℤ) (s : List ℕ) (buffer : List ℤ) (q : ℕ) → room_questions m (length buffer) ≡ suc q
      → read_table_call m s buffer ≡ record { count = Err (suc q); words = buffer }
  pub read_zeroed_by : (m : List ℤ) (s : List ℕ) (buffer : List ℤ) (q : ℕ) → room_questions m (length buffer) ≡ 0 → table_file_questions m s ≡ suc q
      → read_table_call m s buffer ≡ record { count = Err (suc q); words = replicate (length buffer) (pos 0) }
  -- what is written is read, into any buffer that is long enough, as the same table
  pub written_read : (m t : List ℤ) (bytes : List ℕ) (buffer : List ℤ) → (write_reply (write_table_call m t bytes)).code ≡ 100 → table_size m ≤ length buffer
      → read_table_call m (bytes_written (write_table_call m t bytes)) buffer ≡ record { count = Ok (table_size m); words = onto (take (table_size m) t) buffer }
  -- what is read is written, into any buffer that is long enough, as the same bytes
  pub read_written : (m : List ℤ) (s : List ℕ) (buffer : List ℤ) (bytes : List ℕ) → AreBytes s → (read_reply (read_table_call m s buffer)).code ≡ 100 → longest_table_file m ≤ length bytes
      → write_table_call m (words_read (read_table_call m s buffer)) bytes ≡ record { count = Ok (length s); file = onto s bytes }
