-- Document 02, T-07, "Quoting an order": what the call gives, from model words alone, and that no analysis by passes exceeds it.
use Rattle.std.specs.Prelude.{◌≡◌, ◌↔◌, List, ℕ, zero, suc, ◌+◌, ◌≤◌, ℤ, length, drop, Err, Ok, Result}
use Rattle.plant.specs.Questions.{model_questions}
use Rattle.plant.specs.Tables.{table_size, table_after, longest_table_file, ceiling_of, ceiling_by_pieces}
use Rattle.plant.specs.Calls.{reply_of, analyse_call, write_reply, bytes_question}
use Rattle.plant.specs.Demands.{ceiling, answers}
use Rattle.files.specs.TableFile.{table_file, write_table_call}
use Rattle.orders.specs.declared.Desk.{Desk}
use Rattle.orders.specs.declared.Figures.{Figures}
use Rattle.orders.specs.Desks.{desk_call}

-- ---- the call: the table's words (20, 21), the longest table file in bytes (39) and the ceiling; or the model's refusal

abbrev pub quote_by : List ℤ → ℕ → Result Figures ℕ
quote_by m zero = Ok (record { words = table_size m; bytes = longest_table_file m; ceiling = ceiling_of m })
quote_by m (suc k) = Err (suc k)

unfoldable pub quote_call : List ℤ → Result Figures ℕ
quote_call m = quote_by m (model_questions m)

-- its number, 100 or the refusal's own, and its three values, 0 on a refusal
pub record QuoteReply : Type 0 where
  pub code : ℕ
  pub words : ℕ
  pub bytes : ℕ
  pub ceiling : ℕ

abbrev pub quote_reply : Result Figures ℕ → QuoteReply
quote_reply (Ok f) = record { code = 100; words = f.words; bytes = f.bytes; ceiling = f.ceiling }
quote_reply (Err k) = record { code = k; words = 0; bytes = 0; ceiling = 0 }

abbrev pub quoted : List ℤ → QuoteReply
quoted m = quote_reply (quote_call m)

-- ---- no analysis by passes exceeds any of the three

-- under this limit, with these buffers
pub record NoneExceeds (m : List ℤ) (limit : ℕ) (table work : List ℤ) : Type 0 where
  -- the passes made are at most the ceiling, and so are those that a desk charges
  pub passes_within : (reply_of (analyse_call m limit table work)).value ≤ (quoted m).ceiling
  pub charge_within : (d : Desk) → (desk_call d m limit table work).desk.passes ≤ d.passes + (quoted m).ceiling
  -- the table's words are the words, and what stands behind them in the buffer is unchanged
  pub table_words : 100 ≤ answers m limit table work → length (table_after m (reply_of (analyse_call m limit table work)).value) ≡ (quoted m).words
  pub behind_words : drop (quoted m).words (analyse_call m limit table work).table ≡ drop (quoted m).words table
  -- the answer's file is no longer than the bytes, and a buffer of as many takes it
  pub file_within : 100 ≤ answers m limit table work → length (table_file m (analyse_call m limit table work).table) ≤ (quoted m).bytes
  pub file_taken :
      (file : List ℕ) → 100 ≤ answers m limit table work → (quoted m).bytes ≤ length file
      → let t = (analyse_call m limit table work).table in write_reply (write_table_call m t file) ≡ record { code = 100; value = length (table_file m t) }

-- ---- what the call promises, of every list of words

pub record QuoteDemand (m : List ℤ) : Type 0 where
  -- a model that passes its questions is quoted; everything else gets the number of the first question that it fails, and no values
  pub is_quoted : model_questions m ≡ 0 → (quoted m).code ≡ 100
  pub refused_by : (q : ℕ) → model_questions m ≡ suc q → quoted m ≡ record { code = suc q; words = 0; bytes = 0; ceiling = 0 }
  -- under every limit, with all buffers
  pub none_exceeds : (limit : ℕ) (table work : List ℤ) → NoneExceeds m limit table work
  -- no more is quoted than is asked for. The words are those of 20 and 21: an analysis is answered exactly if both buffers have as
  -- many
  pub exact_words :
      model_questions m ≡ 0 → (limit : ℕ) (table work : List ℤ)
      → (100 ≤ answers m limit table work) ↔ (((quoted m).words ≤ length table) × ((quoted m).words ≤ length work))
  -- the bytes are the number in 39, which no file of a table exceeds, whoever made the table
  pub exact_bytes : model_questions m ≡ 0 → (room : ℕ) → (bytes_question m room ≡ 0) ↔ ((quoted m).bytes ≤ room)
  pub every_file : model_questions m ≡ 0 → (t : List ℤ) → length (table_file m t) ≤ (quoted m).bytes
  -- the ceiling is what the ceiling's call gives, the sum over faces and pieces
  pub same_ceiling : (quoted m).ceiling ≡ ceiling m
  pub by_pieces : model_questions m ≡ 0 → (quoted m).ceiling ≡ ceiling_by_pieces m
  -- no model's are larger than these
  pub largest : ((quoted m).words ≤ 19968) × ((quoted m).bytes ≤ 96775) × ((quoted m).ceiling ≤ 12800001408)
