-- Decide's number and its byte buffer, from what the calls below it say.
use Rattle.std.specs.Prelude.{Ok}
use mathlib.Core.Path.{◌≡◌, refl, sym, ap, ◌∙◌}
use mathlib.Core.List.{List}
use Prim.Native.Nat.{ℕ, zero, suc, ◌≤◌}
use native.Mathlib.Omega.{arith}
use lib.Dec.{leb, leb→le}
use lib.IntN.{ℤ, pos}
use lib.ListN.{length, take, replicate, length-replicate}
use Rattle.integers.specs.Words.{onto}
use Rattle.plant.specs.declared.Answer.{Answer}
use Rattle.plant.specs.Ask.{◌then◌}
use Rattle.plant.specs.Questions.{model_questions}
use Rattle.plant.specs.Tables.{table_size, longest_table_file}
use Rattle.plant.specs.Calls.{refused, answer_reply, Analysed, reply_of, analysis, answer_table, answered, passes_of, bytes_question}
use Rattle.plant.proofs.Asks.{ask_yes}
use Rattle.plant.proofs.Keeps.{after_length}
use Rattle.plant.proofs.Passing.{head_ready}
use Rattle.plant.proofs.Tables.{table_most}
use Rattle.files.specs.TableFile.{table_file}
use Rattle.interface.specs.Hosts.{model_of, model_file_questions, packed, Decided, decided, decide_by, decide_call}
use Rattle.interface.proofs.Held.{Front, front}

-- ---- once all questions are yes

-- the words that a call holds for a table are enough for the largest
pub table_fits : (m : List ℤ) → model_questions m ≡ 0 → table_size m ≤ length (replicate 19968 (pos 0))
table_fits m asks = let h = head_ready m asks in omega (arith, table_most m h.n_small h.L_small, length-replicate 19968 (pos 0))

module _ (m : List ℤ) (limit : ℕ) where
  abbrev a : Answer
  a = analysis m limit

  pub length_answer : length (answer_table m a) ≡ table_size m
  unfolding answer_table
  length_answer = after_length m (passes_of a)

  -- with words lent for the table
  module _ (table work : List ℤ) (fits : table_size m ≤ length table) {q : Answer} {t w : List ℤ} (e : ◌≡◌ {A = Analysed} (record { answer = Ok q; table = t; work = w }) (answered m a table work)) where
    same_reply : packed (answer_reply q) ≡ packed (answer_reply a)
    same_reply = ap (λ (x : Analysed). packed (reply_of x)) e

    -- the words of the table are lent to the writer
    pub answer_front : {size : ℕ} → size ≡ table_size m → Front t size (answer_table m a)
    answer_front is_size = front table (ap (λ (x : Analysed). x.table) e) (length_answer ∙ sym is_size) (omega (arith, is_size, fits))

    pub is_decided : {size number : ℕ} (file : List ℕ) {after : List ℕ} → size ≡ table_size m → number ≡ packed (answer_reply q) → after ≡ onto (table_file m (take size t)) file
        → ◌≡◌ {A = Decided} (record { number = number; file = after }) (decided m a file)
    is_decided {size} {number} file {after} is_size n f = rw (n, f, same_reply, (answer_front is_size).are) refl

-- ---- 39

module _ (m : List ℤ) (file : List ℕ) (limit : ℕ) where
  refused_by : (k : ℕ) → (k ≡ 0 → ⊥) → ◌≡◌ {A = Decided} (record { number = packed (refused k); file = file }) (decide_by k m file limit)
  refused_by zero n = absurd (n refl)
  refused_by (suc k) n = refl

  pub no_room : {q number : ℕ} → number ≡ packed (refused q) → q ≡ bytes_question m (length file) → (q ≡ 0 → ⊥) → ◌≡◌ {A = Decided} (record { number = number; file = file }) (decide_by (bytes_question m (length file)) m file limit)
  no_room {q} p e n = ap (λ (k : ℕ). record { number = k; file = file }) p ∙ refused_by q n ∙ ap (λ (k : ℕ). decide_by k m file limit) e

  pub has_room : bytes_question m (length file) ≡ 0 → longest_table_file m ≤ length file
  has_room e = leb→le (longest_table_file m) (length file) (ask_yes (leb (longest_table_file m) (length file)) 39 (omega arith) e)

  pub room : {q : ℕ} {d : Decided} → q ≡ bytes_question m (length file) → q ≡ 0 → d ≡ decided m (analysis m limit) file → d ≡ decide_by (bytes_question m (length file)) m file limit
  room e z d = d ∙ ap (λ (k : ℕ). decide_by k m file limit) (sym z ∙ e)

-- ---- the whole call

module _ (s file : List ℕ) (limit : ℕ) where
  refuses : (k rest : ℕ) → (k ≡ 0 → ⊥) → ◌≡◌ {A = Decided} (record { number = packed (refused k); file = file }) (decide_by (k then rest) (model_of s) file limit)
  unfolding ◌then◌
  refuses zero rest n = absurd (n refl)
  refuses (suc k) rest n = refl

  -- a refused file changes nothing
  pub decide_refused : {q number : ℕ} → number ≡ packed (refused q) → q ≡ model_file_questions s → (model_file_questions s ≡ 0 → ⊥) → ◌≡◌ {A = Decided} (record { number = number; file = file }) (decide_call s file limit)
  unfolding decide_call
  decide_refused p e n = rw (p, e) (refuses (model_file_questions s) (bytes_question (model_of s) (length file)) n)

  pub decide_words : {d : Decided} {m : List ℤ} → model_file_questions s ≡ 0 → m ≡ model_of s → d ≡ decide_by (bytes_question m (length file)) m file limit → d ≡ decide_call s file limit
  unfolding decide_call ◌then◌
  decide_words {d} {m} z w e = rw z (rw w at e)
