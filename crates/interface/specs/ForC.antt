-- What include/qiifaduleh.h says of the calls on words and on files: the number, the values and every lent word or byte, for every
-- input. Each is the call's own definition with the reply in place of what it gives: done, safe and accepted 100, unknown 101,
-- unfinished 102, else the refusal's own number with the value 0. (The ceiling, the quote and the checker are lent nothing to
-- change: their replies say all.)
use Rattle.std.specs.Prelude.{◌≡◌, List, [], ◌∷◌, ℕ, ℤ}
use Rattle.plant.specs.Calls.{Reply, Analysed, reply_of, ReadOutcome, read_reply, WriteOutcome, write_reply}
use Rattle.orders.specs.declared.Desk.{Desk}
use Rattle.orders.specs.Desks.{fresh_desk, Holds, Served, Call, serve, answers_of, passes_of}

-- ---- reading a model file, reading a table file

-- the reply, and the lent word buffer
pub record ReadForC : Type 0 where
  pub reply : Reply
  pub words : List ℤ

abbrev pub read_for_c : ReadOutcome → ReadForC
read_for_c o = record { reply = read_reply o; words = o.words }

-- ---- the analysis

-- the reply, and the lent table and work buffers
pub record AnalysedForC : Type 0 where
  pub reply : Reply
  pub table : List ℤ
  pub work : List ℤ

abbrev pub analysed_for_c : Analysed → AnalysedForC
analysed_for_c a = record { reply = reply_of a; table = a.table; work = a.work }

-- ---- writing a model file, writing a table file

-- the reply, and the lent byte buffer
pub record WrittenForC : Type 0 where
  pub reply : Reply
  pub file : List ℕ

abbrev pub written_for_c : WriteOutcome → WrittenForC
written_for_c o = record { reply = write_reply o; file = o.file }

-- ---- the desk

-- both counters, and the reply with the lent buffers
pub record ServedForC : Type 0 where
  pub desk : Desk
  pub analysed : AnalysedForC

abbrev pub served_for_c : Served → ServedForC
served_for_c s = record { desk = s.desk; analysed = analysed_for_c s.analysed }

-- ---- a list of qii_desk calls, with any models, limits and buffers

abbrev pub desk_for_c : Desk → Call → ServedForC
desk_for_c d c = served_for_c (serve d c)

-- both counters after all of them
unfoldable pub counters_after : Desk → List Call → Desk
counters_after d [] = d
counters_after d (c ∷ cs) = counters_after (desk_for_c d c).desk cs

-- the number and the value of each, in order
unfoldable pub replies_for_c : Desk → List Call → List Reply
replies_for_c d [] = []
replies_for_c d (c ∷ cs) = (desk_for_c d c).analysed.reply ∷ replies_for_c (desk_for_c d c).desk cs

-- for every list of calls from counters 0: passes is the sum of the values of the calls whose number is 100 or more, jobs is how
-- many these are, and no counter has run over
pub record DeskCountsForC (cs : List Call) : Type 0 where
  pub passes_sum : (counters_after fresh_desk cs).passes ≡ passes_of (replies_for_c fresh_desk cs)
  pub jobs_number : (counters_after fresh_desk cs).jobs ≡ answers_of (replies_for_c fresh_desk cs)
  pub holds : Holds (counters_after fresh_desk cs)
