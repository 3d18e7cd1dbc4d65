-- Each call for C gives what its call gives, with the reply in place of the enum; and the desk's counters are sums.
use Rattle.std.specs.Prelude.{Result}
use mathlib.Core.Path.{◌≡◌, refl, sym, ap, subst, ◌∙◌}
use mathlib.Core.List.{List, [], ◌∷◌}
use Prim.Native.Nat.{ℕ}
use lib.IntN.{ℤ}
use Rattle.plant.specs.declared.Answer.{Answer}
use Rattle.plant.specs.Calls.{Reply, analysis_reply, Analysed, count_reply, ReadOutcome, WriteOutcome}
use Rattle.orders.specs.declared.Desk.{Desk}
use Rattle.orders.specs.Desks.{fresh_desk, Holds, Served, Call, desk_after, replies, answers_of, passes_of, DeskCounts}
use Rattle.orders.proofs.Counts.{desk_counts}
use Rattle.orders.specs.Quotes.{QuoteReply}
use Rattle.interface.specs.ForC.{ReadForC, read_for_c, AnalysedForC, analysed_for_c, WrittenForC, written_for_c, ServedForC, served_for_c, desk_for_c, counters_after, replies_for_c, DeskCountsForC}

-- ---- the calls

-- the number given and the value stored are a reply
pub is_reply : {q v code value : ℕ} {r : Reply} → q ≡ code → v ≡ value → ◌≡◌ {A = Reply} (record { code = code; value = value }) r → ◌≡◌ {A = Reply} (record { code = q; value = v }) r
is_reply e f h = cc

pub is_quote : {q w b k code words bytes ceiling : ℕ} {r : QuoteReply} → q ≡ code → w ≡ words → b ≡ bytes → k ≡ ceiling
    → ◌≡◌ {A = QuoteReply} (record { code = code; words = words; bytes = bytes; ceiling = ceiling }) r → ◌≡◌ {A = QuoteReply} (record { code = q; words = w; bytes = b; ceiling = k }) r
is_quote e f g i h = cc

module _ {a : Result Answer ℕ} {r : Reply} {table work : List ℤ} where
  pub is_analysed :
      {x : Analysed} → ◌≡◌ {A = Analysed} (record { answer = a; table = table; work = work }) x → r ≡ analysis_reply a
      → ◌≡◌ {A = AnalysedForC} (record { reply = r; table = table; work = work }) (analysed_for_c x)
  is_analysed {x = x} h e = subst (λ (y : Reply). ◌≡◌ {A = AnalysedForC} (record { reply = y; table = table; work = work }) (analysed_for_c x)) (sym e) (ap analysed_for_c h)

  pub is_served :
      {d : Desk} {x : Served} → ◌≡◌ {A = Served} (record { desk = d; analysed = record { answer = a; table = table; work = work } }) x → r ≡ analysis_reply a
      → ◌≡◌ {A = ServedForC} (record { desk = d; analysed = record { reply = r; table = table; work = work } }) (served_for_c x)
  is_served {d = d} {x = x} h e = subst (λ (y : Reply). ◌≡◌ {A = ServedForC} (record { desk = d; analysed = record { reply = y; table = table; work = work } }) (served_for_c x)) (sym e) (ap served_for_c h)

module _ {k : Result ℕ ℕ} {r : Reply} where
  pub is_read :
      {words : List ℤ} {o : ReadOutcome} → ◌≡◌ {A = ReadOutcome} (record { count = k; words = words }) o → r ≡ count_reply k
      → ◌≡◌ {A = ReadForC} (record { reply = r; words = words }) (read_for_c o)
  is_read {words = words} {o = o} h e = subst (λ (y : Reply). ◌≡◌ {A = ReadForC} (record { reply = y; words = words }) (read_for_c o)) (sym e) (ap read_for_c h)

  pub is_written :
      {file : List ℕ} {o : WriteOutcome} → ◌≡◌ {A = WriteOutcome} (record { count = k; file = file }) o → r ≡ count_reply k
      → ◌≡◌ {A = WrittenForC} (record { reply = r; file = file }) (written_for_c o)
  is_written {file = file} {o = o} h e = subst (λ (y : Reply). ◌≡◌ {A = WrittenForC} (record { reply = y; file = file }) (written_for_c o)) (sym e) (ap written_for_c h)

-- ---- the desk

counters_are : (d : Desk) (cs : List Call) → counters_after d cs ≡ desk_after d cs
unfolding counters_after desk_after
counters_are d [] = refl
counters_are d (c ∷ cs) = counters_are (desk_for_c d c).desk cs

replies_are : (d : Desk) (cs : List Call) → replies_for_c d cs ≡ replies d cs
unfolding replies_for_c replies
replies_are d [] = refl
replies_are d (c ∷ cs) = ap (λ (rs : List Reply). (desk_for_c d c).analysed.reply ∷ rs) (replies_are (desk_for_c d c).desk cs)

-- for every list of qii_desk calls from counters 0
pub desk_counts_for_c : (cs : List Call) → DeskCountsForC cs
desk_counts_for_c cs =
    let k : DeskCounts cs = desk_counts cs in
    let e = counters_are fresh_desk cs in
    let f = sym (replies_are fresh_desk cs) in
    record {
      passes_sum = ap (λ (d : Desk). d.passes) e ∙ (k.passes_sum ∙ ap passes_of f);
      jobs_number = ap (λ (d : Desk). d.jobs) e ∙ (k.jobs_number ∙ ap answers_of f);
      holds = subst Holds (sym e) k.holds;
    }
