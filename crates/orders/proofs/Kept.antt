-- No analysis by passes exceeds the quote.
use mathlib.Core.Path.{◌≡◌, refl, sym, ap, ◌∙◌, subst}
use mathlib.Core.List.{List}
use Prim.Native.Nat.{ℕ, zero, suc, ◌+◌, ◌≤◌}
use native.Mathlib.Omega.{arith}
use lib.Dec.{T, leb, le→leb, leb→le}
use lib.IntN.{ℤ}
use lib.ListN.{length, drop}
use lib.Seq.{drop_at}
use Rattle.integers.specs.Words.{onto}
use Rattle.plant.specs.Questions.{model_questions}
use Rattle.plant.specs.Tables.{longest_table_file, table_ok, table_after}
use Rattle.plant.specs.Calls.{Analysed, reply_of, count_reply, ceiling_by, ceiling_call, passes_of, answer_table, analysis, analysis_questions, answered, analyse_by, analyse_call, write_reply}
use Rattle.plant.specs.Demands.{ceiling, answers, Room}
use Rattle.plant.proofs.Asks.{ask_intro, ask_yes, then_both}
use Rattle.plant.proofs.Passed.{passed}
use Rattle.plant.proofs.Tables.{long_enough, made_ok, table_most}
use Rattle.plant.proofs.Keeps.{pieces_after, pieces_ok, after_length, onto_begins}
use Rattle.plant.proofs.ByLocation.{ceiling_is_by_pieces}
use Rattle.plant.proofs.Search.{answer_code}
use Rattle.plant.proofs.Demands.{model_yes, by_code, first_demand, passes_within}
use Rattle.plant.proofs.AnalysisAsked.{model_asked, table_room, work_room}
use Rattle.plant.proofs.Whole.{Whole}
use Rattle.plant.proofs.Passing.{whole}
use Rattle.files.specs.TableFile.{table_file, write_table_call}
use Rattle.files.proofs.TableSizes.{longest_most, file_most}
use Rattle.files.proofs.TableBack.{table_back}
use Rattle.orders.specs.declared.Desk.{Desk}
use Rattle.orders.specs.Desks.{desk_questions, desk_by, desk_call}
use Rattle.plant.proofs.Widths.{ceiling-most}
use Rattle.orders.specs.Quotes.{quote_reply, quote_by, quote_call, quoted, NoneExceeds, QuoteDemand}
use Rattle.orders.proofs.Quoted.{words_are, bytes_are, ceiling_is}

module _ (m : List ℤ) where
  largest : (q : ℕ) → model_questions m ≡ q → let r = quote_reply (quote_by m q) in (r.words ≤ 19968) × (r.bytes ≤ 96775) × (r.ceiling ≤ 12800001408)
  largest zero e = let w : Whole m = whole m e in (table_most m w.head.n_small w.head.L_small, longest_most m w, ceiling-most m (passed m e))
  largest (suc q) e = (omega arith, omega arith, omega arith)

  same_by : (q : ℕ) → (quote_reply (quote_by m q)).ceiling ≡ (count_reply (ceiling_by m q)).value
  same_by zero = refl
  same_by (suc q) = refl

  same_ceiling : (quoted m).ceiling ≡ ceiling m
  unfolding quote_call ceiling_call
  same_ceiling = same_by (model_questions m)

  module _ (limit : ℕ) (table work : List ℤ) where
    abbrev asked : ℕ
    asked = analysis_questions m table work

    passes_by : (q : ℕ) → asked ≡ q → (reply_of (analyse_by q m limit table work)).value ≤ (quoted m).ceiling
    passes_by zero e = omega (arith, passes_within m (model_asked m table work e) limit, ceiling_is m (model_asked m table work e))
    passes_by (suc q) e = omega arith

    passes : (reply_of (analyse_call m limit table work)).value ≤ (quoted m).ceiling
    unfolding analyse_call
    passes = passes_by asked refl

    charge_by : (d : Desk) (q : ℕ) → desk_questions d m limit table work ≡ q → (desk_by q d m limit table work).desk.passes ≤ d.passes + (quoted m).ceiling
    unfolding desk_questions
    charge_by d zero e = let asks : model_questions m ≡ 0 = model_asked m table work (then_both asked _ e).0 in omega (arith, passes_within m asks limit, ceiling_is m asks)
    charge_by d (suc q) e = omega arith

    charge : (d : Desk) → (desk_call d m limit table work).desk.passes ≤ d.passes + (quoted m).ceiling
    unfolding desk_call
    charge d = charge_by d (desk_questions d m limit table work) refl

    -- an answered call
    module _ (h : 100 ≤ answers m limit table work) where
      asks : model_questions m ≡ 0
      asks = model_yes m limit table work h

      is_answered : analyse_call m limit table work ≡ answered m (analysis m limit) table work
      is_answered = by_code m limit table work h

      answer_words : length (table_after m (reply_of (analyse_call m limit table work)).value) ≡ (quoted m).words
      unfolding answer_table
      answer_words = ap (λ (a : Analysed). length (table_after m (reply_of a).value)) is_answered ∙ after_length m (passes_of (analysis m limit)) ∙ sym (words_are m asks)

      taken : (file : List ℕ) → (quoted m).bytes ≤ length file
          → let t = (analyse_call m limit table work).table in write_reply (write_table_call m t file) ≡ record { code = 100; value = length (table_file m t) }
      unfolding answer_table
      taken file r = rw is_answered (ap write_reply
          (table_back.written m (onto (table_after m k) table) file asks (long_enough m (onto (table_after m k) table) (pieces_after m k) (onto_begins m k table)) ok (omega (arith, bytes_are m asks))))
        where
          k : ℕ
          k = passes_of (analysis m limit)

          ok : T (table_ok m (onto (table_after m k) table))
          ok = made_ok m (passed m asks) (onto (table_after m k) table) (pieces_after m k) (onto_begins m k table) (pieces_ok m (passed m asks) k)

    behind_by : (q : ℕ) → asked ≡ q → drop (quoted m).words (analyse_by q m limit table work).table ≡ drop (quoted m).words table
    unfolding answer_table onto
    behind_by zero e =
        let k : ℕ = passes_of (analysis m limit) in
        rw (words_are m (model_asked m table work e) ∙ sym (after_length m k)) (drop_at (table_after m k) (drop (length (table_after m k)) table) (length (table_after m k)) refl)
    behind_by (suc q) e = refl

    behind : drop (quoted m).words (analyse_call m limit table work).table ≡ drop (quoted m).words table
    unfolding analyse_call
    behind = behind_by asked refl

    enough : model_questions m ≡ 0 → (quoted m).words ≤ length table → (quoted m).words ≤ length work → 100 ≤ answers m limit table work
    enough asks a b =
        let r : Room m table work = record { table_room = omega (arith, words_are m asks); work_room = omega (arith, words_are m asks) } in
        subst (λ (x : Analysed). 100 ≤ (reply_of x).code) (sym ((first_demand m).with_table asks limit table work r)) (answer_code m limit)

  none_exceeds : (limit : ℕ) (table work : List ℤ) → NoneExceeds m limit table work
  none_exceeds limit table work = record {
    passes_within = passes limit table work;
    charge_within = charge limit table work;
    table_words = answer_words limit table work;
    behind_words = behind limit table work;
    file_within = λ h. omega (arith, file_most m (analyse_call m limit table work).table, bytes_are m (asks limit table work h));
    file_taken = λ file h. taken limit table work h file;
  }

pub quote_kept : (m : List ℤ) → QuoteDemand m
unfolding quote_call
quote_kept m = record {
  is_quoted = λ asks. ap (λ (q : ℕ). (quote_reply (quote_by m q)).code) asks;
  refused_by = λ q e. ap (λ (q : ℕ). quote_reply (quote_by m q)) e;
  none_exceeds = none_exceeds m;
  exact_words = λ asks limit table work. (
    λ h. let e = (first_demand m).only_passing limit table work h in (omega (arith, words_are m asks, table_room m table work e), omega (arith, words_are m asks, work_room m table work e)),
    λ r. enough m limit table work asks r.0 r.1,
  );
  exact_bytes = λ asks room. (
    λ h. omega (arith, bytes_are m asks, leb→le (longest_table_file m) room (ask_yes (leb (longest_table_file m) room) 39 (omega arith) h)),
    λ h. ask_intro (leb (longest_table_file m) room) 39 (le→leb (longest_table_file m) room (omega (arith, bytes_are m asks))),
  );
  every_file = λ asks t. omega (arith, file_most m t, bytes_are m asks);
  same_ceiling = same_ceiling m;
  by_pieces = λ asks. ceiling_is m asks ∙ ceiling_is_by_pieces m asks;
  largest = largest m (model_questions m) refl;
}
