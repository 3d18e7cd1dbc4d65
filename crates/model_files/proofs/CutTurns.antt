-- The cuts' fields as code comes by them: their words in the file, their questions one after the other, and a turn of the loop
-- that asks them and of the one that copies them.
use mathlib.Core.Path.{◌≡◌, refl, sym, ap, ap₂, ◌∙◌}
use mathlib.Core.Bool.{Bool, true, false, cond}
use mathlib.Core.List.{List, [], ◌∷◌, ◌++◌}
use Prim.Native.Nat.{ℕ, suc, ◌+◌, ◌*◌, ◌≤◌, ◌<◌}
use native.Mathlib.Numerals.{add-one, towards_suc}
use native.Mathlib.Decide.{dec_lt}
use native.Mathlib.Omega.{arith}
use borrow.Author.Tests.{lt-leb}
use lib.IntN.{ℤ}
use lib.ListN.{length, take, set}
use lib.Seq.{sets}
use Rattle.integers.specs.Words.{word, num, onto}
use Rattle.integers.specs.Counted.{cat}
use Rattle.integers.proofs.Buffers.{onto_start, cat_none, length-cat, cat_turn, sets_onto}
use Rattle.files.specs.Bytes.{word_at, words_at}
use Rattle.files.specs.Fields.{field_at, is_field}
use Rattle.files.proofs.Words.{words_nth}
use Rattle.files.proofs.Fields.{due}
use Rattle.plant.specs.Ask.{ask, first}
use Rattle.plant.proofs.Asks.{ask_yes, first_none, first_each, first_intro}
use Rattle.plant.specs.declared.Refusal.{Refusal}
use Rattle.plant.specs.Refusals.{number}
use Rattle.plant.proofs.Refusing.{refused_at, passed_more}
use Rattle.files.specs.ModelFile.{cut_place, cut_field_words, least_location, cut_field_questions, end_questions, cuts_questions, names_location, file_cut, cut_words}
use Rattle.model_files.specs.Room.{CutThere, CutsReady, filled_cut}
use Rattle.files.proofs.Cuts.{CutYes, cut_yes, length_cut, each, Reached, reached_none, reached_more, reached_same, words_named, words_not_named}
use Rattle.files.proofs.CutsBack.{end_yes}

-- ---- the words of the field at a position

two_at : (s : List ℕ) (from : ℕ) → words_at s from 2 ≡ word_at s from ∷ word_at s (from + 4) ∷ []
unfolding words_at cat
two_at s from = let e : from + 4 * 0 ≡ from = omega arith in ap (λ (i : ℕ). word_at s i ∷ word_at s (from + 4) ∷ []) e

module _ (s : List ℕ) (at : ℕ) where
  pub location_word : word (cut_field_words s at) 0 ≡ word_at s (at + 3)
  location_word = words_nth s (at + 3) 3 0 (omega arith) ∙ ap (word_at s) (omega arith)

  pub variable_word : word (cut_field_words s at) 1 ≡ word_at s (at + 3 + 4)
  variable_word = words_nth s (at + 3) 3 1 (omega arith) ∙ ap (word_at s) (omega arith)

  value_word : word (cut_field_words s at) 2 ≡ word_at s (at + 3 + 4 + 4)
  value_word = words_nth s (at + 3) 3 2 (omega arith) ∙ ap (word_at s) (omega arith)

  pub words_of_cut : words_at s (at + 3 + 4) 2 ≡ word (cut_field_words s at) 1 ∷ word (cut_field_words s at) 2 ∷ []
  words_of_cut = two_at s (at + 3 + 4) ∙ ap₂ (λ (a b : ℤ). a ∷ b ∷ []) (sym variable_word) (sym value_word)

  -- ---- its questions

  pub whole_there : {t : Bool} → t ≡ is_field (field_at s at) 8 12 → 0 ≡ ask t 46 → at + 15 ≤ length s
  whole_there {t} e h = omega (arith, (due s at 8 12 (rw (← e) (ask_yes t 46 (omega arith) (sym h)))).there)

  -- what a yes tells, for reading it too
  pub cut_passed : {least L : ℕ} → 1 ≤ L → 0 ≡ cut_field_questions s at least L → CutYes s at least L
  cut_passed {least} {L} some e = cut_yes s at least L some (sym e)

  pub is_there : {least L : ℕ} → CutYes s at least L → CutThere s at
  is_there y = record { there = omega (arith, y.whole.there); natural = rw y.natural tt }

-- ---- a turn of the loop that asks

-- the fields before the position `at` are asked, and the next may name a location from `least` on
pub record CutsAsked (s : List ℕ) (from L least at : ℕ) : Type 0 where
  pub i : ℕ
  pub few : i ≤ least
  pub most : least ≤ L
  pub is_least : least ≡ least_location s from i
  pub is_at : at ≡ cut_place from i
  pub asked : first i (end_questions s from L) ≡ 0

module _ (s : List ℕ) (from L : ℕ) where
  pub asked_none : CutsAsked s from L 0 from
  asked_none = record { i = 0; few = omega arith; most = omega arith; is_least = refl; is_at = omega arith; asked = first_none (end_questions s from L) }

  module _ {least at : ℕ} (p : CutsAsked s from L least at) where
    question : {r : ℕ} → at < length s → r ≡ cut_field_questions s at least L → r ≡ end_questions s from L p.i
    unfolding end_questions
    question h e = rw (lt-leb (length s) (cut_place from p.i) (omega (arith, p.is_at)), ← p.is_at, ← p.is_least) e

    pub asked_stop : (r : Refusal) → at < length s → number r ≡ cut_field_questions s at least L → number r ≡ cuts_questions s from L
    unfolding cuts_questions
    asked_stop r h e = refused_at (end_questions s from L) r (suc L) p.i p.asked (omega (arith, p.few, p.most)) (question h e)

    pub asked_more : {k next : ℕ} → at < length s → 0 ≡ cut_field_questions s at least L → CutYes s at least L → k ≡ num (cut_field_words s at) 0 → next ≡ at + 15 → CutsAsked s from L (k + 1) next
    asked_more h e y ek en = record {
      i = p.i + 1;
      few = omega (arith, ek, y.above, p.few);
      most = omega (arith, ek, y.below);
      is_least = rw (add-one p.i, ek, p.is_at) refl;
      is_at = omega (arith, en, p.is_at);
      asked = passed_more (end_questions s from L) p.i p.asked (question h e);
    }

    pub asked_all : length s ≤ at → 0 ≡ cuts_questions s from L
    unfolding cuts_questions
    asked_all h = sym (first_intro (suc L) (end_questions s from L) (λ j u. by j (dec_lt j p.i)))
      where
        by : (j : ℕ) → Dec (j < p.i) → end_questions s from L j ≡ 0
        by j (yes w) = first_each p.i (end_questions s from L) p.asked j w
        by j (no w) = end_yes s from L j (omega (arith, p.is_at))

-- ---- a turn of the loop that copies

-- two stores, one after the other
pub two_stored : (d : List ℤ) (to : ℕ) (u v : ℤ) → to + 2 ≤ length d → set (set d to u) (to + 1) v ≡ onto (take to d ++ (u ∷ v ∷ [])) d
two_stored d to u v h = let e : set (set d to u) (to + 1) v ≡ sets d to (u ∷ v ∷ []) = simp towards_suc in e ∙ sets_onto d (u ∷ v ∷ []) to h

-- at location l: the words of the locations before are copied, and the next field begins at `at`
pub record CutsFilled (s : List ℕ) (from L : ℕ) (d₀ : List ℤ) (to : ℕ) (x : List ℤ) (at l : ℕ) : Type 0 where
  pub i : ℕ
  pub reached : Reached s from l i
  pub is_at : at ≡ cut_place from i
  pub is : x ≡ onto (take to d₀ ++ cat l (file_cut s from L)) d₀

module _ (s : List ℕ) (from L : ℕ) (d₀ : List ℤ) (to : ℕ) (ready : CutsReady s from L d₀ to) where
  pub filled_none : CutsFilled s from L d₀ to d₀ from 0
  filled_none = record {
    i = 0;
    reached = reached_none s from;
    is_at = omega arith;
    is = onto_start to d₀ (omega (arith, ready.room)) ∙ ap (λ (l : List ℤ). onto (take to d₀ ++ l) d₀) (sym (cat_none (file_cut s from L)));
  }

  module _ {x : List ℤ} {at l : ℕ} (p : CutsFilled s from L d₀ to x at l) (below : l < L) where
    -- the next field, if there is one, stands whole
    pub next_there : at < length s → CutThere s at
    next_there h = rw p.is_at (is_there s (cut_place from p.i) (each s from L ready.some ready.passes p.i (omega (arith, p.reached.few)) (omega (arith, p.is_at))))

    pub filled_more : {y : List ℤ} {next : ℕ} → y ≡ onto (take (to + l * 2) x ++ filled_cut s at l) x → next ≡ cond (names_location s at l) (at + 15) at → CutsFilled s from L d₀ to y next (l + 1)
    filled_more {y} {next} e en = turn (names_location s at l) refl
      where
        named : (t : Bool) → names_location s at l ≡ t → names_location s (cut_place from p.i) l ≡ t
        named t n = rw p.is_at at n

        words_are : (t : Bool) → names_location s at l ≡ t → file_cut s from L l ≡ filled_cut s at l
        words_are true n = rw (n, p.is_at) (words_named s from L ready.some ready.passes l p.i below p.reached (named true n))
        words_are false n = rw n (words_not_named s from L ready.some ready.passes l p.i below p.reached (named false n))

        copied : (t : Bool) → names_location s at l ≡ t → y ≡ onto (take to d₀ ++ cat (l + 1) (file_cut s from L)) d₀
        copied t n =
            e ∙ ap (λ (w : List ℤ). onto (take (to + l * 2) x ++ w) x) (sym (words_are t n))
            ∙ cat_turn (file_cut s from L) to l (to + l * 2) d₀ x p.is (omega (arith, ready.room)) (omega (arith, length-cat l 2 (file_cut s from L) (λ j _. length_cut s from L j)))

        turn : (t : Bool) → names_location s at l ≡ t → CutsFilled s from L d₀ to y next (l + 1)
        turn true n = record {
          i = suc p.i;
          reached = rw (add-one l) (reached_more s from L ready.some ready.passes l p.i below p.reached (named true n));
          is_at = omega (arith, rw n at en, p.is_at);
          is = copied true n;
        }
        turn false n = record {
          i = p.i;
          reached = rw (add-one l) (reached_same s from L ready.some ready.passes l p.i below p.reached (named false n));
          is_at = omega (arith, rw n at en, p.is_at);
          is = copied false n;
        }

pub filled_all : {s : List ℕ} {from L : ℕ} {d₀ : List ℤ} {to : ℕ} {x : List ℤ} {at l : ℕ} → CutsFilled s from L d₀ to x at l → l ≡ L → x ≡ onto (take to d₀ ++ cut_words s from L) d₀
unfolding cut_words
filled_all {s = s} {from = from} {L = L} {d₀ = d₀} {to = to} p e = p.is ∙ ap (λ (k : ℕ). onto (take to d₀ ++ cat k (file_cut s from L)) d₀) e
