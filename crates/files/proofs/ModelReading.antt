-- Laws of reading a model's file: what a yes to its questions tells, how the words are filled in, and how a call ends.
use mathlib.Core.Path.{◌≡◌, refl, sym, ap, ◌∙◌}
use mathlib.Core.List.{List, ◌++◌, append_assoc}
use Prim.Native.Nat.{ℕ, zero, suc, ◌+◌, ◌*◌, ◌≤◌, ◌<◌}
use native.Mathlib.Omega.{arith}
use lib.Dec.{T, leb, leb→le}
use lib.IntN.{ℤ, pos}
use lib.ListN.{length, take, length-append, get_or-append}
use Rattle.integers.specs.Words.{onto}
use Rattle.integers.proofs.Buffers.{onto_start, onto-part, cat_none, length-cat, cat_turn, take-onto}
use Rattle.files.specs.Bytes.{words_at}
use Rattle.files.specs.Fields.{payload_length, field_place, field_at, is_field}
use Rattle.files.proofs.Words.{length_words}
use Rattle.files.proofs.Fields.{place_small}
use Rattle.plant.specs.Ask.{ask, ◌then◌}
use Rattle.files.specs.declared.Field.{Field}
use Rattle.plant.specs.Model.{n#, L#, E#, B#, location_size, switch_size, forbidden_size, switch_at, forbidden_at, cut_at, model_size}
use Rattle.plant.proofs.Asks.{ask_yes, or_right, both, then_both, first_each}
use Rattle.plant.proofs.Whole as model
use Rattle.plant.proofs.Positions.{head_first}
use Rattle.files.specs.ModelFile.{has_tag, field_questions, run_questions, locations_from, switches_from, forbiddens_from, cuts_from, buffer_question, cuts_questions, body_questions, run_words, record_words, file_cut, cut_words, file_words}
use Rattle.files.proofs.Cuts.{length_cut, cuts_few}
use Rattle.plant.proofs.Heads.{same_size, SameHead, switches_at, forbiddens_at, cuts_at, words_end, same_front, same_allowed}

-- ---- fields

pub field_passed : (f : Field) (tag len : ℕ) → field_questions f tag len ≡ 0 → T (is_field f tag len)
field_passed f tag len e = ask_yes (is_field f tag len) 7 (omega arith) (or_right (ask (has_tag f tag) 6) (ask (is_field f tag len) 7) e)

-- ---- runs of fields

pub run_passed : (s : List ℕ) (from count tag w : ℕ) → run_questions s from count tag w ≡ 0 → (i : ℕ) → i < count → T (is_field (field_at s (field_place from w i)) tag (payload_length w))
unfolding run_questions
run_passed s from count tag w e i l =
    field_passed (field_at s (field_place from w i)) tag (payload_length w) (first_each count (λ i. field_questions (field_at s (field_place from w i)) tag (payload_length w)) e i l)

pub length_run : (s : List ℕ) (from count w : ℕ) → length (run_words s from count w) ≡ count * w
unfolding run_words
length_run s from count w = length-cat count w (λ i. words_at s (field_place from w i + 3) w) (λ i _. length_words s (field_place from w i + 3) w)

-- the loop that copies a run: before its first turn, and a turn at field i
pub run_start : (s : List ℕ) (from w to : ℕ) (d : List ℤ) → to ≤ length d → d ≡ onto (take to d ++ run_words s from 0 w) d
unfolding run_words
run_start s from w to d h = onto_start to d h ∙ ap (λ (l : List ℤ). onto (take to d ++ l) d) (sym (cat_none (λ i. words_at s (field_place from w i + 3) w)))

pub run_turn : (s : List ℕ) (from w to i start place : ℕ) (d x y : List ℤ) → x ≡ onto (take to d ++ run_words s from i w) d → to ≤ length d → start ≡ field_place from w i + 3 → place ≡ to + i * w
    → y ≡ onto (take place x ++ words_at s start w) x → y ≡ onto (take to d ++ run_words s from (i + 1) w) d
unfolding run_words
run_turn s from w to i start place d x y e h es ep f =
    rw (f, es) (cat_turn (λ i. words_at s (field_place from w i + 3) w) to i place d x e h (omega (arith, length_run s from i w)))

-- ---- the cuts' words

pub length_cuts : (s : List ℕ) (from L : ℕ) → length (cut_words s from L) ≡ L * 2
unfolding cut_words
length_cuts s from L = length-cat L 2 (file_cut s from L) (λ l _. length_cut s from L l)

-- ---- places, which are small

module _ (h : List ℤ) (ok : model.Head h) where
  pub switches_small : switches_from h ≤ 9683
  switches_small = omega (arith, place_small (6 * n# h + 1) (L# h) 37 64 ok.L_small (omega (arith, ok.n_small)))

  pub forbiddens_small : forbiddens_from h ≤ 25427
  forbiddens_small = omega (arith, switches_small, place_small (6 + 4 * n# h) (E# h) 30 128 ok.E_small (omega (arith, ok.n_small)))

  pub cuts_small : cuts_from h ≤ 28947
  cuts_small = omega (arith, forbiddens_small, place_small (1 + 2 * n# h) (B# h) 13 64 ok.B_small (omega (arith, ok.n_small)))

-- ---- two lists with the same head words

module _ (a b : List ℤ) (e : SameHead a b) where
  pub same_body : (s : List ℕ) → body_questions s a ≡ body_questions s b
  unfolding body_questions
  same_body s = rw (e 0 (omega arith), e 1 (omega arith), e 2 (omega arith), e 3 (omega arith)) refl

  pub same_words : (s : List ℕ) → file_words s a
      ≡ (a ++ (run_words s 19 (L# b) (6 * n# b + 1) ++ (run_words s (switches_from b) (E# b) (6 + 4 * n# b) ++ run_words s (forbiddens_from b) (B# b) (1 + 2 * n# b)))) ++ cut_words s (cuts_from b) (L# b)
  unfolding record_words file_words
  same_words s = rw (e 0 (omega arith), e 1 (omega arith), e 2 (omega arith), e 3 (omega arith)) refl

-- ---- filling in

-- the buffer x holds a; then s is filled in behind it
onto_more : (a s d x y : List ℤ) (to : ℕ) → x ≡ onto a d → length a ≡ to → y ≡ onto (take to x ++ s) x → y ≡ onto (a ++ s) d
onto_more a s d x y to e l f = f ∙ rw e (onto-part a s d to l)

module _ (s : List ℕ) (h : List ℤ) (five : length h ≡ 5) where
  abbrev locations : List ℤ
  locations = run_words s 19 (L# h) (6 * n# h + 1)

  abbrev switches : List ℤ
  switches = run_words s (switches_from h) (E# h) (6 + 4 * n# h)

  abbrev forbiddens : List ℤ
  forbiddens = run_words s (forbiddens_from h) (B# h) (1 + 2 * n# h)

  to_switches : length (h ++ locations) ≡ switch_at h 0
  to_switches = omega (arith, length-append h locations, length_run s 19 (L# h) (6 * n# h + 1), switches_at h)

  to_forbiddens : length ((h ++ locations) ++ switches) ≡ forbidden_at h 0
  to_forbiddens = omega (arith, length-append (h ++ locations) switches, to_switches, length_run s (switches_from h) (E# h) (6 + 4 * n# h), forbiddens_at h)

  abbrev cuts : List ℤ
  cuts = cut_words s (cuts_from h) (L# h)

  in_turn : ((h ++ locations) ++ switches) ++ forbiddens ≡ record_words s h
  unfolding record_words
  in_turn = append_assoc (h ++ locations) switches forbiddens ∙ append_assoc h locations (switches ++ forbiddens)

  pub to_cuts : length (record_words s h) ≡ cut_at h 0
  to_cuts = rw (← in_turn) (omega (arith, length-append ((h ++ locations) ++ switches) forbiddens, to_forbiddens, length_run s (forbiddens_from h) (B# h) (1 + 2 * n# h), cuts_at h))

  pub length_file : length (file_words s h) ≡ model_size h
  unfolding file_words
  length_file = omega (arith, length-append (record_words s h) cuts, to_cuts, length_cuts s (cuts_from h) (L# h), words_end h)

  -- the head words, then the three runs, then the cuts
  pub filled : (d x₁ x₂ x₃ x₄ : List ℤ) → x₁ ≡ onto h d → x₂ ≡ onto (take 5 x₁ ++ locations) x₁ → x₃ ≡ onto (take (switch_at h 0) x₂ ++ switches) x₂ → x₄ ≡ onto (take (forbidden_at h 0) x₃ ++ forbiddens) x₃ → x₄ ≡ onto (record_words s h) d
  filled d x₁ x₂ x₃ x₄ e₁ e₂ e₃ e₄ =
      let f₂ : x₂ ≡ onto (h ++ locations) d = onto_more h locations d x₁ x₂ 5 e₁ five e₂ in
      let f₃ : x₃ ≡ onto ((h ++ locations) ++ switches) d = onto_more (h ++ locations) switches d x₂ x₃ (switch_at h 0) f₂ to_switches e₃ in
      onto_more ((h ++ locations) ++ switches) forbiddens d x₃ x₄ (forbidden_at h 0) f₃ to_forbiddens e₄ ∙ ap (λ (l : List ℤ). onto l d) in_turn

  pub all_filled : (d x y : List ℤ) → x ≡ onto (record_words s h) d → y ≡ onto (take (cut_at h 0) x ++ cuts) x → y ≡ onto (file_words s h) d
  unfolding file_words
  all_filled d x y e f = onto_more (record_words s h) cuts d x y (cut_at h 0) e to_cuts f

  pub same_file : SameHead (file_words s h) h
  unfolding record_words file_words
  same_file j l = get_or-append (record_words s h) cuts (pos 0) j (omega (arith, to_cuts, cuts_at h, forbiddens_at h, switches_at h)) ∙ same_front h (locations ++ (switches ++ forbiddens)) five j l

  -- the words that are filled in are a whole model, as far as its head tells
  pub file_whole : model.Head h → model.Whole (file_words s h)
  file_whole ok =
      let same : SameHead (file_words s h) h = same_file in
      let size : model_size (file_words s h) ≡ model_size h = same_size (file_words s h) h same in
      record {
        head = same_allowed (file_words s h) h same (omega (arith, length_file, head_first h)) ok;
        long = omega (arith, length_file, size);
      }

  -- they are what is asked
  pub front_of : (d x : List ℤ) (k : ℕ) → x ≡ onto (file_words s h) d → k ≡ model_size h → take k x ≡ file_words s h
  front_of d x k e l = rw e (take-onto (file_words s h) d k (length_file ∙ sym l))

-- ---- what a yes tells

-- questions in a row are asked in their order, however they are taken together
pub then_assoc : (a b c : ℕ) → ((a then b) then c) ≡ (a then (b then c))
unfolding ◌then◌
then_assoc zero b c = refl
then_assoc (suc a) b c = refl

pub buffer_room : (h : List ℤ) (room : ℕ) → buffer_question h room ≡ 0 → model_size h ≤ room
buffer_room h room e = leb→le (model_size h) room (ask_yes (leb (model_size h) room) 5 (omega arith) e)

pub record BodyPassed (s : List ℕ) (h : List ℤ) : Type 0 where
  pub locations_whole : (i : ℕ) → i < L# h → T (is_field (field_at s (field_place 19 (6 * n# h + 1) i)) 2 (4 * (6 * n# h + 1)))
  pub switches_whole : (i : ℕ) → i < E# h → T (is_field (field_at s (field_place (switches_from h) (6 + 4 * n# h) i)) 3 (4 * (6 + 4 * n# h)))
  pub forbiddens_whole : (i : ℕ) → i < B# h → T (is_field (field_at s (field_place (forbiddens_from h) (1 + 2 * n# h) i)) 4 (4 * (1 + 2 * n# h)))
  pub cuts_pass : cuts_questions s (cuts_from h) (L# h) ≡ 0

-- the four parts, as code has them
pub body_made : (s : List ℕ) (h : List ℤ) {a b c d x y r : ℕ} → a ≡ run_questions s locations_from (L# h) 2 (location_size (n# h)) → b ≡ run_questions s (switches_from h) (E# h) 3 (switch_size (n# h))
    → c ≡ run_questions s (forbiddens_from h) (B# h) 4 (forbidden_size (n# h)) → d ≡ cuts_questions s (cuts_from h) (L# h) → x ≡ (c then d) → y ≡ (b then x) → r ≡ (a then y) → r ≡ body_questions s h
unfolding body_questions
body_made s h ea eb ec ed ex ey er = both er ea (both ey eb (both ex ec ed))

pub body_passed : (s : List ℕ) (h : List ℤ) → body_questions s h ≡ 0 → BodyPassed s h
unfolding body_questions
body_passed s h e =
    let a : (run_questions s 19 (L# h) 2 (6 * n# h + 1) ≡ 0) × _ = then_both (run_questions s 19 (L# h) 2 (6 * n# h + 1)) _ e in
    let b : (run_questions s (switches_from h) (E# h) 3 (6 + 4 * n# h) ≡ 0) × _ = then_both (run_questions s (switches_from h) (E# h) 3 (6 + 4 * n# h)) _ a.1 in
    let c : (run_questions s (forbiddens_from h) (B# h) 4 (1 + 2 * n# h) ≡ 0) × _ = then_both (run_questions s (forbiddens_from h) (B# h) 4 (1 + 2 * n# h)) _ b.1 in
    record {
      locations_whole = run_passed s 19 (L# h) 2 (6 * n# h + 1) a.0;
      switches_whole = run_passed s (switches_from h) (E# h) 3 (6 + 4 * n# h) b.0;
      forbiddens_whole = run_passed s (forbiddens_from h) (B# h) 4 (1 + 2 * n# h) c.0;
      cuts_pass = c.1;
    }

-- ---- the largest model: 64 locations of 6 variables, 128 switches, 64 forbidden boxes, every location cut

pub most_bytes : (s : List ℕ) (h : List ℤ) → model.Head h → BodyPassed s h → length s ≤ 29907
most_bytes s h ok y = omega (arith, cuts_small h ok, cuts_few s (cuts_from h) (L# h) ok.L_positive y.cuts_pass, ok.L_small)
