-- What reading a model file into the host's words tells. A call reads into few words first. Where the reader gives another number
-- than 5, it is that of the file's questions without 5; where it gives 5, the call reads again, into words that hold the longest
-- model.
use Rattle.std.specs.Prelude.{Err, Ok, Result}
use mathlib.Core.Path.{◌≡◌, refl, sym, ap, subst, ◌∙◌}
use mathlib.Core.Bool.{Bool, true, false}
use mathlib.Core.List.{List}
use Prim.Native.Nat.{ℕ, zero, suc, ◌≤◌}
use native.Mathlib.Omega.{arith}
use lib.Dec.{T, leb, le→leb, leb→le}
use lib.IntN.{ℤ, pos}
use lib.ListN.{length, take, replicate, length-replicate}
use lib.Seq.{length-take-le}
use Rattle.integers.specs.Words.{AreBytes, onto}
use Rattle.integers.proofs.Buffers.{take-onto}
use Rattle.plant.specs.Ask.{ask, ◌then◌}
use Rattle.plant.specs.Model.{head_size, model_size}
use Rattle.plant.specs.Questions.{ranges_questions, edition_question, records_questions, model_questions}
use Rattle.plant.specs.Calls.{count_reply, ReadOutcome, read_reply, words_read, unless_refused, zeroed}
use Rattle.plant.proofs.Asks.{ask_intro, asked, then_both, then_le}
use Rattle.plant.proofs.Reading.{done}
use Rattle.plant.proofs.Passing.{head_passed}
use Rattle.files.specs.ModelFile.{model_file, head_words, head_questions, buffer_question, body_questions, file_words, records_file_questions, read_model_call}
use Rattle.files.specs.ModelFilesExact.{IsModelFile}
use Rattle.files.proofs.FirstField.{length_head}
use Rattle.files.proofs.ModelReading.{body_passed, most_bytes, length_file}
use Rattle.plant.proofs.Heads.{most_words}
use Rattle.files.proofs.ModelRoundTrip.{head_le, records_file_le, read_passes, file_read, model_files_exact}
use Rattle.interface.specs.Hosts.{model_of, model_file_questions}
use Rattle.interface.proofs.Held.{Front, front}

-- ---- two chains of questions, one after the other

-- a question after a that is yes wherever a is may be left out
left_out : (a five y : ℕ) → (a ≡ 0 → five ≡ 0) → ((a then five) then y) ≡ (a then y)
unfolding ◌then◌
left_out zero five y h = ap (λ (x : ℕ). x then y) (h refl)
left_out (suc a) five y h = refl

-- the answer to both chains is that to the two as one
one_chain : (x y : ℕ) (u v : List ℤ) (next : ReadOutcome) → (unless_refused x u (unless_refused y v next)).count ≡ (unless_refused (x then y) v next).count
unfolding ◌then◌ unless_refused
one_chain zero y u v next = refl
one_chain (suc x) y u v next = refl

both_yes : (x y : ℕ) (u v : List ℤ) (next : ReadOutcome) → (x then y) ≡ 0 → unless_refused x u (unless_refused y v next) ≡ next
unfolding ◌then◌ unless_refused
both_yes zero zero u v next e = refl
both_yes zero (suc y) u v next e = absurd (omega arith)
both_yes (suc x) y u v next e = absurd (omega arith)

-- ---- what a reader's refusal tells

pub refused_number : (k : ℕ) (words : List ℤ) (next : ReadOutcome) (v q : ℕ) → next.count ≡ Ok v → Err q ≡ (unless_refused k words next).count → (q ≡ k) × (k ≡ 0 → ⊥)
unfolding unless_refused
refused_number zero words next v q d e = absurd (let z : ◌≡◌ {A = ℕ} 0 1 = cc in omega arith)
refused_number (suc k) words next v q d e = (ap (λ (c : Result ℕ ℕ). (count_reply c).code) e, λ z. omega arith)

-- ---- a reader's answer, by its case

pub when : {r c : (Result ℕ ℕ)} {x : List ℤ} {o : ReadOutcome} → r ≡ c → ◌≡◌ {A = ReadOutcome} (record { count = r; words = x }) o → ◌≡◌ {A = ReadOutcome} (record { count = c; words = x }) o
when {x = x} {o = o} e h = subst (λ (c : Result ℕ ℕ). ◌≡◌ {A = ReadOutcome} (record { count = c; words = x }) o) e h

-- ---- 5

ranges_yes : (s : List ℕ) → head_questions s ≡ 0 → ranges_questions (head_words s) ≡ 0
unfolding head_questions
ranges_yes s e = (then_both _ (ranges_questions (head_words s)) e).1

-- these words have room for the model of the file, once 1 to 4 are yes
abbrev pub Roomy : (s : List ℕ) (held : List ℤ) → Type 0
Roomy s held = head_questions s ≡ 0 → model_size (head_words s) ≤ length held

-- as many words as the longest model has
pub most_roomy : (s : List ℕ) → Roomy s (replicate 7173 (pos 0))
most_roomy s e = omega (arith, most_words (head_words s) (head_passed (head_words s) (omega (arith, length_head s)) (ranges_yes s e)), length-replicate 7173 (pos 0))

had_room : (a : ℕ) (b : Bool) (words : List ℤ) (next : ReadOutcome) → ((read_reply (unless_refused (a then ask b 5) words next)).code ≡ 5 → ⊥) → a ≡ 0 → T b
unfolding ◌then◌ unless_refused
had_room zero true words next n z = tt
had_room zero false words next n z = absurd (n refl)
had_room (suc a) b words next n z = absurd (omega arith)

-- a reader that does not give 5 had room
pub other_roomy : (s : List ℕ) (held : List ℤ) {c : (Result ℕ ℕ)} {x : List ℤ} → ◌≡◌ {A = ReadOutcome} (record { count = c; words = x }) (read_model_call s held) → ((count_reply c).code ≡ 5 → ⊥) → Roomy s held
unfolding read_model_call
other_roomy s held e n z =
    let fits = leb (model_size (head_words s)) (length held) in
    leb→le (model_size (head_words s)) (length held) (had_room (head_questions s) fits held _ (λ five. n (ap (λ (o : ReadOutcome). (read_reply o).code) e ∙ five)) z)

-- ---- what the reader of a model tells

module _ (s : List ℕ) where
  abbrev h : List ℤ
  h = head_words s

  pub questions_le : model_file_questions s ≤ 46
  unfolding model_file_questions
  questions_le = then_le _ _ 46 (head_le s) (records_file_le s h)

  -- where all questions are yes
  module _ (yes : model_file_questions s ≡ 0) where
    each_yes : (head_questions s ≡ 0) × (body_questions s h ≡ 0) × (records_questions (file_words s h) ≡ 0)
    unfolding model_file_questions records_file_questions
    each_yes =
        let a : (head_questions s ≡ 0) × (records_file_questions s h ≡ 0) = then_both (head_questions s) (records_file_questions s h) yes in
        let b : (body_questions s h ≡ 0) × (records_questions (file_words s h) ≡ 0) = then_both (body_questions s h) (records_questions (file_words s h)) a.1 in
        (a.0, b.0, b.1)

    pub longest_model : length s ≤ 29907
    longest_model = most_bytes s h (head_passed h (omega (arith, length_head s)) (ranges_yes s each_yes.0)) (body_passed s h each_yes.1)

    pub model_asked : model_questions (model_of s) ≡ 0
    unfolding model_of
    model_asked = read_passes s (ranges_yes s each_yes.0) each_yes.2

  -- into words that have room
  module _ (held : List ℤ) (roomy : Roomy s held) where
    abbrev all : ReadOutcome
    all = record { count = Ok (model_size h); words = onto (file_words s h) held }

    -- 1 to 5
    abbrev front_questions : ℕ
    front_questions = head_questions s then buffer_question h (length held)

    questions_are : (front_questions then records_file_questions s h) ≡ model_file_questions s
    unfolding model_file_questions
    questions_are =
        left_out (head_questions s) (buffer_question h (length held)) (records_file_questions s h)
        (λ e. ask_intro (leb (model_size h) (length held)) 5 (le→leb (model_size h) (length held) (roomy e)))

    count_is : (read_model_call s held).count ≡ (unless_refused (model_file_questions s) (zeroed held) all).count
    unfolding read_model_call
    count_is = one_chain front_questions (records_file_questions s h) held (zeroed held) all ∙ ap (λ (q : ℕ). (unless_refused q (zeroed held) all).count) questions_are

    -- a refusal is the number of the file's questions
    pub read_refused : {q : ℕ} {x : List ℤ} → ◌≡◌ {A = ReadOutcome} (record { count = Err q; words = x }) (read_model_call s held) → (q ≡ model_file_questions s) × (model_file_questions s ≡ 0 → ⊥)
    read_refused {q} e = refused_number (model_file_questions s) (zeroed held) all (model_size h) q refl (ap (λ (o : ReadOutcome). o.count) e ∙ count_is)

    -- where all of them are yes, the words are the model's
    reads : model_file_questions s ≡ 0 → read_model_call s held ≡ all
    unfolding read_model_call
    reads passed = both_yes front_questions (records_file_questions s h) held (zeroed held) all (questions_are ∙ passed)

  pub is_model : model_file_questions s ≡ 0 → AreBytes s → IsModelFile s (model_of s)
  unfolding model_of
  is_model passed bytes =
      let held : List ℤ = replicate 7173 (pos 0) in
      let e = reads held (most_roomy s) passed in
      subst (IsModelFile s) (ap words_read e ∙ take-onto (file_words s h) held (model_size h) (length_file s h (length_head s)))
      (model_files_exact.read_is_file s held bytes (ap (λ (o : ReadOutcome). (read_reply o).code) e))

  -- a reader that is done
  module _ (held : List ℤ) {size : ℕ} {x : List ℤ} (e : ◌≡◌ {A = ReadOutcome} (record { count = Ok size; words = x }) (read_model_call s held)) where
    roomy : Roomy s held
    roomy = other_roomy s held e (λ z. omega arith)

    pub read_yes : model_file_questions s ≡ 0
    read_yes = (done (model_file_questions s) (zeroed held) (all held roomy) (omega (arith, questions_le)) (sym (ap (λ (o : ReadOutcome). (read_reply o).code) e ∙ ap (λ (c : Result ℕ ℕ). (count_reply c).code) (count_is held roomy)))).0

    read_all : ◌≡◌ {A = ReadOutcome} (record { count = Ok size; words = x }) (all held roomy)
    read_all = e ∙ reads held roomy read_yes

    pub read_front : Front x size (model_of s)
    unfolding model_of
    read_front =
        let is_size : size ≡ model_size h = ap (λ (o : ReadOutcome). (read_reply o).value) read_all in
        front held (ap (λ (o : ReadOutcome). o.words) read_all) (length_file s h (length_head s) ∙ sym is_size) (omega (arith, is_size, roomy (each_yes read_yes).0))

    pub model_passes : model_questions (take size x) ≡ 0
    model_passes = ap model_questions read_front.are ∙ model_asked read_yes

-- the file of a model that passes is read
pub file_passes : (m : List ℤ) → model_questions m ≡ 0 → (model_file_questions (model_file m) ≡ 0) × (model_of (model_file m) ≡ take (model_size m) m)
unfolding model_questions
file_passes m asks =
    let a : T (leb head_size (length m)) × _ = asked (leb head_size (length m)) 5 _ (omega arith) asks in
    let b : (ranges_questions m ≡ 0) × _ = then_both (ranges_questions m) _ a.1 in
    let d : (edition_question m ≡ 0) × _ = then_both (edition_question m) _ b.1 in
    let whole : model_size m ≤ length m = leb→le (model_size m) (length m) (asked (leb (model_size m) (length m)) 5 _ (omega arith) d.1).0 in
    let held : List ℤ = replicate 7173 (pos 0) in
    let fit : model_size m ≤ length held = omega (arith, most_words m (head_passed m (leb→le head_size (length m) a.0) b.0), length-replicate 7173 (pos 0)) in
    let e = file_read m held asks fit in
    (read_yes (model_file m) held e, sym (read_front (model_file m) held e).are ∙ take-onto (take (model_size m) m) held (model_size m) (length-take-le (model_size m) m whole))
