-- Whatever passed when question 13 asked that start boxes lie inside their invariants passes now, and is answered as it was then:
-- its start parts are its start boxes.
use mathlib.Core.Path.{◌≡◌, refl, ap, ◌∙◌, subst}
use mathlib.Core.Logic.{⊎_elim}
use mathlib.Core.Bool.{Bool, true, false, cond, ◌&&◌, ◌||◌}
use mathlib.Core.List.{List}
use Prim.Native.Nat.{ℕ, zero, suc, ◌*◌, ◌<◌}
use native.Mathlib.Omega.{arith}
use lib.Dec.{T, leb}
use lib.IntN.{ℤ, pos, neg_ℤ}
use lib.Signed.{◌≤ℤ◌, le_z}
use lib.ListN.{length}
use Rattle.integers.specs.Words.{equal, eq_z}
use Rattle.integers.specs.Counted.{any_below}
use Rattle.integers.proofs.Order.{trans}
use Rattle.integers.proofs.Tests.{by_test₂, and_yes, and_intro, or_yes}
use Rattle.integers.proofs.Counted.{all_yes, all_intro, any_ext, eq_z_eq}
use Rattle.plant.specs.declared.Answer.{Answer}
use Rattle.plant.specs.declared.Answer.TheVariants.{Safe, Unknown}
use Rattle.plant.specs.Ask.{ask, ◌then◌, first}
use Rattle.plant.specs.Box.{low, high, Inside, Face, unless_empty, face_words, on_box, joins}
use Rattle.plant.specs.Model.{n#, L#, E#, B#, model_size, invariant, rate, start_flag, start_box, source}
use Rattle.plant.specs.Questions.{level_limit, rate_limit, box_ok, inside_ok, zeros_ok, start_ok, location_questions, ranges_questions, edition_question, records_questions, model_questions}
use Rattle.plant.specs.Pieces.{per_face, pieces, piece_face}
use Rattle.plant.specs.Tables.{piece_of, start_part, part_of, to_piece, wall_step_at, wall_from, switch_onto, walls_joined, switches_joined, new_piece, pass, table_after, part_touches, touching}
use Rattle.plant.specs.Calls.{unchanged, certificate_questions, table_questions, checker_questions, search, analysis}
use Rattle.earlier.specs.StartsInside.{SameAnswers, AsBefore}
use Rattle.earlier.specs.StartsInside as before
use Rattle.plant.proofs.Asks.{ask_yes, then_both, asked, first_each}
use Rattle.plant.proofs.Boxes.{cut_whole, not_empty, joins_ext}
use Rattle.plant.proofs.Passed.{Passed, passed, inside_ordered, inside_is}
use Rattle.plant.proofs.StartPart.{length_start}
use Rattle.plant.proofs.Tables.{table_ext}

-- ---- the questions: every number but 13 is given as it was

-- a box that is ordered inside one in range is in range
in_range : (n most : ℕ) (b c : List ℤ) → T (box_ok n most c) → T (inside_ok n b c) → T (box_ok n most b)
unfolding box_ok
in_range n most b c h k = all_intro n (λ i. le_z (low b i) (high b i) && (le_z (neg_ℤ (pos most)) (low b i) && le_z (high b i) (pos most))) (λ i l.
    let p : T (le_z (low c i) (high c i)) × T (le_z (neg_ℤ (pos most)) (low c i) && le_z (high c i) (pos most)) =
    and_yes (le_z (low c i) (high c i)) (le_z (neg_ℤ (pos most)) (low c i) && le_z (high c i) (pos most))
    (all_yes n (λ i. le_z (low c i) (high c i) && (le_z (neg_ℤ (pos most)) (low c i) && le_z (high c i) (pos most))) h i l) in
    let q : T (le_z (neg_ℤ (pos most)) (low c i)) × T (le_z (high c i) (pos most)) = and_yes (le_z (neg_ℤ (pos most)) (low c i)) (le_z (high c i) (pos most)) p.1 in
    let from : neg_ℤ (pos most) ≤ℤ low b i = trans (record { le = q.0 }) ((inside_is n b c k).lower i l) in
    let to : high b i ≤ℤ pos most = trans ((inside_is n b c k).higher i l) (record { le = q.1 }) in
    and_intro (le_z (low b i) (high b i)) (le_z (neg_ℤ (pos most)) (low b i) && le_z (high b i) (pos most)) (inside_ordered n b c k i l).le
    (and_intro (le_z (neg_ℤ (pos most)) (low b i)) (le_z (high b i) (pos most)) from.le to.le))

start_still : (z f i r : Bool) → (T i → T r) → T (z || (f && i)) → T (z || (f && r))
start_still true f i r k h = tt
start_still false true i r k h = k h
start_still false false i r k h = absurd h

location_same : (a b s r : Bool) → (T a → T s → T r) → ((ask a 11 then ask b 12 then ask s 13) ≡ 13 → ⊥)
    → (ask a 11 then ask b 12 then ask r 13) ≡ (ask a 11 then ask b 12 then ask s 13)
unfolding ◌then◌
location_same false b s r k n = refl
location_same true false s r k n = refl
location_same true true false r k n = absurd (n refl)
location_same true true true false k n = absurd (k tt tt)
location_same true true true true k n = refl

-- two questions, and a run of them, if no number but 13 differs
then_same : {a a' b b' : ℕ} → ((a ≡ 13 → ⊥) → a' ≡ a) → ((b ≡ 13 → ⊥) → b' ≡ b) → ((a then b) ≡ 13 → ⊥) → (a' then b') ≡ (a then b)
unfolding ◌then◌
then_same {a = zero} {a'} {b} {b'} p q n = ap (λ (x : ℕ). (x then b')) (p (λ e. absurd (omega arith))) ∙ q n
then_same {a = suc a} {a'} {b} {b'} p q n = ap (λ (x : ℕ). (x then b')) (p n)

first_same : (k : ℕ) (q p : ℕ → ℕ) → ((i : ℕ) → (q i ≡ 13 → ⊥) → p i ≡ q i) → (first k q ≡ 13 → ⊥) → first k p ≡ first k q
unfolding first
first_same zero q p h n = refl
first_same (suc k) q p h n = then_same (first_same k q p h) (h k) n

module _ (m : List ℤ) where
  location_number : (l : ℕ) → (before.location_questions m l ≡ 13 → ⊥) → location_questions m l ≡ before.location_questions m l
  unfolding location_questions before.location_questions start_ok before.start_ok
  location_number l = location_same (box_ok (n# m) level_limit (invariant m l)) (box_ok (n# m) rate_limit (rate m l)) (before.start_ok m l) (start_ok m l)
      (λ ok. start_still (eq_z (start_flag m l) (pos 0) && zeros_ok (2 * n# m) (start_box m l)) (eq_z (start_flag m l) (pos 1)) (inside_ok (n# m) (start_box m l) (invariant m l)) (box_ok (n# m) level_limit (start_box m l))
      (in_range (n# m) level_limit (start_box m l) (invariant m l) ok))

  numbers : (before.model_questions m ≡ 13 → ⊥) → model_questions m ≡ before.model_questions m
  unfolding model_questions records_questions before.model_questions
  numbers = then_same (λ _. refl) (then_same (λ _. refl) (then_same (λ _. refl) (then_same (λ _. refl) (then_same (first_same (L# m) (before.location_questions m) (location_questions m) location_number) (λ _. refl)))))

-- ---- the start part, where the start box lies inside the invariant

module _ (m : List ℤ) (ok : Passed m) (l : ℕ) (u : l < L# m) where
  start_whole : (start_flag m l ≡ pos 1 → Inside (n# m) (start_box m l) (invariant m l)) → start_part m l ≡ before.start_part m l
  unfolding start_part before.start_part
  start_whole p = by_test₂ ◌≡◌ (eq_z (start_flag m l) (pos 1))
      (λ h. let e : start_flag m l ≡ pos 1 = eq_z_eq (start_flag m l) (pos 1) h in
      ap (unless_empty (n# m)) (cut_whole (n# m) (start_box m l) (invariant m l) (length_start m l ok.long u) (p e)) ∙ not_empty (n# m) (start_box m l) ((ok.of_location l u).start_ordered e))
      (λ _. refl)

-- ---- a model that passed then

zero_flag : (z : ℤ) → z ≡ pos 1 → T (eq_z z (pos 0)) → ⊥
zero_flag z e h = subst (λ (x : ℤ). T (eq_z x (pos 0))) e h

module _ (m : List ℤ) (then-passed : before.model_questions m ≡ 0) where
  passes_now : model_questions m ≡ 0
  passes_now = numbers m (λ e. absurd (omega (arith, e, then-passed))) ∙ then-passed

  -- its start boxes lie inside their invariants
  start_asked : (l : ℕ) → l < L# m → T (before.start_ok m l)
  unfolding before.model_questions before.location_questions
  start_asked l u =
      let a : _ × _ = asked (leb 5 (length m)) 5 _ (omega arith) then-passed in
      let b : (ranges_questions m ≡ 0) × _ = then_both (ranges_questions m) _ a.1 in
      let k : (edition_question m ≡ 0) × _ = then_both (edition_question m) _ b.1 in
      let c : T (leb (model_size m) (length m)) × _ = asked (leb (model_size m) (length m)) 5 _ (omega arith) k.1 in
      let d : (first (L# m) (before.location_questions m) ≡ 0) × _ = then_both (first (L# m) (before.location_questions m)) _ c.1 in
      let e : T (box_ok (n# m) 1000000 (invariant m l)) × _ = asked (box_ok (n# m) 1000000 (invariant m l)) 11 _ (omega arith) (first_each (L# m) (before.location_questions m) d.0 l u) in
      let f : T (box_ok (n# m) 1000 (rate m l)) × _ = asked (box_ok (n# m) 1000 (rate m l)) 12 _ (omega arith) e.1 in
      ask_yes (before.start_ok m l) 13 (omega arith) f.1

  inside : (l : ℕ) → T (before.start_ok m l) → start_flag m l ≡ pos 1 → Inside (n# m) (start_box m l) (invariant m l)
  unfolding before.start_ok
  inside l h e =
      ⊎_elim
      (λ u. absurd (zero_flag (start_flag m l) e (and_yes (eq_z (start_flag m l) (pos 0)) _ u).0))
      (λ u. inside_is (n# m) (start_box m l) (invariant m l) (and_yes (eq_z (start_flag m l) (pos 1)) (inside_ok (n# m) (start_box m l) (invariant m l)) u).1)
      (or_yes (eq_z (start_flag m l) (pos 0) && zeros_ok (2 * n# m) (start_box m l)) (eq_z (start_flag m l) (pos 1) && inside_ok (n# m) (start_box m l) (invariant m l)) h)

  start_same : (l : ℕ) → l < L# m → start_part m l ≡ before.start_part m l
  start_same l u = start_whole m (passed m passes_now) l u (inside l (start_asked l u))

  -- so the parts, the pass and the tables
  part_same : (t : List ℤ) (l p : ℕ) → l < L# m → part_of m t l p ≡ before.part_of m t l p
  unfolding part_of before.part_of
  part_same t l zero u = start_same l u
  part_same t l (suc q) u = refl

  wall_same : (t : List ℤ) (l q p : ℕ) → l < L# m → wall_from m t l q p ≡ before.wall_from m t l q p
  unfolding wall_from before.wall_from
  wall_same t l q p u = ap (λ (f : Face). to_piece m l q (on_box f (wall_step_at m l (piece_face m l q)))) (part_same t l p u)

  joined_same : (t : List ℤ) (l q e : ℕ) → l < L# m → switches_joined m t l q e ≡ before.switches_joined m t l q e
  unfolding switches_joined walls_joined before.switches_joined
  joined_same t l q zero u = joins_ext (n# m) (suc (pieces m l)) (wall_from m t l q) (before.wall_from m t l q) (piece_of m t l q) (λ p _. wall_same t l q p u)
  joined_same t l q (suc e) u = ap (joins (n# m) (per_face m (source m e)) (switch_onto m t l q e)) (joined_same t l q e u)

  pass_same : (t : List ℤ) → pass m t ≡ before.pass m t
  unfolding pass new_piece before.pass
  pass_same t = table_ext m (new_piece m t) (λ l q. before.switches_joined m t l q (E# m)) (λ l q u _. ap (face_words (n# m)) (joined_same t l q (E# m) u))

  tables_same : (k : ℕ) → table_after m k ≡ before.table_after m k
  unfolding table_after before.table_after
  tables_same zero = refl
  tables_same (suc k) = pass_same (table_after m k) ∙ ap (before.pass m) (tables_same k)

  touching_same : (t : List ℤ) → touching m t ≡ before.touching m t
  unfolding touching before.touching
  touching_same t = any_ext (L# m) _ _ (λ l u. any_ext (suc (pieces m l)) _ _ (λ p _. ap (λ (f : Face). any_below (B# m) (λ b. part_touches m l b f)) (part_same t l p u)))

  -- and the answers
  settled_same : (k : ℕ) {more more' : Answer} → more ≡ more'
      → cond (touching m (table_after m k)) (Unknown k) (cond (equal (table_after m (suc k)) (table_after m k)) (Safe k) more)
      ≡ cond (before.touching m (before.table_after m k)) (Unknown k) (cond (equal (before.table_after m (suc k)) (before.table_after m k)) (Safe k) more')
  settled_same k e = λ i. cond (touched i) (Unknown k) (cond (equal (tables_same (suc k) i) (tables_same k i)) (Safe k) (e i))
    where
      touched : touching m (table_after m k) ≡ before.touching m (before.table_after m k)
      touched = touching_same (table_after m k) ∙ ap (before.touching m) (tables_same k)

  search_same : (left k : ℕ) → search m left k ≡ before.search m left k
  unfolding search before.search
  search_same zero k = settled_same k refl
  search_same (suc left) k = settled_same k (search_same left (suc k))

  verdicts : (t : List ℤ) → checker_questions m t ≡ before.checker_questions m t
  unfolding checker_questions table_questions certificate_questions unchanged before.checker_questions
  verdicts t = rw (passes_now, then-passed, pass_same t, touching_same t) refl

  same_answers : SameAnswers m
  unfolding analysis before.analysis
  same_answers = record { start_parts = start_same; passes = pass_same; tables = tables_same; answers = λ limit. search_same limit 0; verdicts = verdicts }

pub as_before : (m : List ℤ) → AsBefore m
as_before m = record { numbers = numbers m; passed = same_answers m }
