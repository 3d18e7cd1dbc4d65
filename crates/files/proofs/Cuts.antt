-- The fields of the cuts: what a yes to their questions tells of each, and which field names a location, for a reader that goes
-- through the locations and the fields side by side.
use mathlib.Core.Path.{◌≡◌, refl, sym, ap, subst, ◌∙◌}
use mathlib.Core.Logic.{⊎_elim}
use mathlib.Core.Bool.{Bool, true, false, cond, not, ◌&&◌}
use mathlib.Core.List.{List, [], ◌∷◌}
use Prim.Native.Nat.{ℕ, zero, suc, ◌-◌, ◌≤◌, ◌<◌}
use native.Mathlib.Decide.{dec_lt}
use native.Mathlib.Omega.{arith}
use borrow.Author.Tests.{lt-leb, leb-false, eq-eqb}
use lib.Dec.{T, eqb, leb, eqb→eq, leb→le}
use lib.IntN.{ℤ, pos, negsuc, nat_abs}
use lib.Signed.{le_z}
use lib.ListN.{length, get_or}
use Rattle.integers.specs.Words.{word, num, eq_z, within}
use Rattle.integers.proofs.Tests.{by_test, and_yes}
use Rattle.integers.proofs.Counted.{split}
use Rattle.files.specs.Fields.{field_at, is_field}
use Rattle.files.proofs.Fields.{Due, due}
use Rattle.plant.proofs.Asks.{ask_yes, asked, first_each}
use Rattle.files.specs.ModelFile.{cut_place, cut_field_words, least_location, cut_words_ok, cut_field_questions, end_questions, cuts_questions, names_location, file_cut}

-- ---- one field

-- a word from a number to another
pub in_range : (a k : ℕ) (z : ℤ) → T (within (pos a) (pos k) z) → (z ≡ pos (nat_abs z)) × (a ≤ nat_abs z) × (nat_abs z ≤ k)
in_range a k (pos x) h = let u : T (le_z (pos a) (pos x)) × T (le_z (pos x) (pos k)) = and_yes (le_z (pos a) (pos x)) (le_z (pos x) (pos k)) h in (refl, leb→le a x u.0, leb→le x k u.1)
in_range a k (negsuc x) h = absurd h

pub record CutYes (s : List ℕ) (at least L : ℕ) : Type 0 where
  pub whole : Due s at 8 12
  pub natural : word (cut_field_words s at) 0 ≡ pos (num (cut_field_words s at) 0)
  pub above : least ≤ num (cut_field_words s at) 0
  pub below : num (cut_field_words s at) 0 < L
  pub cut : T (not (eq_z (word (cut_field_words s at) 1) (negsuc 0)))

pub cut_yes : (s : List ℕ) (at least L : ℕ) → 0 < L → cut_field_questions s at least L ≡ 0 → CutYes s at least L
unfolding cut_field_questions cut_words_ok
cut_yes s at least L l e =
    let w : List ℤ = cut_field_words s at in
    let a : _ × _ = asked (eqb (get_or s at 0) 8) 8 _ (omega arith) e in
    let b : T (is_field (field_at s at) 8 12) × _ = asked (is_field (field_at s at) 8 12) 46 _ (omega arith) a.1 in
    let c : T (within (pos least) (pos (L - 1)) (word w 0)) × T (not (eq_z (word w 1) (negsuc 0))) =
    and_yes (within (pos least) (pos (L - 1)) (word w 0)) (not (eq_z (word w 1) (negsuc 0))) (ask_yes (cut_words_ok w least L) 46 (omega arith) b.1) in
    let r : _ × _ × _ = in_range least (L - 1) (word w 0) c.0 in
    record { whole = due s at 8 12 b.0; natural = r.0; above = r.1; below = omega (arith, r.2); cut = c.1 }

-- a field that is there and names the location l; one that is not there, or names another
pub named : (s : List ℕ) (at l : ℕ) → at < length s → num (cut_field_words s at) 0 ≡ l → names_location s at l ≡ true
named s at l h e = rw (lt-leb (length s) at h, eq-eqb (num (cut_field_words s at) 0) l e) refl

pub not_named : (s : List ℕ) (at l : ℕ) → (at < length s → num (cut_field_words s at) 0 ≡ l → ⊥) → names_location s at l ≡ false
not_named s at l h = by (leb (length s) at) (eqb (num (cut_field_words s at) 0) l) refl refl
  where
    by : (x y : Bool) → leb (length s) at ≡ x → eqb (num (cut_field_words s at) 0) l ≡ y → (not x && y) ≡ false
    by true y e f = refl
    by false true e f = absurd (h (leb-false (length s) at e) (eqb→eq _ _ (rw f tt)))
    by false false e f = refl

-- the other way round
pub is_named : (s : List ℕ) (at l : ℕ) → names_location s at l ≡ true → (at < length s) × (num (cut_field_words s at) 0 ≡ l)
is_named s at l h = by (leb (length s) at) (eqb (num (cut_field_words s at) 0) l) refl refl h
  where
    by : (x y : Bool) → leb (length s) at ≡ x → eqb (num (cut_field_words s at) 0) l ≡ y → (not x && y) ≡ true → (at < length s) × (num (cut_field_words s at) 0 ≡ l)
    by true y e f g = absurd (let z : ◌≡◌ {A = ℕ} 0 1 = cc in omega arith)
    by false true e f g = (leb-false (length s) at e, eqb→eq _ _ (rw f tt))
    by false false e f g = absurd (let z : ◌≡◌ {A = ℕ} 0 1 = cc in omega arith)

-- ---- the words of a location's cut

module _ (s : List ℕ) (from : ℕ) where
  -- variable and value of field i
  abbrev pub cut_of_field : ℕ → List ℤ
  cut_of_field i = word (cut_field_words s (cut_place from i)) 1 ∷ word (cut_field_words s (cut_place from i)) 2 ∷ []

  -- the location that it names
  abbrev pub location_of : ℕ → ℕ
  location_of i = num (cut_field_words s (cut_place from i)) 0

  pub cut_none : (k l : ℕ) → ((j : ℕ) → j < k → names_location s (cut_place from j) l ≡ false) → file_cut s from k l ≡ negsuc 0 ∷ pos 0 ∷ []
  unfolding file_cut
  cut_none zero l h = refl
  cut_none (suc k) l h = rw (h k (omega arith)) (cut_none k l (λ j u. h j (omega arith)))

  pub cut_at : (k i l : ℕ) → i < k → names_location s (cut_place from i) l ≡ true → ((j : ℕ) → i < j → j < k → names_location s (cut_place from j) l ≡ false) → file_cut s from k l ≡ cut_of_field i
  unfolding file_cut
  cut_at zero i l u e h = absurd (omega arith)
  cut_at (suc k) i l u e h =
      ⊎_elim (λ v. rw (h k v (omega arith)) (cut_at k i l v e (λ j w x. h j w (omega arith)))) (λ (p : i ≡ k). rw (← p) (rw e refl)) (split i k u)

  pub length_cut : (k l : ℕ) → length (file_cut s from k l) ≡ 2
  unfolding file_cut
  length_cut zero l = refl
  length_cut (suc k) l = by_test (λ (w : List ℤ). length w ≡ 2) (names_location s (cut_place from k) l) (λ _. refl) (λ _. length_cut k l)

  -- ---- locations and fields side by side

  -- at location l, i fields have been passed: they name locations before l, and the next one, if there is one, l or a later one
  pub record Reached (l i : ℕ) : Type 0 where
    pub few : i ≤ l
    pub behind : (j : ℕ) → j < i → location_of j < l
    pub ahead : cut_place from i < length s → l ≤ location_of i

  pub reached_none : Reached 0 0
  reached_none = record { few = omega arith; behind = λ j u. absurd (omega arith); ahead = λ h. omega arith }

  -- ---- fields that pass, in a model of L locations

  module _ (L : ℕ) (some : 0 < L) (passes : cuts_questions s from L ≡ 0) where
    pub each : (i : ℕ) → i ≤ L → cut_place from i < length s → CutYes s (cut_place from i) (least_location s from i) L
    unfolding cuts_questions end_questions
    each i l h =
        let e : end_questions s from L i ≡ 0 = first_each (suc L) (end_questions s from L) passes i (omega arith) in
        cut_yes s (cut_place from i) (least_location s from i) L some
        (subst (λ (t : Bool). cond t 0 (cut_field_questions s (cut_place from i) (least_location s from i) L) ≡ 0) (lt-leb (length s) (cut_place from i) h) e)

    -- a later field names a later location
    later : (i j : ℕ) → i < j → j ≤ L → cut_place from j < length s → location_of i < location_of j
    later i zero u l h = absurd (omega arith)
    later i (suc j) u l h =
        let a = (each (suc j) l h).above in
        ⊎_elim (λ v. omega (arith, later i j v (omega arith) (omega arith), a)) (λ e. omega (arith, ap location_of e, a)) (split i j u)

    module _ (l i : ℕ) (below : l < L) (r : Reached l i) where
      -- the next field names it
      module _ (n : names_location s (cut_place from i) l ≡ true) where
        pub is_next : (cut_place from i < length s) × (location_of i ≡ l)
        is_next = is_named s (cut_place from i) l n

        pub next_yes : CutYes s (cut_place from i) (least_location s from i) L
        next_yes = each i (omega (arith, r.few)) is_next.0

        pub reached_more : Reached (suc l) (suc i)
        reached_more = record {
          few = omega (arith, r.few);
          behind = λ j u. ⊎_elim (λ v. omega (arith, r.behind j v)) (λ (e : j ≡ i). omega (arith, ap location_of e, is_next.1)) (split j i u);
          ahead = λ h. omega (arith, later i (suc i) (omega arith) (omega (arith, r.few)) h, is_next.1);
        }

        pub words_named : file_cut s from L l ≡ cut_of_field i
        words_named = cut_at L i l (omega (arith, r.few)) n (λ j u v. not_named s (cut_place from j) l (λ h e. omega (arith, later i j u (omega arith) h, e, is_next.1)))

      -- it does not, so none does
      module _ (n : names_location s (cut_place from i) l ≡ false) where
        not_next : cut_place from i < length s → location_of i ≡ l → ⊥
        not_next h e = absurd (let z : true ≡ false = sym (named s (cut_place from i) l h e) ∙ n in let y : ◌≡◌ {A = ℕ} 0 1 = cc in omega arith)

        beyond : cut_place from i < length s → suc l ≤ location_of i
        beyond h = ⊎_elim (λ u. u) (λ e. absurd (not_next h (sym e))) (split l (location_of i) (omega (arith, r.ahead h)))

        pub reached_same : Reached (suc l) i
        reached_same = record { few = omega (arith, r.few); behind = λ j u. omega (arith, r.behind j u); ahead = beyond }

        pub words_not_named : file_cut s from L l ≡ negsuc 0 ∷ pos 0 ∷ []
        words_not_named = cut_none L l (λ j u. not_named s (cut_place from j) l (λ h e. other j u h e (dec_lt j i)))
          where
            other : (j : ℕ) → j < L → cut_place from j < length s → location_of j ≡ l → Dec (j < i) → ⊥
            other j u h e (yes v) = omega (arith, r.behind j v, e)
            other j u h e (no v) =
                ⊎_elim (λ w. omega (arith, later i j w (omega arith) h, beyond (omega arith), e)) (λ w. not_next (omega arith) (ap location_of w ∙ e)) (split i j (omega arith))

    -- after the last location no field is left
    pub ended : (i : ℕ) → Reached L i → length s ≤ cut_place from i
    ended i r = by (dec_lt (cut_place from i) (length s))
      where
        by : Dec (cut_place from i < length s) → length s ≤ cut_place from i
        by (yes h) = absurd (omega (arith, r.ahead h, (each i r.few h).below))
        by (no h) = omega arith

    reached_at : (l : ℕ) → l ≤ L → (i : ℕ) × Reached l i
    reached_at zero u = (0, reached_none)
    reached_at (suc l) u = by (reached_at l (omega arith)) (names_location s (cut_place from (reached_at l (omega arith)).0) l) refl
      where
        by : (p : (i : ℕ) × Reached l i) (t : Bool) → names_location s (cut_place from p.0) l ≡ t → (i : ℕ) × Reached (suc l) i
        by p true n = (suc p.0, reached_more l p.0 (omega arith) p.1 n)
        by p false n = (p.0, reached_same l p.0 (omega arith) p.1 n)

    -- there are no more of them than locations
    pub cuts_few : length s ≤ cut_place from L
    cuts_few = let p : (i : ℕ) × Reached L i = reached_at L (omega arith) in omega (arith, ended p.0 p.1, p.1.few)
