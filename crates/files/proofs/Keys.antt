-- Keys of which only the marked ones count, which stand in an ascending list.
use mathlib.Core.Path.{◌≡◌, refl, sym, ap, ap₂, ◌∙◌, subst}
use mathlib.Core.Bool.{Bool, true, false, not, cond}
use mathlib.Core.Logic.{⊎_elim}
use mathlib.Core.List.{List, [], ◌++◌, append-nil}
use Prim.Native.Nat.{ℕ, zero, suc, ◌<◌, ◌≤◌}
use native.Mathlib.Decide.{dec_lt}
use native.Mathlib.Omega.{arith}
use borrow.Author.Tests.{eq-eqb, ne_eqb}
use lib.Dec.{T, eqb}
use Rattle.integers.specs.Counted.{cat, sum_below}
use Rattle.integers.proofs.Counted.{split}
use Rattle.integers.proofs.Rows.{either}

not_both : (b : Bool) → T b → T (not b) → ⊥
not_both true s t = t
not_both false s t = s

-- ---- the marked keys below an end, in ascending order

pub record Among (k : ℕ) (key : ℕ → ℕ) (q : ℕ) : Type 0 where
  pub index : ℕ
  pub is_below : index < k
  pub is : key index ≡ q

pub record Ascending (end : ℕ) (marked : ℕ → Bool) (k : ℕ) (key : ℕ → ℕ) : Type 0 where
  pub below : (i : ℕ) → i < k → key i < end
  pub ascends : (i : ℕ) → suc i < k → key i < key (suc i)
  pub is_marked : (i : ℕ) → i < k → T (marked (key i))
  pub found : (q : ℕ) → q < end → T (marked q) → Among k key q

pub key_le : (k : ℕ) (key : ℕ → ℕ) → ((i : ℕ) → suc i < k → key i < key (suc i)) → (i j : ℕ) → i ≤ j → j < k → key i ≤ key j
key_le k key up i zero h l = let e : i ≡ 0 = omega arith in rw e (omega arith)
key_le k key up i (suc j) h l =
    ⊎_elim (λ u. omega (arith, key_le k key up i j (omega arith) (omega arith), up j l)) (λ e. rw e (omega arith)) (split i (suc j) (omega arith))

-- what is done for each key, and nothing for one that is not marked, is done along the list
module _ {A : Type 0} (end : ℕ) (marked : ℕ → Bool) (k : ℕ) (key : ℕ → ℕ) (asc : Ascending end marked k key)
    (h : ℕ → List A) (none : (q : ℕ) → q < end → T (not (marked q)) → h q ≡ [])
    (c : ℕ → ℕ) (counts : (q : ℕ) → q < end → T (marked q) → c q ≡ 1) (counts-none : (q : ℕ) → q < end → T (not (marked q)) → c q ≡ 0) where
  -- at key q, i keys of the list have been passed
  record Reached (q : ℕ) : Type 0 where
    i : ℕ
    within : i ≤ k
    behind : (j : ℕ) → j < i → key j < q
    ahead : i < k → q ≤ key i
    done : cat q h ≡ cat i (λ j. h (key j))
    counted : sum_below q c ≡ i

  skip : (q : ℕ) → q < end → Reached q → T (not (marked q)) → Reached (suc q)
  unfolding cat sum_below
  skip q l r u = record {
    i = r.i;
    within = r.within;
    behind = λ j v. omega (arith, r.behind j v);
    ahead = λ v. later v;
    done = ap₂ (λ (a b : List A). a ++ b) r.done (none q l u) ∙ append-nil (cat r.i (λ j. h (key j)));
    counted = omega (arith, r.counted, counts-none q l u);
  }
    where
      later : r.i < k → suc q ≤ key r.i
      later v = ⊎_elim (λ w. w) (λ e. absurd (not_both (marked q) (subst (λ (x : ℕ). T (marked x)) (sym e) (asc.is_marked r.i v)) u)) (split q (key r.i) (omega (arith, r.ahead v)))

  pass : (q : ℕ) → q < end → Reached q → T (marked q) → Reached (suc q)
  unfolding cat sum_below
  pass q l r u = record {
    i = suc r.i;
    within = there.0;
    behind = λ j v. ⊎_elim (λ w. omega (arith, r.behind j w)) (λ e. omega (arith, ap key e, there.1)) (split j r.i v);
    ahead = λ v. omega (arith, asc.ascends r.i v, there.1);
    done = ap₂ (λ (a b : List A). a ++ b) r.done (ap h (sym there.1));
    counted = omega (arith, r.counted, counts q l u);
  }
    where
      a : Among k key q
      a = asc.found q l u

      after : r.i ≤ a.index
      after = ⊎_elim (λ w. absurd (omega (arith, r.behind a.index w, a.is))) (λ w. w) (either a.index r.i (dec_lt a.index r.i))

      there : (r.i < k) × (key r.i ≡ q)
      there = (omega (arith, after, a.is_below), omega (arith, r.ahead (omega (arith, after, a.is_below)), key_le k key asc.ascends r.i a.index after a.is_below, a.is))

  reached : (q : ℕ) → q ≤ end → Reached q
  unfolding cat sum_below
  reached zero l = record { i = 0; within = omega arith; behind = λ j v. absurd (omega arith); ahead = λ v. omega arith; done = refl; counted = refl }
  reached (suc q) l = by (reached q (omega arith)) (marked q) refl
    where
      by : Reached q → (b : Bool) → marked q ≡ b → Reached (suc q)
      by r true e = pass q (omega arith) r (rw e tt)
      by r false e = skip q (omega arith) r (rw e tt)

  all : (reached end (omega arith)).i ≡ k
  all = let r : Reached end = reached end (omega arith) in
      ⊎_elim (λ (w : r.i < k). absurd (omega (arith, r.ahead w, asc.below r.i w))) (λ e. e) (split r.i k (omega (arith, r.within)))

  pub along : cat end h ≡ cat k (λ j. h (key j))
  along = (reached end (omega arith)).done ∙ ap (λ (i : ℕ). cat i (λ j. h (key j))) all

  pub counted_all : sum_below end c ≡ k
  counted_all = (reached end (omega arith)).counted ∙ all

-- ---- there is such a list

pub record Listing (end : ℕ) (marked : ℕ → Bool) : Type 0 where
  pub count : ℕ
  pub key : ℕ → ℕ
  pub asc : Ascending end marked count key

module _ (end : ℕ) (marked : ℕ → Bool) (p : Listing end marked) where
  -- the list as it is
  unmarked : T (not (marked end)) → Listing (suc end) marked
  unmarked u = record {
    count = p.count;
    key = p.key;
    asc = record {
      below = λ i l. omega (arith, p.asc.below i l);
      ascends = p.asc.ascends;
      is_marked = p.asc.is_marked;
      found = λ q l v. ⊎_elim (λ w. p.asc.found q w v) (λ e. absurd (not_both (marked end) (subst (λ (x : ℕ). T (marked x)) e v) u)) (split q end l);
    };
  }

  -- the list with the last key
  more : ℕ → ℕ
  more i = cond (eqb i p.count) end (p.key i)

  more_old : (i : ℕ) → i < p.count → more i ≡ p.key i
  unfolding more
  more_old i l = rw (ne_eqb i p.count (λ e. omega arith))

  more_new : (i : ℕ) → i ≡ p.count → more i ≡ end
  unfolding more
  more_new i e = rw (eq-eqb i p.count e)

  with_last : T (marked end) → Listing (suc end) marked
  with_last u = record {
    count = suc p.count;
    key = more;
    asc = record {
      below = λ i l. ⊎_elim (λ w. omega (arith, p.asc.below i w, more_old i w)) (λ e. omega (arith, more_new i e)) (split i p.count l);
      ascends = λ i l. ⊎_elim (λ w. omega (arith, p.asc.ascends i w, more_old i (omega arith), more_old (suc i) w)) (λ e. omega (arith, p.asc.below i (omega arith), more_old i (omega arith), more_new (suc i) e)) (split (suc i) p.count l);
      is_marked = λ i l. ⊎_elim (λ w. rw (more_old i w) (p.asc.is_marked i w)) (λ e. rw (more_new i e) u) (split i p.count l);
      found = λ q l v. ⊎_elim
          (λ w. let a : Among p.count p.key q = p.asc.found q w v in record { index = a.index; is_below = omega (arith, a.is_below); is = more_old a.index a.is_below ∙ a.is })
          (λ e. record { index = p.count; is_below = omega arith; is = more_new p.count refl ∙ sym e })
          (split q end l);
    };
  }

pub listing : (end : ℕ) (marked : ℕ → Bool) → Listing end marked
listing zero marked = record {
  count = 0;
  key = λ i. i;
  asc = record { below = λ i l. absurd (omega arith); ascends = λ i l. absurd (omega arith); is_marked = λ i l. absurd (omega arith); found = λ q l v. absurd (omega arith) };
}
listing (suc end) marked = by (listing end marked) (marked end) refl
  where
    by : Listing end marked → (b : Bool) → marked end ≡ b → Listing (suc end) marked
    by p true e = with_last end marked p (rw e tt)
    by p false e = unmarked end marked p (rw e tt)

-- a list of keys below an end is no longer than that
pub no_longer : (end : ℕ) (marked : ℕ → Bool) (k : ℕ) (key : ℕ → ℕ) → Ascending end marked k key → k ≤ end
no_longer end marked k key asc = by k refl
  where
    at_least : (i : ℕ) → i < k → i ≤ key i
    at_least zero l = omega arith
    at_least (suc i) l = omega (arith, at_least i (omega arith), asc.ascends i l)

    by : (x : ℕ) → k ≡ x → k ≤ end
    by zero e = omega arith
    by (suc x) e = omega (arith, at_least x (omega arith), asc.below x (omega arith))
