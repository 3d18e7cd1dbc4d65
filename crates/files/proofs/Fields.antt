-- What a field is by the tests that the code makes, that a written field is read back, and that a field that is read was written.
use mathlib.Core.Path.{◌≡◌, refl, sym, ap, ap₂, ◌∙◌}
use mathlib.Core.Logic.{inl, inr}
use mathlib.Core.Bool.{Bool, true, false, cond}
use mathlib.Core.List.{List, [], ◌∷◌, ◌++◌, append_assoc}
use Prim.Native.Nat.{ℕ, ◌+◌, ◌*◌, ◌/◌, ◌%◌, ◌≤◌, ◌<◌}
use native.Mathlib.Nat.{add-zero, mul-le-mul}
use native.Mathlib.Omega.{arith}
use types.Run.{OneOf}
use denote.Enum.Declared.{tag_of}
use borrow.Author.Tests.{le-leb, lt-leb, leb-true}
use lib.Dec.{T, eqb, eqb→eq, eqb_refl, leb}
use lib.IntN.{ℤ}
use lib.ListN.{length, get_or, take, drop, length-append, length-drop, take-append-drop}
use lib.Seq.{get_or_at, get_or-drop, get_or-append-add, drop_at, take_at, drop-drop, length-take-le}
use Rattle.integers.specs.Words.{AreWords, AreBytes}
use Rattle.integers.specs.Counted.{cat}
use Rattle.integers.proofs.Tests.{and_yes, and_intro}
use Rattle.integers.proofs.Buffers.{length-cat, cat_ext, cat_at, cat_parts}
use Rattle.files.specs.Bytes.{words_at, words_bytes, part}
use Rattle.files.specs.Fields.{header_size, field_length, field_place, length_at, field_at, is_field, header, field}
use Rattle.files.specs.declared.Field.{Field}
use Rattle.files.specs.declared.Field.TheVariants.{Whole, Cut, Short}
use Rattle.files.specs.contracts.Field.{the_type}
use Rattle.files.proofs.Words.{three_bytes, length_bytes, length_part, words_back, all_bytes_back}

-- ---- by the tests

module _ (s : List ℕ) (at : ℕ) where
  pub field_short : length s < at + 3 → Short ≡ field_at s at
  unfolding field_at
  field_short h = simp (lt-leb (at + 3) (length s) h)

  pub field_cut : at + 3 ≤ length s → length s < at + 3 + length_at s at → Cut (get_or s at 0) ≡ field_at s at
  unfolding field_at
  field_cut h k = simp (le-leb (at + 3) (length s) h, lt-leb (at + 3 + length_at s at) (length s) k)

  pub field_whole : at + 3 + length_at s at ≤ length s → Whole (get_or s at 0) (at + 3) (length_at s at) (at + 3 + length_at s at) ≡ field_at s at
  unfolding field_at
  field_whole k = simp (le-leb (at + 3) (length s) (omega arith), le-leb (at + 3 + length_at s at) (length s) k)

-- ---- a field that is written

pub length-field : (tag : ℕ) (payload : List ℕ) → length (field tag payload) ≡ 3 + length payload
unfolding field
length-field tag payload = omega arith

pub field_are_bytes : (tag : ℕ) (payload : List ℕ) → tag < 256 → length payload < 65536 → AreBytes payload → AreBytes (field tag payload)
unfolding field
field_are_bytes tag payload t l h = three_bytes tag (length payload / 256) (length payload % 256) payload t (omega arith) (omega arith) h

module _ (p : List ℕ) (tag : ℕ) (payload q : List ℕ) (at m : ℕ) (ep : length p ≡ at) (em : length payload ≡ m) where
  abbrev s : List ℕ
  s = p ++ (field tag payload ++ q)

  -- is read back
  pub field_back : m < 65536 → field_at s at ≡ Whole tag (at + 3) m (at + 3 + m)
  unfolding field
  field_back h =
      let t0 : get_or s at 0 ≡ tag = get_or_at p tag _ 0 at ep in
      let t1 : get_or s (at + 1) 0 ≡ length payload / 256 = rw (← ep) (get_or-append-add p (field tag payload ++ q) 1 0) in
      let t2 : get_or s (at + 2) 0 ≡ length payload % 256 = rw (← ep) (get_or-append-add p (field tag payload ++ q) 2 0) in
      let ln : length_at s at ≡ m = omega (arith, t1, t2) in
      let all : length s ≡ at + (3 + (m + length q)) = omega (arith, length-append p (field tag payload ++ q), length-append payload q) in
      sym (field_whole s at (omega (arith, all, ln))) ∙ rw (t0, ln) refl

  around : s ≡ (p ++ header tag (length payload)) ++ (payload ++ q)
  unfolding field
  around = ap (λ (x : List ℕ). p ++ x) (append_assoc (header tag (length payload)) payload q) ∙ sym (append_assoc p (header tag (length payload)) (payload ++ q))

  before : length (p ++ header tag (length payload)) ≡ at + 3
  before = omega (arith, length-append p (header tag (length payload)))

-- the words of a field that is written
pub field_words_back : (p : List ℕ) (tag : ℕ) (zs : List ℤ) (q : List ℕ) (at k : ℕ) → length p ≡ at → length zs ≡ k → AreWords zs → words_at (p ++ (field tag (words_bytes zs) ++ q)) (at + 3) k ≡ zs
field_words_back p tag zs q at k ep ek f =
    rw (around p tag (words_bytes zs) q at (length (words_bytes zs)) ep refl)
    (words_back zs (p ++ header tag (length (words_bytes zs))) q (at + 3) k (before p tag (words_bytes zs) q at (length (words_bytes zs)) ep refl) ek f)

-- ---- a field that is read

pub record Lies (s : List ℕ) (at tag start len next : ℕ) : Type 0 where
  pub tag_is : tag ≡ get_or s at 0
  pub start_is : start ≡ at + 3
  pub len_is : len ≡ length_at s at
  pub next_is : next ≡ at + 3 + len
  pub there : next ≤ length s

by_tests : (s : List ℕ) (at : ℕ) (a b : Bool) (tag start len next : ℕ) → leb (at + 3 + length_at s at) (length s) ≡ b
    → cond a (cond b (Whole (get_or s at 0) (at + 3) (length_at s at) (at + 3 + length_at s at)) (Cut (get_or s at 0))) Short ≡ Whole tag start len next → Lies s at tag start len next
by_tests s at true true tag start len next t e =
    let l : length_at s at ≡ len = cc in
    let n : at + 3 + length_at s at ≡ next = cc in
    record { tag_is = cc; start_is = cc; len_is = cc; next_is = omega (arith, l, n); there = omega (arith, n, leb-true (at + 3 + length_at s at) (length s) t) }
by_tests s at true false tag start len next t e = absurd (let z : ◌≡◌ {A = ℕ} 0 1 = cc in omega arith)
by_tests s at false b tag start len next t e = absurd (let z : ◌≡◌ {A = ℕ} 0 1 = cc in omega arith)

-- where a whole field lies
pub field_lies : (s : List ℕ) (at tag start len next : ℕ) → field_at s at ≡ Whole tag start len next → Lies s at tag start len next
unfolding field_at
field_lies s at tag start len next e = by_tests s at (leb (at + 3) (length s)) (leb (at + 3 + length_at s at) (length s)) tag start len next refl e

-- the due field stands at a position, whole
pub record Due (s : List ℕ) (at tag len : ℕ) : Type 0 where
  pub field_is : field_at s at ≡ Whole tag (at + 3) len (at + 3 + len)
  pub there : at + 3 + len ≤ length s

lies_due : (s : List ℕ) (at tag start len next : ℕ) → field_at s at ≡ Whole tag start len next → Due s at tag len
lies_due s at tag start len next e =
    let l : Lies s at tag start len next = field_lies s at tag start len next e in
    record { field_is = rw (← l.next_is, ← l.start_is) e; there = omega (arith, l.next_is, l.there) }

by_field : (s : List ℕ) (at tag len : ℕ) (f : Field) → field_at s at ≡ f → T (is_field f tag len) → Due s at tag len
by_field s at tag len (Whole t start l next) e h =
    let a : T (eqb t tag) × T (eqb l len) = and_yes (eqb t tag) (eqb l len) h in
    let p : t ≡ tag = eqb→eq t tag a.0 in
    let q : l ≡ len = eqb→eq l len a.1 in
    lies_due s at tag start len next (rw (p, q) at e)
by_field s at tag len (Cut t) e h = absurd h
by_field s at tag len Short e h = absurd h

pub due : (s : List ℕ) (at tag len : ℕ) → T (is_field (field_at s at) tag len) → Due s at tag len
due s at tag len h = by_field s at tag len (field_at s at) refl h

-- so does the test, the other way round
pub whole_is : (f : Field) (tag start len next : ℕ) → f ≡ Whole tag start len next → T (is_field f tag len)
whole_is f tag start len next e = rw e (and_intro (eqb tag tag) (eqb len len) (eqb_refl tag) (eqb_refl len))

-- what the cursor gives of it
pub due_given : (s : List ℕ) (at tag len t start l next : ℕ) → T (is_field (field_at s at) tag len) → field_at s at ≡ Whole t start l next → (start ≡ at + header_size) × (l ≡ len) × (next ≡ at + header_size + len)
due_given s at tag len t start l next h e =
    let d : Whole t start l next ≡ Whole tag (at + 3) len (at + 3 + len) = sym e ∙ (due s at tag len h).field_is in
    (cc, cc, cc)

-- and that no other arm of a match is taken
pub due_whole : (f : Field) (tag len : ℕ) → T (is_field f tag len) → OneOf (1 ∷ 2 ∷ []) (tag_of the_type f) → ⊥
due_whole (Whole t start l next) tag len h (inl e) = omega arith
due_whole (Whole t start l next) tag len h (inr e) = omega arith
due_whole (Cut t) tag len h e = h
due_whole Short tag len h e = h

header_front : (s : List ℕ) → AreBytes s → 3 ≤ length s → s ≡ header (get_or s 0 0) (length_at s 0) ++ drop 3 s
header_front [] b h = absurd (omega arith)
header_front (x ∷ []) b h = absurd (omega arith)
header_front (x ∷ y ∷ []) b h = absurd (omega arith)
header_front (x ∷ y ∷ z ∷ s) b h =
    let high : (y * 256 + z) / 256 ≡ y = omega (arith, b 2) in
    let low : (y * 256 + z) % 256 ≡ z = omega (arith, b 2) in
    rw (high, low) refl

header_at : (s : List ℕ) (at : ℕ) → AreBytes s → at + 3 ≤ length s → drop at s ≡ header (get_or s at 0) (length_at s at) ++ drop (at + 3) s
header_at s at b h =
    simp (get_or-drop, drop-drop, add-zero) at (header_front (drop at s) (λ i. rw (get_or-drop at s i 0) (b (at + i))) (omega (arith, length-drop at s)))

stands_at : (s : List ℕ) (at len : ℕ) → AreBytes s → len ≡ length_at s at → at + 3 + len ≤ length s → s ≡ take at s ++ (field (get_or s at 0) (part s (at + 3) len) ++ drop (at + 3 + len) s)
unfolding field
stands_at s at len b e h =
    let payload : List ℕ = part s (at + 3) len in
    let rest : drop (at + 3) s ≡ payload ++ drop (at + 3 + len) s = sym (take-append-drop len (drop (at + 3) s)) ∙ ap (λ (x : List ℕ). payload ++ x) (drop-drop len (at + 3) s) in
    let m : length_at s at ≡ length payload = sym (length_part s (at + 3) len h ∙ e) in
    sym (take-append-drop at s)
    ∙ ap (λ (x : List ℕ). take at s ++ x) (header_at s at b (omega arith) ∙ ap₂ (λ (k : ℕ) (x : List ℕ). header (get_or s at 0) k ++ x) m rest)

-- a whole field of bytes stands in the file as it would be written
pub field_stands : (s : List ℕ) (at tag start len next : ℕ) → AreBytes s → field_at s at ≡ Whole tag start len next → s ≡ take at s ++ (field tag (part s start len) ++ drop next s)
field_stands s at tag start len next b e =
    let l = field_lies s at tag start len next e in
    rw (l.tag_is, l.start_is, l.next_is) (stands_at s at len b l.len_is (omega (arith, l.next_is, l.there)))

pub field-part : (s : List ℕ) (at tag start len next : ℕ) → AreBytes s → field_at s at ≡ Whole tag start len next → part s at (3 + len) ≡ field tag (part s start len)
field-part s at tag start len next b e =
    let l = field_lies s at tag start len next e in
    let f : List ℕ = field tag (part s start len) in
    let m : length f ≡ 3 + len = length-field tag (part s start len) ∙ ap (λ (k : ℕ). 3 + k) (length_part s start len (omega (arith, l.start_is, l.next_is, l.there))) in
    ap (λ (x : List ℕ). part x at (3 + len)) (field_stands s at tag start len next b e)
    ∙ ap (take (3 + len)) (drop_at (take at s) (f ++ drop next s) at (length-take-le at s (omega (arith, l.next_is, l.there))))
    ∙ take_at f (drop next s) (3 + len) m

-- ---- a run of fields, each of w words

-- where they stand is small
pub place_small : (w i : ℕ) (most steps : ℕ) → i ≤ steps → w ≤ most → i * field_length w ≤ steps * field_length most
place_small w i most steps h k = let f : field_length w ≤ field_length most = omega arith in mul-le-mul h f

-- fields that are written
module _ (p : List ℕ) (tag : ℕ) (zs : ℕ → List ℤ) (k w : ℕ) (q : List ℕ) (at : ℕ) (ep : length p ≡ at) (ew : (i : ℕ) → i < k → length (zs i) ≡ w) where
  abbrev one : ℕ → List ℕ
  one i = field tag (words_bytes (zs i))

  length_payload : (i : ℕ) → i < k → length (words_bytes (zs i)) ≡ 4 * w
  length_payload i l = length_bytes (zs i) ∙ ap (λ (j : ℕ). 4 * j) (ew i l)

  pub length_fields : (i : ℕ) → i ≤ k → length (cat i one) ≡ i * (3 + 4 * w)
  length_fields i h = length-cat i (3 + 4 * w) one (λ j l. length-field tag (words_bytes (zs j)) ∙ ap (λ (x : ℕ). 3 + x) (length_payload j (omega arith)))

  -- what stands before field i, and after it
  split_at : (i : ℕ) → i < k → (r : List ℕ) × (p ++ (cat k one ++ q) ≡ (p ++ cat i one) ++ (one i ++ r))
  split_at i l =
      let c = cat_at one k i l in (
        c.0 ++ q,
        ap (λ (x : List ℕ). p ++ (x ++ q)) c.1
            ∙ ap (λ (x : List ℕ). p ++ x) (append_assoc (cat i one) (one i ++ c.0) q ∙ ap (λ (x : List ℕ). cat i one ++ x) (append_assoc (one i) c.0 q))
            ∙ sym (append_assoc p (cat i one) (one i ++ (c.0 ++ q))),
      )

  place : (i : ℕ) → i < k → length (p ++ cat i one) ≡ field_place at w i
  place i l = omega (arith, length-append p (cat i one), length_fields i (omega arith))

  -- each is read back
  pub fields_back : (i : ℕ) → i < k → 4 * w < 65536 → field_at (p ++ (cat k one ++ q)) (field_place at w i) ≡ Whole tag (field_place at w i + 3) (4 * w) (field_place at w i + 3 + 4 * w)
  fields_back i l h = let c = split_at i l in rw c.1 (field_back (p ++ cat i one) tag (words_bytes (zs i)) c.0 (field_place at w i) (4 * w) (place i l) (length_payload i l) h)

  -- and so are its words
  pub fields_words_back : (i : ℕ) → i < k → AreWords (zs i) → words_at (p ++ (cat k one ++ q)) (field_place at w i + 3) w ≡ zs i
  fields_words_back i l f = let c = split_at i l in rw c.1 (field_words_back (p ++ cat i one) tag (zs i) c.0 (field_place at w i) w (place i l) (ew i l) f)

-- fields that are read: the bytes are those that would be written for the words that are read
module _ (s : List ℕ) (b : AreBytes s) (at tag w : ℕ) where
  abbrev pub words_of : ℕ → List ℤ
  words_of i = words_at s (field_place at w i + 3) w

  pub fields_stand : (k : ℕ) → ((i : ℕ) → i < k → field_at s (field_place at w i) ≡ Whole tag (field_place at w i + 3) (4 * w) (field_place at w i + 3 + 4 * w))
      → part s at (k * (3 + 4 * w)) ≡ cat k (λ i. field tag (words_bytes (words_of i)))
  fields_stand k h =
      sym (cat_parts s at (3 + 4 * w) k)
      ∙ cat_ext k _ _ (λ i l.
      let y = field_place at w i in
      field-part s y tag (y + 3) (4 * w) (y + 3 + 4 * w) b (h i l)
      ∙ ap (field tag) (sym (all_bytes_back s (y + 3) w b (field_lies s y tag (y + 3) (4 * w) (y + 3 + 4 * w) (h i l)).there)))
