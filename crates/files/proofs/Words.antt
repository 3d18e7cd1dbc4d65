-- Reading words and writing their bytes are inverse both ways, word by word and list by list.
use mathlib.Core.Path.{◌≡◌, refl, sym, ap, ap₂, ◌∙◌}
use mathlib.Core.Logic.{⊎_elim}
use mathlib.Core.List.{List, [], ◌∷◌, ◌++◌, append_assoc, append-nil}
use Prim.Native.Nat.{ℕ, zero, suc, ◌+◌, ◌*◌, ◌/◌, ◌%◌, ◌≤◌, ◌<◌}
use native.Mathlib.Nat.{add-zero, mul-one}
use native.Mathlib.Numerals.{add-one}
use native.Mathlib.Omega.{arith}
use lib.IntN.{ℤ, pos}
use lib.ListN.{length, get_or, take, drop, length-append, length-drop, get_or-append}
use lib.Seq.{get_or-drop, get_or_at, drop_at, drop-drop, take-add, take-suc, ext_get_or, length-take-le}
use mir.Syntax.{w32}
use mir.Val.{SFits, Fits, of_z, to_z}
use mir.Facts.{to_z-of_z, of_z-to_z, Fits-of_z, sfits_to_z, sfits_lit}
use Rattle.integers.specs.Words.{AreWords, AreBytes, onto}
use Rattle.integers.specs.Counted.{cat}
use Rattle.integers.proofs.Counted.{split}
use Rattle.integers.proofs.Every.{every_none, every_more, every_append}
use Rattle.integers.proofs.Buffers.{cat_none, cat_more, length-cat}
use Rattle.files.specs.Bytes.{bits_of, bits_at, word_at, one_word_at, words_at, bits_bytes, word_bytes, words_bytes, part}
use Rattle.integers.proofs.Filling.{onto_then}

-- ---- one word

-- a word is told by what stands from its position on
pub word-drop : (s : List ℕ) (at : ℕ) → word_at s at ≡ word_at (drop at s) 0
unfolding word_at bits_at
word-drop s at = simp (get_or-drop, add-zero)

bits_back : (u : ℕ) (rest : List ℕ) → u < 4294967296 → bits_at (bits_bytes u ++ rest) 0 ≡ u
unfolding bits_at
bits_back u rest h = omega arith

word_front : (z : ℤ) (rest : List ℕ) → SFits w32 z → word_at (word_bytes z ++ rest) 0 ≡ z
unfolding word_at word_bytes
word_front z rest f = ap (to_z w32) (bits_back (of_z w32 z) rest (Fits-of_z f).fits) ∙ to_z-of_z f

-- a word that is written and read is itself
pub word_back : (p : List ℕ) (z : ℤ) (q : List ℕ) (at : ℕ) → length p ≡ at → SFits w32 z → word_at (p ++ (word_bytes z ++ q)) at ≡ z
word_back p z q at e f = word-drop (p ++ (word_bytes z ++ q)) at ∙ ap (λ (l : List ℕ). word_at l 0) (drop_at p (word_bytes z ++ q) at e) ∙ word_front z q f

four_back : (a b c d : ℕ) (rest : List ℕ) → a < 256 → b < 256 → c < 256 → d < 256 → word_bytes (word_at (a ∷ b ∷ c ∷ d ∷ rest) 0) ≡ a ∷ b ∷ c ∷ d ∷ []
unfolding word_at word_bytes bits_at
four_back a b c d rest ha hb hc hd =
    let f : Fits w32 (bits_of a b c d) = record { fits = omega arith } in
    let e0 : bits_of a b c d / 16777216 ≡ a = omega arith in
    let e1 : bits_of a b c d / 65536 % 256 ≡ b = omega arith in
    let e2 : bits_of a b c d / 256 % 256 ≡ c = omega arith in
    let e3 : bits_of a b c d % 256 ≡ d = omega arith in
    ap bits_bytes (of_z-to_z f) ∙ cc

bytes_front : (s : List ℕ) → AreBytes s → 4 ≤ length s → word_bytes (word_at s 0) ≡ take 4 s
bytes_front [] b h = absurd (omega arith)
bytes_front (x ∷ []) b h = absurd (omega arith)
bytes_front (x ∷ y ∷ []) b h = absurd (omega arith)
bytes_front (x ∷ y ∷ z ∷ []) b h = absurd (omega arith)
bytes_front (x ∷ y ∷ z ∷ w ∷ s) b h = four_back x y z w s (b 0) (b 1) (b 2) (b 3)

-- four bytes that are read and written are themselves
pub bytes_back : (s : List ℕ) (at : ℕ) → AreBytes s → at + 4 ≤ length s → word_bytes (word_at s at) ≡ part s at 4
bytes_back s at b h =
    ap word_bytes (word-drop s at) ∙ bytes_front (drop at s) (λ i. rw (get_or-drop at s i 0) (b (at + i))) (omega (arith, length-drop at s))

pub word_fits : (s : List ℕ) (at : ℕ) → AreBytes s → SFits w32 (word_at s at)
unfolding word_at bits_at
word_fits s at b = sfits_to_z {n = bits_at s at} (record { fits = omega (arith, b at, b (at + 1), b (at + 2), b (at + 3)) })

-- ---- words from a position on

pub length_words : (s : List ℕ) (at k : ℕ) → length (words_at s at k) ≡ k
unfolding words_at
length_words s at k = length-cat k 1 (one_word_at s at) (λ i _. refl) ∙ mul-one k

pub words_none : (s : List ℕ) (at : ℕ) → words_at s at 0 ≡ []
unfolding words_at
words_none s at = cat_none (one_word_at s at)

pub words_more : (s : List ℕ) (at k : ℕ) → words_at s at (k + 1) ≡ words_at s at k ++ (word_at s (at + 4 * k) ∷ [])
unfolding words_at
words_more s at k = cat_more k (one_word_at s at)

-- word i of those that are read
pub words_nth : (s : List ℕ) (at k i : ℕ) → i < k → get_or (words_at s at k) i (pos 0) ≡ word_at s (at + 4 * i)
words_nth s at zero i l = absurd (omega arith)
words_nth s at (suc k) i l =
    rw (← (add-one k), words_more)
    (⊎_elim
    (λ (p : i < k). get_or-append (words_at s at k) (word_at s (at + 4 * k) ∷ []) (pos 0) i (rw (length_words s at k) p) ∙ words_nth s at k i p)
    (λ (p : i ≡ k). rw p (get_or_at (words_at s at k) (word_at s (at + 4 * k)) [] (pos 0) k (length_words s at k)))
    (split i k l))

-- ---- the bytes of words

pub length-word : (z : ℤ) → length (word_bytes z) ≡ 4
unfolding word_bytes
length-word z = refl

pub length_bytes : (zs : List ℤ) → length (words_bytes zs) ≡ 4 * length zs
unfolding words_bytes
length_bytes [] = refl
length_bytes (z ∷ zs) = omega (arith, length-append (word_bytes z) (words_bytes zs), length-word z, length_bytes zs)

pub bytes_none : [] ≡ words_bytes []
unfolding words_bytes
bytes_none = refl

pub bytes_append : (a b : List ℤ) → words_bytes (a ++ b) ≡ words_bytes a ++ words_bytes b
unfolding words_bytes
bytes_append [] b = refl
bytes_append (z ∷ a) b = ap (λ (x : List ℕ). word_bytes z ++ x) (bytes_append a b) ∙ sym (append_assoc (word_bytes z) (words_bytes a) (words_bytes b))

pub bytes_one : (z : ℤ) → words_bytes (z ∷ []) ≡ word_bytes z
unfolding words_bytes
bytes_one z = append-nil (word_bytes z)

pub length_part : {A : Type 0} (s : List A) (from k : ℕ) → from + k ≤ length s → length (part s from k) ≡ k
length_part s from k h = length-take-le k (drop from s) (omega (arith, length-drop from s))

-- one word more
pub bytes_more : (ws : List ℤ) (from i : ℕ) → from + i < length ws → words_bytes (part ws from (i + 1)) ≡ words_bytes (part ws from i) ++ word_bytes (get_or ws (from + i) (pos 0))
bytes_more ws from i h =
    rw (add-one, take-suc (drop from ws) i (pos 0) (omega (arith, length-drop from ws)), get_or-drop)
    (bytes_append (part ws from i) (get_or ws (from + i) (pos 0) ∷ []) ∙ ap (λ (x : List ℕ). words_bytes (part ws from i) ++ x) (bytes_one (get_or ws (from + i) (pos 0))))

-- a turn of the loop that writes words: the buffer x holds i of them
pub put_turn : (ws : List ℤ) (from i : ℕ) (d x : List ℕ) (to : ℕ) → x ≡ onto (take to d ++ words_bytes (part ws from i)) d → from + i < length ws → to ≤ length d
    → onto (take (to + 4 * i) x ++ word_bytes (get_or ws (from + i) (pos 0))) x ≡ onto (take to d ++ words_bytes (part ws from (i + 1))) d
put_turn ws from i d x to e h room =
    rw (bytes_more ws from i h)
    (onto_then (words_bytes (part ws from i)) (word_bytes (get_or ws (from + i) (pos 0))) d x to (to + 4 * i) e room (omega (arith, length_bytes (part ws from i), length_part ws from i (omega arith))))

-- ---- lists of words

-- word k of the words whose bytes stand after p
pub word_nth : (zs : List ℤ) (p q : List ℕ) (at k : ℕ) → length p ≡ at → k < length zs → AreWords zs → word_at (p ++ (words_bytes zs ++ q)) (at + 4 * k) ≡ get_or zs k (pos 0)
unfolding words_bytes
word_nth [] p q at k e l f = absurd (omega arith)
word_nth (z ∷ zs) p q at zero e l f = rw (append_assoc (word_bytes z) (words_bytes zs) q) (word_back p z (words_bytes zs ++ q) (at + 0) (omega arith) (f 0))
word_nth (z ∷ zs) p q at (suc k) e l f =
    let a : at + 4 * suc k ≡ (at + 4) + 4 * k = omega arith in
    rw (a, append_assoc (word_bytes z) (words_bytes zs) q, ← (append_assoc p (word_bytes z) (words_bytes zs ++ q)))
    (word_nth zs (p ++ word_bytes z) q (at + 4) k (omega (arith, length-append p (word_bytes z), length-word z)) (omega arith) (λ i. f (suc i)))

-- words that are written and read are themselves
pub words_back : (zs : List ℤ) (p q : List ℕ) (at k : ℕ) → length p ≡ at → length zs ≡ k → AreWords zs → words_at (p ++ (words_bytes zs ++ q)) at k ≡ zs
words_back zs p q at k e ek f =
    ext_get_or (pos 0) (words_at (p ++ (words_bytes zs ++ q)) at k) zs (length_words _ at k ∙ sym ek)
    (λ i l. let h : i < k = omega (arith, length_words (p ++ (words_bytes zs ++ q)) at k) in words_nth _ at k i h ∙ word_nth zs p q at i e (omega arith) f)

-- bytes that are read as words and written are themselves
pub all_bytes_back : (s : List ℕ) (at k : ℕ) → AreBytes s → at + 4 * k ≤ length s → words_bytes (words_at s at k) ≡ part s at (4 * k)
unfolding words_bytes
all_bytes_back s at zero b h = rw words_none refl
all_bytes_back s at (suc k) b h =
    let e : 4 * suc k ≡ 4 * k + 4 = omega arith in
    rw (← (add-one k), words_more)
    (bytes_append (words_at s at k) (word_at s (at + 4 * k) ∷ [])
    ∙ ap₂ (λ (x y : List ℕ). x ++ y) (all_bytes_back s at k b (omega arith)) (bytes_one (word_at s (at + 4 * k)) ∙ bytes_back s (at + 4 * k) b (omega arith))
    ∙ ap (λ (x : List ℕ). part s at (4 * k) ++ take 4 x) (sym (drop-drop (4 * k) at s))
    ∙ sym (take-add (4 * k) 4 (drop at s))
    ∙ ap (part s at) (sym e ∙ ap (λ (j : ℕ). 4 * j) (sym (add-one k))))

-- ---- what is read are words, and what is written are bytes

append_words : (a b : List ℤ) → AreWords a → AreWords b → AreWords (a ++ b)
append_words [] b f g i = g i
append_words (z ∷ a) b f g zero = f 0
append_words (z ∷ a) b f g (suc i) = append_words a b (λ j. f (suc j)) g i

one_word : (z : ℤ) → SFits w32 z → AreWords (z ∷ [])
one_word z f zero = f
one_word z f (suc i) = sfits_lit tt

pub words_fit : (s : List ℕ) (at k : ℕ) → AreBytes s → AreWords (words_at s at k)
unfolding words_at cat
words_fit s at zero b = λ i. sfits_lit tt
words_fit s at (suc k) b = append_words (words_at s at k) (one_word_at s at k) (words_fit s at k b) (one_word (word_at s (at + 4 * k)) (word_fits s (at + 4 * k) b))

-- ---- the bytes of words are bytes

pub three_bytes : (x y z : ℕ) (s : List ℕ) → x < 256 → y < 256 → z < 256 → AreBytes s → AreBytes (x ∷ y ∷ z ∷ s)
three_bytes x y z s hx hy hz h =
    every_more (λ (b : ℕ). b < 256) 0 x (y ∷ z ∷ s) hx (every_more (λ (b : ℕ). b < 256) 0 y (z ∷ s) hy (every_more (λ (b : ℕ). b < 256) 0 z s hz h))

pub no_bytes : AreBytes []
no_bytes = every_none (λ (b : ℕ). b < 256) 0 (omega arith)

bits_bytes_lem : (u : ℕ) → u < 4294967296 → AreBytes (bits_bytes u)
bits_bytes_lem u h =
    three_bytes (u / 16777216) (u / 65536 % 256) (u / 256 % 256) ((u % 256) ∷ []) (omega arith) (omega arith) (omega arith)
    (every_more (λ (b : ℕ). b < 256) 0 (u % 256) [] (omega arith) no_bytes)

pub word_are_bytes : (z : ℤ) → SFits w32 z → AreBytes (word_bytes z)
unfolding word_bytes
word_are_bytes z f = bits_bytes_lem (of_z w32 z) (Fits-of_z f).fits

pub words_are_bytes : (zs : List ℤ) → AreWords zs → AreBytes (words_bytes zs)
unfolding words_bytes
words_are_bytes [] f = no_bytes
words_are_bytes (z ∷ zs) f = every_append (λ (b : ℕ). b < 256) 0 (word_bytes z) (words_bytes zs) (word_are_bytes z (f 0)) (words_are_bytes zs (λ i. f (suc i)))
