-- Document 01, "Files": words are four bytes, two's complement, highest byte first.
use Rattle.std.specs.Prelude.{List, [], ◌∷◌, ◌++◌, ℕ, ◌+◌, ◌*◌, ◌/◌, ◌%◌, ℤ, get_or, take, drop}
use Rattle.std.specs.Int.{w32}
use Rattle.std.proofs.Common.{to_z, of_z}
use Rattle.integers.specs.Counted.{cat}

-- how many bytes a word has
abbrev pub word_size : ℕ
word_size = 4

-- ---- from bytes to words

-- the 32 bits of four bytes
abbrev pub bits_of : (a b c d : ℕ) → ℕ
bits_of a b c d = a * 16777216 + b * 65536 + c * 256 + d

unfoldable pub bits_at : List ℕ → ℕ → ℕ
bits_at s at = bits_of (get_or s at 0) (get_or s (at + 1) 0) (get_or s (at + 2) 0) (get_or s (at + 3) 0)

-- the word whose bytes begin at a position; as many words from a position on
unfoldable pub word_at : List ℕ → ℕ → ℤ
word_at s at = to_z w32 (bits_at s at)

abbrev pub one_word_at : List ℕ → ℕ → ℕ → List ℤ
one_word_at s at i = word_at s (at + word_size * i) ∷ []

unfoldable pub words_at : (s : List ℕ) (at count : ℕ) → List ℤ
words_at s at count = cat count (one_word_at s at)

-- ---- from words to bytes

-- the four bytes of 32 bits
abbrev pub bits_bytes : ℕ → List ℕ
bits_bytes u = (u / 16777216) ∷ (u / 65536 % 256) ∷ (u / 256 % 256) ∷ (u % 256) ∷ []

unfoldable pub word_bytes : ℤ → List ℕ
word_bytes z = bits_bytes (of_z w32 z)

unfoldable pub words_bytes : List ℤ → List ℕ
words_bytes [] = []
words_bytes (z ∷ zs) = word_bytes z ++ words_bytes zs

-- count elements of a list, from a place on
abbrev pub part : {A : Type 0} → List A → (from count : ℕ) → List A
part s from count = take count (drop from s)
