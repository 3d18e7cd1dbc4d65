-- Words and fields of small files, by computing.
use mathlib.Core.Path.{◌≡◌, refl}
use mathlib.Core.List.{List, [], ◌∷◌, ◌++◌}
use Prim.Native.Nat.{ℕ}
use lib.IntN.{pos, negsuc}
use Rattle.integers.specs.Counted.{cat}
use Rattle.files.specs.Bytes.{bits_at, word_at, words_at, word_bytes, words_bytes}
use Rattle.files.specs.Fields.{field_at, field}
use Rattle.files.specs.declared.Field.TheVariants.{Whole, Cut, Short}

-- -2 is ff ff ff fe, and 1,000,000 is 00 0f 42 40
minus_two : word_bytes (negsuc 1) ≡ 255 ∷ 255 ∷ 255 ∷ 254 ∷ []
unfolding word_bytes
minus_two = refl

a_million : word_bytes (pos 1000000) ≡ 0 ∷ 15 ∷ 66 ∷ 64 ∷ []
unfolding word_bytes
a_million = refl

-- the least word and the greatest
ends_read : words_at (128 ∷ 0 ∷ 0 ∷ 0 ∷ 127 ∷ 255 ∷ 255 ∷ 255 ∷ []) 0 2 ≡ negsuc 2147483647 ∷ pos 2147483647 ∷ []
unfolding bits_at word_at words_at cat
ends_read = refl

-- a field of tag 4 with the words 0 and -2
abbrev sample : List ℕ
sample = 4 ∷ 0 ∷ 8 ∷ 0 ∷ 0 ∷ 0 ∷ 0 ∷ 255 ∷ 255 ∷ 255 ∷ 254 ∷ []

sample_written : field 4 (words_bytes (pos 0 ∷ negsuc 1 ∷ [])) ≡ sample
unfolding field words_bytes word_bytes
sample_written = refl

sample_read : field_at (9 ∷ sample ++ 9 ∷ []) 1 ≡ Whole 4 4 8 12
unfolding field_at
sample_read = refl

sample_words : words_at (9 ∷ sample) 4 2 ≡ pos 0 ∷ negsuc 1 ∷ []
unfolding bits_at word_at words_at cat
sample_words = refl

-- a length of 256 + 2; a payload of which the last byte is missing; two bytes; a position past the end
long_cut : field_at (3 ∷ 1 ∷ 2 ∷ 0 ∷ []) 0 ≡ Cut 3
unfolding field_at
long_cut = refl

one_missing : field_at (4 ∷ 0 ∷ 2 ∷ 7 ∷ []) 0 ≡ Cut 4
unfolding field_at
one_missing = refl

two_bytes : field_at (4 ∷ 0 ∷ []) 0 ≡ Short
unfolding field_at
two_bytes = refl

past_the_end : field_at sample 20 ≡ Short
unfolding field_at
past_the_end = refl
