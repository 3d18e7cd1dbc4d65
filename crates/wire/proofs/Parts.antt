-- A part of a list written in one, and the bytes that std gives for a length and a word.
use mathlib.Core.Path.{◌≡◌, refl, sym, ap, ◌∙◌}
use mathlib.Core.List.{List, [], ◌∷◌, ◌++◌, append_assoc}
use Prim.Native.Nat.{ℕ, ◌+◌, ◌/◌, ◌%◌, ◌≤◌, ◌<◌}
use native.Mathlib.Omega.{arith}
use lib.ListN.{length, get_or, take, drop, length-append}
use lib.Seq.{drop-drop, length-take-le}
use mir.Syntax.{w32}
use mir.Val.{SFits, of_z}
use mir.Facts.{Fits-of_z}
use lib.IntN.{ℤ}
use Rattle.std.specs.Int.{to_be_bytes}
use borrow.Rule.Slice.PartMut.{put_mid}
use Rattle.integers.specs.Words.{onto}
use Rattle.files.specs.Bytes.{word_bytes}
use Rattle.files.specs.Fields.{header}

pub part_put : {A : Type 0} (d ys zs : List A) (at k : ℕ) → ys ≡ zs → length zs ≡ k → at + k ≤ length d → put_mid at k d ys ≡ onto (take at d ++ zs) d
unfolding onto
part_put d ys zs at k e n h =
    let seam : length (take at d ++ zs) ≡ at + k = omega (arith, length-append (take at d) zs, length-take-le at d (omega arith)) in
    rw (e, seam) (ap (λ s. take at d ++ (zs ++ s)) (drop-drop k at d) ∙ sym (append_assoc (take at d) zs (drop (at + k) d)))

-- the bytes of a length behind a tag
pub length_bytes : (len tag : ℕ) (ys : List ℕ) → len < 65536 → ys ≡ (len / 256 % 256) ∷ (len % 256) ∷ [] → tag ∷ get_or ys 0 0 ∷ get_or ys 1 0 ∷ [] ≡ header tag len
length_bytes len tag ys h e = let d : len / 256 % 256 ≡ len / 256 = omega arith in rw (e, d) refl

-- the bytes of 32 bits
pub word_bytes_are : (z : ℤ) → SFits w32 z → to_be_bytes w32 (of_z w32 z) ≡ word_bytes z
unfolding word_bytes
word_bytes_are z f = let d : of_z w32 z / 16777216 % 256 ≡ of_z w32 z / 16777216 = omega (arith, (Fits-of_z f).fits) in rw d refl
