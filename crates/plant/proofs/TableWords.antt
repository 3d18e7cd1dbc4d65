-- The tables of the passes are lists of signed 32-bit words: each word is a flag, 0, or a level of the invariant.
use mathlib.Core.Path.{sym, subst}
use mathlib.Core.List.{List, [], ◌∷◌}
use Prim.Native.Nat.{ℕ, ◌+◌, ◌*◌, ◌<◌, ◌≤◌}
use native.Mathlib.Omega.{arith}
use lib.IntN.{ℤ, pos, nat_abs}
use mir.Syntax.{w32}
use mir.Val.{SFits}
use Rattle.integers.specs.Words.{AreWords}
use Rattle.integers.specs.Counted.{cat}
use Rattle.integers.proofs.Order.{trans}
use Rattle.integers.proofs.Signed.{fits32, between}
use Rattle.integers.proofs.Every.{every_none, every_more, every_replicate, every_cat}
use Rattle.plant.specs.Box.{low, high, box_by, Inside, Ordered, Face, absent, present, face_words}
use Rattle.plant.specs.Model.{n#, L#, invariant}
use Rattle.plant.specs.Pieces.{pieces}
use Rattle.plant.specs.Tables.{table_by, table_after}
use Rattle.plant.proofs.Passed.{InRange, Passed}
use Rattle.plant.proofs.Tables.{OkFace}
use Rattle.plant.proofs.Keeps.{pieces_after, after_made, pieces_ok}

abbrev Fits : ℤ → Type 0
Fits z = SFits w32 z

-- a level is one, or any number as small
pub small : (z : ℤ) → nat_abs z ≤ 1000000 → SFits w32 z
small z h = fits32 {z = z} (omega arith)

none : Fits (pos 0)
none = small (pos 0) (omega arith)

-- an ordered box inside one of levels
box_words : (n : ℕ) (inv b : List ℤ) → InRange (2 * n) 1000000 inv → Inside n b inv → Ordered n b → AreWords (box_by n (low b) (high b))
unfolding box_by low high
box_words n inv b r p o =
    every_cat Fits (pos 0) none n (λ i. low b i ∷ high b i ∷ [])
    (λ i l. every_more Fits (pos 0) (low b i) (high b i ∷ [])
    (small (low b i) (between (low b i) (p.lower i l) (trans (o i l) (p.higher i l)) (r (2 * i) (omega arith)) (r (2 * i + 1) (omega arith))))
    (every_more Fits (pos 0) (high b i) []
    (small (high b i) (between (high b i) (trans (p.lower i l) (o i l)) (p.higher i l) (r (2 * i) (omega arith)) (r (2 * i + 1) (omega arith))))
    (every_none Fits (pos 0) none)))

piece_words_lem : (m : List ℤ) → Passed m → (l q : ℕ) → l < L# m → (g : Face) → OkFace m l q g → AreWords (face_words (n# m) g)
unfolding face_words
piece_words_lem m ok l q u absent h = every_replicate Fits (pos 0) none (1 + 2 * n# m) (pos 0) none
piece_words_lem m ok l q u (present b) h =
    every_more Fits (pos 0) (pos 1) (box_by (n# m) (low b) (high b)) (small (pos 1) (omega arith))
    (box_words (n# m) (invariant m l) b (ok.of_location l u).invariant_levels h.wall.inside h.wall.ordered)

pub after_words : (m : List ℤ) → Passed m → (k : ℕ) → AreWords (table_after m k)
unfolding table_by
after_words m ok k =
    subst AreWords (sym (after_made m k))
    (every_cat Fits (pos 0) none (L# m) (λ l. cat (pieces m l) (λ q. face_words (n# m) (pieces_after m k l q)))
    (λ l u. every_cat Fits (pos 0) none (pieces m l) (λ q. face_words (n# m) (pieces_after m k l q))
    (λ q v. piece_words_lem m ok l q u (pieces_after m k l q) (pieces_ok m ok k l q u v))))
