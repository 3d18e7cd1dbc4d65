-- A bound that goes at least as far as the invariant's end is cut to that end, as the products by the denominator show; any other is
-- not cut.
use mathlib.Core.Path.{◌≡◌}
use mathlib.Core.Bool.{true, false, not}
use Prim.Native.Nat.{ℕ, ◌*◌, ◌≤◌, ◌<◌}
use native.Mathlib.Nat.{mul-le-mul}
use native.Mathlib.Omega.{arith}
use lib.Dec.{T}
use lib.IntN.{ℤ, pos, nat_abs, ◌+ℤ◌, ◌-ℤ◌, ◌*ℤ◌}
use lib.Signed.{◌≤ℤ◌, le_z, lt_z}
use Rattle.integers.specs.Rounding.{floor_z, ceil_z, max_z, min_z}
use Rattle.integers.proofs.Parts.{arith_z, #◌, ◌⊕◌, ◌⊟◌, ◌⊙◌, ◌⊠ℕ◌}
use Rattle.integers.proofs.Order.{cancelℕ}
use Rattle.integers.proofs.Rounding.{floor_le, floor_max, ceil_ge, ceil_min}
use Rattle.integers.proofs.Extremes.{max_left, max_right, max_least, min_left, min_right, min_greatest}
use Rattle.integers.proofs.Tests.{false_is}
use Rattle.integers.proofs.Signed.{abs_minus, abs_mul, back64, fits64, as_signed, scaled}
use mir.Syntax.{w64}
use mir.Val.{SFits, to_z, of_z}
use Rattle.plant.specs.declared.Fraction.{Fraction}
use Rattle.plant.specs.Steps.{low_at, high_at}
use Rattle.delays.specs.Ranges.{Level, Rate}

-- the way between two levels, times a denominator
room_small : (v p : ℤ) (d : ℕ) → Level v → Level p → d ≤ 1000 → nat_abs ((v -ℤ p) *ℤ pos d) ≤ 2000000000
room_small v p d h k l =
    let w : nat_abs (v -ℤ p) ≤ 2000000 = omega (arith, abs_minus v p) in
    let m : nat_abs (v -ℤ p) * d ≤ 2000000 * 1000 = mul-le-mul w l in
    omega (arith, abs_mul (v -ℤ p) (pos d))

-- the way, as the code's words give it
pub way_is : (a : ℤ) (n : ℕ) → Rate a → n ≤ 2000000 → to_z w64 (of_z w64 (to_z w64 (of_z w64 a) *ℤ to_z w64 n)) ≡ a *ℤ pos n
way_is a n h k = simp (back64 a (omega arith), as_signed n (omega arith), back64 (a *ℤ pos n) (omega (arith, scaled a n h k)))

-- the room as the code's words give it
abbrev room : (v p : ℤ) (d : ℕ) → ℤ
room v p d = to_z w64 (of_z w64 (to_z w64 (of_z w64 v) -ℤ to_z w64 (of_z w64 p))) *ℤ to_z w64 d

room_parts : (v p : ℤ) (d : ℕ) → Level v → Level p → d ≤ 1000 → room v p d ≡ (v -ℤ p) *ℤ pos d
room_parts v p d h k l = simp (back64 v (omega arith), back64 p (omega arith), as_signed d (omega arith), back64 (v -ℤ p) (omega (arith, abs_minus v p)))

pub room_fits : (v p : ℤ) (d : ℕ) → Level v → Level p → d ≤ 1000 → SFits w64 (room v p d)
room_fits v p d h k l = rw (room_parts v p d h k l) (fits64 (omega (arith, room_small v p d h k l)))

pub room_is : (v p : ℤ) (d : ℕ) → Level v → Level p → d ≤ 1000 → to_z w64 (of_z w64 (room v p d)) ≡ (v -ℤ p) *ℤ pos d
room_is v p d h k l = rw (room_parts v p d h k l) (back64 ((v -ℤ p) *ℤ pos d) (omega (arith, room_small v p d h k l)))

-- p + a × t is not above v
pub low_past : (p a v : ℤ) (f : Fraction) → 0 < f.den → le_z (a *ℤ pos f.num) ((v -ℤ p) *ℤ pos f.den) ≡ true → max_z (low_at p a f) v ≡ v
unfolding low_at
low_past p a v f k h =
    let d = f.den in
    let z = p *ℤ pos d +ℤ a *ℤ pos f.num in
    let e : floor_z z d ≤ℤ v = cancelℕ d k (omega (arith_z, floor_le z d k, # p ⊙ d ⊕ # (a *ℤ pos f.num), (# v ⊟ # p) ⊙ d, # v ⊙ d)) in
    omega (arith_z, max_right (floor_z z d) v, max_least {a = floor_z z d} {b = v} {c = v} e (omega arith_z))

-- p + a × t is above v, so its whole number below is not below v
over_low : (p a v : ℤ) (f : Fraction) → 0 < f.den → (v *ℤ pos f.den) ≤ℤ (p *ℤ pos f.den +ℤ a *ℤ pos f.num) → max_z (low_at p a f) v ≡ low_at p a f
unfolding low_at
over_low p a v f k h =
    let z = p *ℤ pos f.den +ℤ a *ℤ pos f.num in
    let e : v ≤ℤ floor_z z f.den = floor_max f.den k h in
    omega (arith_z, max_left (floor_z z f.den) v, max_least {a = floor_z z f.den} {b = v} {c = floor_z z f.den} (omega arith_z) e)

pub low_before : (p a v : ℤ) (f : Fraction) → 0 < f.den → le_z (a *ℤ pos f.num) ((v -ℤ p) *ℤ pos f.den) ≡ false → max_z (low_at p a f) v ≡ low_at p a f
low_before p a v f k h =
    let d = f.den in
    let t : T (not (le_z (a *ℤ pos f.num) ((v -ℤ p) *ℤ pos d))) = false_is h in
    over_low p a v f k (omega (arith_z, # p ⊙ d ⊕ # (a *ℤ pos f.num), (# v ⊟ # p) ⊙ d, # v ⊙ d))

-- it does not fall, and p is not below v
pub low_kept : (p a v : ℤ) (f : Fraction) → 0 < f.den → v ≤ℤ p → lt_z a (pos 0) ≡ false → max_z (low_at p a f) v ≡ low_at p a f
low_kept p a v f k h u =
    let d = f.den in
    let t : T (not (lt_z a (pos 0))) = false_is u in
    let g : pos 0 ≤ℤ a = omega arith_z in
    over_low p a v f k (omega (arith_z, # p ⊙ d ⊕ # a ⊙ f.num, # v ⊙ d, h ⊠ℕ d, g ⊠ℕ f.num))

-- q + c × t is not below v
pub high_past : (q c v : ℤ) (f : Fraction) → 0 < f.den → le_z ((v -ℤ q) *ℤ pos f.den) (c *ℤ pos f.num) ≡ true → min_z (high_at q c f) v ≡ v
unfolding high_at
high_past q c v f k h =
    let d = f.den in
    let z = q *ℤ pos d +ℤ c *ℤ pos f.num in
    let e : v ≤ℤ ceil_z z d = cancelℕ d k (omega (arith_z, ceil_ge z d k, # q ⊙ d ⊕ # (c *ℤ pos f.num), (# v ⊟ # q) ⊙ d, # v ⊙ d)) in
    omega (arith_z, min_right (ceil_z z d) v, min_greatest {a = ceil_z z d} {b = v} {c = v} e (omega arith_z))

-- q + c × t is below v, so its whole number above is not above v
under_high : (q c v : ℤ) (f : Fraction) → 0 < f.den → (q *ℤ pos f.den +ℤ c *ℤ pos f.num) ≤ℤ (v *ℤ pos f.den) → min_z (high_at q c f) v ≡ high_at q c f
unfolding high_at
under_high q c v f k h =
    let z = q *ℤ pos f.den +ℤ c *ℤ pos f.num in
    let e : ceil_z z f.den ≤ℤ v = ceil_min f.den k h in
    omega (arith_z, min_left (ceil_z z f.den) v, min_greatest {a = ceil_z z f.den} {b = v} {c = ceil_z z f.den} (omega arith_z) e)

pub high_before : (q c v : ℤ) (f : Fraction) → 0 < f.den → le_z ((v -ℤ q) *ℤ pos f.den) (c *ℤ pos f.num) ≡ false → min_z (high_at q c f) v ≡ high_at q c f
high_before q c v f k h =
    let d = f.den in
    let t : T (not (le_z ((v -ℤ q) *ℤ pos d) (c *ℤ pos f.num))) = false_is h in
    under_high q c v f k (omega (arith_z, # q ⊙ d ⊕ # (c *ℤ pos f.num), (# v ⊟ # q) ⊙ d, # v ⊙ d))

-- it does not rise, and q is not above v
pub high_kept : (q c v : ℤ) (f : Fraction) → 0 < f.den → q ≤ℤ v → lt_z (pos 0) c ≡ false → min_z (high_at q c f) v ≡ high_at q c f
high_kept q c v f k h u =
    let d = f.den in
    let t : T (not (lt_z (pos 0) c)) = false_is u in
    let g : c ≤ℤ pos 0 = omega arith_z in
    under_high q c v f k (omega (arith_z, # q ⊙ d ⊕ # c ⊙ f.num, # v ⊙ d, h ⊠ℕ d, g ⊠ℕ f.num))
