-- What holds of each of one, two or three numbers holds of all below.
use Prim.Native.Nat.{ℕ, zero, suc, ◌<◌}
use native.Mathlib.Omega.{arith}

pub one : (P : ℕ → Type 0) → P 0 → (i : ℕ) → i < 1 → P i
one P p zero u = p
one P p (suc i) u = absurd (omega arith)

pub both : (P : ℕ → Type 0) → P 0 → P 1 → (i : ℕ) → i < 2 → P i
both P p q zero u = p
both P p q (suc zero) u = q
both P p q (suc (suc i)) u = absurd (omega arith)

pub three : (P : ℕ → Type 0) → P 0 → P 1 → P 2 → (i : ℕ) → i < 3 → P i
three P p q r zero u = p
three P p q r (suc zero) u = q
three P p q r (suc (suc zero)) u = r
three P p q r (suc (suc (suc i))) u = absurd (omega arith)
