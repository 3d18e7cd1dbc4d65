-- The field at a position, told by the bytes from there on.
use mathlib.Core.Path.{◌≡◌, ap, ◌∙◌}
use mathlib.Core.List.{List}
use Prim.Native.Nat.{ℕ, ◌+◌, ◌-◌, ◌*◌, ◌≤◌, ◌<◌}
use native.Mathlib.Nat.{add-zero}
use native.Mathlib.Omega.{arith}
use lib.ListN.{length, get_or, take, drop, length-drop}
use lib.Seq.{get_or-drop, length-take-le}
use Rattle.files.specs.Fields.{length_at, field_at}
use Rattle.files.specs.declared.Field.TheVariants.{Whole, Cut, Short}
use Rattle.files.proofs.Fields.{field_short, field_cut, field_whole}

module _ (s t : List ℕ) (at : ℕ) (e : t ≡ drop at s) where
  long : length t ≡ length s - at
  long = ap length e ∙ length-drop at s

  byte : (i : ℕ) → get_or t i 0 ≡ get_or s (at + i) 0
  byte i = rw e (get_or-drop at s i 0)

  first : get_or t 0 0 ≡ get_or s at 0
  first = byte 0 ∙ ap (λ (i : ℕ). get_or s i 0) (add-zero at)

  payload : length (take (length t - 3) (drop 3 t)) ≡ length t - 3
  payload = length-take-le (length t - 3) (drop 3 t) (omega (arith, length-drop 3 t))

  pub tail_short : length t < 3 → Short ≡ field_at s at
  tail_short h = field_short s at (omega (arith, long))

  module _ (len : ℕ) (three : 3 ≤ length t) (el : len ≡ get_or t 1 0 * 256 + get_or t 2 0) where
    length_is : len ≡ length_at s at
    length_is = omega (arith, el, byte 1, byte 2)

    pub tail_cut : length (take (length t - 3) (drop 3 t)) < len → Cut (get_or t 0 0) ≡ field_at s at
    tail_cut h = rw first (field_cut s at (omega (arith, long)) (omega (arith, long, payload, length_is)))

    pub tail_whole : len ≤ length (take (length t - 3) (drop 3 t)) → Whole (get_or t 0 0) (at + 3) len (at + 3 + len) ≡ field_at s at
    tail_whole h = rw (first, length_is) (field_whole s at (omega (arith, long, payload, length_is)))
