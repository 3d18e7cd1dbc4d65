-- What a call lends of the words it holds, once they begin with those of a model or a table.
use mathlib.Core.Path.{◌≡◌, sym, ap, ◌∙◌}
use mathlib.Core.List.{List}
use Prim.Native.Nat.{ℕ, ◌≤◌}
use native.Mathlib.Omega.{arith}
use lib.IntN.{ℤ}
use lib.ListN.{length, take}
use lib.Seq.{length-take-le}
use Rattle.integers.specs.Words.{onto}
use Rattle.integers.proofs.Buffers.{take-onto, length-onto}

-- the first words of x are those given, and they can be lent
pub record Front (x : List ℤ) (size : ℕ) (words : List ℤ) : Type 0 where
  pub are : take size x ≡ words
  pub there : size ≤ length x
  pub lent : size ≡ length (take size x)

pub front : {x words : List ℤ} {size : ℕ} (held : List ℤ) → x ≡ onto words held → length words ≡ size → size ≤ length held → Front x size words
front {x} {words} {size} held is l fits =
    let there : size ≤ length x = omega (arith, ap length is, length-onto words held (omega arith)) in
    record { are = ap (take size) is ∙ take-onto words held size l; there = there; lent = sym (length-take-le size x there) }
