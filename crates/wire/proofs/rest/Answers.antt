-- The tail, or nothing where the position is past the end.
use mathlib.Core.Path.{◌≡◌, refl, sym, ap, ◌∙◌}
use mathlib.Core.List.{List, []}
use mathlib.Core.Logic.{⊎_elim}
use Prim.Native.Nat.{ℕ}
use native.Mathlib.Omega.{arith}
use denote.Bor.{Bor}
use lib.ListN.{length, drop, length-drop}
use Rattle.std.specs.Option.{unwrap_or}
use Rattle.std.proofs.Common.{Option, None, Some}
use Rattle.std.proofs.lemmas.List.{take_all, drop_all}
use Rattle.std.specs.Slice.{IsGetRangeResult}
use Rattle.wire.proofs.rest.Goals as goal

rest_is : (s : List ℕ) (at : ℕ) (o : Option (Bor (List ℕ))) (d : Bor (List ℕ)) → d.now ≡ [] → IsGetRangeResult s at (length s) o → (unwrap_or o d).now ≡ drop at s
rest_is s at None d e h = e ∙ sym (drop_all at s (⊎_elim (λ a. omega (arith, a)) (λ a. omega (arith, a)) h.0))
rest_is s at (Some t) d e h = h.0.2 ∙ take_all _ (drop at s) (omega (arith, length-drop at s))

pub returns : goal.returns
returns c = ap (λ (b : Bor (List ℕ)). b.now) c.unwrap_or.ensures ∙ rest_is _ _ c.get.result _ refl c.get.ensures.lookup
