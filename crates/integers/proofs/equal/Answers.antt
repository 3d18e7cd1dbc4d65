-- The lists are the same exactly if the words so far agree, which the flag says, and what is left of them is the same.
use Rattle.std.proofs.Common.{◌≡◌, length, List, [], ◌∷◌, Bool, true, false, ◌&&◌, ◌⊎◌, inl, inr, arith, refl, sym, ◌∙◌, SFits}
use Rattle.std.proofs.lemmas.Slice.Zip.{Zip-more, either_empty_from_Zip}
use Rattle.std.proofs.lemmas.Grind.{common_steps}
use lib.IntN.{ℤ}
use mir.Syntax.{w32}
use borrow.Author.Rules.{rules}
use Rattle.integers.specs.Words.{eq_z, equal}
use Rattle.integers.proofs.Signed.{bits_eq}
use Rattle.integers.proofs.equal.Goals as goal

and_group : (x y z : Bool) → x && (y && z) ≡ (x && y) && z
and_group true y z = refl
and_group false y z = refl

and_true : (x : Bool) → x && true ≡ x
and_true true = refl
and_true false = refl

none_left : (s t : List ℤ) → (s ≡ []) ⊎ (t ≡ []) → length s ≡ length t → equal s t ≡ true
unfolding equal
none_left [] [] h e = refl
none_left [] (y ∷ t) h e = absurd (omega arith)
none_left (x ∷ s) [] h e = absurd (omega arith)
none_left (x ∷ s) (y ∷ t) (inl h) e = cc
none_left (x ∷ s) (y ∷ t) (inr h) e = cc

pub loop-x-init : goal.loop-x-init
loop-x-init c = grind (arith, common_steps)

pub loop-x-preserved : goal.loop-x-preserved
unfolding equal
loop-x-preserved c =
    let x = c.in-Some.x.now in
    let y = c.in-Some.y.now in
    let m = Zip-more c.loop-x.x-iterator c.next.new.self c.next.result _ c.in-Some.is c.next.ensures.steps in
    let f : SFits w32 x = search rules in
    let g : SFits w32 y = search rules in
    let h = rw (m.0, m.1) at c.loop-x.invariant in
    (omega (arith, h.0), rw bits_eq (h.1 ∙ and_group c.loop-x.ok (eq_z x y) _))

pub returns : goal.returns
returns c =
    let m = either_empty_from_Zip c.loop-x.x-iterator c.next.new.self c.next.result c.in-None.is c.next.ensures.steps in
    let e = none_left _ _ m c.loop-x.invariant.0 in
    sym (rw (e, and_true) at c.loop-x.invariant.1)
