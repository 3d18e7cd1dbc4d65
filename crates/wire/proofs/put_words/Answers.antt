-- Each turn writes the bytes of one word more.
use mathlib.Core.Path.{◌≡◌, ◌∙◌}
use Prim.Native.Nat.{◌+◌, ◌-◌}
use native.Mathlib.Omega.{arith}
use lib.IntN.{pos}
use lib.ListN.{get_or, take, drop}
use lib.Seq.{get_or-drop}
use mir.Facts.{to_z-of_z}
use mir.Syntax.{w32}
use mir.Val.{SFits}
use borrow.Author.Rules.{rules}
use Rattle.std.proofs.lemmas.List.{get_or-take}
use Rattle.integers.proofs.Buffers.{onto_start}
use Rattle.files.specs.Bytes.{words_bytes}
use Rattle.files.proofs.Words.{put_turn, length_part}
use Rattle.wire.proofs.put_words.Goals as goal

pub loop-i-init : goal.loop-i-init
unfolding words_bytes
loop-i-init c = onto_start c.args.to c.args.out.now (omega arith)

pub loop-i-preserved : goal.loop-i-preserved
loop-i-preserved c =
    let a = c.args in
    let i = c.loop-i.i in
    let n = length_part a.words.now a.from (a.from + a.count - a.from) (omega arith) in
    let e : get_or (take (a.from + a.count - a.from) (drop a.from a.words.now)) i (pos 0) ≡ get_or a.words.now (a.from + i) (pos 0) = get_or-take _ (drop a.from a.words.now) i (pos 0) (omega arith) ∙ get_or-drop a.from a.words.now i (pos 0) in
    let w : SFits w32 (get_or a.words.now (a.from + i) (pos 0)) = search rules in
    rw (e, to_z-of_z {w = w32} w) at c.put_word.ensures
    ∙ put_turn a.words.now a.from i a.out.now c.loop-i.out a.to c.loop-i.invariant (omega arith) (omega arith)

pub returns : goal.returns
returns c =
    let a = c.args in
    let n : c.loop-i.i ≡ a.count = omega (arith, length_part a.words.now a.from (a.from + a.count - a.from) (omega arith)) in
    rw (← n) c.loop-i.invariant
