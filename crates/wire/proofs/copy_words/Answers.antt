-- Each turn copies one word more.
use mathlib.Core.Path.{◌≡◌, sym, ap, ◌∙◌}
use mathlib.Core.List.{[], ◌∷◌, ◌++◌}
use Prim.Native.Nat.{◌+◌, ◌-◌, ◌*◌}
use native.Mathlib.Omega.{arith}
use Rattle.std.proofs.lemmas.List.{take_all, take_more_set}
use Rattle.integers.proofs.Signed.{got32}
use Rattle.files.specs.Bytes.{word_at, words_at}
use Rattle.files.proofs.Words.{words_none, words_more, length_words, length_part}
use Rattle.wire.proofs.Parts.{part_put}
use Rattle.wire.proofs.copy_words.Goals as goal

pub loop-i-init : goal.loop-i-init
loop-i-init c = sym (words_none _ _)

pub loop-i-preserved : goal.loop-i-preserved
loop-i-preserved c =
    let l = c.loop-i in
    let f = c.args.file.now in
    rw (got32 _ c.word_at.type_inv, c.word_at.ensures)
    (take_more_set l.word-items l.i _ (omega arith) ∙ ap (λ s. s ++ (word_at f (c.args.from + 4 * l.i) ∷ [])) l.invariant ∙ sym (words_more f c.args.from l.i))

pub returns : goal.returns
returns c =
    let a = c.args in
    let l = c.loop-i in
    let n : l.i ≡ a.count = omega (arith, length_part a.words.now a.to (a.to + a.count - a.to) (omega arith)) in
    part_put a.words.now _ _ a.to _ (sym (take_all l.i l.word-items (omega arith)) ∙ l.invariant ∙ ap (words_at a.file.now a.from) n) (omega (arith, length_words a.file.now a.from a.count)) (omega arith)
