-- Each turn counts the field of one location more.
use mathlib.Core.Path.{sym, ap}
use native.Mathlib.Omega.{arith}
use lib.ListN.{length, length-append}
use Rattle.integers.specs.Counted.{cat}
use Rattle.integers.proofs.Buffers.{cat_none, cat_more}
use Rattle.files.proofs.ModelLength.{cut_field_of, cuts_most}
use Rattle.model_files.proofs.ModelWriting.{cuts_all, cuts_within}
use Rattle.model_files.proofs.writing.cuts_length.Goals as goal

pub loop-l-init : goal.loop-l-init
loop-l-init c = sym (ap length (cat_none _))

pub overflow_add-bytes : goal.overflow_add-bytes
overflow_add-bytes c =
    let m = c.args.model.now in
    let l = c.loop-l in
    record { fits = omega (arith, l.invariant, c.cut_length-bytes.ensures, cuts_within m l.l (omega arith), cuts_most m c.requires) }

pub loop-l-preserved : goal.loop-l-preserved
loop-l-preserved c =
    let m = c.args.model.now in
    let l = c.loop-l in
    rw (cat_more l.l (cut_field_of m)) (omega (arith, l.invariant, c.cut_length-bytes.ensures, length-append (cat l.l (cut_field_of m)) (cut_field_of m l.l)))

pub returns : goal.returns
returns c = cuts_all _ (omega arith) c.loop-l.invariant
