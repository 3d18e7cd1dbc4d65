-- The three bytes at the position.
use mathlib.Core.Path.{◌∙◌}
use native.Mathlib.Omega.{arith}
use Rattle.wire.proofs.Parts.{part_put, length_bytes}
use Rattle.wire.proofs.put_header.Goals as goal

pub returns : goal.returns
returns c =
    let a = c.args in
    part_put a.out.now _ _ a.to _ (c.copy_from_slice.ensures.after ∙ length_bytes a.len a.tag _ (omega arith) c.to_be_bytes.ensures) (omega arith) (omega arith)
