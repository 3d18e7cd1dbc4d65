-- Each way out is a case of the definition.
use mathlib.Core.Path.{◌∙◌}
use Rattle.wire.proofs.Tail.{tail_short, tail_cut, tail_whole}
use Rattle.wire.proofs.field_at.Goals as goal

pub returns-in_default : goal.returns-in_default
returns-in_default c = tail_short _ _ _ c.rest.ensures c.in_default.len_below

pub returns-then-payload-len : goal.returns-then-payload-len
returns-then-payload-len c =
    tail_cut _ _ _ c.rest.ensures _ c.in-len3-up.len_at_least (c.from-len.ensures ∙ c.from_be_bytes.ensures) c.if-payload-len.true

pub returns : goal.returns
returns c =
    tail_whole _ _ _ c.rest.ensures _ c.in-len3-up.len_at_least (c.from-len.ensures ∙ c.from_be_bytes.ensures) c.if-payload-len.false
