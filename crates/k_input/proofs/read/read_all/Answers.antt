use Rattle.std.proofs.Common.{arith}
use Rattle.std.proofs.lemmas.List.{length-take}
use Rattle.k_input.proofs.Takes.{part_more, too_much}
use Rattle.k_input.proofs.read.read_all.Goals as goal

pub returns-in-Ok-eq0-clause-part : goal.returns-in-Ok-eq0-clause-part
returns-in-Ok-eq0-clause-part g c = part_more 1048577 _ _ _ c.loop-buffer.bytes.items _ c.in-Ok-eq0.field-0 (omega (arith, c.loop-buffer.bytes.ok, c.in-Ok-eq0.field-0-is)) c.loop-buffer.invariant.0 c.in-Ok-eq0.ensures.bytes

pub returns-then-is_err-clause-part : goal.returns-then-is_err-clause-part
returns-then-is_err-clause-part g c = part_more 1048577 _ _ _ c.loop-buffer.bytes.items _ c.in-Ok.count (omega (arith, c.loop-buffer.bytes.ok, c.in-Ok.ensures.bound, length-take c.min-room.result c.loop-buffer.buffer)) c.loop-buffer.invariant.0 c.in-Ok.ensures.bytes

pub returns-clause-too_large : goal.returns-clause-too_large
returns-clause-too_large g c = λ _. too_much _ _ c.loop-buffer.bytes.items (omega (arith, c.loop-buffer.bytes.ok)) c.loop-buffer.invariant.0
