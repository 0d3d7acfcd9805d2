use Rattle.std.proofs.Common.{rules, ◌<◌, length, arith, ◌≡◌, ◌≤◌, sym, ap, not, ◌∙◌, false, true, refl}
use Rattle.std.specs.Result.{is_ok}
use Rattle.std.proofs.lemmas.List.{length-take}
use Rattle.k_input.specs.Counting.{is_large}
use Rattle.k_input.specs.Division.{script_part}
use Rattle.k_input.proofs.Takes.{part_taken, part_more, taken_none}
use Rattle.k_input.proofs.Surely.{came_to_end, ends_large, stops_large, room_len, Came_more, came_more}
use Rattle.k_input.proofs.read.read_divided.Goals as goal

pub returns-in-Err-clause-part : goal.returns-in-Err-clause-part
returns-in-Err-clause-part g c = part_taken 135266305 _ _ c.loop-buffer.bytes.items (omega (arith, c.loop-buffer.invariant.1.len, c.loop-buffer.invariant.3)) (taken_none _ _ _ c.loop-buffer.bytes.items c.loop-buffer.invariant.0 c.in-Err.ensures.bytes)

pub returns-in-Ok-eq0-clause-part : goal.returns-in-Ok-eq0-clause-part
returns-in-Ok-eq0-clause-part g c = part_more 135266305 _ _ _ c.loop-buffer.bytes.items _ c.in-Ok-eq0.field-0 (omega (arith, c.in-Ok-eq0.field-0-test, c.loop-buffer.invariant.1.len, c.loop-buffer.invariant.3)) c.loop-buffer.invariant.0 c.in-Ok-eq0.ensures.bytes

pub returns-in-Ok-eq0-clause-too_large : goal.returns-in-Ok-eq0-clause-too_large
returns-in-Ok-eq0-clause-too_large g c = λ same.
    let whole = came_to_end _ _ _ c.loop-buffer.bytes.items c.take.new.into c.in-Ok-eq0.field-0 (omega (arith, c.in-Ok-eq0.field-0-test)) c.loop-buffer.invariant.0 c.in-Ok-eq0.ensures.bytes in
    let long : 1048576 < length (script_part c.loop-buffer.bytes.items) = search (rules, c.within.ensures, same) in
    ends_large _ _ c.loop-buffer.bytes.items c.loop-buffer.divider whole c.loop-buffer.invariant.1 (sym c.is_large.ensures ∙ c.loop-buffer-test.true) long

pub returns-then-is_err-clause-part : goal.returns-then-is_err-clause-part
returns-then-is_err-clause-part g c =
    let small : is_large c.loop-buffer.divider ≡ false = sym c.is_large.ensures ∙ c.loop-buffer-test.true in
    let count : c.in-Ok.count ≤ c.room.result = omega (arith, c.in-Ok.ensures.bound, length-take c.min-room.result c.loop-buffer.buffer) in
    part_more 135266305 _ _ _ c.loop-buffer.bytes.items _ c.in-Ok.count (omega (arith, room_len _ c.room.result c.in-Ok.count small c.room.ensures.within count, c.loop-buffer.invariant.1.len)) c.loop-buffer.invariant.0 c.in-Ok.ensures.bytes

kept : (g : _) (c : goal.Else-is_err g) → is_ok c.extend_from_slice.result ≡ true
kept g c = c.is_err.ensures.negation ∙ ap not c.if-is_err.false

more : (g : _) (c : goal.Else-is_err g) → Came_more (g.S.Source.left c.args.source.now) (g.S.Source.left c.take.new.self) c.extend_from_slice.new.self.items c.loop-buffer.divider c.feed_all-divider.result
more g c =
    let small : is_large c.loop-buffer.divider ≡ false = sym c.is_large.ensures ∙ c.loop-buffer-test.true in
    let count : c.in-Ok.count ≤ c.room.result = omega (arith, c.in-Ok.ensures.bound, length-take c.min-room.result c.loop-buffer.buffer) in
    came_more _ _ _ c.loop-buffer.bytes.items c.take.new.into _ _ c.loop-buffer.divider _ c.in-Ok.count c.room.result (omega (arith, c.in-Ok.ensures.bound, c.take.auto.into)) (c.extend_from_slice.ensures.items ∙ rw (kept g c) refl) c.feed_all-divider.ensures c.loop-buffer.invariant.0 c.loop-buffer.invariant.1 small c.room.ensures.within (omega (arith, c.in-Ok.count-test)) count c.in-Ok.ensures.bytes

pub loop-buffer-smaller : goal.loop-buffer-smaller
loop-buffer-smaller g c = omega (arith, (more g c).more, (more g c).within)

pub loop-buffer-preserved : goal.loop-buffer-preserved
loop-buffer-preserved g c = ((more g c).taken, (more g c).divides, (more g c).just, (more g c).within, c.in-Ok.ensures.cause.calm ∙ c.loop-buffer.invariant.4)

pub returns-clause-too_large : goal.returns-clause-too_large
returns-clause-too_large g c = λ _. stops_large _ _ c.loop-buffer.bytes.items c.loop-buffer.divider c.loop-buffer.invariant.0 c.loop-buffer.invariant.1 (sym c.is_large.ensures ∙ c.loop-buffer-test.false) c.loop-buffer.invariant.2
