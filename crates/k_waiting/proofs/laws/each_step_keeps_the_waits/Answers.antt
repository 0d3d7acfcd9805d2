use Rattle.std.proofs.Common.{◌<◌, length, arith}
use Rattle.k_carrier.specs.Seen.{HandSeen}
use Rattle.k_waiting.proofs.Stepping.{hand_sound, stepping}
use Rattle.k_waiting.proofs.laws.each_step_keeps_the_waits.Goals as goal

pub returns : goal.returns
returns c = λ script w limits room h ws.
    let one = ws.carriers in
    let low : 0 < length w.carriers = omega (arith, one) in
    let can = (c.a_carrier_can_step.ensures.turn script w 0 limits room h low).asks in
    let run = c.a_move_can_be_made.ensures script w h.board h.view h.state 0 limits
    (record { aligned = h.aligned; helps = h.helps; whole = h.whole; serials = h.serials }) h.spelled low can
    (λ (x : HandSeen) e. c.a_context_stays_sound.ensures.begun script x.value limits (hand_sound script w can.sound x e)) in
    let within = c.a_step_is_within.ensures.carrier script w h.board h.view h.state 0 limits
    (record { aligned = h.aligned; helps = h.helps; whole = h.whole; serials = h.serials }) h.spelled low in
    c.a_step_keeps_the_waits.ensures script w
    (stepping script w limits room h (c.every_step_keeps_the_kernel.ensures script w 0 limits room low h) one run within) ws
