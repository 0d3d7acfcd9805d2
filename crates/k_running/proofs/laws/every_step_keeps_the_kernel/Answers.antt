use Rattle.k_carrier.specs.Seen.{HandSeen}
use Rattle.k_running.proofs.Kernel.{has_moved, in_hand_sound, keeps, kernel_of, world_of}
use Rattle.k_running.proofs.laws.every_step_keeps_the_kernel.Goals as goal

pub returns : goal.returns
returns c = λ script w n limits room low h.
    let k = kernel_of script w h in
    let run = c.a_move_can_be_made.ensures script w h.board h.view h.state n limits k h.spelled low
    (c.a_carrier_can_ask.ensures script w h.board h.view h.state n limits k h.finished low)
    (λ (x : HandSeen) e. c.a_context_stays_sound.ensures.begun script x.value limits
    (in_hand_sound script limits w h n low x e)) in
    let other = c.every_other_move_keeps_the_kernel.ensures in
    let words = c.every_turn_keeps_the_words.ensures in
    let moves = has_moved script limits w h n low room run
    (λ i m b ts. words.turns script h.board b w.history h.state i m limits h.whole.holds h.spelled ts)
    (λ i b t. words.turn script h.board b w.history h.state i limits h.whole.holds h.spelled t)
    (λ i e. other.look script w h.board h.view h.state n i limits k low e)
    (λ i bits e. other.take script w h.board h.view h.state n i bits limits k low e)
    (λ x e. other.give script w h.board h.view h.state n x limits k low e)
    (λ i z e. other.switch script w h.board h.view h.state n i z limits k low e) in
    let within = c.a_step_is_within.ensures.carrier script w h.board h.view h.state n limits k h.spelled low in
    keeps script limits w h n low moves
    (c.what_is_sound_stays_sound.ensures script w h.board h.view h.state n limits k h.finished low within)
    (c.every_step_is_counted.ensures script w n limits room (world_of script w h) run h.marks)
