use Rattle.k_carrier.specs.Seen.{HandSeen}
use Rattle.k_running.proofs.Kernel.{in_hand_sound}
use Rattle.k_ending.proofs.Lone.{stays_fresh}
use Rattle.k_ending.proofs.Settled.{kernel_of}
use Rattle.k_ending.proofs.laws.a_lone_step_leaves_it_fresh.Goals as goal

pub returns : goal.returns
returns c = λ script w n limits room h low others fresh.
    let k = kernel_of script w h in
    let other = c.every_other_move_keeps_the_kernel.ensures in
    let run = c.a_move_can_be_made.ensures script w h.board h.view h.state n limits k h.spelled low
    (c.a_carrier_can_ask.ensures script w h.board h.view h.state n limits k h.finished low)
    (λ (x : HandSeen) e. c.a_context_stays_sound.ensures.begun script x.value limits (in_hand_sound script limits w h n low x e)) in
    stays_fresh script w h n low others fresh
    (λ i e. other.look script w h.board h.view h.state n i limits k low e)
    (λ i bits e. other.take script w h.board h.view h.state n i bits limits k low e)
    (λ x e. other.give script w h.board h.view h.state n x limits k low e)
    (λ i z e. other.switch script w h.board h.view h.state n i z limits k low e)
    (λ i t e. c.a_threads_step_keeps_the_kernel.ensures script w h.board h.view h.state n i t limits room k run e)
