use Rattle.k_carrier.specs.Seen.{HandSeen}
use Rattle.k_told.proofs.Runnable.{kernel_of, sound_hand}
use Rattle.k_told.proofs.laws.a_step_can_be_made.Goals as goal

pub returns : goal.returns
returns c = λ script w n limits h low.
    let k = kernel_of script w h in
    c.a_move_can_be_made.ensures script w h.board h.view h.state n limits k h.spelled low
    (c.a_carrier_can_ask.ensures script w h.board h.view h.state n limits k h.finished low)
    (λ (x : HandSeen) e. c.a_context_stays_sound.ensures.begun script x.value limits (sound_hand script w h n x e))
