use Rattle.k_carrier.specs.Seen.{HandSeen}
use Rattle.k_owed.specs.Works.{work_ahead}
use Rattle.k_plays.specs.Scripts.{ranged_programs}
use Rattle.k_running.proofs.Kernel.{in_hand_sound, kernel_of}
use Rattle.k_falling.proofs.Moves.{step_falls}
use Rattle.k_falling.proofs.laws.each_step_lowers_the_work.Goals as goal

pub returns : goal.returns
returns c = λ script w n limits room h low others unsettled.
    let k = kernel_of script w h in
    let run = c.a_move_can_be_made.ensures script w h.board h.view h.state n limits k h.spelled low
    (c.a_carrier_can_ask.ensures script w h.board h.view h.state n limits k h.finished low)
    (λ (x : HandSeen) e. c.a_context_stays_sound.ensures.begun script x.value limits (in_hand_sound script limits w h n low x e)) in
    let other = c.every_other_move_keeps_the_kernel.ensures in
    let after = c.every_step_keeps_the_kernel.ensures script w n limits room low h in
    let held = c.who_waits_is_held_up.ensures in
    let few = c.what_the_kernel_has_logged.ensures.history script _ limits after in
    step_falls script limits
    (λ b b' v es q d step. c.each_step_of_a_lone_carrier_lowers_its_work.ensures script work_ahead b b' v es q d step
    (c.programs_count_their_work.ensures script))
    (record {
      waits = λ m b v d i size t goal. held.waits script (ranged_programs script) m b v d i size t goal _;
      made = λ m b i size t goal. held.made script m b i size t goal _ _;
    })
    (λ x b v q d. c.the_work_is_that_of_the_board.ensures script x b v q d limits)
    w h n low others after unsettled few.2
    (λ i t e. c.a_threads_step_keeps_the_kernel.ensures script w h.board h.view h.state n i t limits room k run e)
    (λ (x : HandSeen) e. c.a_context_stays_sound.ensures.begun script x.value limits (in_hand_sound script limits w h n low x e))
    (λ i e. other.look script w h.board h.view h.state n i limits k low e)
    (λ i bits e. other.take script w h.board h.view h.state n i bits limits k low e)
    (λ x e. other.give script w h.board h.view h.state n x limits k low e)
    (λ i z e. other.switch script w h.board h.view h.state n i z limits k low e)
