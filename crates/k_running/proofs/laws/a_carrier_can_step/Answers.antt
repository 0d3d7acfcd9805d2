use Rattle.k_carrier.specs.Seen.{HandSeen}
use Rattle.k_world.specs.Worlds.{carrier_at}
use Rattle.k_sections.proofs.Tables.{thread_tables}
use Rattle.k_running.proofs.Entered.{can_turn, entry_fits}
use Rattle.k_running.proofs.Kernel.{has_moved, in_hand_sound, kernel_of}
use Rattle.k_running.proofs.Stepped.{found_elsewhere}
use Rattle.k_running.proofs.laws.a_carrier_can_step.Goals as goal

pub returns-clause-turn : goal.returns-clause-turn
returns-clause-turn c = λ script w n limits room h low.
    let k = kernel_of script w h in
    can_turn script w (carrier_at w n)
    (c.a_carrier_can_ask.ensures script w h.board h.view h.state n limits k h.finished low)
    (c.a_store_can_perform.ensures script w h.board h.view h.state n limits k h.finished low)
    (c.a_carrier_can_be_told.ensures script w h.board h.view h.state n limits k h.finished low)
    (c.the_callers_word_is_spelled.ensures script w h.board h.view h.state n limits k low)

pub returns-clause-entry : goal.returns-clause-entry
returns-clause-entry c = λ script w n limits room h low.
    entry_fits script limits room w h n
    (c.a_step_is_within.ensures.carrier script w h.board h.view h.state n limits (kernel_of script w h) h.spelled low)

pub returns-clause-found : goal.returns-clause-found
returns-clause-found c =
    let made = c.left_is_the_most_that_a_create_makes.ensures.in_time in
    let tables = thread_tables c.a_create_takes_locks_in_rising_rank.ensures c.a_destroy_takes_locks_in_rising_rank.ensures made
    c.left_is_the_most_that_a_destroy_makes.ensures.in_time in λ script w n limits room h low.
    let k = kernel_of script w h in
    let run = c.a_move_can_be_made.ensures script w h.board h.view h.state n limits k h.spelled low
    (c.a_carrier_can_ask.ensures script w h.board h.view h.state n limits k h.finished low)
    (λ (x : HandSeen) e. c.a_context_stays_sound.ensures.begun script x.value limits
    (in_hand_sound script limits w h n low x e)) in
    let other = c.every_other_move_keeps_the_kernel.ensures in
    let words = c.every_turn_keeps_the_words.ensures in
    found_elsewhere script limits tables w h n low run
    (has_moved script limits w h n low room run
    (λ i m b ts. words.turns script h.board b w.history h.state i m limits h.whole.holds h.spelled ts)
    (λ i b t. words.turn script h.board b w.history h.state i limits h.whole.holds h.spelled t)
    (λ i e. other.look script w h.board h.view h.state n i limits k low e)
    (λ i bits e. other.take script w h.board h.view h.state n i bits limits k low e)
    (λ x e. other.give script w h.board h.view h.state n x limits k low e)
    (λ i z e. other.switch script w h.board h.view h.state n i z limits k low e))
