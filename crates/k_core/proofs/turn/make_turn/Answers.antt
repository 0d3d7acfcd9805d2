use Rattle.std.proofs.Common.{◌≡◌, ap, not, sym, ◌∙◌}
use Rattle.k_carrier.specs.Answers.{answer_in}
use Rattle.k_carrier.specs.Asked.{asked, out_of}
use Rattle.k_carrier.specs.Moves.{move_in}
use Rattle.k_carrier.specs.Running.{running_in}
use Rattle.k_carrier.specs.Resumed.{resumed}
use Rattle.k_carrier.specs.Seen.{CarrierSeen, carrier_in}
use Rattle.k_locks.specs.declared.locks.WordName.TheVariants as word
use Rattle.k_ids.specs.StateWords.{state_word_of}
use Rattle.k_store.specs.Conditions.{found_at}
use Rattle.k_world.specs.Marks.{same_goal}
use Rattle.k_world.specs.Moves.{answer_by, slots_by, words_by}
use Rattle.k_world.specs.Steps.{caller_in, running}
use Rattle.k_world.specs.Worlds.{World}
use Rattle.k_core.specs.Parts.{no_world, store_world}
use Rattle.k_core.proofs.Turns.{IsAnswered, answered, caller_is, course_so, point_so, resumed_so, tells_so}
use Rattle.k_core.proofs.Turns.{told_so}
use Rattle.k_core.proofs.turn.make_turn.Goals as goal

pub point-point-requires-clause-answer : goal.point-point-requires-clause-answer
point-point-requires-clause-answer c =
    let script = c.args.script.now in
    let w : World = store_world script c.args.store.now in
    let k : CarrierSeen = carrier_in script c.args.carrier.now in
    let k' : CarrierSeen = carrier_in script c.next-asked.new.self in
    let so : IsAnswered script w k k' (move_in script c.next-asked.result)
    (answer_in script c.perform-found.result) =
    answered script w k k' (move_in script c.next-asked.result) (answer_in script c.perform-found.result)
    c.next-asked.ensures.carrier c.next-asked.ensures.asked
    (c.perform-found.ensures.answer script no_world c.holds.ensures) in (
      script,
      tells_so script w k k' (move_in script c.next-asked.result)
          (answer_in script c.perform-found.result) so c.requires.can.tells,
    )

pub resume-stepped-requires-clause-answer : goal.resume-stepped-requires-clause-answer
resume-stepped-requires-clause-answer c =
    let script = c.args.script.now in
    let w : World = store_world script c.args.store.now in
    let k : CarrierSeen = carrier_in script c.args.carrier.now in
    let k' : CarrierSeen = carrier_in script c.next-asked.new.self in
    let so : IsAnswered script w k k' (move_in script c.next-asked.result)
    (answer_in script c.perform-found.result) =
    answered script w k k' (move_in script c.next-asked.result) (answer_in script c.perform-found.result)
    c.next-asked.ensures.carrier c.next-asked.ensures.asked
    (c.perform-found.ensures.answer script no_world c.holds.ensures) in
    tells_so script w k k' (move_in script c.next-asked.result) (answer_in script c.perform-found.result) so
    c.requires.can.tells

pub returns-clause-told : goal.returns-clause-told
returns-clause-told c =
    let script = c.args.script.now in
    let w : World = store_world script c.args.store.now in
    let k : CarrierSeen = carrier_in script c.args.carrier.now in
    let k' : CarrierSeen = carrier_in script c.next-asked.new.self in
    let so : IsAnswered script w k k' (move_in script c.next-asked.result)
    (answer_in script c.perform-found.result) =
    answered script w k k' (move_in script c.next-asked.result) (answer_in script c.perform-found.result)
    c.next-asked.ensures.carrier c.next-asked.ensures.asked
    (c.perform-found.ensures.answer script no_world c.holds.ensures) in
    told_so script w k k' (move_in script c.next-asked.result) (answer_in script c.perform-found.result)
    c.resume-stepped.result so c.resume-stepped.ensures.told

pub returns-clause-carrier : goal.returns-clause-carrier
returns-clause-carrier c =
    let script = c.args.script.now in
    let w : World = store_world script c.args.store.now in
    let k : CarrierSeen = carrier_in script c.args.carrier.now in
    let k' : CarrierSeen = carrier_in script c.next-asked.new.self in
    let so : IsAnswered script w k k' (move_in script c.next-asked.result)
    (answer_in script c.perform-found.result) =
    answered script w k k' (move_in script c.next-asked.result) (answer_in script c.perform-found.result)
    c.next-asked.ensures.carrier c.next-asked.ensures.asked
    (c.perform-found.ensures.answer script no_world c.holds.ensures) in
    resumed_so script w k k' (move_in script c.next-asked.result)
    (answer_in script c.perform-found.result) (carrier_in script c.resume-stepped.new.self) so
    c.resume-stepped.ensures.carrier

pub returns-clause-point : goal.returns-clause-point
returns-clause-point c =
    let script = c.args.script.now in
    let w : World = store_world script c.args.store.now in
    let k : CarrierSeen = carrier_in script c.args.carrier.now in
    let k' : CarrierSeen = carrier_in script c.next-asked.new.self in
    let so : IsAnswered script w k k' (move_in script c.next-asked.result)
    (answer_in script c.perform-found.result) =
    answered script w k k' (move_in script c.next-asked.result) (answer_in script c.perform-found.result)
    c.next-asked.ensures.carrier c.next-asked.ensures.asked
    (c.perform-found.ensures.answer script no_world c.holds.ensures) in
    let hand : c.context_of-context.result ≡ running (asked script k).hand =
    c.context_of-context.ensures k' (c.running-running.ensures script)
    ∙ ap (λ (x : CarrierSeen). running x.hand) c.next-asked.ensures.carrier in
    let caller : c.state-caller.result ≡ caller_in w (asked script k).hand =
    c.state-caller.ensures ∙ (ap (λ n. state_word_of (found_at c.args.store.now.words (word.State n))) hand
    ∙ sym (caller_is w (asked script k).hand)) in
    point_so script w k k' (move_in script c.next-asked.result) (answer_in script c.perform-found.result)
    c.state-caller.result (caller_in w (asked script k).hand) c.point-point.result so caller
    (c.point-point.ensures script)

pub returns-clause-course : goal.returns-clause-course
returns-clause-course c =
    let script = c.args.script.now in
    let w : World = store_world script c.args.store.now in
    let k : CarrierSeen = carrier_in script c.args.carrier.now in
    let k' : CarrierSeen = carrier_in script c.next-asked.new.self in
    let so : IsAnswered script w k k' (move_in script c.next-asked.result)
    (answer_in script c.perform-found.result) =
    answered script w k k' (move_in script c.next-asked.result) (answer_in script c.perform-found.result)
    c.next-asked.ensures.carrier c.next-asked.ensures.asked
    (c.perform-found.ensures.answer script no_world c.holds.ensures) in
    course_so script w k c.course_of.result c.running-running.result c.running.result
    c.resume-stepped.result
    (c.running-running.ensures script ∙ ap running_in c.next-asked.ensures.carrier)
    (c.running.ensures script ∙ ap running_in (resumed_so script w k k' (move_in script c.next-asked.result)
    (answer_in script c.perform-found.result) (carrier_in script c.resume-stepped.new.self) so
    c.resume-stepped.ensures.carrier))
    (told_so script w k k' (move_in script c.next-asked.result) (answer_in script c.perform-found.result)
    c.resume-stepped.result so c.resume-stepped.ensures.told)
    c.course_of.ensures.still c.course_of.ensures.section

pub returns-clause-goal : goal.returns-clause-goal
returns-clause-goal c =
    let script = c.args.script.now in
    let w : World = store_world script c.args.store.now in
    let k : CarrierSeen = carrier_in script c.args.carrier.now in
    let k' : CarrierSeen = carrier_in script c.next-asked.new.self in
    let so : IsAnswered script w k k' (move_in script c.next-asked.result)
    (answer_in script c.perform-found.result) =
    answered script w k k' (move_in script c.next-asked.result) (answer_in script c.perform-found.result)
    c.next-asked.ensures.carrier c.next-asked.ensures.asked
    (c.perform-found.ensures.answer script no_world c.holds.ensures) in
    let after : carrier_in script c.resume-stepped.new.self ≡ resumed (asked script k)
    (answer_by w (out_of script k)) =
    resumed_so script w k k' (move_in script c.next-asked.result) (answer_in script c.perform-found.result)
    (carrier_in script c.resume-stepped.new.self) so c.resume-stepped.ensures.carrier in
    ap not (c.is_same_goal.ensures ∙ (ap (λ g. same_goal g c.goal.result) c.goal-goal.ensures
    ∙ ap (same_goal c.args.carrier.now.goal) (c.goal.ensures ∙ ap (λ (x : CarrierSeen). x.goal) after)))

pub returns-clause-words : goal.returns-clause-words
returns-clause-words c =
    let script = c.args.script.now in
    let w : World = store_world script c.args.store.now in
    let k : CarrierSeen = carrier_in script c.args.carrier.now in
    let k' : CarrierSeen = carrier_in script c.next-asked.new.self in
    let so : IsAnswered script w k k' (move_in script c.next-asked.result)
    (answer_in script c.perform-found.result) =
    answered script w k k' (move_in script c.next-asked.result) (answer_in script c.perform-found.result)
    c.next-asked.ensures.carrier c.next-asked.ensures.asked
    (c.perform-found.ensures.answer script no_world c.holds.ensures) in
    let hand : c.context_of-context.result ≡ running (asked script k).hand =
    c.context_of-context.ensures k' (c.running-running.ensures script)
    ∙ ap (λ (x : CarrierSeen). running x.hand) c.next-asked.ensures.carrier in
    c.perform-found.ensures.words script no_world c.holds.ensures
    ∙ (ap (λ i. words_by w i (move_in script c.next-asked.result)) hand
    ∙ ap (words_by w (running (asked script k).hand)) so.move)

pub returns-clause-slots : goal.returns-clause-slots
returns-clause-slots c =
    let script = c.args.script.now in
    let w : World = store_world script c.args.store.now in
    let k : CarrierSeen = carrier_in script c.args.carrier.now in
    let k' : CarrierSeen = carrier_in script c.next-asked.new.self in
    let so : IsAnswered script w k k' (move_in script c.next-asked.result)
    (answer_in script c.perform-found.result) =
    answered script w k k' (move_in script c.next-asked.result) (answer_in script c.perform-found.result)
    c.next-asked.ensures.carrier c.next-asked.ensures.asked
    (c.perform-found.ensures.answer script no_world c.holds.ensures) in
    c.perform-found.ensures.slots script no_world c.holds.ensures ∙ ap (slots_by script w) so.move
