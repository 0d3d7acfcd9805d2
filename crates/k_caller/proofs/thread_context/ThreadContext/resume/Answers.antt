use Rattle.std.proofs.Common.{◌≡◌, sym, ap, ◌∙◌, subst}
use Rattle.k_caller.specs.declared.activity.Activity.{Activity}
use Rattle.k_caller.specs.declared.thread_context.ThreadContext.{ThreadContext}
use Rattle.k_caller.specs.Activities.{IsSoundAt, activity_after}
use Rattle.k_caller.specs.Seen.{thread_in}
use Rattle.k_caller.specs.Threads.{IsSound}
use Rattle.k_caller.proofs.Answered.{answered_sound}
use Rattle.k_caller.proofs.thread_context.ThreadContext.resume.Goals as goal

pub returns-clause-sound : goal.returns-clause-sound
returns-clause-sound c =
    let old : ThreadContext = c.args.self.now in
    let left : ThreadContext = c.take_activity-activity.new.self in
    let now : Activity = c.resumed-activity.result.0 in
    let leads : now ≡ activity_after old.id old.own old.activity c.args.answer =
    c.resumed-activity.ensures.activity
    ∙ ap (λ (s : ThreadContext). activity_after s.id s.own c.take_activity-activity.result c.args.answer) c.take_activity-activity.ensures.rest
    ∙ ap (λ (x : Activity). activity_after old.id old.own x c.args.answer) c.take_activity-activity.ensures.taken in
    let doing : IsSoundAt old.id c.resumed-activity.result.1 now =
    subst (λ (s : ThreadContext). IsSoundAt s.id c.resumed-activity.result.1 now) c.take_activity-activity.ensures.rest c.resumed-activity.ensures.sound in
    subst (λ (s : ThreadContext). IsSound c.args.script.now (thread_in c.args.script.now (record { id = s.id; position = s.position; own = c.resumed-activity.result.1; serial = s.serial; done = s.done; activity = now }))) (sym c.take_activity-activity.ensures.rest)
    (answered_sound c.args.script.now (thread_in c.args.script.now old) c.args.answer c.resumed-activity.result.1 c.counted-self.result now c.requires.sound c.requires.fit (sym c.is_again.ensures ∙ c.if-is_again.false) leads doing)
