use Rattle.std.proofs.Common.{sym, ◌∙◌, subst, ℕ}
use Rattle.k_script.specs.Plays.{Position}
use Rattle.k_caller.specs.Threads.{IsSound, NamesIn}
use Rattle.k_caller.specs.Seen.{thread_in}
use Rattle.k_caller.specs.declared.activity.Activity.TheVariants as activity
use Rattle.k_caller.specs.declared.thread.ThreadLocation.TheVariants as location
use Rattle.k_caller.proofs.Begun.{begun_names, called_sound, worked_sound}
use Rattle.k_caller.proofs.thread_context.ThreadContext.begin_after.Goals as goal

pub call-requires-clause-names : goal.call-requires-clause-names
call-requires-clause-names c =
    subst (λ (n : ℕ). NamesIn n c.in-Phase.phase) (sym c.table.ensures) (begun_names c.args.script.now (thread_in c.args.script.now c.args.self.now) c.args.last c.in-Phase.phase c.requires.sound c.requires.between (sym c.next_phase.ensures.next ∙ c.in-Phase.is))

pub returns-in-Work-clause-sound : goal.returns-in-Work-clause-sound
returns-in-Work-clause-sound c =
    subst (λ (q : Position). IsSound c.args.script.now (record { id = c.args.self.now.id; position = q; own = c.args.self.now.own; serial = c.args.self.now.serial; done = c.args.self.now.done; activity = activity.Alone (location.Work c.in-Work.count) })) (sym c.next_phase.ensures.went)
    (worked_sound c.args.script.now (thread_in c.args.script.now c.args.self.now) c.args.last c.in-Work.count c.args.self.now.serial c.args.self.now.done c.requires.sound c.requires.between (sym c.next_phase.ensures.next ∙ c.in-Work.is))

pub returns-in-Phase-clause-sound : goal.returns-in-Phase-clause-sound
returns-in-Phase-clause-sound c =
    subst (λ (q : Position). IsSound c.args.script.now (record { id = c.args.self.now.id; position = q; own = c.args.self.now.own; serial = c.one_more-self.result; done = 0; activity = c.call.result })) (sym c.next_phase.ensures.went)
    (called_sound c.args.script.now (thread_in c.args.script.now c.args.self.now) c.args.last c.in-Phase.phase c.table.result c.one_more-self.result 0 c.call.result c.requires.sound c.requires.between (sym c.next_phase.ensures.next ∙ c.in-Phase.is) c.call.ensures.sound c.call.ensures.activity)
