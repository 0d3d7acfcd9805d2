use Rattle.std.proofs.Common.{rules, List, ℕ, ◌≡◌, ◌++◌, length, take, drop, subst, ap, ◌∙◌, refl}
use Rattle.std.proofs.Math.Seq.{take-append_seam}
use Rattle.k_model.specs.State.{Place}
use Rattle.k_model.specs.Step.{left_by, left_everywhere}
use Rattle.k_machine.specs.Machine.{KernelLists, state_of}
use Rattle.k_machine.proofs.Seen.{state_all}
use Rattle.k_machine.proofs.table.Table.leave.Goals as goal

pub returns-clause-state : goal.returns-clause-state
returns-clause-state c =
    let old : KernelLists = record { places = c.self.inside.seats.items; replies = c.self.inside.replies.lines } in
    let new : KernelLists = record { places = c.loop-seat.seat-items; replies = c.self.inside.replies.lines } in
    let all : state_of new ≡ left_everywhere (state_of old) c.args.who = state_all old new (left_by c.args.who) refl (search rules) (λ k l. search rules) refl in
    let items : List Place = c.loop-seat.seat-items in
    let rest : List Place = drop (length items) c.self.inside.seats.items in
    let same : take c.self.inside.seats.len (items ++ rest) ≡ items =
    subst (λ (n : ℕ). take n (items ++ rest) ≡ items) (c.loop-seat.auto.seat-items ∙ c.deref_mut-seat-items.ensures.len) (take-append_seam items rest) in
    rw (← c.self.view_is) (ap (λ (ps : List Place). state_of (record { places = ps; replies = c.self.inside.replies.lines })) same ∙ all)
