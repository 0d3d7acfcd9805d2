use Rattle.std.proofs.Common.{◌≡◌, ap, refl, ◌∙◌}
use Rattle.std.specs.Prelude.{slice_index_or}
use Rattle.k_locks.specs.Places.{slot_of}
use Rattle.k_carrier.specs.Answers.{answer_in}
use Rattle.k_world.specs.Moves.{took}
use Rattle.k_world.specs.Worlds.{Away}
use Rattle.k_store.specs.Stores.{slot_in, slots_in}
use Rattle.k_store.proofs.Performed.{taken}
use Rattle.k_store.proofs.store.Store.take.Goals as goal

pub returns-clause-performed : goal.returns-clause-performed
returns-clause-performed c = λ script w i.
    let here : slot_in script c.empty.result ≡ slice_index_or (slots_in script c.args.self.now.slots) (slot_of c.args.context) Away =
    rw (← c.exchange-found.ensures.slots, ← c.slot_of.ensures) (c.empty.ensures.item script) in
    taken script w i c.args.context c.args.old c.args.new c.args.self.now c.empty.new.self (answer_in script c.took.result) c.exchange-found.result c.exchange-found.ensures.found c.if-found-old.false
    (rw (c.empty.ensures.words, c.exchange-found.ensures.words) refl)
    (rw (c.empty.ensures.slots script, c.exchange-found.ensures.slots, c.slot_of.ensures) refl)
    (c.took.ensures.answer script ∙ ap (took c.exchange-found.result) here)

pub returns-clause-given : goal.returns-clause-given
returns-clause-given c = λ script h. c.took.ensures.placed script (c.empty.ensures.taken script (c.exchange-found.ensures.placed script h))
