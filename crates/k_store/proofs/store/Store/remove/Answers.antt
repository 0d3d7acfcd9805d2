use Rattle.std.proofs.Common.{refl, ◌∙◌}
use Rattle.k_store.proofs.Performed.{removed}
use Rattle.k_store.proofs.store.Store.remove.Goals as goal

pub returns-clause-performed : goal.returns-clause-performed
returns-clause-performed c = λ script w i.
    removed script w i c.args.id c.args.self.now c.fill.new.self c.exchange-found.result c.exchange-found.ensures.found (c.if-found-clean.false ∙ c.clean_bits-clean.ensures)
    (rw (c.fill.ensures.words, c.exchange-found.ensures.words, c.clean_bits-clean.ensures, c.bits.ensures) refl)
    (rw (c.fill.ensures.slots script, c.exchange-found.ensures.slots, c.slot_of.ensures) refl)
