use Rattle.std.proofs.Common.{rules, ◌≡◌}
use Rattle.k_store.proofs.Changes.{placed_set, slots_set}
use Rattle.k_store.proofs.store.Store.swap.Goals as goal

pub returns-clause-slots : goal.returns-clause-slots
returns-clause-slots c = λ script.
    let put : c.replace.new.dest ≡ c.args.item = search rules in
    rw (← c.self.view_is) (slots_set script c.self.inside.slots.items c.args.slot c.replace.new.dest c.args.item put)

pub returns-clause-placed : goal.returns-clause-placed
returns-clause-placed c = λ script h g.
    let put : c.replace.new.dest ≡ c.args.item = search rules in
    placed_set script c.self.inside.words.items c.self.inside.words.items c.self.inside.slots.items c.args.slot c.replace.new.dest c.args.item put (rw (← c.self.view_is) at h) g
