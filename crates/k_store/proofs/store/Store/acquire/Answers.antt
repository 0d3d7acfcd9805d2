use Rattle.std.proofs.Common.{◌≡◌, ap, refl, sym, subst, ◌∙◌}
use Rattle.std.specs.Prelude.{slice_index_or}
use Rattle.k_ids.specs.declared.lock_word.LockWord.TheVariants.{Free}
use Rattle.k_ids.specs.LockWords.{lock_bits}
use Rattle.k_locks.specs.Places.{home_of}
use Rattle.k_script.specs.Script.{Script}
use Rattle.k_world.specs.Worlds.{Away}
use Rattle.k_store.specs.Conditions.{IsHome}
use Rattle.k_store.specs.Stores.{slot_in, slots_in}
use Rattle.k_store.proofs.Performed.{acquired, not_home}
use Rattle.k_store.proofs.store.Store.acquire.Goals as goal

pub unreachable-requires : goal.unreachable-requires
unreachable-requires c =
    let script : Script = c.requires.0 in
    let free : c.exchange-found.result ≡ lock_bits Free = c.if-found-free.false ∙ c.bits-free.ensures in
    let here : slot_in script c.empty.result ≡ slice_index_or (slots_in script c.args.self.now.slots) (home_of c.args.lock) Away =
    rw (← c.exchange-found.ensures.slots, ← c.home_of.ensures) (c.empty.ensures.item script) in
    not_home script c.empty.result (subst IsHome (sym here) (c.requires.1.home (sym c.exchange-found.ensures.found ∙ free))) c.in-Resting.is

pub returns-clause-performed : goal.returns-clause-performed
returns-clause-performed c = λ script w.
    let free : c.exchange-found.result ≡ lock_bits Free = c.if-found-free.false ∙ c.bits-free.ensures in
    let here : slot_in script c.empty.result ≡ slice_index_or (slots_in script c.args.self.now.slots) (home_of c.args.lock) Away =
    rw (← c.exchange-found.ensures.slots, ← c.home_of.ensures) (c.empty.ensures.item script) in
    acquired script w c.args.context c.args.lock c.args.self.now c.empty.new.self c.in-Guarded.goods c.exchange-found.result c.exchange-found.ensures.found free
    (rw (c.empty.ensures.words, c.exchange-found.ensures.words, c.bits-free.ensures, c.bits-owned.ensures) refl)
    (rw (c.empty.ensures.slots script, c.exchange-found.ensures.slots, c.home_of.ensures) refl)
    (sym here ∙ ap (slot_in script) c.in-Guarded.is)
