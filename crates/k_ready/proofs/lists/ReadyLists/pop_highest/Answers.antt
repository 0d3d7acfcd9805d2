use Rattle.std.proofs.Common.{rules, None, Some, ◌∷◌, ap, sym, true, length, ℕ, ◌<◌, ◌≡◌, List, Option, arith, refl, ◌∙◌}
use Rattle.std.specs.Int.{bit_at}
use Rattle.k_ids.specs.declared.threads.ThreadId.{ThreadId}
use Rattle.k_ready.specs.Lists.{first_of, list_of, stands}
use Rattle.k_ready.specs.Popped.{highest}
use Rattle.k_ready.specs.Kept.{IsKept}
use Rattle.k_ready.proofs.Kept.{bit_empty, changed, kept_drop, none_empty, mask_after, mask_standing, placed, read_list}
use Rattle.k_ready.proofs.Popped.{highest_from, none_from}
use Rattle.k_ready.proofs.lists.ReadyLists.pop_highest.Goals as goal

pub returns-then-self-eq0-clause-highest : goal.returns-then-self-eq0-clause-highest
returns-then-self-eq0-clause-highest c =
    let none : highest c.args.self.now ≡ None = rw (← c.self.view_is) (none_from 64 c.self.inside.chains.items (none_empty _ _ _ c.self.invariant c.if-self-eq0.true)) in
    rw none refl

pub returns-then-self-eq0-clause-popped : goal.returns-then-self-eq0-clause-popped
returns-then-self-eq0-clause-popped c =
    let none : highest c.args.self.now ≡ None = rw (← c.self.view_is) (none_from 64 c.self.inside.chains.items (none_empty _ _ _ c.self.invariant c.if-self-eq0.true)) in
    rw none refl

pub index_mut-requires : goal.index_mut-requires
index_mut-requires c =
    let k : length c.self.inside.priorities.items ≡ 64 = c.self.invariant.numbers in
    let l : c.pop_first-id.result.number < 64 = c.pop_first-id.ensures.inside in
    search rules

pub invariant_of-self : goal.invariant_of-self
invariant_of-self c =
    let lists : List (List ThreadId) = c.self.inside.chains.items in
    let places : List (Option ℕ) = c.self.inside.priorities.items in
    let k : IsKept lists places c.self.inside.mask = c.self.invariant in
    let p : c.from.result ≡ c.highest-priority.result = search rules in
    let n : c.from-2.result ≡ c.pop_first-id.result.number = search rules in
    let d : c.index_mut-chain.result.now ≡ list_of lists c.highest-priority.result = read_list lists c.from.result c.highest-priority.result c.index_mut-chain.result.now p c.highest-priority.ensures.inside k.size c.index_mut-chain.ensures.value in
    let s : stands c.pop_first-id.result.number (list_of lists c.highest-priority.result) ≡ true = rw (← d, c.pop_first-id.ensures.first) (grind arith) in
    let one : bit_at c.self.inside.mask c.highest-priority.result ≡ 1 = k.masked c.highest-priority.result c.highest-priority.ensures.inside ∙ mask_standing c.pop_first-id.result.number (list_of lists c.highest-priority.result) s in
    rw (p, n) (kept_drop lists _ places _ c.self.inside.mask _ c.pop_first-id.result.number c.highest-priority.result c.pop_first-id.new.self k
    (changed lists c.highest-priority.result c.pop_first-id.new.self (omega (arith, k.size, c.highest-priority.ensures.inside)))
    (placed places c.pop_first-id.result.number None (omega (arith, k.numbers, c.pop_first-id.ensures.inside)))
    (record { same = mask_after c.pop_first-id.new.self c.is_empty-is_empty.result _ _ c.is_empty-is_empty.ensures one c.without_bit-self-inside.ensures.same; others = c.without_bit-self-inside.ensures.others })
    s
    (λ m. rw (← d) (c.pop_first-id.ensures.left m)))

pub returns-clause-highest : goal.returns-clause-highest
returns-clause-highest c =
    let lists : List (List ThreadId) = c.self.inside.chains.items in
    let k : IsKept lists c.self.inside.priorities.items c.self.inside.mask = c.self.invariant in
    let p : c.from.result ≡ c.highest-priority.result = search rules in
    let d : c.index_mut-chain.result.now ≡ list_of lists c.highest-priority.result = read_list lists c.from.result c.highest-priority.result c.index_mut-chain.result.now p c.highest-priority.ensures.inside k.size c.index_mut-chain.ensures.value in
    let first : list_of lists c.highest-priority.result ≡ c.pop_first-id.result ∷ c.pop_first-id.new.self = sym d ∙ c.pop_first-id.ensures.first in
    let found : highest c.args.self.now ≡ Some record { id = c.pop_first-id.result; priority = c.highest-priority.result } =
    rw (← c.self.view_is) (highest_from 64 lists c.pop_first-id.result c.highest-priority.result c.highest-priority.ensures.inside (λ q a b. bit_empty _ _ _ k q b (c.highest-priority.ensures.others q a)) (ap first_of first)) in
    rw found refl

pub returns-clause-popped : goal.returns-clause-popped
returns-clause-popped c =
    let lists : List (List ThreadId) = c.self.inside.chains.items in
    let k : IsKept lists c.self.inside.priorities.items c.self.inside.mask = c.self.invariant in
    let p : c.from.result ≡ c.highest-priority.result = search rules in
    let d : c.index_mut-chain.result.now ≡ list_of lists c.highest-priority.result = read_list lists c.from.result c.highest-priority.result c.index_mut-chain.result.now p c.highest-priority.ensures.inside k.size c.index_mut-chain.ensures.value in
    let first : list_of lists c.highest-priority.result ≡ c.pop_first-id.result ∷ c.pop_first-id.new.self = sym d ∙ c.pop_first-id.ensures.first in
    let found : highest c.args.self.now ≡ Some record { id = c.pop_first-id.result; priority = c.highest-priority.result } =
    rw (← c.self.view_is) (highest_from 64 lists c.pop_first-id.result c.highest-priority.result c.highest-priority.ensures.inside (λ q a b. bit_empty _ _ _ k q b (c.highest-priority.ensures.others q a)) (ap first_of first)) in
    rw found (rw (← c.self.view_is, p, first) refl)
