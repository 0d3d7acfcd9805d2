use Rattle.std.proofs.Common.{rules, Some, ℕ, [], ◌∷◌, ◌++◌, ◌≡◌, List, Option, arith, sym, ◌∙◌, ap}
use Rattle.k_ids.specs.declared.threads.ThreadId.{ThreadId}
use Rattle.k_ready.specs.Lists.{IsInNone, list_of, mask_bit, number_of, stands}
use Rattle.k_ready.specs.Kept.{IsKept}
use Rattle.k_links.proofs.Appended.{stands_append}
use Rattle.k_ready.proofs.Kept.{changed, kept_add, mask_append, placed, read_list}
use Rattle.k_ready.proofs.lists.ReadyLists.push.Goals as goal

pub invariant_of-self : goal.invariant_of-self
invariant_of-self c =
    let lists : List (List ThreadId) = c.self.inside.chains.items in
    let places : List (Option ℕ) = c.self.inside.priorities.items in
    let id : ThreadId = record { number = c.args.number; version = c.args.version } in
    let k : IsKept lists places c.self.inside.mask = c.self.invariant in
    let p : c.from.result ≡ c.args.priority = search rules in
    let n : c.from-2.result ≡ c.args.number = search rules in
    let d : c.index_mut.result.now ≡ list_of lists c.args.priority = read_list lists c.from.result c.args.priority c.index_mut.result.now p c.requires.priority k.size c.index_mut.ensures.value in
    let e : c.push.new.self ≡ list_of lists c.args.priority ++ id ∷ [] = c.push.ensures ∙ ap (λ (xs : List ThreadId). xs ++ id ∷ []) d in
    let fresh : IsInNone c.args.number lists = rw (← c.self.view_is) at c.requires.fresh in
    rw (p, n) (kept_add lists _ places _ c.self.inside.mask _ c.args.number c.args.priority c.push.new.self k
    (changed lists c.args.priority c.push.new.self (omega (arith, k.size)))
    (placed places c.args.number (Some c.args.priority) (omega (arith, k.numbers)))
    (record { same = c.with_bit-self-inside.ensures.same ∙ sym (ap mask_bit e ∙ mask_append (list_of lists c.args.priority) id); others = λ q l ne. c.with_bit-self-inside.ensures.others q ne })
    fresh
    (λ m. ap (stands m) e ∙ stands_append number_of m (list_of lists c.args.priority) id))
