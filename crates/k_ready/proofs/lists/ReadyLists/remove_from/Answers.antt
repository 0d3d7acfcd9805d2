use Rattle.std.proofs.Common.{rules, None, false, true, ℕ, ◌≡◌, List, Option, arith, refl, ◌∙◌, ap}
use Rattle.std.specs.Prelude.{◌==◌}
use Rattle.std.specs.Int.{bit_at}
use Rattle.k_ids.specs.declared.threads.ThreadId.{ThreadId}
use Rattle.k_ready.specs.Lists.{list_of, stands, without}
use Rattle.k_ready.specs.Kept.{IsKept}
use Rattle.k_ready.proofs.Kept.{changed, kept_drop, mask_after, mask_standing, other_version, placed, read_list}
use Rattle.k_ready.proofs.lists.ReadyLists.remove_from.Goals as goal

pub returns-then-entry-version-clause-absent : goal.returns-then-entry-version-clause-absent
returns-then-entry-version-clause-absent c = λ _ q.
    let lists : List (List ThreadId) = c.self.inside.chains.items in
    let k : IsKept lists c.self.inside.priorities.items c.self.inside.mask = c.self.invariant in
    let p : c.from.result ≡ c.args.priority = search rules in
    let d : c.index_mut-chain.result.now ≡ list_of lists c.args.priority = read_list lists c.from.result c.args.priority c.index_mut-chain.result.now p c.requires.inside k.size c.index_mut-chain.ensures.value in
    let s : stands c.args.number (list_of lists c.args.priority) ≡ true = rw (← c.self.view_is) at c.requires.standing in
    let other : (c.entry.result.version == c.args.version) ≡ false = search rules in
    rw (← c.self.view_is) (other_version lists _ _ c.args.number c.args.version c.args.priority k s (rw (← d) (c.entry.ensures.thread c.args.version ∙ other)) q)

pub invariant_of-self-2 : goal.invariant_of-self-2
invariant_of-self-2 c =
    let lists : List (List ThreadId) = c.self.inside.chains.items in
    let places : List (Option ℕ) = c.self.inside.priorities.items in
    let k : IsKept lists places c.self.inside.mask = c.self.invariant in
    let p : c.from.result ≡ c.args.priority = search rules in
    let n : c.from-2.result ≡ c.args.number = search rules in
    let d : c.index_mut-chain.result.now ≡ list_of lists c.args.priority = read_list lists c.from.result c.args.priority c.index_mut-chain.result.now p c.requires.inside k.size c.index_mut-chain.ensures.value in
    let s : stands c.args.number (list_of lists c.args.priority) ≡ true = rw (← c.self.view_is) at c.requires.standing in
    let one : bit_at c.self.inside.mask c.args.priority ≡ 1 = k.masked c.args.priority c.requires.inside ∙ mask_standing c.args.number (list_of lists c.args.priority) s in
    rw (p, n) (kept_drop lists _ places _ c.self.inside.mask _ c.args.number c.args.priority c.take_number.new.self k
    (changed lists c.args.priority c.take_number.new.self (omega (arith, k.size, c.requires.inside)))
    (placed places c.args.number None (omega (arith, k.numbers, c.take_number.ensures.inside)))
    (record { same = mask_after c.take_number.new.self c.is_empty-is_empty.result _ _ c.is_empty-is_empty.ensures one c.without_bit-self-inside.ensures.same; others = c.without_bit-self-inside.ensures.others })
    s
    (λ m. rw (← d) (c.take_number.ensures.left m)))

pub returns-clause-found : goal.returns-clause-found
returns-clause-found c = λ _.
    let lists : List (List ThreadId) = c.self.inside.chains.items in
    let k : IsKept lists c.self.inside.priorities.items c.self.inside.mask = c.self.invariant in
    let p : c.from.result ≡ c.args.priority = search rules in
    let d : c.index_mut-chain.result.now ≡ list_of lists c.args.priority = read_list lists c.from.result c.args.priority c.index_mut-chain.result.now p c.requires.inside k.size c.index_mut-chain.ensures.value in
    let same : (c.entry.result.version == c.args.version) ≡ true = search rules in
    let e : c.take_number.new.self ≡ without c.args.number (list_of lists c.args.priority) = c.take_number.ensures.entries ∙ ap (without c.args.number) d in
    rw (← c.self.view_is) (record {
      inside = c.requires.inside;
      standing = rw (← d) (c.entry.ensures.thread c.args.version ∙ same);
      taken = rw (p, e) refl;
    })
