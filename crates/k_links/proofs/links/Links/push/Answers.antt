use Rattle.std.proofs.Common.{arith, rules, ◌≡◌, ◌++◌, ◌∷◌, [], ◌+◌, Some, List, length, take, drop}
use Rattle.k_links.specs.declared.rows.Row.{Row}
use Rattle.k_links.specs.Links.{IsLinked}
use Rattle.k_links.proofs.Linked.{given_back, linked_few, linked_push, tail_below}
use Rattle.k_links.proofs.Walked.{linked_walk, seen, walked_is}
use Rattle.k_links.proofs.links.Links.push.Goals as goal

pub append-requires-clause-last : goal.append-requires-clause-last
append-requires-clause-last g c =
    let b = tail_below g.E.Numbered.number _ _ _ _ _ (seen g.E.Numbered.number _ _ _ _ _ c.self.view_is c.self.invariant) in
    search rules

pub overflow_add-self : goal.overflow_add-self
overflow_add-self g c =
    let few = linked_few g.E.Numbered.number _ _ _ _ _ c.self.invariant in
    omega arith

pub invariant_of-self : goal.invariant_of-self
invariant_of-self g c =
    let l = seen g.E.Numbered.number _ _ _ _ _ c.self.view_is c.self.invariant in
    let rows : List (Row g.row.E.Denot) = c.append.new.rows in
    let same : take c.self.inside.rows.len (rows ++ drop (length rows) c.self.inside.rows.items) ≡ rows = given_back _ _ _ (search rules) in
    let pushed : IsLinked g.E.Numbered.number rows c.end_of-self-inside.result (Some c.number-number.result) (c.self.inside.count + 1) (c.args.self.now.entries ++ c.args.entry ∷ []) =
    rw (c.end_of-self-inside.ensures, c.number-number.ensures) (linked_push g.E.Numbered.number c.self.inside.rows.items rows _ _ _ _ c.args.entry l c.requires.new (λ n. rw c.deref_mut.ensures.value at (c.append.ensures.rows n))) in
    rw same (linked_walk g.E.Numbered.number _ _ _ _ _ pushed)

pub returns-clause-entries : goal.returns-clause-entries
returns-clause-entries g c =
    let l = seen g.E.Numbered.number _ _ _ _ _ c.self.view_is c.self.invariant in
    let rows : List (Row g.row.E.Denot) = c.append.new.rows in
    let same : take c.self.inside.rows.len (rows ++ drop (length rows) c.self.inside.rows.items) ≡ rows = given_back _ _ _ (search rules) in
    let pushed : IsLinked g.E.Numbered.number rows c.end_of-self-inside.result (Some c.number-number.result) (c.self.inside.count + 1) (c.args.self.now.entries ++ c.args.entry ∷ []) =
    rw (c.end_of-self-inside.ensures, c.number-number.ensures) (linked_push g.E.Numbered.number c.self.inside.rows.items rows _ _ _ _ c.args.entry l c.requires.new (λ n. rw c.deref_mut.ensures.value at (c.append.ensures.rows n))) in
    rw same (walked_is g.E.Numbered.number _ _ _ _ _ pushed)
