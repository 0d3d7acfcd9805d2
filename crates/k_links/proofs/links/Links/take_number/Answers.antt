use Rattle.std.proofs.Common.{rules, ◌≡◌, ◌<◌, ◌++◌, ◌-◌, List, length, take, drop, ap, sym, ◌∙◌}
use Rattle.k_links.specs.declared.rows.Row.{Row}
use Rattle.k_links.specs.Listed.{without}
use Rattle.k_links.specs.Links.{IsLinked}
use Rattle.k_links.proofs.Linked.{given_back, linked_cut, next_below, prior_below, standing_entry, standing_inside}
use Rattle.k_links.proofs.Walked.{linked_walk, seen, walked_is}
use Rattle.k_links.proofs.links.Links.take_number.Goals as goal

pub cut-row-requires-clause-inside : goal.cut-row-requires-clause-inside
cut-row-requires-clause-inside g c =
    let l = seen g.E.Numbered.number _ _ _ _ _ c.self.view_is c.self.invariant in
    let h : c.args.number < length c.self.inside.rows.items = standing_inside g.E.Numbered.number _ _ _ _ _ l c.args.number c.requires in
    search rules

pub cut-row-requires-clause-prior : goal.cut-row-requires-clause-prior
cut-row-requires-clause-prior g c =
    let h = prior_below g.E.Numbered.number _ _ _ _ _ (seen g.E.Numbered.number _ _ _ _ _ c.self.view_is c.self.invariant) c.args.number in
    search rules

pub cut-row-requires-clause-next : goal.cut-row-requires-clause-next
cut-row-requires-clause-next g c =
    let h = next_below g.E.Numbered.number _ _ _ _ _ (seen g.E.Numbered.number _ _ _ _ _ c.self.view_is c.self.invariant) c.args.number in
    search rules

pub unreachable-requires : goal.unreachable-requires
unreachable-requires g c =
    let l = seen g.E.Numbered.number _ _ _ _ _ c.self.view_is c.self.invariant in
    let e = ap (λ (x : Row g.row.E.Denot). x.entry) (rw c.deref_mut.ensures.value at c.cut-row.ensures.row ∙ l.shown c.args.number) in
    standing_entry g.E.Numbered.number c.args.number c.args.self.now.entries c.requires (sym e ∙ c.in-None.is)

pub invariant_of-self : goal.invariant_of-self
invariant_of-self g c =
    let l = seen g.E.Numbered.number _ _ _ _ _ c.self.view_is c.self.invariant in
    let rows : List (Row g.row.E.Denot) = c.cut-row.new.rows in
    let same : take c.self.inside.rows.len (rows ++ drop (length rows) c.self.inside.rows.items) ≡ rows = given_back _ _ _ (search rules) in
    let less : IsLinked g.E.Numbered.number rows c.end_of-self-inside.result c.end_of-self-inside-2.result (c.self.inside.count - 1) (without g.E.Numbered.number c.args.number c.args.self.now.entries) =
    rw (c.end_of-self-inside.ensures, c.end_of-self-inside-2.ensures, c.cut-row.ensures.row, c.deref_mut.ensures.value) (linked_cut g.E.Numbered.number c.self.inside.rows.items rows _ _ _ _ c.args.number l c.requires (λ n. rw (c.cut-row.ensures.row, c.deref_mut.ensures.value) at (c.cut-row.ensures.rows n))) in
    rw same (linked_walk g.E.Numbered.number _ _ _ _ _ less)

pub returns-clause-entries : goal.returns-clause-entries
returns-clause-entries g c =
    let l = seen g.E.Numbered.number _ _ _ _ _ c.self.view_is c.self.invariant in
    let rows : List (Row g.row.E.Denot) = c.cut-row.new.rows in
    let same : take c.self.inside.rows.len (rows ++ drop (length rows) c.self.inside.rows.items) ≡ rows = given_back _ _ _ (search rules) in
    let less : IsLinked g.E.Numbered.number rows c.end_of-self-inside.result c.end_of-self-inside-2.result (c.self.inside.count - 1) (without g.E.Numbered.number c.args.number c.args.self.now.entries) =
    rw (c.end_of-self-inside.ensures, c.end_of-self-inside-2.ensures, c.cut-row.ensures.row, c.deref_mut.ensures.value) (linked_cut g.E.Numbered.number c.self.inside.rows.items rows _ _ _ _ c.args.number l c.requires (λ n. rw (c.cut-row.ensures.row, c.deref_mut.ensures.value) at (c.cut-row.ensures.rows n))) in
    rw same (walked_is g.E.Numbered.number _ _ _ _ _ less)
