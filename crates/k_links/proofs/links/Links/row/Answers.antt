use Rattle.std.proofs.Common.{rules, length, ◌<◌}
use Rattle.k_links.proofs.Linked.{shown_row, standing_inside}
use Rattle.k_links.proofs.Walked.{seen}
use Rattle.k_links.proofs.links.Links.row.Goals as goal

pub index-requires : goal.index-requires
index-requires g c =
    let l = seen g.E.Numbered.number _ _ _ _ _ c.self.view_is c.self.invariant in
    let h : c.args.number < length c.self.inside.rows.items = standing_inside g.E.Numbered.number _ _ _ _ _ l c.args.number c.requires in
    search rules

pub returns : goal.returns
returns g c =
    let l = seen g.E.Numbered.number _ _ _ _ _ c.self.view_is c.self.invariant in
    shown_row g.E.Numbered.number _ _ _ _ _ l c.args.number c.index.result.now c.requires (search rules)
