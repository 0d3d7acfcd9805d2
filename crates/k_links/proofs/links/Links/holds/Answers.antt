use Rattle.std.proofs.Common.{length, ◌<◌, ◌≤◌, ◌≡◌, arith, ap}
use Rattle.k_links.specs.Listed.{Linked}
use Rattle.k_links.proofs.Counted.{few}
use Rattle.k_links.proofs.Linked.{standing_inside}
use Rattle.k_links.proofs.Walked.{seen}
use Rattle.k_links.proofs.links.Links.holds.Goals as goal

pub returns-clause-inside : goal.returns-clause-inside
returns-clause-inside g c = λ n s.
    let l = seen g.E.Numbered.number _ _ _ _ _ c.self.view_is c.self.invariant in
    let h : n < length c.self.inside.rows.items = standing_inside g.E.Numbered.number _ _ _ _ _ l n s in
    let r : length c.self.inside.rows.items ≡ c.args.self.now.room = ap (λ (q : Linked g.row.E.Denot). q.room) c.self.view_is in
    omega arith

pub returns-clause-few : goal.returns-clause-few
returns-clause-few g c =
    let l = seen g.E.Numbered.number _ _ _ _ _ c.self.view_is c.self.invariant in
    let h : length c.args.self.now.entries ≤ length c.self.inside.rows.items = few g.E.Numbered.number _ c.args.self.now.entries l.once (standing_inside g.E.Numbered.number _ _ _ _ _ l) in
    let r : length c.self.inside.rows.items ≡ c.args.self.now.room = ap (λ (q : Linked g.row.E.Denot). q.room) c.self.view_is in
    omega arith
