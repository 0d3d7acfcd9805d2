use Rattle.std.proofs.Common.{ℕ, ◌+◌, ap, length-append, refl}
use Rattle.k_links.specs.Links.{walked}
use Rattle.k_links.proofs.Linked.{nothing_linked, row_added}
use Rattle.k_links.proofs.Walked.{linked_walk}
use Rattle.k_links.proofs.links.Links.opened.Goals as goal

pub loop-preserved : goal.loop-preserved
loop-preserved g c = (
  λ n. rw (c.in_ok-push.ensures.items, c.empty_row.ensures) (row_added c.loop.rows.items n c.loop.invariant.0),
  rw (c.in_ok-push.ensures.items, length-append) (ap (λ (k : ℕ). k + 1) c.loop.invariant.1),
)

pub invariant_of-result : goal.invariant_of-result
invariant_of-result g c = linked_walk g.E.Numbered.number _ _ _ _ _ (nothing_linked g.E.Numbered.number _ c.loop.invariant.0)

pub returns-clause-entries : goal.returns-clause-entries
unfolding walked
returns-clause-entries g c = refl
