use Rattle.std.proofs.Common.{◌≡◌, sym, ap, ◌∙◌}
use Rattle.k_world.specs.Marks.{is_linked}
use Rattle.k_logs.specs.Seen.{Logged}
use Rattle.k_logs.proofs.Chains.{chained_new, chained_old, linked_after}
use Rattle.k_logs.proofs.logs.Logs.grow.Goals as goal

pub returns-then-not-is_linked-clause-waits : goal.returns-then-not-is_linked-clause-waits
returns-then-not-is_linked-clause-waits c =
    let after : c.is_linked.result ≡ is_linked c.args.link c.args.self.now.waits.links =
    c.is_linked.ensures ∙ linked_after c.args.self.now.waits c.args.link c.index.result.now c.self.inside.marks.items c.deref.result.now c.requires.lawful c.requires.inside
    (ap (λ (l : Logged). l.waits.marks) c.self.view_is) (c.deref.ensures.value ∙ ap (λ (l : Logged). l.waits.links) c.self.view_is) c.index.ensures in
    c.add.ensures.waits ∙ chained_new c.args.self.now.waits c.args.link (sym after ∙ c.if-not-is_linked.true)

pub returns-else-not-is_linked-clause-waits : goal.returns-else-not-is_linked-clause-waits
returns-else-not-is_linked-clause-waits c =
    let after : c.is_linked.result ≡ is_linked c.args.link c.args.self.now.waits.links =
    c.is_linked.ensures ∙ linked_after c.args.self.now.waits c.args.link c.index.result.now c.self.inside.marks.items c.deref.result.now c.requires.lawful c.requires.inside
    (ap (λ (l : Logged). l.waits.marks) c.self.view_is) (c.deref.ensures.value ∙ ap (λ (l : Logged). l.waits.links) c.self.view_is) c.index.ensures in
    chained_old c.args.self.now.waits c.args.link (sym after ∙ c.if-not-is_linked.false)
