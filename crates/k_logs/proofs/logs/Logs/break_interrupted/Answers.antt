use Rattle.std.proofs.Common.{List, Option, ℕ, sym, subst, ap, ◌∙◌}
use Rattle.k_carrier.specs.Seen.{CarrierSeen}
use Rattle.k_world.specs.Lawful.{IsLawfulLog}
use Rattle.k_world.specs.Marks.{broken}
use Rattle.k_world.specs.Worlds.{WaitLog}
use Rattle.k_world.proofs.Waits.{lawful_broken}
use Rattle.k_logs.specs.Seen.{Logged, carriers_in}
use Rattle.k_logs.proofs.Got.{whole_slice}
use Rattle.k_logs.proofs.logs.Logs.break_interrupted.Goals as goal

pub returns-clause-lawful : goal.returns-clause-lawful
returns-clause-lawful c = λ script h.
    let ks : List CarrierSeen = carriers_in script c.args.carriers.now in
    let log : WaitLog = record { marks = c.self.inside.marks.items; links = c.self.inside.links.items; standing = c.self.inside.standing.items } in
    let before : IsLawfulLog log = subst (λ (l : Logged). IsLawfulLog l.waits) (sym c.self.view_is) h in
    let left = whole_slice c.break_interrupted.new.standing c.self.inside.standing.items c.self.inside.standing.len (c.break_interrupted.auto.standing ∙ c.deref_mut.ensures.len)
    ∙ (c.break_interrupted.ensures script ∙ ap (broken ks) c.deref_mut.ensures.value) in
    subst (λ (ss : List (Option ℕ)). IsLawfulLog (record { marks = c.self.inside.marks.items; links = c.self.inside.links.items; standing = ss })) (sym left) (lawful_broken ks log before)
