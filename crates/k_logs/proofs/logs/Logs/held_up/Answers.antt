use Rattle.std.proofs.Common.{rules, ◌<◌, ◌≡◌, length}
use Rattle.k_logs.proofs.Got.{stands_inside}
use Rattle.k_logs.proofs.logs.Logs.held_up.Goals as goal

pub grow-requires-clause-inside : goal.grow-requires-clause-inside
grow-requires-clause-inside c =
    let index : c.from.result ≡ c.args.c = search rules in
    let stands : c.in-Some.mark < length c.args.self.now.waits.marks =
    stands_inside c.args.self.now.waits c.args.c c.in-Some.mark c.index.result.now c.requires.lawful c.requires.carrier (rw (← c.self.view_is, ← index) c.index.ensures) c.in-Some.is in
    rw c.link_of.ensures.mark stands
