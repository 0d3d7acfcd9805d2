use Rattle.std.proofs.Common.{ap, sym, ◌∙◌, arith, length, ◌≡◌}
use Rattle.k_locks.specs.Numbers.{ThreadNumbers, with_thread}
use Rattle.k_locks.proofs.Presences.{length-shown, shown_with}
use Rattle.k_locks.proofs.numbers.Numbers.with_thread.Goals as goal

pub returns : goal.returns
returns c =
    let f = c.self.inside in
    let long : length c.args.self.now.versions ≡ f.count = ap (λ (n : ThreadNumbers). length n.versions) (sym c.self.view_is) ∙ length-shown f.versions f.count c.self.told c.self.invariant in
    rw c.from.ensures (shown_with f.versions f.present f.count c.args.number c.self.invariant (omega (arith, c.requires.inside, long)) ∙ ap (with_thread c.args.number) c.self.view_is)
