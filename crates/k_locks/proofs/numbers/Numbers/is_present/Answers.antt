use Rattle.std.proofs.Common.{ap, sym, ◌∙◌, arith, length, ◌≡◌}
use Rattle.k_locks.specs.Numbers.{ThreadNumbers, is_present}
use Rattle.k_locks.proofs.Presences.{is_bit, length-shown, presence_at}
use Rattle.k_locks.proofs.numbers.Numbers.is_present.Goals as goal

pub returns : goal.returns
returns c =
    let f = c.self.inside in
    let long : length c.args.self.now.versions ≡ f.count = ap (λ (n : ThreadNumbers). length n.versions) (sym c.self.view_is) ∙ length-shown f.versions f.count c.self.told c.self.invariant in
    is_bit f.present c.args.number ∙ sym (presence_at f.present f.count c.args.number (omega (arith, c.requires, long))) ∙ ap (λ (n : ThreadNumbers). is_present n c.args.number) c.self.view_is
