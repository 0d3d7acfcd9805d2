use Rattle.std.proofs.Common.{drop, ◌+◌, ◌≡◌, List, arith, sym, ◌∙◌, refl}
use Rattle.k_senders.specs.declared.entries.SenderEntry.{SenderEntry}
use Rattle.k_senders.specs.Queue.{first_number}
use Rattle.k_senders.proofs.Positions.{number_at, number_end, number_more, number_there}
use Rattle.k_senders.proofs.senders.Senders.number_at.Goals as goal
use Rattle.k_senders.proofs.senders.Senders.number_at.Goals.{in-Some, in-None}

pub after-number-requires : goal.after-number-requires
after-number-requires c = (number_at c.args.self.now.entries c.loop.counter c.in-Some.before c.loop.invariant.1 (sym c.loop.invariant.0 ∙ c.in-Some.is)).standing

pub loop-preserved : goal.loop-preserved
loop-preserved c =
    let es : List SenderEntry = c.args.self.now.entries in
    let n : c.match-number.number ≡ first_number (drop (c.loop.counter + 1) es) = elim c.match-number.branch [
      | in-Some w ↦ w.number-is ∙ w.after-number.ensures ∙ number_more es c.loop.counter w.in-Some.before c.loop.invariant.1 (sym w.in-Some.is ∙ c.loop.invariant.0)
      | in-None w ↦ w.number-is ∙ number_end es c.loop.counter (sym w.in-None.is ∙ c.loop.invariant.0)
    ] in
    (n, c.loop.invariant.1, refl)

pub unreachable-requires : goal.unreachable-requires
unreachable-requires c = number_there c.args.self.now.entries c.loop.counter (omega arith) (sym c.loop.invariant.0 ∙ c.in-None-number.is)

pub returns : goal.returns
returns c =
    let e : c.loop.counter ≡ c.args.i = omega arith in
    rw (← e) (number_at c.args.self.now.entries c.loop.counter c.in-Some-number.number c.loop.invariant.1 (sym c.loop.invariant.0 ∙ c.in-Some-number.is))
