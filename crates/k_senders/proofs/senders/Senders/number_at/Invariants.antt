use Rattle.std.proofs.Common.{◌≡◌, drop}
use Rattle.k_senders.specs.Queue.{first_number, IsOnceEach}
use Rattle.k_senders.proofs.senders.Senders.number_at.Given as goal

abbrev pub invariant-loop : goal.invariant-loop
invariant-loop l = (l.number ≡ first_number (drop l.counter l.self.entries)) × IsOnceEach l.self.entries × (l.self ≡ l.fn.self)
