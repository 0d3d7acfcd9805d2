use Rattle.std.proofs.Common.{ap, sym, ◌∙◌, length}
use Rattle.k_locks.specs.Numbers.{ThreadNumbers}
use Rattle.k_locks.proofs.Presences.{length-presences}
use Rattle.k_locks.proofs.numbers.Numbers.count.Goals as goal

pub returns-clause-present : goal.returns-clause-present
returns-clause-present c = sym (length-presences c.self.inside.present c.self.inside.count) ∙ ap (λ (n : ThreadNumbers). length n.present) c.self.view_is
