use Rattle.std.proofs.Common.{rules}
use Rattle.std.proofs.lemmas.List.Sorted.{answers_always}
use Rattle.k_calls.specs.declared.lines.CallLine.{CallLine}
use Rattle.k_calls.proofs.lines.sort.Goals as goal

pub returns-clause-ordered : goal.returns-clause-ordered
returns-clause-ordered c = c.sort_unstable_by_key.ensures.sorted (λ (x : CallLine). (x.id.number, x.id.version, x.serial)) (answers_always _ _ _ (λ a r q k. search rules))
