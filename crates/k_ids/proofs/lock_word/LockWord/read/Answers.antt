use Rattle.std.proofs.Common.{ap, sym, Some, arith}
use Rattle.k_ids.proofs.LockSpelled.{lock-free, lock-owned, some-spelled, none-spelled}
use Rattle.k_ids.proofs.lock_word.LockWord.read.Goals as goal

pub returns-in-0-clause-spelled : goal.returns-in-0-clause-spelled
returns-in-0-clause-spelled c = some-spelled c.args.bits _ (sym (lock-free c.args.bits (omega arith))) (omega arith)

pub returns-in-0-clause-known : goal.returns-in-0-clause-known
returns-in-0-clause-known c = λ h. ap Some (sym (lock-free c.args.bits (omega arith)))

pub returns-in-1-to-72-clause-spelled : goal.returns-in-1-to-72-clause-spelled
returns-in-1-to-72-clause-spelled c = some-spelled c.args.bits _ (sym (lock-owned c.args.bits (omega arith))) (omega arith)

pub returns-in-1-to-72-clause-known : goal.returns-in-1-to-72-clause-known
returns-in-1-to-72-clause-known c = λ h. ap Some (sym (lock-owned c.args.bits (omega arith)))

pub returns-in_default-clause-spelled : goal.returns-in_default-clause-spelled
returns-in_default-clause-spelled c = none-spelled c.args.bits (omega arith)
