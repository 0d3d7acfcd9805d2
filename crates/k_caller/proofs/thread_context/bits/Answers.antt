use Rattle.std.proofs.Common.{sym, ap, ◌∙◌, subst, ℕ}
use Rattle.k_ids.specs.StateWords.{state_word_of}
use Rattle.k_locks.specs.Threads.{IsRunOf}
use Rattle.k_caller.proofs.Owned.{running_bits, running_read}
use Rattle.k_caller.proofs.thread_context.bits.Goals as goal

pub returns-clause-of : goal.returns-clause-of
returns-clause-of c = subst (λ (n : ℕ). IsRunOf c.args.me n) (sym c.bits.ensures) (running_bits c.args.me c.args.own c.requires)

pub returns-clause-read : goal.returns-clause-read
returns-clause-read c = ap state_word_of c.bits.ensures ∙ running_read c.args.me c.args.own c.requires
