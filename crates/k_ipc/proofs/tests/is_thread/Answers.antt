use Rattle.std.proofs.Common.{◌≤◌, ℕ, refl, sym, subst, arith}
use Rattle.std.proofs.lemmas.Bool.Decides.{nat_tests}
use Rattle.k_ids.specs.declared.state_word.StateWord.{StateWord}
use Rattle.k_ids.specs.StateWords.{IsStateSpelling}
use Rattle.k_ids.proofs.StateSpelled.{spells-read, state-whole}
use Rattle.k_locks.specs.Threads.{IsThread}
use Rattle.k_ipc.proofs.tests.is_thread.Goals as goal

pub returns-in-Some-clause-spelled : goal.returns-in-Some-clause-spelled
returns-in-Some-clause-spelled c = λ e.
    let w = c.in-Some.word in
    let h = (c.in-Some.ensures.spelled w).0 refl in
    subst (λ (n : ℕ). IsStateSpelling n) h.1 (state-whole w h.0)

pub returns-in-Some-clause-thread : goal.returns-in-Some-clause-thread
returns-in-Some-clause-thread c = λ e.
    let w = c.in-Some.word in
    let h = (c.in-Some.ensures.spelled w).0 refl in
    let born : 1 ≤ w.version = grind (arith, nat_tests, e) in
    subst (λ (v : StateWord). IsThread v) (sym (spells-read c.args.bits w h)) (record { whole = h.0; born = born })
