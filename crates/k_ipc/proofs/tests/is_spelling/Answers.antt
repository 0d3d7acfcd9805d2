use Rattle.std.proofs.Common.{ℕ, refl, subst}
use Rattle.k_ids.specs.StateWords.{IsStateSpelling}
use Rattle.k_ids.proofs.StateSpelled.{state-whole}
use Rattle.k_ipc.proofs.tests.is_spelling.Goals as goal

pub returns-in-Some : goal.returns-in-Some
returns-in-Some c = λ e.
    let w = c.in-Some.field-0 in
    let h = (c.in-Some.ensures.spelled w).0 refl in
    subst (λ (n : ℕ). IsStateSpelling n) h.1 (state-whole w h.0)
