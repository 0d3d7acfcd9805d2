-- Threads by number and version.
use Rattle.std.proofs.Common.{◌≡◌, ℕ, false, List, [], ◌∷◌, Some, arith, refl}
use Rattle.std.specs.Prelude.{◌==◌}
use Rattle.std.proofs.lemmas.Grind.{common_steps}
use Rattle.k_ids.specs.declared.threads.ThreadId.{ThreadId}
use Rattle.k_ready.specs.Lists.{IsOnceEach, entry_of, has_thread, number_of, stands}

pub entry_number : (n : ℕ) (es : List ThreadId) (e : ThreadId) → entry_of n es ≡ Some e → number_of e ≡ n
entry_number n [] e h = absurd (cc)
entry_number n (f ∷ es) e h = grind (arith, common_steps, entry_number n es e)

pub nobody_has : (n v : ℕ) (es : List ThreadId) → stands n es ≡ false → has_thread (record { number = n; version = v }) es ≡ false
nobody_has n v [] s = refl
nobody_has n v (f ∷ es) s = grind (arith, common_steps, nobody_has n v es)

pub thread_is : (n v : ℕ) (es : List ThreadId) (e : ThreadId) → IsOnceEach es → entry_of n es ≡ Some e → has_thread (record { number = n; version = v }) es ≡ (e.version == v)
thread_is n v [] e o h = absurd (cc)
thread_is n v (f ∷ es) e o h = grind (arith, common_steps, thread_is n v es e, nobody_has n v es)
