-- The locks of a section that holds none, one thread lock, or that and the ready lock.
use Rattle.std.proofs.Common.{◌≡◌, ℕ, Option, Some, None, List, [], ◌∷◌, subst, arith}
use Rattle.std.proofs.lemmas.Grind.{common_steps}
use Rattle.std.specs.Prelude.{◌==◌, slice_get, if◌then◌else◌}
use Rattle.k_locks.specs.declared.locks.Lock.{Lock}
use Rattle.k_locks.specs.declared.locks.Lock.TheVariants.{Table, Thread, Ready}
use Rattle.k_locks.specs.Locks.{Holds}

abbrev pub no_locks : List (Option Lock)
no_locks = None ∷ None ∷ None ∷ []

pub none_held : (rank : ℕ) (l : Lock) → slice_get no_locks rank ≡ Some (Some l) → ⊥
none_held rank l e = grind (arith, common_steps)

-- what holds of the lock of one thread number, holds of the thread lock that is held
pub by_thread : (number : ℕ) (ready : Option Lock) (k : Lock) (P : Lock → Type 0) → Holds k (None ∷ Some (Thread number) ∷ ready ∷ []) → P (Thread number) → (ready ≡ Some Ready → P Ready) → P k
by_thread number ready Table P h thread lists = absurd cc
by_thread number ready (Thread n) P h thread lists = let same : number ≡ n = cc in subst (λ (x : ℕ). P (Thread x)) same thread
by_thread number ready Ready P h thread lists = lists cc

-- what stands at the lock's own number
pub own_number : (n x : ℕ) → (if n == n then x else 0) ≡ x
own_number n x = grind (arith, common_steps)
