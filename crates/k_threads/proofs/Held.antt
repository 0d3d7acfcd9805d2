-- The locks that a create or a destroy holds: each stands at its rank.
use Rattle.std.proofs.Common.{◌≡◌, ℕ, Some, arith}
use Rattle.std.proofs.lemmas.Grind.{common_steps}
use Rattle.std.specs.Prelude.{slice_get}
use Rattle.k_locks.specs.declared.locks.Lock.{Lock}
use Rattle.k_locks.specs.Locks.{rank_of}
use Rattle.k_threads.specs.Goods.{all_three, no_lock, only_table, table_and_ready, table_and_thread}

pub nothing_held : (rank : ℕ) (l : Lock) → slice_get no_lock rank ≡ Some (Some l) → ⊥
nothing_held rank l e = grind (arith, common_steps)

pub table_ranked : (rank : ℕ) (l : Lock) → slice_get only_table rank ≡ Some (Some l) → rank_of l ≡ rank
table_ranked rank l e = grind (arith, common_steps)

pub thread_ranked : (n rank : ℕ) (l : Lock) → slice_get (table_and_thread n) rank ≡ Some (Some l) → rank_of l ≡ rank
thread_ranked n rank l e = grind (arith, common_steps)

pub table_ready_ranked : (rank : ℕ) (l : Lock) → slice_get table_and_ready rank ≡ Some (Some l) → rank_of l ≡ rank
table_ready_ranked rank l e = grind (arith, common_steps)

pub all_ranked : (n rank : ℕ) (l : Lock) → slice_get (all_three n) rank ≡ Some (Some l) → rank_of l ≡ rank
all_ranked n rank l e = grind (arith, common_steps)
