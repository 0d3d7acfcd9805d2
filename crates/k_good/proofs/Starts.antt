-- At the start no lock is owned and no location holds one.
use Rattle.std.proofs.Common.{◌≡◌, ℕ, sym, ap, ◌∙◌, subst, Some, None, [], ◌∷◌}
use Rattle.k_locks.specs.declared.locks.Lock.{Lock}
use Rattle.k_locks.specs.declared.locks.Lock.TheVariants as lock
use Rattle.k_locks.specs.Locks.{Holds}
use Rattle.k_board.specs.Words.{Programs}
use Rattle.k_board.specs.Boards.{Board, Context, owner_of}
use Rattle.k_board.specs.Boots.{Booted, has_thread, has_none, has_carrier}
use Rattle.k_good.specs.Locks.{locks_at, owner_by}
use Rattle.k_good.proofs.Owners.{Named}

none_held : (l : Lock) → Holds l (None ∷ None ∷ None ∷ []) → ⊥
none_held (lock.Thread n) q = cc
none_held lock.Table q = cc
none_held lock.Ready q = cc

nothing_at : (g : Programs) (b : Board) (n : ℕ) → Booted g b n → locks_at (b.context n).at ≡ None ∷ None ∷ None ∷ []
nothing_at g b n (has_thread program priority t) = ap (λ (x : Context). locks_at x.at) t.context
nothing_at g b n (has_none d e) = ap locks_at e
nothing_at g b n (has_carrier d e) = ap locks_at e

none_some : {a : ℕ} → None ≡ Some a → ⊥
none_some e = cc

pub locks_start : (g : Programs) (b : Board) → ((n : ℕ) → Booted g b n) → ((l : Lock) → owner_of b l ≡ None) → Named b
locks_start g b h free = record { held = λ l i e. absurd (none_some (sym (by l) ∙ e)); named = λ l i q. absurd (none_held l (subst (Holds l) (nothing_at g b i (h i)) q)) }
  where
    by : (l : Lock) → owner_by b.owner b.table b.ready l ≡ None
    by (lock.Thread n) = free (lock.Thread n)
    by lock.Table = free lock.Table
    by lock.Ready = free lock.Ready
