-- The ranks of the locks, what each lock guards, and which locks are held.
use Rattle.std.specs.Prelude.{◌≡◌, ℕ, Bool, true, false, Option, Some, None, List, [], ◌∷◌, slice_get}
use Rattle.k_locks.specs.declared.locks.Lock.{Lock}
use Rattle.k_locks.specs.declared.locks.Lock.TheVariants as lock
use Rattle.k_locks.specs.declared.goods.Goods.{Goods}
use Rattle.k_locks.specs.declared.goods.Goods.TheVariants as goods

-- A section takes locks in rising rank.
abbrev pub rank_of : Lock → ℕ
rank_of lock.Table = 0
rank_of (lock.Thread number) = 1
rank_of lock.Ready = 2

-- whether the lock guards goods of this kind
abbrev pub guards : Lock → Goods → Bool
guards lock.Table (goods.Numbers numbers) = true
guards (lock.Thread number) (goods.Senders queue) = true
guards lock.Ready (goods.Ready lists) = true
guards l g = false

-- Locks by rank: the one at each index has that rank.
abbrev pub IsByRank : List (Option Lock) → Type 0
IsByRank locks = (rank : ℕ) (l : Lock) → slice_get locks rank ≡ Some (Some l) → rank_of l ≡ rank

-- This lock is held.
abbrev pub Holds : Lock → List (Option Lock) → Type 0
Holds l locks = slice_get locks (rank_of l) ≡ Some (Some l)

-- the lock of the lowest rank that is held
abbrev pub lowest_held : List (Option Lock) → Option Lock
lowest_held [] = None
lowest_held (Some l ∷ more) = Some l
lowest_held (None ∷ more) = lowest_held more
