-- Of a good board: a lock names a context exactly where the context's location holds the lock.
use Rattle.std.specs.Prelude.{◌≡◌, ℕ, Option, Some, List}
use Rattle.k_locks.specs.declared.locks.Lock.{Lock}
use Rattle.k_locks.specs.declared.locks.Lock.TheVariants as lock
use Rattle.k_locks.specs.Locks.{Holds}
use Rattle.k_ipc.specs.SendTable as send
use Rattle.k_ipc.specs.ReceiveTable as receive
use Rattle.k_threads.specs.CreateTable as create
use Rattle.k_threads.specs.DestroyTable as destroy
use Rattle.k_threads.specs.Goods.{no_lock}
use Rattle.k_switch.specs.Switches as switch
use Rattle.k_board.specs.Boards.{At, Alone, InSend, InReceive, InCreate, InDestroy, InSwitch, Resting, Coming, Nowhere, Context}

-- the locks that a location holds, by rank
abbrev pub locks_at : At → List (Option Lock)
locks_at (Alone p) = no_lock
locks_at (InSend c p) = send.locks_of c p
locks_at (InReceive c p) = receive.locks_of c p
locks_at (InCreate c p) = create.locks_of c p
locks_at (InDestroy c p) = destroy.locks_of c p
locks_at (InSwitch c p) = switch.locks_of p
locks_at Resting = no_lock
locks_at Coming = no_lock
locks_at Nowhere = no_lock

abbrev pub owner_by : (ℕ → Option ℕ) → Option ℕ → Option ℕ → Lock → Option ℕ
owner_by owner table ready (lock.Thread number) = owner number
owner_by owner table ready lock.Table = table
owner_by owner table ready lock.Ready = ready

pub record LocksHold (owner : ℕ → Option ℕ) (table ready : Option ℕ) (context : ℕ → Context) : Type 0 where
  pub held : (l : Lock) (i : ℕ) → owner_by owner table ready l ≡ Some i → Holds l (locks_at (context i).at)
  pub named : (l : Lock) (i : ℕ) → Holds l (locks_at (context i).at) → owner_by owner table ready l ≡ Some i
