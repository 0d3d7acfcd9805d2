-- A context that names no lock holds none.
use Rattle.std.proofs.Common.{◌≡◌, refl}
use Rattle.k_locks.specs.declared.locks.Lock.{Lock}
use Rattle.k_locks.specs.declared.locks.Lock.TheVariants as lock
use Rattle.k_locks.specs.Locks.{Holds}
use Rattle.k_ipc.specs.SendTable as send
use Rattle.k_ipc.specs.ReceiveTable as receive
use Rattle.k_threads.specs.CreateTable as create
use Rattle.k_threads.specs.DestroyTable as destroy
use Rattle.k_board.specs.Boards.{At, Alone, InSend, InReceive, InCreate, InDestroy, InSwitch, Resting, Coming, Nowhere}
use Rattle.k_good.specs.Locks.{locks_at}
use Rattle.k_tokens.specs.World.{no_locks}
use Rattle.k_grants.specs.Views.{look_at}

pub free_locks : (p : At) → ((l : Lock) → Holds l (locks_at p) → ⊥) → (look_at p).locks ≡ no_locks
free_locks (Alone p) h = refl
free_locks (InSend c (send.Outside p)) h = refl
free_locks (InSend c (send.Locked p)) h = absurd (h (lock.Thread c.to.number) refl)
free_locks (InSend c (send.Pushing p)) h = absurd (h lock.Ready refl)
free_locks (InReceive c (receive.Outside p)) h = refl
free_locks (InReceive c (receive.Locked p)) h = absurd (h (lock.Thread c.caller.number) refl)
free_locks (InReceive c (receive.Pushing p)) h = absurd (h lock.Ready refl)
free_locks (InCreate c (create.Outside p)) h = refl
free_locks (InCreate c (create.Locked p)) h = absurd (h lock.Table refl)
free_locks (InCreate c (create.PushCreated id)) h = absurd (h lock.Table refl)
free_locks (InDestroy c (destroy.Outside p)) h = refl
free_locks (InDestroy c (destroy.Locked p)) h = absurd (h lock.Table refl)
free_locks (InDestroy c (destroy.Victim p)) h = absurd (h lock.Table refl)
free_locks (InDestroy c (destroy.Visit p)) h = absurd (h lock.Table refl)
free_locks (InDestroy c destroy.UnlistVictim) h = absurd (h lock.Table refl)
free_locks (InDestroy c (destroy.Pushing p)) h = absurd (h lock.Table refl)
free_locks (InSwitch c p) h = refl
free_locks Resting h = refl
free_locks Coming h = refl
free_locks Nowhere h = refl
