-- What a context still has to do in queues of senders, by its location.
use Rattle.std.specs.Prelude.{◌≡◌, ◌≢◌, ℕ, ◌<◌, ◌≤◌, Option, Some, None}
use Rattle.k_ids.specs.declared.threads.ThreadId.{ThreadId}
use Rattle.k_senders.specs.declared.entries.SenderEntry.{SenderEntry}
use Rattle.k_ipc.specs.declared.send.SendCall.{SendCall}
use Rattle.k_ipc.specs.declared.send.SendLocked.TheVariants as send_locked
use Rattle.k_ipc.specs.declared.send.SendRelease.TheVariants as send_release
use Rattle.k_ipc.specs.SendTable.{SendAt}
use Rattle.k_ipc.specs.SendTable as send
use Rattle.k_ipc.specs.declared.receive.ReceiveLocked.TheVariants as locked
use Rattle.k_ipc.specs.declared.receive.ReceiveRelease.TheVariants as returns
use Rattle.k_ipc.specs.declared.receive.ReceivePushing.TheVariants as pushing
use Rattle.k_ipc.specs.ReceiveTable.{ReceiveAt}
use Rattle.k_ipc.specs.ReceiveTable as receive
use Rattle.k_threads.specs.declared.destroy.DestroyCall.{DestroyCall}
use Rattle.k_threads.specs.declared.destroy.DestroyLocked.TheVariants as destroy_locked
use Rattle.k_threads.specs.declared.destroy.DestroyVictim.TheVariants as victim
use Rattle.k_threads.specs.declared.destroy.DestroyPushing.TheVariants as destroy_pushing
use Rattle.k_threads.specs.DestroyTable.{DestroyAt}
use Rattle.k_threads.specs.DestroyTable as destroy
use Rattle.k_board.specs.Boards.{At, Alone, InSend, InReceive, InCreate, InDestroy, InSwitch, Resting, Coming, Nowhere, Board}

-- What is left to do in queues; it is done under the locks that the location holds.
pub data Task : Type 0 where
  Idle : Task  -- nothing
  Comes : ThreadId → Task  -- a thread that waits for this one has to come into its queue
  TakesOut : SenderEntry → Task  -- the entry whose message was taken has to leave the own queue
  -- a destroy has to empty the victim's queue; where it has freed the first sender, the entry of that number is still there
  Empties : DestroyCall → Option ℕ → Task
  Visits : DestroyCall → ℕ → Task  -- a destroy has to take the victim's entry out of the queues from this number on

-- the task at a location of a send, of a receive or a pick, and of a destroy
abbrev pub task_send : SendCall → SendAt → Task
task_send c (send.Locked (send_locked.Release send_release.Queued)) = Comes c.to
task_send c p = Idle

abbrev pub task_receive : ReceiveAt → Task
task_receive (receive.Locked (locked.AcquireReady e)) = TakesOut e
task_receive (receive.Pushing (pushing.LoadFreed e)) = TakesOut e
task_receive (receive.Pushing (pushing.PushFreed e w)) = TakesOut e
task_receive (receive.Locked (locked.EndPick e w)) = TakesOut e
task_receive (receive.Locked (locked.Release (returns.Taken e))) = TakesOut e
task_receive p = Idle

abbrev pub task_destroy : DestroyCall → DestroyAt → Task
task_destroy c (destroy.Victim (victim.LoadSender sender)) = Empties c None
task_destroy c (destroy.Victim (victim.FreeSender sender seen)) = Empties c None
task_destroy c (destroy.Victim (victim.AcquireReadyForSender sender seen)) = Empties c (Some sender)
task_destroy c (destroy.Pushing (destroy_pushing.PushSender sender seen)) = Empties c (Some sender)
task_destroy c (destroy.Victim victim.ReleaseVictimLock) = Visits c 0
task_destroy c (destroy.Locked destroy_locked.AcquireReadyForVictim) = Visits c 0
task_destroy c destroy.UnlistVictim = Visits c 0
task_destroy c (destroy.Locked destroy_locked.RemoveContext) = Visits c 0
task_destroy c (destroy.Locked (destroy_locked.AcquireVisitedLock visited)) = Visits c visited
task_destroy c (destroy.Visit p) = Visits c (destroy.visited_at p)
task_destroy c (destroy.Pushing (destroy_pushing.PushVisited visited seen)) = Visits c visited
task_destroy c p = Idle

-- the task at any location
abbrev pub task_at : At → Task
task_at (InSend c p) = task_send c p
task_at (InReceive c p) = task_receive p
task_at (InDestroy c p) = task_destroy c p
task_at (InCreate c p) = Idle
task_at (Alone p) = Idle
task_at (InSwitch c p) = Idle
task_at Resting = Idle
task_at Coming = Idle
task_at Nowhere = Idle

-- the task of the context of this number
abbrev pub task_of : Board → ℕ → Task
task_of b n = task_at (b.context n).at

-- WHAT A DESTROY'S TASK TELLS

-- the sender of this number was freed, and its entry is still in the queue of number t
abbrev pub IsFreed : Task → ℕ → ℕ → Type 0
IsFreed (Empties c (Some sender)) t n = (c.who.number ≡ t) × (sender ≡ n)
IsFreed (Empties c None) t n = ⊥
IsFreed (Visits c from) t n = ⊥
IsFreed (Comes to) t n = ⊥
IsFreed (TakesOut e) t n = ⊥
IsFreed Idle t n = ⊥

-- The victim is this thread, and its entry in the queue of number t has yet to be taken out: the numbers from `from` on are
-- visited, but not the victim's.
pub record IsAhead (c : DestroyCall) (from : ℕ) (id : ThreadId) (t : ℕ) : Type 0 where
  pub who : c.who ≡ id
  pub other : t ≢ c.who.number
  pub inside : t < c.count
  pub ahead : from ≤ t

-- the same of any task: before the visits, all are ahead
abbrev pub IsToVisit : Task → ThreadId → ℕ → Type 0
IsToVisit (Empties c freed) id t = IsAhead c 0 id t
IsToVisit (Visits c from) id t = IsAhead c from id t
IsToVisit (Comes to) id t = ⊥
IsToVisit (TakesOut e) id t = ⊥
IsToVisit Idle id t = ⊥

-- the victim is this thread, and those who wait for it are being freed
abbrev pub IsEmptied : Task → ThreadId → Type 0
IsEmptied (Empties c freed) to = c.who ≡ to
IsEmptied (Visits c from) to = ⊥
IsEmptied (Comes id) to = ⊥
IsEmptied (TakesOut e) to = ⊥
IsEmptied Idle to = ⊥

-- a context has such a task
pub record Somewhere (b : Board) (P : Task → Type 0) : Type 0 where
  pub number : ℕ
  pub has : P (task_of b number)
