-- What a context's task tells of the board, by the facts of its location.
use Rattle.std.proofs.Common.{◌≡◌, ◌≢◌, ℕ, true, refl, sym, ap, ◌∙◌, subst, Some, None}
use Rattle.k_ids.specs.declared.threads.ThreadId.{ThreadId}
use Rattle.k_locks.specs.declared.locks.Lock.TheVariants as lock
use Rattle.k_locks.specs.Shown.{is_dead}
use Rattle.k_script.specs.Plays.{IsInRange}
use Rattle.k_ipc.specs.declared.send.SendCall.{SendCall}
use Rattle.k_ipc.specs.declared.send.SendLocked.TheVariants as send_locked
use Rattle.k_ipc.specs.declared.send.SendRelease.TheVariants as send_release
use Rattle.k_ipc.specs.SendTable.{SendAt}
use Rattle.k_ipc.specs.SendTable as send
use Rattle.k_ipc.specs.declared.receive.ReceiveCall.{ReceiveCall}
use Rattle.k_ipc.specs.declared.receive.ReceiveLocked.TheVariants as locked
use Rattle.k_ipc.specs.declared.receive.ReceiveRelease.TheVariants as returns
use Rattle.k_ipc.specs.declared.receive.ReceivePushing.TheVariants as pushing
use Rattle.k_ipc.specs.ReceiveTable.{ReceiveAt}
use Rattle.k_ipc.specs.ReceiveTable as receive
use Rattle.k_threads.specs.declared.destroy.DestroyCall.{DestroyCall}
use Rattle.k_threads.specs.declared.destroy.DestroyLocked.TheVariants as destroy_locked
use Rattle.k_threads.specs.declared.destroy.DestroyVictim.TheVariants as victim
use Rattle.k_threads.specs.declared.destroy.DestroyVisit.TheVariants as visit
use Rattle.k_threads.specs.declared.destroy.DestroyPushing.TheVariants as destroy_pushing
use Rattle.k_threads.specs.DestroyTable.{DestroyAt}
use Rattle.k_threads.specs.DestroyTable as destroy
use Rattle.k_board.specs.Words.{Programs}
use Rattle.k_board.specs.Boards.{At, Alone, InSend, InReceive, InCreate, InDestroy}
use Rattle.k_board.specs.Boards.{InSwitch, Resting, Coming, Nowhere, Board, Context}
use Rattle.k_board.specs.Facts.{AllSay}
use Rattle.k_board.specs.Steps.{Holds}
use Rattle.k_board.specs.Places.{PlacesHold, facts_destroy, facts_of, facts_receive, facts_send}
use Rattle.k_good.specs.Ranges.{FitsAt, IsWithin}
use Rattle.k_queues.proofs.Entries.{some_is}
use Rattle.k_queues.specs.Tasks.{Comes, Empties, Idle, IsEmptied, IsFreed, IsToVisit, Somewhere, TakesOut}
use Rattle.k_queues.specs.Tasks.{Task, Visits, task_at, task_destroy, task_of, task_receive, task_send}

-- the victim is no more, and the table lock is held
pub record IsDestroying (b : Board) (n : ℕ) (who : ThreadId) : Type 0 where
  pub table : b.table ≡ Some n
  pub dead : is_dead (b.seen who.number).word ≡ true
  pub version : (b.seen who.number).word.version ≡ who.version

pub record IsComing (b : Board) (n : ℕ) (to : ThreadId) : Type 0 where
  pub owner : b.owner to.number ≡ Some n
  pub range : IsInRange b.size to

abbrev pub TaskSays : Board → ℕ → Task → Type 0
TaskSays b n Idle = Unit {0}
TaskSays b n (Comes to) = IsComing b n to
TaskSays b n (TakesOut e) = b.owner n ≡ Some n
TaskSays b n (Empties c freed) = IsDestroying b n c.who
TaskSays b n (Visits c from) = IsDestroying b n c.who

module _ (g : Programs) (b : Board) (n : ℕ) (x : Context) where
  gone_is : (c : DestroyCall) →
      (b.table ≡ Some n) × (is_dead (b.seen c.who.number).word ≡ true) × ((b.seen c.who.number).word.version ≡ c.who.version) →
      IsDestroying b n c.who
  gone_is c f = record { table = f.0; dead = f.1; version = f.2 }

  says_send : (c : SendCall) (p : SendAt) → AllSay g b n x (facts_send c p) → IsInRange b.size c.to → TaskSays b n (task_send c p)
  says_send c (send.Locked (send_locked.Release send_release.Queued)) f r = record { owner = f.1.1.1.0.0; range = r }
  says_send c p f r = tt

  says_receive : (c : ReceiveCall) (p : ReceiveAt) → AllSay g b n x (facts_receive c p) → TaskSays b n (task_receive p)
  says_receive c (receive.Locked (locked.AcquireReady e)) f = f.1.1.1.1.1.1.0.1
  says_receive c (receive.Pushing (pushing.LoadFreed e)) f = f.1.1.1.1.1.1.0.1
  says_receive c (receive.Pushing (pushing.PushFreed e w)) f = f.1.1.1.1.1.1.0.1
  says_receive c (receive.Locked (locked.EndPick e w)) f = f.1.1.1.1.1.1.0.1
  says_receive c (receive.Locked (locked.Release (returns.Taken e))) f = f.1.1.1.1.1.1.0.1
  says_receive c p f = tt

  says_destroy : (c : DestroyCall) (p : DestroyAt) → AllSay g b n x (facts_destroy c p) → TaskSays b n (task_destroy c p)
  says_destroy c (destroy.Victim (victim.LoadSender sender)) f = gone_is c f.0
  says_destroy c (destroy.Victim (victim.FreeSender sender seen)) f = gone_is c f.0
  says_destroy c (destroy.Victim (victim.AcquireReadyForSender sender seen)) f = gone_is c f.0
  says_destroy c (destroy.Pushing (destroy_pushing.PushSender sender seen)) f = gone_is c f.0
  says_destroy c (destroy.Victim victim.ReleaseVictimLock) f = gone_is c f.0
  says_destroy c (destroy.Locked destroy_locked.AcquireReadyForVictim) f = gone_is c f.0
  says_destroy c destroy.UnlistVictim f = gone_is c f.0
  says_destroy c (destroy.Locked destroy_locked.RemoveContext) f = gone_is c f.0
  says_destroy c (destroy.Locked (destroy_locked.AcquireVisitedLock visited)) f = gone_is c f.0
  says_destroy c (destroy.Visit (visit.LoadVisited visited)) f = gone_is c f.0
  says_destroy c (destroy.Visit (visit.FreeVisited visited seen)) f = gone_is c f.0
  says_destroy c (destroy.Visit (visit.AcquireReadyForVisited visited seen)) f = gone_is c f.0
  says_destroy c (destroy.Visit (visit.ReleaseVisitedLock visited)) f = gone_is c f.0
  says_destroy c (destroy.Pushing (destroy_pushing.PushVisited visited seen)) f = gone_is c f.0
  says_destroy c p f = tt

  says_at : (p : At) → AllSay g b n x (facts_of p) → FitsAt b.size p → TaskSays b n (task_at p)
  says_at (InSend c p) f r = says_send c p f r
  says_at (InReceive c p) f r = says_receive c p f
  says_at (InDestroy c p) f r = says_destroy c p f
  says_at (InCreate c p) f r = tt
  says_at (Alone p) f r = tt
  says_at (InSwitch c p) f r = tt
  says_at Resting f r = tt
  says_at Coming f r = tt
  says_at Nowhere f r = tt

pub task_says : (g : Programs) (b : Board) → PlacesHold g b → IsWithin b → (n : ℕ) → TaskSays b n (task_of b n)
task_says g b f w n = says_at g b n (b.context n) (b.context n).at (f n) (w.targets n)

-- A DESTROY'S TASK

pub visits_destroying : (b : Board) (n t : ℕ) (id : ThreadId) (k : Task) → TaskSays b n k → IsToVisit k id t → b.table ≡ Some n
visits_destroying b n t id (Empties c freed) s v = s.table
visits_destroying b n t id (Visits c from) s v = s.table
visits_destroying b n t id Idle s v = absurd v
visits_destroying b n t id (Comes to) s v = absurd v
visits_destroying b n t id (TakesOut e) s v = absurd v

pub visited_dead : (b : Board) (n t : ℕ) (id : ThreadId) (k : Task) → TaskSays b n k → IsToVisit k id t →
    is_dead (b.seen id.number).word ≡ true
visited_dead b n t id (Empties c freed) s v = subst (λ (u : ThreadId). is_dead (b.seen u.number).word ≡ true) v.who s.dead
visited_dead b n t id (Visits c from) s v = subst (λ (u : ThreadId). is_dead (b.seen u.number).word ≡ true) v.who s.dead
visited_dead b n t id Idle s v = absurd v
visited_dead b n t id (Comes to) s v = absurd v
visited_dead b n t id (TakesOut e) s v = absurd v

pub visits_other : (k : Task) (id : ThreadId) (t : ℕ) → IsToVisit k id t → t ≢ id.number
visits_other (Empties c freed) id t v = λ e. v.other (e ∙ ap (λ (u : ThreadId). u.number) (sym v.who))
visits_other (Visits c from) id t v = λ e. v.other (e ∙ ap (λ (u : ThreadId). u.number) (sym v.who))
visits_other Idle id t v = absurd v
visits_other (Comes to) id t v = absurd v
visits_other (TakesOut e) id t v = absurd v

-- who holds no lock has nothing to do in queues
pub unlocked_idle : (b : Board) (n : ℕ) (k : Task) → TaskSays b n k → Holds b n → k ≡ Idle
unlocked_idle b n Idle s none = refl
unlocked_idle b n (Comes to) s none = absurd (none (lock.Thread to.number) s.owner)
unlocked_idle b n (TakesOut e) s none = absurd (none (lock.Thread n) s)
unlocked_idle b n (Empties c freed) s none = absurd (none lock.Table s.table)
unlocked_idle b n (Visits c from) s none = absurd (none lock.Table s.table)

pub freed_destroying : (b : Board) (n t m : ℕ) (k : Task) → TaskSays b n k → IsFreed k t m →
    (b.table ≡ Some n) × (is_dead (b.seen t).word ≡ true)
freed_destroying b n t m (Empties c (Some sender)) s v = (s.table, subst (λ (u : ℕ). is_dead (b.seen u).word ≡ true) v.0 s.dead)
freed_destroying b n t m (Empties c None) s v = absurd v
freed_destroying b n t m (Visits c from) s v = absurd v
freed_destroying b n t m Idle s v = absurd v
freed_destroying b n t m (Comes to) s v = absurd v
freed_destroying b n t m (TakesOut e) s v = absurd v

pub emptied_destroying : (b : Board) (n : ℕ) (to : ThreadId) (k : Task) → TaskSays b n k → IsEmptied k to → IsDestroying b n to
emptied_destroying b n to (Empties c freed) s v = subst (IsDestroying b n) v s
emptied_destroying b n to (Visits c from) s v = absurd v
emptied_destroying b n to Idle s v = absurd v
emptied_destroying b n to (Comes id) s v = absurd v
emptied_destroying b n to (TakesOut e) s v = absurd v

-- The owner of the table lock alone destroys.
module _ (b : Board) (says : (n : ℕ) → TaskSays b n (task_of b n)) (i : ℕ) (table : b.table ≡ Some i) where
  mine_is : (n : ℕ) → b.table ≡ Some n → n ≡ i
  mine_is n e = some_is (sym e ∙ table)

  pub visits_mine : (t : ℕ) (id : ThreadId) → Somewhere b (λ (k : Task). IsToVisit k id t) → IsToVisit (task_of b i) id t
  visits_mine t id s =
      subst (λ (n : ℕ). IsToVisit (task_of b n) id t) (mine_is s.number
      (visits_destroying b s.number t id (task_of b s.number) (says s.number) s.has)) s.has

  pub freed_mine : (t m : ℕ) → Somewhere b (λ (k : Task). IsFreed k t m) → IsFreed (task_of b i) t m
  freed_mine t m s =
      subst (λ (n : ℕ). IsFreed (task_of b n) t m) (mine_is s.number
      (freed_destroying b s.number t m (task_of b s.number) (says s.number) s.has).0) s.has

  pub emptied_mine : (to : ThreadId) → Somewhere b (λ (k : Task). IsEmptied k to) → IsEmptied (task_of b i) to
  emptied_mine to s =
      subst (λ (n : ℕ). IsEmptied (task_of b n) to) (mine_is s.number
      (emptied_destroying b s.number to (task_of b s.number) (says s.number) s.has).table) s.has
