-- The threads that sections have turned on and have yet to put into a ready list: what each location says of the one that it
-- pushes.
use Rattle.std.specs.Prelude.{◌≡◌, ◌⊎◌, ℕ, ◌<◌, true, false, Option, Some, None, if◌then◌else◌}
use Rattle.k_ids.specs.declared.threads.ThreadId.{ThreadId}
use Rattle.k_ids.specs.declared.state_word.StateWord.{StateWord}
use Rattle.k_locks.specs.Shown.{is_dead}
use Rattle.k_locks.specs.Threads.{runs}
use Rattle.k_senders.specs.declared.entries.SenderEntry.{SenderEntry}
use Rattle.k_senders.specs.Entries.{sender_of}
use Rattle.k_ipc.specs.declared.send.SendCall.{SendCall}
use Rattle.k_ipc.specs.declared.send.SendLocked.TheVariants as send_locked
use Rattle.k_ipc.specs.declared.send.SendPushing.TheVariants as send_pushing
use Rattle.k_ipc.specs.SendTable.{SendAt}
use Rattle.k_ipc.specs.SendTable as send
use Rattle.k_ipc.specs.declared.receive.ReceiveLocked.TheVariants as receive_locked
use Rattle.k_ipc.specs.declared.receive.ReceivePushing.TheVariants as receive_pushing
use Rattle.k_ipc.specs.ReceiveTable.{ReceiveAt, is_pushed, stays_out}
use Rattle.k_ipc.specs.ReceiveTable as receive
use Rattle.k_threads.specs.declared.create.CreateCall.{CreateCall}
use Rattle.k_threads.specs.declared.create.CreateLocked.TheVariants as create_locked
use Rattle.k_threads.specs.CreateTable.{CreateAt}
use Rattle.k_threads.specs.CreateTable as create
use Rattle.k_threads.specs.declared.destroy.DestroyVictim.TheVariants as victim
use Rattle.k_threads.specs.declared.destroy.DestroyVisit.TheVariants as visit
use Rattle.k_threads.specs.declared.destroy.DestroyPushing.TheVariants as destroy_pushing
use Rattle.k_threads.specs.DestroyTable.{DestroyAt}
use Rattle.k_threads.specs.DestroyTable as destroy
use Rattle.k_threads.specs.Words.{thread_at}
use Rattle.k_board.specs.Words.{Seen}
use Rattle.k_board.specs.Boards.{At, Alone, InSend, InReceive, InCreate, InDestroy, InSwitch, Resting, Coming, Nowhere, Board}
use Rattle.k_tokens.specs.World.{Threads}
use Rattle.k_tokens.specs.Good.{Told}
use Rattle.k_grants.specs.Views.{threads_of}

-- OF A WORD

-- it is of this thread, which runs, and is on
pub record IsOn (w : StateWord) (who : ThreadId) : Type 0 where
  pub version : w.version ≡ who.version
  pub running : runs w.state ≡ true
  pub on : w.on ≡ true

-- .. at the priority with which it will be pushed
abbrev pub IsOnAt : StateWord → ThreadId → ℕ → Type 0
IsOnAt w who priority = IsOn w who × (w.priority ≡ priority)

-- the thread was destroyed, so its number has a later one, or none
abbrev pub WasKilled : StateWord → ThreadId → Type 0
WasKilled w who = (who.version < w.version) ⊎ ((w.version ≡ who.version) × (is_dead w ≡ true))

-- OF A LOCATION

abbrev pub word_at : (ℕ → Seen) → ThreadId → StateWord
word_at seen who = (seen who.number).word

-- the priority that a loaded word tells, where it is of the thread while that runs
abbrev pub told_by : SenderEntry → StateWord → Option ℕ
told_by e w = if is_pushed e w then Some w.priority else None

-- the receiver, whose lock is held
abbrev pub SendPushes : (ℕ → Seen) → SendCall → SendAt → Type 0
SendPushes seen c (send.Locked (send_locked.AcquireReady priority)) = IsOnAt (word_at seen c.to) c.to priority
SendPushes seen c (send.Pushing (send_pushing.PushReceiver priority)) = IsOnAt (word_at seen c.to) c.to priority
SendPushes seen c p = Unit {0}

-- The thread whose message was taken may have been destroyed since.
abbrev pub IsTaken : (ℕ → Seen) → ThreadId → Type 0
IsTaken seen who = IsOn (word_at seen who) who ⊎ WasKilled (word_at seen who) who

-- .. and then the load told so, or it may still stand in a ready list
pub record IsLoaded (seen : ℕ → Seen) (threads : Threads) (e : SenderEntry) (w : StateWord) : Type 0 where
  pub who : IsOnAt (word_at seen (sender_of e)) (sender_of e) w.priority ⊎ WasKilled (word_at seen (sender_of e)) (sender_of e)
  pub told : Told threads (sender_of e) (told_by e w)

-- the sender of the entry
abbrev pub ReceivePushes : (ℕ → Seen) → Threads → ReceiveAt → Type 0
ReceivePushes seen threads (receive.Locked (receive_locked.EndPick e w)) = stays_out w ≡ false → IsTaken seen (sender_of e)
ReceivePushes seen threads (receive.Locked (receive_locked.AcquireReady e)) = IsTaken seen (sender_of e)
ReceivePushes seen threads (receive.Pushing (receive_pushing.LoadFreed e)) = IsTaken seen (sender_of e)
ReceivePushes seen threads (receive.Pushing (receive_pushing.PushFreed e w)) = IsLoaded seen threads e w
ReceivePushes seen threads p = Unit {0}

-- the new thread: nobody destroys it, since the table lock is held
abbrev pub CreatePushes : (ℕ → Seen) → CreateCall → CreateAt → Type 0
CreatePushes seen c (create.Locked (create_locked.AcquireReady id)) = IsOnAt (word_at seen id) id c.priority
CreatePushes seen c (create.PushCreated id) = IsOnAt (word_at seen id) id c.priority
CreatePushes seen c p = Unit {0}

-- the freed thread, by its word as it was loaded
abbrev pub IsFreed : (ℕ → Seen) → ℕ → StateWord → Type 0
IsFreed seen number w = IsOnAt (word_at seen (thread_at number w)) (thread_at number w) w.priority

abbrev pub DestroyPushes : (ℕ → Seen) → DestroyAt → Type 0
DestroyPushes seen (destroy.Victim (victim.AcquireReadyForSender sender w)) = IsFreed seen sender w
DestroyPushes seen (destroy.Pushing (destroy_pushing.PushSender sender w)) = IsFreed seen sender w
DestroyPushes seen (destroy.Visit (visit.AcquireReadyForVisited visited w)) = IsFreed seen visited w
DestroyPushes seen (destroy.Pushing (destroy_pushing.PushVisited visited w)) = IsFreed seen visited w
DestroyPushes seen p = Unit {0}

abbrev pub PushSays : (ℕ → Seen) → Threads → At → Type 0
PushSays seen threads (InSend c p) = SendPushes seen c p
PushSays seen threads (InReceive c p) = ReceivePushes seen threads p
PushSays seen threads (InCreate c p) = CreatePushes seen c p
PushSays seen threads (InDestroy c p) = DestroyPushes seen p
PushSays seen threads (Alone p) = Unit {0}
PushSays seen threads (InSwitch c p) = Unit {0}
PushSays seen threads Resting = Unit {0}
PushSays seen threads Coming = Unit {0}
PushSays seen threads Nowhere = Unit {0}

-- OF A BOARD

abbrev pub board_threads : Board → Threads
board_threads b = threads_of (λ t. (b.seen t).word.priority) b

abbrev pub PushesHold : Board → Type 0
PushesHold b = (k : ℕ) → PushSays b.seen (board_threads b) (b.context k).at
