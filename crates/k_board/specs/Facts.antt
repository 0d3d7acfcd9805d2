-- What the next step of a context rests on, as data; and what each such fact says of a board. Each names the lock that keeps it, so it
-- lasts by itself over any step of another context (rely and guarantee, Jones).
--
-- `i` is the number of the context, and `x` the context.
use Rattle.std.specs.Prelude.{◌≡◌, ◌≢◌, ◌⊎◌, ℕ, ◌+◌, ◌-◌, ◌<◌, ◌==◌, ◌&&◌, Bool, true, false, Option, Some, None, List, [], ◌∷◌}
use Rattle.k_ids.specs.declared.threads.ThreadId.{ThreadId}
use Rattle.k_ids.specs.declared.calls.Phase.{Phase}
use Rattle.k_ids.specs.declared.calls.Reply.{Reply}
use Rattle.k_ids.specs.declared.calls.Reply.TheVariants as reply
use Rattle.k_ids.specs.declared.state_word.Result4.{Result4}
use Rattle.k_ids.specs.declared.state_word.Result4.TheVariants as result4
use Rattle.k_ids.specs.declared.state_word.State.{State}
use Rattle.k_ids.specs.declared.state_word.State.TheVariants as state
use Rattle.k_ids.specs.declared.state_word.StateWord.{StateWord}
use Rattle.k_model.specs.State.{admits, same_id, takes_from}
use Rattle.k_model.specs.Step.{is_own}
use Rattle.k_senders.specs.declared.entries.SenderEntry.{SenderEntry}
use Rattle.k_senders.specs.Entries.{number_of, sender_of}
use Rattle.k_senders.specs.Queue.{entry_of, first_number, stands}
use Rattle.k_locks.specs.Numbers.{lowest_free, version_at}
use Rattle.k_locks.specs.Queues.{before}
use Rattle.k_locks.specs.Shown.{is_dead, is_present_in, shows}
use Rattle.k_ipc.specs.declared.send.SendCall.{SendCall}
use Rattle.k_ipc.specs.declared.receive.ReceiveCall.{ReceiveCall}
use Rattle.k_ipc.specs.ReceiveTable.{still_waits}
use Rattle.k_ipc.specs.Words.{sends_to}
use Rattle.k_threads.specs.declared.create.CreateCall.{CreateCall}
use Rattle.k_threads.specs.declared.destroy.DestroyCall.{DestroyCall}
use Rattle.k_threads.specs.Goods.{rest}
use Rattle.k_threads.specs.Words.{dead_word, is_receiving_from}
use Rattle.k_caller.specs.Waits.{is_waiting, off_word}
use Rattle.k_board.specs.Words.{Seen, Programs, Begins, Walks}
use Rattle.k_board.specs.Boards.{Coming, Nowhere, Context, Board}
use Rattle.k_board.specs.Steps.{new_context}

pub data Fact : Type 0 where
  -- THE CALLER'S WORD
  Me : ThreadId → Fact  -- the section is of the thread that has the context's number
  Free : Fact  -- it is `own`, a run with `on`, unless the caller was destroyed
  Kept : Fact  -- it is `own`, a run with `on`, and the caller can't be destroyed
  Settling : State → Fact  -- it is `own`, of this state, with `on`; the caller holds its own lock
  Queued : ThreadId →
      Fact  -- the caller sends to this thread, whose lock it holds, unless it was destroyed; it has no entry there
  Waits : Fact  -- the caller waits, or has been freed, or was destroyed
  Picks : Fact  -- the caller picks, or a message was delivered to it, or it was destroyed
  OwnWaits : Fact  -- `own` is the word of one that waits
  Rested : Fact  -- the caller's program is over, unless it was destroyed
  Died : Fact  -- the caller was destroyed
  -- THE CALLER'S LEDGER
  Fresh : Fact  -- the serial is one more than the ledger's last
  Called : Fact  -- it is the ledger's last
  Begun : Phase → Fact  -- the program gives this call, and the context's position is the one after it
  Settled : Fact  -- the context's position is the ledger's
  Told : Reply → Fact  -- the reply to the last call
  Remembers : Option Reply → Fact  -- the reply to take in, of one that runs; works were done since, if any
  Refused : Reply → Fact  -- the same as Told, with the serial and the position, unless the caller was destroyed
  Collects : ThreadId → Fact  -- the reply is that this thread's message was got, which is in the caller's mail
  -- LOCKS
  HoldsThread : ℕ → Fact
  HoldsTable : Fact
  HoldsReady : Fact
  -- A SEND
  SendsItself : SendCall → Fact
  Differs : ThreadId → Fact  -- this thread isn't the caller
  Apart : ℕ → Fact  -- this number isn't the caller's
  Accepting : SendCall → Fact  -- the receiver takes the message at once
  Mailed : SendCall → Fact  -- the receiver's mail is the message
  Passing : SendCall → Fact  -- the receiver has got the message by its ledger, and not yet by its word
  Busy : SendCall → Fact  -- the receiver is there, takes no message, and the caller may wait
  Loaded : ℕ → StateWord →
      Fact  -- the number's word is the loaded one, of a thread that takes messages, or the same with `on` off
  Fitting : SendCall → StateWord → Fact  -- the loaded word is one that takes the message
  -- A RECEIVE, AND A PICK
  Plainly : ReceiveCall → Fact  -- it is no pick, and not from its caller
  Itself : ReceiveCall → Fact  -- it is no pick, and from its caller
  NotZero : ReceiveCall → Fact
  Picking : ReceiveCall → Fact  -- it is the pick after a reply
  Closed : ReceiveCall → ThreadId → Fact  -- it is from this thread
  Reaches : ReceiveCall → SenderEntry → Fact  -- this entry is the first candidate whose sender isn't known to wait no more
  Exhausts : ReceiveCall → Fact  -- no candidate waits any more
  Sends : ReceiveCall → SenderEntry → StateWord → Fact  -- the word loaded shows that the entry's sender waits
  Taken : ReceiveCall → SenderEntry → Fact  -- the entry is in the queue, and its sender waits no more
  -- A CREATE
  Chosen : ThreadId → Fact  -- the lowest number that a new thread may get, in its next version
  Unmade : ThreadId → Fact  -- the number has no thread, and had one of the version before last
  Vacant : ThreadId → Fact  -- the number has no context
  Arriving : CreateCall → ThreadId → Fact  -- the number's context is the new thread's, which isn't made yet
  Present : ThreadId → Fact  -- the thread is there, and can't be destroyed
  -- A DESTROY
  DestroysItself : DestroyCall → Fact
  Shows : ThreadId → StateWord → Fact  -- the word loaded shows the thread
  Gone : ThreadId → Fact  -- the thread was destroyed, and its number isn't used again yet
  Row : ThreadId → Fact  -- the entries in the victim's queue are of threads that wait for it
  Rest : ThreadId → Fact  -- the same of the entries but the first
  Emptied : ThreadId → Fact  -- no entry is in the victim's queue
  Front : ThreadId → ℕ → Fact  -- the first entry is of this number
  Waiting : ThreadId → ℕ → StateWord → Fact  -- the word loaded shows that the first entry's sender waits for the victim
  Visited : DestroyCall → ℕ → Fact  -- a number of the table, and not the victim's
  Receives : ThreadId → ℕ → StateWord → Fact  -- the word loaded shows that the number's thread waits for the victim's message
  Deaf : ThreadId → ℕ → Fact  -- the number's thread doesn't wait for the victim's message
  -- the location never stands
  Never : Fact

-- WORDS

-- whether a thread of this state may be delivered a message
abbrev pub is_open : State → Bool
is_open state.Dead = false
is_open (state.Run result) = false
is_open (state.Sending to joined) = false
is_open (state.Receiving from) = true
is_open state.Picking = true
is_open state.Ended = false

-- whether a thread of this state waits, and not as one that picks
abbrev pub may_wait : State → Bool
may_wait state.Dead = false
may_wait (state.Run result) = false
may_wait (state.Sending to joined) = true
may_wait (state.Receiving from) = true
may_wait state.Picking = false
may_wait state.Ended = false

-- the word is this one, unless its thread was destroyed
abbrev pub IsOr : StateWord → StateWord → Type 0
IsOr w own = (w ≡ own) ⊎ (is_dead w ≡ true)

-- the word is the loaded one, or the same of a thread that has fallen asleep
abbrev pub IsLoaded : StateWord → StateWord → Type 0
IsLoaded w loaded = (w ≡ loaded) ⊎ (w ≡ off_word loaded)

pub record IsRun (own : StateWord) : Type 0 where
  pub result : Result4
  pub state : own.state ≡ state.Run result
  pub on : own.on ≡ true

-- a message was delivered, and the ledger says so
pub record IsDelivered (v : Seen) : Type 0 where
  pub from : ThreadId
  pub state : v.word.state ≡ state.Run (result4.Delivered from)
  pub on : v.word.on ≡ true
  pub told : v.told ≡ Some (reply.Got from v.mail)

-- It was destroyed, or waits, or its message was taken, or the one that it waited for is gone, or a message was delivered.
abbrev pub WaitsBy : Seen → Type 0
WaitsBy v = (is_dead v.word ≡ true) ⊎
    ((may_wait v.word.state ≡ true) ⊎
    (((v.word.state ≡ state.Run result4.Sent) × (v.word.on ≡ true) × (v.told ≡ Some reply.Sent)) ⊎
    (((v.word.state ≡ state.Run result4.Gone) × (v.word.on ≡ true) × (v.told ≡ Some reply.Gone)) ⊎ IsDelivered v)))

abbrev pub PicksBy : StateWord → Seen → Type 0
PicksBy own v = IsOr v.word own ⊎ IsDelivered v

-- the receiver's word takes the message of the call
abbrev pub Fits : SendCall → StateWord → Type 0
Fits c w = (is_present_in w c.to ≡ true) × (takes_from (shows w.state) c.caller c.zero ≡ true)

-- QUEUES

-- whether the word of an entry's sender shows that it waits for this thread
abbrev pub waits_for : ThreadId → SenderEntry → StateWord → Bool
waits_for to e w = (w.version == (sender_of e).version) && sends_to to w.state

-- each entry is of a thread that waits
abbrev pub AllWait : ThreadId → (ℕ → Seen) → List SenderEntry → Type 0
AllWait to s [] = Unit {0}
AllWait to s (e ∷ es) = (waits_for to e (s (number_of e)).word ≡ true) × AllWait to s es

-- each entry whose sender is admitted is of one that waits no more
abbrev pub NoneWaits : ReceiveCall → (ℕ → Seen) → List SenderEntry → Type 0
NoneWaits c s [] = Unit {0}
NoneWaits c s (e ∷ es) = (admits c.from (sender_of e) ≡ true → still_waits c e (s (number_of e)).word ≡ false) ×
    NoneWaits c s es

-- the first entry of a queue, of this number, and its sender's word as it was loaded
pub record IsFront (to : ThreadId) (entries : List SenderEntry) (sender : ℕ) (w : StateWord) : Type 0 where
  pub entry : SenderEntry
  pub more : List SenderEntry
  pub queue : entries ≡ entry ∷ more
  pub number : number_of entry ≡ sender
  pub waits : waits_for to entry w ≡ true

-- WHAT A FACT SAYS

abbrev pub Says : Programs → Board → ℕ → Context → Fact → Type 0
Says g b i x (Me id) = (id.number ≡ i) × (id.version ≡ (b.seen i).word.version)
Says g b i x Free = IsRun x.own × IsOr (b.seen i).word x.own
Says g b i x Kept = IsRun x.own × ((b.seen i).word ≡ x.own) × ((b.owner i ≡ Some i) ⊎ (b.table ≡ Some i))
Says g b i x (Settling s) = (b.owner i ≡ Some i) × ((b.seen i).word ≡ x.own) × (x.own.state ≡ s) × (x.own.on ≡ true) ×
    (is_open s ≡ true)
Says g b i x (Queued to) = (b.owner to.number ≡ Some i) × (is_waiting x.own.state ≡ true) × (x.own.on ≡ true) ×
    IsOr (b.seen i).word x.own × ((joined : Bool) × (x.own.state ≡ state.Sending to joined)) ×
    (stands i (b.queue to.number) ≡ false)
Says g b i x Waits = WaitsBy (b.seen i)
Says g b i x Picks = (x.own.state ≡ state.Picking) × (x.own.on ≡ true) × PicksBy x.own (b.seen i)
Says g b i x OwnWaits = is_waiting x.own.state ≡ true
Says g b i x Rested = (x.own.state ≡ state.Ended) × IsOr (b.seen i).word x.own
Says g b i x Died = is_dead (b.seen i).word ≡ true
Says g b i x Fresh = x.serial ≡ (b.seen i).last + 1
Says g b i x Called = x.serial ≡ (b.seen i).last
Says g b i x (Begun p) = (is_waiting (b.seen i).word.state ≡ false) ×
    Begins g (b.seen i).position (b.seen i).told p x.position
Says g b i x Settled = x.position ≡ (b.seen i).position
Says g b i x (Told r) = (b.seen i).told ≡ Some r
Says g b i x (Remembers r) = (is_waiting (b.seen i).word.state ≡ false) ×
    Walks g (b.seen i).position (b.seen i).told x.position r
Says g b i x (Refused r) = (is_dead (b.seen i).word ≡ true) ⊎
    ((x.serial ≡ (b.seen i).last) × (x.position ≡ (b.seen i).position) × ((b.seen i).told ≡ Some r))
Says g b i x (Collects from) = (is_waiting (b.seen i).word.state ≡ false) ×
    ((b.seen i).told ≡ Some (reply.Got from (b.seen i).mail))
Says g b i x (HoldsThread t) = b.owner t ≡ Some i
Says g b i x HoldsTable = b.table ≡ Some i
Says g b i x HoldsReady = b.ready ≡ Some i
Says g b i x (SendsItself c) = same_id c.to c.caller ≡ true
Says g b i x (Differs id) = same_id id (record { number = i; version = (b.seen i).word.version }) ≡ false
Says g b i x (Apart t) = t ≢ i
Says g b i x (Accepting c) = (b.owner c.to.number ≡ Some i) × Fits c (b.seen c.to.number).word
Says g b i x (Mailed c) = (b.owner c.to.number ≡ Some i) × ((b.seen c.to.number).mail ≡ c.message)
Says g b i x (Passing c) = (b.owner c.to.number ≡ Some i) × (is_open (b.seen c.to.number).word.state ≡ true) ×
    ((b.seen c.to.number).mail ≡ c.message) × ((b.seen c.to.number).told ≡ Some (reply.Got c.caller c.message)) ×
    (is_present_in (b.seen c.to.number).word c.to ≡ true)
Says g b i x (Busy c) = (b.owner c.to.number ≡ Some i) × (is_present_in (b.seen c.to.number).word c.to ≡ true) ×
    (takes_from (shows (b.seen c.to.number).word.state) c.caller c.zero ≡ false) × (c.zero ≡ false) × (c.caller.number ≡ i) ×
    (is_waiting (b.seen i).word.state ≡ false)
Says g b i x (Loaded t w) = (b.owner t ≡ Some i) × (is_open w.state ≡ true) × IsLoaded (b.seen t).word w
Says g b i x (Fitting c w) = Fits c w
Says g b i x (Plainly c) = (c.picks ≡ false) × (is_own c.from c.caller ≡ false)
Says g b i x (Itself c) = (c.picks ≡ false) × (is_own c.from c.caller ≡ true)
Says g b i x (NotZero c) = c.zero ≡ false
Says g b i x (Picking c) = c ≡ record { caller = c.caller; from = None; zero = false; picks = true }
Says g b i x (Closed c from) = c.from ≡ Some from
Says g b i x (Reaches c e) = (c.caller.number ≡ i) × (b.owner i ≡ Some i) × (entry_of (number_of e) (b.queue i) ≡ Some e) ×
    (admits c.from (sender_of e) ≡ true) × NoneWaits c b.seen (before (number_of e) (b.queue i))
Says g b i x (Exhausts c) = (c.caller.number ≡ i) × (b.owner i ≡ Some i) × NoneWaits c b.seen (b.queue i)
Says g b i x (Sends c e w) = still_waits c e w ≡ true
Says g b i x (Taken c e) = (c.caller.number ≡ i) × (b.owner i ≡ Some i) × (entry_of (number_of e) (b.queue i) ≡ Some e) ×
    (still_waits c e (b.seen (number_of e)).word ≡ false)
Says g b i x (Chosen id) = (b.table ≡ Some i) × (lowest_free b.numbers ≡ Some id.number) ×
    (id.version ≡ version_at b.numbers id.number + 1)
Says g b i x (Unmade id) = (b.table ≡ Some i) × ((b.seen id.number).word ≡ dead_word (id.version - 1))
Says g b i x (Vacant id) = (b.table ≡ Some i) × ((b.context id.number).at ≡ Nowhere)
Says g b i x (Arriving c id) = (b.table ≡ Some i) × (b.context id.number ≡ new_context g c id Coming)
Says g b i x (Present id) = (b.table ≡ Some i) × (is_present_in (b.seen id.number).word id ≡ true)
Says g b i x (DestroysItself c) = same_id c.who c.caller ≡ true
Says g b i x (Shows id w) = is_present_in w id ≡ true
Says g b i x (Gone id) = (b.table ≡ Some i) × (is_dead (b.seen id.number).word ≡ true) ×
    ((b.seen id.number).word.version ≡ id.version)
Says g b i x (Row to) = (b.table ≡ Some i) × (b.owner to.number ≡ Some i) × AllWait to b.seen (b.queue to.number)
Says g b i x (Rest to) = (b.table ≡ Some i) × (b.owner to.number ≡ Some i) × AllWait to b.seen (rest (b.queue to.number))
Says g b i x (Emptied to) = (b.owner to.number ≡ Some i) × (b.queue to.number ≡ [])
Says g b i x (Front to sender) = (b.owner to.number ≡ Some i) × (first_number (b.queue to.number) ≡ Some sender)
Says g b i x (Waiting to sender w) = (b.owner to.number ≡ Some i) × IsFront to (b.queue to.number) sender w
Says g b i x (Visited c t) = (t ≢ c.who.number) × (t < c.count)
Says g b i x (Receives id t w) =
    (b.table ≡ Some i) × (is_receiving_from id w.state ≡ true) × (w.version ≡ (b.seen t).word.version)
Says g b i x (Deaf id t) = (b.table ≡ Some i) × (b.owner t ≡ Some i) × (is_dead (b.seen id.number).word ≡ true) ×
    (is_receiving_from id (b.seen t).word.state ≡ false)
Says g b i x Never = ⊥

abbrev pub AllSay : Programs → Board → ℕ → Context → List Fact → Type 0
AllSay g b i x [] = Unit {0}
AllSay g b i x (f ∷ fs) = Says g b i x f × AllSay g b i x fs
