-- The steps of a board: the published table of each section, on the board's words and locks; and the steps of a thread outside of any.
use Rattle.std.specs.Prelude.{◌≡◌, ◌≢◌, ℕ, ◌+◌, true, false, if◌then◌else◌, Option, Some, None, List, [], ◌∷◌, ◌++◌}
use Rattle.k_ids.specs.declared.threads.ThreadId.{ThreadId}
use Rattle.k_ids.specs.declared.calls.Phase.{Phase}
use Rattle.k_ids.specs.declared.calls.Phase.TheVariants as phase
use Rattle.k_ids.specs.declared.calls.Reply.{Reply}
use Rattle.k_ids.specs.declared.state_word.StateWord.{StateWord}
use Rattle.k_model.specs.Maps.{upd}
use Rattle.k_senders.specs.declared.entries.SenderEntry.{SenderEntry}
use Rattle.k_senders.specs.Entries.{entry_for, number_of, who_of}
use Rattle.k_senders.specs.Queue.{without, without_thread}
use Rattle.k_locks.specs.declared.locks.Lock.{Lock}
use Rattle.k_locks.specs.declared.locks.Lock.TheVariants as lock
use Rattle.k_locks.specs.declared.steps.Went.{Went}
use Rattle.k_locks.specs.declared.steps.Went.TheVariants as went
use Rattle.k_locks.specs.Asks.{Ask, Response}
use Rattle.k_locks.specs.Asks as asks
use Rattle.k_locks.specs.Hands.{Hand}
use Rattle.k_ipc.specs.declared.send.Manner.TheVariants as manner
use Rattle.k_ipc.specs.declared.send.SendCall.{SendCall}
use Rattle.k_ipc.specs.declared.send.SendOutside.TheVariants.{Ended}
use Rattle.k_ipc.specs.declared.send.SendLocked.TheVariants.{Release}
use Rattle.k_ipc.specs.declared.send.SendRelease.TheVariants as release
use Rattle.k_ipc.specs.SendTable.{SendAt, Outside, Locked}
use Rattle.k_ipc.specs.SendTable as send
use Rattle.k_ipc.specs.declared.receive.ReceiveCall.{ReceiveCall}
use Rattle.k_ipc.specs.declared.receive.ReceiveOutside.TheVariants as outside
use Rattle.k_ipc.specs.declared.receive.ReceiveLocked.TheVariants as locked
use Rattle.k_ipc.specs.declared.receive.ReceiveRelease.TheVariants as returns
use Rattle.k_ipc.specs.ReceiveTable.{ReceiveAt}
use Rattle.k_ipc.specs.ReceiveTable as receive
use Rattle.k_threads.specs.declared.create.CreateCall.{CreateCall}
use Rattle.k_threads.specs.declared.create.CreateOutside.TheVariants as create_outside
use Rattle.k_threads.specs.declared.create.CreateLocked.TheVariants as create_locked
use Rattle.k_threads.specs.CreateTable.{CreateAt}
use Rattle.k_threads.specs.CreateTable as create
use Rattle.k_threads.specs.declared.destroy.DestroyCall.{DestroyCall}
use Rattle.k_threads.specs.declared.destroy.DestroyOutside.TheVariants as destroy_outside
use Rattle.k_threads.specs.declared.destroy.DestroyLocked.TheVariants as destroy_locked
use Rattle.k_threads.specs.declared.destroy.DestroyVictim.TheVariants as victim
use Rattle.k_threads.specs.declared.destroy.DestroyVisit.TheVariants as visit
use Rattle.k_threads.specs.declared.destroy.DestroyPushing.TheVariants as destroy_pushing
use Rattle.k_threads.specs.DestroyTable.{DestroyAt}
use Rattle.k_threads.specs.DestroyTable as destroy
use Rattle.k_threads.specs.Goods.{rest}
use Rattle.k_threads.specs.Words.{created_word}
use Rattle.k_caller.specs.declared.thread.ThreadLocation.{ThreadLocation}
use Rattle.k_caller.specs.declared.thread.ThreadLocation.TheVariants as location
use Rattle.k_caller.specs.Waits as alone
use Rattle.k_switch.specs.declared.switch.SwitchCall.{SwitchCall}
use Rattle.k_switch.specs.Switches.{SwitchAt}
use Rattle.k_switch.specs.Switches as switch
use Rattle.k_board.specs.Words.{Seen, Programs, noted}
use Rattle.k_board.specs.Boards.{At, Alone, InSend, InReceive, InCreate, InDestroy, InSwitch, Coming, Nowhere, Context, Board, owner_of, hand_of, id_at}

-- WORDS AND LOCKS

-- A context that isn't there, or holds no lock, may be removed.
abbrev pub Holds : Board → ℕ → Type 0
Holds b i = (l : Lock) → owner_of b l ≢ Some i

-- what a step may find
abbrev pub Answers : Board → Ask → Response → Type 0
Answers b (asks.Load n) (asks.Word w) = (b.seen n).word ≡ w
Answers b (asks.LoadMail n) (asks.Mail m) = (b.seen n).mail ≡ m
Answers b (asks.Post n m) asks.Stored = Unit {0}
Answers b (asks.Exchange n old new) asks.Won = (b.seen n).word ≡ old
Answers b (asks.Exchange n old new) (asks.Lost w) = ((b.seen n).word ≡ w) × (w ≢ old)
Answers b (asks.Acquire l) asks.Got = owner_of b l ≡ None
Answers b (asks.Acquire l) (asks.Owned owner) = owner_of b l ≡ Some owner
Answers b (asks.Release l) asks.Released = Unit {0}
Answers b (asks.Place id program priority) asks.Placed = Unit {0}
Answers b (asks.Remove id) asks.Removed = Holds b id.number
Answers b (asks.Remove id) asks.Kept = Unit {0}
Answers b a r = ⊥

abbrev pub with_word : Seen → StateWord → Seen
with_word v w = record v { word = w }

abbrev pub write : (ℕ → Seen) → ℕ → StateWord → ℕ → Seen
write s n w = upd s n (with_word (s n) w)

-- what a step makes of words and mails
abbrev pub wrote : (ℕ → Seen) → Ask → Response → ℕ → Seen
wrote s (asks.Post n m) asks.Stored = upd s n (record (s n) { mail = m })
wrote s (asks.Exchange n old new) asks.Won = write s n new
wrote s a r = s

-- what a step of context i makes of the owners of locks
abbrev pub owned : (ℕ → Option ℕ) → ℕ → Ask → Response → ℕ → Option ℕ
owned o i (asks.Acquire (lock.Thread n)) asks.Got = upd o n (Some i)
owned o i (asks.Release (lock.Thread n)) asks.Released = upd o n None
owned o i a r = o

abbrev pub table_owned : Option ℕ → ℕ → Ask → Response → Option ℕ
table_owned o i (asks.Acquire lock.Table) asks.Got = Some i
table_owned o i (asks.Release lock.Table) asks.Released = None
table_owned o i a r = o

abbrev pub ready_owned : Option ℕ → ℕ → Ask → Response → Option ℕ
ready_owned o i (asks.Acquire lock.Ready) asks.Got = Some i
ready_owned o i (asks.Release lock.Ready) asks.Released = None
ready_owned o i a r = o

abbrev pub pick_call : ThreadId → ReceiveCall
pick_call me = record { caller = me; from = None; zero = false; picks = true }

-- where the context stands at the end of a section
abbrev pub after : ThreadId → Went → At
after me (went.Ends r) = Alone (location.Between (Some r))
after me went.Waits = Alone location.FallAsleep
after me went.Picks = InReceive (pick_call me) (receive.Outside outside.AcquireOwn)
after me went.CallerDead = Alone location.Dead
after me went.On = Alone location.Dead  -- a section that goes on isn't at its end, nor is one of the next two
after me went.Again = Alone location.Dead
after me (went.Pushed priority) = Alone location.Dead

-- A SEND

abbrev pub send_at : SendCall → SendAt → At
send_at c (Outside (Ended w)) = after c.caller w
send_at c p = InSend c p

abbrev pub send_context : Context → SendCall → SendAt → Response → Hand → Context
send_context x c p r h = record x { own = send.own_of c x.own p r; at = send_at c (send.leads c h p r) }

-- a sender that waits comes to the end of the receiver's queue
abbrev pub send_queues : SendCall → SendAt → Response → (ℕ → List SenderEntry) → ℕ → List SenderEntry
send_queues c (Locked (Release release.Queued)) asks.Released q =
    upd q c.to.number (q c.to.number ++ entry_for c.caller c.message ∷ [])
send_queues c p r q = q

abbrev pub send_board : Programs → Board → ℕ → Context → SendCall → SendAt → Response → Board
send_board g b i x c p r = record b {
  seen = wrote (noted g b.seen x.position (send.points c (b.seen i).word (hand_of b (b.queue c.to.number)) p r)) (send.ask_of c x.own p) r;
  queue = send_queues c p r b.queue;
  lists = (send.hand_after c (hand_of b (b.queue c.to.number)) p r).lists;
  owner = owned b.owner i (send.ask_of c x.own p) r;
  table = table_owned b.table i (send.ask_of c x.own p) r;
  ready = ready_owned b.ready i (send.ask_of c x.own p) r;
  context = upd b.context i (send_context x c p r (hand_of b (b.queue c.to.number)));
}

-- A RECEIVE, AND A PICK

abbrev pub receive_at : ReceiveCall → ReceiveAt → At
receive_at c (receive.Outside (outside.Ended w)) = after c.caller w
receive_at c p = InReceive c p

abbrev pub receive_context : Context → ReceiveCall → ReceiveAt → Response → Hand → Context
receive_context x c p r h = record x { own = receive.own_of c x.own p r; at = receive_at c (receive.leads c h p r) }

-- the entry whose message was taken leaves the caller's queue
abbrev pub receive_queues : ReceiveCall → ReceiveAt → Response → (ℕ → List SenderEntry) → ℕ → List SenderEntry
receive_queues c (receive.Locked (locked.Release (returns.Taken e))) asks.Released q =
    upd q c.caller.number (without (number_of e) (q c.caller.number))
receive_queues c p r q = q

abbrev pub receive_board : Programs → Board → ℕ → Context → ReceiveCall → ReceiveAt → Response → Board
receive_board g b i x c p r = record b {
  seen = wrote (noted g b.seen x.position (receive.points c (b.seen i).word (hand_of b (b.queue i)) p r)) (receive.ask_of c x.own p) r;
  queue = receive_queues c p r b.queue;
  lists = (receive.hand_after c (hand_of b (b.queue i)) p r).lists;
  owner = owned b.owner i (receive.ask_of c x.own p) r;
  table = table_owned b.table i (receive.ask_of c x.own p) r;
  ready = ready_owned b.ready i (receive.ask_of c x.own p) r;
  context = upd b.context i (receive_context x c p r (hand_of b (b.queue i)));
}

-- A CREATE

abbrev pub create_at : CreateCall → CreateAt → At
create_at c (create.Outside (create_outside.Ended w)) = after c.caller w
create_at c p = InCreate c p

abbrev pub create_context : Context → CreateCall → CreateAt → Response → Hand → Context
create_context x c p r h = record x { at = create_at c (create.leads c h p r) }

-- the context of a new thread, and where it stands before its thread is made
abbrev pub new_context : Programs → CreateCall → ThreadId → At → Context
new_context g c id p =
    record { serial = 0; own = created_word id.version c.priority; position = g.start id c.program; at = p }

-- a context is placed, and begins once its thread is made
abbrev pub create_contexts : Programs → CreateCall → CreateAt → Response → (ℕ → Context) → ℕ → Context
create_contexts g c (create.Locked (create_locked.PlaceContext id)) asks.Placed s =
    upd s id.number (new_context g c id Coming)
create_contexts g c (create.Locked (create_locked.CommitCreate id)) asks.Won s =
    upd s id.number (new_context g c id (Alone (location.Between None)))
create_contexts g c p r s = s

abbrev pub create_board : Programs → Board → ℕ → Context → CreateCall → CreateAt → Response → Board
create_board g b i x c p r = record b {
  seen = wrote (noted g b.seen x.position (create.points c (b.seen i).word (hand_of b []) p r)) (create.ask_of c x.own p) r;
  lists = (create.hand_after c (hand_of b []) p r).lists;
  numbers = (create.hand_after c (hand_of b []) p r).numbers;
  owner = owned b.owner i (create.ask_of c x.own p) r;
  table = table_owned b.table i (create.ask_of c x.own p) r;
  ready = ready_owned b.ready i (create.ask_of c x.own p) r;
  context = upd (create_contexts g c p r b.context) i (create_context x c p r (hand_of b []));
}

-- A DESTROY

abbrev pub destroy_at : DestroyCall → DestroyAt → At
destroy_at c (destroy.Outside (destroy_outside.Ended w)) = after c.caller w
destroy_at c p = InDestroy c p

abbrev pub destroy_context : Context → DestroyCall → DestroyAt → Response → Hand → Context
destroy_context x c p r h = record x { at = destroy_at c (destroy.leads c h p r) }

-- the number whose queue is in hand, where one is
abbrev pub destroy_number : DestroyCall → DestroyAt → ℕ
destroy_number c (destroy.Visit p) = destroy.visited_at p
destroy_number c (destroy.Pushing p) = destroy.queue_at c p
destroy_number c p = c.who.number

-- An entry goes once its sender was freed; and the victim's own leaves the queue of each number that is visited.
abbrev pub destroy_queues : DestroyCall → DestroyAt → Response → (ℕ → List SenderEntry) → ℕ → List SenderEntry
destroy_queues c (destroy.Victim (victim.FreeSender sender seen)) asks.Won q =
    if seen.on then upd q c.who.number (rest (q c.who.number)) else q
destroy_queues c (destroy.Pushing (destroy_pushing.PushSender sender seen)) asks.Released q = upd q c.who.number (rest (q c.who.number))
destroy_queues c (destroy.Visit (visit.ReleaseVisitedLock visited)) asks.Released q =
    upd q visited (without_thread (who_of c.who) (q visited))
destroy_queues c p r q = q

-- the victim's context is removed
abbrev pub destroy_contexts : DestroyCall → DestroyAt → Response → (ℕ → Context) → ℕ → Context
destroy_contexts c (destroy.Locked destroy_locked.RemoveContext) asks.Removed s =
    upd s c.who.number (record (s c.who.number) { at = Nowhere })
destroy_contexts c p r s = s

abbrev pub destroy_board : Programs → Board → ℕ → Context → DestroyCall → DestroyAt → Response → Board
destroy_board g b i x c p r = record b {
  seen = wrote (noted g b.seen x.position (destroy.points c (b.seen i).word (hand_of b (b.queue (destroy_number c p))) p r)) (destroy.ask_of c x.own p) r;
  queue = destroy_queues c p r b.queue;
  lists = (destroy.hand_after c (hand_of b (b.queue (destroy_number c p))) p r).lists;
  numbers = (destroy.hand_after c (hand_of b (b.queue (destroy_number c p))) p r).numbers;
  owner = owned b.owner i (destroy.ask_of c x.own p) r;
  table = table_owned b.table i (destroy.ask_of c x.own p) r;
  ready = ready_owned b.ready i (destroy.ask_of c x.own p) r;
  context = upd (destroy_contexts c p r b.context) i (destroy_context x c p r (hand_of b (b.queue (destroy_number c p))));
}

-- A THREAD OUTSIDE OF ANY SECTION

abbrev pub alone_context : Context → ThreadLocation → Response → Context
alone_context x p r = record x { own = alone.own_of x.own p r; at = Alone (alone.leads p r) }

abbrev pub alone_board : Programs → Board → ℕ → Context → ThreadLocation → Response → Board
alone_board g b i x p r = record b {
  seen = wrote (noted g b.seen x.position (alone.points (id_at b i) p r)) (alone.ask_of (id_at b i) x.own p) r;
  context = upd b.context i (alone_context x p r);
}

-- its next call begins, or it works
abbrev pub placed : Board → ℕ → Context → Board
placed b i x = record b { context = upd b.context i x }

abbrev pub begun_at : ℕ → ThreadId → Phase → At
begun_at size me (phase.Send to message zero joined) = let c : SendCall =
    record {
      caller = me;
      to = to;
      message = message;
      zero = zero;
      manner = send.manner_of joined;
    } in InSend c (send.first_of c)
begun_at size me (phase.Reply to message zero) = let c : SendCall =
    record { caller = me; to = to; message = message; zero = zero; manner = manner.Reply } in InSend c (send.first_of c)
begun_at size me (phase.Receive from zero) = let c : ReceiveCall =
    record { caller = me; from = from; zero = zero; picks = false } in InReceive c (receive.first_of c)
begun_at size me (phase.Create program priority) = let c : CreateCall =
    record { caller = me; program = program; priority = priority } in InCreate c (create.first_of c)
begun_at size me (phase.Destroy who) = let c : DestroyCall =
    record { caller = me; who = who; count = size } in InDestroy c (destroy.first_of c)
begun_at size me phase.End = Alone location.CommitEnd

abbrev pub begun : Programs → Context → Option Reply → At → Context
begun g x r p = record x { serial = x.serial + 1; position = g.moved x.position r; at = p }

abbrev pub working : Programs → Context → Option Reply → ℕ → Context
working g x r count = record x { position = g.moved x.position r; at = Alone (location.Work count) }

-- A SWITCH, of a carrier's own context

abbrev pub switch_context : Context → SwitchCall → SwitchAt → Response → Hand → Context
switch_context x c p r h = record x { at = InSwitch c (switch.leads c h p r) }

abbrev pub switch_board : Board → ℕ → Context → SwitchCall → SwitchAt → Response → Board
switch_board b i x c p r = record b {
  lists = (switch.hand_after c (hand_of b []) p r).lists;
  owner = owned b.owner i (switch.ask_of c p) r;
  table = table_owned b.table i (switch.ask_of c p) r;
  ready = ready_owned b.ready i (switch.ask_of c p) r;
  context = upd b.context i (switch_context x c p r (hand_of b []));
}
