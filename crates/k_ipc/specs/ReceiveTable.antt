-- The section of a receive, and of the pick that follows a reply, location by location: what it asks for, where each response leads,
-- what becomes of what is in hand, which event it appends to the history, which locks it holds, and how many steps are left until a
-- lock is released. The locations stand in the order in which a receive comes to them; those of a pick alone come last.
--
-- The receive is by `c.caller`, from one thread or from any. `own` is the caller's state word as the section knows it, and `h`
-- is what is in hand: the queue of those who wait to send to the caller. A candidate is an entry of the queue whose sender the
-- receive admits. Candidates are tried in their order; one whose sender doesn't wait any more is passed over and
-- stays in the queue.
use Rattle.std.specs.Prelude.{◌≡◌, ℕ, zero, suc, ◌+◌, ◌<◌, ◌==◌, Bool, true, false, ◌&&◌, ◌||◌, if◌then◌else◌, Option, Some, None, IfSome, List, [], ◌∷◌}
use Rattle.k_ids.specs.declared.threads.ThreadId.{ThreadId}
use Rattle.k_ids.specs.declared.calls.Phase.TheVariants as phase
use Rattle.k_ids.specs.declared.calls.Reply.TheVariants as reply
use Rattle.k_ids.specs.declared.calls.Act.{Act}
use Rattle.k_ids.specs.declared.calls.Act.TheVariants as act
use Rattle.k_ids.specs.declared.calls.Outcome.{Outcome}
use Rattle.k_ids.specs.declared.calls.Outcome.TheVariants as outcome
use Rattle.k_ids.specs.declared.state_word.Result4.TheVariants as result4
use Rattle.k_ids.specs.declared.state_word.State.{State}
use Rattle.k_ids.specs.declared.state_word.State.TheVariants as state
use Rattle.k_ids.specs.declared.state_word.StateWord.{StateWord}
use Rattle.k_ids.specs.StateWords.{IsPartner, IsStateSpelling}
use Rattle.k_model.specs.State.{admits}
use Rattle.k_model.specs.Step.{is_own}
use Rattle.k_ready.specs.Lists.{IsInNone, Ready}
use Rattle.k_senders.specs.declared.entries.SenderEntry.{SenderEntry}
use Rattle.k_senders.specs.Entries.{message_of, number_of, sender_of}
use Rattle.k_senders.specs.Queue.{IsOnceEach, Queue, entry_of, without}
use Rattle.k_locks.specs.declared.locks.Lock.{Lock}
use Rattle.k_locks.specs.declared.locks.Lock.TheVariants as lock
use Rattle.k_locks.specs.declared.points.Point.{Point}
use Rattle.k_locks.specs.declared.steps.Step.{Step}
use Rattle.k_locks.specs.declared.steps.Answer.{Answer}
use Rattle.k_locks.specs.declared.steps.Answer.TheVariants as answer
use Rattle.k_locks.specs.declared.steps.Told.TheVariants as told
use Rattle.k_locks.specs.declared.steps.Went.{Went}
use Rattle.k_locks.specs.declared.steps.Went.TheVariants as went
use Rattle.k_locks.specs.Asks as asks
use Rattle.k_locks.specs.Asks.{Ask, Response, Word, Won, Lost, Got, Released, is_lost, response_of, step_for}
use Rattle.k_locks.specs.Hands.{Hand, nothing, hand_with, pushed}
use Rattle.k_locks.specs.Shown.{is_dead, is_present_in}
use Rattle.k_locks.specs.Steps.{is_again, one_more}
use Rattle.k_locks.specs.Tables.{Table}
use Rattle.k_locks.specs.Threads.{IsThread, runs}
use Rattle.k_ipc.specs.declared.receive.ReceiveCall.{ReceiveCall}
use Rattle.k_ipc.specs.declared.receive.ReceiveOutside.{ReceiveOutside}
use Rattle.k_ipc.specs.declared.receive.ReceiveOutside.TheVariants.{LoadCaller, AcquireOwn, Ended}
use Rattle.k_ipc.specs.declared.receive.ReceiveLocked.{ReceiveLocked}
use Rattle.k_ipc.specs.declared.receive.ReceiveLocked.TheVariants.{LoadOwn, LoadSender, FreeSender, AcquireReady, CommitWait, LoadPartner, CommitGone, LoadPicking, LoadNext, FreeNext, EndPick, SettlePick, Release}
use Rattle.k_ipc.specs.declared.receive.ReceiveRelease.{ReceiveRelease}
use Rattle.k_ipc.specs.declared.receive.ReceiveRelease.TheVariants as release
use Rattle.k_ipc.specs.declared.receive.ReceivePushing.{ReceivePushing}
use Rattle.k_ipc.specs.declared.receive.ReceivePushing.TheVariants.{LoadFreed, PushFreed}
use Rattle.k_ipc.specs.declared.receive.ReceiveLocation.{ReceiveLocation}
use Rattle.k_ipc.specs.declared.receive.ReceiveLocation.TheVariants as location
use Rattle.k_ipc.specs.declared.receive.ReceiveSection.{ReceiveSection}
use Rattle.k_ipc.specs.Candidates.{admitted, first_admitted, onward, past}
use Rattle.k_ipc.specs.Words.{alive_or_dead, freed, in_state, is_joined_to, on_in, sends_to}

-- A location: what is held there, and which step comes.
pub data ReceiveAt : Type 0 where
  Outside : ReceiveOutside → ReceiveAt  -- no lock
  Locked : ReceiveLocked → ReceiveAt  -- the caller's lock
  Pushing : ReceivePushing → ReceiveAt  -- the caller's lock and the ready lock

-- THE STEP

abbrev pub first_of : ReceiveCall → ReceiveAt
first_of c = Outside (if is_own c.from c.caller then LoadCaller else AcquireOwn)

abbrev pub ask_of : ReceiveCall → StateWord → ReceiveAt → Ask
ask_of c own (Outside LoadCaller) = asks.Load c.caller.number
ask_of c own (Outside AcquireOwn) = asks.Acquire (lock.Thread c.caller.number)
ask_of c own (Locked LoadOwn) = asks.Load c.caller.number
ask_of c own (Locked (LoadSender e)) = asks.Load (number_of e)
ask_of c own (Locked (FreeSender e w)) = asks.Exchange (number_of e) w (freed c.caller w)
ask_of c own (Locked (AcquireReady e)) = asks.Acquire lock.Ready
ask_of c own (Pushing (LoadFreed e)) = asks.Load (number_of e)
ask_of c own (Pushing (PushFreed e w)) = asks.Release lock.Ready
ask_of c own (Locked CommitWait) = asks.Exchange c.caller.number own (in_state (state.Receiving c.from) own)
ask_of c own (Locked (LoadPartner from)) = asks.Load from.number
ask_of c own (Locked (CommitGone from)) = asks.Exchange c.caller.number own (in_state (state.Run result4.Gone) own)
ask_of c own (Locked LoadPicking) = asks.Load c.caller.number
ask_of c own (Locked (LoadNext e)) = asks.Load (number_of e)
ask_of c own (Locked (FreeNext e w)) = asks.Exchange (number_of e) w (freed c.caller w)
ask_of c own (Locked (EndPick e w)) = asks.Exchange c.caller.number own (on_in (state.Run result4.Plain) own)
ask_of c own (Locked SettlePick) = asks.Exchange c.caller.number own (on_in (state.Receiving None) own)
ask_of c own (Locked (Release r)) = asks.Release (lock.Thread c.caller.number)
ask_of c own (Outside (Ended w)) = asks.Load c.caller.number  -- a section that is over isn't asked

-- whether the thread whose message was taken still runs, so that it is put into a ready list
abbrev pub is_pushed : SenderEntry → StateWord → Bool
is_pushed e w = runs w.state && (w.version == (sender_of e).version)

-- What becomes of what is in hand, also of what goes home with a release: the entry that was taken leaves the queue, and its sender
-- comes to the end of the list of its priority, if it still runs.
abbrev pub hand_after : ReceiveCall → Hand → ReceiveAt → Response → Hand
hand_after c h (Locked (Release (release.Taken e))) Released = record h { queue = record h.queue { entries = without (number_of e) h.queue.entries } }
hand_after c h (Pushing (PushFreed e w)) Released = record h { lists = if is_pushed e w then pushed (sender_of e) w.priority h.lists else h.lists }
hand_after c h p r = h

-- WHERE A RESPONSE LEADS

-- Without a candidate the receive finds nobody, or begins to wait.
abbrev pub none_left : ReceiveCall → ReceiveLocked
none_left c = if c.zero then Release release.Nobody else CommitWait

abbrev pub try_sender : ReceiveCall → Option SenderEntry → ReceiveLocked
try_sender c (Some e) = LoadSender e
try_sender c None = none_left c

abbrev pub try_next : Option SenderEntry → ReceiveLocked
try_next (Some e) = LoadNext e
try_next None = SettlePick

-- whether the candidate's sender still waits: it sends to the caller, in the version of its entry
abbrev pub still_waits : ReceiveCall → SenderEntry → StateWord → Bool
still_waits c e w = (w.version == (sender_of e).version) && sends_to c.caller w.state

-- A sender whose send was joined waits on; one that was on is in a list already, or its carrier's.
abbrev pub stays_out : StateWord → Bool
stays_out w = is_joined_to w.state || w.on

abbrev pub after_free : SenderEntry → StateWord → ReceiveLocked
after_free e w = if stays_out w then Release (release.Taken e) else AcquireReady e

-- a receive from one thread looks whether that thread is there
abbrev pub after_wait : Option ThreadId → ReceiveLocked
after_wait None = Release release.Waits
after_wait (Some from) = LoadPartner from

-- the word of a caller that picks: it still picks, or a message was delivered to it, or it was destroyed
abbrev pub picking_by : Option SenderEntry → State → ReceiveLocked
picking_by e state.Dead = Release release.Dead
picking_by e state.Picking = try_next e
picking_by e (state.Run result) = Release release.Delivered
picking_by e (state.Sending to joined) = Release release.Delivered
picking_by e (state.Receiving from) = Release release.Delivered
picking_by e state.Ended = Release release.Delivered

abbrev pub released_end : ReceiveRelease → Went
released_end (release.Taken e) = went.Ends (reply.Got (sender_of e) (message_of e))
released_end release.Waits = went.Waits
released_end release.Delivered = went.Waits
released_end release.Gone = went.Ends reply.Gone
released_end release.Nobody = went.Ends reply.Nobody
released_end release.Dead = went.CallerDead

-- the first location under the lock
abbrev pub first_locked : ReceiveCall → ReceiveLocked
first_locked c = if c.picks then LoadPicking else LoadOwn

abbrev pub candidates_after : ReceiveCall → Hand → SenderEntry → Option SenderEntry
candidates_after c h e = first_admitted c.from (past (number_of e) h.queue.entries)

abbrev pub leads : ReceiveCall → Hand → ReceiveAt → Response → ReceiveAt
leads c h (Outside LoadCaller) (Word w) = Outside (Ended (alive_or_dead w reply.Own))
leads c h (Outside AcquireOwn) Got = Locked (first_locked c)
leads c h (Locked LoadOwn) (Word w) = Locked (if is_dead w then Release release.Dead else try_sender c (first_admitted c.from h.queue.entries))
leads c h (Locked (LoadSender e)) (Word w) = Locked (if still_waits c e w then FreeSender e w else try_sender c (candidates_after c h e))
leads c h (Locked (FreeSender e w)) Won = Locked (after_free e w)
leads c h (Locked (FreeSender e w)) (Lost v) = Locked (LoadSender e)
leads c h (Locked (AcquireReady e)) Got = Pushing (LoadFreed e)
leads c h (Pushing (LoadFreed e)) (Word w) = Pushing (PushFreed e w)
leads c h (Pushing (PushFreed e w)) Released = Locked (Release (release.Taken e))
leads c h (Locked CommitWait) Won = Locked (after_wait c.from)
leads c h (Locked (LoadPartner from)) (Word w) = Locked (if is_present_in w from then Release release.Waits else CommitGone from)
leads c h (Locked (CommitGone from)) Won = Locked (Release release.Gone)
leads c h (Locked LoadPicking) (Word w) = Locked (picking_by (first_admitted c.from h.queue.entries) w.state)
leads c h (Locked (LoadNext e)) (Word w) = Locked (if still_waits c e w then FreeNext e w else try_next (candidates_after c h e))
leads c h (Locked (FreeNext e w)) Won = Locked (EndPick e w)
leads c h (Locked (FreeNext e w)) (Lost v) = Locked (LoadNext e)
leads c h (Locked (EndPick e w)) Won = Locked (after_free e w)
leads c h (Locked SettlePick) Won = Locked (Release release.Waits)
leads c h (Locked (Release r)) Released = Outside (Ended (released_end r))
leads c h p r = p  -- a lock is owned: the same step again

-- the caller's word, as the section knows it: its own exchanges change it
abbrev pub own_of : ReceiveCall → StateWord → ReceiveAt → Response → StateWord
own_of c own (Locked CommitWait) Won = in_state (state.Receiving c.from) own
own_of c own (Locked (CommitGone from)) Won = in_state (state.Run result4.Gone) own
own_of c own (Locked (EndPick e w)) Won = on_in (state.Run result4.Plain) own
own_of c own (Locked SettlePick) Won = on_in (state.Receiving None) own
own_of c own p r = own

-- How the section goes on: a push is told; and where the section comes to its end, that is told.
abbrev pub pushed_at : ReceiveAt → Option ℕ
pushed_at (Pushing (PushFreed e w)) = if is_pushed e w then Some w.priority else None
pushed_at (Pushing (LoadFreed e)) = None
pushed_at (Locked p) = None
pushed_at (Outside p) = None

abbrev pub end_at : ReceiveAt → Went
end_at (Outside (Ended w)) = w
end_at p = went.On

abbrev pub went_at : Option ℕ → ReceiveAt → Went
went_at (Some priority) p = went.Pushed priority
went_at None p = end_at p

abbrev pub went_of : ReceiveCall → Hand → ReceiveAt → Response → Went
went_of c h p r = if asks.is_again r then went.Again else went_at (pushed_at p) (leads c h p r)

-- THE LINEARIZATION POINT

-- A receive is a call of its own. A pick goes on with the caller's reply, and a gone with its receive.
abbrev pub act_of : ReceiveCall → Act
act_of c = if c.picks then act.Pick else act.Call (phase.Receive c.from c.zero)

abbrev pub point_by : ReceiveCall → Act → Outcome → Point
point_by c a o = record { who = c.caller; act = a; outcome = o }

abbrev pub nobody_left : ReceiveCall → Option SenderEntry → Option Point
nobody_left c (Some e) = None
nobody_left c None = if c.zero then Some (point_by c (act_of c) outcome.Nobody) else None

-- The event that a step appends to the history, if any. A caller that was destroyed decides nothing: the first load tells it, and
-- nobody destroys a thread whose lock is held.
abbrev pub points : ReceiveCall → StateWord → Hand → ReceiveAt → Response → Option Point
points c caller h (Outside LoadCaller) (Word w) = if is_dead w then None else Some (point_by c (act_of c) outcome.Own)
points c caller h (Locked LoadOwn) (Word w) = if is_dead w then None else nobody_left c (first_admitted c.from h.queue.entries)
points c caller h (Locked (LoadSender e)) (Word w) = if still_waits c e w then None else nobody_left c (candidates_after c h e)
points c caller h (Locked (FreeSender e w)) Won = Some (point_by c (act_of c) (outcome.Took (sender_of e) (message_of e)))
points c caller h (Locked CommitWait) Won = Some (point_by c (act_of c) outcome.Waits)
points c caller h (Locked (LoadPartner from)) (Word w) = if is_present_in w from then None else Some (point_by c act.Gone outcome.Freed)
points c caller h (Locked (FreeNext e w)) Won = Some (point_by c (act_of c) (outcome.Took (sender_of e) (message_of e)))
points c caller h (Locked SettlePick) Won = Some (point_by c (act_of c) outcome.Waits)
points c caller h p r = None

-- LOCKS, AND STEPS LEFT

-- the locks that are held, by rank
abbrev pub locks_of : ReceiveCall → ReceiveAt → List (Option Lock)
locks_of c (Outside p) = None ∷ None ∷ None ∷ []
locks_of c (Locked p) = None ∷ Some (lock.Thread c.caller.number) ∷ None ∷ []
locks_of c (Pushing p) = None ∷ Some (lock.Thread c.caller.number) ∷ Some lock.Ready ∷ []

-- how many candidates are left, this one included
abbrev pub candidates_from : ReceiveCall → Hand → SenderEntry → ℕ
candidates_from c h e = admitted c.from (onward (number_of e) h.queue.entries)

abbrev pub left_wait : Option ThreadId → ℕ
left_wait None = 2
left_wait (Some from) = 4

-- without a candidate: a receive that doesn't wait, an open one, a closed one
abbrev pub left_none : ReceiveCall → ℕ
left_none c = if c.zero then 2 else 1 + left_wait c.from

abbrev pub left_own : ReceiveCall → ℕ → ℕ
left_own c zero = left_none c
left_own c (suc m) = suc m + 6

abbrev pub left_picking : ℕ → ℕ
left_picking zero = 3
left_picking (suc m) = suc m + 7

-- How many steps are left until the caller's lock is released, that release included: the greatest number where no exchange is
-- lost but the one at this location.
abbrev pub left_thread : ReceiveCall → Hand → ReceiveAt → ℕ
left_thread c h (Locked LoadOwn) = left_own c (admitted c.from h.queue.entries)
left_thread c h (Locked (LoadSender e)) = candidates_from c h e + 5
left_thread c h (Locked (FreeSender e w)) = candidates_from c h e + 6
left_thread c h (Locked (AcquireReady e)) = 4
left_thread c h (Pushing (LoadFreed e)) = 3
left_thread c h (Pushing (PushFreed e w)) = 2
left_thread c h (Locked CommitWait) = left_wait c.from
left_thread c h (Locked (LoadPartner from)) = 3
left_thread c h (Locked (CommitGone from)) = 2
left_thread c h (Locked LoadPicking) = left_picking (admitted c.from h.queue.entries)
left_thread c h (Locked (LoadNext e)) = candidates_from c h e + 6
left_thread c h (Locked (FreeNext e w)) = candidates_from c h e + 7
left_thread c h (Locked (EndPick e w)) = 5
left_thread c h (Locked SettlePick) = 2
left_thread c h (Locked (Release r)) = 1
left_thread c h (Outside p) = 0

-- no candidate is tried any more
abbrev pub is_settled : ReceiveLocked → Bool
is_settled LoadOwn = false
is_settled (LoadSender e) = false
is_settled (FreeSender e w) = false
is_settled (AcquireReady e) = true
is_settled CommitWait = true
is_settled (LoadPartner from) = true
is_settled (CommitGone from) = true
is_settled LoadPicking = false
is_settled (LoadNext e) = false
is_settled (FreeNext e w) = false
is_settled (EndPick e w) = true
is_settled SettlePick = true
is_settled (Release r) = true

-- the same for the ready lock
abbrev pub left_ready : ReceiveAt → ℕ
left_ready (Pushing (LoadFreed e)) = 2
left_ready (Pushing (PushFreed e w)) = 1
left_ready (Locked p) = 0
left_ready (Outside p) = 0

abbrev pub left_of : ReceiveCall → Hand → ReceiveAt → Lock → ℕ
left_of c h p (lock.Thread number) = if number == c.caller.number then left_thread c h p else 0
left_of c h p lock.Ready = left_ready p
left_of c h p lock.Table = 0

-- The same, where it is told whether the sender's word that was loaded is still there. So it falls with each step.
abbrev pub rest_thread : ReceiveCall → Hand → Bool → ReceiveAt → ℕ
rest_thread c h there (Locked (FreeSender e w)) = if there then 5 else candidates_from c h e + 6
rest_thread c h there (Locked (FreeNext e w)) = if there then 6 else candidates_from c h e + 7
rest_thread c h there p = left_thread c h p

abbrev pub rest_of : ReceiveCall → Hand → Bool → ReceiveAt → Lock → ℕ
rest_of c h there p (lock.Thread number) = if number == c.caller.number then rest_thread c h there p else 0
rest_of c h there p lock.Ready = left_ready p
rest_of c h there p lock.Table = 0

-- the number whose word was loaded
abbrev pub seen_of : ReceiveAt → Option ℕ
seen_of (Locked (FreeSender e w)) = Some (number_of e)
seen_of (Locked (FreeNext e w)) = Some (number_of e)
seen_of p = None

-- how many lost exchanges `left_thread` counts
abbrev pub counted : ReceiveAt → ℕ
counted (Locked (FreeSender e w)) = 1
counted (Locked (FreeNext e w)) = 1
counted p = 0

-- What is never answered: that an exchange of the caller's own word is lost, since nobody else changes it while the caller's section
-- holds its lock there; and a queue in which a number stands twice.
abbrev pub IsAllowed : Hand → ReceiveAt → Response → Type 0
IsAllowed h (Outside AcquireOwn) r = IsOnceEach h.queue.entries
IsAllowed h (Locked CommitWait) r = is_lost r ≡ false
IsAllowed h (Locked (CommitGone from)) r = is_lost r ≡ false
IsAllowed h (Locked (EndPick e w)) r = is_lost r ≡ false
IsAllowed h (Locked SettlePick) r = is_lost r ≡ false
IsAllowed h p r = Unit {0}

-- The entry that it has chosen is in the queue in hand, and its sender is one that it admits.
pub record IsCandidate (c : ReceiveCall) (queue : Queue) (e : SenderEntry) : Type 0 where
  pub standing : entry_of (number_of e) queue.entries ≡ Some e
  pub wanted : admits c.from (sender_of e) ≡ true

-- The entry that is tried is a candidate of the queue.
abbrev pub IsChosen : ReceiveCall → Queue → ReceiveLocked → Type 0
IsChosen c queue (LoadSender e) = IsCandidate c queue e
IsChosen c queue (FreeSender e w) = IsCandidate c queue e
IsChosen c queue (LoadNext e) = IsCandidate c queue e
IsChosen c queue (FreeNext e w) = IsCandidate c queue e
IsChosen c queue p = Unit {0}

-- What `left` takes for granted: each number has one entry in the queue in hand.
abbrev pub IsCounted : ReceiveCall → Hand → ReceiveAt → Type 0
IsCounted c h (Outside p) = Unit {0}
IsCounted c h (Locked p) = IsOnceEach h.queue.entries × IsChosen c h.queue p
IsCounted c h (Pushing p) = IsOnceEach h.queue.entries

abbrev pub receive_table : ReceiveCall → Table ReceiveAt
receive_table c = record {
  first = first_of c;
  ask = ask_of c;
  leads = leads c;
  hand = hand_after c;
  own = own_of c;
  locks = locks_of c;
  left = left_of c;
  stays = λ p. false;
  counted = counted;
  rest = rest_of c;
  seen = seen_of;
  Allows = IsAllowed;
  Fits = IsCounted c;
}

-- THE SECTION, as a location with what is in hand

abbrev pub at_of : ReceiveLocation → ReceiveAt
at_of (location.Outside p) = Outside p
at_of (location.Locked p queue) = Locked p
at_of (location.Pushing p queue lists) = Pushing p
at_of (location.ListsReturned e w queue) = Pushing (PushFreed e w)
at_of (location.QueueReturned r) = Locked (Release r)

abbrev pub hand_of : ReceiveLocation → Hand
hand_of (location.Outside p) = nothing
hand_of (location.Locked p queue) = record nothing { queue = queue }
hand_of (location.Pushing p queue lists) = record nothing { queue = queue; lists = lists }
hand_of (location.ListsReturned e w queue) = record nothing { queue = queue }
hand_of (location.QueueReturned r) = nothing

abbrev pub location_with : Hand → ReceiveAt → ReceiveLocation
location_with h (Outside p) = location.Outside p
location_with h (Locked p) = location.Locked p h.queue
location_with h (Pushing p) = location.Pushing p h.queue h.lists

abbrev pub is_release : ReceiveLocked → Bool
is_release (Release r) = true
is_release LoadOwn = false
is_release (LoadSender e) = false
is_release (FreeSender e w) = false
is_release (AcquireReady e) = false
is_release CommitWait = false
is_release (LoadPartner from) = false
is_release (CommitGone from) = false
is_release LoadPicking = false
is_release (LoadNext e) = false
is_release (FreeNext e w) = false
is_release (EndPick e w) = false
is_release SettlePick = false

-- What is left in the section once it is asked for its step: what a release puts back has gone.
abbrev pub asked_locked : ReceiveLocked → Queue → ReceiveLocation
asked_locked (Release r) queue = location.QueueReturned r
asked_locked p queue = location.Locked p queue

abbrev pub asked_pushing : ReceivePushing → Queue → Ready → ReceiveLocation
asked_pushing (LoadFreed e) queue lists = location.Pushing (LoadFreed e) queue lists
asked_pushing (PushFreed e w) queue lists = location.ListsReturned e w queue

abbrev pub asked_location : ReceiveLocation → ReceiveLocation
asked_location (location.Outside p) = location.Outside p
asked_location (location.Locked p queue) = asked_locked p queue
asked_location (location.Pushing p queue lists) = asked_pushing p queue lists
asked_location (location.ListsReturned e w queue) = location.ListsReturned e w queue
asked_location (location.QueueReturned r) = location.QueueReturned r

-- A section at its first location.
abbrev pub receive_of : ReceiveCall → StateWord → ReceiveSection
receive_of c own = record { call = c; own = own; location = location_with nothing (first_of c); done = 0 }

-- the step of a location on words as bits, with what goes home
abbrev pub next_of : ReceiveCall → StateWord → Hand → ReceiveAt → Step
next_of c own h p = step_for (ask_of c own p) (hand_after c h p Released)

abbrev pub step_of : ReceiveSection → Step
step_of s = next_of s.call s.own (hand_of s.location) (at_of s.location)

abbrev pub asked : ReceiveSection → ReceiveSection
asked s = record s { location = asked_location s.location }

-- what an answer tells the section
abbrev pub heard : ReceiveSection → Answer → Response
heard s a = response_of a (ask_of s.call s.own (at_of s.location))

-- the section after an answer
abbrev pub moved : ReceiveSection → Answer → ReceiveSection
moved s a = record s {
  own = own_of s.call s.own (at_of s.location) (heard s a);
  location = location_with (hand_with a (hand_after s.call (hand_of s.location) (at_of s.location) (heard s a))) (leads s.call (hand_of s.location) (at_of s.location) (heard s a));
  done = one_more s.done;
}

abbrev pub resumed : ReceiveSection → Answer → ReceiveSection
resumed s a = if is_again a then s else moved s a

-- CONDITIONS, on the section alone

-- it isn't over
abbrev pub is_open : ReceiveAt → Bool
is_open (Outside LoadCaller) = true
is_open (Outside AcquireOwn) = true
is_open (Outside (Ended w)) = false
is_open (Locked p) = true
is_open (Pushing p) = true

-- its step can be asked for: it isn't over, and the step before was answered
abbrev pub can_ask : ReceiveLocation → Bool
can_ask (location.Outside LoadCaller) = true
can_ask (location.Outside AcquireOwn) = true
can_ask (location.Outside (Ended w)) = false
can_ask (location.Locked p queue) = true
can_ask (location.Pushing p queue lists) = true
can_ask (location.ListsReturned e w queue) = false
can_ask (location.QueueReturned r) = false

-- a candidate whose word was loaded, and shows that its sender waits
pub record IsWaiting (c : ReceiveCall) (queue : Queue) (e : SenderEntry) (w : StateWord) : Type 0 where
  pub candidate : IsCandidate c queue e
  pub word : IsThread w

abbrev pub IsSoundLocked : ReceiveCall → ReceiveLocked → Queue → Type 0
IsSoundLocked c (LoadSender e) queue = IsCandidate c queue e
IsSoundLocked c (FreeSender e w) queue = IsWaiting c queue e w
IsSoundLocked c (AcquireReady e) queue = IsCandidate c queue e
IsSoundLocked c (LoadNext e) queue = IsCandidate c queue e
IsSoundLocked c (FreeNext e w) queue = IsWaiting c queue e w
IsSoundLocked c (EndPick e w) queue = IsCandidate c queue e
IsSoundLocked c (Release (release.Taken e)) queue = IsCandidate c queue e
IsSoundLocked c p queue = Unit {0}

abbrev pub IsSoundPushing : ReceiveCall → ReceivePushing → Queue → Type 0
IsSoundPushing c (LoadFreed e) queue = IsCandidate c queue e
IsSoundPushing c (PushFreed e w) queue = IsCandidate c queue e × (w.priority < 64)

abbrev pub IsSoundLocation : ReceiveCall → ReceiveLocation → Type 0
IsSoundLocation c (location.Outside p) = Unit {0}
IsSoundLocation c (location.Locked p queue) = IsSoundLocked c p queue
IsSoundLocation c (location.Pushing p queue lists) = IsSoundPushing c p queue
IsSoundLocation c (location.ListsReturned e w queue) = IsCandidate c queue e
IsSoundLocation c (location.QueueReturned r) = Unit {0}

pub record IsSound (s : ReceiveSection) : Type 0 where
  pub caller : IsPartner s.call.caller
  pub from : IfSome s.call.from IsPartner
  pub own : IsThread s.own
  pub located : IsSoundLocation s.call s.location

-- The number of the thread to be put into a ready list is in none.
abbrev pub CanPush : ReceiveCall → Hand → ReceiveAt → Type 0
CanPush c h (Pushing (PushFreed e w)) = is_pushed e w ≡ true → IsInNone (number_of e) h.lists.lists
CanPush c h p = Unit {0}

-- A state word in the answer is a spelling.
abbrev pub IsFit : ReceiveAt → Answer → Type 0
IsFit p (answer.Told (told.Loaded n)) = IsStateSpelling n
IsFit p a = Unit {0}
