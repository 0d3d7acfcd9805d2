-- The section of a send, location by location: what it asks for, where each response leads, what becomes of what is in hand, which
-- event it appends to the history, which locks it holds, and how many steps are left until a lock is released. The locations stand
-- in the order in which a send comes to them.
--
-- The send is of `c.caller` to `c.to`. `own` is the caller's state word as the section knows it, and `h` is what is in hand.
use Rattle.std.specs.Prelude.{ℕ, ◌==◌, ◌<◌, Bool, true, false, not, if◌then◌else◌, Option, Some, None, List, [], ◌∷◌, ◌++◌}
use Rattle.k_ids.specs.declared.threads.ThreadId.{ThreadId}
use Rattle.k_ids.specs.declared.calls.Phase.{Phase}
use Rattle.k_ids.specs.declared.calls.Phase.TheVariants as phase
use Rattle.k_ids.specs.declared.calls.Reply.TheVariants as reply
use Rattle.k_ids.specs.declared.calls.Act.TheVariants as act
use Rattle.k_ids.specs.declared.calls.Outcome.{Outcome}
use Rattle.k_ids.specs.declared.calls.Outcome.TheVariants as outcome
use Rattle.k_ids.specs.declared.state_word.Result4.TheVariants as result4
use Rattle.k_ids.specs.declared.state_word.State.TheVariants as state
use Rattle.k_ids.specs.declared.state_word.StateWord.{StateWord}
use Rattle.k_ids.specs.StateWords.{IsPartner, IsStateSpelling, state_word_of}
use Rattle.k_model.specs.State.{same_id, takes_from}
use Rattle.k_ready.specs.Lists.{IsInNone}
use Rattle.k_senders.specs.Entries.{entry_for}
use Rattle.k_senders.specs.Queue.{Queue}
use Rattle.k_locks.specs.declared.locks.Lock.{Lock}
use Rattle.k_locks.specs.declared.locks.Lock.TheVariants as lock
use Rattle.k_locks.specs.declared.points.Point.{Point}
use Rattle.k_locks.specs.declared.steps.Step.{Step}
use Rattle.k_locks.specs.declared.steps.Answer.{Answer}
use Rattle.k_locks.specs.declared.steps.Answer.TheVariants as answer
use Rattle.k_locks.specs.declared.steps.Told.TheVariants as told
use Rattle.k_locks.specs.declared.steps.Went.{Went}
use Rattle.k_locks.specs.declared.steps.Went.TheVariants as went
use Rattle.k_locks.specs.Asks as asks
use Rattle.k_locks.specs.Asks.{Ask, Response, Word, Stored, Won, Lost, Got, Released, response_of, step_for}
use Rattle.k_locks.specs.Hands.{Hand, nothing, hand_with, pushed}
use Rattle.k_locks.specs.Shown.{found_in, is_dead, is_present_in, shows}
use Rattle.k_locks.specs.Steps.{is_again, one_more}
use Rattle.k_locks.specs.Tables.{Table}
use Rattle.k_locks.specs.Threads.{IsThread}
use Rattle.k_ipc.specs.declared.send.Manner.{Manner}
use Rattle.k_ipc.specs.declared.send.Manner.TheVariants as manner
use Rattle.k_ipc.specs.declared.send.SendCall.{SendCall}
use Rattle.k_ipc.specs.declared.send.SendOutside.{SendOutside}
use Rattle.k_ipc.specs.declared.send.SendOutside.TheVariants.{LoadCaller, AcquireReceiver, CheckCaller, Ended}
use Rattle.k_ipc.specs.declared.send.SendLocked.{SendLocked}
use Rattle.k_ipc.specs.declared.send.SendLocked.TheVariants.{LoadReceiver, StoreMail, CommitPass, WakeReceiver, ReloadReceiver, AcquireReady, CommitWait, Release}
use Rattle.k_ipc.specs.declared.send.SendRelease.TheVariants as release
use Rattle.k_ipc.specs.declared.send.SendPushing.{SendPushing}
use Rattle.k_ipc.specs.declared.send.SendPushing.TheVariants.{PushReceiver}
use Rattle.k_ipc.specs.declared.send.SendLocation.{SendLocation}
use Rattle.k_ipc.specs.declared.send.SendLocation.TheVariants as location
use Rattle.k_ipc.specs.declared.send.SendSection.{SendSection}
use Rattle.k_ipc.specs.Words.{IsRoom, alive_or_dead, in_state, on_in}

-- A location: what is held there, and which step comes.
pub data SendAt : Type 0 where
  Outside : SendOutside → SendAt  -- no lock
  Locked : SendLocked → SendAt  -- the receiver's lock
  Pushing : SendPushing → SendAt  -- the receiver's lock and the ready lock

-- WORDS

abbrev pub is_joined : Manner → Bool
is_joined manner.Plain = false
is_joined manner.Joined = true
is_joined manner.Reply = false

-- the caller's word once its message has passed
abbrev pub passed_word : Manner → ThreadId → StateWord → StateWord
passed_word manner.Plain to own = in_state (state.Run result4.Sent) own
passed_word manner.Joined to own = in_state (state.Receiving (Some to)) own
passed_word manner.Reply to own = on_in state.Picking own

-- the caller's word while it waits
abbrev pub waiting_word : SendCall → StateWord → StateWord
waiting_word c own = in_state (state.Sending c.to (is_joined c.manner)) own

-- the receiver's word once it has the message
abbrev pub delivered_word : SendCall → StateWord → StateWord
delivered_word c w = on_in (state.Run (result4.Delivered c.caller)) w

-- THE STEP

abbrev pub first_of : SendCall → SendAt
first_of c = Outside (if same_id c.to c.caller then LoadCaller else AcquireReceiver)

abbrev pub ask_of : SendCall → StateWord → SendAt → Ask
ask_of c own (Outside LoadCaller) = asks.Load c.caller.number
ask_of c own (Outside AcquireReceiver) = asks.Acquire (lock.Thread c.to.number)
ask_of c own (Locked LoadReceiver) = asks.Load c.to.number
ask_of c own (Locked (StoreMail w)) = asks.Post c.to.number c.message
ask_of c own (Locked (CommitPass w)) = asks.Exchange c.caller.number own (passed_word c.manner c.to own)
ask_of c own (Locked (WakeReceiver w)) = asks.Exchange c.to.number w (delivered_word c w)
ask_of c own (Locked ReloadReceiver) = asks.Load c.to.number
ask_of c own (Locked (AcquireReady priority)) = asks.Acquire lock.Ready
ask_of c own (Pushing (PushReceiver priority)) = asks.Release lock.Ready
ask_of c own (Locked (Release r)) = asks.Release (lock.Thread c.to.number)
ask_of c own (Outside (CheckCaller r)) = asks.Load c.caller.number
ask_of c own (Locked CommitWait) = asks.Exchange c.caller.number own (waiting_word c own)
ask_of c own (Outside (Ended w)) = asks.Load c.caller.number  -- a section that is over isn't asked

-- What becomes of what is in hand, also of what goes home with a release: the caller comes to the end of the queue where it waits,
-- the receiver to the end of the list of its priority.
abbrev pub hand_after : SendCall → Hand → SendAt → Response → Hand
hand_after c h (Locked (Release release.Queued)) Released = record h { queue = record h.queue { entries = h.queue.entries ++ entry_for c.caller c.message ∷ [] } }
hand_after c h (Pushing (PushReceiver priority)) Released = record h { lists = pushed c.to priority h.lists }
hand_after c h p r = h

-- WHERE A RESPONSE LEADS

-- the receiver's word tells whether the message passes, is refused, or waits
abbrev pub after_receiver : SendCall → StateWord → SendLocked
after_receiver c w =
    if not (is_present_in w c.to) then Release (release.Refused (reply.Absent (found_in c.to.number w)))
    else (if takes_from (shows w.state) c.caller c.zero then StoreMail w
    else (if c.zero then Release (release.Refused (reply.Busy (found_in c.to.number w)))
    else CommitWait))

abbrev pub passed_end : Manner → Went
passed_end manner.Plain = went.Ends reply.Sent
passed_end manner.Joined = went.Waits
passed_end manner.Reply = went.Picks

abbrev pub leads : SendCall → Hand → SendAt → Response → SendAt
leads c h (Outside LoadCaller) (Word w) = Outside (Ended (alive_or_dead w reply.Own))
leads c h (Outside AcquireReceiver) Got = Locked LoadReceiver
leads c h (Locked LoadReceiver) (Word w) = Locked (after_receiver c w)
leads c h (Locked (StoreMail w)) Stored = Locked (CommitPass w)
leads c h (Locked (CommitPass w)) Won = Locked (WakeReceiver w)
leads c h (Locked (CommitPass w)) (Lost v) = Locked (Release release.Dead)
leads c h (Locked (WakeReceiver w)) Won = Locked (if w.on then Release release.Passed else AcquireReady w.priority)
leads c h (Locked (WakeReceiver w)) (Lost v) = Locked ReloadReceiver
leads c h (Locked ReloadReceiver) (Word w) = Locked (WakeReceiver w)
leads c h (Locked (AcquireReady priority)) Got = Pushing (PushReceiver priority)
leads c h (Pushing (PushReceiver priority)) Released = Locked (Release release.Passed)
leads c h (Locked (Release release.Passed)) Released = Outside (Ended (passed_end c.manner))
leads c h (Locked (Release release.Dead)) Released = Outside (Ended went.CallerDead)
leads c h (Locked (Release (release.Refused r))) Released = Outside (CheckCaller r)
leads c h (Outside (CheckCaller r)) (Word w) = Outside (Ended (alive_or_dead w r))
leads c h (Locked CommitWait) Won = Locked (Release release.Queued)
leads c h (Locked CommitWait) (Lost v) = Locked (Release release.Dead)
leads c h (Locked (Release release.Queued)) Released = Outside (Ended went.Waits)
leads c h p r = p  -- a lock is owned: the same step again

-- the caller's word, as the section knows it: its own exchanges change it
abbrev pub own_of : SendCall → StateWord → SendAt → Response → StateWord
own_of c own (Locked (CommitPass w)) Won = passed_word c.manner c.to own
own_of c own (Locked CommitWait) Won = waiting_word c own
own_of c own p r = own

-- How the section goes on: a push is told; and where the section comes to its end, that is told.
abbrev pub pushed_at : SendAt → Option ℕ
pushed_at (Pushing (PushReceiver priority)) = Some priority
pushed_at (Locked p) = None
pushed_at (Outside p) = None

abbrev pub end_at : SendAt → Went
end_at (Outside (Ended w)) = w
end_at p = went.On

abbrev pub went_at : Option ℕ → SendAt → Went
went_at (Some priority) p = went.Pushed priority
went_at None p = end_at p

abbrev pub went_of : SendCall → Hand → SendAt → Response → Went
went_of c h p r = if asks.is_again r then went.Again else went_at (pushed_at p) (leads c h p r)

-- THE LINEARIZATION POINT

abbrev pub phase_by : SendCall → Manner → Phase
phase_by c manner.Plain = phase.Send c.to c.message c.zero false
phase_by c manner.Joined = phase.Send c.to c.message c.zero true
phase_by c manner.Reply = phase.Reply c.to c.message c.zero

abbrev pub point_of : SendCall → Outcome → Point
point_of c o = record { who = c.caller; act = act.Call (phase_by c c.manner); outcome = o }

-- what the receiver's word decides: a refusal, or nothing yet
abbrev pub refusal_of : SendCall → StateWord → Option Point
refusal_of c w =
    if not (is_present_in w c.to) then Some (point_of c (outcome.Absent (found_in c.to.number w)))
    else (if takes_from (shows w.state) c.caller c.zero then None
    else (if c.zero then Some (point_of c (outcome.Busy (found_in c.to.number w)))
    else None))

-- The event that a step appends to the history, if any. `caller` is the caller's state word at this very step. A caller that was
-- destroyed decides nothing.
abbrev pub points : SendCall → StateWord → Hand → SendAt → Response → Option Point
points c caller h (Outside LoadCaller) (Word w) = if is_dead w then None else Some (point_of c outcome.Own)
points c caller h (Locked LoadReceiver) (Word w) = if is_dead caller then None else refusal_of c w
points c caller h (Locked (CommitPass w)) Won = Some (point_of c outcome.Passed)
points c caller h (Locked CommitWait) Won = Some (point_of c outcome.Waits)
points c caller h p r = None

-- LOCKS, AND STEPS LEFT

-- the locks that are held, by rank
abbrev pub locks_of : SendCall → SendAt → List (Option Lock)
locks_of c (Outside p) = None ∷ None ∷ None ∷ []
locks_of c (Locked p) = None ∷ Some (lock.Thread c.to.number) ∷ None ∷ []
locks_of c (Pushing p) = None ∷ Some (lock.Thread c.to.number) ∷ Some lock.Ready ∷ []

-- How many steps are left until the receiver's lock is released, that release included: the greatest number where no exchange
-- is lost but the one at this location. A receiver that was on when it was loaded may be off by now, since it may fall asleep
-- on its own: so two steps more are counted from there on, for one lost exchange.
abbrev pub left_thread : SendAt → ℕ
left_thread (Locked LoadReceiver) = 7
left_thread (Locked (StoreMail w)) = if w.on then 8 else 6
left_thread (Locked (CommitPass w)) = if w.on then 7 else 5
left_thread (Locked (WakeReceiver w)) = 6
left_thread (Locked ReloadReceiver) = 5
left_thread (Locked (AcquireReady priority)) = 3
left_thread (Pushing (PushReceiver priority)) = 2
left_thread (Locked (Release release.Passed)) = 1
left_thread (Locked (Release release.Dead)) = 1
left_thread (Locked (Release (release.Refused r))) = 1
left_thread (Locked CommitWait) = 2
left_thread (Locked (Release release.Queued)) = 1
left_thread (Outside p) = 0

-- the same for the ready lock
abbrev pub left_ready : SendAt → ℕ
left_ready (Pushing (PushReceiver priority)) = 1
left_ready (Locked p) = 0
left_ready (Outside p) = 0

abbrev pub left_of : SendCall → Hand → SendAt → Lock → ℕ
left_of c h p (lock.Thread number) = if number == c.to.number then left_thread p else 0
left_of c h p lock.Ready = left_ready p
left_of c h p lock.Table = 0

-- The same, where it is told whether the receiver's word that was loaded is still there. So it falls with each step.
abbrev pub rest_thread : Bool → SendAt → ℕ
rest_thread there (Locked (StoreMail w)) = if there then 6 else 8
rest_thread there (Locked (CommitPass w)) = if there then 5 else 7
rest_thread there (Locked (WakeReceiver w)) = if there then 4 else 6
rest_thread there p = left_thread p

abbrev pub rest_of : SendCall → Hand → Bool → SendAt → Lock → ℕ
rest_of c h there p (lock.Thread number) = if number == c.to.number then rest_thread there p else 0
rest_of c h there p lock.Ready = left_ready p
rest_of c h there p lock.Table = 0

-- the number whose word was loaded
abbrev pub seen_of : SendCall → SendAt → Option ℕ
seen_of c (Locked (StoreMail w)) = Some c.to.number
seen_of c (Locked (CommitPass w)) = Some c.to.number
seen_of c (Locked (WakeReceiver w)) = Some c.to.number
seen_of c p = None

-- whether `left_thread` takes it that the loaded word is still there: a receiver that is off doesn't fall asleep
abbrev pub stays : SendAt → Bool
stays (Locked (StoreMail w)) = not w.on
stays (Locked (CommitPass w)) = not w.on
stays p = false

-- how many lost exchanges `left_thread` counts
abbrev pub counted : SendAt → ℕ
counted (Locked (StoreMail w)) = if w.on then 1 else 0
counted (Locked (CommitPass w)) = if w.on then 1 else 0
counted (Locked (WakeReceiver w)) = 1
counted p = 0

abbrev pub send_table : SendCall → Table SendAt
send_table c = record {
  first = first_of c;
  ask = ask_of c;
  leads = leads c;
  hand = hand_after c;
  own = own_of c;
  locks = locks_of c;
  left = left_of c;
  stays = stays;
  counted = counted;
  rest = rest_of c;
  seen = seen_of c;
  Allows = λ h p r. Unit {0};
  Fits = λ h p. Unit {0};
}

-- THE SECTION, as a location with what is in hand

abbrev pub at_of : SendLocation → SendAt
at_of (location.Outside p) = Outside p
at_of (location.Locked p queue) = Locked p
at_of (location.Pushing p queue lists) = Pushing p
at_of (location.ListsReturned p queue) = Pushing p
at_of (location.QueueReturned r) = Locked (Release r)

abbrev pub hand_of : SendLocation → Hand
hand_of (location.Outside p) = nothing
hand_of (location.Locked p queue) = record nothing { queue = queue }
hand_of (location.Pushing p queue lists) = record nothing { queue = queue; lists = lists }
hand_of (location.ListsReturned p queue) = record nothing { queue = queue }
hand_of (location.QueueReturned r) = nothing

abbrev pub location_with : Hand → SendAt → SendLocation
location_with h (Outside p) = location.Outside p
location_with h (Locked p) = location.Locked p h.queue
location_with h (Pushing p) = location.Pushing p h.queue h.lists

abbrev pub is_release : SendLocked → Bool
is_release (Release r) = true
is_release LoadReceiver = false
is_release (StoreMail w) = false
is_release (CommitPass w) = false
is_release (WakeReceiver w) = false
is_release ReloadReceiver = false
is_release (AcquireReady priority) = false
is_release CommitWait = false

-- What is left in the section once it is asked for its step: what a release puts back has gone.
abbrev pub asked_locked : SendLocked → Queue → SendLocation
asked_locked (Release r) queue = location.QueueReturned r
asked_locked LoadReceiver queue = location.Locked LoadReceiver queue
asked_locked (StoreMail w) queue = location.Locked (StoreMail w) queue
asked_locked (CommitPass w) queue = location.Locked (CommitPass w) queue
asked_locked (WakeReceiver w) queue = location.Locked (WakeReceiver w) queue
asked_locked ReloadReceiver queue = location.Locked ReloadReceiver queue
asked_locked (AcquireReady priority) queue = location.Locked (AcquireReady priority) queue
asked_locked CommitWait queue = location.Locked CommitWait queue

abbrev pub asked_location : SendLocation → SendLocation
asked_location (location.Outside p) = location.Outside p
asked_location (location.Locked p queue) = asked_locked p queue
asked_location (location.Pushing p queue lists) = location.ListsReturned p queue
asked_location (location.ListsReturned p queue) = location.ListsReturned p queue
asked_location (location.QueueReturned r) = location.QueueReturned r

abbrev pub manner_of : Bool → Manner
manner_of joined = if joined then manner.Joined else manner.Plain

-- A section at its first location.
abbrev pub send_of : SendCall → StateWord → SendSection
send_of c own = record { call = c; own = own; location = location_with nothing (first_of c); done = 0 }

-- the step of a location on words as bits, with what goes home
abbrev pub next_of : SendCall → StateWord → Hand → SendAt → Step
next_of c own h p = step_for (ask_of c own p) (hand_after c h p Released)

abbrev pub step_of : SendSection → Step
step_of s = next_of s.call s.own (hand_of s.location) (at_of s.location)

abbrev pub asked : SendSection → SendSection
asked s = record s { location = asked_location s.location }

-- what an answer tells the section
abbrev pub heard : SendSection → Answer → Response
heard s a = response_of a (ask_of s.call s.own (at_of s.location))

-- the section after an answer
abbrev pub moved : SendSection → Answer → SendSection
moved s a = record s {
  own = own_of s.call s.own (at_of s.location) (heard s a);
  location = location_with (hand_with a (hand_after s.call (hand_of s.location) (at_of s.location) (heard s a))) (leads s.call (hand_of s.location) (at_of s.location) (heard s a));
  done = one_more s.done;
}

abbrev pub resumed : SendSection → Answer → SendSection
resumed s a = if is_again a then s else moved s a

-- CONDITIONS, on the section alone

-- it isn't over
abbrev pub is_open : SendAt → Bool
is_open (Outside LoadCaller) = true
is_open (Outside AcquireReceiver) = true
is_open (Outside (CheckCaller r)) = true
is_open (Outside (Ended w)) = false
is_open (Locked p) = true
is_open (Pushing p) = true

-- its step can be asked for: it isn't over, and the step before was answered
abbrev pub can_ask : SendLocation → Bool
can_ask (location.Outside LoadCaller) = true
can_ask (location.Outside AcquireReceiver) = true
can_ask (location.Outside (CheckCaller r)) = true
can_ask (location.Outside (Ended w)) = false
can_ask (location.Locked p queue) = true
can_ask (location.Pushing p queue lists) = true
can_ask (location.ListsReturned p queue) = false
can_ask (location.QueueReturned r) = false

-- The words and priorities that it knows are those of a thread.
abbrev pub IsSoundAt : SendAt → Type 0
IsSoundAt (Locked (StoreMail w)) = IsThread w
IsSoundAt (Locked (CommitPass w)) = IsThread w
IsSoundAt (Locked (WakeReceiver w)) = IsThread w
IsSoundAt (Locked (AcquireReady priority)) = priority < 64
IsSoundAt (Pushing (PushReceiver priority)) = priority < 64
IsSoundAt p = Unit {0}

pub record IsSound (s : SendSection) : Type 0 where
  pub caller : IsPartner s.call.caller
  pub to : IsPartner s.call.to
  pub own : IsThread s.own
  pub located : IsSoundAt (at_of s.location)

-- There is room in the queue for one entry, and none of the caller's number; the receiver's number is in no ready list.
abbrev pub CanPush : SendCall → Hand → SendAt → Type 0
CanPush c h (Locked (Release release.Queued)) = IsRoom c.caller h.queue
CanPush c h (Pushing (PushReceiver priority)) = IsInNone c.to.number h.lists.lists
CanPush c h p = Unit {0}

-- a state word in the answer is a spelling, and of a thread where the section makes another word of it
abbrev pub IsFit : SendAt → Answer → Type 0
IsFit (Locked ReloadReceiver) (answer.Told (told.Loaded n)) = IsStateSpelling n × IsThread (state_word_of n)
IsFit p (answer.Told (told.Loaded n)) = IsStateSpelling n
IsFit p a = Unit {0}
