-- A context that can be asked for its step is open once it was asked, and has in hand what its locks guard, or less.
use Rattle.std.proofs.Common.{◌≡◌, ◌≤◌, ℕ, true, refl, sym, ap, ◌∙◌, subst, arith, Option, Some, None, List, length}
use Rattle.std.proofs.lemmas.Bool.{false≢true}
use Rattle.std.specs.Prelude.{option_map, slice_index_or}
use Rattle.k_ids.specs.declared.calls.Phase.{Phase}
use Rattle.k_ids.specs.declared.calls.Phase.TheVariants as phase
use Rattle.k_ids.specs.declared.state_word.StateWord.{StateWord}
use Rattle.k_ids.specs.declared.threads.ThreadId.{ThreadId}
use Rattle.k_senders.specs.Queue.{IsOnceEach}
use Rattle.k_locks.specs.declared.locks.Lock.{Lock}
use Rattle.k_locks.specs.Hands.{Hand, if_held, no_numbers, no_queue, nothing, trimmed}
use Rattle.k_script.specs.Script.{Script}
use Rattle.k_script.specs.Plays.{next_of, went_on}
use Rattle.k_script.specs.declared.registers.Next.{Next}
use Rattle.k_script.specs.declared.registers.Next.TheVariants as next
use Rattle.k_ipc.specs.declared.send.SendLocation.{SendLocation}
use Rattle.k_ipc.specs.declared.send.SendLocation.TheVariants as send_location
use Rattle.k_ipc.specs.declared.send.SendLocked.TheVariants as send_locked
use Rattle.k_ipc.specs.declared.send.SendOutside.TheVariants as send_outside
use Rattle.k_ipc.specs.SendTable as send
use Rattle.k_ipc.specs.declared.receive.ReceiveLocation.{ReceiveLocation}
use Rattle.k_ipc.specs.declared.receive.ReceiveLocation.TheVariants as receive_location
use Rattle.k_ipc.specs.declared.receive.ReceiveLocked.TheVariants as receive_locked
use Rattle.k_ipc.specs.declared.receive.ReceiveOutside.TheVariants as receive_outside
use Rattle.k_ipc.specs.declared.receive.ReceivePushing.TheVariants as receive_pushing
use Rattle.k_ipc.specs.ReceiveTable as receive
use Rattle.k_ipc.proofs.SendLaws as send_laws
use Rattle.k_ipc.proofs.ReceiveLaws as receive_laws
use Rattle.k_threads.specs.declared.create.CreateLocation.{CreateLocation}
use Rattle.k_threads.specs.declared.create.CreateLocation.TheVariants as create_location
use Rattle.k_threads.specs.declared.create.CreateLocked.TheVariants as create_locked
use Rattle.k_threads.specs.declared.create.CreateOutside.TheVariants as create_outside
use Rattle.k_threads.specs.CreateTable as create
use Rattle.k_threads.specs.declared.destroy.DestroyLocation.{DestroyLocation}
use Rattle.k_threads.specs.declared.destroy.DestroyLocation.TheVariants as destroy_location
use Rattle.k_threads.specs.declared.destroy.DestroyLocked.TheVariants as destroy_locked
use Rattle.k_threads.specs.declared.destroy.DestroyOutside.TheVariants as destroy_outside
use Rattle.k_threads.specs.declared.destroy.DestroyVictim.TheVariants as victim
use Rattle.k_threads.specs.declared.destroy.DestroyVisit.TheVariants as visit
use Rattle.k_threads.specs.DestroyTable as destroy
use Rattle.k_switch.specs.declared.switch.Switch.{Switch}
use Rattle.k_switch.specs.declared.switch.SwitchCall.{SwitchCall}
use Rattle.k_switch.specs.declared.switch.SwitchLocation.{SwitchLocation}
use Rattle.k_switch.specs.declared.switch.SwitchLocation.TheVariants as switch_location
use Rattle.k_switch.specs.declared.switch.SwitchLocked.TheVariants as switch_locked
use Rattle.k_switch.specs.Carriers as own
use Rattle.k_switch.specs.Switches as switch
use Rattle.k_caller.specs.declared.activity.Activity.{Activity}
use Rattle.k_caller.specs.declared.activity.Activity.TheVariants as activity
use Rattle.k_caller.specs.declared.thread.ThreadLocation.TheVariants as location
use Rattle.k_caller.specs.Activities as about
use Rattle.k_caller.specs.Activities.{asked_activity}
use Rattle.k_caller.specs.Threads.{ThreadSeen, begun, begun_at, begun_by, begun_next}
use Rattle.k_context.specs.Contexts.{Carrier, ContextSeen, Thread}
use Rattle.k_context.specs.Contexts as contexts
use Rattle.k_board.specs.Boards.{Board, hand_of}
use Rattle.k_places.specs.Contexts.{hand_in, held_on, queue_held}
use Rattle.k_sound.specs.Hands.{HandProper, HasProper, IsProper}
use Rattle.k_conditions.proofs.Tells.{create_asked_at, destroy_asked_at}

-- OPEN

send_open : (l : SendLocation) → send.can_ask l ≡ true → send.is_open (send.at_of l) ≡ true
send_open (send_location.Outside send_outside.LoadCaller) e = refl
send_open (send_location.Outside send_outside.AcquireReceiver) e = refl
send_open (send_location.Outside (send_outside.CheckCaller r)) e = refl
send_open (send_location.Outside (send_outside.Ended w)) e = absurd (false≢true e)
send_open (send_location.Locked p q) e = refl
send_open (send_location.Pushing p q lists) e = refl
send_open (send_location.ListsReturned p q) e = refl
send_open (send_location.QueueReturned r) e = refl

receive_open : (l : ReceiveLocation) → receive.can_ask l ≡ true → receive.is_open (receive.at_of l) ≡ true
receive_open (receive_location.Outside receive_outside.LoadCaller) e = refl
receive_open (receive_location.Outside receive_outside.AcquireOwn) e = refl
receive_open (receive_location.Outside (receive_outside.Ended w)) e = absurd (false≢true e)
receive_open (receive_location.Locked p q) e = refl
receive_open (receive_location.Pushing p q lists) e = refl
receive_open (receive_location.ListsReturned d w q) e = refl
receive_open (receive_location.QueueReturned r) e = refl

create_open : (l : CreateLocation) → create.can_ask l ≡ true → create.is_open (create.at_of l) ≡ true
create_open (create_location.Outside create_outside.AcquireTable) e = refl
create_open (create_location.Outside (create_outside.Ended w)) e = absurd (false≢true e)
create_open (create_location.Locked p numbers) e = refl
create_open (create_location.PushCreated id numbers lists) e = refl
create_open (create_location.ListsReturned id numbers) e = refl
create_open (create_location.NumbersReturned r) e = refl

destroy_open : (l : DestroyLocation) → destroy.can_ask l ≡ true → destroy.is_open (destroy.at_of l) ≡ true
destroy_open (destroy_location.Outside destroy_outside.LoadOwn) e = refl
destroy_open (destroy_location.Outside destroy_outside.AcquireTable) e = refl
destroy_open (destroy_location.Outside (destroy_outside.Ended w)) e = absurd (false≢true e)
destroy_open (destroy_location.Locked p numbers) e = refl
destroy_open (destroy_location.Victim p numbers q) e = refl
destroy_open (destroy_location.Visit p numbers q) e = refl
destroy_open (destroy_location.UnlistVictim numbers lists) e = refl
destroy_open (destroy_location.Pushing p numbers q lists) e = refl
destroy_open (destroy_location.Returned r) e = absurd (false≢true e)

activity_opened : (a : Activity) → about.can_ask a ≡ true → about.is_open (asked_activity a) ≡ true
activity_opened (activity.Alone p) e = e
activity_opened (activity.Send s) e = ap send.is_open (send_laws.asked_at s.location) ∙ send_open s.location e
activity_opened (activity.Receive s) e = ap receive.is_open (receive_laws.asked_at s.location)
    ∙ receive_open s.location e
activity_opened (activity.Create s) e = ap create.is_open (create_asked_at s.location)
    ∙ create_open s.location e
activity_opened (activity.Destroy s) e = ap destroy.is_open (destroy_asked_at s.location)
    ∙ destroy_open s.location e

switch_opened : (c : SwitchCall) (l : SwitchLocation) → switch.can_ask l ≡ true →
    switch.is_asked (switch.at_of (switch.asked_location c l)) ≡ true
switch_opened c switch_location.AcquireReady e = refl
switch_opened c (switch_location.Locked (switch_locked.LoadGoal goal) lists) e = refl
switch_opened c (switch_location.Locked (switch_locked.LoadStart back n) lists) e = refl
switch_opened c (switch_location.Locked (switch_locked.ReleaseReady back started) lists) e = refl
switch_opened c (switch_location.ListsReturned s) e = refl
switch_opened c (switch_location.Finished s) e = absurd (false≢true e)

own_opened : (o : Option Switch) → own.can_ask_in o ≡ true → own.is_open_in (option_map switch.asked o) ≡ true
own_opened None e = absurd (false≢true e)
own_opened (Some s) e = switch_opened s.call s.location e

pub opened : (v : ContextSeen) → contexts.can_ask v ≡ true → contexts.is_open (contexts.asked v) ≡ true
opened (Thread t) e = activity_opened t.activity e
opened (Carrier k) e = own_opened k.switch e

-- WHAT IS IN HAND

less : IsProper nothing
less = record { once = tt; few = omega arith }

send_proper : (l : SendLocation) → IsProper (send.hand_of l) → IsProper (send.hand_of (send.asked_location l))
send_proper (send_location.Locked (send_locked.Release r) q) h = less
send_proper (send_location.Pushing p q lists) h = record { once = h.once; few = h.few }
send_proper l h = h

receive_proper : (l : ReceiveLocation) → IsProper (receive.hand_of l) →
    IsProper (receive.hand_of (receive.asked_location l))
receive_proper (receive_location.Locked (receive_locked.Release r) q) h = less
receive_proper (receive_location.Pushing (receive_pushing.LoadFreed e) q lists) h = h
receive_proper (receive_location.Pushing (receive_pushing.PushFreed e w) q lists) h =
    record { once = h.once; few = h.few }
receive_proper l h = h

create_proper : (l : CreateLocation) → IsProper (create.hand_of l) →
    IsProper (create.hand_of (create.asked_location l))
create_proper (create_location.Locked (create_locked.Release r) numbers) h = less
create_proper (create_location.PushCreated id numbers lists) h = record { once = h.once; few = h.few }
create_proper l h = h

destroy_proper : (l : DestroyLocation) → IsProper (destroy.hand_of l) →
    IsProper (destroy.hand_of (destroy.asked_location l))
destroy_proper (destroy_location.Locked (destroy_locked.Release r) numbers) h = less
destroy_proper (destroy_location.Victim victim.ReleaseVictimLock numbers q) h =
    record { once = tt; few = h.few }
destroy_proper (destroy_location.Victim (victim.ReleaseVictimLockAbsent found) numbers q) h =
    record { once = tt; few = h.few }
destroy_proper (destroy_location.Visit (visit.ReleaseVisitedLock visited) numbers q) h =
    record { once = tt; few = h.few }
destroy_proper (destroy_location.UnlistVictim numbers lists) h = record { once = tt; few = h.few }
destroy_proper (destroy_location.Pushing p numbers q lists) h = record { once = h.once; few = h.few }
destroy_proper l h = h

activity_proper : (a : Activity) → HasProper a → HasProper (asked_activity a)
activity_proper (activity.Alone p) h = tt
activity_proper (activity.Send s) h = send_proper s.location h
activity_proper (activity.Receive s) h = receive_proper s.location h
activity_proper (activity.Create s) h = create_proper s.location h
activity_proper (activity.Destroy s) h = destroy_proper s.location h

call_proper : (table : ℕ) (me : ThreadId) (own : StateWord) (f : Phase) → HasProper (begun_by table me own f)
call_proper table me own (phase.Send to message zero joined) = less
call_proper table me own (phase.Reply to message zero) = less
call_proper table me own (phase.Receive from zero) = less
call_proper table me own (phase.Create program priority) = less
call_proper table me own (phase.Destroy who) = less
call_proper table me own phase.End = tt

next_proper : (table : ℕ) (t : ThreadSeen) (n : Next) → HasProper (begun_next table t n).activity
next_proper table t (next.Phase f) = call_proper table t.id t.own f
next_proper table t (next.Work count) = tt

begun_proper : (script : Script) (t : ThreadSeen) → HasProper t.activity → HasProper (begun script t).activity
begun_proper script t h = by t.activity h
  where
    by : (a : Activity) → HasProper a → HasProper (begun_at script (record t { activity = a }) a).activity
    by (activity.Alone (location.Between last)) h =
        next_proper script.table (record t { position = went_on t.position last })
        (next_of script.version t.position last)
    by (activity.Alone location.FallAsleep) h = h
    by (activity.Alone location.LookAgain) h = h
    by (activity.Alone (location.LoadMail from)) h = h
    by (activity.Alone (location.Work count)) h = h
    by (activity.Alone location.CommitEnd) h = h
    by (activity.Alone location.Asleep) h = h
    by (activity.Alone location.Ended) h = h
    by (activity.Alone location.Dead) h = h
    by (activity.Send s) h = h
    by (activity.Receive s) h = h
    by (activity.Create s) h = h
    by (activity.Destroy s) h = h

-- what locks guard on a board
trimmed_proper : (locks : List (Option Lock)) (h : Hand) → IsProper h → IsProper (trimmed locks h)
trimmed_proper locks h is = record {
  once = by_queue (slice_index_or locks 1 None);
  few = by_numbers (slice_index_or locks 0 None);
}
  where
    by_queue : (o : Option Lock) → IsOnceEach (if_held o h.queue no_queue).entries
    by_queue None = tt
    by_queue (Some l) = is.once

    by_numbers : (o : Option Lock) → length (if_held o h.numbers no_numbers).versions ≤ 64
    by_numbers None = omega arith
    by_numbers (Some l) = is.few

has_proper : (a : Activity) → IsProper (hand_in a) → HasProper a
has_proper (activity.Alone p) h = tt
has_proper (activity.Send s) h = h
has_proper (activity.Receive s) h = h
has_proper (activity.Create s) h = h
has_proper (activity.Destroy s) h = h

module _ (b : Board) (once : (n : ℕ) → IsOnceEach (b.queue n)) (few : length b.numbers.versions ≤ 64) where
  pub thread_proper : (script : Script) (t : ThreadSeen) (locks : List (Option Lock)) →
      hand_in t.activity ≡ held_on b locks → HandProper (contexts.asked (contexts.begun script (Thread t)))
  thread_proper script t locks hand =
      activity_proper (begun script t).activity
      (begun_proper script t (has_proper t.activity
      (subst IsProper (sym hand) (trimmed_proper locks (hand_of b (b.queue (queue_held locks)))
      (record { once = once (queue_held locks); few = few })))))
