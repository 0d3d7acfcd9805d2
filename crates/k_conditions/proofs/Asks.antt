-- A context whose location has a next step can be asked for it: what it has in hand is what its locks guard, so no step of it is
-- still without an answer.
use Rattle.std.proofs.Common.{◌≡◌, ◌≤◌, ℕ, true, refl, ap, ◌∙◌, arith, List, length}
use Rattle.std.proofs.lemmas.Bool.{false≢true}
use Rattle.k_ids.specs.declared.calls.Phase.{Phase}
use Rattle.k_ids.specs.declared.calls.Phase.TheVariants as phase
use Rattle.k_ids.specs.declared.threads.ThreadId.{ThreadId}
use Rattle.k_ids.specs.declared.state_word.StateWord.{StateWord}
use Rattle.k_model.specs.State.{same_id}
use Rattle.k_model.specs.Step.{is_own}
use Rattle.k_ready.specs.Lists.{Ready}
use Rattle.k_senders.specs.Queue.{Queue}
use Rattle.k_senders.specs.declared.entries.SenderEntry.{SenderEntry}
use Rattle.k_locks.specs.Hands.{Hand, no_lists, no_numbers, no_queue}
use Rattle.k_locks.specs.Numbers.{ThreadNumbers}
use Rattle.k_script.specs.Script.{Script}
use Rattle.k_script.specs.Plays.{next_of, went_on}
use Rattle.k_script.specs.declared.registers.Next.{Next}
use Rattle.k_script.specs.declared.registers.Next.TheVariants as next
use Rattle.k_ipc.specs.declared.send.SendCall.{SendCall}
use Rattle.k_ipc.specs.declared.send.SendLocation.{SendLocation}
use Rattle.k_ipc.specs.declared.send.SendLocation.TheVariants as send_location
use Rattle.k_ipc.specs.declared.send.SendOutside.{SendOutside}
use Rattle.k_ipc.specs.declared.send.SendOutside.TheVariants as send_outside
use Rattle.k_ipc.specs.SendTable as send
use Rattle.k_ipc.specs.declared.receive.ReceiveCall.{ReceiveCall}
use Rattle.k_ipc.specs.declared.receive.ReceiveLocation.{ReceiveLocation}
use Rattle.k_ipc.specs.declared.receive.ReceiveLocation.TheVariants as receive_location
use Rattle.k_ipc.specs.declared.receive.ReceiveOutside.{ReceiveOutside}
use Rattle.k_ipc.specs.declared.receive.ReceiveOutside.TheVariants as receive_outside
use Rattle.k_ipc.specs.ReceiveTable as receive
use Rattle.k_threads.specs.declared.create.CreateCall.{CreateCall}
use Rattle.k_threads.specs.declared.create.CreateLocation.{CreateLocation}
use Rattle.k_threads.specs.declared.create.CreateLocation.TheVariants as create_location
use Rattle.k_threads.specs.declared.create.CreateOutside.TheVariants as create_outside
use Rattle.k_threads.specs.CreateTable as create
use Rattle.k_threads.specs.declared.destroy.DestroyCall.{DestroyCall}
use Rattle.k_threads.specs.declared.destroy.DestroyLocation.{DestroyLocation}
use Rattle.k_threads.specs.declared.destroy.DestroyLocation.TheVariants as destroy_location
use Rattle.k_threads.specs.declared.destroy.DestroyOutside.{DestroyOutside}
use Rattle.k_threads.specs.declared.destroy.DestroyOutside.TheVariants as destroy_outside
use Rattle.k_threads.specs.declared.destroy.DestroyReturned.TheVariants as returned
use Rattle.k_threads.specs.DestroyTable as destroy
use Rattle.k_caller.specs.declared.activity.Activity.{Activity}
use Rattle.k_caller.specs.declared.activity.Activity.TheVariants as activity
use Rattle.k_caller.specs.declared.thread.ThreadLocation.TheVariants as location
use Rattle.k_caller.specs.Activities as about
use Rattle.k_caller.specs.Threads.{ThreadSeen, begun, begun_at, begun_by, begun_next}
use Rattle.k_caller.proofs.Owned.{either}
use Rattle.k_board.specs.Boards.{Board, InCreate, InDestroy, InReceive, InSend}
use Rattle.k_good.specs.Locks.{locks_at}
use Rattle.k_places.specs.Contexts.{at_in, hand_in, held_on}
use Rattle.k_whole.specs.Next.{has_next}

-- A CALL THAT HAS BEGUN

call_asks : (table : ℕ) (me : ThreadId) (own : StateWord) (f : Phase) →
    about.can_ask (begun_by table me own f) ≡ true
call_asks table me own (phase.Send to message zero joined) =
    either (λ (p : SendOutside). send.can_ask (send_location.Outside p) ≡ true) (same_id to me)
    send_outside.LoadCaller send_outside.AcquireReceiver refl refl
call_asks table me own (phase.Reply to message zero) =
    either (λ (p : SendOutside). send.can_ask (send_location.Outside p) ≡ true) (same_id to me)
    send_outside.LoadCaller send_outside.AcquireReceiver refl refl
call_asks table me own (phase.Receive from zero) =
    either (λ (p : ReceiveOutside). receive.can_ask (receive_location.Outside p) ≡ true) (is_own from me)
    receive_outside.LoadCaller receive_outside.AcquireOwn refl refl
call_asks table me own (phase.Create program priority) = refl
call_asks table me own (phase.Destroy who) =
    either (λ (p : DestroyOutside). destroy.can_ask (destroy_location.Outside p) ≡ true) (same_id who me)
    destroy_outside.LoadOwn destroy_outside.AcquireTable refl refl
call_asks table me own phase.End = refl

next_asks : (table : ℕ) (t : ThreadSeen) (n : Next) → about.can_ask (begun_next table t n).activity ≡ true
next_asks table t (next.Phase f) = call_asks table t.id t.own f
next_asks table t (next.Work count) = refl

call_pushes : (table : ℕ) (me : ThreadId) (own : StateWord) (f : Phase) →
    about.CanPush (begun_by table me own f)
call_pushes table me own (phase.Send to message zero joined) = tt
call_pushes table me own (phase.Reply to message zero) = tt
call_pushes table me own (phase.Receive from zero) = tt
call_pushes table me own (phase.Create program priority) = tt
call_pushes table me own (phase.Destroy who) = tt
call_pushes table me own phase.End = tt

next_pushes : (table : ℕ) (t : ThreadSeen) (n : Next) → about.CanPush (begun_next table t n).activity
next_pushes table t (next.Phase f) = call_pushes table t.id t.own f
next_pushes table t (next.Work count) = tt

-- what is so of its next call, where it begins one, and of what it is about
pub begun_so : (script : Script) (t : ThreadSeen) → about.CanPush t.activity →
    about.CanPush (begun script t).activity
begun_so script t can = by t.activity can
  where
    by : (a : Activity) → about.CanPush a →
        about.CanPush (begun_at script (record t { activity = a }) a).activity
    by (activity.Alone (location.Between last)) can =
        next_pushes script.table (record t { position = went_on t.position last })
        (next_of script.version t.position last)
    by a can = can

module _ (b : Board) (some : 1 ≤ b.size) (whole : length b.lists.lists ≡ 64)
    (count : length b.numbers.versions ≡ b.size) where
  -- NOTHING IN HAND isn't what a lock guards

  lists_gone : no_lists ≡ b.lists → ⊥
  lists_gone e = let z : 0 ≡ 64 = ap (λ (r : Ready). length r.lists) e ∙ whole in absurd (omega (arith, z))

  queue_gone : (es : List SenderEntry) → no_queue ≡ record { entries = es; room = b.size } → ⊥
  queue_gone es e = let z : 0 ≡ b.size = ap (λ (q : Queue). q.room) e in absurd (omega (arith, z, some))

  numbers_gone : no_numbers ≡ b.numbers → ⊥
  numbers_gone e = let z : 0 ≡ b.size = ap (λ (n : ThreadNumbers). length n.versions) e ∙ count in
      absurd (omega (arith, z, some))

  -- WHERE IT STANDS

  pub send_asks : (c : SendCall) (l : SendLocation) → has_next (InSend c (send.at_of l)) ≡ true →
      send.hand_of l ≡ held_on b (locks_at (InSend c (send.at_of l))) → send.can_ask l ≡ true
  send_asks c (send_location.Outside send_outside.LoadCaller) n h = refl
  send_asks c (send_location.Outside send_outside.AcquireReceiver) n h = refl
  send_asks c (send_location.Outside (send_outside.CheckCaller r)) n h = refl
  send_asks c (send_location.Outside (send_outside.Ended w)) n h = absurd (false≢true n)
  send_asks c (send_location.Locked p q) n h = refl
  send_asks c (send_location.Pushing p q lists) n h = refl
  send_asks c (send_location.ListsReturned p q) n h = absurd (lists_gone (ap (λ (x : Hand). x.lists) h))
  send_asks c (send_location.QueueReturned r) n h = absurd (queue_gone _ (ap (λ (x : Hand). x.queue) h))

  pub receive_asks : (c : ReceiveCall) (l : ReceiveLocation) →
      has_next (InReceive c (receive.at_of l)) ≡ true →
      receive.hand_of l ≡ held_on b (locks_at (InReceive c (receive.at_of l))) → receive.can_ask l ≡ true
  receive_asks c (receive_location.Outside receive_outside.LoadCaller) n h = refl
  receive_asks c (receive_location.Outside receive_outside.AcquireOwn) n h = refl
  receive_asks c (receive_location.Outside (receive_outside.Ended w)) n h = absurd (false≢true n)
  receive_asks c (receive_location.Locked p q) n h = refl
  receive_asks c (receive_location.Pushing p q lists) n h = refl
  receive_asks c (receive_location.ListsReturned e w q) n h =
      absurd (lists_gone (ap (λ (x : Hand). x.lists) h))
  receive_asks c (receive_location.QueueReturned r) n h = absurd (queue_gone _ (ap (λ (x : Hand). x.queue) h))

  pub create_asks : (c : CreateCall) (l : CreateLocation) → has_next (InCreate c (create.at_of l)) ≡ true →
      create.hand_of l ≡ held_on b (locks_at (InCreate c (create.at_of l))) → create.can_ask l ≡ true
  create_asks c (create_location.Outside create_outside.AcquireTable) n h = refl
  create_asks c (create_location.Outside (create_outside.Ended w)) n h = absurd (false≢true n)
  create_asks c (create_location.Locked p numbers) n h = refl
  create_asks c (create_location.PushCreated id numbers lists) n h = refl
  create_asks c (create_location.ListsReturned id numbers) n h =
      absurd (lists_gone (ap (λ (x : Hand). x.lists) h))
  create_asks c (create_location.NumbersReturned r) n h =
      absurd (numbers_gone (ap (λ (x : Hand). x.numbers) h))

  pub destroy_asks : (c : DestroyCall) (l : DestroyLocation) →
      has_next (InDestroy c (destroy.at_of l)) ≡ true →
      destroy.hand_of l ≡ held_on b (locks_at (InDestroy c (destroy.at_of l))) → destroy.can_ask l ≡ true
  destroy_asks c (destroy_location.Outside destroy_outside.LoadOwn) n h = refl
  destroy_asks c (destroy_location.Outside destroy_outside.AcquireTable) n h = refl
  destroy_asks c (destroy_location.Outside (destroy_outside.Ended w)) n h = absurd (false≢true n)
  destroy_asks c (destroy_location.Locked p numbers) n h = refl
  destroy_asks c (destroy_location.Victim p numbers q) n h = refl
  destroy_asks c (destroy_location.Visit p numbers q) n h = refl
  destroy_asks c (destroy_location.UnlistVictim numbers lists) n h = refl
  destroy_asks c (destroy_location.Pushing p numbers q lists) n h = refl
  destroy_asks c (destroy_location.Returned (returned.Numbers r)) n h =
      absurd (numbers_gone (ap (λ (x : Hand). x.numbers) h))
  destroy_asks c (destroy_location.Returned (returned.VictimLock numbers)) n h =
      absurd (queue_gone _ (ap (λ (x : Hand). x.queue) h))
  destroy_asks c (destroy_location.Returned (returned.VictimLockAbsent found numbers)) n h =
      absurd (queue_gone _ (ap (λ (x : Hand). x.queue) h))
  destroy_asks c (destroy_location.Returned (returned.VisitedLock visited numbers)) n h =
      absurd (queue_gone _ (ap (λ (x : Hand). x.queue) h))
  destroy_asks c (destroy_location.Returned (returned.Unlisted numbers)) n h =
      absurd (lists_gone (ap (λ (x : Hand). x.lists) h))
  destroy_asks c (destroy_location.Returned (returned.Pushed p numbers q)) n h =
      absurd (lists_gone (ap (λ (x : Hand). x.lists) h))

  pub thread_asks : (script : Script) (t : ThreadSeen) → has_next (at_in t.activity) ≡ true →
      hand_in t.activity ≡ held_on b (locks_at (at_in t.activity)) →
      about.can_ask (begun script t).activity ≡ true
  thread_asks script t n h = by t.activity n h
    where
      by : (a : Activity) → has_next (at_in a) ≡ true → hand_in a ≡ held_on b (locks_at (at_in a)) →
          about.can_ask (begun_at script (record t { activity = a }) a).activity ≡ true
      by (activity.Alone (location.Between last)) n h =
          next_asks script.table (record t { position = went_on t.position last })
          (next_of script.version t.position last)
      by (activity.Alone location.FallAsleep) n h = n
      by (activity.Alone location.LookAgain) n h = n
      by (activity.Alone (location.LoadMail from)) n h = n
      by (activity.Alone (location.Work count)) n h = n
      by (activity.Alone location.CommitEnd) n h = n
      by (activity.Alone location.Asleep) n h = n
      by (activity.Alone location.Ended) n h = n
      by (activity.Alone location.Dead) n h = n
      by (activity.Send s) n h = send_asks s.call s.location n h
      by (activity.Receive s) n h = receive_asks s.call s.location n h
      by (activity.Create s) n h = create_asks s.call s.location n h
      by (activity.Destroy s) n h = destroy_asks s.call s.location n h
