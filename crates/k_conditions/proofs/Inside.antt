-- The words, locks and contexts of a step are among those that there are.
use Rattle.std.proofs.Common.{◌≡◌, ◌≤◌, ◌<◌, ℕ, true, refl, sym, subst, arith, Option}
use Rattle.std.proofs.lemmas.Bool.{false≢true}
use Rattle.k_ids.specs.declared.calls.Phase.{Phase}
use Rattle.k_ids.specs.declared.calls.Phase.TheVariants as phase
use Rattle.k_ids.specs.declared.calls.Reply.{Reply}
use Rattle.k_ids.specs.declared.threads.ThreadId.{ThreadId}
use Rattle.k_ids.specs.declared.state_word.StateWord.{StateWord}
use Rattle.k_ids.specs.StateWords.{IsPartner}
use Rattle.k_senders.proofs.EntrySpelled.{number_small}
use Rattle.k_locks.specs.Asks.{Ask}
use Rattle.k_locks.specs.Asks as asks
use Rattle.k_script.specs.Script.{Script}
use Rattle.k_script.specs.Plays.{next_of, went_on}
use Rattle.k_script.specs.declared.registers.Next.{Next}
use Rattle.k_script.specs.declared.registers.Next.TheVariants as next
use Rattle.k_ipc.specs.declared.send.SendCall.{SendCall}
use Rattle.k_ipc.specs.declared.send.SendOutside.TheVariants as send_outside
use Rattle.k_ipc.specs.declared.send.SendLocked.TheVariants as send_locked
use Rattle.k_ipc.specs.declared.send.SendPushing.TheVariants as send_pushing
use Rattle.k_ipc.specs.SendTable as send
use Rattle.k_ipc.specs.declared.receive.ReceiveCall.{ReceiveCall}
use Rattle.k_ipc.specs.declared.receive.ReceiveOutside.TheVariants as receive_outside
use Rattle.k_ipc.specs.declared.receive.ReceiveLocked.TheVariants as receive_locked
use Rattle.k_ipc.specs.declared.receive.ReceivePushing.TheVariants as receive_pushing
use Rattle.k_ipc.specs.ReceiveTable as receive
use Rattle.k_threads.specs.declared.create.CreateCall.{CreateCall}
use Rattle.k_threads.specs.declared.create.CreateLocation.{CreateLocation}
use Rattle.k_threads.specs.declared.create.CreateLocation.TheVariants as create_location
use Rattle.k_threads.specs.declared.create.CreateLocked.TheVariants as create_locked
use Rattle.k_threads.specs.declared.create.CreateOutside.TheVariants as create_outside
use Rattle.k_threads.specs.CreateTable as create
use Rattle.k_threads.specs.declared.destroy.DestroyCall.{DestroyCall}
use Rattle.k_threads.specs.declared.destroy.DestroyLocation.{DestroyLocation}
use Rattle.k_threads.specs.declared.destroy.DestroyLocation.TheVariants as destroy_location
use Rattle.k_threads.specs.declared.destroy.DestroyLocked.TheVariants as destroy_locked
use Rattle.k_threads.specs.declared.destroy.DestroyOutside.TheVariants as destroy_outside
use Rattle.k_threads.specs.declared.destroy.DestroyPushing.TheVariants as destroy_pushing
use Rattle.k_threads.specs.declared.destroy.DestroyVictim.TheVariants as victim
use Rattle.k_threads.specs.declared.destroy.DestroyVisit.TheVariants as visit
use Rattle.k_threads.specs.DestroyTable as destroy
use Rattle.k_caller.specs.declared.activity.Activity.{Activity}
use Rattle.k_caller.specs.declared.activity.Activity.TheVariants as activity
use Rattle.k_caller.specs.declared.thread.ThreadLocation.{ThreadLocation}
use Rattle.k_caller.specs.declared.thread.ThreadLocation.TheVariants as location
use Rattle.k_caller.specs.Activities as about
use Rattle.k_caller.specs.Activities.{IsSoundAt}
use Rattle.k_caller.specs.Threads.{IsSound, NamesIn, ThreadSeen, begun, begun_at, begun_by, begun_next}
use Rattle.k_caller.specs.Waits as alone
use Rattle.k_caller.proofs.Begun.{begun_names}
use Rattle.k_switch.specs.declared.switch.SwitchCall.{SwitchCall}
use Rattle.k_switch.specs.declared.switch.SwitchLocked.TheVariants as switch_locked
use Rattle.k_switch.specs.Switches as switch
use Rattle.k_places.specs.Shows.{IsLockOf}
use Rattle.k_turns.specs.Spelled.{ask_in}

-- An ask of a table of this size names words and contexts of 64 threads, and a lock that there is.
abbrev pub IsInside : ℕ → Ask → Type 0
IsInside size (asks.Load n) = n < 64
IsInside size (asks.LoadMail n) = n < 64
IsInside size (asks.Post n message) = n < 64
IsInside size (asks.Exchange n old new) = n < 64
IsInside size (asks.Acquire l) = IsLockOf size l
IsInside size (asks.Release l) = IsLockOf size l
IsInside size (asks.Place id program priority) = IsPartner id × (priority < 64)
IsInside size (asks.Remove id) = IsPartner id × (id.number < size)

-- the thread for which a receive has begun to wait, where its word is loaded
abbrev pub NamesFrom : receive.ReceiveAt → Type 0
NamesFrom (receive.Locked (receive_locked.LoadPartner from)) = from.number < 64
NamesFrom p = Unit {0}

-- Whom its section names, besides its own thread, are threads of the table.
abbrev pub NamesAt : ℕ → Activity → Type 0
NamesAt size (activity.Alone p) = Unit {0}
NamesAt size (activity.Send s) = s.call.to.number < size
NamesAt size (activity.Receive s) = NamesFrom (receive.at_of s.location)
NamesAt size (activity.Create s) = Unit {0}
NamesAt size (activity.Destroy s) = (s.call.who.number < size) × (s.call.count ≡ size)

module _ (size : ℕ) (few : size ≤ 64) where
  lock_in : (n : ℕ) → n < size → (n < 64) × (n < size)
  lock_in n m = (omega (arith, few, m), m)

  alone_inside : (me : ThreadId) (own : StateWord) (p : ThreadLocation) → me.number < 64 →
      IsInside size (alone.ask_of me own p)
  alone_inside me own location.FallAsleep low = low
  alone_inside me own location.LookAgain low = low
  alone_inside me own (location.LoadMail from) low = low
  alone_inside me own (location.Work count) low = low
  alone_inside me own location.CommitEnd low = low
  alone_inside me own (location.Between last) low = low
  alone_inside me own location.Asleep low = low
  alone_inside me own location.Ended low = low
  alone_inside me own location.Dead low = low

  send_inside : (c : SendCall) (own : StateWord) (p : send.SendAt) → c.caller.number < 64 →
      c.to.number < size → IsInside size (send.ask_of c own p)
  send_inside c own (send.Outside send_outside.LoadCaller) me to = me
  send_inside c own (send.Outside send_outside.AcquireReceiver) me to = lock_in c.to.number to
  send_inside c own (send.Outside (send_outside.CheckCaller r)) me to = me
  send_inside c own (send.Outside (send_outside.Ended w)) me to = me
  send_inside c own (send.Locked send_locked.LoadReceiver) me to = (lock_in c.to.number to).0
  send_inside c own (send.Locked (send_locked.StoreMail w)) me to = (lock_in c.to.number to).0
  send_inside c own (send.Locked (send_locked.CommitPass w)) me to = me
  send_inside c own (send.Locked (send_locked.WakeReceiver w)) me to = (lock_in c.to.number to).0
  send_inside c own (send.Locked send_locked.ReloadReceiver) me to = (lock_in c.to.number to).0
  send_inside c own (send.Locked (send_locked.AcquireReady priority)) me to = tt
  send_inside c own (send.Locked send_locked.CommitWait) me to = me
  send_inside c own (send.Locked (send_locked.Release r)) me to = lock_in c.to.number to
  send_inside c own (send.Pushing (send_pushing.PushReceiver priority)) me to = tt

  receive_inside : (c : ReceiveCall) (own : StateWord) (p : receive.ReceiveAt) → c.caller.number < size →
      NamesFrom p → IsInside size (receive.ask_of c own p)
  receive_inside c own (receive.Outside receive_outside.LoadCaller) me from = (lock_in c.caller.number me).0
  receive_inside c own (receive.Outside receive_outside.AcquireOwn) me from = lock_in c.caller.number me
  receive_inside c own (receive.Outside (receive_outside.Ended w)) me from = (lock_in c.caller.number me).0
  receive_inside c own (receive.Locked receive_locked.LoadOwn) me from = (lock_in c.caller.number me).0
  receive_inside c own (receive.Locked (receive_locked.LoadSender e)) me from = number_small e
  receive_inside c own (receive.Locked (receive_locked.FreeSender e w)) me from = number_small e
  receive_inside c own (receive.Locked (receive_locked.AcquireReady e)) me from = tt
  receive_inside c own (receive.Locked receive_locked.CommitWait) me from = (lock_in c.caller.number me).0
  receive_inside c own (receive.Locked (receive_locked.LoadPartner f)) me from = from
  receive_inside c own (receive.Locked (receive_locked.CommitGone f)) me from = (lock_in c.caller.number me).0
  receive_inside c own (receive.Locked receive_locked.LoadPicking) me from = (lock_in c.caller.number me).0
  receive_inside c own (receive.Locked (receive_locked.LoadNext e)) me from = number_small e
  receive_inside c own (receive.Locked (receive_locked.FreeNext e w)) me from = number_small e
  receive_inside c own (receive.Locked (receive_locked.EndPick e w)) me from = (lock_in c.caller.number me).0
  receive_inside c own (receive.Locked receive_locked.SettlePick) me from = (lock_in c.caller.number me).0
  receive_inside c own (receive.Locked (receive_locked.Release r)) me from = lock_in c.caller.number me
  receive_inside c own (receive.Pushing (receive_pushing.LoadFreed e)) me from = number_small e
  receive_inside c own (receive.Pushing (receive_pushing.PushFreed e w)) me from = tt

  create_inside : (c : CreateCall) (own : StateWord) (l : CreateLocation) → c.caller.number < 64 →
      c.priority < 64 → create.can_ask l ≡ true → create.IsSoundLocation l →
      IsInside size (create.ask_of c own (create.at_of l))
  create_inside c own (create_location.Outside create_outside.AcquireTable) me low can sound = tt
  create_inside c own (create_location.Outside (create_outside.Ended w)) me low can sound = me
  create_inside c own (create_location.Locked create_locked.LoadCaller numbers) me low can sound = me
  create_inside c own (create_location.Locked (create_locked.PlaceContext id) numbers) me low can sound = (
    record {
      number = sound.number;
      born = let n = sound.next in omega (arith, n);
      version = sound.version;
    },
    low,
  )
  create_inside c own (create_location.Locked (create_locked.CommitCreate id) numbers) me low can sound =
      sound.number
  create_inside c own (create_location.Locked (create_locked.AcquireReady id) numbers) me low can sound = tt
  create_inside c own (create_location.Locked (create_locked.Release r) numbers) me low can sound = tt
  create_inside c own (create_location.PushCreated id numbers lists) me low can sound = tt
  create_inside c own (create_location.ListsReturned id numbers) me low can sound = tt
  create_inside c own (create_location.NumbersReturned r) me low can sound = tt

  destroy_inside : (c : DestroyCall) (own : StateWord) (l : DestroyLocation) → c.caller.number < 64 →
      IsPartner c.who → c.who.number < size → c.count ≡ size → destroy.can_ask l ≡ true →
      destroy.IsSoundLocation c l → IsInside size (destroy.ask_of c own (destroy.at_of l))
  destroy_inside c own (destroy_location.Outside destroy_outside.LoadOwn) me who in_table count can sound = me
  destroy_inside c own (destroy_location.Outside destroy_outside.AcquireTable) me who in_table count can
      sound = tt
  destroy_inside c own (destroy_location.Outside (destroy_outside.Ended w)) me who in_table count can sound =
      me
  destroy_inside c own (destroy_location.Locked destroy_locked.LoadCaller numbers) me who in_table count can
      sound = me
  destroy_inside c own (destroy_location.Locked destroy_locked.AcquireVictimLock numbers) me who in_table
      count can sound = lock_in c.who.number in_table
  destroy_inside c own (destroy_location.Locked destroy_locked.AcquireReadyForVictim numbers) me who in_table
      count can sound = tt
  destroy_inside c own (destroy_location.Locked destroy_locked.RemoveContext numbers) me who in_table count
      can sound = (who, in_table)
  destroy_inside c own (destroy_location.Locked (destroy_locked.AcquireVisitedLock visited) numbers) me who
      in_table count can sound = lock_in visited (subst (λ n. visited < n) count sound)
  destroy_inside c own (destroy_location.Locked (destroy_locked.Release r) numbers) me who in_table count can
      sound = tt
  destroy_inside c own (destroy_location.Victim victim.LoadVictim numbers q) me who in_table count can sound =
      who.number
  destroy_inside c own (destroy_location.Victim (victim.CommitKill seen) numbers q) me who in_table count can
      sound = who.number
  destroy_inside c own (destroy_location.Victim (victim.LoadSender sender) numbers q) me who in_table count
      can sound = sound
  destroy_inside c own (destroy_location.Victim (victim.FreeSender sender seen) numbers q) me who in_table
      count can sound = sound.number
  destroy_inside c own (destroy_location.Victim (victim.AcquireReadyForSender sender seen) numbers q) me who
      in_table count can sound = tt
  destroy_inside c own (destroy_location.Victim victim.ReleaseVictimLock numbers q) me who in_table count can
      sound = lock_in c.who.number in_table
  destroy_inside c own (destroy_location.Victim (victim.ReleaseVictimLockAbsent found) numbers q) me who
      in_table count can sound = lock_in c.who.number in_table
  destroy_inside c own (destroy_location.Visit (visit.LoadVisited visited) numbers q) me who in_table count
      can sound = (lock_in visited (subst (λ n. visited < n) count sound)).0
  destroy_inside c own (destroy_location.Visit (visit.FreeVisited visited seen) numbers q) me who in_table
      count can sound = (lock_in visited (subst (λ n. visited < n) count sound.number)).0
  destroy_inside c own (destroy_location.Visit (visit.AcquireReadyForVisited visited seen) numbers q) me who
      in_table count can sound = tt
  destroy_inside c own (destroy_location.Visit (visit.ReleaseVisitedLock visited) numbers q) me who in_table
      count can sound = lock_in visited (subst (λ n. visited < n) count sound)
  destroy_inside c own (destroy_location.UnlistVictim numbers lists) me who in_table count can sound = tt
  destroy_inside c own (destroy_location.Pushing (destroy_pushing.PushSender sender seen) numbers q lists) me
      who in_table count can sound = tt
  destroy_inside c own (destroy_location.Pushing (destroy_pushing.PushVisited visited seen) numbers q lists)
      me who in_table count can sound = tt
  destroy_inside c own (destroy_location.Returned r) me who in_table count can sound = absurd (false≢true can)

  pub activity_inside : (me : ThreadId) (own : StateWord) (a : Activity) → IsPartner me → me.number < size →
      IsSoundAt me own a → about.can_ask a ≡ true → NamesAt size a → IsInside size (ask_in me own a)
  activity_inside me own (activity.Alone p) id low sound can names = alone_inside me own p id.number
  activity_inside me own (activity.Send s) id low sound can names =
      send_inside s.call s.own (send.at_of s.location) sound.sound.caller.number names
  activity_inside me own (activity.Receive s) id low sound can names =
      receive_inside s.call s.own (receive.at_of s.location)
      (subst (λ (x : ThreadId). x.number < size) (sym sound.caller) low) names
  activity_inside me own (activity.Create s) id low sound can names =
      create_inside s.call s.own s.location (subst (λ (x : ThreadId). x.number < 64) (sym sound.caller)
      id.number) sound.sound.priority can sound.sound.located
  activity_inside me own (activity.Destroy s) id low sound can names =
      destroy_inside s.call s.own s.location (subst (λ (x : ThreadId). x.number < 64) (sym sound.caller)
      id.number) sound.sound.call.victim names.0 names.1 can sound.sound.located

  pub switch_inside : (c : SwitchCall) (p : switch.SwitchAt) → switch.IsSoundAt p →
      IsInside size (switch.ask_of c p)
  switch_inside c switch.AcquireReady sound = tt
  switch_inside c (switch.Locked (switch_locked.LoadGoal goal)) sound = sound.id.number
  switch_inside c (switch.Locked (switch_locked.LoadStart back number)) sound = sound.1
  switch_inside c (switch.Locked (switch_locked.ReleaseReady back started)) sound = tt
  switch_inside c (switch.Returned s) sound = tt
  switch_inside c (switch.Finished s) sound = omega arith

-- WHOM IT NAMES, once its next call has begun

call_named : (table : ℕ) (me : ThreadId) (own : StateWord) (f : Phase) → NamesIn table f →
    NamesAt table (begun_by table me own f)
call_named table me own (phase.Send to message zero joined) names = names.number
call_named table me own (phase.Reply to message zero) names = names.number
call_named table me own (phase.Receive from zero) names = tt
call_named table me own (phase.Create program priority) names = tt
call_named table me own (phase.Destroy who) names = (names.number, refl)
call_named table me own phase.End names = tt

pub begun_named : (script : Script) (t : ThreadSeen) → IsSound script t → NamesAt script.table t.activity →
    NamesAt script.table (begun script t).activity
begun_named script t sound names = by t.activity refl
  where
    next_named : (last : Option Reply) (n : Next) → t.activity ≡ activity.Alone (location.Between last) →
        next_of script.version t.position last ≡ n →
        NamesAt script.table (begun_next script.table (record t { position = went_on t.position last })
        n).activity
    next_named last (next.Phase f) at e =
        call_named script.table t.id t.own f (begun_names script t last f sound at e)
    next_named last (next.Work count) at e = tt

    by : (a : Activity) → t.activity ≡ a → NamesAt script.table (begun_at script t a).activity
    by (activity.Alone (location.Between last)) at = next_named last (next_of script.version t.position last)
        at refl
    by (activity.Alone location.FallAsleep) at = names
    by (activity.Alone location.LookAgain) at = names
    by (activity.Alone (location.LoadMail from)) at = names
    by (activity.Alone (location.Work count)) at = names
    by (activity.Alone location.CommitEnd) at = names
    by (activity.Alone location.Asleep) at = names
    by (activity.Alone location.Ended) at = names
    by (activity.Alone location.Dead) at = names
    by (activity.Send s) at = names
    by (activity.Receive s) at = names
    by (activity.Create s) at = names
    by (activity.Destroy s) at = names
