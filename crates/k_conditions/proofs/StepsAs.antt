-- A step of the context in a carrier's hand, as an ask; and what it places is sound.
use Rattle.std.proofs.Common.{◌≡◌, ◌<◌, ℕ, true, refl, sym, ap, ◌∙◌, subst, arith, Option, Some, None, IfSome, length}
use Rattle.std.proofs.lemmas.Bool.{false≢true}
use Rattle.k_ids.specs.declared.calls.Phase.{Phase}
use Rattle.k_ids.specs.declared.calls.Phase.TheVariants as phase
use Rattle.k_ids.specs.declared.state_word.StateWord.{StateWord}
use Rattle.k_ids.specs.declared.threads.ThreadId.{ThreadId}
use Rattle.k_ids.specs.ContextWords.{IsVersion}
use Rattle.k_model.specs.State.{KernelState}
use Rattle.k_locks.specs.declared.steps.Answer.{Answer}
use Rattle.k_locks.specs.declared.steps.Step.{Step}
use Rattle.k_locks.specs.Asks.{Ask, step_for}
use Rattle.k_locks.specs.Asks as asks
use Rattle.k_locks.specs.Hands.{Hand, nothing}
use Rattle.k_script.specs.Limits.{IsScript}
use Rattle.k_script.specs.Script.{Script}
use Rattle.k_script.specs.Plays.{IsInRange, next_of, went_on}
use Rattle.k_script.specs.declared.registers.Next.{Next}
use Rattle.k_script.specs.declared.registers.Next.TheVariants as next
use Rattle.k_ipc.specs.declared.send.SendCall.{SendCall}
use Rattle.k_ipc.specs.declared.receive.ReceiveCall.{ReceiveCall}
use Rattle.k_ipc.specs.declared.send.SendOutside.TheVariants as send_outside
use Rattle.k_ipc.specs.declared.send.SendLocked.TheVariants as send_locked
use Rattle.k_ipc.specs.declared.send.SendPushing.TheVariants as send_pushing
use Rattle.k_ipc.specs.declared.receive.ReceiveOutside.TheVariants as receive_outside
use Rattle.k_ipc.specs.declared.receive.ReceiveLocked.TheVariants as receive_locked
use Rattle.k_ipc.specs.declared.receive.ReceivePushing.TheVariants as receive_pushing
use Rattle.k_ipc.specs.SendTable as send
use Rattle.k_ipc.specs.ReceiveTable as receive
use Rattle.k_threads.specs.declared.create.CreateCall.{CreateCall}
use Rattle.k_threads.specs.declared.create.CreateLocation.{CreateLocation}
use Rattle.k_threads.specs.declared.create.CreateLocation.TheVariants as create_location
use Rattle.k_threads.specs.declared.create.CreateLocked.TheVariants as create_locked
use Rattle.k_threads.specs.declared.create.CreateOutside.TheVariants as create_outside
use Rattle.k_threads.specs.CreateTable as create
use Rattle.k_threads.specs.declared.destroy.DestroyCall.{DestroyCall}
use Rattle.k_threads.specs.declared.destroy.DestroyLocked.TheVariants as destroy_locked
use Rattle.k_threads.specs.declared.destroy.DestroyOutside.TheVariants as destroy_outside
use Rattle.k_threads.specs.declared.destroy.DestroyPushing.TheVariants as destroy_pushing
use Rattle.k_threads.specs.declared.destroy.DestroyVictim.TheVariants as victim
use Rattle.k_threads.specs.declared.destroy.DestroyVisit.TheVariants as visit
use Rattle.k_threads.specs.DestroyTable as destroy
use Rattle.k_switch.specs.declared.switch.Switch.{Switch}
use Rattle.k_switch.specs.declared.switch.SwitchCall.{SwitchCall}
use Rattle.k_switch.specs.declared.switch.SwitchLocked.TheVariants as switch_locked
use Rattle.k_switch.specs.Carriers as own
use Rattle.k_switch.specs.Switches as switch
use Rattle.k_caller.specs.declared.activity.Activity.{Activity}
use Rattle.k_caller.specs.declared.activity.Activity.TheVariants as activity
use Rattle.k_caller.specs.declared.thread.ThreadLocation.{ThreadLocation}
use Rattle.k_caller.specs.declared.thread.ThreadLocation.TheVariants as location
use Rattle.k_caller.specs.Activities.{IsSoundAt, step_at}
use Rattle.k_caller.specs.Threads.{ThreadSeen, begun_at, begun_by, begun_next}
use Rattle.k_caller.specs.Threads as threads
use Rattle.k_caller.specs.Waits as alone
use Rattle.k_context.specs.Contexts.{Carrier, ContextSeen, IsSound, Thread, begun, step_of, switched_of, thread_of}
use Rattle.k_context.specs.Contexts as contexts
use Rattle.k_carrier.specs.Conditions.{IsGoalIn, IsOfNumber}
use Rattle.k_world.specs.Worlds.{World}
use Rattle.k_board.specs.Boards.{Board, InCreate}
use Rattle.k_good.specs.Locks.{locks_at}
use Rattle.k_places.specs.Contexts.{at_in, hand_in, held_on}
use Rattle.k_turns.specs.Spelled.{ask_in}
use Rattle.k_tokens.specs.World as tokens
use Rattle.k_aligned.specs.Aligned.{found_in}
use Rattle.k_whole.specs.Next.{has_next}
use Rattle.k_handling.specs.Handling.{IsKernel}
use Rattle.k_sound.proofs.Contexts.{begun_sound}
use Rattle.k_sound.proofs.Threads.{thread_new}
use Rattle.k_conditions.proofs.Answered.{EachAnswer, answer_in, each_answer}
use Rattle.k_conditions.proofs.CanAsks.{in_hand, stands}
use Rattle.k_conditions.proofs.Founds.{PlacesSo}
use Rattle.k_conditions.proofs.Inside.{IsInside}
use Rattle.k_conditions.proofs.Performs.{switch_inside_at, thread_inside}

-- A context is that of its number and sound, and a finished switch of it has come to a thread that there may be.
pub record IsFine (script : Script) (i : ℕ) (v : ContextSeen) : Type 0 where
  pub number : IsOfNumber script.table i v
  pub sound : IsSound script v
  pub finished : IfSome (switched_of v) (λ s. IfSome s.goal (IsGoalIn script.table))

-- the step is made of this ask
pub record StepAs (script : Script) (size : ℕ) (s : Step) : Type 0 where
  pub ask : Ask
  pub hand : Hand
  pub is : s ≡ step_for ask hand
  pub inside : IsInside size ask
  pub places : PlacesSo script (IsFine script) ask

abbrev HasCount : ℕ → CreateLocation → Type 0
HasCount size (create_location.Locked p numbers) = length numbers.versions ≡ size
HasCount size l = Unit {0}

-- under the table lock a create has the list of numbers of the table
abbrev NumbersAt : ℕ → Activity → Type 0
NumbersAt size (activity.Create s) = HasCount size s.location
NumbersAt size a = Unit {0}

call_counts : (size table : ℕ) (me : ThreadId) (own : StateWord) (f : Phase) →
    NumbersAt size (begun_by table me own f)
call_counts size table me own (phase.Send to message zero joined) = tt
call_counts size table me own (phase.Reply to message zero) = tt
call_counts size table me own (phase.Receive from zero) = tt
call_counts size table me own (phase.Create program priority) = tt
call_counts size table me own (phase.Destroy who) = tt
call_counts size table me own phase.End = tt

next_counts : (size table : ℕ) (t : ThreadSeen) (n : Next) → NumbersAt size (begun_next table t n).activity
next_counts size table t (next.Phase f) = call_counts size table t.id t.own f
next_counts size table t (next.Work count) = tt

begun_counts : (size : ℕ) (script : Script) (t : ThreadSeen) → NumbersAt size t.activity →
    NumbersAt size (threads.begun script t).activity
begun_counts size script t h = by t.activity h
  where
    by : (a : Activity) → NumbersAt size a →
        NumbersAt size (begun_at script (record t { activity = a }) a).activity
    by (activity.Alone (location.Between last)) h =
        next_counts size script.table (record t { position = went_on t.position last })
        (next_of script.version t.position last)
    by (activity.Alone location.FallAsleep) h = h
    by (activity.Alone location.LookAgain) h = h
    by (activity.Alone (location.LoadMail from)) h = h
    by (activity.Alone (location.Work count)) h = h
    by (activity.Alone location.CommitEnd) h = h
    by (activity.Alone location.Asleep) h = h
    by (activity.Alone location.Ended) h = h
    by (activity.Alone location.Dead) h = h
    by (activity.Send s) h = h
    by (activity.Receive s) h = h
    by (activity.Create s) h = h
    by (activity.Destroy s) h = h

-- NOTHING BUT A CREATE places a context, and a destroy removes the victim's

module _ (script : Script) (limits : IsScript script) where
  alone_places : (me : ThreadId) (own : StateWord) (p : ThreadLocation) →
      PlacesSo script (IsFine script) (alone.ask_of me own p)
  alone_places me own location.FallAsleep = tt
  alone_places me own location.LookAgain = tt
  alone_places me own (location.LoadMail from) = tt
  alone_places me own (location.Work count) = tt
  alone_places me own location.CommitEnd = tt
  alone_places me own (location.Between last) = tt
  alone_places me own location.Asleep = tt
  alone_places me own location.Ended = tt
  alone_places me own location.Dead = tt

  send_places : (c : SendCall) (own : StateWord) (p : send.SendAt) →
      PlacesSo script (IsFine script) (send.ask_of c own p)
  send_places c own (send.Outside send_outside.LoadCaller) = tt
  send_places c own (send.Outside send_outside.AcquireReceiver) = tt
  send_places c own (send.Outside (send_outside.CheckCaller r)) = tt
  send_places c own (send.Outside (send_outside.Ended v)) = tt
  send_places c own (send.Locked send_locked.LoadReceiver) = tt
  send_places c own (send.Locked (send_locked.StoreMail v)) = tt
  send_places c own (send.Locked (send_locked.CommitPass v)) = tt
  send_places c own (send.Locked (send_locked.WakeReceiver v)) = tt
  send_places c own (send.Locked send_locked.ReloadReceiver) = tt
  send_places c own (send.Locked (send_locked.AcquireReady priority)) = tt
  send_places c own (send.Locked send_locked.CommitWait) = tt
  send_places c own (send.Locked (send_locked.Release r)) = tt
  send_places c own (send.Pushing (send_pushing.PushReceiver priority)) = tt

  receive_places : (c : ReceiveCall) (own : StateWord) (p : receive.ReceiveAt) →
      PlacesSo script (IsFine script) (receive.ask_of c own p)
  receive_places c own (receive.Outside receive_outside.LoadCaller) = tt
  receive_places c own (receive.Outside receive_outside.AcquireOwn) = tt
  receive_places c own (receive.Outside (receive_outside.Ended v)) = tt
  receive_places c own (receive.Locked receive_locked.LoadOwn) = tt
  receive_places c own (receive.Locked (receive_locked.LoadSender e)) = tt
  receive_places c own (receive.Locked (receive_locked.FreeSender e v)) = tt
  receive_places c own (receive.Locked (receive_locked.AcquireReady e)) = tt
  receive_places c own (receive.Locked receive_locked.CommitWait) = tt
  receive_places c own (receive.Locked (receive_locked.LoadPartner from)) = tt
  receive_places c own (receive.Locked (receive_locked.CommitGone from)) = tt
  receive_places c own (receive.Locked receive_locked.LoadPicking) = tt
  receive_places c own (receive.Locked (receive_locked.LoadNext e)) = tt
  receive_places c own (receive.Locked (receive_locked.FreeNext e v)) = tt
  receive_places c own (receive.Locked (receive_locked.EndPick e v)) = tt
  receive_places c own (receive.Locked receive_locked.SettlePick) = tt
  receive_places c own (receive.Locked (receive_locked.Release r)) = tt
  receive_places c own (receive.Pushing (receive_pushing.LoadFreed e)) = tt
  receive_places c own (receive.Pushing (receive_pushing.PushFreed e v)) = tt

  create_places : (size : ℕ) (c : CreateCall) (own : StateWord) (l : CreateLocation) → size ≡ script.table →
      c.priority < 64 → create.IsSoundLocation l → HasCount size l →
      PlacesSo script (IsFine script) (create.ask_of c own (create.at_of l))
  create_places size c own (create_location.Locked (create_locked.PlaceContext id) numbers) same low sound
      count =
      let inside = sound.inside in
      let next = sound.next in
      let last = sound.version in
      let range : IsInRange script.table id = record {
        number = omega (arith, inside, count, same);
        first = omega (arith, next);
        last = omega (arith, last);
      } in (
        record {
          number = refl;
          sound = thread_new script id c.program c.priority limits range low;
          finished = tt;
        },
        record { born = range.first; small = last },
      )
  create_places size c own (create_location.Outside create_outside.AcquireTable) same low sound count = tt
  create_places size c own (create_location.Outside (create_outside.Ended v)) same low sound count = tt
  create_places size c own (create_location.Locked create_locked.LoadCaller numbers) same low sound count = tt
  create_places size c own (create_location.Locked (create_locked.CommitCreate id) numbers) same low sound
      count = tt
  create_places size c own (create_location.Locked (create_locked.AcquireReady id) numbers) same low sound
      count = tt
  create_places size c own (create_location.Locked (create_locked.Release r) numbers) same low sound count =
      tt
  create_places size c own (create_location.PushCreated id numbers lists) same low sound count = tt
  create_places size c own (create_location.ListsReturned id numbers) same low sound count = tt
  create_places size c own (create_location.NumbersReturned r) same low sound count = tt

  destroy_places : (c : DestroyCall) (own : StateWord) (p : destroy.DestroyAt) → IsVersion c.who.version →
      PlacesSo script (IsFine script) (destroy.ask_of c own p)
  destroy_places c own (destroy.Locked destroy_locked.RemoveContext) version = version
  destroy_places c own (destroy.Outside destroy_outside.LoadOwn) version = tt
  destroy_places c own (destroy.Outside destroy_outside.AcquireTable) version = tt
  destroy_places c own (destroy.Outside (destroy_outside.Ended v)) version = tt
  destroy_places c own (destroy.Locked destroy_locked.LoadCaller) version = tt
  destroy_places c own (destroy.Locked destroy_locked.AcquireVictimLock) version = tt
  destroy_places c own (destroy.Locked destroy_locked.AcquireReadyForVictim) version = tt
  destroy_places c own (destroy.Locked (destroy_locked.AcquireVisitedLock visited)) version = tt
  destroy_places c own (destroy.Locked (destroy_locked.Release r)) version = tt
  destroy_places c own (destroy.Victim victim.LoadVictim) version = tt
  destroy_places c own (destroy.Victim (victim.CommitKill v)) version = tt
  destroy_places c own (destroy.Victim (victim.LoadSender sender)) version = tt
  destroy_places c own (destroy.Victim (victim.FreeSender sender v)) version = tt
  destroy_places c own (destroy.Victim (victim.AcquireReadyForSender sender v)) version = tt
  destroy_places c own (destroy.Victim victim.ReleaseVictimLock) version = tt
  destroy_places c own (destroy.Victim (victim.ReleaseVictimLockAbsent found)) version = tt
  destroy_places c own (destroy.Visit (visit.LoadVisited visited)) version = tt
  destroy_places c own (destroy.Visit (visit.FreeVisited visited v)) version = tt
  destroy_places c own (destroy.Visit (visit.AcquireReadyForVisited visited v)) version = tt
  destroy_places c own (destroy.Visit (visit.ReleaseVisitedLock visited)) version = tt
  destroy_places c own destroy.UnlistVictim version = tt
  destroy_places c own (destroy.Pushing (destroy_pushing.PushSender sender v)) version = tt
  destroy_places c own (destroy.Pushing (destroy_pushing.PushVisited visited v)) version = tt

  switch_places : (c : SwitchCall) (p : switch.SwitchAt) → PlacesSo script (IsFine script) (switch.ask_of c p)
  switch_places c switch.AcquireReady = tt
  switch_places c (switch.Locked (switch_locked.LoadGoal goal)) = tt
  switch_places c (switch.Locked (switch_locked.LoadStart back n)) = tt
  switch_places c (switch.Locked (switch_locked.ReleaseReady back started)) = tt
  switch_places c (switch.Returned s) = tt
  switch_places c (switch.Finished s) = tt

  activity_as : (size : ℕ) (me : ThreadId) (own : StateWord) (a : Activity) → size ≡ script.table →
      IsInside size (ask_in me own a) → IsSoundAt me own a → NumbersAt size a →
      StepAs script size (step_at me own a)
  activity_as size me own (activity.Alone p) same is sound count =
      record {
        ask = alone.ask_of me own p;
        hand = nothing;
        is = refl;
        inside = is;
        places = alone_places me own p;
      }
  activity_as size me own (activity.Send s) same is sound count = record {
    ask = send.ask_of s.call s.own (send.at_of s.location);
    hand = send.hand_after s.call (send.hand_of s.location) (send.at_of s.location) asks.Released;
    is = refl;
    inside = is;
    places = send_places s.call s.own (send.at_of s.location);
  }
  activity_as size me own (activity.Receive s) same is sound count = record {
    ask = receive.ask_of s.call s.own (receive.at_of s.location);
    hand = receive.hand_after s.call (receive.hand_of s.location) (receive.at_of s.location) asks.Released;
    is = refl;
    inside = is;
    places = receive_places s.call s.own (receive.at_of s.location);
  }
  activity_as size me own (activity.Create s) same is sound count = record {
    ask = create.ask_of s.call s.own (create.at_of s.location);
    hand = create.hand_after s.call (create.hand_of s.location) (create.at_of s.location) asks.Released;
    is = refl;
    inside = is;
    places = create_places size s.call s.own s.location same sound.sound.priority sound.sound.located count;
  }
  activity_as size me own (activity.Destroy s) same is sound count = record {
    ask = destroy.ask_of s.call s.own (destroy.at_of s.location);
    hand = destroy.hand_after s.call (destroy.hand_of s.location) (destroy.at_of s.location) asks.Released;
    is = refl;
    inside = is;
    places = destroy_places s.call s.own (destroy.at_of s.location)
        (record { born = sound.sound.call.victim.born; small = sound.sound.call.victim.version });
  }

module _ (script : Script) (limits : IsScript script) (w : World) (b : Board) (view : tokens.World)
    (state : KernelState) (h : IsKernel script w b view state) where
  pub step_as : (i : ℕ) (v : ContextSeen) → found_in w i ≡ Some v → has_next (b.context i).at ≡ true →
      contexts.can_ask (begun script v) ≡ true → StepAs script b.size (step_of (begun script v))
  step_as i (Thread t) found next can =
      let t' : ThreadSeen = threads.begun script t in
      let sound = begun_sound script (Thread t) limits (h.aligned.contexts i (Thread t) found).1 in
      activity_as script limits b.size t'.id t'.own t'.activity h.aligned.shows.shows.size
      (thread_inside script limits w b view state h i t found next can) sound.doing
      (begun_counts b.size script t (counts t.activity (stands script limits w b view state h i t found next)
      (in_hand script limits w b view state h i t found
      (stands script limits w b view state h i t found next))))
    where
      count_of : (c : CreateCall) (l : CreateLocation) →
          create.hand_of l ≡ held_on b (locks_at (InCreate c (create.at_of l))) → HasCount b.size l
      count_of c (create_location.Locked p numbers) hand = ap (λ (x : Hand). length x.numbers.versions) hand
          ∙ h.whole.pair.within.count
      count_of c l hand = tt

      counts : (a : Activity) → (b.context i).at ≡ at_in a → hand_in a ≡ held_on b (locks_at (at_in a)) →
          NumbersAt b.size a
      counts (activity.Create s) at hand = count_of s.call s.location hand
      counts (activity.Alone p) at hand = tt
      counts (activity.Send s) at hand = tt
      counts (activity.Receive s) at hand = tt
      counts (activity.Destroy s) at hand = tt
  step_as i (Carrier x) found next can =
      by x.switch (switch_inside_at script limits w b view state h i x found) can
    where
      by : (o : Option Switch) → IfSome o
          (λ s. IsInside b.size (switch.ask_of s.call (switch.at_of s.location))) → own.can_ask_in o ≡ true →
          StepAs script b.size (own.step_in o)
      by None is can = absurd (false≢true can)
      by (Some s) is can = record {
        ask = switch.ask_of s.call (switch.at_of s.location);
        hand = switch.hand_after s.call (switch.hand_of s.location) (switch.at_of s.location) asks.Released;
        is = refl;
        inside = is;
        places = switch_places script limits s.call (switch.at_of s.location);
      }

  -- what holds of each answer that the step can have holds of the one that comes of it
  pub each_step : (Q : Answer → Type 0) (s : Step) (made : StepAs script b.size s) →
      EachAnswer w b made.ask Q → Q (answer_in w s)
  each_step Q s made each = subst (λ (x : Step). Q (answer_in w x)) (sym made.is)
      (each_answer script w b h.aligned.shows Q made.ask made.hand made.inside each)
