-- What a context asks for, as the world has it and as the board has it; and what is left of it once it is asked for its step.
use Rattle.std.proofs.Common.{◌≡◌, ℕ, refl, sym, ap, ◌∙◌, Option, Some, None, arith}
use Rattle.std.proofs.lemmas.Grind.{common_steps}
use Rattle.k_ids.specs.declared.state_word.StateWord.{StateWord}
use Rattle.k_ids.specs.declared.threads.ThreadId.{ThreadId}
use Rattle.k_locks.specs.declared.locks.Lock.{Lock}
use Rattle.k_locks.specs.declared.steps.Step.TheVariants as step
use Rattle.k_locks.specs.Asks.{Ask, Want, step_for, want_of}
use Rattle.k_locks.specs.Asks as asks
use Rattle.k_locks.specs.Hands.{Hand, nothing}
use Rattle.k_ipc.specs.declared.send.SendCall.{SendCall}
use Rattle.k_ipc.specs.declared.send.SendLocation.{SendLocation}
use Rattle.k_ipc.specs.declared.send.SendLocation.TheVariants as send_location
use Rattle.k_ipc.specs.declared.send.SendLocked.TheVariants as send_locked
use Rattle.k_ipc.specs.SendTable as send
use Rattle.k_ipc.specs.declared.receive.ReceiveCall.{ReceiveCall}
use Rattle.k_ipc.specs.declared.receive.ReceiveLocation.{ReceiveLocation}
use Rattle.k_ipc.specs.declared.receive.ReceiveLocation.TheVariants as receive_location
use Rattle.k_ipc.specs.declared.receive.ReceiveLocked.TheVariants as receive_locked
use Rattle.k_ipc.specs.ReceiveTable as receive
use Rattle.k_threads.specs.declared.create.CreateCall.{CreateCall}
use Rattle.k_threads.specs.declared.create.CreateLocation.{CreateLocation}
use Rattle.k_threads.specs.declared.create.CreateLocation.TheVariants as create_location
use Rattle.k_threads.specs.declared.create.CreateLocked.TheVariants as create_locked
use Rattle.k_threads.specs.CreateTable as create
use Rattle.k_threads.specs.declared.destroy.DestroyCall.{DestroyCall}
use Rattle.k_threads.specs.declared.destroy.DestroyLocation.{DestroyLocation}
use Rattle.k_threads.specs.declared.destroy.DestroyLocation.TheVariants as destroy_location
use Rattle.k_threads.specs.declared.destroy.DestroyLocked.TheVariants as destroy_locked
use Rattle.k_threads.specs.declared.destroy.DestroyVictim.TheVariants as victim
use Rattle.k_threads.specs.declared.destroy.DestroyVisit.TheVariants as visit
use Rattle.k_threads.specs.DestroyTable as destroy
use Rattle.k_caller.specs.declared.activity.Activity.{Activity}
use Rattle.k_caller.specs.declared.activity.Activity.TheVariants as activity
use Rattle.k_caller.specs.declared.thread.ThreadLocation.{ThreadLocation}
use Rattle.k_caller.specs.declared.thread.ThreadLocation.TheVariants as location
use Rattle.k_caller.specs.Activities as about
use Rattle.k_caller.specs.Activities.{section_own}
use Rattle.k_caller.specs.Threads.{ThreadSeen, begun_at}
use Rattle.k_caller.specs.Waits as alone
use Rattle.k_switch.specs.declared.switch.Switch.{Switch}
use Rattle.k_switch.specs.declared.switch.SwitchCall.{SwitchCall}
use Rattle.k_switch.specs.declared.switch.SwitchLocation.{SwitchLocation}
use Rattle.k_switch.specs.declared.switch.SwitchLocation.TheVariants as switch_location
use Rattle.k_switch.specs.Switches as switch
use Rattle.k_script.specs.Script.{Script}
use Rattle.k_context.specs.Contexts.{Carrier, ContextSeen, Thread, asked, begun, locks_of, step_of}
use Rattle.k_board.specs.Boards.{Context}
use Rattle.k_places.specs.Contexts.{ShowsContext, at_in, switch_at}
use Rattle.k_sections.specs.Situations.{want_at}
use Rattle.k_turns.specs.Spelled.{ask_at, ask_in, ask_of_switch}
use Rattle.k_waits.proofs.Published.{by_made}

-- THE STEP

pub record Steps (v : ContextSeen) : Type 0 where
  pub hand : Hand
  pub step : step_of v ≡ step_for (ask_at v) hand

thread_steps : (t : ThreadSeen) (a : Activity) → t.activity ≡ a → Steps (Thread t)
thread_steps t (activity.Alone p) e = record { hand = nothing; step = rw e refl }
thread_steps t (activity.Send s) e = record {
  hand = send.hand_after s.call (send.hand_of s.location) (send.at_of s.location) asks.Released;
  step = rw e refl;
}
thread_steps t (activity.Receive s) e = record {
  hand = receive.hand_after s.call (receive.hand_of s.location) (receive.at_of s.location) asks.Released;
  step = rw e refl;
}
thread_steps t (activity.Create s) e = record {
  hand = create.hand_after s.call (create.hand_of s.location) (create.at_of s.location) asks.Released;
  step = rw e refl;
}
thread_steps t (activity.Destroy s) e = record {
  hand = destroy.hand_after s.call (destroy.hand_of s.location) (destroy.at_of s.location) asks.Released;
  step = rw e refl;
}

pub steps_by : (v : ContextSeen) → Steps v
steps_by (Thread t) = thread_steps t t.activity refl
steps_by (Carrier k) = go k.switch refl
  where
    go : (o : Option Switch) → k.switch ≡ o → Steps (Carrier k)
    go None e = record { hand = nothing; step = rw e refl }
    go (Some s) e = record {
      hand = switch.hand_after s.call (switch.hand_of s.location) (switch.at_of s.location) asks.Released;
      step = rw e refl;
    }

acquire_is : (a : Ask) (h : Hand) (l : Lock) → step_for a h ≡ step.Acquire l → a ≡ asks.Acquire l
acquire_is (asks.Acquire k) h l e = cc
acquire_is (asks.Load n) h l e = absurd cc
acquire_is (asks.LoadMail n) h l e = absurd cc
acquire_is (asks.Post n m) h l e = absurd cc
acquire_is (asks.Exchange n old new) h l e = absurd cc
acquire_is (asks.Release k) h l e = absurd cc
acquire_is (asks.Place id program priority) h l e = absurd cc
acquire_is (asks.Remove id) h l e = absurd cc

remove_is : (a : Ask) (h : Hand) (id : ThreadId) → step_for a h ≡ step.Remove id → a ≡ asks.Remove id
remove_is (asks.Remove k) h id e = cc
remove_is (asks.Load n) h id e = absurd cc
remove_is (asks.LoadMail n) h id e = absurd cc
remove_is (asks.Post n m) h id e = absurd cc
remove_is (asks.Exchange n old new) h id e = absurd cc
remove_is (asks.Release k) h id e = absurd cc
remove_is (asks.Place who program priority) h id e = absurd cc
remove_is (asks.Acquire l) h id e = absurd cc

pub asks_lock : (v : ContextSeen) (l : Lock) → step_of v ≡ step.Acquire l → ask_at v ≡ asks.Acquire l
asks_lock v l e = let s = steps_by v in acquire_is (ask_at v) s.hand l (sym s.step ∙ e)

pub asks_remove : (v : ContextSeen) (id : ThreadId) → step_of v ≡ step.Remove id → ask_at v ≡ asks.Remove id
asks_remove v id e = let s = steps_by v in remove_is (ask_at v) s.hand id (sym s.step ∙ e)

-- what a context asks for by its step
pub step_asks : (v : ContextSeen) (a : Ask) (h : Hand) → ask_at v ≡ a → step_of v ≡ step_for a (steps_by v).hand
step_asks v a h e = (steps_by v).step ∙ ap (λ (z : Ask). step_for z (steps_by v).hand) e

-- WHAT IT WANTS

alone_wants : (me : ThreadId) (own : StateWord) (p : ThreadLocation) → None ≡ want_of (alone.ask_of me own p)
alone_wants me own p = grind (arith, common_steps)

activity_wants : (me : ThreadId) (own : StateWord) (a : Activity) →
    want_at (section_own own a) (at_in a) ≡ want_of (ask_in me own a)
activity_wants me own (activity.Alone p) = alone_wants me own p
activity_wants me own (activity.Send s) = refl
activity_wants me own (activity.Receive s) = refl
activity_wants me own (activity.Create s) = refl
activity_wants me own (activity.Destroy s) = refl

switch_wants : (own : StateWord) (s : Option Switch) → want_at own (switch_at s) ≡ want_of (ask_of_switch s)
switch_wants own None = refl
switch_wants own (Some s) = refl

pub wants_shown : (w : StateWord) (n : ℕ) (v : ContextSeen) (x : Context) → ShowsContext w n (Some v) x →
    want_at x.own x.at ≡ want_of (ask_at v)
wants_shown w n (Thread t) x h =
    ap (λ (z : Context). want_at z.own x.at) h.context
    ∙ by_made w n t x h (λ p a. want_at (section_own t.own a) p ≡ want_of (ask_in t.id t.own a))
    (activity_wants t.id t.own) (λ p. alone_wants t.id t.own p)
wants_shown w n (Carrier k) x h = ap (want_at x.own) h ∙ switch_wants x.own k.switch

-- WHAT IS LEFT once it is asked for a step that it may have to wait for: all of it

send_asked : (c : SendCall) (own : StateWord) (l : SendLocation) (x : Want) →
    want_of (send.ask_of c own (send.at_of l)) ≡ Some x → send.asked_location l ≡ l
send_asked c own (send_location.Outside p) x e = refl
send_asked c own (send_location.Locked (send_locked.AcquireReady priority) queue) x e = refl
send_asked c own l x e = absurd (grind (arith, common_steps, e))

receive_asked : (c : ReceiveCall) (own : StateWord) (l : ReceiveLocation) (x : Want) →
    want_of (receive.ask_of c own (receive.at_of l)) ≡ Some x → receive.asked_location l ≡ l
receive_asked c own (receive_location.Outside p) x e = refl
receive_asked c own (receive_location.Locked (receive_locked.AcquireReady entry) queue) x e = refl
receive_asked c own l x e = absurd (grind (arith, common_steps, e))

create_asked : (c : CreateCall) (own : StateWord) (l : CreateLocation) (x : Want) →
    want_of (create.ask_of c own (create.at_of l)) ≡ Some x → create.asked_location l ≡ l
create_asked c own (create_location.Outside p) x e = refl
create_asked c own (create_location.Locked (create_locked.AcquireReady id) numbers) x e = refl
create_asked c own l x e = absurd (grind (arith, common_steps, e))

destroy_asked : (c : DestroyCall) (own : StateWord) (l : DestroyLocation) (x : Want) →
    want_of (destroy.ask_of c own (destroy.at_of l)) ≡ Some x → destroy.asked_location l ≡ l
destroy_asked c own (destroy_location.Outside p) x e = refl
destroy_asked c own (destroy_location.Locked destroy_locked.AcquireVictimLock numbers) x e = refl
destroy_asked c own (destroy_location.Locked destroy_locked.AcquireReadyForVictim numbers) x e = refl
destroy_asked c own (destroy_location.Locked destroy_locked.RemoveContext numbers) x e = refl
destroy_asked c own (destroy_location.Locked (destroy_locked.AcquireVisitedLock visited) numbers) x e = refl
destroy_asked c own (destroy_location.Victim (victim.AcquireReadyForSender sender seen) numbers queue) x e = refl
destroy_asked c own (destroy_location.Visit (visit.AcquireReadyForVisited visited seen) numbers queue) x e = refl
destroy_asked c own l x e = absurd (grind (arith, common_steps, e))

switch_asked : (c : SwitchCall) (l : SwitchLocation) (x : Want) → want_of (switch.ask_of c (switch.at_of l)) ≡ Some x →
    switch.asked_location c l ≡ l
switch_asked c switch_location.AcquireReady x e = refl
switch_asked c l x e = absurd (grind (arith, common_steps, e))

activity_asked : (me : ThreadId) (own : StateWord) (a : Activity) (x : Want) → want_of (ask_in me own a) ≡ Some x →
    about.asked_activity a ≡ a
activity_asked me own (activity.Alone p) x e = refl
activity_asked me own (activity.Send s) x e =
    ap (λ l. activity.Send (record s { location = l })) (send_asked s.call s.own s.location x e)
activity_asked me own (activity.Receive s) x e =
    ap (λ l. activity.Receive (record s { location = l })) (receive_asked s.call s.own s.location x e)
activity_asked me own (activity.Create s) x e =
    ap (λ l. activity.Create (record s { location = l })) (create_asked s.call s.own s.location x e)
activity_asked me own (activity.Destroy s) x e =
    ap (λ l. activity.Destroy (record s { location = l })) (destroy_asked s.call s.own s.location x e)

pub asked_same : (v : ContextSeen) (x : Want) → want_of (ask_at v) ≡ Some x → asked v ≡ v
asked_same (Thread t) x e =
    ap (λ a. Thread (record t { activity = a })) (activity_asked t.id t.own t.activity x e)
asked_same (Carrier k) x e = go k.switch refl
  where
    go : (o : Option Switch) → k.switch ≡ o → asked (Carrier k) ≡ Carrier k
    go None q = ap (λ o. Carrier (record k { switch = o })) (rw q refl)
    go (Some s) q =
        ap (λ o. Carrier (record k { switch = o })) (rw q (ap (λ l. Some (record s { location = l }))
        (switch_asked s.call s.location x (ap (λ o. want_of (ask_of_switch o)) (sym q) ∙ e))))

-- ITS LOCKS

send_locks : (c : SendCall) (l : SendLocation) →
    send.locks_of c (send.at_of (send.asked_location l)) ≡ send.locks_of c (send.at_of l)
send_locks c l = grind (arith, common_steps)

receive_locks : (c : ReceiveCall) (l : ReceiveLocation) →
    receive.locks_of c (receive.at_of (receive.asked_location l)) ≡ receive.locks_of c (receive.at_of l)
receive_locks c l = grind (arith, common_steps)

create_locks : (c : CreateCall) (l : CreateLocation) →
    create.locks_of c (create.at_of (create.asked_location l)) ≡ create.locks_of c (create.at_of l)
create_locks c l = grind (arith, common_steps)

destroy_locks : (c : DestroyCall) (l : DestroyLocation) →
    destroy.locks_of c (destroy.at_of (destroy.asked_location l)) ≡ destroy.locks_of c (destroy.at_of l)
destroy_locks c l = grind (arith, common_steps)

switch_locks : (c : SwitchCall) (l : SwitchLocation) →
    switch.locks_of (switch.at_of (switch.asked_location c l)) ≡ switch.locks_of (switch.at_of l)
switch_locks c l = grind (arith, common_steps)

activity_locks : (a : Activity) → about.locks_of (about.asked_activity a) ≡ about.locks_of a
activity_locks (activity.Alone p) = refl
activity_locks (activity.Send s) = send_locks s.call s.location
activity_locks (activity.Receive s) = receive_locks s.call s.location
activity_locks (activity.Create s) = create_locks s.call s.location
activity_locks (activity.Destroy s) = destroy_locks s.call s.location

pub locks_asked : (v : ContextSeen) → locks_of (asked v) ≡ locks_of v
locks_asked (Thread t) = activity_locks t.activity
locks_asked (Carrier k) = go k.switch refl
  where
    go : (o : Option Switch) → k.switch ≡ o → locks_of (asked (Carrier k)) ≡ locks_of (Carrier k)
    go None q = rw q refl
    go (Some s) q = rw q (switch_locks s.call s.location)

-- IN A SECTION

-- one that holds a lock or wants something isn't between two calls
pub begun_inside : (script : Script) (v : ContextSeen) → ((last : _) → (t : ThreadSeen) → v ≡ Thread t →
    t.activity ≡ activity.Alone (location.Between last) → ⊥) → begun script v ≡ v
begun_inside script (Carrier k) away = refl
begun_inside script (Thread t) away = go t.activity refl
  where
    go : (a : Activity) → t.activity ≡ a → begun script (Thread t) ≡ Thread t
    go (activity.Alone (location.Between last)) e = absurd (away last t refl e)
    go a e = ap (λ (z : Activity). Thread (begun_at script t z)) e
