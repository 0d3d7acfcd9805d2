-- The step of a raw context is on a word that there is; and whose number a context has.
use Rattle.std.proofs.Common.{◌≡◌, ℕ, ◌≤◌, ◌<◌, refl, arith, Option, Some, None}
use Rattle.k_ids.specs.declared.calls.Phase.{Phase}
use Rattle.k_ids.specs.declared.calls.Phase.TheVariants as phase
use Rattle.k_ids.specs.declared.state_word.StateWord.{StateWord}
use Rattle.k_ids.specs.declared.threads.ThreadId.{ThreadId}
use Rattle.k_locks.specs.declared.locks.Lock.{Lock}
use Rattle.k_locks.specs.declared.locks.Lock.TheVariants as lock
use Rattle.k_locks.specs.Asks.{Ask, Released, step_for}
use Rattle.k_locks.specs.Asks as asks
use Rattle.k_locks.specs.Hands.{Hand, nothing}
use Rattle.k_locks.specs.Places.{IsLock, IsWord}
use Rattle.k_locks.specs.Steps.{word_of}
use Rattle.k_script.specs.Limits.{IsScript}
use Rattle.k_script.specs.Plays.{next_of, went_on}
use Rattle.k_script.specs.Script.{Script}
use Rattle.k_script.specs.declared.registers.Next.{Next}
use Rattle.k_script.specs.declared.registers.Next.TheVariants as next
use Rattle.k_ipc.specs.SendTable as send
use Rattle.k_ipc.specs.ReceiveTable as receive
use Rattle.k_threads.specs.CreateTable as create
use Rattle.k_threads.specs.DestroyTable as destroy
use Rattle.k_caller.specs.declared.activity.Activity.{Activity}
use Rattle.k_caller.specs.declared.activity.Activity.TheVariants as activity
use Rattle.k_caller.specs.declared.thread.ThreadLocation.TheVariants as location
use Rattle.k_caller.specs.Activities.{IsSoundAt, step_at}
use Rattle.k_caller.specs.Threads.{ThreadSeen, begun_at, begun_by, begun_next}
use Rattle.k_caller.specs.Threads as threads
use Rattle.k_switch.specs.declared.switch.Switch.{Switch}
use Rattle.k_switch.specs.declared.switch.SwitchCall.{SwitchCall}
use Rattle.k_switch.specs.declared.switch.SwitchLocked.TheVariants.{LoadGoal, LoadStart, ReleaseReady}
use Rattle.k_switch.specs.Switches.{SwitchAt}
use Rattle.k_switch.specs.Switches as switch
use Rattle.std.specs.Prelude.{IfSome}
use Rattle.k_switch.specs.Carriers as carrier_contexts
use Rattle.k_context.specs.Contexts.{Carrier, ContextSeen, Thread, begun, step_of}
use Rattle.k_context.specs.Contexts as contexts
use Rattle.k_carrier.specs.Conditions.{IsOfNumber}
use Rattle.k_places.specs.Shows.{IsLockOf}
use Rattle.k_turns.specs.Spelled.{ask_in}
use Rattle.k_within.specs.Asks.{IsAskWithin}
use Rattle.k_within.proofs.Points.{CallsAs}

-- THE WORD

lock_there : (size : ℕ) (l : Lock) → IsLockOf size l → IsLock l
lock_there size (lock.Thread n) h = h.0
lock_there size lock.Table h = tt
lock_there size lock.Ready h = tt

asked_word : (size : ℕ) (a : Ask) (h : Hand) → size ≤ 64 → IsAskWithin size a →
    IsWord (word_of (step_for a h))
asked_word size (asks.Load n) h few is = omega (arith, is)
asked_word size (asks.LoadMail n) h few is = omega (arith, is)
asked_word size (asks.Post n message) h few is = omega (arith, is)
asked_word size (asks.Exchange n old new) h few is = omega (arith, is)
asked_word size (asks.Acquire l) h few is = lock_there size l is
asked_word size (asks.Release l) h few is = lock_there size l is
asked_word size (asks.Place id program priority) h few is = omega (arith, is)
asked_word size (asks.Remove id) h few is = omega (arith, is)

pub thread_word : (size : ℕ) (me : ThreadId) (own : StateWord) (a : Activity) → size ≤ 64 →
    IsAskWithin size (ask_in me own a) → IsWord (word_of (step_at me own a))
thread_word size me own (activity.Alone p) few is =
    asked_word size (ask_in me own (activity.Alone p)) nothing few is
thread_word size me own (activity.Send s) few is =
    asked_word size (ask_in me own (activity.Send s))
    (send.hand_after s.call (send.hand_of s.location) (send.at_of s.location) Released) few is
thread_word size me own (activity.Receive s) few is =
    asked_word size (ask_in me own (activity.Receive s))
    (receive.hand_after s.call (receive.hand_of s.location) (receive.at_of s.location) Released) few is
thread_word size me own (activity.Create s) few is =
    asked_word size (ask_in me own (activity.Create s))
    (create.hand_after s.call (create.hand_of s.location) (create.at_of s.location) Released) few is
thread_word size me own (activity.Destroy s) few is =
    asked_word size (ask_in me own (activity.Destroy s))
    (destroy.hand_after s.call (destroy.hand_of s.location) (destroy.at_of s.location) Released) few is

switch_word : (c : SwitchCall) (p : SwitchAt) (h : Hand) → switch.IsSoundAt p →
    IsWord (word_of (step_for (switch.ask_of c p) h))
switch_word c switch.AcquireReady h s = tt
switch_word c (switch.Locked (LoadGoal goal)) h s = s.id.number
switch_word c (switch.Locked (LoadStart back n)) h s = s.1
switch_word c (switch.Locked (ReleaseReady back start)) h s = tt
switch_word c (switch.Returned d) h s = tt
switch_word c (switch.Finished d) h s = omega arith

pub carrier_word : (o : Option Switch) → IfSome o switch.IsSound →
    IsWord (word_of (carrier_contexts.step_in o))
carrier_word None s = omega arith
carrier_word (Some q) s =
    switch_word q.call (switch.at_of q.location)
    (switch.hand_after q.call (switch.hand_of q.location) (switch.at_of q.location) Released) s.located

-- THE NUMBER of a context: 64 threads and eight carriers have contexts

pub context_there : (script : Script) (i : ℕ) (v : ContextSeen) → IsScript script →
    IsOfNumber script.table i v →
    contexts.IsSound script v → i < 72
context_there script i (Thread t) limits is sound =
    let few = limits.table.1 in let inside = sound.inside in omega (arith, few, inside, is)
context_there script i (Carrier z) limits is sound =
    let few = limits.table.1 in let small = sound.carrier in omega (arith, few, small, is)

-- ONCE ITS NEXT CALL HAS BEGUN a thread has the same id, and calls as itself.

abbrev pub IsCaller : ThreadId → ThreadSeen → Type 0
IsCaller me t = (t.id ≡ me) × CallsAs t.id t.activity

begun_calls : (size : ℕ) (me : ThreadId) (own : StateWord) (f : Phase) → CallsAs me (begun_by size me own f)
begun_calls size me own (phase.Send to message soon joined) = refl
begun_calls size me own (phase.Reply to message soon) = refl
begun_calls size me own (phase.Receive from soon) = refl
begun_calls size me own (phase.Create program priority) = refl
begun_calls size me own (phase.Destroy who) = refl
begun_calls size me own phase.End = tt

next_calls : (size : ℕ) (t : ThreadSeen) (n : Next) → IsCaller t.id (begun_next size t n)
next_calls size t (next.Phase f) = (refl, begun_calls size t.id t.own f)
next_calls size t (next.Work count) = (refl, tt)

sound_calls : (me : ThreadId) (own : StateWord) (a : Activity) → IsSoundAt me own a → CallsAs me a
sound_calls me own (activity.Alone p) h = tt
sound_calls me own (activity.Send s) h = h.caller
sound_calls me own (activity.Receive s) h = h.caller
sound_calls me own (activity.Create s) h = h.caller
sound_calls me own (activity.Destroy s) h = h.caller

pub calls_begun : (script : Script) (t : ThreadSeen) → IsSoundAt t.id t.own t.activity →
    IsCaller t.id (threads.begun script t)
calls_begun script t sound = by t.activity refl
  where
    by : (a : Activity) → t.activity ≡ a → IsCaller t.id (begun_at script t a)
    by (activity.Alone (location.Between last)) e =
        next_calls script.table (record t { position = went_on t.position last })
        (next_of script.version t.position last)
    by a e = (refl, sound_calls t.id t.own t.activity sound)
