-- A step that removes a context is made by a thread that destroys another, under the table lock.
use Rattle.std.proofs.Common.{◌≡◌, ℕ, Bool, true, false, refl, sym, ap, ◌∙◌, subst, Option, Some, None, ◌⊎◌, inl, inr}
use Rattle.std.proofs.lemmas.Bool.{false≢true}
use Rattle.k_ids.specs.declared.calls.Phase.{Phase}
use Rattle.k_ids.specs.declared.calls.Phase.TheVariants as phase
use Rattle.k_ids.specs.declared.state_word.StateWord.{StateWord}
use Rattle.k_ids.specs.declared.threads.ThreadId.{ThreadId}
use Rattle.k_locks.specs.declared.steps.Step.TheVariants as step
use Rattle.k_locks.specs.Asks.{Ask, step_for}
use Rattle.k_locks.specs.Asks as asks
use Rattle.k_locks.specs.Hands.{Hand, nothing}
use Rattle.k_script.specs.Plays.{next_of, went_on}
use Rattle.k_script.specs.Script.{Script}
use Rattle.k_script.specs.declared.registers.Next.{Next}
use Rattle.k_script.specs.declared.registers.Next.TheVariants as next
use Rattle.k_ipc.specs.ReceiveTable as receive
use Rattle.k_ipc.specs.SendTable as send
use Rattle.k_threads.specs.declared.create.CreateCall.{CreateCall}
use Rattle.k_threads.specs.declared.create.CreateLocked.TheVariants as create_locked
use Rattle.k_threads.specs.declared.create.CreateOutside.TheVariants as create_outside
use Rattle.k_threads.specs.declared.destroy.DestroyLocked.TheVariants as destroy_locked
use Rattle.k_threads.specs.declared.destroy.DestroySection.{DestroySection}
use Rattle.k_threads.specs.CreateTable.{CreateAt}
use Rattle.k_threads.specs.CreateTable as create
use Rattle.k_threads.specs.DestroyTable.{DestroyAt}
use Rattle.k_threads.specs.DestroyTable as destroy
use Rattle.k_switch.specs.declared.switch.Switch.{Switch}
use Rattle.k_switch.specs.declared.switch.SwitchCall.{SwitchCall}
use Rattle.k_switch.specs.declared.switch.SwitchLocked.TheVariants as switch_locked
use Rattle.k_switch.specs.Carriers as carriers
use Rattle.k_switch.specs.Switches as switch
use Rattle.k_caller.specs.declared.activity.Activity.{Activity}
use Rattle.k_caller.specs.declared.activity.Activity.TheVariants as activity
use Rattle.k_caller.specs.declared.thread.ThreadLocation.TheVariants as location
use Rattle.k_caller.specs.Activities.{step_at}
use Rattle.k_caller.specs.Threads.{ThreadSeen, begun, begun_at, begun_by, begun_next}
use Rattle.k_caller.specs.Waits as alone
use Rattle.k_context.specs.Contexts.{Carrier, ContextSeen, Thread}
use Rattle.k_context.specs.Contexts as contexts
use Rattle.k_places.proofs.Steps.{IsUsual}
use Rattle.k_turns.proofs.AloneSteps.{usual as alone_usual}
use Rattle.k_turns.proofs.DestroySteps.{IsPlain, usual as destroy_usual}
use Rattle.k_turns.proofs.ReceiveSteps.{usual as receive_usual}
use Rattle.k_turns.proofs.SendSteps.{usual as send_usual}

-- WHAT IS ASKED FOR

removal_asked : (a : Ask) (h : Hand) (id : ThreadId) → step_for a h ≡ step.Remove id → a ≡ asks.Remove id
removal_asked (asks.Remove i) h id e = let same : i ≡ id = cc in ap asks.Remove same
removal_asked (asks.Load n) h id e = absurd cc
removal_asked (asks.LoadMail n) h id e = absurd cc
removal_asked (asks.Post n message) h id e = absurd cc
removal_asked (asks.Exchange n old new) h id e = absurd cc
removal_asked (asks.Acquire l) h id e = absurd cc
removal_asked (asks.Release l) h id e = absurd cc
removal_asked (asks.Place i program priority) h id e = absurd cc

usual_removes : (a : Ask) → IsUsual a → (h : Hand) (id : ThreadId) → step_for a h ≡ step.Remove id → ⊥
usual_removes a u h id e = subst IsUsual (removal_asked a h id e) u

create_removes : (c : CreateCall) (own : StateWord) (p : CreateAt) (h : Hand) (id : ThreadId) →
    step_for (create.ask_of c own p) h ≡ step.Remove id → ⊥
create_removes c own (create.Outside create_outside.AcquireTable) h id e = absurd cc
create_removes c own (create.Outside (create_outside.Ended w)) h id e = absurd cc
create_removes c own (create.Locked create_locked.LoadCaller) h id e = absurd cc
create_removes c own (create.Locked (create_locked.PlaceContext who)) h id e = absurd cc
create_removes c own (create.Locked (create_locked.CommitCreate who)) h id e = absurd cc
create_removes c own (create.Locked (create_locked.AcquireReady who)) h id e = absurd cc
create_removes c own (create.Locked (create_locked.Release r)) h id e = absurd cc
create_removes c own (create.PushCreated who) h id e = absurd cc

-- no switch removes a context
switch_removes : (c : SwitchCall) (p : switch.SwitchAt) (h : Hand) (id : ThreadId) →
    step_for (switch.ask_of c p) h ≡ step.Remove id → ⊥
switch_removes c switch.AcquireReady h id e = absurd cc
switch_removes c (switch.Locked (switch_locked.LoadGoal goal)) h id e = absurd cc
switch_removes c (switch.Locked (switch_locked.LoadStart back n)) h id e = absurd cc
switch_removes c (switch.Locked (switch_locked.ReleaseReady back started)) h id e = absurd cc
switch_removes c (switch.Returned s) h id e = absurd cc
switch_removes c (switch.Finished s) h id e = absurd cc

carrier_removes : (o : Option Switch) (id : ThreadId) → carriers.step_in o ≡ step.Remove id → ⊥
carrier_removes None id e = absurd cc
carrier_removes (Some s) id e = switch_removes s.call (switch.at_of s.location) _ id e

-- THE ONE LOCATION THAT REMOVES

-- the thread destroys that one, and is about to remove its context
pub record IsRemoving (a : Activity) (id : ThreadId) : Type 0 where
  pub section : DestroySection
  pub about : a ≡ activity.Destroy section
  pub place : destroy.at_of section.location ≡ destroy.Locked destroy_locked.RemoveContext
  pub who : section.call.who ≡ id

plain_or : (p : DestroyAt) → IsPlain p ⊎ (p ≡ destroy.Locked destroy_locked.RemoveContext)
plain_or (destroy.Locked destroy_locked.RemoveContext) = inr refl
plain_or p = inl tt

destroy_removes : (s : DestroySection) (p : DestroyAt) (h : Hand) (id : ThreadId) → destroy.at_of s.location ≡ p →
    step_for (destroy.ask_of s.call s.own p) h ≡ step.Remove id → IsRemoving (activity.Destroy s) id
destroy_removes s p h id at e = elim (plain_or p) [
  | inl plain ↦ absurd (usual_removes (destroy.ask_of s.call s.own p) (destroy_usual s.call s.own p plain) h id e)
  | inr is ↦ record {
    section = s;
    about = refl;
    place = at ∙ is;
    who =
        let z : step.Remove s.call.who ≡ step.Remove id =
        ap (λ (q : DestroyAt). step_for (destroy.ask_of s.call s.own q) h) (sym is) ∙ e in cc;
  }
]

removing_at : (me : ThreadId) (own : StateWord) (a : Activity) (id : ThreadId) → step_at me own a ≡ step.Remove id → IsRemoving a id
removing_at me own (activity.Alone p) id e =
    absurd (usual_removes (alone.ask_of me own p) (alone_usual me own p) nothing id e)
removing_at me own (activity.Send s) id e =
    absurd (usual_removes (send.ask_of s.call s.own (send.at_of s.location))
    (send_usual s.call s.own (send.at_of s.location)) _ id e)
removing_at me own (activity.Receive s) id e =
    absurd (usual_removes (receive.ask_of s.call s.own (receive.at_of s.location))
    (receive_usual s.call s.own (receive.at_of s.location)) _ id e)
removing_at me own (activity.Create s) id e =
    absurd (create_removes s.call s.own (create.at_of s.location) _ id e)
removing_at me own (activity.Destroy s) id e = destroy_removes s (destroy.at_of s.location) _ id refl e

-- A CALL THAT BEGINS removes nothing

abbrev is_removal : DestroyAt → Bool
is_removal (destroy.Locked destroy_locked.RemoveContext) = true
is_removal p = false

abbrev is_removing : Activity → Bool
is_removing (activity.Destroy s) = is_removal (destroy.at_of s.location)
is_removing a = false

removes_so : (a : Activity) (id : ThreadId) → IsRemoving a id → is_removing a ≡ true
removes_so a id r = ap is_removing r.about ∙ ap is_removal r.place

first_by : (table : ℕ) (me : ThreadId) (own : StateWord) (f : Phase) → is_removing (begun_by table me own f) ≡ false
first_by table me own (phase.Send to message zero joined) = refl
first_by table me own (phase.Reply to message zero) = refl
first_by table me own (phase.Receive from zero) = refl
first_by table me own (phase.Create program priority) = refl
first_by table me own (phase.Destroy who) = refl
first_by table me own phase.End = refl

first_next : (table : ℕ) (t : ThreadSeen) (n : Next) → is_removing (begun_next table t n).activity ≡ false
first_next table t (next.Phase f) = first_by table t.id t.own f
first_next table t (next.Work count) = refl

begun_removing : (script : Script) (t : ThreadSeen) (id : ThreadId) → IsRemoving (begun script t).activity id →
    IsRemoving t.activity id
begun_removing script t id r = by t.activity refl r
  where
    by : (a : Activity) → t.activity ≡ a → IsRemoving (begun_at script t a).activity id → IsRemoving t.activity id
    by (activity.Alone (location.Between last)) q z =
        let first : is_removing (begun_at script t (activity.Alone (location.Between last))).activity ≡ false =
        first_next script.table (record t { position = went_on t.position last })
        (next_of script.version t.position last) in
        absurd (false≢true (sym first ∙ removes_so _ id z))
    by a q z = z

-- the context that removes one is a thread's
pub record IsRemover (v : ContextSeen) (id : ThreadId) : Type 0 where
  pub thread : ThreadSeen
  pub value : v ≡ Thread thread
  pub removing : IsRemoving thread.activity id

pub remover : (script : Script) (v : ContextSeen) (id : ThreadId) →
    contexts.step_of (contexts.begun script v) ≡ step.Remove id → IsRemover v id
remover script (Thread t) id e = record {
  thread = t;
  value = refl;
  removing =
      let u = begun script t in
      begun_removing script t id (removing_at u.id u.own u.activity id e);
}
remover script (Carrier k) id e = absurd (carrier_removes k.switch id e)
