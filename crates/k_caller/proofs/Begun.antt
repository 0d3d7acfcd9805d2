-- A section that a context begins is sound.
use Rattle.std.proofs.Common.{◌≡◌, ℕ, ◌≤◌, Bool, true, false, sym, ap, subst, arith, Option, Some, None, IfSome}
use Rattle.k_ids.specs.declared.threads.ThreadId.{ThreadId}
use Rattle.k_ids.specs.declared.state_word.StateWord.{StateWord}
use Rattle.k_ids.specs.StateWords.{IsPartner}
use Rattle.k_model.specs.State.{same_id}
use Rattle.k_model.specs.Step.{is_own}
use Rattle.k_ids.specs.declared.calls.Phase.{Phase}
use Rattle.k_ids.specs.declared.calls.Phase.TheVariants as phase
use Rattle.k_ids.specs.declared.calls.Reply.{Reply}
use Rattle.k_locks.specs.Threads.{runs}
use Rattle.k_script.specs.Script.{Script}
use Rattle.k_script.specs.Plays.{IsInRange, IsWithin, NamesInRange, TellsInRange, next_of, went_on}
use Rattle.k_script.specs.declared.registers.Next.TheVariants as next
use Rattle.k_script.proofs.Onward.{calls_on}
use Rattle.k_script.proofs.Within.{next_within, work_in_range}
use Rattle.k_caller.specs.Waits.{IsWordOf}
use Rattle.k_caller.specs.declared.activity.Activity.{Activity}
use Rattle.k_caller.specs.declared.activity.Activity.TheVariants as activity
use Rattle.k_caller.specs.declared.thread.ThreadLocation.TheVariants as location
use Rattle.k_caller.specs.Threads.{IsSound, NamesIn, ThreadSeen, begun_by}
use Rattle.k_ipc.specs.declared.send.SendCall.{SendCall}
use Rattle.k_ipc.specs.declared.send.SendOutside.{SendOutside}
use Rattle.k_ipc.specs.declared.send.SendOutside.TheVariants as outside
use Rattle.k_ipc.specs.declared.send.SendSection.{SendSection}
use Rattle.k_ipc.specs.declared.receive.ReceiveCall.{ReceiveCall}
use Rattle.k_ipc.specs.declared.receive.ReceiveOutside.{ReceiveOutside}
use Rattle.k_ipc.specs.declared.receive.ReceiveOutside.TheVariants as receive_outside
use Rattle.k_ipc.specs.declared.receive.ReceiveSection.{ReceiveSection}
use Rattle.k_ipc.specs.SendTable as send
use Rattle.k_ipc.specs.ReceiveTable as receive
use Rattle.k_caller.specs.Owns.{BeganOwns, IsRunning, ReceiveOwns, SendOwns}
use Rattle.k_caller.specs.Activities.{IsSoundAt, IsSoundReceive, IsSoundSend, TellsAt}
use Rattle.k_caller.proofs.Owned.{either}

pub partner : (table : ℕ) (id : ThreadId) → table ≤ 64 → IsInRange table id → IsPartner id
partner table id few inside = record { number = omega (arith, few, inside.number); born = inside.first; version = omega (arith, inside.last) }

pub partners : (table : ℕ) (id : Option ThreadId) → table ≤ 64 → IfSome id (IsInRange table) → IfSome id IsPartner
partners table (Some id) few inside = partner table id few inside
partners table None few inside = tt

pub send_begun : (c : SendCall) (own : StateWord) (s : SendSection) → s ≡ send.send_of c own → send.IsSound s → IsRunning c.caller own → IsSoundSend c.caller s
send_begun c own s e sound running = record {
  sound = sound;
  caller = ap (λ (x : SendSection). x.call.caller) e;
  own = subst (λ (x : SendSection). SendOwns x.call x.own (send.at_of x.location)) (sym e) (either (λ (p : SendOutside). SendOwns c own (send.Outside p)) (same_id c.to c.caller) outside.LoadCaller outside.AcquireReceiver running running);
}

pub receive_begun : (c : ReceiveCall) (own : StateWord) (s : ReceiveSection) → s ≡ receive.receive_of c own → c.picks ≡ false → receive.IsSound s → IsRunning c.caller own → IsSoundReceive c.caller s
receive_begun c own s e plain sound running =
    let began : BeganOwns c.caller own c.picks = subst (λ (b : Bool). BeganOwns c.caller own b) (sym plain) running in
    record {
      sound = sound;
      caller = ap (λ (x : ReceiveSection). x.call.caller) e;
      own = subst (λ (x : ReceiveSection). ReceiveOwns x.call x.own (receive.at_of x.location)) (sym e) (either (λ (p : ReceiveOutside). ReceiveOwns c own (receive.Outside p)) (is_own c.from c.caller) receive_outside.LoadCaller receive_outside.AcquireOwn running began);
    }

-- A position's next phase names what a context can begin.
pub names_in : (script : Script) (f : Phase) → NamesInRange script f → NamesIn script.table f
names_in script (phase.Send to message zero joined) h = h
names_in script (phase.Receive (Some from) zero) h = h
names_in script (phase.Receive None zero) h = tt
names_in script (phase.Create program priority) h = h.1
names_in script (phase.Destroy who) h = h
names_in script (phase.Reply to message zero) h = h
names_in script phase.End h = tt

-- The reply to the last call names numbers of the table.
pub last_told : (script : Script) (t : ThreadSeen) (last : Option Reply) → IsSound script t → t.activity ≡ activity.Alone (location.Between last) → TellsInRange script.table last
last_told script t last s e = subst (TellsAt script.table) e s.tells

pub own_runs : (script : Script) (t : ThreadSeen) (last : Option Reply) → IsSound script t → t.activity ≡ activity.Alone (location.Between last) → IsWordOf t.id t.own × (runs t.own.state ≡ true)
own_runs script t last s e = subst (IsSoundAt t.id t.own) e s.doing

pub begun_names : (script : Script) (t : ThreadSeen) (last : Option Reply) (f : Phase) → IsSound script t → t.activity ≡ activity.Alone (location.Between last) → next_of script.version t.position last ≡ next.Phase f → NamesIn script.table f
begun_names script t last f s e n =
    let due = calls_on script.version t.position last f n in
    names_in script f (subst (NamesInRange script) (sym due.phase) (next_within script script.version t.position last s.within (last_told script t last s e)).0)

-- a call that has begun has no reply
begun_tells : (table size : ℕ) (me : ThreadId) (own : StateWord) (f : Phase) → TellsAt table (begun_by size me own f)
begun_tells table size me own (phase.Send to message zero joined) = tt
begun_tells table size me own (phase.Reply to message zero) = tt
begun_tells table size me own (phase.Receive from zero) = tt
begun_tells table size me own (phase.Create program priority) = tt
begun_tells table size me own (phase.Destroy who) = tt
begun_tells table size me own phase.End = tt

-- where the next call has begun
pub called_sound : (script : Script) (t : ThreadSeen) (last : Option Reply) (f : Phase) (size serial done : ℕ) (a : Activity) → IsSound script t → t.activity ≡ activity.Alone (location.Between last) → next_of script.version t.position last ≡ next.Phase f → IsSoundAt t.id t.own a → a ≡ begun_by size t.id t.own f → IsSound script (record { id = t.id; position = went_on t.position last; own = t.own; serial = serial; done = done; activity = a })
called_sound script t last f size serial done a s e n doing begins =
    let due = calls_on script.version t.position last f n in
    record {
      id = s.id;
      inside = s.inside;
      within = subst (IsWithin script) (sym due.moved) (next_within script script.version t.position last s.within (last_told script t last s e)).1;
      doing = doing;
      tells = subst (TellsAt script.table) (sym begins) (begun_tells script.table size t.id t.own f);
    }

-- where work has begun
pub worked_sound : (script : Script) (t : ThreadSeen) (last : Option Reply) (count serial done : ℕ) → IsSound script t → t.activity ≡ activity.Alone (location.Between last) → next_of script.version t.position last ≡ next.Work count → IsSound script (record { id = t.id; position = went_on t.position last; own = t.own; serial = serial; done = done; activity = activity.Alone (location.Work count) })
worked_sound script t last count serial done s e n =
    let within = work_in_range script script.version count t.position last s.within (last_told script t last s e) n in
    let own = own_runs script t last s e in
    record {
      id = s.id;
      inside = s.inside;
      within = within.2;
      doing = (own.0, own.1, within.0);
      tells = tt;
    }
