-- What a step stands on besides; and a call that has begun removes nobody.
use Rattle.std.specs.Prelude.{if◌then◌else◌}
use Rattle.std.proofs.Common.{◌≡◌, ℕ, ◌≤◌, Bool, true, false, refl, sym, ap, ◌∙◌, subst, Option, Some, arith}
use Rattle.std.proofs.lemmas.Grind.{common_steps}
use Rattle.k_ids.specs.declared.calls.Phase.{Phase}
use Rattle.k_ids.specs.declared.calls.Phase.TheVariants as phase
use Rattle.k_ids.specs.declared.calls.Reply.{Reply}
use Rattle.k_ids.specs.declared.state_word.StateWord.{StateWord}
use Rattle.k_ids.specs.declared.threads.ThreadId.{ThreadId}
use Rattle.k_locks.specs.Asks.{Ask, want_of}
use Rattle.k_locks.specs.Asks as asks
use Rattle.k_locks.specs.declared.locks.Lock.{Lock}
use Rattle.k_locks.specs.declared.steps.Answer.{Answer}
use Rattle.k_model.specs.State.{same_id}
use Rattle.k_script.specs.declared.registers.Next.{Next}
use Rattle.k_script.specs.declared.registers.Next.TheVariants as next
use Rattle.k_script.specs.Plays.{next_of, went_on}
use Rattle.k_script.specs.Script.{Script}
use Rattle.k_caller.specs.declared.activity.Activity.{Activity}
use Rattle.k_caller.specs.declared.activity.Activity.TheVariants as activity
use Rattle.k_caller.specs.declared.thread.ThreadLocation.{ThreadLocation}
use Rattle.k_caller.specs.declared.thread.ThreadLocation.TheVariants as location
use Rattle.k_caller.specs.Waits as alone
use Rattle.k_caller.specs.Activities as activities
use Rattle.k_caller.specs.Threads.{IsSound, ThreadSeen, asked, begun, begun_at, begun_by, begun_next, ran_of}
use Rattle.k_ipc.specs.ReceiveTable as receive
use Rattle.k_ipc.specs.SendTable as send
use Rattle.k_threads.specs.declared.destroy.DestroyCall.{DestroyCall}
use Rattle.k_threads.specs.declared.destroy.DestroyOutside.TheVariants as destroy_outside
use Rattle.k_threads.specs.declared.destroy.DestroySection.{DestroySection}
use Rattle.k_threads.specs.CreateTable as create
use Rattle.k_threads.specs.DestroyTable as destroy
use Rattle.k_switch.specs.declared.goal.Goal.{Goal}
use Rattle.k_sections.proofs.Wanted.{create_wants, receive_wants, send_wants}
use Rattle.k_carrier.specs.Resumed.{told_in}
use Rattle.k_context.specs.Contexts.{Thread}
use Rattle.k_board.specs.Boards.{Alone, Board, Coming}
use Rattle.k_places.specs.Contexts.{at_in}
use Rattle.k_places.specs.Memory.{Memory}
use Rattle.k_places.specs.Shows.{Shows, context_in}
use Rattle.k_turns.specs.Spelled.{ask_in}
use Rattle.k_moves.specs.Told.{finding_by}
use Rattle.k_owed.specs.Owed.{pushes_at}
use Rattle.k_work.specs.Work.{IsMade}
use Rattle.k_supported.proofs.Pushed.{above_there}
use Rattle.k_supported.proofs.Shown.{stands_at}

module _ (script : Script) (m : Memory) (b : Board) (sh : Shows script m b) (n : ℕ) (t : ThreadSeen)
    (found : context_in m.context m.slot m.hand n ≡ Some (Thread t)) (made : (b.context n).at ≡ Coming → ⊥)
    (sound : IsSound script t) (can : activities.can_ask t.activity ≡ true) where
  at : (b.context n).at ≡ at_in t.activity
  at = stands_at script m b sh n t found made

  -- who works has work left
  work_left : (a : Activity) → activities.IsSoundAt t.id t.own a → (count : ℕ) → at_in a ≡ Alone (location.Work count) → 1 ≤ count
  work_left (activity.Alone (location.Work k)) h count e = let q : k ≡ count = cc in subst (λ x. 1 ≤ x) q h.2
  work_left (activity.Alone (location.Between last)) h count e = absurd cc
  work_left (activity.Alone location.FallAsleep) h count e = absurd cc
  work_left (activity.Alone location.LookAgain) h count e = absurd cc
  work_left (activity.Alone (location.LoadMail from)) h count e = absurd cc
  work_left (activity.Alone location.CommitEnd) h count e = absurd cc
  work_left (activity.Alone location.Asleep) h count e = absurd cc
  work_left (activity.Alone location.Ended) h count e = absurd cc
  work_left (activity.Alone location.Dead) h count e = absurd cc
  work_left (activity.Send s) h count e = absurd cc
  work_left (activity.Receive s) h count e = absurd cc
  work_left (activity.Create s) h count e = absurd cc
  work_left (activity.Destroy s) h count e = absurd cc

  pub step_made : (size : ℕ) (goal : Option Goal) (l : Option Lock) (x : Answer) →
      IsMade b n (finding_by size goal l (told_in x) (ran_of (asked t) x))
  step_made size goal l x = record {
    work = λ count e. work_left t.activity sound.doing count (sym at ∙ e);
    above = λ e. ap pushes_at at ∙ above_there t x goal can e;
  }

-- A CALL THAT HAS BEGUN

alone_removes : (me : ThreadId) (own : StateWord) (p : ThreadLocation) (id : ThreadId) →
    alone.ask_of me own p ≡ asks.Remove id → ⊥
alone_removes me own p id e = grind (arith, common_steps, e)

first_removes : (table : ℕ) (me : ThreadId) (own : StateWord) (f : Phase) (id : ThreadId) →
    ask_in me own (begun_by table me own f) ≡ asks.Remove id → ⊥
first_removes table me own f id e = by (begun_by table me own f) refl e
  where
    wants : {a : Ask} → a ≡ asks.Remove id → want_of a ≡ Some (asks.Context id.number)
    wants z = ap want_of z

    by : (a : Activity) → begun_by table me own f ≡ a → ask_in me own a ≡ asks.Remove id → ⊥
    by (activity.Alone p) q z = alone_removes me own p id z
    by (activity.Send s) q z = send_wants s.call s.own (send.at_of s.location) id.number (wants z)
    by (activity.Receive s) q z = receive_wants s.call s.own (receive.at_of s.location) id.number (wants z)
    by (activity.Create s) q z = create_wants s.call s.own (create.at_of s.location) id.number (wants z)
    by (activity.Destroy s) q z = first_destroy f q
      where
        first_asks : (c : DestroyCall) (k : Bool) → destroy.ask_of c own
            (destroy.Outside (if k then destroy_outside.LoadOwn else destroy_outside.AcquireTable)) ≡ asks.Remove id → ⊥
        first_asks c true v = cc
        first_asks c false v = cc

        first_destroy : (f : Phase) → begun_by table me own f ≡ activity.Destroy s → ⊥
        first_destroy (phase.Destroy who) k =
            let y : destroy.destroy_of (record { caller = me; who = who; count = table }) own ≡ s = cc in
            first_asks (record { caller = me; who = who; count = table }) (same_id who me)
            (ap (λ (x : DestroySection). destroy.ask_of x.call x.own (destroy.at_of x.location)) y ∙ z)
        first_destroy (phase.Send to message zero joined) k = cc
        first_destroy (phase.Reply to message zero) k = cc
        first_destroy (phase.Receive from zero) k = cc
        first_destroy (phase.Create program priority) k = cc
        first_destroy phase.End k = cc

abbrev AsksToRemove : ThreadSeen → ThreadId → Type 0
AsksToRemove t id = ask_in t.id t.own t.activity ≡ asks.Remove id

next_removes : (table : ℕ) (t : ThreadSeen) (x : Next) (id : ThreadId) → AsksToRemove (begun_next table t x) id → ⊥
next_removes table t (next.Phase f) id e = first_removes table t.id t.own f id e
next_removes table t (next.Work count) id e = cc

pub begun_removes : (script : Script) (t : ThreadSeen) (last : Option Reply) →
    t.activity ≡ activity.Alone (location.Between last) → (id : ThreadId) → AsksToRemove (begun script t) id → ⊥
begun_removes script t last at id e =
    next_removes script.table (record t { position = went_on t.position last }) (next_of script.version t.position last) id
    (subst (λ (u : ThreadSeen). AsksToRemove u id) (ap (begun_at script t) at) e)
