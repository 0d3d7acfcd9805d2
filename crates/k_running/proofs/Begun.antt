-- The turn with which a thread's next call begins leaves the carriers as they are.
use Rattle.std.specs.Prelude.{if◌then◌else◌}
use Rattle.std.proofs.Common.{◌≡◌, ℕ, Bool, true, false, refl, sym, ap, ◌∙◌, subst, Option, Some, None}
use Rattle.k_ids.specs.declared.calls.Phase.{Phase}
use Rattle.k_ids.specs.declared.calls.Phase.TheVariants as phase
use Rattle.k_ids.specs.declared.calls.Reply.{Reply}
use Rattle.k_ids.specs.declared.state_word.StateWord.{StateWord}
use Rattle.k_ids.specs.declared.threads.ThreadId.{ThreadId}
use Rattle.k_locks.specs.Asks as asks
use Rattle.k_locks.specs.Hands.{nothing}
use Rattle.k_model.specs.Maps.{upd}
use Rattle.k_model.specs.State.{same_id}
use Rattle.k_model.proofs.Maps.{upd_same}
use Rattle.k_script.specs.declared.registers.Next.{Next}
use Rattle.k_script.specs.declared.registers.Next.TheVariants as next
use Rattle.k_script.specs.Script.{Script}
use Rattle.k_script.specs.Plays.{next_of, went_on}
use Rattle.k_threads.specs.declared.destroy.DestroyOutside.TheVariants as destroy_outside
use Rattle.k_threads.specs.CreateTable as create
use Rattle.k_threads.specs.DestroyTable as destroy
use Rattle.k_turns.specs.Spelled.{ask_in}
use Rattle.k_ipc.specs.ReceiveTable as receive
use Rattle.k_ipc.specs.SendTable as send
use Rattle.k_turns.proofs.AloneSteps.{usual as alone_usual}
use Rattle.k_turns.proofs.ReceiveSteps.{usual as receive_usual}
use Rattle.k_turns.proofs.SendSteps.{usual as send_usual}
use Rattle.k_caller.specs.declared.activity.Activity.{Activity}
use Rattle.k_caller.specs.declared.activity.Activity.TheVariants as activity
use Rattle.k_caller.specs.declared.thread.ThreadLocation.TheVariants as location
use Rattle.k_caller.specs.Activities as activities
use Rattle.k_caller.specs.Threads.{ThreadSeen, begun, begun_at, begun_by, begun_next}
use Rattle.k_caller.specs.Waits.{can_ask}
use Rattle.k_caller.specs.Waits as alone
use Rattle.k_board.specs.Words.{Programs}
use Rattle.k_board.specs.Boards.{Alone, Board, InCreate, InDestroy, InReceive, InSend, InSwitch}
use Rattle.k_board.specs.Turns.{Turn, sends, receives, creates, destroys, goes_alone, begins}
use Rattle.k_board.specs.Turns.{turns_to_work, wakes, switches, begins_switch, ends_switch}
use Rattle.k_tokens.specs.World.{Asleep, Awake, Dead, Ended, World, no_locks}
use Rattle.k_tokens.specs.Grants.{Grants}
use Rattle.k_tokens.specs.Steps.{ThreadStep, GoesOn, FindsOwned, FindsTaken, TurnsOn, AcquiresReady, Pushes, AcquiresTable}
use Rattle.k_tokens.specs.Steps.{ReleasesTable, Kills, Unlists, Removes, Places, Makes, FallsAsleep, Ends, Dies, after_step}
use Rattle.k_tokens.specs.Steps.{made_by, removed_by}
use Rattle.k_grants.specs.Granted.{IsMade, is_again}
use Rattle.k_grants.specs.Views.{held_of}
use Rattle.k_moves.specs.Views.{condition_of}
use Rattle.k_moves.specs.Told.{IsPush}
use Rattle.k_running.proofs.Again.{create_removes, no_remove}

-- A THREAD WHOSE CALL HAS BEGUN is the same thread, awake, and holds no lock

pub record IsCalm (id : ThreadId) (t : ThreadSeen) : Type 0 where
  pub same : t.id ≡ id
  pub awake : condition_of t.activity ≡ Awake
  pub free : held_of (activities.locks_of t.activity) ≡ no_locks

call_awake : (size : ℕ) (me : ThreadId) (own : StateWord) (f : Phase) → condition_of (begun_by size me own f) ≡ Awake
call_awake size me own (phase.Send to message zero joined) = refl
call_awake size me own (phase.Reply to message zero) = refl
call_awake size me own (phase.Receive from zero) = refl
call_awake size me own (phase.Create program priority) = refl
call_awake size me own (phase.Destroy who) = refl
call_awake size me own phase.End = refl

call_free : (size : ℕ) (me : ThreadId) (own : StateWord) (f : Phase) →
    held_of (activities.locks_of (begun_by size me own f)) ≡ no_locks
call_free size me own (phase.Send to message zero joined) = refl
call_free size me own (phase.Reply to message zero) = refl
call_free size me own (phase.Receive from zero) = refl
call_free size me own (phase.Create program priority) = refl
call_free size me own (phase.Destroy who) = refl
call_free size me own phase.End = refl

next_calm : (size : ℕ) (t : ThreadSeen) (n : Next) → IsCalm t.id (begun_next size t n)
next_calm size t (next.Phase f) = record { same = refl; awake = call_awake size t.id t.own f; free = call_free size t.id t.own f }
next_calm size t (next.Work count) = record { same = refl; awake = refl; free = refl }

pub begun_calm : (script : Script) (t : ThreadSeen) (last : Option Reply) → t.activity ≡ activity.Alone (location.Between last) →
    IsCalm t.id (begun script t)
begun_calm script t last e =
    subst (λ a. IsCalm t.id (begun_at script t a)) (sym e)
    (next_calm script.table (record t { position = went_on t.position last }) (next_of script.version t.position last))

-- it removes no context with its first step

abbrev is_destroy : Activity → Bool
is_destroy (activity.Destroy s) = true
is_destroy a = false

others_remove : (me : ThreadId) (own : StateWord) (a : Activity) → is_destroy a ≡ false → (id : ThreadId) →
    ask_in me own a ≡ asks.Remove id → ⊥
others_remove me own (activity.Alone p) q id e = no_remove (alone.ask_of me own p) (alone_usual me own p) id e
others_remove me own (activity.Send s) q id e =
    no_remove (send.ask_of s.call s.own (send.at_of s.location)) (send_usual s.call s.own (send.at_of s.location)) id e
others_remove me own (activity.Receive s) q id e =
    no_remove (receive.ask_of s.call s.own (receive.at_of s.location))
    (receive_usual s.call s.own (receive.at_of s.location)) id e
others_remove me own (activity.Create s) q id e = create_removes s.call s.own (create.at_of s.location) id e
others_remove me own (activity.Destroy s) q id e = absurd cc

call_removes : (size : ℕ) (me : ThreadId) (own : StateWord) (f : Phase) (id : ThreadId) →
    ask_in me own (begun_by size me own f) ≡ asks.Remove id → ⊥
call_removes size me own (phase.Send to message zero joined) id e =
    others_remove me own (begun_by size me own (phase.Send to message zero joined)) refl id e
call_removes size me own (phase.Reply to message zero) id e =
    others_remove me own (begun_by size me own (phase.Reply to message zero)) refl id e
call_removes size me own (phase.Receive from zero) id e =
    others_remove me own (begun_by size me own (phase.Receive from zero)) refl id e
call_removes size me own (phase.Create program priority) id e =
    others_remove me own (begun_by size me own (phase.Create program priority)) refl id e
call_removes size me own (phase.Destroy who) id e = by (same_id who me) e
  where
    by : (q : Bool) → destroy.ask_of (record { caller = me; who = who; count = size }) own
        (destroy.at_of (destroy.location_with nothing
        (destroy.Outside (if q then destroy_outside.LoadOwn else destroy_outside.AcquireTable)))) ≡ asks.Remove id → ⊥
    by true z = absurd cc
    by false z = absurd cc
call_removes size me own phase.End id e = others_remove me own (begun_by size me own phase.End) refl id e

next_removes : (size : ℕ) (t : ThreadSeen) (n : Next) (id : ThreadId) →
    ask_in (begun_next size t n).id (begun_next size t n).own (begun_next size t n).activity ≡ asks.Remove id → ⊥
next_removes size t (next.Phase f) id e = call_removes size t.id t.own f id e
next_removes size t (next.Work count) id e =
    others_remove t.id t.own (activity.Alone (location.Work count)) refl id e

pub begun_removes : (script : Script) (t : ThreadSeen) (last : Option Reply) → t.activity ≡ activity.Alone (location.Between last) →
    (id : ThreadId) → ask_in (begun script t).id (begun script t).own (begun script t).activity ≡ asks.Remove id → ⊥
begun_removes script t last e id q =
    next_removes script.table (record t { position = went_on t.position last }) (next_of script.version t.position last) id
    (subst (λ a. ask_in (begun_at script t a).id (begun_at script t a).own (begun_at script t a).activity ≡ asks.Remove id) e q)

-- THE TURN is no step that waits

pub begun_again : (g : Programs) (b : Board) (n : ℕ) (b' : Board) (t : Turn g b n b') (l : Option Reply) →
    (b.context n).at ≡ Alone (location.Between l) → is_again g b n b' t ≡ false
begun_again g b n _ (sends c p r at an) l e = let no : InSend c p ≡ Alone (location.Between l) = sym at ∙ e in absurd cc
begun_again g b n _ (receives c p r at an) l e = let no : InReceive c p ≡ Alone (location.Between l) = sym at ∙ e in absurd cc
begun_again g b n _ (creates c p r at an) l e = let no : InCreate c p ≡ Alone (location.Between l) = sym at ∙ e in absurd cc
begun_again g b n _ (destroys c p r at an) l e = let no : InDestroy c p ≡ Alone (location.Between l) = sym at ∙ e in absurd cc
begun_again g b n _ (goes_alone p r at can an) l e =
    let same : Alone p ≡ Alone (location.Between l) = sym at ∙ e in
    let here : p ≡ location.Between l = cc in
    let no : true ≡ false = sym can ∙ ap can_ask here in absurd cc
begun_again g b n _ (begins k f at z) l e = refl
begun_again g b n _ (turns_to_work k count at z) l e = refl
begun_again g b n _ (wakes at) l e = refl
begun_again g b n _ (switches c p r at going an) l e =
    let no : InSwitch c p ≡ Alone (location.Between l) = sym at ∙ e in absurd cc
begun_again g b n _ (begins_switch c at) l e = refl
begun_again g b n _ (ends_switch c s at) l e = refl

-- WHAT A STEP IS, by what it leaves

-- one that goes on, pushes nobody and leaves the context awake leaves the carriers
pub carriers_left : (w : World) (c me : ℕ) (above : Bool) (s : ThreadStep) → IsMade above s → Grants w me s →
    (after_step w c me s).threads.condition me ≡ Awake → w.threads.push me ≡ None → (after_step w c me s).carrier ≡ w.carrier
carriers_left w c me above (FindsOwned context wanted) made grants up none = absurd made
carriers_left w c me above FindsTaken made grants up none = absurd made
carriers_left w c me above (Pushes seen held higher) made grants up none =
    let no : None ≡ Some grants.0 = sym none ∙ grants.1 in absurd cc
carriers_left w c me above FallsAsleep made grants up none =
    let no : Asleep ≡ Awake = sym (upd_same w.threads.condition me Asleep) ∙ up in absurd cc
carriers_left w c me above Ends made grants up none =
    let no : Ended ≡ Awake = sym (upd_same w.threads.condition me Ended) ∙ up in absurd cc
carriers_left w c me above Dies made grants up none =
    let no : Dead ≡ Awake = sym (upd_same w.threads.condition me Dead) ∙ up in absurd cc
carriers_left w c me above (GoesOn held) made grants up none = refl
carriers_left w c me above (TurnsOn who) made grants up none = refl
carriers_left w c me above AcquiresReady made grants up none = refl
carriers_left w c me above AcquiresTable made grants up none = refl
carriers_left w c me above (ReleasesTable held) made grants up none = refl
carriers_left w c me above (Kills number) made grants up none = refl
carriers_left w c me above (Unlists held) made grants up none = refl
carriers_left w c me above Removes made grants up none = refl
carriers_left w c me above (Places number) made grants up none = refl
carriers_left w c me above (Makes priority) made grants up none = refl

-- one after which a push is over is the push
pub push_is : (w : World) (c me : ℕ) (s : ThreadStep) (who : ThreadId) → w.threads.push me ≡ Some who →
    (after_step w c me s).threads.push me ≡ None → IsPush s
push_is w c me s who was is = by s is
  where
    kept : {A : Type 0} → w.threads.push me ≡ None → A
    kept e = let no : Some who ≡ None = sym was ∙ e in absurd cc

    set : {A : Type 0} (other : ThreadId) → upd w.threads.push me (Some other) me ≡ None → A
    set other e = let no : Some other ≡ None = sym (upd_same w.threads.push me (Some other)) ∙ e in absurd cc

    removed : {A : Type 0} (victim : Option ThreadId) → (removed_by w.threads victim).push me ≡ None → A
    removed None e = kept e
    removed (Some other) e = kept e

    made : {A : Type 0} (priority : ℕ) (number : Option ℕ) → (made_by w.threads me priority number).push me ≡ None → A
    made priority None e = kept e
    made priority (Some number) e = set _ e

    by : (s : ThreadStep) → (after_step w c me s).threads.push me ≡ None → IsPush s
    by (Pushes seen held above) e = tt
    by (GoesOn held) e = kept e
    by (FindsOwned context wanted) e = kept e
    by FindsTaken e = kept e
    by (TurnsOn other) e = set other e
    by AcquiresReady e = kept e
    by AcquiresTable e = kept e
    by (ReleasesTable held) e = kept e
    by (Kills number) e = kept e
    by (Unlists held) e = kept e
    by Removes e = removed w.threads.victim e
    by (Places number) e = kept e
    by (Makes priority) e = made priority w.threads.making e
    by FallsAsleep e = kept e
    by Ends e = kept e
    by Dies e = kept e

-- nobody's start comes
pub unmade_left : (w : World) (c me : ℕ) (s : ThreadStep) → (after_step w c me s).unmade ≡ w.unmade
unmade_left w c me (Pushes seen held above) = refl
unmade_left w c me (GoesOn held) = refl
unmade_left w c me (FindsOwned context wanted) = refl
unmade_left w c me FindsTaken = refl
unmade_left w c me (TurnsOn other) = refl
unmade_left w c me AcquiresReady = refl
unmade_left w c me AcquiresTable = refl
unmade_left w c me (ReleasesTable held) = refl
unmade_left w c me (Kills number) = refl
unmade_left w c me (Unlists held) = refl
unmade_left w c me Removes = refl
unmade_left w c me (Places number) = refl
unmade_left w c me (Makes priority) = refl
unmade_left w c me FallsAsleep = refl
unmade_left w c me Ends = refl
unmade_left w c me Dies = refl
