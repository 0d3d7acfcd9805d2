-- A switch that is over on a board was over before the turn, or has come to its end by its own turn.
use Rattle.std.proofs.Common.{◌≡◌, ◌≢◌, ℕ, ◌==◌, Bool, true, false, refl, sym, ap, ◌∙◌, subst, Option}
use Rattle.std.proofs.Common.{Some, None, [], ◌⊎◌, inl, inr}
use Rattle.std.specs.Prelude.{if◌then◌else◌}
use Rattle.std.proofs.lemmas.Bool.{false≢true}
use Rattle.k_ids.specs.declared.calls.Phase.{Phase}
use Rattle.k_ids.specs.declared.calls.Phase.TheVariants as phase
use Rattle.k_ids.specs.declared.state_word.StateWord.{StateWord}
use Rattle.k_ids.specs.declared.threads.ThreadId.{ThreadId}
use Rattle.k_ready.specs.Lists.{Ready}
use Rattle.k_locks.specs.declared.steps.Went.{Went}
use Rattle.k_locks.specs.declared.steps.Went.TheVariants as went
use Rattle.k_locks.specs.Asks.{Response}
use Rattle.k_locks.specs.Asks as asks
use Rattle.k_locks.specs.Hands.{Hand}
use Rattle.k_model.specs.Maps.{upd}
use Rattle.k_model.proofs.Maps.{upd_tells}
use Rattle.k_script.specs.Script.{Script}
use Rattle.k_ipc.specs.declared.receive.ReceiveCall.{ReceiveCall}
use Rattle.k_ipc.specs.declared.receive.ReceiveOutside.TheVariants as receive_outside
use Rattle.k_ipc.specs.declared.send.SendCall.{SendCall}
use Rattle.k_ipc.specs.declared.send.SendOutside.TheVariants as send_outside
use Rattle.k_ipc.specs.ReceiveTable.{ReceiveAt}
use Rattle.k_ipc.specs.ReceiveTable as receive
use Rattle.k_ipc.specs.SendTable.{SendAt}
use Rattle.k_ipc.specs.SendTable as send
use Rattle.k_threads.specs.declared.create.CreateCall.{CreateCall}
use Rattle.k_threads.specs.declared.create.CreateLocked.TheVariants as create_locked
use Rattle.k_threads.specs.declared.create.CreateOutside.TheVariants as create_outside
use Rattle.k_threads.specs.declared.destroy.DestroyCall.{DestroyCall}
use Rattle.k_threads.specs.declared.destroy.DestroyLocked.TheVariants as destroy_locked
use Rattle.k_threads.specs.declared.destroy.DestroyOutside.TheVariants as destroy_outside
use Rattle.k_threads.specs.CreateTable.{CreateAt}
use Rattle.k_threads.specs.CreateTable as create
use Rattle.k_threads.specs.DestroyTable.{DestroyAt}
use Rattle.k_threads.specs.DestroyTable as destroy
use Rattle.k_caller.specs.declared.activity.Activity.{Activity}
use Rattle.k_caller.specs.declared.activity.Activity.TheVariants as activity
use Rattle.k_caller.specs.Threads.{ThreadSeen}
use Rattle.k_switch.specs.declared.goal.Switched.{Switched}
use Rattle.k_switch.specs.declared.switch.Switch.{Switch}
use Rattle.k_switch.specs.declared.switch.SwitchCall.{SwitchCall}
use Rattle.k_switch.specs.declared.switch.SwitchLocation.{SwitchLocation}
use Rattle.k_switch.specs.declared.switch.SwitchLocation.TheVariants as location
use Rattle.k_switch.specs.declared.switch.SwitchLocked.TheVariants as locked
use Rattle.k_switch.specs.Carriers.{switched_in}
use Rattle.k_switch.specs.Switches.{SwitchAt, at_of, filled, leads, switched_at, switched_by}
use Rattle.k_switch.specs.Switches as switch
use Rattle.k_context.specs.Contexts.{Carrier, ContextSeen, Thread, switched_of}
use Rattle.k_world.specs.Worlds.{World}
use Rattle.k_board.specs.Boards.{Alone, At, Board, Coming, Context, InCreate, InDestroy, InReceive, InSend}
use Rattle.k_board.specs.Boards.{InSwitch, Nowhere, Resting, hand_of}
use Rattle.k_board.specs.Steps.{after, begun_at, create_at, create_contexts, destroy_at, destroy_contexts, receive_at, send_at}
use Rattle.k_board.specs.Turns.{Turn, is_going}
use Rattle.k_board.specs.Turns as turn
use Rattle.k_board.specs.Words.{Programs}
use Rattle.k_places.specs.Contexts.{ShowsContext, at_in, switch_at, thread_at}
use Rattle.k_places.specs.Shows.{ShowsBoard}
use Rattle.k_turns.specs.Sections.{Turns, more, none}
use Rattle.k_aligned.specs.Aligned.{found_in}

-- what a finished switch has come to
abbrev pub outcome_at : SwitchAt → Option Switched
outcome_at switch.AcquireReady = None
outcome_at (switch.Locked p) = None
outcome_at (switch.Returned s) = None
outcome_at (switch.Finished s) = Some s

abbrev pub outcome : At → Option Switched
outcome (InSwitch c p) = outcome_at p
outcome (Alone p) = None
outcome (InSend c p) = None
outcome (InReceive c p) = None
outcome (InCreate c p) = None
outcome (InDestroy c p) = None
outcome Resting = None
outcome Coming = None
outcome Nowhere = None

none_some : {A : Type 0} {x : A} → None ≡ Some x → ⊥
none_some e = absurd cc

-- SECTIONS come to no such end

after_quiet : (me : ThreadId) (w : Went) → outcome (after me w) ≡ None
after_quiet me (went.Ends r) = refl
after_quiet me went.Waits = refl
after_quiet me went.Picks = refl
after_quiet me went.CallerDead = refl
after_quiet me went.On = refl
after_quiet me went.Again = refl
after_quiet me (went.Pushed priority) = refl

send_quiet : (c : SendCall) (p : SendAt) → outcome (send_at c p) ≡ None
send_quiet c (send.Outside (send_outside.Ended w)) = after_quiet c.caller w
send_quiet c p = refl

receive_quiet : (c : ReceiveCall) (p : ReceiveAt) → outcome (receive_at c p) ≡ None
receive_quiet c (receive.Outside (receive_outside.Ended w)) = after_quiet c.caller w
receive_quiet c p = refl

create_quiet : (c : CreateCall) (p : CreateAt) → outcome (create_at c p) ≡ None
create_quiet c (create.Outside (create_outside.Ended w)) = after_quiet c.caller w
create_quiet c p = refl

destroy_quiet : (c : DestroyCall) (p : DestroyAt) → outcome (destroy_at c p) ≡ None
destroy_quiet c (destroy.Outside (destroy_outside.Ended w)) = after_quiet c.caller w
destroy_quiet c p = refl

begun_quiet : (size : ℕ) (me : ThreadId) (f : Phase) → outcome (begun_at size me f) ≡ None
begun_quiet size me (phase.Send to message zero joined) = refl
begun_quiet size me (phase.Reply to message zero) = refl
begun_quiet size me (phase.Receive from zero) = refl
begun_quiet size me (phase.Create program priority) = refl
begun_quiet size me (phase.Destroy who) = refl
begun_quiet size me phase.End = refl

-- ONE CONTEXT CHANGED

changed : (f : ℕ → Context) (i : ℕ) (x : Context) (j : ℕ) (s : Switched) → outcome (upd f i x j).at ≡ Some s →
    (outcome (f j).at ≡ Some s) ⊎ ((j ≡ i) × (outcome x.at ≡ Some s))
changed f i x j s e = elim (upd_tells f i x j) [
  | inl h ↦ inr (h.1, ap (λ (y : Context). outcome y.at) (sym h.0) ∙ e)
  | inr h ↦ inl (ap (λ (y : Context). outcome y.at) (sym h.0) ∙ e)
]

-- to one that has no such switch
quietly : (f : ℕ → Context) (i : ℕ) (x : Context) (j : ℕ) (s : Switched) → outcome x.at ≡ None →
    outcome (upd f i x j).at ≡ Some s → outcome (f j).at ≡ Some s
quietly f i x j s q e = elim (changed f i x j s e) [
  | inl z ↦ z
  | inr z ↦ absurd (none_some (sym q ∙ z.1))
]

created : (g : Programs) (c : CreateCall) (p : CreateAt) (r : Response) (f : ℕ → Context) (j : ℕ) (s : Switched) →
    outcome (create_contexts g c p r f j).at ≡ Some s → outcome (f j).at ≡ Some s
created g c (create.Locked (create_locked.PlaceContext id)) asks.Placed f j s e = quietly f id.number _ j s refl e
created g c (create.Locked (create_locked.CommitCreate id)) asks.Won f j s e = quietly f id.number _ j s refl e
created g c p r f j s e = e

destroyed : (c : DestroyCall) (p : DestroyAt) (r : Response) (f : ℕ → Context) (j : ℕ) (s : Switched) →
    outcome (destroy_contexts c p r f j).at ≡ Some s → outcome (f j).at ≡ Some s
destroyed c (destroy.Locked destroy_locked.RemoveContext) asks.Removed f j s e = quietly f c.who.number _ j s refl e
destroyed c p r f j s e = e

-- A SWITCH comes to its end as it releases the ready lock

abbrev pub EndsAs : SwitchCall → Ready → SwitchAt → Switched → Type 0
EndsAs c r (switch.Locked (locked.ReleaseReady back started)) s = switched_by (filled c back started r) ≡ s
EndsAs c r (switch.Locked (locked.LoadGoal goal)) s = ⊥
EndsAs c r (switch.Locked (locked.LoadStart back number)) s = ⊥
EndsAs c r switch.AcquireReady s = ⊥
EndsAs c r (switch.Returned o) s = o ≡ s
EndsAs c r (switch.Finished o) s = ⊥

some_is : {A : Type 0} {x y : A} → Some x ≡ Some y → x ≡ y
some_is e = cc

ends : (c : SwitchCall) (h : Hand) (p : SwitchAt) (r : Response) (s : Switched) → is_going p ≡ true →
    outcome_at (leads c h p r) ≡ Some s → EndsAs c h.lists p s
ends c h switch.AcquireReady asks.Got s going e = none_some e
ends c h switch.AcquireReady r s going e = none_some e
ends c h (switch.Locked (locked.LoadGoal goal)) (asks.Word w) s going e = none_some e
ends c h (switch.Locked (locked.LoadGoal goal)) r s going e = none_some e
ends c h (switch.Locked (locked.LoadStart back number)) (asks.Word w) s going e = none_some e
ends c h (switch.Locked (locked.LoadStart back number)) r s going e = none_some e
ends c h (switch.Locked (locked.ReleaseReady back started)) asks.Released s going e = some_is e
ends c h (switch.Locked (locked.ReleaseReady back started)) r s going e = absurd (none_some e)
ends c h (switch.Returned o) asks.Released s going e = some_is e
ends c h (switch.Returned o) r s going e = absurd (none_some e)
ends c h (switch.Finished o) r s going e = absurd (false≢true going)

-- context `j` has come to the end of its switch by this turn of context `i`
pub record IsEnded (b : Board) (i j : ℕ) (s : Switched) : Type 0 where
  pub same : j ≡ i
  pub call : SwitchCall
  pub place : SwitchAt
  pub at : (b.context i).at ≡ InSwitch call place
  pub ends : EndsAs call b.lists place s

module _ (g : Programs) (b : Board) (i j : ℕ) (s : Switched) where
  pub turned : (b' : Board) → Turn g b i b' → outcome (b'.context j).at ≡ Some s →
      (outcome (b.context j).at ≡ Some s) ⊎ IsEnded b i j s
  turned _ (turn.sends c p r at an) e = inl (quietly b.context i _ j s (send_quiet c _) e)
  turned _ (turn.receives c p r at an) e = inl (quietly b.context i _ j s (receive_quiet c _) e)
  turned _ (turn.creates c p r at an) e =
      inl (created g c p r b.context j s (quietly (create_contexts g c p r b.context) i _ j s (create_quiet c _) e))
  turned _ (turn.destroys c p r at an) e =
      inl (destroyed c p r b.context j s (quietly (destroy_contexts c p r b.context) i _ j s (destroy_quiet c _) e))
  turned _ (turn.goes_alone p r at can an) e = inl (quietly b.context i _ j s refl e)
  turned _ (turn.begins l f at n) e = inl (quietly b.context i _ j s (begun_quiet _ _ f) e)
  turned _ (turn.turns_to_work l count at n) e = inl (quietly b.context i _ j s refl e)
  turned _ (turn.wakes at) e = inl (quietly b.context i _ j s refl e)
  turned _ (turn.switches c p r at going an) e = elim (changed b.context i _ j s e) [
    | inl z ↦ inl z
    | inr z ↦ inr (record {
      same = z.0;
      call = c;
      place = p;
      at = at;
      ends = ends c (hand_of b []) p r s going z.1;
    })
  ]
  turned _ (turn.begins_switch c at) e = inl (quietly b.context i _ j s refl e)
  turned _ (turn.ends_switch c o at) e = inl (quietly b.context i _ j s refl e)

-- turns of another context end no switch of this one
pub ran : (g : Programs) (i j : ℕ) (s : Switched) → j ≢ i → (n : ℕ) (b b' : Board) → Turns g i n b b' →
    outcome (b'.context j).at ≡ Some s → outcome (b.context j).at ≡ Some s
ran g i j s ne _ b _ (none _) e = e
ran g i j s ne _ b b' (more {n} _ m _ t ts) e = elim (turned g b i j s m t (ran g i j s ne n m b' ts e)) [
  | inl z ↦ z
  | inr z ↦ absurd (ne z.same)
]

-- WHERE IT IS FOUND in the raw world

doing_quiet : (a : Activity) → outcome (at_in a) ≡ None
doing_quiet (activity.Alone p) = refl
doing_quiet (activity.Send s) = refl
doing_quiet (activity.Receive s) = refl
doing_quiet (activity.Create s) = refl
doing_quiet (activity.Destroy s) = refl

thread_quiet : (w : StateWord) (t : ThreadSeen) → outcome (thread_at w t) ≡ None
thread_quiet w t = by (w.version == t.id.version)
  where
    by : (q : Bool) → outcome (if q then at_in t.activity else Coming) ≡ None
    by true = doing_quiet t.activity
    by false = refl

place_outcome : (l : SwitchLocation) → outcome_at (at_of l) ≡ switched_at l
place_outcome location.AcquireReady = refl
place_outcome (location.Locked p lists) = refl
place_outcome (location.ListsReturned s) = refl
place_outcome (location.Finished s) = refl

switch_outcome : (o : Option Switch) → outcome (switch_at o) ≡ switched_in o
switch_outcome None = refl
switch_outcome (Some s) = place_outcome s.location

shown_outcome : (w : StateWord) (n : ℕ) (v : ContextSeen) (x : Context) → ShowsContext w n (Some v) x →
    outcome x.at ≡ switched_of v
shown_outcome w n (Thread t) x h = ap (λ (y : Context). outcome y.at) h.context ∙ thread_quiet w t
shown_outcome w n (Carrier k) x h = ap outcome h ∙ switch_outcome k.switch

module _ (script : Script) (w : World) (b : Board) (sh : ShowsBoard script w b) (n : ℕ) where
  pub found_outcome : (v : ContextSeen) → found_in w n ≡ Some v → outcome (b.context n).at ≡ switched_of v
  found_outcome v e =
      shown_outcome (b.seen n).word n v (b.context n)
      (subst (λ (o : Option ContextSeen). ShowsContext (b.seen n).word n o (b.context n)) e (sh.shows.contexts n))

  -- the context that has it
  pub record HasOutcome (s : Switched) : Type 0 where
    pub value : ContextSeen
    pub found : found_in w n ≡ Some value
    pub over : switched_of value ≡ Some s

  pub outcome_found : (s : Switched) → outcome (b.context n).at ≡ Some s → HasOutcome s
  outcome_found s e = by (found_in w n) refl (sh.shows.contexts n)
    where
      by : (o : Option ContextSeen) → found_in w n ≡ o → ShowsContext (b.seen n).word n o (b.context n) → HasOutcome s
      by None q h = absurd (none_some (sym (ap outcome h) ∙ e))
      by (Some v) q h = record { value = v; found = q; over = sym (shown_outcome (b.seen n).word n v (b.context n) h) ∙ e }
