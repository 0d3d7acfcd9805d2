-- Where all other carriers are settled, a switch that takes no thread finds that no carrier runs one.
use Rattle.std.proofs.Common.{◌≡◌, ◌≢◌, ℕ, ◌+◌, ◌<◌, ◌==◌, Bool, true, false, not, refl, sym, ap, ◌∙◌, subst, Option}
use Rattle.std.proofs.Common.{Some, None, length, arith, inl, inr}
use Rattle.std.specs.Prelude.{◌&&◌, if◌then◌else◌, is_some}
use Rattle.k_ready.specs.Lists.{Ready}
use Rattle.k_ready.specs.Popped.{Level, highest}
use Rattle.k_script.specs.Script.{Script}
use Rattle.k_switch.specs.declared.carrier_context.CarrierContext.{CarrierContext}
use Rattle.k_switch.specs.declared.goal.Goal.{Goal}
use Rattle.k_switch.specs.declared.goal.Switched.{Switched}
use Rattle.k_switch.specs.declared.switch.SwitchCall.{SwitchCall}
use Rattle.k_switch.specs.declared.switch.SwitchLocked.TheVariants as locked
use Rattle.k_switch.specs.Switches.{SwitchAt, entered, filled, goal_at, put_back, switched_by, uncounted}
use Rattle.k_switch.specs.Switches as switch
use Rattle.k_caller.specs.Threads.{ThreadSeen}
use Rattle.k_context.specs.Contexts.{Carrier, ContextSeen, Thread}
use Rattle.k_carrier.specs.Asked.{CarrierAsk, LookAt, PutDown, Run, Take, ask_of}
use Rattle.k_carrier.specs.Flags.{is_settled}
use Rattle.k_carrier.specs.Seen.{CarrierSeen, HandSeen}
use Rattle.k_world.specs.Steps.{moved}
use Rattle.k_world.specs.Worlds.{World, carrier_at}
use Rattle.k_board.specs.Boards.{At, Board, InSwitch}
use Rattle.k_plays.specs.Scripts.{programs_of, ranged_programs}
use Rattle.k_places.specs.Memory.{Memory, memory_of}
use Rattle.k_places.specs.Shows.{ShowsBoard}
use Rattle.k_places.proofs.Places.{held_is}
use Rattle.k_joint.proofs.Runs.{hand_is, hand_of_run}
use Rattle.k_tokens.specs.Good.{counted_in}
use Rattle.k_tokens.specs.Maps.{one_if}
use Rattle.k_tokens.specs.World.{OwnContext, Stage, has_switch}
use Rattle.k_stages.specs.Stages.{IsOwn, IsStage}
use Rattle.k_aligned.specs.Aligned.{found_in}
use Rattle.k_handling.specs.Handling.{IsHandled, IsTurned}
use Rattle.k_handling.proofs.Words.{shown}
use Rattle.k_running.specs.Running.{KernelHolds}
use Rattle.k_running.specs.Threads.{HasRun}
use Rattle.k_ending.specs.Ending.{IsFreshIn}
use Rattle.k_ending.proofs.Counts.{count_only}
use Rattle.k_ending.proofs.Over.{EndsAs, IsEnded, found_outcome, outcome, outcome_found, ran, turned}
use Rattle.k_ending.proofs.Settled.{kernel_of, settled, settled_uncounted}

-- WHAT A RELEASE COMES TO where nobody else is counted

back_running : (t : Bool) (g : Option Goal) (r : Ready) → (put_back t g r).running ≡ r.running
back_running t None r = refl
back_running true (Some g) r = refl
back_running false (Some g) r = refl

entered_running : (g : Option Goal) (r : Ready) → (entered g r).running ≡ r.running
entered_running None r = refl
entered_running (Some g) r = refl

nobody_left : (t : Bool) (r : Ready) → r.running ≡ one_if t → (uncounted t r).running ≡ 0
nobody_left true r e = omega (arith, e)
nobody_left false r e = e

filled_running : (c : SwitchCall) (back started : Option Goal) (r : Ready) → r.running ≡ one_if c.counted →
    (filled c back started r).running ≡ 0
filled_running c back started r e =
    entered_running started (put_back c.slice_ended back (uncounted c.counted r))
    ∙ back_running c.slice_ended back (uncounted c.counted r) ∙ nobody_left c.counted r e

release_idle : (r : Ready) → r.running ≡ 0 → (switched_by r).goal ≡ None → (switched_by r).idle ≡ true
release_idle r e = by (highest r)
  where
    by : (o : Option Level) → goal_at o ≡ None → (not (is_some o) && (r.running == 0)) ≡ true
    by None q = ap (λ (n : ℕ). n == 0) e
    by (Some l) q = absurd cc

module _ (script : Script) (w : World) (h : KernelHolds script w) (c : ℕ) (low : c < length w.carriers)
    (others : (d : ℕ) → d < length w.carriers → d ≢ c → is_settled (carrier_at w d) ≡ true) (fresh : IsFreshIn script w c) where
  abbrev K : CarrierSeen
  K = carrier_at w c

  abbrev M : Memory
  M = memory_of w

  abbrev J : ℕ
  J = script.table + c

  abbrev Own : OwnContext
  Own = h.view.own c

  -- nobody but itself is counted
  alone_counted : h.board.lists.running ≡ one_if (counted_in h.view.own h.view.carrier c)
  alone_counted =
      sym h.whole.pair.alike.agrees.running ∙ h.whole.pair.world.1.runs.running
      ∙ count_only (counted_in h.view.own h.view.carrier) h.view.carriers c
      (subst (λ n. c < n) (sym h.aligned.count) low)
      (λ d l ne. let inside : d < length w.carriers = subst (λ n. d < n) h.aligned.count l in
      settled_uncounted script w h d inside (settled (carrier_at w d) (others d inside ne)))

  -- where its own context stands
  own_stage : (call : SwitchCall) (place : SwitchAt) → (h.board.context J).at ≡ InSwitch call place → IsStage call place Own
  own_stage call place e =
      subst (λ (p : At). IsOwn p Own) (ap (λ n. (h.board.context (n + c)).at) h.aligned.shows.shows.size ∙ e)
      (h.whole.pair.alike.stages c)

  ended_by : (call : SwitchCall) (place : SwitchAt) (s : Switched) → IsStage call place Own → EndsAs call h.board.lists place s →
      s.goal ≡ None → s.idle ≡ true
  ended_by call (switch.Locked (locked.ReleaseReady back started)) s stage e none =
      let counted : counted_in h.view.own h.view.carrier c ≡ call.counted =
      ap (λ (z : Stage). if has_switch z then Own.counted else (h.view.carrier c).counted) stage.1 ∙ stage.0.counted in
      let r : Ready = filled call back started h.board.lists in
      let empty : r.running ≡ 0 =
      filled_running call back started h.board.lists (alone_counted ∙ ap one_if counted) in
      sym (ap (λ (z : Switched). z.idle) e) ∙ release_idle r empty (ap (λ (z : Switched). z.goal) e ∙ none)
  ended_by call (switch.Locked (locked.LoadGoal goal)) s stage e none = absurd e
  ended_by call (switch.Locked (locked.LoadStart back number)) s stage e none = absurd e
  ended_by call switch.AcquireReady s stage e none = absurd e
  ended_by call (switch.Returned o) s stage e none = absurd stage
  ended_by call (switch.Finished o) s stage e none = absurd e

  ended : (i : ℕ) (s : Switched) → IsEnded h.board i J s → s.goal ≡ None → s.idle ≡ true
  ended i s x none =
      ended_by x.call x.place s (own_stage x.call x.place (ap (λ n. (h.board.context n).at) x.same ∙ x.at)) x.ends none

  -- a switch that was over before the step
  before : (s : Switched) → outcome (h.board.context J).at ≡ Some s → s.goal ≡ None → s.idle ≡ true
  before s e none =
      let x = outcome_found script w h.board h.aligned.shows J s e in fresh x.value s x.found x.over none

  -- on the board that the step leaves
  abbrev Keeps : Board → Type 0
  Keeps b = (s : Switched) → outcome (b.context J).at ≡ Some s → s.goal ≡ None → s.idle ≡ true

  kept : (b : Board) → ShowsBoard script (moved script c w) b → Keeps b → IsFreshIn script (moved script c w) c
  kept b sh k v s found is none = k s (found_outcome script (moved script c w) b sh J v found ∙ is) none

  handled : IsHandled script h.board h.view c (moved script c w) w.history h.state → IsFreshIn script (moved script c w) c
  handled r = kept r.board r.matched.shows (by r.turned)
    where
      by : IsTurned (ranged_programs script) h.board r.board → Keeps r.board
      by (inl e) s over none = before s (ap (λ (b : Board). outcome (b.context J).at) (sym e) ∙ over) none
      by (inr t) s over none = elim (turned (ranged_programs script) h.board t.0 J s r.board t.1 over) [
        | inl z ↦ before s z none
        | inr z ↦ ended t.0 s z none
      ]

  -- a thread's context isn't the carrier's own
  thread_ran : (n : ℕ) (t : ThreadSeen) → ask_of K ≡ Run (record { context = n; value = Thread t }) →
      HasRun script h.board h.view w.history c n t (moved script c w) → IsFreshIn script (moved script c w) c
  thread_ran n t asks r =
      kept r.board r.matched.shows
      (λ s over none. before s (ran (programs_of script) n J s apart r.count h.board r.board r.turns over) none)
    where
      found : found_in w n ≡ Some (Thread t)
      found =
          let x : HandSeen = record { context = n; value = Thread t } in
          held_is M.context M.slot M.hand c x h.aligned.shows.shows.places (hand_is w c ∙ hand_of_run K x asks)

      apart : J ≢ n
      apart e =
          let inside = (shown script w h.board h.view h.state (kernel_of script w h) n (Thread t) found).inside in
          omega (arith, inside, e)

  abbrev pub Handles : CarrierAsk → Type 0
  Handles a = ask_of K ≡ a → IsHandled script h.board h.view c (moved script c w) w.history h.state

  pub stays_fresh : ((n : ℕ) → Handles (LookAt n)) → ((n bits : ℕ) → Handles (Take n bits)) →
      ((x : HandSeen) → Handles (PutDown x)) →
      ((n : ℕ) (z : CarrierContext) → Handles (Run (record { context = n; value = Carrier z }))) →
      ((n : ℕ) (t : ThreadSeen) → ask_of K ≡ Run (record { context = n; value = Thread t }) →
      HasRun script h.board h.view w.history c n t (moved script c w)) → IsFreshIn script (moved script c w) c
  stays_fresh looks takes gives switches threads = by (ask_of K) refl
    where
      runs : (n : ℕ) (v : ContextSeen) → ask_of K ≡ Run (record { context = n; value = v }) →
          IsFreshIn script (moved script c w) c
      runs n (Thread t) e = thread_ran n t e (threads n t e)
      runs n (Carrier z) e = handled (switches n z e)

      by : (a : CarrierAsk) → ask_of K ≡ a → IsFreshIn script (moved script c w) c
      by (Run x) e = runs x.context x.value e
      by (LookAt n) e = handled (looks n e)
      by (Take n bits) e = handled (takes n bits e)
      by (PutDown x) e = handled (gives x e)
