-- A raw step lowers the work: the step of the whole that it is, or the two where a call begins.
use Rattle.std.proofs.Common.{◌≡◌, ◌≢◌, ℕ, ◌+◌, ◌-◌, ◌*◌, ◌<◌, ◌≤◌, false, refl, sym, ap, ◌∙◌, subst, Option, Some, None, List, ◌++◌}
use Rattle.std.proofs.Common.{arith, ◌⊎◌, inl, inr, length, length-append}
use Rattle.k_ids.specs.declared.histories.Entry.{Entry}
use Rattle.k_locks.specs.declared.points.Point.{Point}
use Rattle.k_model.specs.State.{KernelState}
use Rattle.k_script.specs.Limits.{IsScript}
use Rattle.k_script.specs.Script.{Script}
use Rattle.k_script.specs.Weight.{phases_of}
use Rattle.k_caller.specs.Threads.{ThreadSeen}
use Rattle.k_caller.specs.Threads as threads
use Rattle.k_switch.specs.declared.carrier_context.CarrierContext.{CarrierContext}
use Rattle.k_context.specs.Contexts.{Carrier, ContextSeen, Thread}
use Rattle.k_context.specs.Contexts as contexts
use Rattle.k_carrier.specs.Asked.{CarrierAsk, LookAt, PutDown, Run, Take, ask_of}
use Rattle.k_carrier.specs.Flags.{has_hand}
use Rattle.k_carrier.specs.Flags as raw
use Rattle.k_carrier.specs.Seen.{HandSeen}
use Rattle.k_world.specs.Steps.{moved}
use Rattle.k_world.specs.Worlds.{World, carrier_at}
use Rattle.k_world.proofs.Worlds.{sized_moved}
use Rattle.k_board.specs.Boards.{Board}
use Rattle.k_legal.specs.Runs.{entries_of}
use Rattle.k_points.specs.Points.{turn_point}
use Rattle.k_plays.specs.Scripts.{ranged_programs}
use Rattle.k_tokens.specs.World as tokens
use Rattle.k_moves.specs.Views.{carrier_view}
use Rattle.k_whole.specs.Whole.{WholeHolds}
use Rattle.k_whole.proofs.Hands.{step_one}
use Rattle.k_kernel.specs.Serials.{SerialsHold}
use Rattle.k_handling.specs.Handling.{AreMatched, HasCompany, HelpsWithin, IsHandled, IsKernel, IsStepTo}
use Rattle.k_schedule.specs.Parts.{Falls}
use Rattle.k_work.specs.Near.{IsAlone, is_settled}
use Rattle.k_running.specs.Running.{KernelHolds}
use Rattle.k_running.specs.Threads.{HasBegunAndMade, HasMade, HasRun}
use Rattle.k_running.proofs.Kernel.{kernel_of}
use Rattle.k_lowered.specs.Lowered.{parts_in, room_in}
use Rattle.k_falling.proofs.Falls.{falls_on, less_room}
use Rattle.k_falling.proofs.Steps.{LowersWork, begun_falls, other_falls, parts_at, turn_falls}
use Rattle.k_falling.proofs.Supported.{Supports, made_supported}
use Rattle.k_falling.proofs.Views.{alone_in_view, unsettled_in_view}

-- the work that a raw world has is that of any board that it shows
abbrev pub WorkIsThatOf : Script → Type 0
WorkIsThatOf script = (w : World) (b : Board) (view : tokens.World) (state : KernelState) (c : ℕ) → IsKernel script w b view state →
    c < length w.carriers → parts_in script w c ≡ parts_at b view c (room_in script w)

-- A LAST TURN lowers the work from where it begins, or leaves less room in the history

module _ (script : Script) (lowers : LowersWork script) (supports : Supports script) (c n : ℕ) (t : ThreadSeen)
    (sound : threads.IsSound script t) (b : Board) (v : tokens.World) (entries : List Entry) (b' : Board) (v' : tokens.World)
    (entries' : List Entry) (made : HasMade script c n t b v entries b' v' entries') (k : KernelState)
    (whole : WholeHolds script b v entries k) (alone : IsAlone v c) (low : c < v.carriers) where
  abbrev Quiet : Type 0
  Quiet = (length entries' ≡ length entries) × ((room : ℕ) → Falls (parts_at b v c room) (parts_at b' v' c room))

  pub made_falls : is_settled (v'.carrier c) ≡ false → Quiet ⊎ (length entries' ≡ length entries + 1)
  made_falls unsettled = by (turn_point (ranged_programs script) b n b' made.turned.turn) refl
    where
      grown : (p : Option Point) → turn_point (ranged_programs script) b n b' made.turned.turn ≡ p →
          length entries' ≡ length entries + length (entries_of b p)
      grown p e =
          ap length (made.grows ∙ ap (λ (o : Option Point). entries ++ entries_of b o) e)
          ∙ length-append entries (entries_of b p)

      by : (p : Option Point) → turn_point (ranged_programs script) b n b' made.turned.turn ≡ p →
          Quiet ⊎ (length entries' ≡ length entries + 1)
      by None e =
          inl (
            let g = grown None e in omega (arith, g),
            turn_falls script lowers b v entries k c whole alone low n b' v' made.turned
                (made_supported script supports c n t sound b v entries b' v' entries' made k whole alone) e unsettled,
          )
      by (Some p) e = inr (grown (Some p) e)

module _ (script : Script) (limits : IsScript script) (lowers : LowersWork script) (supports : Supports script)
    (work_is : WorkIsThatOf script) (w : World) (h : KernelHolds script w) (c : ℕ) (low : c < length w.carriers)
    (others : (d : ℕ) → d < length w.carriers → d ≢ c → has_hand (carrier_at w d) ≡ false)
    (after : KernelHolds script (moved script c w)) (unsettled : raw.is_settled (carrier_at (moved script c w) c) ≡ false)
    (few : length (moved script c w).history ≤ 2 * phases_of script) where
  abbrev After : World
  After = moved script c w

  abbrev Lowered : Type 0
  Lowered = Falls (parts_in script w c) (parts_in script After c)

  low_after : c < length After.carriers
  low_after = subst (λ n. c < n) (sym (sized_moved script c w).carriers) low

  alone : IsAlone h.view c
  alone = alone_in_view script w h.board h.view h.state (kernel_of script w h) c others

  in_view : c < h.view.carriers
  in_view = subst (λ n. c < n) (sym h.aligned.count) low

  -- AFTER THE STEP

  -- board and carriers of the step are those of a kernel, with what is sound then
  kernel_after : (b' : Board) (view' : tokens.World) (state' : KernelState) → AreMatched script After b' view' →
      HelpsWithin script After → WholeHolds script b' view' After.history state' → SerialsHold b' (length After.history) →
      IsKernel script After b' view' state'
  kernel_after b' view' state' m helps whole serials = record {
    aligned = record {
      shows = m.shows;
      carriers = λ d there. let a = m.carriers d there in let s = after.aligned.carriers d there in record {
        number = a.number;
        answered = a.answered;
        sound = s.sound;
        given = s.given;
        viewed = a.viewed;
      };
      count = m.count;
      few = m.few;
      contexts = after.aligned.contexts;
      unstarted = m.unstarted;
      numbers = m.numbers;
    };
    helps = helps;
    whole = whole;
    serials = serials;
  }

  unsettled_after : (b' : Board) (view' : tokens.World) → AreMatched script After b' view' → is_settled (view'.carrier c) ≡ false
  unsettled_after b' view' m =
      ap is_settled (m.carriers c low_after).viewed ∙ unsettled_in_view (carrier_at After c) unsettled

  lowered : (b' : Board) (view' : tokens.World) (state' : KernelState) → IsKernel script After b' view' state' →
      Falls (parts_at h.board h.view c (room_in script w)) (parts_at b' view' c (room_in script After)) → Lowered
  lowered b' view' state' kernel f =
      subst (λ p. Falls p (parts_in script After c))
      (sym (work_is w h.board h.view h.state c (kernel_of script w h) low))
      (subst (Falls (parts_at h.board h.view c (room_in script w)))
      (sym (work_is After b' view' state' c kernel low_after)) f)

  same_room : (b' : Board) (view' : tokens.World) → length After.history ≡ length w.history →
      Falls (parts_at h.board h.view c (room_in script w)) (parts_at b' view' c (room_in script w)) →
      Falls (parts_at h.board h.view c (room_in script w)) (parts_at b' view' c (room_in script After))
  same_room b' view' e =
      subst (λ n. Falls (parts_at h.board h.view c (room_in script w)) (parts_at b' view' c n))
      (ap (λ m. 2 * phases_of script - m) (sym e))

  -- A MOVE that is no step of a thread's context

  handled : IsHandled script h.board h.view c After w.history h.state → Lowered
  handled r = lowered r.board r.view h.state (kernel_after r.board r.view h.state r.matched r.helps r.whole r.serials) (by r.steps)
    where
      by : IsStepTo (ranged_programs script) h.board h.view c r.board r.view ⊎ HasCompany h.view c →
          Falls (parts_at h.board h.view c (room_in script w)) (parts_at r.board r.view c (room_in script After))
      by (inl s) =
          same_room r.board r.view (ap length r.history)
          (other_falls script lowers h.board h.view w.history h.state c h.whole alone in_view r.board r.view s
          (unsettled_after r.board r.view r.matched) (room_in script w))
      by (inr other) =
          absurd (let z : None ≡ Some other.context = sym (alone other.carrier other.other) ∙ other.hand in cc)

  -- A STEP of a thread's context

  module _ (n : ℕ) (t : ThreadSeen) (sound : threads.IsSound script (threads.begun script t))
      (r : HasRun script h.board h.view w.history c n t After) where
    abbrev Falling : Type 0
    Falling = Falls (parts_at h.board h.view c (room_in script w)) (parts_at r.board r.view c (room_in script After))

    entered : length After.history ≡ length w.history + 1 → Falling
    entered e = inl (less_room (2 * phases_of script) (length w.history) (length After.history) e few)

    by_ways : HasMade script c n (threads.begun script t) h.board h.view w.history r.board r.view After.history ⊎
        HasBegunAndMade script c n (threads.begun script t) h.board h.view w.history r.board r.view After.history → Falling
    by_ways (inl m) =
        elim (made_falls script lowers supports c n (threads.begun script t) sound h.board h.view w.history r.board r.view
        After.history m h.state h.whole alone in_view (unsettled_after r.board r.view r.matched)) [
          | inl q ↦ same_room r.board r.view q.0 (q.1 (room_in script w))
          | inr e ↦ entered e
        ]
    by_ways (inr m) =
        elim (made_falls script lowers supports c n (threads.begun script t) sound m.board m.view w.history r.board r.view
        After.history m.makes m.state m.whole alone_then low_then (unsettled_after r.board r.view r.matched)) [
          | inl q ↦
              same_room r.board r.view q.0 (falls_on (parts_at h.board h.view c (room_in script w))
              (parts_at m.board m.view c (room_in script w)) (parts_at r.board r.view c (room_in script w))
              (begun_falls script lowers h.board h.view w.history h.state c h.whole alone in_view n m.board m.view m.begins
              (room_in script w)) (q.1 (room_in script w)))
          | inr e ↦ entered e
        ]
      where
        alone_then : IsAlone m.view c
        alone_then d ne = ap (λ (f : ℕ → tokens.Carrier). (f d).hand) m.begins.carriers ∙ alone d ne

        low_then : c < m.view.carriers
        low_then =
            subst (λ k. c < k) (sym (ap (λ (x : tokens.World). x.carriers) m.begins.turned.leads
            ∙ (step_one c h.view m.begins.turned.made).carriers)) in_view

    ran : Lowered
    ran = lowered r.board r.view r.state (kernel_after r.board r.view r.state r.matched r.helps r.whole r.serials) (by_ways r.ways)

  -- ANY MOVE

  abbrev pub Handles : CarrierAsk → Type 0
  Handles a = ask_of (carrier_at w c) ≡ a → IsHandled script h.board h.view c After w.history h.state

  pub step_falls : ((n : ℕ) (t : ThreadSeen) → ask_of (carrier_at w c) ≡ Run (record { context = n; value = Thread t }) →
      HasRun script h.board h.view w.history c n t After) →
      ((x : HandSeen) → ask_of (carrier_at w c) ≡ Run x → contexts.IsSound script (contexts.begun script x.value)) →
      ((n : ℕ) → Handles (LookAt n)) → ((n bits : ℕ) → Handles (Take n bits)) → ((x : HandSeen) → Handles (PutDown x)) →
      ((n : ℕ) (z : CarrierContext) → Handles (Run (record { context = n; value = Carrier z }))) → Lowered
  step_falls goes sound looks takes gives switches = by (ask_of (carrier_at w c)) refl
    where
      runs : (n : ℕ) (v : ContextSeen) → ask_of (carrier_at w c) ≡ Run (record { context = n; value = v }) → Lowered
      runs n (Thread t) e =
          ran n t (sound (record { context = n; value = Thread t }) e)
          (goes n t e)
      runs n (Carrier z) e = handled (switches n z e)

      by : (a : CarrierAsk) → ask_of (carrier_at w c) ≡ a → Lowered
      by (Run x) e = runs x.context x.value e
      by (LookAt n) e = handled (looks n e)
      by (Take n bits) e = handled (takes n bits e)
      by (PutDown x) e = handled (gives x e)
