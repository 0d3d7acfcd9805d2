-- Each step of a section lowers the work of the carrier that makes it.
use Rattle.std.proofs.Common.{◌≡◌, ℕ, ◌+◌, ◌*◌, ◌<◌, ◌≤◌, true, false, refl, sym, ap, ◌∙◌, subst}
use Rattle.std.proofs.Common.{arith, None, inl, inr}
use Rattle.std.proofs.lemmas.Bool.{false≢true}
use Rattle.std.proofs.lemmas.Bool.Decides.{eqb_tells}
use Rattle.k_model.specs.Maps.{lowest}
use Rattle.k_model.proofs.Maps.{upd_same, upd_other}
use Rattle.k_locks.specs.declared.locks.Lock.TheVariants as lock
use Rattle.k_locks.specs.Asks.{Response}
use Rattle.k_locks.specs.Asks as asks
use Rattle.k_locks.proofs.Responses.{made_by}
use Rattle.k_script.specs.Plays.{Position}
use Rattle.k_caller.specs.declared.thread.ThreadLocation.TheVariants as location
use Rattle.k_switch.specs.declared.switch.SwitchCall.{SwitchCall}
use Rattle.k_switch.specs.declared.switch.SwitchLocked.TheVariants as locked
use Rattle.k_switch.specs.Switches.{SwitchAt}
use Rattle.k_switch.specs.Switches as switch
use Rattle.k_board.specs.Words.{Programs}
use Rattle.k_board.specs.Boards.{Alone, At, Board, Context, InSwitch, Resting}
use Rattle.k_board.specs.Steps.{Answers, placed, switch_board}
use Rattle.k_board.specs.Turns.{Turn, begins, begins_switch, creates, destroys, ends_switch, goes_alone}
use Rattle.k_board.specs.Turns.{is_going}
use Rattle.k_board.specs.Turns.{receives, sends, switches, turns_to_work, wakes}
use Rattle.k_good.specs.Ranges.{is_threads}
use Rattle.k_good.proofs.Owners.{suits_is}
use Rattle.k_tokens.specs.Steps.{ThreadStep, after_step}
use Rattle.k_tokens.specs.World.{Awake, Asleep, Absent, Condition, ContextName, OfCarrier, OfThread}
use Rattle.k_tokens.specs.World.{OwnContext, Stage}
use Rattle.k_tokens.specs.World.{Threads, World, has_switch}
use Rattle.k_tokens.specs.World as stage
use Rattle.k_switching.specs.Claims.{IsAsked}
use Rattle.k_switching.specs.Rules.{begun_with, carrier_step, carrier_step_by, hand_step, taken_asleep}
use Rattle.k_switching.specs.Rules.{with_hand}
use Rattle.k_switching.specs.Switch.{switch_step}
use Rattle.k_switching.proofs.Rules.{is_run}
use Rattle.k_grants.specs.Granted.{Finding, IsFound, is_again}
use Rattle.k_grants.specs.Views.{look_at, name_by}
use Rattle.k_stages.specs.Stages.{IsFrom, IsOwn, IsStage}
use Rattle.k_paired.specs.Pairs.{IsPair}
use Rattle.k_points.specs.Points.{turn_point}
use Rattle.k_queues.specs.Queues.{IsProper}
use Rattle.k_schedule.specs.Parts.{Falls}
use Rattle.k_owed.specs.Works.{CountsWork}
use Rattle.k_owed.specs.Owes.{owes, owes_of, owes_switch}
use Rattle.k_owed.specs.Owed.{HasStepsLeft, owed, owed_at, owed_by, pushes_at, steps_owed}
use Rattle.k_owed.proofs.AloneOwes.{wakes_owes}
use Rattle.k_owed.proofs.Lowers.{others_owe}
use Rattle.k_owed.proofs.Sums.{sum_moves, sum_same}
use Rattle.k_owed.proofs.Turns.{placed_alone, placed_lowers, switch_turn, thread_turn}
use Rattle.k_work.specs.Work.{IsMade, contexts_of, switches_of, threads_had, work_parts}
use Rattle.k_work.proofs.Asleep.{asleep_on}
use Rattle.k_work.proofs.Begins.{begun_worth, has_reason}
use Rattle.k_work.proofs.Carriers.{HasLess, LeavesCarriers, none_changes, one_changes, switch_leaves}
use Rattle.k_work.proofs.Carriers.{thread_less}
use Rattle.k_work.proofs.Parts.{falls_by, falls_paid}

-- a thread that is awake
awake_threads : (g : Programs) (b : Board) (i : ℕ) (b' : Board) →
    (look_at (b.context i).at).condition ≡ Awake → Turn g b i b' →
    is_threads (b.context i).at ≡ true
awake_threads g b i _ e (sends c p r at an) = ap is_threads at
awake_threads g b i _ e (receives c p r at an) = ap is_threads at
awake_threads g b i _ e (creates c p r at an) = ap is_threads at
awake_threads g b i _ e (destroys c p r at an) = ap is_threads at
awake_threads g b i _ e (goes_alone p r at can an) = ap is_threads at
awake_threads g b i _ e (begins l f at n) = ap is_threads at
awake_threads g b i _ e (turns_to_work l count at n) = ap is_threads at
awake_threads g b i _ e (wakes at) = ap is_threads at
awake_threads g b i _ e (switches c p r at going an) =
    absent (sym (ap (λ (q : At). (look_at q).condition) at) ∙ e)
  where
    absent : {A : Type 0} → Absent ≡ Awake → A
    absent q = absurd cc
awake_threads g b i _ e (begins_switch c at) = absent (sym (ap (λ (q : At). (look_at q).condition) at) ∙ e)
  where
    absent : {A : Type 0} → Absent ≡ Awake → A
    absent q = absurd cc
awake_threads g b i _ e (ends_switch c s at) = absent (sym (ap (λ (q : At). (look_at q).condition) at) ∙ e)
  where
    absent : {A : Type 0} → Absent ≡ Awake → A
    absent q = absurd cc

pub size_stays : (g : Programs) (b : Board) (i : ℕ) (b' : Board) → Turn g b i b' → b'.size ≡ b.size
size_stays g b i _ (sends c p r at an) = refl
size_stays g b i _ (receives c p r at an) = refl
size_stays g b i _ (creates c p r at an) = refl
size_stays g b i _ (destroys c p r at an) = refl
size_stays g b i _ (goes_alone p r at can an) = refl
size_stays g b i _ (begins l f at e) = refl
size_stays g b i _ (turns_to_work l count at e) = refl
size_stays g b i _ (wakes at) = refl
size_stays g b i _ (switches c p r at going an) = refl
size_stays g b i _ (begins_switch c at) = refl
size_stays g b i _ (ends_switch c s at) = refl

-- where a switch asks for the ready lock, and gets it, nobody has it
free_at : (b : Board) (s : SwitchCall) (p : SwitchAt) (own : OwnContext) (r : Response) → IsStage s p own →
    is_going p ≡ true →
    Answers b (switch.ask_of s p) r → asks.is_again r ≡ false → own.stage ≡ stage.AcquireReady →
    b.ready ≡ None
free_at b s switch.AcquireReady own r h going an made e =
    made_by (asks.Acquire lock.Ready) r (λ q. Answers b (asks.Acquire lock.Ready) q → b.ready ≡ None)
    (suits_is b (asks.Acquire lock.Ready) r an) made (λ free. free) an
free_at b s (switch.Locked (locked.LoadGoal goal)) own r h going an made e = absurd (let q = sym h.1 ∙ e in
    cc)
free_at b s (switch.Locked (locked.LoadStart back n)) own r h going an made e = absurd (let q = sym h.1 ∙ e
    in cc)
free_at b s (switch.Locked (locked.ReleaseReady back started)) own r h going an made e =
    absurd (let q = sym h.1 ∙ e in cc)
free_at b s (switch.Returned o) own r h going an made e = absurd h
free_at b s (switch.Finished o) own r h going an made e = absurd (false≢true going)

-- WHERE A SWITCH BEGINS, on the board

owed_stays : (g : Programs) (b : Board) (i count : ℕ) (s : SwitchCall) → (b.context i).at ≡ Resting →
    owed (placed b i (record (b.context i) { at = InSwitch s switch.AcquireReady })) count ≡ owed b count
owed_stays g b i count s at =
    sum_same (owed_by b) (owed_by (placed b i (record (b.context i) {
      at =
          InSwitch s switch.AcquireReady;
    }))) count each
  where
    each : (t : ℕ) → owed_by (placed b i (record (b.context i) { at = InSwitch s switch.AcquireReady })) t ≡
        owed_by b t
    each t = elim (eqb_tells t i) [
      | inl q ↦
          subst (λ (n : ℕ). owed_by (placed b i (record (b.context i) {
            at =
                InSwitch s switch.AcquireReady;
          })) n ≡ owed_by b n)
          (sym q.1)
          (let now = ap (λ (x : Context). owed_at x.at)
          (upd_same b.context i (record (b.context i) { at = InSwitch s switch.AcquireReady })) in
          let was = ap owed_at at in omega (arith, now, was))
      | inr q ↦
          let same = ap (λ (x : Context). owed_at x.at)
          (upd_other b.context i (record (b.context i) { at = InSwitch s switch.AcquireReady }) t q.1) in
          omega (arith, same)
    ]

steps_rise : (g : Programs) (work : Position → ℕ) (b : Board) → IsProper g b →
    (i count : ℕ) (s : SwitchCall) →
    (b.context i).at ≡ Resting → i < count →
    steps_owed work (placed b i (record (b.context i) { at = InSwitch s switch.AcquireReady })) count ≤
    steps_owed work b count + owes_switch s switch.AcquireReady
steps_rise g work b proper i count s at inside =
    let moves = sum_moves (owes work b) (owes work (placed b i (record (b.context i) {
      at =
          InSwitch s switch.AcquireReady;
    })))
    i count inside (others_owe g work b proper.good i (placed b i (record (b.context i) {
      at =
          InSwitch s switch.AcquireReady;
    }))
    (placed_alone g work b proper i count inside (record (b.context i) {
      at =
          InSwitch s switch.AcquireReady;
    })) (λ t. refl)) in
    let now = ap (owes_of work (placed b i (record (b.context i) { at = InSwitch s switch.AcquireReady })) i)
    (upd_same b.context i (record (b.context i) { at = InSwitch s switch.AcquireReady })) in
    omega (arith, moves, now)

module _ (g : Programs) (work : Position → ℕ) (b : Board) (w : World) (proper : IsProper g b)
    (h : IsPair g b w) (c : ℕ)
    (low : c < w.carriers) where
  pub runs : (i : ℕ) (b' : Board) (found : Finding) (step : ThreadStep) → CountsWork g work →
      IsAsked w c (OfThread i) →
      IsMade b i found → (t : Turn g b i b') → turn_point g b i b' t ≡ None → is_again g b i b' t ≡ false →
      IsFound found false step → b'.size ≡ b.size → (room near near' : ℕ) →
      Falls (work_parts work b w c room near) (work_parts work b' (carrier_step w c step) c room near')
  runs i b' found step counts asked made t silent once is size =
      falls_by work b b' w (carrier_step w c step) c size (pushes_at (b.context i).at)
      (thread_turn g work b proper i (contexts_of b w) inside counts left thread b' t silent once)
      (subst (λ (v : World). HasLess w v c (pushes_at (b.context i).at)) (sym stepped)
      (thread_less w c i found step (pushes_at (b.context i).at) low is made.above))
    where
      awake : (look_at (b.context i).at).condition ≡ Awake
      awake =
          sym (ap (λ (x : Threads). x.condition i) h.alike.agrees.threads)
          ∙ (is_run w h.world.0 h.world.1 c i asked.hand asked.kept).awake

      thread : is_threads (b.context i).at ≡ true
      thread = awake_threads g b i b' awake t

      inside : i < contexts_of b w
      inside = let l = (proper.within.threads i thread).number in omega (arith, l)

      left : HasStepsLeft b i
      left = record { on = asleep_on g b w i h; work = made.work }

      stepped : carrier_step w c step ≡ after_step w c i step
      stepped = ap (carrier_step_by w c step) asked.hand ∙ ap (hand_step w c (OfThread i) step) asked.kept

  pub switched : (d : ℕ) (step : ThreadStep) (s : SwitchCall) (p : SwitchAt) (r : Response) → d < w.carriers →
      IsAsked w c (OfCarrier d) → (b.context (b.size + d)).at ≡ InSwitch s p → is_going p ≡ true →
      Answers b (switch.ask_of s p) r → asks.is_again r ≡ false → (room near near' : ℕ) →
      Falls (work_parts work b w c room near)
      (work_parts work (switch_board b (b.size + d) (b.context (b.size + d)) s p r) (carrier_step w c step)
      c room near')
  switched d step s p r there asked at going an made =
      falls_by work b (switch_board b (b.size + d) (b.context (b.size + d)) s p r) w (carrier_step w c step)
      c refl false
      (switch_turn g work b proper (b.size + d) (contexts_of b w) (omega (arith, there)) s p r at going an
      made)
      (subst (λ (v : World). HasLess w v c false) (sym stepped)
      (none_changes w (switch_step w c d (w.own d).stage) c false l.carriers l.carrier l.switches))
    where
      stepped : carrier_step w c step ≡ switch_step w c d (w.own d).stage
      stepped = ap (carrier_step_by w c step) asked.hand ∙ ap (hand_step w c (OfCarrier d) step) asked.kept

      free : (w.own d).stage ≡ stage.AcquireReady → w.ready_owner ≡ None
      free e =
          h.alike.agrees.ready ∙ ap (name_by b.size) (free_at b s p (w.own d) r
          (subst (λ (q : At). IsOwn q (w.own d)) at (h.alike.stages d)) going an made e)

      l : LeavesCarriers w (switch_step w c d (w.own d).stage)
      l = switch_leaves w c d (w.own d).stage refl free

  pub woken : (i : ℕ) (step : ThreadStep) → carrier_step w c step ≡ taken_asleep w c i → i < b.size →
      (b.context i).at ≡ Alone location.Asleep → (room near near' : ℕ) →
      Falls (work_parts work b w c room near)
      (work_parts work (placed b i (record (b.context i) { at = Alone location.LookAgain })) (carrier_step w
      c step) c
      room near')
  woken i step e inside at =
      let y = record (b.context i) { at = Alone location.LookAgain } in
      falls_by work b (placed b i y) w (carrier_step w c step) c refl false
      (placed_lowers g work b proper i (contexts_of b w) (omega (arith, inside)) y (Alone location.Asleep) at
      (wakes_owes g work b i))
      (subst (λ (v : World). HasLess w v c false) (sym e)
      (one_changes w (taken_asleep w c i) c (with_hand (w.carrier c) (OfThread i)) false low refl refl
      (λ d. refl)
      (omega arith)))

  pub begun : (step : ThreadStep) (s : SwitchCall) → (w.carrier c).hand ≡ None →
      carrier_step w c step ≡ begun_with w c (lowest (w.carrier c).starts 64) →
      (b.context (b.size + c)).at ≡ Resting →
      IsFrom s (w.carrier c) (lowest (w.carrier c).starts 64) → (room near near' : ℕ) →
      Falls (work_parts work b w c room near)
      (work_parts work
      (placed b (b.size + c) (record (b.context (b.size + c)) { at = InSwitch s switch.AcquireReady }))
      (carrier_step w c step) c room near')
  begun step s hand e at from room near near' =
      falls_paid work b (placed b (b.size + c) (record (b.context (b.size + c)) {
        at =
            InSwitch s switch.AcquireReady;
      })) w
      (carrier_step w c step) c refl (owes_switch s switch.AcquireReady) (ap (λ (v : World). v.carriers) e)
      (owed_stays g b (b.size + c) (contexts_of b w) s at)
      (steps_rise g work b proper (b.size + c) (contexts_of b w) s at (omega (arith, low)))
      (subst (λ (v : World). 6 * threads_had v + 5 * switches_of (v.own c) (v.carrier c)
      + owes_switch s switch.AcquireReady < 6 * threads_had w + 5 * switches_of (w.own c) (w.carrier c))
      (sym e)
      (begun_worth w c s low none (has_reason w c step h.world hand none (lowest (w.carrier c).starts 64) e)
      from))
      room near near'
    where
      none : has_switch (w.own c).stage ≡ false
      none = ap has_switch (subst (λ (q : At). IsOwn q (w.own c)) at (h.alike.stages c))
