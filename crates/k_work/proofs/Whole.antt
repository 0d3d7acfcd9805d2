-- Each step of a carrier that is alone lowers its work.
use Rattle.std.proofs.Common.{◌≡◌, ℕ, ◌+◌, ◌<◌, Bool, true, false, refl, sym, ap, ◌∙◌, subst}
use Rattle.std.proofs.Common.{arith, Option, Some, None, List, inl, inr}
use Rattle.std.specs.Prelude.{◌&&◌, ◌||◌, ◌==◌, is_some}
use Rattle.std.proofs.lemmas.Bool.{cases_lt, false≢true}
use Rattle.std.proofs.lemmas.Bool.Decides.{nat_tests}
use Rattle.k_ids.specs.declared.histories.Entry.{Entry}
use Rattle.k_model.specs.Maps.{lowest, upd}
use Rattle.k_model.specs.State.{KernelState}
use Rattle.k_model.proofs.Maps.{upd_same, upd_other}
use Rattle.k_locks.specs.declared.locks.Lock.{Lock}
use Rattle.k_locks.specs.declared.locks.Lock.TheVariants as lock
use Rattle.k_locks.specs.Asks.{Response}
use Rattle.k_locks.specs.Asks as asks
use Rattle.k_locks.proofs.Responses.{again_by}
use Rattle.k_script.specs.Script.{Script}
use Rattle.k_script.specs.Plays.{Position}
use Rattle.k_switch.specs.declared.switch.SwitchCall.{SwitchCall}
use Rattle.k_switch.specs.declared.switch.SwitchLocked.TheVariants as locked
use Rattle.k_switch.specs.Switches.{SwitchAt}
use Rattle.k_switch.specs.Switches as switch
use Rattle.k_board.specs.Words.{Programs}
use Rattle.k_board.specs.Boards.{At, Board, InSwitch, Resting}
use Rattle.k_board.specs.Steps.{Answers, placed, switch_board}
use Rattle.k_board.specs.Turns.{Turn, is_going}
use Rattle.k_board.specs.Turns as turns
use Rattle.k_good.proofs.Owners.{suits_is}
use Rattle.k_tokens.specs.Good.{IsGood}
use Rattle.k_tokens.specs.Steps.{FindsTaken, ThreadStep, after_step, helping}
use Rattle.k_tokens.specs.World.{Asleep, Awake, Condition, Carrier, ContextName, Help, OfCarrier, OfThread}
use Rattle.k_tokens.specs.World.{OwnContext, Stage}
use Rattle.k_tokens.specs.World.{Threads, World, has_switch, holds, holds_ready, is_finished, with_carrier}
use Rattle.k_tokens.specs.World as stage
use Rattle.k_switching.specs.Claims.{IsAsked}
use Rattle.k_switching.specs.Rules.{begun_with, carrier_step, carrier_step_by, given, given_own, gives}
use Rattle.k_switching.specs.Rules.{hand_step, has_switched}
use Rattle.k_switching.specs.Rules.{is_helped, new_switch, put_down, taken_asleep}
use Rattle.k_switching.specs.Switch.{acquired_by, switch_step}
use Rattle.k_grants.specs.Granted.{Finding, IsFound, is_again}
use Rattle.k_grants.specs.Views.{name_by, name_of}
use Rattle.k_stages.specs.Stages.{IsOwn, IsStage}
use Rattle.k_paired.specs.Pairs.{IsPair, IsStill}
use Rattle.k_plays.specs.Scripts.{ranged_programs}
use Rattle.k_points.specs.Points.{turn_point}
use Rattle.k_queues.specs.Queues.{IsProper}
use Rattle.k_schedule.specs.Parts.{Falls}
use Rattle.k_whole.specs.Whole.{IsStepOf, Step, WholeHolds, begins_switch, ends_switch, runs, stays}
use Rattle.k_whole.specs.Whole.{step_point, switches, wakes}
use Rattle.k_owed.specs.Works.{CountsWork}
use Rattle.k_owed.specs.Owed.{owed, steps_owed}
use Rattle.k_owed.proofs.Waits.{again_leaves, owed_stays, steps_stay}
use Rattle.k_work.specs.Near.{IsAlone, IsHeldAbove, IsSupported, IsWaiting, is_settled, near_of}
use Rattle.k_work.specs.Work.{IsMade, contexts_of, work_parts}
use Rattle.k_work.proofs.Carriers.{HasLess, one_moves}
use Rattle.k_work.proofs.Ends as ends
use Rattle.k_work.proofs.Gives.{give_nearer, same_is}
use Rattle.k_work.proofs.Looks.{Approaches, comes_nearer, drops_goal}
use Rattle.k_work.proofs.Moves as moves
use Rattle.k_work.proofs.Moves.{Moves}
use Rattle.k_work.proofs.Steps as steps
use Rattle.k_work.proofs.Takes.{free_moves}
use Rattle.k_work.proofs.Vain.{vain_nearer}
use Rattle.k_switching.proofs.Rules.{kept_by}

-- THE PARTS, where the board owes the same

falls_nearer : (work : Position → ℕ) (b b' : Board) (w v : World) (c : ℕ) → b'.size ≡ b.size →
    owed b' (contexts_of b w) ≡ owed b (contexts_of b w) → steps_owed work b' (contexts_of b w) ≡ steps_owed
    work b (contexts_of b w) →
    Approaches w v c → (room : ℕ) →
    Falls (work_parts work b w c room (near_of w c)) (work_parts work b' v c room (near_of v c))
falls_nearer work b b' w v c size o s (comes_nearer near less) room =
    let o' : owed b' (contexts_of b' v) ≡ owed b' (contexts_of b w) =
    λ z. owed b' (size z + less.carriers z) in
    let s' : steps_owed work b' (contexts_of b' v) ≡ steps_owed work b' (contexts_of b w) =
    λ z. steps_owed work b' (size z + less.carriers z) in
    let worth = less.worth in
    inr (inr (inr (omega arith, omega (arith, o, o'), omega (arith, s, s', worth), near)))
falls_nearer work b b' w v c size o s (drops_goal carriers less) room =
    let o' : owed b' (contexts_of b' v) ≡ owed b' (contexts_of b w) = λ z. owed b' (size z + carriers z) in
    let s' : steps_owed work b' (contexts_of b' v) ≡ steps_owed work b' (contexts_of b w) =
    λ z. steps_owed work b' (size z + carriers z) in
    inr (inr (inl (omega arith, omega (arith, o, o'), omega (arith, s, s', less))))

-- A carrier that helps another is worth the same.
helping_less : (w : World) (c : ℕ) (context : ContextName) (wanted : Option Lock) → c < w.carriers →
    HasLess w (with_carrier w c (helping (w.carrier c) context wanted)) c false
helping_less w c context wanted low =
    one_moves w (with_carrier w c (helping (w.carrier c) context wanted)) c (helping (w.carrier c) context
    wanted) false low refl
    (upd_same w.carrier c (helping (w.carrier c) context wanted))
    (λ d ne. upd_other w.carrier c (helping (w.carrier c) context wanted) d ne) (λ d. refl) (omega arith)

vain : (w : World) (c : ℕ) (x : ContextName) (context : ContextName) (wanted : Option Lock) → IsGood w →
    c < w.carriers →
    IsAsked w c x → IsHeldAbove w c (record { context = context; lock = wanted }) →
    Approaches w (with_carrier w c (helping (w.carrier c) context wanted)) c
vain w c x context wanted good low asked held =
    comes_nearer (vain_nearer w c good x asked (with_carrier w c (helping (w.carrier c) context wanted))
    context wanted held
    refl refl (upd_same w.carrier c (helping (w.carrier c) context wanted))) (helping_less w c context
    wanted low)

-- A GIVE

put_less : (w v : World) (c : ℕ) (x : ContextName) → c < w.carriers → v.carriers ≡ w.carriers →
    v.own ≡ w.own →
    v.carrier ≡ upd w.carrier c (put_down w (w.carrier c) x) → HasLess w v c false
put_less w v c x low carriers own is =
    one_moves w v c (put_down w (w.carrier c) x) false low carriers
    (ap (λ (m : ℕ → Carrier). m c) is ∙ upd_same w.carrier c (put_down w (w.carrier c) x))
    (λ d ne. ap (λ (m : ℕ → Carrier). m d) is ∙ upd_other w.carrier c (put_down w (w.carrier c) x) d ne)
    (λ d z. has_switch (own z d).stage) (omega arith)

gives_nearer : (w v : World) (c : ℕ) (x : ContextName) → IsGood w → c < w.carriers →
    (w.carrier c).hand ≡ Some x →
    gives w c (w.carrier c) x ≡ true → has_switched w c x ≡ false → v.threads ≡ w.threads → v.own ≡ w.own →
    v.carriers ≡ w.carriers → v.carrier ≡ upd w.carrier c (put_down w (w.carrier c) x) → Approaches w v c
gives_nearer w v c x good low hand out unfinished threads own carriers is =
    comes_nearer (give_nearer w v c x hand ((good.1.carriers c).hand_looked x hand) out unfinished threads own
    (ap (λ (m : ℕ → Carrier). m c) is ∙ upd_same w.carrier c (put_down w (w.carrier c) x)))
    (put_less w v c x low carriers own is)

given_approaches : (w : World) (c : ℕ) (x : ContextName) → IsGood w → c < w.carriers →
    (w.carrier c).hand ≡ Some x →
    gives w c (w.carrier c) x ≡ true → has_switched w c x ≡ false → Approaches w (given w c x) c
given_approaches w c (OfThread t) good low hand out unfinished =
    gives_nearer w (given w c (OfThread t)) c (OfThread t) good low hand out unfinished refl refl refl refl
given_approaches w c (OfCarrier d) good low hand out unfinished =
    subst (λ (t : Bool). Approaches w (given_own w c d t) c) (sym unfinished)
    (gives_nearer w (given_own w c d false) c (OfCarrier d) good low hand out unfinished refl refl refl refl)

-- a give that ends a switch changes the carrier's own context
ended_own : (w : World) (c : ℕ) (x : ContextName) → has_switched w c x ≡ true → (given w c x).own ≡ w.own → ⊥
ended_own w c (OfThread t) e same = false≢true e
ended_own w c (OfCarrier d) e same =
    let finished : is_finished (w.own d).stage ≡ true = by (d == c) (is_finished (w.own d).stage) e in
    let now : is_finished ((given w c (OfCarrier d)).own d).stage ≡ false =
    ap (λ (t : Bool). is_finished ((given_own w c d t).own d).stage) e
    ∙ ap (λ (o : OwnContext). is_finished o.stage) (upd_same w.own d (record (w.own d) {
      stage =
          stage.NoSwitch;
    })) in
    false≢true (sym now ∙ ap (λ (o : ℕ → OwnContext). is_finished (o d).stage) same ∙ finished)
  where
    by : (s t : Bool) → (s && t) ≡ true → t ≡ true
    by true true q = refl
    by true false q = absurd (false≢true q)
    by false t q = absurd (false≢true q)

-- THE STEPS

-- without a hand the step of a thread's context isn't looked at
same_free : (w : World) (c : ℕ) (s t : ThreadStep) → (w.carrier c).hand ≡ None →
    carrier_step w c s ≡ carrier_step w c t
same_free w c s t hand = ap (carrier_step_by w c s) hand ∙ sym (ap (carrier_step_by w c t) hand)

-- nor where it is given
given_is : (w : World) (c : ℕ) (x : ContextName) (s : ThreadStep) → (w.carrier c).hand ≡ Some x →
    gives w c (w.carrier c) x ≡ true → carrier_step w c s ≡ given w c x
given_is w c x s hand out = ap (carrier_step_by w c s) hand ∙ ap (hand_step w c x s) out

-- the owner of the ready lock holds it
ready_held : (w : World) → IsGood w → (owner : ContextName) → w.ready_owner ≡ Some owner →
    holds w owner (Some lock.Ready) ≡ true
ready_held w good (OfThread t) e = good.1.ready.thread_is t e
ready_held w good (OfCarrier d) e = good.1.ready.own_is d e

-- A switch that asks for its lock holds none: so its carrier helps nobody for it.
helps_none : (w : World) (c d : ℕ) → IsAsked w c (OfCarrier d) → (w.own d).stage ≡ stage.AcquireReady →
    (help : Help) →
    (w.carrier c).help ≡ Some help → holds w help.context help.lock ≡ true → ⊥
helps_none w c d asked at help e held =
    let k = kept_by w c (OfCarrier d) asked.kept in
    let helped : is_helped (Some help) (OfCarrier d) ≡ true =
    ap (λ (o : Option Help). is_helped o (OfCarrier d)) (sym e) ∙ k.helped (ap is_some e) in
    let same = same_is help.context (OfCarrier d) helped in
    by help.lock (ap (λ (x : ContextName). holds w x help.lock) (sym same) ∙ held)
  where
    none : holds_ready (w.own d).stage ≡ false
    none = ap holds_ready at

    by : (l : Option Lock) → holds w (OfCarrier d) l ≡ true → ⊥
    by None q = false≢true (sym none ∙ q)
    by (Some lock.Table) q = false≢true q
    by (Some (lock.Thread n)) q = false≢true q
    by (Some lock.Ready) q = false≢true (sym none ∙ q)

-- where a switch has to ask for its lock again, that is owned
owned_at : (b : Board) (s : SwitchCall) (p : SwitchAt) (r : Response) → Answers b (switch.ask_of s p) r →
    is_going p ≡ true →
    asks.is_again r ≡ true → (p ≡ switch.AcquireReady) × ((owner : ℕ) × (b.ready ≡ Some owner))
owned_at b s switch.AcquireReady (asks.Owned owner) an going again = (refl, (owner, an))
owned_at b s switch.AcquireReady r an going again =
    again_by (asks.Acquire lock.Ready) r (λ q. Answers b (asks.Acquire lock.Ready) q →
    (switch.AcquireReady ≡ switch.AcquireReady) × ((owner : ℕ) × (b.ready ≡ Some owner)))
    (suits_is b (asks.Acquire lock.Ready) r an) again (λ owner e. (refl, (owner, e))) an
owned_at b s (switch.Locked (locked.LoadGoal goal)) r an going again =
    again_by (asks.Load goal.id.number) r (λ q. (switch.Locked (locked.LoadGoal goal) ≡ switch.AcquireReady)
    × ((owner : ℕ) × (b.ready ≡ Some owner))) (suits_is b (asks.Load goal.id.number) r an) again tt
owned_at b s (switch.Locked (locked.LoadStart back n)) r an going again =
    again_by (asks.Load n) r (λ q. (switch.Locked (locked.LoadStart back n) ≡ switch.AcquireReady)
    × ((owner : ℕ) × (b.ready ≡ Some owner))) (suits_is b (asks.Load n) r an) again tt
owned_at b s (switch.Locked (locked.ReleaseReady back started)) r an going again =
    again_by (asks.Release lock.Ready) r (λ q. (switch.Locked (locked.ReleaseReady back started) ≡
    switch.AcquireReady)
    × ((owner : ℕ) × (b.ready ≡ Some owner))) (suits_is b (asks.Release lock.Ready) r an) again tt
owned_at b s (switch.Returned o) r an going again =
    again_by (asks.Release lock.Ready) r (λ q. (switch.Returned o ≡ switch.AcquireReady)
    × ((owner : ℕ) × (b.ready ≡ Some owner))) (suits_is b (asks.Release lock.Ready) r an) again tt
owned_at b s (switch.Finished o) r an going again = absurd (false≢true going)

-- where a switch stands at its first location
first_stage : (s : SwitchCall) (p : SwitchAt) (own : OwnContext) → IsStage s p own → p ≡ switch.AcquireReady →
    own.stage ≡ stage.AcquireReady
first_stage s p own h e = (subst (λ (q : SwitchAt). IsStage s q own) e h).1

going_has : (s : SwitchCall) (p : SwitchAt) (own : OwnContext) → IsStage s p own → is_going p ≡ true →
    has_switch own.stage ≡ true
going_has s switch.AcquireReady own h e = ap has_switch h.1
going_has s (switch.Locked (locked.LoadGoal goal)) own h e = ap has_switch h.1
going_has s (switch.Locked (locked.LoadStart back n)) own h e = ap has_switch h.1
going_has s (switch.Locked (locked.ReleaseReady back started)) own h e = ap has_switch h.1
going_has s (switch.Returned o) own h e = absurd h
going_has s (switch.Finished o) own h e = absurd (false≢true e)

module _ (g : Programs) (work : Position → ℕ) (b : Board) (w : World) (proper : IsProper g b)
    (h : IsPair g b w) (c : ℕ)
    (low : c < w.carriers) (alone : IsAlone w c) where
  abbrev Lowers : Board → World → Type 0
  Lowers b' v = (room : ℕ) → Falls (work_parts work b w c room (near_of w c)) (work_parts work b' v c room
      (near_of v c))

  -- where the board owes the same
  stays_by : (v : World) → Approaches w v c → Lowers b v
  stays_by v a room = falls_nearer work b b w v c refl refl refl a room

  again_by_turn : (i : ℕ) (b' : Board) (t : Turn g b i b') → is_again g b i b' t ≡ true → (v : World) →
      Approaches w v c →
      Lowers b' v
  again_by_turn i b' t again v a room =
      let l = again_leaves g b i b' t again in
      falls_nearer work b b' w v c l.size (owed_stays b b' (contexts_of b w) l) (steps_stay work b b'
      (contexts_of b w) l) a room

  -- A STEP OF A THREAD'S CONTEXT

  runs_lowers : (i : ℕ) (b' : Board) (found : Finding) (step : ThreadStep) → CountsWork g work →
      IsAsked w c (OfThread i) →
      IsMade b i found → (t : Turn g b i b') → (is_again g b i b' t ≡ true → IsWaiting w c found) →
      turn_point g b i b' t ≡ None → (again : Bool) → is_again g b i b' t ≡ again → IsFound found again step →
      Lowers b' (carrier_step w c step)
  runs_lowers i b' found step counts asked made t waiting silent false again is room =
      steps.runs g work b w proper h c low i b' found step counts asked made t silent again is
      (steps.size_stays g b i b' t)
      room (near_of w c) (near_of (carrier_step w c step) c)
  runs_lowers i b' found step counts asked made t waiting silent true again is room =
      let v = waiting again in
      subst (Lowers b') (sym (stepped v)) (again_by_turn i b' t again
      (with_carrier w c (helping (w.carrier c) v.help.context v.help.lock))
      (vain w c (OfThread i) v.help.context v.help.lock h.world low asked v.held)) room
    where
      stepped : (v : IsWaiting w c found) →
          carrier_step w c step ≡ with_carrier w c (helping (w.carrier c) v.help.context v.help.lock)
      stepped v =
          ap (carrier_step_by w c step) asked.hand ∙ ap (hand_step w c (OfThread i) step) asked.kept
          ∙ ap (after_step w c i) (is ∙ v.waits)

  -- A STEP OF A SWITCH

  switch_lowers : (d : ℕ) (step : ThreadStep) (s : SwitchCall) (p : SwitchAt) (r : Response) →
      IsAsked w c (OfCarrier d) →
      (at : (b.context (b.size + d)).at ≡ InSwitch s p) → (going : is_going p ≡ true) →
      (an : Answers b (switch.ask_of s p) r) → (again : Bool) → asks.is_again r ≡ again →
      Lowers (switch_board b (b.size + d) (b.context (b.size + d)) s p r) (carrier_step w c step)
  switch_lowers d step s p r asked at going an false again room =
      steps.switched g work b w proper h c low d step s p r there asked at going an again room (near_of w c)
      (near_of (carrier_step w c step) c)
    where
      is_stage : IsStage s p (w.own d)
      is_stage = subst (λ (q : At). IsOwn q (w.own d)) at (h.alike.stages d)

      there : d < w.carriers
      there = elim (cases_lt d w.carriers) [
        | inl l ↦ l
        | inr l ↦ absurd (false≢true (sym (h.world.1.runs.beyond d l).0 ∙ going_has s p (w.own d) is_stage
            going))
      ]
  switch_lowers d step s p r asked at going an true again room =
      let o = owned_at b s p r an going again in
      subst (Lowers (switch_board b (b.size + d) (b.context (b.size + d)) s p r))
      (sym (stepped o.0 o.1.0 o.1.1))
      (again_by_turn (b.size + d) (switch_board b (b.size + d) (b.context (b.size + d)) s p r)
      (turns.switches s p r at going an) again (with_carrier w c (helping (w.carrier c) (name_of b.size
      o.1.0) (Some lock.Ready)))
      (vain w c (OfCarrier d) (name_of b.size o.1.0) (Some lock.Ready) h.world low asked (record {
        held = ready_held w h.world (name_of b.size o.1.0) (owner_is o.1.0 o.1.1);
        above = λ help e held. absurd (helps_none w c d asked (first o.0) help e held);
      }))) room
    where
      first : p ≡ switch.AcquireReady → (w.own d).stage ≡ stage.AcquireReady
      first e = first_stage s p (w.own d) (subst (λ (q : At). IsOwn q (w.own d)) at (h.alike.stages d)) e

      owner_is : (owner : ℕ) → b.ready ≡ Some owner → w.ready_owner ≡ Some (name_of b.size owner)
      owner_is owner e = h.alike.agrees.ready ∙ ap (name_by b.size) e

      stepped : p ≡ switch.AcquireReady → (owner : ℕ) → b.ready ≡ Some owner →
          carrier_step w c step ≡ with_carrier w c (helping (w.carrier c) (name_of b.size owner)
          (Some lock.Ready))
      stepped e owner q =
          ap (carrier_step_by w c step) asked.hand ∙ ap (hand_step w c (OfCarrier d) step) asked.kept
          ∙ ap (switch_step w c d) (first e) ∙ ap (acquired_by w c d) (owner_is owner q)

  -- A MOVE THAT IS NO STEP OF A SECTION

  still_own : (v : World) → v.own ≡ w.own → has_switch (w.own c).stage ≡ false → (start : Option ℕ) →
      v ≡ begun_with w c start → ⊥
  still_own v own none start e =
      false≢true (sym none ∙ ap (λ (o : ℕ → OwnContext). has_switch (o c).stage) (sym own)
      ∙ ap (λ (x : World). has_switch (x.own c).stage) e
      ∙ ap (λ (o : OwnContext). has_switch o.stage) (upd_same w.own c (new_switch (w.carrier c) start)))

  still_threads : (v : World) → v.threads ≡ w.threads → (i : ℕ) → w.threads.condition i ≡ Asleep →
      v ≡ taken_asleep w c i → ⊥
  still_threads v threads i asleep e =
      by (sym asleep ∙ ap (λ (t : Threads). t.condition i) (sym threads)
      ∙ ap (λ (x : World). x.threads.condition i) e
      ∙ upd_same w.threads.condition i Awake)
    where
      by : Asleep ≡ Awake → ⊥
      by q = cc

  moved_still : (v : World) → IsStill w v → Moves w v c → Approaches w v c
  moved_still v still (moves.approaches a) = a
  moved_still v still (moves.begins_switch none e) =
      absurd (still_own v still.own none (lowest (w.carrier c).starts 64) e)
  moved_still v still (moves.wakes_goal i asleep e) = absurd (still_threads v still.threads i asleep e)

  still_lowers : (step : ThreadStep) → ((x : ContextName) → IsAsked w c x → ⊥) →
      IsStill w (carrier_step w c FindsTaken) →
      (o : Option ContextName) → (w.carrier c).hand ≡ o → Lowers b (carrier_step w c step)
  still_lowers step nobody still None hand =
      stays_by (carrier_step w c step)
      (moved_still (carrier_step w c step) (subst (IsStill w) (same_free w c FindsTaken step hand) still)
      (free_moves w c step h.world alone low hand))
  still_lowers step nobody still (Some x) hand = by (gives w c (w.carrier c) x) refl
    where
      by_end : gives w c (w.carrier c) x ≡ true → (t : Bool) → has_switched w c x ≡ t →
          Lowers b (carrier_step w c step)
      by_end out true e =
          absurd (ended_own w c x e (ap (λ (v : World). v.own) (sym (given_is w c x FindsTaken hand out))
          ∙ still.own))
      by_end out false e =
          subst (Lowers b) (sym (given_is w c x step hand out))
          (stays_by (given w c x) (given_approaches w c x h.world low hand out e))

      by : (t : Bool) → gives w c (w.carrier c) x ≡ t → Lowers b (carrier_step w c step)
      by true e = by_end e (has_switched w c x) refl
      by false e = absurd (nobody x (record { hand = hand; kept = e }))

-- A switch that is over is ended.
ends_is : (w : World) (c : ℕ) (step : ThreadStep) → (w.carrier c).hand ≡ Some (OfCarrier c) →
    (w.own c).stage ≡ stage.Finished →
    carrier_step w c step ≡ given_own w c c true
ends_is w c step hand finished =
    given_is w c (OfCarrier c) step hand out ∙ ap (given_own w c c) switched
  where
    same : (n : ℕ) → (n == n) ≡ true
    same n = grind (arith, nat_tests)

    both : (m n : Bool) → m ≡ true → n ≡ true → (m && n) ≡ true
    both true n a e = e
    both false n a e = absurd (false≢true a)

    switched : has_switched w c (OfCarrier c) ≡ true
    switched = both (c == c) (is_finished (w.own c).stage) (same c) (ap is_finished finished)

    out : gives w c (w.carrier c) (OfCarrier c) ≡ true
    out = by (w.carrier c).putting (has_switched w c (OfCarrier c)) _ switched
      where
        by : (p m x : Bool) → m ≡ true → (p || (m || x)) ≡ true
        by true m x e = refl
        by false true x e = refl
        by false false x e = absurd (false≢true e)

pub step_lowers : (script : Script) (work : Position → ℕ) (b : Board) (w : World) (entries : List Entry)
    (k : KernelState)
    (c : ℕ) (b' : Board) (step : ThreadStep) → CountsWork (ranged_programs script) work →
    WholeHolds script b w entries k → IsAlone w c →
    c < w.carriers → (s : Step (ranged_programs script) b w c b') →
    IsStepOf (ranged_programs script) b w c b' s step →
    IsSupported (ranged_programs script) b w c b' s → step_point (ranged_programs script) b w c b' s ≡ None →
    is_settled ((carrier_step w c step).carrier c) ≡ false → (room : ℕ) →
    Falls (work_parts work b w c room (near_of w c))
    (work_parts work b' (carrier_step w c step) c room (near_of (carrier_step w c step) c))
step_lowers script work b w es k c _ step counts h alone low (runs i b' found asked wait free t) kind
    support silent alive room =
    runs_lowers (ranged_programs script) work b w h.holds.proper h.pair c low alone i b' found step counts
    asked support.0 t
    support.1 silent (is_again (ranged_programs script) b i b' t) refl kind.0 room
step_lowers script work b w es k c _ step counts h alone low (switches d s p r asked at going an) kind
    support silent alive room =
    switch_lowers (ranged_programs script) work b w h.holds.proper h.pair c low alone d step s p r asked at
    going an
    (asks.is_again r) refl room
step_lowers script work b w es k c _ step counts h alone low (begins_switch s hand took at from) kind
    support silent alive room =
    steps.begun (ranged_programs script) work b w h.holds.proper h.pair c low step s hand
    (same_free w c step FindsTaken hand ∙ took) at from room (near_of w c) (near_of (carrier_step w c step) c)
step_lowers script work b w es k c _ step counts h alone low (ends_switch s o hand at) kind support silent
    alive room =
    let finished = (subst (λ (q : At). IsOwn q (w.own c)) at (h.pair.alike.stages c)).0 in
    let is = ends_is w c step hand finished in
    subst (λ (v : World). Falls (work_parts work b w c room (near_of w c))
    (work_parts work (placed b (b.size + c) (record (b.context (b.size + c)) { at = Resting })) v c room
    (near_of v c)))
    (sym is)
    (ends.ended (ranged_programs script) work b w h.holds.proper h.pair c low s o hand at
    (ap (λ (v : World). is_settled (v.carrier c)) (sym is) ∙ alive) room)
step_lowers script work b w es k c _ step counts h alone low (wakes i hand took inside at) kind support
    silent alive room =
    steps.woken (ranged_programs script) work b w h.holds.proper h.pair c low i step
    (same_free w c step FindsTaken hand ∙ took) inside at room (near_of w c) (near_of (carrier_step w c
    step) c)
step_lowers script work b w es k c _ step counts h alone low (stays nobody still) kind support silent alive
    room =
    still_lowers (ranged_programs script) work b w h.holds.proper h.pair c low alone step nobody still
    (w.carrier c).hand refl room
