-- Each turn of a switch is the step of its stage.
use Rattle.std.specs.Prelude.{◌-◌, ◌==◌, ◌&&◌, drop, is_some, nat_lt}
use Rattle.std.proofs.Common.{◌≡◌, ℕ, ◌+◌, ◌<◌, Bool, true, false, cond, refl, sym, ap, ◌∙◌}
use Rattle.std.proofs.Common.{subst, Option, Some, None, List, [], ◌∷◌, length, not, arith}
use Rattle.std.proofs.lemmas.Bool.Decides.{nat_tests}
use Rattle.std.proofs.lemmas.List.{length-set}
use Rattle.k_ids.specs.declared.threads.ThreadId.{ThreadId}
use Rattle.k_ids.specs.declared.state_word.StateWord.{StateWord}
use Rattle.k_model.specs.Maps.{lowest, upd}
use Rattle.k_model.proofs.Maps.{upd_same, upd_cases}
use Rattle.k_ready.specs.Lists.{Ready, list_of}
use Rattle.k_ready.specs.Popped.{Level, highest, without_level}
use Rattle.k_ready.proofs.Changed.{list_changed}
use Rattle.k_locks.specs.Shown.{is_dead}
use Rattle.k_locks.specs.Asks.{Response}
use Rattle.k_locks.specs.Asks as asks
use Rattle.k_switch.specs.declared.goal.Goal.{Goal}
use Rattle.k_switch.specs.declared.goal.Switched.{Switched}
use Rattle.k_switch.specs.declared.switch.SwitchCall.{SwitchCall}
use Rattle.k_switch.specs.declared.switch.SwitchLocked.TheVariants as locked
use Rattle.k_switch.specs.Switches.{SwitchAt, first_of_number, shown_on}
use Rattle.k_switch.specs.Switches as switch
use Rattle.k_board.specs.Words.{Seen}
use Rattle.k_board.specs.Boards.{At, Board, Context, InSwitch, Resting, hand_of}
use Rattle.k_board.specs.Steps.{Answers, placed, switch_board, switch_context}
use Rattle.k_board.specs.Turns.{is_going}
use Rattle.k_tokens.specs.Maps.{is_filled, one_if}
use Rattle.k_tokens.specs.World.{OfCarrier, OwnContext, Stage, Threads, World, is_finished, is_present}
use Rattle.k_tokens.specs.World as stage
use Rattle.k_tokens.specs.Good.{Holder, Parts, knows_goal, knows_start}
use Rattle.k_switching.specs.Rules.{begun_with, given, given_own, has_switched, new_switch}
use Rattle.k_switching.specs.Switch.{before_take, first_taken, first_taken_by, first_taken_of, goal_loaded, highest_filled}
use Rattle.k_switching.specs.Switch.{ready_acquired, ready_released, start_loaded, switch_step, with_own}
use Rattle.k_switching.specs.Switch as steps
use Rattle.k_switching.proofs.Highest.{highest_is}
use Rattle.k_grants.specs.Views.{Look, PrioritiesAre, sight_of, look_at, looks_of, name_by, name_of, plain, sights_of, threads_by}
use Rattle.k_grants.specs.Granted.{Agrees}
use Rattle.k_stages.specs.Stages.{IsCall, IsFrom, IsOwn, IsStage, goal_by, id_in, start_by}
use Rattle.k_stages.proofs.Filling.{IsLow, filled_is, filled_running, filled_size, highest_by, level_by, level_in}

-- After the turn of carrier `d`'s own context, of number `i`, board and world agree, and the location is the stage.
pub record IsStep (b' : Board) (w : World) (d i : ℕ) : Type 0 where
  pub agrees : Agrees b' w
  pub own : IsOwn (b'.context i).at (w.own d)

-- the name of a carrier's own context
pub own_name : (size d : ℕ) → name_of size (size + d) ≡ OfCarrier d
own_name size d = by (nat_lt (size + d) size) (past size d)
  where
    past : (size d : ℕ) → nat_lt (size + d) size ≡ false
    past size d = grind (arith, nat_tests)

    by : (v : Bool) → v ≡ false → cond v (stage.OfThread (size + d)) (OfCarrier ((size + d) - size)) ≡ OfCarrier d
    by true e = absurd cc
    by false e = ap OfCarrier (minus size d)
      where
        minus : (size d : ℕ) → (size + d) - size ≡ d
        minus size d = omega arith

-- A context that is about nothing, and comes to be about nothing else.
looks_kept : (b : Board) (i : ℕ) (x : Context) → look_at x.at ≡ looks_of b i →
    ◌≡◌ {A = ℕ → Look} (λ t. look_at (upd b.context i x t).at) (looks_of b)
looks_kept b i x e =
    λ z t. (upd_cases (λ (y : Context). look_at y.at ≡ looks_of b t) b.context i x t (λ d. e ∙ ap (looks_of b) (sym d))
    (λ d. refl)) z

module _ (b : Board) (w : World) (d : ℕ) (a : Agrees b w) where
  abbrev i : ℕ
  i = b.size + d

  stands : (f : ℕ → Context) (x : Context) (own : OwnContext) → IsOwn x.at own → IsOwn (upd f i x i).at own
  stands f x own h = subst (λ (y : Context). IsOwn y.at own) (sym (upd_same f i x)) h

  -- the world after a stage: threads as they were
  agrees_by : (b' : Board) (x : Context) (v : World) → b'.size ≡ b.size → b'.seen ≡ b.seen → b'.table ≡ b.table →
      b'.context ≡ upd b.context i x → look_at x.at ≡ looks_of b i
      → v.threads ≡ w.threads → v.ready_owner ≡ name_by b'.size b'.ready → v.lists ≡ list_of b'.lists.lists →
      length b'.lists.lists ≡ 64 → v.running ≡ b'.lists.running → Agrees b' v
  agrees_by b' x v z s t c e h r l n k = record {
    threads = h ∙ a.threads ∙ (λ y. threads_by (before y) (λ n. sight_of (sym s y n).word) (looks y) (sym t y));
    priorities =
        subst (λ (y : ℕ → ℕ). PrioritiesAre y (sights_of b')) before
        (subst (λ (f : ℕ → Seen). PrioritiesAre w.threads.priority (λ n. sight_of (f n).word)) (sym s) a.priorities);
    ready = r;
    lists = l;
    whole = n;
    running = k;
  }
    where
      before : w.threads.priority ≡ v.threads.priority
      before = sym (ap (λ (x : Threads). x.priority) h)

      looks : looks_of b ≡ looks_of b'
      looks = sym (looks_kept b i x e) ∙ (λ u t. look_at ((sym c) u t).at)

  -- where the ready lock is as it was
  idle_step : (x : Context) (v : World) (at : At) → (b.context i).at ≡ at → look_at at ≡ plain stage.Absent →
      look_at x.at ≡ plain stage.Absent → v.threads ≡ w.threads → v.ready_owner ≡ w.ready_owner
      → v.lists ≡ w.lists → v.running ≡ w.running → Agrees (placed b i x) v
  idle_step x v at is o n h r l k =
      agrees_by (placed b i x) x v refl refl refl refl (n ∙ sym (ap look_at is ∙ o)) h (r ∙ a.ready) (l ∙ a.lists) a.whole
      (k ∙ a.running)

  module _ (c : SwitchCall) where
    pub begins_stage : (b.context i).at ≡ Resting → IsFrom c (w.carrier d) (lowest (w.carrier d).starts 64)
        → IsStep (placed b i (record (b.context i) { at = InSwitch c switch.AcquireReady }))
        (begun_with w d (lowest (w.carrier d).starts 64)) d i
    begins_stage at h = record {
      agrees =
          idle_step (record (b.context i) { at = InSwitch c switch.AcquireReady }) _ Resting at refl refl refl refl refl refl;
      own =
          stands b.context (record (b.context i) { at = InSwitch c switch.AcquireReady }) _
          (subst (IsStage c switch.AcquireReady) (sym (upd_same w.own d
          (new_switch (w.carrier d) (lowest (w.carrier d).starts 64))))
          (record { goal = sym h.goal; counted = sym h.counted; slice = sym h.slice; start = sym h.start }, refl));
    }

    pub ends_stage : (s : Switched) → (b.context i).at ≡ InSwitch c (switch.Finished s) → IsStage c (switch.Finished s) (w.own d)
        → IsStep (placed b i (record (b.context i) { at = Resting })) (given w d (OfCarrier d)) d i
    ends_stage s at h =
        subst (λ (v : World). IsStep (placed b i (record (b.context i) { at = Resting })) v d i)
        (sym (ap (given_own w d d) finished)) record {
          agrees =
              idle_step (record (b.context i) { at = Resting }) (given_own w d d true)
              (InSwitch c (switch.Finished s)) at refl refl refl refl refl refl;
          own =
              stands b.context (record (b.context i) { at = Resting }) _
              (ap (λ (o : OwnContext). o.stage) (upd_same w.own d (record (w.own d) { stage = stage.NoSwitch })));
        }
      where
        finished : has_switched w d (OfCarrier d) ≡ true
        finished = by d (is_finished (w.own d).stage) (ap is_finished h.0)
          where
            by : (n : ℕ) (v : Bool) → v ≡ true → (n == n && v) ≡ true
            by n v e = grind (arith, nat_tests, e)

  -- the words that a switch loads
  pub shown_same : (who : ThreadId) (v : StateWord) → (b.seen who.number).word ≡ v →
      shown_on who v ≡ goal_by (Some who) (steps.shown_on w.threads who)
  shown_same who v is = subst (λ (x : StateWord). shown_on who x ≡ goal_by (Some who) (steps.shown_on w.threads who)) is
      (by ((b.seen who.number).word.version == who.version) (not (is_dead (b.seen who.number).word))
      (b.seen who.number).word.on refl refl refl)
    where
      shows : is_present w.threads who ≡ (not (is_dead (b.seen who.number).word) && ((b.seen who.number).word.version ==
          who.version))
      shows = ap (λ (x : Threads). is_present x who) a.threads

      on : w.threads.on who.number ≡ (b.seen who.number).word.on
      on = ap (λ (x : Threads). x.on who.number) a.threads

      shown_by : (m n o : Bool) → (not (is_dead (b.seen who.number).word) ≡ n) →
          (((b.seen who.number).word.version == who.version) ≡ m) → ((b.seen who.number).word.on ≡ o)
          → steps.shown_on w.threads who ≡ cond ((n && m) && o) (Some (w.threads.priority who.number)) None
      shown_by m n o x y z = λ u. cond ((shows ∙ (λ j. x j && y j)) u && (on ∙ z) u) (Some (w.threads.priority who.number)) None

      told_by : (m n o : Bool) → (((b.seen who.number).word.version == who.version) ≡ m) →
          (not (is_dead (b.seen who.number).word) ≡ n) → ((b.seen who.number).word.on ≡ o)
          → shown_on who (b.seen who.number).word ≡ cond ((m && n) && o)
          (Some (record { id = who; priority = (b.seen who.number).word.priority })) None
      told_by m n o x y z =
          λ u. cond ((x u && y u) && z u) (Some (record { id = who; priority = (b.seen who.number).word.priority })) None

      by : (m n o : Bool) → ((b.seen who.number).word.version == who.version) ≡ m → not (is_dead (b.seen who.number).word) ≡ n →
          (b.seen who.number).word.on ≡ o
          → shown_on who (b.seen who.number).word ≡ goal_by (Some who) (steps.shown_on w.threads who)
      by true true true x y z =
          told_by true true true x y z ∙ (λ u. Some (record { id = who; priority = sym (a.priorities who.number y) u }))
          ∙ sym (ap (goal_by (Some who)) (shown_by true true true y x z))
      by true true false x y z = told_by true true false x y z ∙ sym (ap (goal_by (Some who)) (shown_by true true false y x z))
      by true false o x y z = told_by true false o x y z ∙ sym (ap (goal_by (Some who)) (shown_by true false o y x z))
      by false true o x y z = told_by false true o x y z ∙ sym (ap (goal_by (Some who)) (shown_by false true o y x z))
      by false false o x y z = told_by false false o x y z ∙ sym (ap (goal_by (Some who)) (shown_by false false o y x z))

  module _ (runner : ℕ) (holder : ThreadId → Holder) (parts : Parts w holder) (c : SwitchCall) where
    abbrev After : SwitchAt → Response → Board
    After p r = switch_board b i (b.context i) c p r

    abbrev Stood : SwitchAt → Response → Type 0
    Stood p r = IsStep (After p r) (switch_step w runner d (w.own d).stage) d i

    -- a stage that leaves all but the carrier's own context
    own_step : (p : SwitchAt) (r : Response) (own : OwnContext) (o : Stage) → (b.context i).at ≡ InSwitch c p →
        (w.own d).stage ≡ o → switch_step w runner d o ≡ with_own w d own
        → (After p r).table ≡ b.table → (After p r).ready ≡ b.ready → (After p r).lists ≡ b.lists →
        IsStage c (switch.leads c (hand_of b []) p r) own → Stood p r
    own_step p r own o at e s t y l h =
        subst (λ (v : World). IsStep (After p r) v d i) (sym (ap (switch_step w runner d) e ∙ s)) record {
          agrees =
              agrees_by (After p r) (switch_context (b.context i) c p r (hand_of b [])) (with_own w d own) refl refl t refl
              (sym (ap look_at at)) refl
              (a.ready ∙ ap (name_by b.size) (sym y)) (a.lists ∙ ap (λ (x : Ready). list_of x.lists) (sym l))
              (ap (λ (x : Ready). length x.lists) l ∙ a.whole) (a.running ∙ ap (λ (x : Ready). x.running) (sym l));
          own =
              stands b.context (switch_context (b.context i) c p r (hand_of b [])) _
              (subst (λ (x : OwnContext). IsStage c (switch.leads c (hand_of b []) p r) x) (sym (upd_same w.own d own)) h);
        }

    start_stage : (start : Option ℕ) (back : Option Goal) (own : OwnContext) → IsCall c own → c.start ≡ start →
        own.stage ≡ cond (is_some own.start) stage.LoadStart stage.ReleaseReady
        → back ≡ goal_by own.goal own.goal_seen → IsStage c (switch.Locked (switch.to_start start back)) own
    start_stage (Some n) back own h e s k =
        (h, s ∙ ap (λ (o : Option ℕ). cond (is_some o) stage.LoadStart stage.ReleaseReady) (h.start ∙ e), e, k)
    start_stage None back own h e s k = (
      h,
      s ∙ ap (λ (o : Option ℕ). cond (is_some o) stage.LoadStart stage.ReleaseReady) (h.start ∙ e),
      k,
      sym (ap (λ (o : Option ℕ). start_by o own.start_seen) (h.start ∙ e)),
    )

    goal_stage : (goal : Option Goal) (own : OwnContext) → IsCall c own → c.goal ≡ goal →
        own.stage ≡ cond (is_some own.goal) stage.LoadGoal (cond (is_some own.start) stage.LoadStart stage.ReleaseReady)
        → IsStage c (switch.Locked (switch.to_goal c.start goal)) own
    goal_stage (Some g) own h e s = (
      h,
      s ∙ ap (λ (o : Option ThreadId). cond (is_some o) stage.LoadGoal
          (cond (is_some own.start) stage.LoadStart stage.ReleaseReady)) (h.goal ∙ ap id_in e),
      e,
    )
    goal_stage None own h e s = start_stage c.start None own h refl
        (s ∙ ap (λ (o : Option ThreadId). cond (is_some o) stage.LoadGoal
        (cond (is_some own.start) stage.LoadStart stage.ReleaseReady)) (h.goal ∙ ap id_in e))
        (sym (ap (λ (o : Option ThreadId). goal_by o own.goal_seen) (h.goal ∙ ap id_in e)))

    got_ready : (b.context i).at ≡ InSwitch c switch.AcquireReady → IsStage c switch.AcquireReady (w.own d) → b.ready ≡ None →
        Stood switch.AcquireReady asks.Got
    got_ready at h free =
        subst (λ (v : World). IsStep (After switch.AcquireReady asks.Got) v d i)
        (sym (ap (switch_step w runner d) h.1 ∙ ap (steps.acquired_by w runner d) (a.ready ∙ ap (name_by b.size) free))) record {
          agrees =
              agrees_by (After switch.AcquireReady asks.Got) (switch_context (b.context i) c switch.AcquireReady asks.Got
              (hand_of b [])) (ready_acquired w d) refl refl refl refl (sym (ap look_at at)) refl
              (sym (ap Some (own_name b.size d))) a.lists a.whole a.running;
          own = stands b.context (switch_context (b.context i) c switch.AcquireReady asks.Got (hand_of b [])) _
              (subst (λ (x : OwnContext). IsStage c (switch.Locked (switch.to_goal c.start c.goal)) x)
              (sym (upd_same w.own d (steps.got_lists (w.own d))))
              (goal_stage c.goal (steps.got_lists (w.own d)) record {
                goal = h.0.goal;
                counted = h.0.counted;
                slice = h.0.slice;
                start = h.0.start;
              } refl refl));
        }

    owned_ready : (o : ℕ) → (b.context i).at ≡ InSwitch c switch.AcquireReady → IsStage c switch.AcquireReady (w.own d) →
        b.ready ≡ Some o → Stood switch.AcquireReady (asks.Owned o)
    owned_ready o at h taken =
        subst (λ (v : World). IsStep (After switch.AcquireReady (asks.Owned o)) v d i)
        (sym (ap (switch_step w runner d) h.1 ∙ ap (steps.acquired_by w runner d) (a.ready ∙ ap (name_by b.size) taken))) record {
          agrees =
              agrees_by (After switch.AcquireReady (asks.Owned o))
              (switch_context (b.context i) c switch.AcquireReady (asks.Owned o) (hand_of b []))
              (steps.acquired_by w runner d (Some (name_of b.size o))) refl refl refl refl (sym (ap look_at at)) refl
              a.ready a.lists a.whole a.running;
          own = stands b.context (switch_context (b.context i) c switch.AcquireReady (asks.Owned o) (hand_of b [])) _ h;
        }

    goal_turn : (goal : Goal) (v : StateWord) → (b.context i).at ≡ InSwitch c (switch.Locked (locked.LoadGoal goal)) →
        IsStage c (switch.Locked (locked.LoadGoal goal)) (w.own d) → (b.seen goal.id.number).word ≡ v
        → Stood (switch.Locked (locked.LoadGoal goal)) (asks.Word v)
    goal_turn goal v at h is =
        own_step (switch.Locked (locked.LoadGoal goal)) (asks.Word v)
        (steps.saw_goal w.threads (w.own d)) stage.LoadGoal at h.1 refl refl refl refl
        (start_stage c.start (shown_on goal.id v) (steps.saw_goal w.threads (w.own d)) record {
          goal = h.0.goal;
          counted = h.0.counted;
          slice = h.0.slice;
          start = h.0.start;
        } refl refl
        (shown_same goal.id v is ∙ ap (λ (o : Option ThreadId). goal_by o (steps.goal_shown w.threads o))
        (sym (h.0.goal ∙ ap id_in h.2))))

    start_turn : (back : Option Goal) (n : ℕ) (v : StateWord) →
        (b.context i).at ≡ InSwitch c (switch.Locked (locked.LoadStart back n)) →
        IsStage c (switch.Locked (locked.LoadStart back n)) (w.own d) → (b.seen n).word ≡ v
        → Stood (switch.Locked (locked.LoadStart back n)) (asks.Word v)
    start_turn back n v at h is =
        own_step (switch.Locked (locked.LoadStart back n)) (asks.Word v)
        (steps.saw_start w.threads (w.own d)) stage.LoadStart at h.1 refl refl refl refl (
          record { goal = h.0.goal; counted = h.0.counted; slice = h.0.slice; start = h.0.start },
          refl,
          h.3,
          shown_same (first_of_number n) v is ∙ started (steps.shown_on w.threads (first_of_number n))
              ∙ ap (λ (o : Option ℕ). start_by o (steps.start_shown w.threads o)) (sym (h.0.start ∙ h.2)),
        )
      where
        started : (o : Option ℕ) → goal_by (Some (first_of_number n)) o ≡ start_by (Some n) o
        started None = refl
        started (Some p) = refl

    -- THE RELEASE

    module _ (back started : Option Goal) (at : (b.context i).at ≡ InSwitch c (switch.Locked (locked.ReleaseReady back started)))
        (h : IsStage c (switch.Locked (locked.ReleaseReady back started)) (w.own d)) where
      abbrev own : OwnContext
      own = w.own d

      abbrev full : Ready
      full = switch.filled c (goal_by own.goal own.goal_seen) (start_by own.start own.start_seen) b.lists

      low : (who : ThreadId) → own.goal ≡ Some who → IsLow own.goal_seen
      low who e p s = (((parts.switches d).goal who (ap knows_goal h.1) e).shown p s).0

      few : (n : ℕ) → own.start ≡ Some n → IsLow own.start_seen
      few n e p s = (((parts.switches d).start n (ap knows_start h.1) e).shown p s).0

      -- before a thread is taken
      own_before : (before_take w d).own d ≡ steps.count_out (steps.start_out (steps.goal_out own))
      own_before =
          upd_same (steps.start_entered (steps.goal_back (steps.ready_free w) d) d).own d _
          ∙ ap steps.count_out (upd_same (steps.goal_back (steps.ready_free w) d).own d _
          ∙ ap steps.start_out (upd_same w.own d _))

      lists_before : (before_take w d).lists ≡ list_of full.lists
      lists_before =
          ap (λ (o : OwnContext). steps.entered
          (steps.put_back w.lists own.goal own.goal_seen own.slice_ended) o.start o.start_seen)
          (upd_same w.own d (steps.goal_out own))
          ∙ (λ z. steps.entered (steps.put_back (a.lists z) own.goal own.goal_seen (h.0.slice z)) own.start own.start_seen)
          ∙ sym (filled_is c own.goal own.start own.goal_seen own.start_seen b.lists a.whole low few)

      running_before : (before_take w d).running ≡ full.running
      running_before =
          ap (λ (o : OwnContext). w.running - one_if o.counted)
          (upd_same (steps.goal_back (steps.ready_free w) d).own d _ ∙ ap steps.start_out (upd_same w.own d (steps.goal_out own)))
          ∙ (λ z. a.running z - one_if (h.0.counted z)) ∙ sym
          (filled_running c own.goal own.start own.goal_seen own.start_seen b.lists a.whole low few)

      size : length full.lists ≡ 64
      size = filled_size c own.goal own.start own.goal_seen own.start_seen b.lists a.whole low few

      full_is : switch.filled c back started b.lists ≡ full
      full_is = λ z. switch.filled c (h.2 z) (h.3 z) b.lists

      abbrev p : SwitchAt
      p = switch.Locked (locked.ReleaseReady back started)

      abbrev b' : Board
      b' = After p asks.Released

      abbrev x : Context
      x = switch_context (b.context i) c p asks.Released (hand_of b [])

      -- what is left and taken, by the highest thread
      released_by : (v : World) (l : Option Level) → highest full ≡ l → v.threads ≡ w.threads → v.ready_owner ≡ None
          → v.lists ≡ list_of (switch.counted (is_some l) (without_level full l)).lists →
          length (switch.counted (is_some l) (without_level full l)).lists ≡ 64
          → v.running ≡ (switch.counted (is_some l) (without_level full l)).running
          → IsStage c (switch.Finished (record { goal = switch.goal_at l; idle = not (is_some l) && (full.running == 0) }))
          (v.own d) → IsStep b' v d i
      released_by v l e t r y n k o = record {
        agrees =
            agrees_by b' x v refl refl refl refl (sym (ap look_at at)) t r (y ∙ ap (λ (z : Ready). list_of z.lists) (sym left))
            (ap (λ (z : Ready). length z.lists) left ∙ n) (k ∙ ap (λ (z : Ready). z.running) (sym left));
        own = stands b.context x _ (subst (λ (s : Switched). IsStage c (switch.Finished s) (v.own d)) (sym came) o);
      }
        where
          left : b'.lists ≡ switch.counted (is_some l) (without_level full l)
          left = ap switch.taken full_is ∙ ap (λ (z : Option Level). switch.counted (is_some z) (without_level full z)) e

          came : switch.switched_by (switch.filled c back started b.lists) ≡
              record { goal = switch.goal_at l; idle = not (is_some l) && (full.running == 0) }
          came =
              ap switch.switched_by full_is ∙ (λ z. record {
                goal = switch.goal_at (e z);
                idle = not (is_some (e z)) && (full.running == 0);
              })

      highest_now : (o : Option ℕ) → highest_filled 64 (before_take w d).lists ≡ o →
          highest full ≡ level_by (list_of full.lists) o
      highest_now o e =
          highest_by 64 full.lists ∙ ap (level_by (list_of full.lists)) (ap (highest_filled 64) (sym lists_before) ∙ e)

      none_taken : highest_filled 64 (before_take w d).lists ≡ None → IsStep b' (first_taken_by (before_take w d) d None) d i
      none_taken e =
          released_by (first_taken_by (before_take w d) d None) None
          (highest_now None e) refl refl lists_before size running_before
          (subst (λ (o : OwnContext). IsStage c (switch.Finished (record { goal = None; idle = (full.running == 0) })) o)
          (sym (upd_same (before_take w d).own d _)) (
            refl,
            ap (λ (o : OwnContext). o.goal) own_before,
            ap (λ (o : OwnContext). o.counted) own_before,
            ap (λ (n : ℕ). n == 0) running_before,
          ))

      one_taken : (n : ℕ) → highest_filled 64 (before_take w d).lists ≡ Some n → (es : List ThreadId) →
          (before_take w d).lists n ≡ es → IsStep b' (first_taken_of (before_take w d) d n es) d i
      one_taken n e [] f =
          absurd (let z : true ≡ false = sym (highest_is 64 (before_take w d).lists n e).0 ∙ ap is_filled f in cc)
      one_taken n e (who ∷ more) f =
          released_by (first_taken_of (before_take w d) d n (who ∷ more)) (Some (record { id = who; priority = n }))
          (highest_now (Some n) e ∙ ap (λ (l : List ThreadId). level_in l n) first) refl refl
          (ap (λ (m : ℕ → List ThreadId). upd m n more) lists_before
          ∙ sym (list_changed full n (drop 1 (list_of full.lists n))
          (subst (λ (k : ℕ). n < k) (sym size) (highest_is 64 (before_take w d).lists n e).1)
          ∙ ap (λ (l : List ThreadId). upd (list_of full.lists) n (drop 1 l)) first))
          (length-set full.lists n (drop 1 (list_of full.lists n)) ∙ size) (ap (λ (m : ℕ). m + 1) running_before)
          (subst (λ (o : OwnContext). IsStage c (switch.Finished
          (record { goal = Some (record { id = who; priority = n }); idle = false })) o)
          (sym (upd_same (before_take w d).own d _)) (refl, refl, refl, refl))
        where
          first : list_of full.lists n ≡ who ∷ more
          first = ap (λ (m : ℕ → List ThreadId). m n) (sym lists_before) ∙ f

      released : Stood p asks.Released
      released =
          subst (λ (v : World). IsStep b' v d i) (sym (ap (switch_step w runner d) h.1))
          (by (highest_filled 64 (before_take w d).lists) refl)
        where
          by : (o : Option ℕ) → highest_filled 64 (before_take w d).lists ≡ o → IsStep b' (first_taken (before_take w d) d) d i
          by None e = subst (λ (z : Option ℕ). IsStep b' (first_taken_by (before_take w d) d z) d i) (sym e) (none_taken e)
          by (Some n) e =
              subst (λ (z : Option ℕ). IsStep b' (first_taken_by (before_take w d) d z) d i) (sym e)
              (one_taken n e ((before_take w d).lists n) refl)

    pub stage_turns : (p : SwitchAt) (r : Response) → (b.context i).at ≡ InSwitch c p → IsStage c p (w.own d) →
        is_going p ≡ true → Answers b (switch.ask_of c p) r → Stood p r
    stage_turns switch.AcquireReady asks.Got at h going an = got_ready at h an
    stage_turns switch.AcquireReady (asks.Owned o) at h going an = owned_ready o at h an
    stage_turns (switch.Locked (locked.LoadGoal goal)) (asks.Word v) at h going an = goal_turn goal v at h an
    stage_turns (switch.Locked (locked.LoadStart back n)) (asks.Word v) at h going an = start_turn back n v at h an
    stage_turns (switch.Locked (locked.ReleaseReady back started)) asks.Released at h going an = released back started at h
    stage_turns (switch.Returned s) r at h going an = absurd h
    stage_turns (switch.Finished s) r at h going an = absurd (let z : false ≡ true = going in cc)
    stage_turns p r at h going an = absurd an
