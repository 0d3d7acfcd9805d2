-- A switch that is about to release the ready lock can put the thread that ran, and the one that is started, into their lists.
use Rattle.std.proofs.Common.{◌≡◌, ◌≢◌, ◌≤◌, ◌<◌, ℕ, ◌+◌, Bool, true, false, ◌||◌, refl, sym, ap, ◌∙◌, subst, arith}
use Rattle.std.proofs.Common.{inl, inr, Option, Some, None, IfSome, List, [], ◌∷◌, ◌++◌, length}
use Rattle.std.proofs.lemmas.Bool.Decides.{eqb_tells, leb_tells}
use Rattle.std.proofs.lemmas.Bool.{false≢true}
use Rattle.std.specs.Prelude.{◌==◌, if◌then◌else◌, suc, zero}
use Rattle.k_ids.specs.declared.threads.ThreadId.{ThreadId}
use Rattle.k_model.specs.Maps.{count}
use Rattle.k_model.specs.State.{KernelState}
use Rattle.k_model.proofs.Maps.{upd_cases}
use Rattle.k_links.proofs.Appended.{stands_append}
use Rattle.k_ready.specs.Lists.{IsInNone, Ready, list_of, number_of, stands, with_list}
use Rattle.k_ready.proofs.Changed.{list_changed}
use Rattle.k_script.specs.Script.{Script}
use Rattle.k_switch.specs.declared.goal.Goal.{Goal}
use Rattle.k_switch.specs.declared.switch.Switch.{Switch}
use Rattle.k_switch.specs.declared.switch.SwitchCall.{SwitchCall}
use Rattle.k_switch.specs.declared.switch.SwitchLocation.{SwitchLocation}
use Rattle.k_switch.specs.declared.switch.SwitchLocation.TheVariants as location
use Rattle.k_switch.specs.declared.switch.SwitchLocked.TheVariants as locked
use Rattle.k_switch.specs.Switches.{CanFill, IsGoal, IsSoundAt, at_of, can_ask, hand_of, put_back, uncounted}
use Rattle.k_switch.specs.Switches as switch
use Rattle.k_world.specs.Worlds.{World}
use Rattle.k_board.specs.Boards.{Board, InSwitch}
use Rattle.k_good.specs.Locks.{locks_at}
use Rattle.k_locks.specs.Hands.{Hand}
use Rattle.k_places.specs.Contexts.{held_on}
use Rattle.k_tokens.specs.Good.{GoalOf, Holder, IsListable, Parts, ReadyList, SwitchOf, counted_in, knows_goal, knows_start}
use Rattle.k_tokens.specs.Maps.{id_at, one_if}
use Rattle.k_tokens.specs.World.{OwnContext, Stage, has_switch, is_counted, is_open}
use Rattle.k_tokens.specs.World as tokens
use Rattle.k_tokens.proofs.Basics.{count_has, same_is}
use Rattle.k_moves.specs.Views.{ShowsAt, ShowsCall, ShowsOwn, first_by, stage_of, told_goal}
use Rattle.k_handling.specs.Handling.{IsKernel}
use Rattle.k_conditions.proofs.Lists.{in_none, is_last}

-- WHO IS PUT BACK

count_few : (f : ℕ → Bool) (n : ℕ) → count f n ≤ n
count_few f zero = omega arith
count_few f (suc n) = let m = count_few f n in by (f n) m
  where
    by : (t : Bool) → count f n ≤ n → count f n + (if t then 1 else 0) ≤ suc n
    by true m = omega (arith, m)
    by false m = omega (arith, m)

-- a list of a priority with one thread of another number more
more_none : (n : ℕ) (r : Ready) (p : ℕ) (es : List ThreadId) → p < length r.lists → stands n es ≡ false →
    IsInNone n r.lists → IsInNone n (with_list r p es).lists
more_none n r p es low fresh none q =
    ap (λ (f : ℕ → List ThreadId). stands n (f q)) (list_changed r p es low)
    ∙ upd_cases (λ (l : List ThreadId). stands n l ≡ false) (list_of r.lists) p es q (λ e. fresh)
    (λ e. none q)

or_false : (a b : Bool) → a ≡ false → b ≡ false → (a || b) ≡ false
or_false true b e f = absurd (false≢true (sym e))
or_false false b e f = f

other_number : (a n : ℕ) → a ≢ n → (a == n) ≡ false
other_number a n ne = elim (eqb_tells a n) [
  | inl e ↦ absurd (ne e.1)
  | inr e ↦ e.0
]

put_back_none : (n : ℕ) (ended : Bool) (put : Option Goal) (r : Ready) → length r.lists ≡ 64 →
    IfSome put IsGoal → IfSome put (λ g. g.id.number ≢ n) → IsInNone n r.lists →
    IsInNone n (put_back ended put r).lists
put_back_none n ended None r whole goal other none = none
put_back_none n false (Some g) r whole goal other none =
    more_none n r g.priority (g.id ∷ list_of r.lists g.priority) (let low = goal.priority in
    omega (arith, low, whole))
    (or_false (g.id.number == n) (stands n (list_of r.lists g.priority)) (other_number g.id.number n other)
    (none g.priority)) none
put_back_none n true (Some g) r whole goal other none =
    more_none n r g.priority (list_of r.lists g.priority ++ g.id ∷ []) (let low = goal.priority in
    omega (arith, low, whole))
    (stands_append number_of n (list_of r.lists g.priority) g.id
    ∙ or_false (stands n (list_of r.lists g.priority)) (g.id.number == n) (none g.priority)
    (other_number g.id.number n other)) none

uncounted_lists : (c : Bool) (r : Ready) → (uncounted c r).lists ≡ r.lists
uncounted_lists true r = refl
uncounted_lists false r = refl

-- WHAT A SWITCH KNOWS

pub told_is : (who : Option ThreadId) (seen : Option ℕ) (g : Goal) → told_goal who seen ≡ Some g →
    (who ≡ Some g.id) × (seen ≡ Some g.priority)
told_is None seen g e = absurd cc
told_is (Some id) None g e = absurd cc
told_is (Some id) (Some p) g e = let z : record { id = id; priority = p } ≡ g = cc in
    (ap (λ (x : Goal). Some x.id) z, ap (λ (x : Goal). Some x.priority) z)

pub first_is : (start : Option ℕ) (g : Goal) → first_by start ≡ Some g.id →
    (start ≡ Some g.id.number) × (g.id ≡ id_at g.id.number 1)
first_is None g e = absurd cc
first_is (Some number) g e = let z : id_at number 1 ≡ g.id = cc in
    (ap (λ (x : ThreadId). Some x.number) z, sym z ∙ ap (λ (x : ThreadId). id_at x.number 1) z)

module _ (script : Script) (w : World) (b : Board) (view : tokens.World) (state : KernelState)
    (h : IsKernel script w b view state) (d : ℕ) where
  abbrev Own : OwnContext
  Own = view.own d

  abbrev holder : ThreadId → Holder
  holder = h.whole.pair.world.0

  parts : Parts view holder
  parts = h.whole.pair.world.1

  -- the thread that ran
  goal_none : (g : Goal) → Own.stage ≡ tokens.ReleaseReady → told_goal Own.goal Own.goal_seen ≡ Some g →
      (view.threads.version g.id.number ≡ g.id.version) × (holder g.id ≡ GoalOf d)
  goal_none g stage e =
      let told = told_is Own.goal Own.goal_seen g e in
      let knows = (parts.switches d).goal g.id (ap knows_goal stage) told.0 in
      let has : (if has_switch Own.stage then Own.goal else (view.carrier d).goal) ≡ Some g.id =
      ap (λ (s : Stage). if has_switch s then Own.goal else (view.carrier d).goal) stage ∙ told.0 in
      (is_last view holder parts g.id (knows.shown g.priority told.1).1, parts.tokens.goal d g.id has)

  -- the thread that is started
  start_none : (g : Goal) → Own.stage ≡ tokens.ReleaseReady →
      told_goal (first_by Own.start) Own.start_seen ≡ Some g →
      (view.threads.version g.id.number ≡ g.id.version) × (holder g.id ≡ SwitchOf d)
  start_none g stage e =
      let told = told_is (first_by Own.start) Own.start_seen g e in
      let first = first_is Own.start g told.0 in
      let knows = (parts.switches d).start g.id.number (ap knows_start stage) first.0 in
      let has : (if is_open Own.stage then Own.start else None) ≡ Some g.id.number =
      ap (λ (s : Stage). if is_open s then Own.start else None) stage ∙ first.0 in (
        is_last view holder parts g.id (subst (IsListable view.threads) (sym first.1)
            (knows.shown g.priority told.1).1),
        ap holder first.1 ∙ parts.tokens.begun d g.id.number has,
      )

  none_listed : (who : ThreadId) → view.threads.version who.number ≡ who.version →
      ((p : ℕ) → holder who ≢ ReadyList p) → IsInNone who.number b.lists.lists
  none_listed who last away = in_none view holder parts b.lists.lists h.whole.pair.alike.agrees.lists who last
      away

  goal_away : (who : ThreadId) → holder who ≡ GoalOf d → (p : ℕ) → holder who ≢ ReadyList p
  goal_away who e p q = let z : GoalOf d ≡ ReadyList p = sym e ∙ q in cc

  start_away : (who : ThreadId) → holder who ≡ SwitchOf d → (p : ℕ) → holder who ≢ ReadyList p
  start_away who e p q = let z : SwitchOf d ≡ ReadyList p = sym e ∙ q in cc

  -- who ran isn't who is started
  ran_apart : (g s : Goal) → (view.threads.version g.id.number ≡ g.id.version) × (holder g.id ≡ GoalOf d) →
      (view.threads.version s.id.number ≡ s.id.version) × (holder s.id ≡ SwitchOf d) →
      g.id.number ≢ s.id.number
  ran_apart g s ran begun e =
      let same : g.id ≡ s.id = same_is g.id s.id e (sym ran.0 ∙ ap view.threads.version e ∙ begun.0) in
      let z : GoalOf d ≡ SwitchOf d = sym ran.1 ∙ ap holder same ∙ begun.1 in cc

  low : Own.stage ≡ tokens.ReleaseReady → d < view.carriers
  low stage = elim (leb_tells view.carriers d) [
    | inl over ↦ absurd (false≢true (sym (parts.runs.beyond d over.1).0 ∙ ap has_switch stage))
    | inr under ↦ under.1
  ]

  few : view.running ≤ 8
  few =
      let sum = parts.runs.running in
      let most = count_few (counted_in view.own view.carrier) view.carriers in
      let count = h.aligned.count in
      let eight = h.aligned.few in
      omega (arith, sum, most, count, eight)

  counted_one : Own.stage ≡ tokens.ReleaseReady → Own.counted ≡ true → 1 ≤ view.running
  counted_one stage e =
      let mine : is_counted Own (view.carrier d) ≡ true =
      ap (λ (s : Stage). if has_switch s then Own.counted else (view.carrier d).counted) stage ∙ e in
      let has = count_has (counted_in view.own view.carrier) view.carriers d (low stage) in
      let one : 1 ≤ count (counted_in view.own view.carrier) view.carriers =
      subst (λ t. one_if t ≤ count (counted_in view.own view.carrier) view.carriers) mine has in
      let sum = parts.runs.running in
      omega (arith, one, sum)

  can_fill : (c : SwitchCall) (back started : Option Goal) (lists : Ready) → lists ≡ b.lists →
      Own.stage ≡ tokens.ReleaseReady → Own.counted ≡ c.counted →
      back ≡ told_goal Own.goal Own.goal_seen → started ≡ told_goal (first_by Own.start) Own.start_seen →
      IfSome back IsGoal → CanFill c back started lists
  can_fill c back started lists same stage mark ran begun goal = record {
    few = let e : lists.running ≡ view.running = ap (λ (r : Ready). r.running) same
        ∙ sym h.whole.pair.alike.agrees.running in let m = few in omega (arith, e, m);
    counted = λ t. let one = counted_one stage (mark ∙ t) in let e : lists.running ≡ view.running =
        ap (λ (r : Ready). r.running) same ∙ sym h.whole.pair.alike.agrees.running in omega (arith, one, e);
    back = back_none back refl;
    started = started_none started refl;
  }
    where
      lists_are : (uncounted c.counted lists).lists ≡ b.lists.lists
      lists_are = uncounted_lists c.counted lists ∙ ap (λ (r : Ready). r.lists) same

      back_none : (o : Option Goal) → back ≡ o →
          IfSome o (λ g. IsInNone g.id.number (uncounted c.counted lists).lists)
      back_none None e = tt
      back_none (Some g) e =
          let is = goal_none g stage (sym ran ∙ e) in
          subst (IsInNone g.id.number) (sym lists_are) (none_listed g.id is.0 (goal_away g.id is.1))

      other : (s : Goal) → started ≡ Some s → (o : Option Goal) → back ≡ o →
          IfSome o (λ g. g.id.number ≢ s.id.number)
      other s f None e = tt
      other s f (Some g) e = ran_apart g s (goal_none g stage (sym ran ∙ e))
          (start_none s stage (sym begun ∙ f))

      started_none : (o : Option Goal) → started ≡ o →
          IfSome o (λ g. IsInNone g.id.number (put_back c.slice_ended back (uncounted c.counted lists)).lists)
      started_none None e = tt
      started_none (Some s) e =
          let is = start_none s stage (sym begun ∙ e) in
          put_back_none s.id.number c.slice_ended back (uncounted c.counted lists) (ap length lists_are
          ∙ h.whole.pair.alike.agrees.whole) goal (other s e back refl)
          (subst (IsInNone s.id.number) (sym lists_are) (none_listed s.id is.0 (start_away s.id is.1)))

  -- by where the switch stands
  pub switch_pushes : (s : Switch) → ShowsOwn (Some s) Own → can_ask s.location ≡ true →
      hand_of s.location ≡ held_on b (locks_at (InSwitch s.call (at_of s.location))) →
      IsSoundAt (at_of s.location) → switch.CanPush s.call (hand_of s.location) (at_of s.location)
  switch_pushes s shown can hand sound = by s.location (shown.stage) shown.call shown.at can hand sound
    where
      by : (l : SwitchLocation) → Own.stage ≡ stage_of (at_of l) →
          (tokens.is_open Own.stage ≡ true → ShowsCall s.call Own) → ShowsAt Own (at_of l) →
          can_ask l ≡ true →
          hand_of l ≡ held_on b (locks_at (InSwitch s.call (at_of l))) → IsSoundAt (at_of l) →
          switch.CanPush s.call (hand_of l) (at_of l)
      by (location.Locked (locked.ReleaseReady back started) lists) stage call at can hand sound =
          can_fill s.call back started lists (ap (λ (x : Hand). x.lists) hand) stage
          (call (ap tokens.is_open stage)).counted at.0 at.1 sound.0
      by (location.ListsReturned x) stage call at can hand sound = absurd (false≢true can)
      by l stage call at can hand sound = tt
