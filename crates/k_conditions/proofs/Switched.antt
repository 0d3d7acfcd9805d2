-- A switch that finishes has come to a thread of the table, with a priority that has a list.
use Rattle.std.proofs.Common.{◌≡◌, ◌≢◌, ◌≤◌, ◌<◌, ℕ, ◌+◌, Bool, true, false, refl, sym, ap, ◌∙◌, subst, arith, inl}
use Rattle.std.proofs.Common.{inr, Option, Some, None, IfSome, List, [], ◌∷◌, ◌++◌, length}
use Rattle.std.proofs.lemmas.Bool.{and_parts, eq-eqb, eqb-true, false≢true}
use Rattle.std.proofs.lemmas.List.{length-set}
use Rattle.std.specs.Prelude.{◌==◌, if◌then◌else◌}
use Rattle.k_ids.specs.declared.threads.ThreadId.{ThreadId}
use Rattle.k_model.specs.State.{KernelState, same_id}
use Rattle.k_model.proofs.Maps.{upd_cases}
use Rattle.k_ready.specs.Lists.{Ready, first_of, list_of, with_list}
use Rattle.k_ready.specs.Popped.{Level, highest}
use Rattle.k_ready.proofs.Changed.{list_changed}
use Rattle.k_ready.proofs.Popped.{highest_first}
use Rattle.k_script.specs.Plays.{IsInRange}
use Rattle.k_script.specs.Script.{Script}
use Rattle.k_script.specs.Limits.{IsScript}
use Rattle.k_switch.specs.declared.goal.Goal.{Goal}
use Rattle.k_switch.specs.declared.switch.SwitchCall.{SwitchCall}
use Rattle.k_switch.specs.Switches.{entered, filled, goal_at, put_back, switched_by, uncounted}
use Rattle.k_carrier.specs.Conditions.{IsGoalIn}
use Rattle.k_world.specs.Worlds.{World}
use Rattle.k_board.specs.Boards.{Alone, At, Board, Coming, InCreate, InDestroy, InReceive, InSend, InSwitch, Nowhere, Resting}
use Rattle.k_good.specs.Numbers.{is_left}
use Rattle.k_good.specs.Ranges.{FitsAt, is_threads}
use Rattle.k_tokens.specs.Good.{IsListable, Parts, knows_goal, knows_start}
use Rattle.k_tokens.specs.Maps.{times}
use Rattle.k_tokens.specs.Views.{by_owner}
use Rattle.k_tokens.specs.World.{Absent, OwnContext, Threads, is_present}
use Rattle.k_tokens.specs.World as tokens
use Rattle.k_tokens.proofs.Basics.{same_is}
use Rattle.k_grants.specs.Views.{Look, look_at, looks_of}
use Rattle.k_moves.specs.Views.{first_by, told_goal}
use Rattle.k_handling.specs.Handling.{IsKernel}
use Rattle.k_conditions.proofs.Fills.{first_is, told_is}
use Rattle.k_conditions.proofs.Lists.{in_list}

-- P holds of each thread of a list
abbrev AllOf : (ThreadId → Type 0) → List ThreadId → Type 0
AllOf P [] = Unit {0}
AllOf P (id ∷ es) = P id × AllOf P es

more_often : (t : Bool) (n : ℕ) → 1 ≤ n → 1 ≤ (if t then 1 else 0) + n
more_often true n m = omega arith
more_often false n m = omega (arith, m)

once_more : (t : Bool) (n : ℕ) → t ≡ true → 1 ≤ (if t then 1 else 0) + n
once_more true n e = omega arith
once_more false n e = absurd (false≢true e)

itself : (id : ThreadId) → same_id id id ≡ true
itself id =
    let e : (id.number == id.number) ≡ true = eq-eqb id.number id.number refl in
    let f : (id.version == id.version) ≡ true = eq-eqb id.version id.version refl in rw (e, f) refl

all_of : (P : ThreadId → Type 0) (es : List ThreadId) → ((id : ThreadId) → 1 ≤ times id es → P id) →
    AllOf P es
all_of P [] is = tt
all_of P (id ∷ es) is = (
  is id (once_more (same_id id id) (times id es) (itself id)),
  all_of P es
      (λ x m. is x (more_often (same_id id x) (times x es) m)),
)

all_append : (P : ThreadId → Type 0) (es : List ThreadId) (id : ThreadId) → AllOf P es → P id →
    AllOf P (es ++ id ∷ [])
all_append P [] id all is = (is, tt)
all_append P (x ∷ es) id all is = (all.0, all_append P es id all.1 is)

first_is_of : (P : ThreadId → Type 0) (es : List ThreadId) (id : ThreadId) → AllOf P es →
    first_of es ≡ Some id → P id
first_is_of P [] id all e = absurd cc
first_is_of P (x ∷ es) id all e = let z : x ≡ id = cc in subst P z all.0

-- so it is of each list
abbrev Listed : (ThreadId → Type 0) → Ready → Type 0
Listed P r = (length r.lists ≡ 64) × ((p : ℕ) → AllOf P (list_of r.lists p))

with_listed : (P : ThreadId → Type 0) (r : Ready) (p : ℕ) (es : List ThreadId) → p < 64 → Listed P r →
    AllOf P es → Listed P (with_list r p es)
with_listed P r p es low listed all = (
  length-set r.lists p es ∙ listed.0,
  λ q. subst (λ (f : ℕ → List ThreadId). AllOf P (f q))
      (sym (list_changed r p es (let e = listed.0 in omega (arith, low, e))))
      (upd_cases (AllOf P) (list_of r.lists) p es q (λ e. all) (λ e. listed.1 q)),
)

put_listed : (P : ThreadId → Type 0) (ended : Bool) (o : Option Goal) (r : Ready) →
    IfSome o (λ g. P g.id × (g.priority < 64)) → Listed P r → Listed P (put_back ended o r)
put_listed P ended None r is listed = listed
put_listed P false (Some g) r is listed = with_listed P r g.priority (g.id ∷ list_of r.lists g.priority) is.1
    listed (is.0, listed.1 g.priority)
put_listed P true (Some g) r is listed = with_listed P r g.priority (list_of r.lists g.priority ++ g.id ∷ [])
    is.1 listed (all_append P (list_of r.lists g.priority) g.id (listed.1 g.priority) is.0)

entered_listed : (P : ThreadId → Type 0) (o : Option Goal) (r : Ready) →
    IfSome o (λ g. P g.id × (g.priority < 64)) → Listed P r → Listed P (entered o r)
entered_listed P None r is listed = listed
entered_listed P (Some g) r is listed = with_listed P r g.priority (list_of r.lists g.priority ++ g.id ∷ [])
    is.1 listed (all_append P (list_of r.lists g.priority) g.id (listed.1 g.priority) is.0)

uncounted_listed : (P : ThreadId → Type 0) (c : Bool) (r : Ready) → Listed P r → Listed P (uncounted c r)
uncounted_listed P true r listed = listed
uncounted_listed P false r listed = listed

-- the first of the highest list
highest_is : (P : ThreadId → Type 0) (r : Ready) → Listed P r →
    IfSome (goal_at (highest r)) (λ g. P g.id × (g.priority < 64))
highest_is P r listed = by (highest r) refl
  where
    by : (o : Option Level) → highest r ≡ o → IfSome (goal_at o) (λ g. P g.id × (g.priority < 64))
    by None e = tt
    by (Some l) e = let is = (highest_first r l listed.0).0 e in
        (first_is_of P (list_of r.lists l.priority) l.id (listed.1 l.priority) is.first, is.inside)

module _ (script : Script) (limits : IsScript script) (w : World) (b : Board) (view : tokens.World)
    (state : KernelState) (h : IsKernel script w b view state) where
  parts : Parts view h.whole.pair.world.0
  parts = h.whole.pair.world.1

  -- WHO MAY STAND IN A LIST is a thread of the table

  in_range : (who : ThreadId) → IsInRange b.size
      (record { number = who.number; version = (b.seen who.number).word.version }) →
      view.threads.version who.number ≡ who.version → IsInRange b.size who
  in_range who is last =
      let same : record { number = who.number; version = (b.seen who.number).word.version } ≡ who =
      same_is _ who refl (sym (ap (λ (x : Threads). x.version who.number)
      h.whole.pair.alike.agrees.threads) ∙ last) in
      subst (IsInRange b.size) same is

  -- a context of a thread
  thread_there : (p : At) → (look_at p).condition ≢ Absent → (look_at p).is_coming ≡ false →
      is_threads p ≡ true
  thread_there (Alone p) there made = refl
  thread_there (InSend c p) there made = refl
  thread_there (InReceive c p) there made = refl
  thread_there (InCreate c p) there made = refl
  thread_there (InDestroy c p) there made = refl
  thread_there (InSwitch c p) there made = absurd (there refl)
  thread_there Resting there made = absurd (there refl)
  thread_there Nowhere there made = absurd (there refl)
  thread_there Coming there made = absurd (let z : true ≡ false = made in cc)

  present_range : (who : ThreadId) → is_present view.threads who ≡ true → IsInRange b.size who
  present_range who e =
      let there = and_parts (view.threads.present who.number) (view.threads.version who.number == who.version)
      e in
      let here = parts.threads.here who.number there.0 in
      let agree = h.whole.pair.alike.agrees.threads in
      let stands : (look_at (b.context who.number).at).condition ≢ Absent =
      λ q. here.0 (ap (λ (x : Threads). x.condition who.number) agree ∙ q) in
      let made : (if (look_at (b.context who.number).at).is_coming then (b.seen who.number).word.version + 1
      else (b.seen who.number).word.version) ≡ (b.seen who.number).word.version =
      sym (ap (λ (x : Threads). x.made who.number) agree) ∙ here.1
      ∙ ap (λ (x : Threads). x.version who.number) agree in
      in_range who (h.whole.pair.within.threads who.number
      (thread_there (b.context who.number).at stands
      (not_coming (look_at (b.context who.number).at).is_coming (b.seen who.number).word.version made)))
      (eqb-true (view.threads.version who.number) who.version there.1)
    where
      not_coming : (t : Bool) (n : ℕ) → (if t then n + 1 else n) ≡ n → t ≡ false
      not_coming false n e = refl
      not_coming true n e = absurd (omega (arith, e))

  victim_range : (who : ThreadId) → view.threads.victim ≡ Some who → IsInRange b.size who
  victim_range who e = by b.table (sym (ap (λ (x : Threads). x.victim) h.whole.pair.alike.agrees.threads) ∙ e)
    where
      at_place : (p : At) → (look_at p).victim ≡ Some who → FitsAt b.size p → IsInRange b.size who
      at_place (InDestroy c p) v fits = left (is_left p) v
        where
          left : (t : Bool) → (if t then Some c.who else None) ≡ Some who → IsInRange b.size who
          left true z = let same : c.who ≡ who = cc in subst (IsInRange b.size) same fits.0
          left false z = absurd (let y : None ≡ Some who = z in cc)
      at_place (Alone p) v fits = absurd (let y : None ≡ Some who = v in cc)
      at_place (InSend c p) v fits = absurd (let y : None ≡ Some who = v in cc)
      at_place (InReceive c p) v fits = absurd (let y : None ≡ Some who = v in cc)
      at_place (InCreate c p) v fits = absurd (let y : None ≡ Some who = v in cc)
      at_place (InSwitch c p) v fits = absurd (let y : None ≡ Some who = v in cc)
      at_place Resting v fits = absurd (let y : None ≡ Some who = v in cc)
      at_place Coming v fits = absurd (let y : None ≡ Some who = v in cc)
      at_place Nowhere v fits = absurd (let y : None ≡ Some who = v in cc)

      by : (o : Option ℕ) → by_owner None (λ (l : Look). l.victim) (looks_of b) o ≡ Some who →
          IsInRange b.size who
      by None v = absurd (let y : None ≡ Some who = v in cc)
      by (Some i) v = at_place (b.context i).at v (h.whole.pair.within.targets i)

  listable_range : (who : ThreadId) → IsListable view.threads who → IsInRange b.size who
  listable_range who (inl present) = present_range who present
  listable_range who (inr victim) = victim_range who victim.0

  -- THE LISTS

  board_listed : Listed (IsInRange b.size) b.lists
  board_listed = (
    h.whole.pair.alike.agrees.whole,
    λ p. all_of (IsInRange b.size) (list_of b.lists.lists p)
        (λ id often. listable_range id (parts.threads.listed p id (in_list p (h.whole.pair.world.0 id)
        (subst (λ n. 1 ≤ n) (ap (λ (l : ℕ → List ThreadId). times id (l p))
        (sym h.whole.pair.alike.agrees.lists) ∙ parts.tokens.list p id) often)))),
  )

  -- what a switch knows of a thread that it puts into its list
  goal_known : (d : ℕ) (g : Goal) → (view.own d).stage ≡ tokens.ReleaseReady →
      told_goal (view.own d).goal (view.own d).goal_seen ≡ Some g → IsInRange b.size g.id × (g.priority < 64)
  goal_known d g stage e =
      let told = told_is (view.own d).goal (view.own d).goal_seen g e in
      let shown = ((parts.switches d).goal g.id (ap knows_goal stage) told.0).shown g.priority told.1 in
      (listable_range g.id shown.1, shown.0)

  start_known : (d : ℕ) (g : Goal) → (view.own d).stage ≡ tokens.ReleaseReady →
      told_goal (first_by (view.own d).start) (view.own d).start_seen ≡ Some g →
      IsInRange b.size g.id × (g.priority < 64)
  start_known d g stage e =
      let told = told_is (first_by (view.own d).start) (view.own d).start_seen g e in
      let first = first_is (view.own d).start g told.0 in
      let shown = ((parts.switches d).start g.id.number (ap knows_start stage) first.0).shown g.priority
      told.1 in
      (listable_range g.id (subst (IsListable view.threads) (sym first.1) shown.1), shown.0)

  goal_inside : (g : Goal) → IsInRange b.size g.id × (g.priority < 64) → IsGoalIn script.table g
  goal_inside g is =
      let number = is.0.number in
      let last = is.0.last in
      let size = h.aligned.shows.shows.size in
      let few = limits.table.1 in
      record {
        goal = record {
          id = record {
            number = omega (arith, number, size, few);
            born = is.0.first;
            version = omega (arith, last);
          };
          priority = is.1;
        };
        inside = omega (arith, number, size);
      }

  pub comes_to : (d : ℕ) (c : SwitchCall) (back started : Option Goal) (lists : Ready) → lists ≡ b.lists →
      (view.own d).stage ≡ tokens.ReleaseReady →
      back ≡ told_goal (view.own d).goal (view.own d).goal_seen →
      started ≡ told_goal (first_by (view.own d).start) (view.own d).start_seen →
      IfSome (switched_by (filled c back started lists)).goal (IsGoalIn script.table)
  comes_to d c back started lists same stage ran begun =
      inside (goal_at (highest (filled c back started lists)))
      (highest_is (IsInRange b.size) (filled c back started lists)
      (entered_listed (IsInRange b.size) started (put_back c.slice_ended back (uncounted c.counted lists))
      (begun_known started refl)
      (put_listed (IsInRange b.size) c.slice_ended back (uncounted c.counted lists) (ran_known back refl)
      (uncounted_listed (IsInRange b.size) c.counted lists
      (subst (Listed (IsInRange b.size)) (sym same) board_listed)))))
    where
      ran_known : (o : Option Goal) → back ≡ o → IfSome o (λ g. IsInRange b.size g.id × (g.priority < 64))
      ran_known None e = tt
      ran_known (Some g) e = goal_known d g stage (sym ran ∙ e)

      begun_known : (o : Option Goal) → started ≡ o →
          IfSome o (λ g. IsInRange b.size g.id × (g.priority < 64))
      begun_known None e = tt
      begun_known (Some g) e = start_known d g stage (sym begun ∙ e)

      inside : (o : Option Goal) → IfSome o (λ g. IsInRange b.size g.id × (g.priority < 64)) →
          IfSome o (IsGoalIn script.table)
      inside None is = tt
      inside (Some g) is = goal_inside g is
