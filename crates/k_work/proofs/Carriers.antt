-- What becomes of the threads that carriers have, and of the switches that one may still begin.
use Rattle.std.proofs.Common.{◌≡◌, ◌≢◌, ℕ, ◌+◌, ◌*◌, ◌<◌, ◌≤◌, Bool, true, false, not, refl, sym, ap, ◌∙◌}
use Rattle.std.proofs.Common.{subst}
use Rattle.std.proofs.Common.{arith, Option, Some, None, List, [], ◌∷◌, inl, inr}
use Rattle.std.specs.Prelude.{◌==◌, ◌&&◌, ◌||◌, is_some, if◌then◌else◌}
use Rattle.std.proofs.lemmas.Bool.{false≢true}
use Rattle.std.proofs.lemmas.Bool.Decides.{eqb_tells, nat_tests}
use Rattle.k_ids.specs.declared.threads.ThreadId.{ThreadId}
use Rattle.k_model.specs.Maps.{upd}
use Rattle.k_model.proofs.Maps.{upd_same, upd_other}
use Rattle.k_room.specs.Room.{sum_below}
use Rattle.k_tokens.specs.Maps.{one_if}
use Rattle.k_tokens.specs.Steps.{ThreadStep, GoesOn, FindsOwned, FindsTaken, TurnsOn, AcquiresReady, Pushes}
use Rattle.k_tokens.specs.Steps.{AcquiresTable}
use Rattle.k_tokens.specs.Steps.{ReleasesTable, Kills, Unlists, Removes, Places, Makes, FallsAsleep, Ends}
use Rattle.k_tokens.specs.Steps.{Dies}
use Rattle.k_tokens.specs.Steps.{after_step, rescheduled, without_goal, without_goal_if}
use Rattle.k_tokens.specs.World.{Carrier, ContextName, OwnContext, Stage, World, has_switch, names, owner_of}
use Rattle.k_tokens.specs.World as stage
use Rattle.k_switching.specs.Switch.{acquired_by, before_take, count_out, finished_with, finished_without}
use Rattle.k_switching.specs.Switch.{first_taken_by}
use Rattle.k_switching.specs.Switch.{first_taken_of, goal_back, goal_out, got_lists, highest_filled}
use Rattle.k_switching.specs.Switch.{ready_free, ready_released}
use Rattle.k_switching.specs.Switch.{saw_goal, saw_start, start_entered, start_out, switch_step, to_goal}
use Rattle.k_switching.specs.Switch.{to_start, with_own}
use Rattle.k_grants.specs.Granted.{Finding, IsFound}
use Rattle.k_owed.specs.Owed.{may_begin}
use Rattle.k_owed.proofs.Sums.{sum_moves}
use Rattle.k_work.specs.Work.{flags_of, starts_of, switches_by, switches_of, threads_at, threads_by}
use Rattle.k_work.specs.Work.{threads_had}

-- OF A CARRIER

more_flags : (in_switch : Bool) (goal : Option ThreadId) (n m d : ℕ) → m ≡ n + d →
    switches_by in_switch goal m ≤ switches_by in_switch goal n + d
more_flags true goal n m d e = omega (arith, e)
more_flags false (Some who) n m d e = omega (arith, e)
more_flags false None n m d e = grind (arith, nat_tests, e)

-- a goal that is dropped pays for the switch that then begins
less_goal : (in_switch : Bool) (goal : Option ThreadId) (starts flags : ℕ) →
    6 * threads_by in_switch None starts + 5 * switches_by in_switch None flags ≤
    6 * threads_by in_switch goal starts + 5 * switches_by in_switch goal flags
less_goal true goal starts flags = omega arith
less_goal false None starts flags = omega arith
less_goal false (Some who) starts flags = grind (arith, nat_tests)

-- and for more, where there was one
pub goal_pays : (goal : Option ThreadId) (starts flags : ℕ) → is_some goal ≡ true →
    6 * threads_by false None starts + 5 * switches_by false None flags <
    6 * threads_by false goal starts + 5 * switches_by false goal flags
goal_pays None starts flags e = absurd (false≢true e)
goal_pays (Some who) starts flags e = grind (arith, nat_tests)

-- the worth of both
abbrev pub worth_of : (in_switch : Bool) → Carrier → ℕ
worth_of in_switch k =
    6 * threads_by in_switch k.goal (starts_of k) + 5 * switches_by in_switch k.goal (flags_of k)

rescheduled_worth : (in_switch : Bool) (k : Carrier) (above pushes : Bool) → (above ≡ true → pushes ≡ true) →
    worth_of in_switch (rescheduled k above) ≤ worth_of in_switch k + 5 * may_begin pushes
rescheduled_worth in_switch k above pushes e = go k.resched above k.switching pushes e
  where
    go : (r a s p : Bool) → (a ≡ true → p ≡ true) →
        6 * threads_by in_switch k.goal (starts_of k)
        + 5 * switches_by in_switch k.goal (starts_of k + one_if k.slice + one_if (r || (a && not s))) ≤
        6 * threads_by in_switch k.goal (starts_of k)
        + 5 * switches_by in_switch k.goal (starts_of k + one_if k.slice + one_if r) + 5 * may_begin p
    go true a s p e = omega arith
    go false false s p e = omega arith
    go false true true p e = omega arith
    go false true false true e =
        let m = more_flags in_switch k.goal (starts_of k + one_if k.slice + 0) (starts_of k + one_if k.slice
        + 1) 1
        (omega arith) in omega (arith, m)
    go false true false false e = absurd (false≢true (e refl))

dropped_worth : (in_switch : Bool) (k : Carrier) → worth_of in_switch (without_goal k) ≤ worth_of in_switch k
dropped_worth in_switch k = less_goal in_switch k.goal (starts_of k) (flags_of k)

dropped_if_worth : (in_switch : Bool) (k : Carrier) (gone : Bool) →
    worth_of in_switch (without_goal_if gone k) ≤ worth_of in_switch k
dropped_if_worth in_switch k true = dropped_worth in_switch k
dropped_if_worth in_switch k false = omega arith

-- OF ALL

-- The carriers' threads and the switches of carrier `c` are worth no more, but for a switch that a push may
-- begin.
pub record HasLess (w v : World) (c : ℕ) (pushes : Bool) : Type 0 where
  pub carriers : v.carriers ≡ w.carriers
  pub worth : 6 * threads_had v + 5 * switches_of (v.own c) (v.carrier c) ≤
      6 * threads_had w + 5 * switches_of (w.own c) (w.carrier c) + 5 * may_begin pushes

-- each context of a carrier has a switch where it had one
abbrev pub SameSwitches : World → World → Type 0
SameSwitches w v = (d : ℕ) → has_switch (v.own d).stage ≡ has_switch (w.own d).stage

-- one carrier moves: what all are worth changes by what it is worth
pub moves_worth : (w v : World) (c : ℕ) (k : Carrier) → c < w.carriers → v.carriers ≡ w.carriers →
    v.carrier c ≡ k →
    ((d : ℕ) → d ≢ c → v.carrier d ≡ w.carrier d) → SameSwitches w v →
    6 * threads_had v + 5 * switches_of (v.own c) (v.carrier c) + worth_of (has_switch (w.own c).stage)
    (w.carrier c) ≤
    6 * threads_had w + 5 * switches_of (w.own c) (w.carrier c) + worth_of (has_switch (w.own c).stage) k
moves_worth w v c k low count mine rest same =
    let s = sum_moves (threads_at w) (threads_at v) c w.carriers low others in
    let t = ap (sum_below (threads_at v)) count in
    omega (arith, s, t, mine_threads, mine_switches)
  where
    others : (d : ℕ) → d ≢ c → threads_at v d ≤ threads_at w d
    others d ne =
        let t : threads_at v d ≡ threads_at w d =
        λ z. threads_by (same d z) (rest d ne z).goal (starts_of (rest d ne z)) in
        omega (arith, t)

    mine_threads : threads_at v c ≡ threads_by (has_switch (w.own c).stage) k.goal (starts_of k)
    mine_threads = λ z. threads_by (same c z) (mine z).goal (starts_of (mine z))

    mine_switches : switches_of (v.own c) (v.carrier c) ≡ switches_by (has_switch (w.own c).stage) k.goal
        (flags_of k)
    mine_switches = λ z. switches_by (same c z) (mine z).goal (flags_of (mine z))

pub one_moves : (w v : World) (c : ℕ) (k : Carrier) (pushes : Bool) → c < w.carriers →
    v.carriers ≡ w.carriers →
    v.carrier c ≡ k → ((d : ℕ) → d ≢ c → v.carrier d ≡ w.carrier d) → SameSwitches w v →
    worth_of (has_switch (w.own c).stage) k ≤ worth_of (has_switch (w.own c).stage) (w.carrier c) + 5 *
    may_begin pushes →
    HasLess w v c pushes
one_moves w v c k pushes low count mine rest same less = record {
  carriers = count;
  worth = let m = moves_worth w v c k low count mine rest same in omega (arith, m, less);
}

pub one_changes : (w v : World) (c : ℕ) (k : Carrier) (pushes : Bool) → c < w.carriers →
    v.carriers ≡ w.carriers →
    v.carrier ≡ upd w.carrier c k → SameSwitches w v →
    worth_of (has_switch (w.own c).stage) k ≤ worth_of (has_switch (w.own c).stage) (w.carrier c) + 5 *
    may_begin pushes →
    HasLess w v c pushes
one_changes w v c k pushes low count is same less =
    one_moves w v c k pushes low count (ap (λ (m : ℕ → Carrier). m c) is ∙ upd_same w.carrier c k)
    (λ d ne. ap (λ (m : ℕ → Carrier). m d) is ∙ upd_other w.carrier c k d ne) same less

-- where no carrier changes
pub none_changes : (w v : World) (c : ℕ) (pushes : Bool) → v.carriers ≡ w.carriers → v.carrier ≡ w.carrier →
    SameSwitches w v → HasLess w v c pushes
none_changes w v c pushes count is same = record {
  carriers = count;
  worth = omega (arith, threads, switches);
}
  where
    threads : threads_had v ≡ threads_had w
    threads = λ z. sum_below (λ d. threads_by (same d z) (is z d).goal (starts_of (is z d))) (count z)

    switches : switches_of (v.own c) (v.carrier c) ≡ switches_of (w.own c) (w.carrier c)
    switches = λ z. switches_by (same c z) (is z c).goal (flags_of (is z c))

-- A STEP OF A THREAD'S CONTEXT

pub thread_less : (w : World) (c i : ℕ) (found : Finding) (step : ThreadStep) (pushes : Bool) →
    c < w.carriers →
    IsFound found false step → (found.above ≡ true → pushes ≡ true) →
    HasLess w (after_step w c i step) c pushes
thread_less w c i found (GoesOn held) pushes low is above = none_changes w _ c pushes refl refl (λ d. refl)
thread_less w c i found (FindsOwned context wanted) pushes low is above = absurd is
thread_less w c i found FindsTaken pushes low is above = absurd is
thread_less w c i found (TurnsOn who) pushes low is above = none_changes w _ c pushes refl refl (λ d. refl)
thread_less w c i found AcquiresReady pushes low is above = none_changes w _ c pushes refl refl (λ d. refl)
thread_less w c i found (Pushes seen held higher) pushes low is above =
    one_changes w _ c (rescheduled (w.carrier c) higher) pushes low refl refl (λ d. refl)
    (rescheduled_worth (has_switch (w.own c).stage) (w.carrier c) higher pushes (λ e. above (sym is ∙ e)))
thread_less w c i found AcquiresTable pushes low is above = none_changes w _ c pushes refl refl (λ d. refl)
thread_less w c i found (ReleasesTable held) pushes low is above =
    none_changes w _ c pushes refl refl (λ d. refl)
thread_less w c i found (Kills number) pushes low is above = none_changes w _ c pushes refl refl (λ d. refl)
thread_less w c i found (Unlists held) pushes low is above = none_changes w _ c pushes refl refl (λ d. refl)
thread_less w c i found Removes pushes low is above = none_changes w _ c pushes refl refl (λ d. refl)
thread_less w c i found (Places number) pushes low is above = none_changes w _ c pushes refl refl (λ d. refl)
thread_less w c i found (Makes priority) pushes low is above = none_changes w _ c pushes refl refl (λ d. refl)
thread_less w c i found FallsAsleep pushes low is above =
    one_changes w _ c (without_goal (w.carrier c)) pushes low refl refl (λ d. refl)
    (let l = dropped_worth (has_switch (w.own c).stage) (w.carrier c) in omega (arith, l))
thread_less w c i found Ends pushes low is above =
    one_changes w _ c (without_goal (w.carrier c)) pushes low refl refl (λ d. refl)
    (let l = dropped_worth (has_switch (w.own c).stage) (w.carrier c) in omega (arith, l))
thread_less w c i found Dies pushes low is above =
    let gone = names (w.carrier c).goal (owner_of w.threads i) in
    one_changes w _ c (without_goal_if gone (w.carrier c)) pushes low refl refl (λ d. refl)
    (let l = dropped_if_worth (has_switch (w.own c).stage) (w.carrier c) gone in omega (arith, l))

-- A STEP OF A SWITCH

own_keeps : (w : World) (d : ℕ) (own : OwnContext) → has_switch own.stage ≡ has_switch (w.own d).stage →
    SameSwitches w (with_own w d own)
own_keeps w d own same e = elim (eqb_tells e d) [
  | inl q ↦
      ap (λ (n : ℕ). has_switch (upd w.own d own n).stage) q.1
      ∙ ap (λ (x : OwnContext). has_switch x.stage) (upd_same w.own d own)
      ∙ same ∙ ap (λ (n : ℕ). has_switch (w.own n).stage) (sym q.1)
  | inr q ↦ ap (λ (x : OwnContext). has_switch x.stage) (upd_other w.own d own e q.1)
]

then_keeps : (w u v : World) → SameSwitches w u → SameSwitches u v → SameSwitches w v
then_keeps w u v a b d = b d ∙ a d

to_start_has : (own : OwnContext) → has_switch (to_start own) ≡ true
to_start_has own = go (is_some own.start)
  where
    go : (t : Bool) → has_switch (if t then stage.LoadStart else stage.ReleaseReady) ≡ true
    go true = refl
    go false = refl

to_goal_has : (own : OwnContext) → has_switch (to_goal own) ≡ true
to_goal_has own = go (is_some own.goal) (to_start_has own)
  where
    go : (t : Bool) → has_switch (to_start own) ≡ true →
        has_switch (if t then stage.LoadGoal else to_start own) ≡ true
    go true e = refl
    go false e = e

-- A switch that isn't finished goes on, or finishes; and no carrier changes where it gets its lock.
pub record LeavesCarriers (w v : World) : Type 0 where
  pub carriers : v.carriers ≡ w.carriers
  pub carrier : v.carrier ≡ w.carrier
  pub switches : SameSwitches w v

got_keeps : (w : World) (runner d : ℕ) → has_switch (w.own d).stage ≡ true → w.ready_owner ≡ None →
    LeavesCarriers w (acquired_by w runner d w.ready_owner)
got_keeps w runner d stands free =
    subst (λ (o : Option ContextName). LeavesCarriers w (acquired_by w runner d o)) (sym free) (record {
      carriers = refl;
      carrier = refl;
      switches = own_keeps w d (got_lists (w.own d)) (to_goal_has (w.own d) ∙ sym stands);
    })

first_keeps : (w : World) (d : ℕ) (o : Option ℕ) → has_switch (w.own d).stage ≡ true →
    LeavesCarriers w (first_taken_by w d o)
first_keeps w d None stands = record {
  carriers = refl;
  carrier = refl;
  switches = own_keeps w d (finished_without (w.own d) (w.running == 0)) (sym stands);
}
first_keeps w d (Some p) stands = go (w.lists p)
  where
    go : (ids : List ThreadId) → LeavesCarriers w (first_taken_of w d p ids)
    go [] = record { carriers = refl; carrier = refl; switches = λ e. refl }
    go (who ∷ more) = record {
      carriers = refl;
      carrier = refl;
      switches = own_keeps w d (finished_with (w.own d) who) (sym stands);
    }

before_keeps : (w : World) (d : ℕ) → SameSwitches w (before_take w d)
before_keeps w d =
    then_keeps w (goal_back (ready_free w) d) (before_take w d) (own_keeps w d (goal_out (w.own d)) refl)
    (then_keeps (goal_back (ready_free w) d) (start_entered (goal_back (ready_free w) d) d) (before_take w d)
    (own_keeps (goal_back (ready_free w) d) d (start_out ((goal_back (ready_free w) d).own d)) refl)
    (own_keeps (start_entered (goal_back (ready_free w) d) d) d
    (count_out ((start_entered (goal_back (ready_free w) d) d).own d)) refl))

released_keeps : (w : World) (d : ℕ) → has_switch (w.own d).stage ≡ true →
    LeavesCarriers w (ready_released w d)
released_keeps w d stands =
    let u = before_take w d in
    let k = before_keeps w d in
    let f = first_keeps u d (highest_filled 64 u.lists) (k d ∙ stands) in
    record {
      carriers = f.carriers;
      carrier = f.carrier;
      switches =
          then_keeps w u (ready_released w d) k f.switches;
    }

pub switch_leaves : (w : World) (runner d : ℕ) (s : Stage) → (w.own d).stage ≡ s →
    (s ≡ stage.AcquireReady → w.ready_owner ≡ None) → LeavesCarriers w (switch_step w runner d s)
switch_leaves w runner d stage.NoSwitch e free = record {
  carriers = refl;
  carrier = refl;
  switches =
      λ f. refl;
}
switch_leaves w runner d stage.AcquireReady e free = got_keeps w runner d (ap has_switch e) (free refl)
switch_leaves w runner d stage.LoadGoal e free = record {
  carriers = refl;
  carrier = refl;
  switches = own_keeps w d (saw_goal w.threads (w.own d)) (to_start_has (w.own d) ∙ sym (ap has_switch e));
}
switch_leaves w runner d stage.LoadStart e free = record {
  carriers = refl;
  carrier = refl;
  switches = own_keeps w d (saw_start w.threads (w.own d)) (sym (ap has_switch e));
}
switch_leaves w runner d stage.ReleaseReady e free = released_keeps w d (ap has_switch e)
switch_leaves w runner d stage.Finished e free = record {
  carriers = refl;
  carrier = refl;
  switches =
      λ f. refl;
}
