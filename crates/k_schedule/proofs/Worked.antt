-- The small world keeps the laws, and its schedule goes as worked out. c and i are carriers, ls lines, x a worker, s its stage
-- and p whether it is to put its work down.
use Rattle.std.proofs.Common.{◌≡◌, ◌≢◌, ℕ, ◌+◌, ◌<◌, ◌≤◌, ◌==◌, Bool, true, false, refl, sym, ap, ◌∙◌, subst, arith}
use Rattle.std.proofs.Common.{List, inl, inr, zero, suc, reverse}
use Rattle.std.proofs.lemmas.Bool.{cases_eq, true≢false}
use Rattle.std.proofs.lemmas.Bool.Decides.{nat_tests}
use Rattle.k_script.specs.declared.lines.AtLine.{AtLine}
use Rattle.k_script.specs.declared.lines.AtWhat.{AtWhat}
use Rattle.k_script.specs.declared.lines.AtWhat.TheVariants as what
use Rattle.k_schedule.specs.Carriers.{OthersSettled, ScheduleLaws, happens}
use Rattle.k_schedule.specs.Parts.{Falls}
use Rattle.k_schedule.specs.Schedule.{Burst, IsRun, Moment, TailOf, burst, idle_at, least, tail_begins, times}
use Rattle.k_schedule.specs.Worked.{AtRest, SmallWorld, Stage, Waits, Worker, Works, added, added_by, after_step}
use Rattle.k_schedule.specs.Worked.{is_at_rest, is_settled, is_working, small_carriers, small_facts, small_script}
use Rattle.k_schedule.specs.Worked.{small_step, small_world, steps_left, with_more, with_worker, work_at, worked_end}
use Rattle.k_schedule.specs.Worked.{worked_turns, worker}
use Rattle.k_schedule.proofs.Tails.{and_true}

-- ONE OF THE WORKERS IS CHANGED

self_with : (w : SmallWorld) (c : ℕ) (x : Worker) → with_worker w c x c ≡ x
self_with w c x = let e : (c == c) ≡ true = grind (arith, nat_tests) in rw e refl

other_with : (w : SmallWorld) (c i : ℕ) (x : Worker) → i ≢ c → with_worker w c x i ≡ w.workers i
other_with w c i x ne = let e : (i == c) ≡ false = grind (arith, nat_tests) in rw e refl

-- what is the same of the new worker is the same of all
same_with : {B : Type 0} (f : Worker → B) (w : SmallWorld) (c i : ℕ) (x : Worker) → f x ≡ f (w.workers c) →
    f (with_worker w c x i) ≡ f (w.workers i)
same_with f w c i x h = elim (cases_eq i c) [
  | inl e ↦ subst (λ (j : ℕ). f (with_worker w c x j) ≡ f (w.workers j)) (sym e) (ap f (self_with w c x) ∙ h)
  | inr ne ↦ ap f (other_with w c i x ne)
]

all_with : (P : Worker → Type 0) (w : SmallWorld) (c : ℕ) (x : Worker) → P x → ((i : ℕ) → P (w.workers i)) → (i : ℕ) →
    P (with_worker w c x i)
all_with P w c x p h i = elim (cases_eq i c) [
  | inl e ↦ subst (λ (j : ℕ). P (with_worker w c x j)) (sym e) (subst P (sym (self_with w c x)) p)
  | inr ne ↦ subst P (sym (other_with w c i x ne)) (h i)
]

-- ONE WORKER

stepped_left : (s : Stage) (p : Bool) → steps_left (after_step s p).stage ≤ steps_left s
stepped_left AtRest p = omega arith
stepped_left (Waits n) p = omega arith
stepped_left (Works n) true = omega arith
stepped_left (Works zero) false = omega arith
stepped_left (Works (suc n)) false = omega arith

more_left : (n : ℕ) (s : Stage) → steps_left (with_more n s) ≤ steps_left s + (n + 1)
more_left n AtRest = omega arith
more_left n (Waits k) = omega arith
more_left n (Works k) = omega arith

more_works : (n : ℕ) (s : Stage) → is_working (with_more n s) ≡ is_working s
more_works n AtRest = refl
more_works n (Waits k) = refl
more_works n (Works k) = refl

rest_is_no_work : (s : Stage) → is_at_rest s ≡ true → is_working s ≡ false
rest_is_no_work AtRest h = refl
rest_is_no_work (Waits n) h = refl
rest_is_no_work (Works n) h = absurd (true≢false (sym h))

puts_down : (s : Stage) → is_working s ≡ true → is_working (after_step s true).stage ≡ false
puts_down AtRest h = refl
puts_down (Waits n) h = absurd (true≢false (sym h))
puts_down (Works n) h = refl

work_falls : (s : Stage) (p : Bool) → is_at_rest (after_step s p).stage ≡ false →
    work_at (after_step s p).stage (after_step s p).putting < work_at s p
work_falls AtRest p h = absurd (true≢false h)
work_falls (Waits n) true h = omega arith
work_falls (Waits n) false h = omega arith
work_falls (Works n) true h = omega arith
work_falls (Works zero) false h = absurd (true≢false h)
work_falls (Works (suc n)) false h = omega arith

-- THE LAWS

Within : List AtLine → Worker → Type 0
Within ls x = steps_left x.stage + added ls ≤ 100

event_good : (w : SmallWorld) (event : AtWhat) (ls : List AtLine) (c : ℕ) →
    ((i : ℕ) → steps_left (w.workers i).stage + (added_by event + added ls) ≤ 100) → (i : ℕ) →
    steps_left ((happens small_carriers w c event).workers i).stage + added ls ≤ 100
unfolding Within
event_good w (what.Start n) ls c h =
    let x = worker (with_more n (w.workers c).stage) (w.workers c).putting in
    all_with (Within ls) w c x (omega (arith, more_left n (w.workers c).stage, h c)) (λ i. omega (arith, h i))
event_good w (what.Slice d) ls c h = λ i. omega (arith, h i)

event_settled : (w : SmallWorld) (event : AtWhat) (c i : ℕ) → i ≢ c →
    is_settled (happens small_carriers w c event) i ≡ is_settled w i
event_settled w (what.Start n) c i ne =
    ap (λ (x : Worker). is_at_rest x.stage)
    (other_with w c i (worker (with_more n (w.workers c).stage) (w.workers c).putting) ne)
event_settled w (what.Slice d) c i ne = refl

event_hand : (w : SmallWorld) (event : AtWhat) (c i : ℕ) →
    is_working ((happens small_carriers w c event).workers i).stage ≡ is_working (w.workers i).stage
event_hand w (what.Start n) c i =
    let x = worker (with_more n (w.workers c).stage) (w.workers c).putting in
    same_with (λ (y : Worker). is_working y.stage) w c i x (more_works n (w.workers c).stage)
event_hand w (what.Slice d) c i = refl

event_putting : (w : SmallWorld) (event : AtWhat) (c i : ℕ) →
    ((happens small_carriers w c event).workers i).putting ≡ (w.workers i).putting
event_putting w (what.Start n) c i =
    let x = worker (with_more n (w.workers c).stage) (w.workers c).putting in
    same_with (λ (y : Worker). y.putting) w c i x refl
event_putting w (what.Slice d) c i = refl

-- the worker of a carrier after its step
stepped : SmallWorld → ℕ → Worker
stepped w c = after_step (w.workers c).stage (w.workers c).putting

stepped_is : (w : SmallWorld) (c : ℕ) → (small_step w c).workers c ≡ stepped w c
unfolding stepped
stepped_is w c = self_with w c (stepped w c)

step_good : (w : SmallWorld) (ls : List AtLine) (c : ℕ) →
    ((i : ℕ) → steps_left (w.workers i).stage + added ls ≤ 100) → (i : ℕ) →
    steps_left ((small_step w c).workers i).stage + added ls ≤ 100
unfolding Within stepped
step_good w ls c h =
    all_with (Within ls) w c (stepped w c) (omega (arith, stepped_left (w.workers c).stage (w.workers c).putting, h c)) h

step_settled : (w : SmallWorld) (c i : ℕ) → i ≢ c → is_settled (small_step w c) i ≡ is_settled w i
unfolding stepped
step_settled w c i ne = ap (λ (x : Worker). is_at_rest x.stage) (other_with w c i (stepped w c) ne)

step_gives : (w : SmallWorld) (c : ℕ) → (w.workers c).putting ≡ true → is_working (w.workers c).stage ≡ true →
    is_working ((small_step w c).workers c).stage ≡ false
unfolding stepped
step_gives w c p h =
    let down = puts_down (w.workers c).stage h in
    let put = ap (λ (b : Bool). is_working (after_step (w.workers c).stage b).stage) p in
    ap (λ (x : Worker). is_working x.stage) (stepped_is w c) ∙ put ∙ down

step_falls : (w : SmallWorld) (c : ℕ) → is_settled (small_step w c) c ≡ false →
    Falls (small_facts.parts w c) (small_facts.parts (small_step w c) c)
unfolding stepped
step_falls w c s =
    let x = w.workers c in
    let open_now = sym (ap (λ (y : Worker). is_at_rest y.stage) (stepped_is w c)) ∙ s in
    let falls = work_falls x.stage x.putting open_now in
    let less = subst (λ (y : Worker). work_at y.stage y.putting < work_at x.stage x.putting) (sym (stepped_is w c)) falls in
    inr (inr (inl (omega arith, omega arith, less)))

step_all : (w : SmallWorld) (c : ℕ) → OthersSettled small_carriers w c → is_settled (small_step w c) c ≡ true → (i : ℕ) →
    i < 2 → is_settled (small_step w c) i ≡ true
step_all w c o s i l = elim (cases_eq i c) [
  | inl e ↦ subst (λ (j : ℕ). is_settled (small_step w c) j ≡ true) (sym e) s
  | inr ne ↦ step_settled w c i ne ∙ o i l ne
]

step_idle : (w : SmallWorld) (c : ℕ) → OthersSettled small_carriers w c → is_settled (small_step w c) c ≡ true →
    small_carriers.idles w c ≡ true
step_idle w c o s =
    let first = step_all w c o s 0 (omega arith) in
    let second = step_all w c o s 1 (omega arith) in
    and_true (is_settled (small_step w c) 0) (is_settled (small_step w c) 1) first second

park_good : (w : SmallWorld) (ls : List AtLine) (c : ℕ) →
    ((i : ℕ) → steps_left (w.workers i).stage + added ls ≤ 100) → (i : ℕ) →
    steps_left ((small_carriers.park w c).workers i).stage + added ls ≤ 100
unfolding Within
park_good w ls c h = all_with (Within ls) w c (worker (w.workers c).stage true) (h c) h

pub small_laws : ScheduleLaws SmallWorld small_carriers small_facts
small_laws = record {
  good_step = λ w ls c l good. step_good w ls c good;
  good_park = λ w ls c l good. park_good w ls c good;
  good_event = λ w l ls c i good. event_good w l.what ls c good;
  settled_step = step_settled;
  settled_event = event_settled;
  hand_step = λ w c i ne.
      ap (λ (x : Worker). is_working x.stage) (other_with w c i (after_step (w.workers c).stage (w.workers c).putting) ne);
  hand_event = event_hand;
  hand_park = λ w c i.
      same_with (λ (x : Worker). is_working x.stage) w c i (worker (w.workers c).stage true) refl;
  rests = λ w ls c l good s. rest_is_no_work (w.workers c).stage s;
  parked = λ w ls c l good. ap (λ (x : Worker). x.putting) (self_with w c (worker (w.workers c).stage true));
  putting_event = event_putting;
  gives = λ w ls c l good p h. step_gives w c p h;
  falls = λ w ls c l good alone s. step_falls w c s;
  fresh = λ w ls c l good s. tt;
  fresh_event = λ w event c i fresh. tt;
  fresh_step = λ w ls c l good alone others fresh. tt;
  idle = λ w ls c l good others fresh s. step_idle w c others s;
  finished = λ w c l good idle all. all;
}

pub small_good : (c : ℕ) → steps_left (small_world.workers c).stage + added small_script.at_lines ≤ 100
small_good zero = omega arith
small_good (suc c) = omega arith

-- THE SCHEDULE

-- the burst of carrier c that makes n steps before its last
abbrev burst_from : ℕ → ℕ → Moment SmallWorld → Burst SmallWorld
burst_from c n m = burst (idle_at small_carriers c (times small_carriers c n m)) (times small_carriers c (suc n) m)

-- where each burst begins
abbrev first_begins : Moment SmallWorld
first_begins = tail_begins small_carriers small_world small_script.at_lines small_script.turns

abbrev second_begins : Moment SmallWorld
second_begins = (burst_from 0 3 first_begins).after

-- the lines that are left happen, those of one step
abbrev with_least : Burst SmallWorld → Moment SmallWorld
with_least b = least small_carriers 1 b.after.world b.after.ahead

abbrev third_begins : Moment SmallWorld
third_begins = with_least (burst_from 1 1 second_begins)

abbrev fourth_begins : Moment SmallWorld
fourth_begins = with_least (burst_from 1 2 third_begins)

fourth_ends : TailOf small_carriers 0 1 fourth_begins worked_end
fourth_ends = (burst_from 1 1 fourth_begins, (1, (refl, (refl, refl))), refl, refl)

third_ends : TailOf small_carriers 1 1 third_begins worked_end
third_ends = (burst_from 1 2 third_begins, 1, fourth_begins, (2, (refl, (refl, (refl, refl)))), refl, fourth_ends)

second_ends : TailOf small_carriers 2 1 second_begins worked_end
second_ends = (burst_from 1 1 second_begins, 1, third_begins, (1, (refl, (refl, refl))), refl, third_ends)

first_ends : TailOf small_carriers 3 0 first_begins worked_end
first_ends = (burst_from 0 3 first_begins, 1, second_begins, (3, (refl, (refl, (refl, (refl, refl))))), refl, second_ends)

pub small_run : IsRun small_carriers small_script small_world worked_end
small_run = (3, first_ends)

pub small_turns : reverse worked_end.world.turns ≡ worked_turns
small_turns = refl
