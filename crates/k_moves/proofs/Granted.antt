-- A step that a location grants, and what is told of it, are of one kind.
use Rattle.std.proofs.Common.{◌≡◌, ℕ, Bool, true, false, refl, sym, ap, ◌∙◌, subst, Option, Some, None, ◌⊎◌, inl, inr}
use Rattle.std.specs.Prelude.{if◌then◌else◌}
use Rattle.k_ids.specs.declared.threads.ThreadId.{ThreadId}
use Rattle.k_ids.specs.declared.state_word.StateWord.{StateWord}
use Rattle.k_model.proofs.Maps.{upd_cases, upd_same}
use Rattle.k_locks.specs.declared.locks.Lock.{Lock}
use Rattle.k_locks.specs.declared.steps.Answer.{Answer}
use Rattle.k_locks.specs.declared.steps.Answer.TheVariants as answer
use Rattle.k_locks.specs.declared.steps.Told.{Told}
use Rattle.k_locks.specs.declared.steps.Told.TheVariants as told
use Rattle.k_locks.specs.declared.steps.Went.{Went}
use Rattle.k_locks.specs.declared.steps.Went.TheVariants as went
use Rattle.k_locks.specs.Steps.{is_again}
use Rattle.k_caller.specs.declared.activity.Activity.{Activity}
use Rattle.k_caller.specs.declared.activity.Activity.TheVariants as activity
use Rattle.k_caller.specs.declared.ran.Ran.{Ran}
use Rattle.k_caller.specs.declared.ran.Ran.TheVariants as ran
use Rattle.k_caller.specs.declared.thread.ThreadLocation.{ThreadLocation}
use Rattle.k_caller.specs.declared.thread.ThreadLocation.TheVariants as location
use Rattle.k_caller.specs.Activities as activities
use Rattle.k_caller.specs.Waits as alone
use Rattle.k_caller.specs.Threads.{ThreadSeen, moved, ran_of, resumed}
use Rattle.k_ipc.specs.SendTable as send
use Rattle.k_ipc.specs.ReceiveTable as receive
use Rattle.k_threads.specs.CreateTable as create
use Rattle.k_threads.specs.DestroyTable as destroy
use Rattle.k_locks.specs.Asks.{response_of}
use Rattle.k_switch.specs.declared.goal.Goal.{Goal}
use Rattle.k_carrier.specs.Resumed.{told_in}
use Rattle.k_tokens.specs.World.{Condition, Absent, Awake, Asleep, Ended, Dead, World}
use Rattle.k_tokens.specs.Good.{Holder}
use Rattle.k_tokens.specs.Grants.{Grants, IsRun}
use Rattle.k_tokens.specs.Steps.{ThreadStep, GoesOn, FindsOwned, FindsTaken, TurnsOn, AcquiresReady}
use Rattle.k_tokens.specs.Steps.{Pushes, AcquiresTable, ReleasesTable, Kills, Unlists, Removes, Places}
use Rattle.k_tokens.specs.Steps.{Makes, FallsAsleep, Ends, Dies, after_step, made_by, removed_by}
use Rattle.k_grants.specs.Granted.{IsFound, IsMade, IsWait}
use Rattle.k_moves.specs.Views.{condition_of}
use Rattle.k_moves.specs.Told.{IsFree, IsPush, IsQuiet, IsTold, PushesFor, above_by, finding_by, wait_by}

-- WHAT IS TOLD OF A STEP, and what its context is at then

abbrev pub AreAgreed : Ran → Condition → Type 0
AreAgreed ran.Left x = (x ≡ Asleep) ⊎ (x ≡ Ended)
AreAgreed ran.Dead x = x ≡ Dead
AreAgreed r x = x ≡ Awake

alone_agreed : (serial : ℕ) (p : ThreadLocation) → AreAgreed (alone.ran_to serial p) (condition_of (activity.Alone p))
alone_agreed serial (location.Between None) = refl
alone_agreed serial (location.Between (Some r)) = refl
alone_agreed serial location.FallAsleep = refl
alone_agreed serial location.LookAgain = refl
alone_agreed serial (location.LoadMail id) = refl
alone_agreed serial (location.Work count) = refl
alone_agreed serial location.CommitEnd = refl
alone_agreed serial location.Asleep = inl refl
alone_agreed serial location.Ended = inr refl
alone_agreed serial location.Dead = refl

went_agreed : (serial : ℕ) (me : ThreadId) (own : StateWord) (a : Activity) → condition_of a ≡ Awake → (x : Went) →
    AreAgreed (activities.ran_after serial x) (condition_of (activities.after_went me own a x))
went_agreed serial me own a e went.On = e
went_agreed serial me own a e went.Again = e
went_agreed serial me own a e (went.Pushed p) = e
went_agreed serial me own a e went.Waits = refl
went_agreed serial me own a e (went.Ends r) = refl
went_agreed serial me own a e went.CallerDead = refl
went_agreed serial me own a e went.Picks = refl

step_agreed : (serial : ℕ) (me : ThreadId) (own : StateWord) (x : Activity) (a : Answer) →
    AreAgreed (activities.ran_at serial me own x a) (condition_of (activities.activity_after me own x a))
step_agreed serial me own (activity.Alone p) a = alone_agreed serial (alone.leads p (response_of a (alone.ask_of me own p)))
step_agreed serial me own (activity.Send s) a =
    went_agreed serial me _ (activity.Send (send.resumed s a)) refl (activities.section_went (activity.Send s) a)
step_agreed serial me own (activity.Receive s) a =
    went_agreed serial me _ (activity.Receive (receive.resumed s a)) refl (activities.section_went (activity.Receive s) a)
step_agreed serial me own (activity.Create s) a =
    went_agreed serial me _ (activity.Create (create.resumed s a)) refl (activities.section_went (activity.Create s) a)
step_agreed serial me own (activity.Destroy s) a =
    went_agreed serial me _ (activity.Destroy (destroy.resumed s a)) refl (activities.section_went (activity.Destroy s) a)

thread_agreed : (t : ThreadSeen) (a : Answer) → is_again a ≡ false → AreAgreed (ran_of t a) (condition_of (resumed t a).activity)
thread_agreed t a e =
    subst (λ (b : Bool). AreAgreed (if b then ran.Again else activities.ran_at t.serial t.id t.own t.activity a)
    (condition_of (if b then t else moved t a).activity)) (sym e) (step_agreed t.serial t.id t.own t.activity a)

-- by the condition
is_left : (r : Ran) (x : Condition) → AreAgreed r x → (x ≡ Asleep) ⊎ (x ≡ Ended) → r ≡ ran.Left
is_left ran.Left x h e = refl
is_left ran.Dead x h (inl e) = absurd (let z : Dead ≡ Asleep = sym h ∙ e in cc)
is_left ran.Dead x h (inr e) = absurd (let z : Dead ≡ Ended = sym h ∙ e in cc)
is_left ran.On x h (inl e) = absurd (let z : Awake ≡ Asleep = sym h ∙ e in cc)
is_left ran.On x h (inr e) = absurd (let z : Awake ≡ Ended = sym h ∙ e in cc)
is_left ran.Again x h (inl e) = absurd (let z : Awake ≡ Asleep = sym h ∙ e in cc)
is_left ran.Again x h (inr e) = absurd (let z : Awake ≡ Ended = sym h ∙ e in cc)
is_left (ran.Pushed p) x h (inl e) = absurd (let z : Awake ≡ Asleep = sym h ∙ e in cc)
is_left (ran.Pushed p) x h (inr e) = absurd (let z : Awake ≡ Ended = sym h ∙ e in cc)
is_left (ran.Replied s y) x h (inl e) = absurd (let z : Awake ≡ Asleep = sym h ∙ e in cc)
is_left (ran.Replied s y) x h (inr e) = absurd (let z : Awake ≡ Ended = sym h ∙ e in cc)

is_died : (r : Ran) (x : Condition) → AreAgreed r x → x ≡ Dead → r ≡ ran.Dead
is_died ran.Dead x h e = refl
is_died ran.Left x (inl h) e = absurd (let z : Asleep ≡ Dead = sym h ∙ e in cc)
is_died ran.Left x (inr h) e = absurd (let z : Ended ≡ Dead = sym h ∙ e in cc)
is_died ran.On x h e = absurd (let z : Awake ≡ Dead = sym h ∙ e in cc)
is_died ran.Again x h e = absurd (let z : Awake ≡ Dead = sym h ∙ e in cc)
is_died (ran.Pushed p) x h e = absurd (let z : Awake ≡ Dead = sym h ∙ e in cc)
is_died (ran.Replied s y) x h e = absurd (let z : Awake ≡ Dead = sym h ∙ e in cc)

-- neither asleep, nor at its end, nor dead
abbrev pub IsUp : Condition → Type 0
IsUp Absent = Unit {0}
IsUp Awake = Unit {0}
IsUp Asleep = ⊥
IsUp Ended = ⊥
IsUp Dead = ⊥

up_quiet : (r : Ran) (x : Condition) → AreAgreed r x → IsUp x → ((p : ℕ) → r ≡ ran.Pushed p → ⊥) → IsQuiet r
up_quiet ran.On x h u never = tt
up_quiet ran.Again x h u never = tt
up_quiet (ran.Replied s y) x h u never = tt
up_quiet (ran.Pushed p) x h u never = never p refl
up_quiet ran.Left x (inl h) u never = subst IsUp h u
up_quiet ran.Left x (inr h) u never = subst IsUp h u
up_quiet ran.Dead x h u never = subst IsUp h u

up_pushes : (goal : Option Goal) (r : Ran) (x : Condition) → AreAgreed r x → IsUp x → PushesFor goal r (above_by goal r)
up_pushes goal ran.On x h u = (tt, refl)
up_pushes goal ran.Again x h u = (tt, refl)
up_pushes goal (ran.Replied s y) x h u = (tt, refl)
up_pushes goal (ran.Pushed p) x h u = refl
up_pushes goal ran.Left x (inl h) u = absurd (subst IsUp h u)
up_pushes goal ran.Left x (inr h) u = absurd (subst IsUp h u)
up_pushes goal ran.Dead x h u = absurd (subst IsUp h u)

free_told : (a : Answer) → is_again a ≡ false → IsFree (told_in a)
free_told (answer.Got g) e = tt
free_told (answer.Told (told.Owned i)) e = absurd cc
free_told (answer.Told (told.Holds i)) e = absurd cc
free_told (answer.Told (told.Taken i d)) e = absurd cc
free_told (answer.Told (told.Loaded b)) e = tt
free_told (answer.Told told.Stored) e = tt
free_told (answer.Told told.Won) e = tt
free_told (answer.Told (told.Lost b)) e = tt
free_told (answer.Told told.Released) e = tt
free_told (answer.Told told.Placed) e = tt
free_told (answer.Told told.Removed) e = tt

module _ (w : World) (c size me : ℕ) (goal : Option Goal) (l : Option Lock) (t : ThreadSeen) (a : Answer) where
  waits_told : is_again a ≡ true → (r : Ran) → IsQuiet r → IsTold w c size me goal l (told_in a) r (wait_by size l (told_in a))
  waits_told e r q = by a e
    where
      by : (x : Answer) → is_again x ≡ true → IsTold w c size me goal l (told_in x) r (wait_by size l (told_in x))
      by (answer.Told (told.Owned i)) z = ((refl, refl), q)
      by (answer.Told (told.Holds i)) z = ((refl, refl), q)
      by (answer.Told (told.Taken i d)) z = (tt, q)
      by (answer.Got g) z = absurd cc
      by (answer.Told (told.Loaded b)) z = absurd cc
      by (answer.Told told.Stored) z = absurd cc
      by (answer.Told told.Won) z = absurd cc
      by (answer.Told (told.Lost b)) z = absurd cc
      by (answer.Told told.Released) z = absurd cc
      by (answer.Told told.Placed) z = absurd cc
      by (answer.Told told.Removed) z = absurd cc

  module _ (s : ThreadStep) (holder : ThreadId → Holder) (run : IsRun w c me holder) (grants : Grants w me s)
      (after : (after_step w c me s).threads.condition me ≡ condition_of (resumed t a).activity)
      (pushed : (p : ℕ) → ran_of t a ≡ ran.Pushed p → IsPush s) where
    abbrev R : Ran
    R = ran_of t a

    module _ (e : is_again a ≡ false) where
      agreed : AreAgreed R (condition_of (resumed t a).activity)
      agreed = thread_agreed t a e

      up : IsUp ((after_step w c me s).threads.condition me) → (IsPush s → ⊥) → IsFree (told_in a) × IsQuiet R
      up u never = (
        free_told a e,
        up_quiet R (condition_of (resumed t a).activity) agreed (subst IsUp after u)
            (λ p q. never (pushed p q)),
      )

    removed_up : (v : Option ThreadId) → IsUp ((removed_by w.threads v).condition me)
    removed_up None = subst IsUp (sym run.awake) tt
    removed_up (Some who) = upd_cases IsUp w.threads.condition who.number Absent me (λ _. tt) (λ _. subst IsUp (sym run.awake) tt)

    made_up : (p : ℕ) (v : Option ℕ) → IsUp ((made_by w.threads me p v).condition me)
    made_up p None = subst IsUp (sym run.awake) tt
    made_up p (Some n) = subst IsUp (sym run.awake) tt

  granted_made : (s : ThreadStep) (holder : ThreadId → Holder) (run : IsRun w c me holder) (grants : Grants w me s)
      (after : (after_step w c me s).threads.condition me ≡ condition_of (resumed t a).activity)
      (pushed : (p : ℕ) → ran_of t a ≡ ran.Pushed p → IsPush s) → is_again a ≡ false → IsMade (above_by goal (ran_of t a)) s →
      IsTold w c size me goal l (told_in a) (ran_of t a) s
  granted_made (FindsOwned context wanted) holder run grants after pushed e made = absurd made
  granted_made FindsTaken holder run grants after pushed e made = absurd made
  granted_made (Pushes seen held above) holder run grants after pushed e made = (
    free_told a e,
    subst (PushesFor goal (ran_of t a)) (sym made)
        (up_pushes goal (ran_of t a) (condition_of (resumed t a).activity) (thread_agreed t a e)
        (subst IsUp after (subst IsUp (sym run.awake) tt))),
  )
  granted_made FallsAsleep holder run grants after pushed e made = (
    free_told a e,
    is_left (ran_of t a) (condition_of (resumed t a).activity) (thread_agreed t a e)
        (inl (sym after ∙ upd_same w.threads.condition me Asleep)),
    (run.free grants.1).0,
  )
  granted_made Ends holder run grants after pushed e made = (
    free_told a e,
    is_left (ran_of t a) (condition_of (resumed t a).activity) (thread_agreed t a e)
        (inr (sym after ∙ upd_same w.threads.condition me Ended)),
    (run.free grants.1).0,
  )
  granted_made Dies holder run grants after pushed e made = (
    free_told a e,
    is_died (ran_of t a) (condition_of (resumed t a).activity) (thread_agreed t a e)
        (sym after ∙ upd_same w.threads.condition me Dead),
  )
  granted_made (GoesOn held) holder run grants after pushed e made =
      up (GoesOn held) holder run grants after pushed e (subst IsUp (sym run.awake) tt) (λ x. x)
  granted_made (TurnsOn who) holder run grants after pushed e made =
      up (TurnsOn who) holder run grants after pushed e (subst IsUp (sym run.awake) tt) (λ x. x)
  granted_made AcquiresReady holder run grants after pushed e made =
      up AcquiresReady holder run grants after pushed e (subst IsUp (sym run.awake) tt) (λ x. x)
  granted_made AcquiresTable holder run grants after pushed e made =
      up AcquiresTable holder run grants after pushed e (subst IsUp (sym run.awake) tt) (λ x. x)
  granted_made (ReleasesTable held) holder run grants after pushed e made =
      up (ReleasesTable held) holder run grants after pushed e (subst IsUp (sym run.awake) tt) (λ x. x)
  granted_made (Kills number) holder run grants after pushed e made =
      up (Kills number) holder run grants after pushed e (subst IsUp (sym run.awake) tt) (λ x. x)
  granted_made (Unlists held) holder run grants after pushed e made =
      up (Unlists held) holder run grants after pushed e (subst IsUp (sym run.awake) tt) (λ x. x)
  granted_made Removes holder run grants after pushed e made =
      up Removes holder run grants after pushed e (removed_up Removes holder run grants after pushed w.threads.victim) (λ x. x)
  granted_made (Places number) holder run grants after pushed e made =
      up (Places number) holder run grants after pushed e (upd_cases IsUp w.threads.condition number Awake me (λ _. tt)
      (λ _. subst IsUp (sym run.awake) tt)) (λ x. x)
  granted_made (Makes priority) holder run grants after pushed e made =
      up (Makes priority) holder run grants after pushed e (made_up
      (Makes priority) holder run grants after pushed priority w.threads.making) (λ x. x)

  pub granted_told : (s : ThreadStep) (holder : ThreadId → Holder) → IsRun w c me holder → Grants w me s →
      IsFound (finding_by size goal l (told_in a) (ran_of t a)) (is_again a) s →
      (after_step w c me s).threads.condition me ≡ condition_of (resumed t a).activity →
      ((p : ℕ) → ran_of t a ≡ ran.Pushed p → IsPush s) → IsTold w c size me goal l (told_in a) (ran_of t a) s
  granted_told s holder run grants found after pushed = by (is_again a) refl found
    where
      by : (b : Bool) → is_again a ≡ b → IsFound (finding_by size goal l (told_in a) (ran_of t a)) b s →
          IsTold w c size me goal l (told_in a) (ran_of t a) s
      by true e f =
          subst (IsTold w c size me goal l (told_in a) (ran_of t a)) (sym f)
          (waits_told e (ran_of t a) (subst IsQuiet
          (sym (ap (λ (b : Bool). if b then ran.Again else activities.ran_at t.serial t.id t.own t.activity a) e)) tt))
      by false e f = granted_made s holder run grants after pushed e f

pub waits_so : (size : ℕ) (l : Option Lock) (t : Option Told) → IsWait (wait_by size l t)
waits_so size l None = tt
waits_so size l (Some (told.Owned i)) = tt
waits_so size l (Some (told.Holds i)) = tt
waits_so size l (Some (told.Taken i d)) = tt
waits_so size l (Some (told.Loaded b)) = tt
waits_so size l (Some told.Stored) = tt
waits_so size l (Some told.Won) = tt
waits_so size l (Some (told.Lost b)) = tt
waits_so size l (Some told.Released) = tt
waits_so size l (Some told.Placed) = tt
waits_so size l (Some told.Removed) = tt
