-- Whose removal is still to come has its context: it is so at each moment.
use Rattle.std.proofs.Common.{◌≡◌, ◌≢◌, ℕ, Bool, true, false, refl, ap, subst, Option, Some, None, List, [], ◌∷◌}
use Rattle.k_ids.specs.declared.threads.ThreadId.{ThreadId}
use Rattle.k_ids.specs.declared.context_word.ContextWord.{ContextWord}
use Rattle.k_model.specs.Maps.{upd}
use Rattle.k_model.proofs.Maps.{upd_cases}
use Rattle.k_tokens.specs.World.{Condition, Absent, Awake, Asleep, Ended, Dead, ContextName, OfCarrier, OfThread, Stage}
use Rattle.k_tokens.specs.World.{Threads, World, has_switch, is_absent}
use Rattle.k_tokens.specs.World as stage
use Rattle.k_tokens.specs.Good.{IsGood}
use Rattle.k_tokens.specs.Grants.{Grants}
use Rattle.k_tokens.specs.Steps.{ThreadStep, after_step, made_by, removed_by}
use Rattle.k_tokens.specs.Steps as steps
use Rattle.k_switching.specs.Claims.{Granted}
use Rattle.k_switching.specs.Switch.{acquired_by, before_take, first_taken_by, first_taken_of, highest_filled, switch_step}
use Rattle.k_switching.specs.Rules.{Target, Helped, ItsOwn, ItsGoals, beginning, begins, carrier_step, carrier_step_by, given}
use Rattle.k_switching.specs.Rules.{given_own, gives, hand_step, has_switched, take_step, taken, taken_as_it_is, taken_goal}
use Rattle.k_switching.specs.Rules.{taken_own, target_of, target_step}
use Rattle.k_whole.specs.Whole.{HasVictims}

-- the same of the threads alone
abbrev VictimThere : Threads → Type 0
VictimThere threads = (who : ThreadId) → threads.victim ≡ Some who → is_absent (threads.condition who.number) ≡ false

there_is : (k : Condition) → k ≢ Absent → is_absent k ≡ false
there_is Absent n = absurd (n refl)
there_is Awake n = refl
there_is Asleep n = refl
there_is Ended n = refl
there_is Dead n = refl

-- where one number's context becomes another one that is there
one_there : (threads : Threads) (t : ℕ) (k : Condition) → is_absent k ≡ false → VictimThere threads →
    (who : ThreadId) → threads.victim ≡ Some who → is_absent (upd threads.condition t k who.number) ≡ false
one_there threads t k there h who e =
    upd_cases (λ x. is_absent x ≡ false) threads.condition t k who.number (λ _. there) (λ _. h who e)

-- A STEP OF A THREAD'S CONTEXT

removed_there : (threads : Threads) (o : Option ThreadId) → VictimThere threads → VictimThere (removed_by threads o)
removed_there threads None h = h
removed_there threads (Some other) h = λ who e. cc

made_there : (threads : Threads) (me priority : ℕ) (o : Option ℕ) → VictimThere threads →
    VictimThere (made_by threads me priority o)
made_there threads me priority None h = h
made_there threads me priority (Some number) h = h

module _ (w : World) (c me : ℕ) (good : IsGood w) (h : HasVictims w) where
  -- who is killed was there, and has its context
  killed_there : (number : ℕ) → w.threads.present number ≡ true → VictimThere (steps.killed w.threads number)
  killed_there number present who e =
      let same : number ≡ who.number = ap (λ (o : Option ThreadId). number_in o) e in
      subst (λ n. is_absent (w.threads.condition n) ≡ false) same
      (there_is (w.threads.condition number) (good.1.threads.here number present).0)
    where
      number_in : Option ThreadId → ℕ
      number_in None = 0
      number_in (Some x) = x.number

  step_there : (step : ThreadStep) → Grants w me step → HasVictims (after_step w c me step)
  step_there (steps.GoesOn held) grants = h
  step_there (steps.FindsOwned context wanted) grants = h
  step_there steps.FindsTaken grants = h
  step_there (steps.TurnsOn who) grants = h
  step_there steps.AcquiresReady grants = h
  step_there (steps.Pushes seen held above) grants = h
  step_there steps.AcquiresTable grants = h
  step_there (steps.ReleasesTable held) grants = h
  step_there (steps.Kills number) grants = killed_there number grants.2
  step_there (steps.Unlists held) grants = h
  step_there steps.Removes grants = removed_there w.threads w.threads.victim h
  step_there (steps.Places number) grants = one_there w.threads number Awake refl h
  step_there (steps.Makes priority) grants = made_there w.threads me priority w.threads.making h
  step_there steps.FallsAsleep grants = one_there w.threads me Asleep refl h
  step_there steps.Ends grants = one_there w.threads me Ended refl h
  step_there steps.Dies grants = one_there w.threads me Dead refl h

-- A SWITCH

first_there : (w : World) (d : ℕ) (p : Option ℕ) → HasVictims w → HasVictims (first_taken_by w d p)
first_there w d None h = h
first_there w d (Some p) h = go (w.lists p)
  where
    go : (l : List ThreadId) → HasVictims (first_taken_of w d p l)
    go [] = h
    go (who ∷ more) = h

switch_there : (w : World) (c d : ℕ) (s : Stage) → HasVictims w → HasVictims (switch_step w c d s)
switch_there w c d stage.NoSwitch h = h
switch_there w c d stage.AcquireReady h = go w.ready_owner
  where
    go : (o : Option ContextName) → HasVictims (acquired_by w c d o)
    go None = h
    go (Some owner) = h
switch_there w c d stage.LoadGoal h = h
switch_there w c d stage.LoadStart h = h
switch_there w c d stage.ReleaseReady h =
    first_there (before_take w d) d (highest_filled 64 (before_take w d).lists) h
switch_there w c d stage.Finished h = h

-- A GIVE, A LOOK AND A TAKE

given_there : (w : World) (c : ℕ) (x : ContextName) → HasVictims w → HasVictims (given w c x)
given_there w c (OfThread t) h = h
given_there w c (OfCarrier d) h = go (has_switched w c (OfCarrier d))
  where
    go : (b : Bool) → HasVictims (given_own w c d b)
    go false = h
    go true = h

as_it_is_there : (w : World) (c : ℕ) (x : ContextName) → HasVictims w → HasVictims (taken_as_it_is w c x)
as_it_is_there w c (OfThread t) h = h
as_it_is_there w c (OfCarrier d) h = h

goal_there : (w : World) (c t : ℕ) (k : Condition) → HasVictims w → HasVictims (taken_goal w c t k)
goal_there w c t Asleep h = one_there w.threads t Awake refl h
goal_there w c t Dead h = h
goal_there w c t Absent h = h
goal_there w c t Awake h = h
goal_there w c t Ended h = h

taken_there : (w : World) (c : ℕ) (target : Target) → HasVictims w → HasVictims (taken w c target)
taken_there w c (Helped context) h = as_it_is_there w c context h
taken_there w c ItsOwn h = go (has_switch (w.own c).stage)
  where
    go : (b : Bool) → HasVictims (taken_own w c b)
    go true = h
    go false = h
taken_there w c (ItsGoals who) h = goal_there w c who.number (w.threads.condition who.number) h

target_there : (w : World) (c : ℕ) (target : Target) (o : Option ContextWord) → HasVictims w →
    HasVictims (target_step w c target o)
target_there w c target None h = h
target_there w c target (Some word) h = go _
  where
    go : (b : Bool) → HasVictims (take_step w c target b)
    go true = taken_there w c target h
    go false = h

free_there : (w : World) (c : ℕ) (b : Bool) → HasVictims w →
    HasVictims (target_step (beginning w c b) c (target_of ((beginning w c b).carrier c)) ((beginning w c b).carrier c).looked)
free_there w c true h = target_there (beginning w c true) c _ _ h
free_there w c false h = target_there w c _ _ h

-- THE STEP OF A CARRIER

pub victims_stay : (w : World) (c : ℕ) (step : ThreadStep) → IsGood w → Granted w c step → HasVictims w →
    HasVictims (carrier_step w c step)
victims_stay w c step good granted h = by (w.carrier c).hand refl
  where
    with_hand : (x : ContextName) → (w.carrier c).hand ≡ Some x → (b : Bool) → gives w c (w.carrier c) x ≡ b →
        HasVictims (hand_step w c x step b)
    with_hand x hand true e = given_there w c x h
    with_hand (OfThread t) hand false e = step_there w c t good h step (granted t (record { hand = hand; kept = e }))
    with_hand (OfCarrier d) hand false e = switch_there w c d (w.own d).stage h

    by : (o : Option ContextName) → (w.carrier c).hand ≡ o → HasVictims (carrier_step_by w c step o)
    by None hand = free_there w c (begins (w.carrier c)) h
    by (Some x) hand = with_hand x hand (gives w c (w.carrier c) x) refl
