-- A step of a carrier leaves all other carriers as they are.
use Rattle.std.proofs.Common.{◌≡◌, ◌≢◌, ℕ, ◌<◌, ◌≤◌, Bool, true, false, refl, sym, ap, ◌∙◌}
use Rattle.std.proofs.Common.{subst, Option, Some, None, arith, List, [], ◌∷◌, inl, inr}
use Rattle.std.proofs.lemmas.Bool.{cases_lt}
use Rattle.k_ids.specs.declared.threads.ThreadId.{ThreadId}
use Rattle.k_ids.specs.declared.context_word.ContextWord.{ContextWord}
use Rattle.k_model.specs.Maps.{upd}
use Rattle.k_model.proofs.Maps.{upd_cases, upd_other}
use Rattle.k_tokens.specs.World.{Carrier, Condition, Absent, Awake, Asleep, Ended, Dead, ContextName}
use Rattle.k_tokens.specs.World.{OfCarrier, OfThread, Stage, World, has_switch, with_carrier}
use Rattle.k_tokens.specs.World as stage
use Rattle.k_tokens.specs.Steps.{ThreadStep, after_step}
use Rattle.k_tokens.specs.Steps as steps
use Rattle.k_switching.specs.Switch.{acquired_by, before_take, first_taken_by, first_taken_of, highest_filled, switch_step}
use Rattle.k_switching.specs.Rules.{Target, Helped, ItsOwn, ItsGoals, beginning, begins}
use Rattle.k_switching.specs.Rules.{carrier_step, carrier_step_by, given, given_own, gives}
use Rattle.k_switching.specs.Rules.{hand_step, has_switched, context_step, parked, sliced, started, take_step}
use Rattle.k_switching.specs.Rules.{taken, taken_goal, taken_own, target_of, target_step, taken_as_it_is}
use Rattle.k_whole.specs.Whole.{HandsWithin, StartsWithin}

-- there are as many carriers, and all but this one are as they were
pub record IsOfOne (c : ℕ) (w v : World) : Type 0 where
  pub carriers : v.carriers ≡ w.carriers
  pub others : (d : ℕ) → d ≢ c → v.carrier d ≡ w.carrier d

module _ (c : ℕ) where
  none : (w v : World) → v.carriers ≡ w.carriers → v.carrier ≡ w.carrier → IsOfOne c w v
  none w v e f = record { carriers = e; others = λ d _. ap (λ (m : ℕ → Carrier). m d) f }

  one : (w v : World) (k : Carrier) → v.carriers ≡ w.carriers → v.carrier ≡ upd w.carrier c k → IsOfOne c w v
  one w v k e f = record { carriers = e; others = λ d n. ap (λ (m : ℕ → Carrier). m d) f ∙ upd_other w.carrier c k d n }

  then : (w u v : World) → IsOfOne c w u → IsOfOne c u v → IsOfOne c w v
  then w u v h j = record { carriers = j.carriers ∙ h.carriers; others = λ d n. j.others d n ∙ h.others d n }

  thread_one : (w : World) (i : ℕ) (s : ThreadStep) → IsOfOne c w (after_step w c i s)
  thread_one w i (steps.GoesOn held) = none w _ refl refl
  thread_one w i (steps.FindsOwned context wanted) = one w _ _ refl refl
  thread_one w i steps.FindsTaken = none w _ refl refl
  thread_one w i (steps.TurnsOn who) = none w _ refl refl
  thread_one w i steps.AcquiresReady = none w _ refl refl
  thread_one w i (steps.Pushes seen held above) = one w _ _ refl refl
  thread_one w i steps.AcquiresTable = none w _ refl refl
  thread_one w i (steps.ReleasesTable held) = none w _ refl refl
  thread_one w i (steps.Kills number) = none w _ refl refl
  thread_one w i (steps.Unlists held) = none w _ refl refl
  thread_one w i steps.Removes = none w _ refl refl
  thread_one w i (steps.Places number) = none w _ refl refl
  thread_one w i (steps.Makes priority) = none w _ refl refl
  thread_one w i steps.FallsAsleep = one w _ _ refl refl
  thread_one w i steps.Ends = one w _ _ refl refl
  thread_one w i steps.Dies = one w _ _ refl refl

  first_one : (v : World) (d : ℕ) (p : Option ℕ) → IsOfOne c v (first_taken_by v d p)
  first_one v d None = none v _ refl refl
  first_one v d (Some p) = go (v.lists p)
    where
      go : (l : List ThreadId) → IsOfOne c v (first_taken_of v d p l)
      go [] = none v _ refl refl
      go (who ∷ more) = none v _ refl refl

  switch_one : (w : World) (d : ℕ) (s : Stage) → IsOfOne c w (switch_step w c d s)
  switch_one w d stage.NoSwitch = none w _ refl refl
  switch_one w d stage.AcquireReady = go w.ready_owner
    where
      go : (o : Option ContextName) → IsOfOne c w (acquired_by w c d o)
      go None = none w _ refl refl
      go (Some owner) = one w _ _ refl refl
  switch_one w d stage.LoadGoal = none w _ refl refl
  switch_one w d stage.LoadStart = none w _ refl refl
  switch_one w d stage.ReleaseReady =
      then w (before_take w d) _ (none w (before_take w d) refl refl)
      (first_one (before_take w d) d (highest_filled 64 (before_take w d).lists))
  switch_one w d stage.Finished = none w _ refl refl

  given_one : (w : World) (x : ContextName) → IsOfOne c w (given w c x)
  given_one w (OfThread t) = one w _ _ refl refl
  given_one w (OfCarrier d) = go (has_switched w c (OfCarrier d))
    where
      go : (b : Bool) → IsOfOne c w (given_own w c d b)
      go false = one w _ _ refl refl
      go true = one w _ _ refl refl

  context_one : (w : World) (x : ContextName) (s : ThreadStep) → IsOfOne c w (context_step w c x s)
  context_one w (OfThread t) s = thread_one w t s
  context_one w (OfCarrier d) s = switch_one w d (w.own d).stage

  hand_one : (w : World) (x : ContextName) (s : ThreadStep) (b : Bool) → IsOfOne c w (hand_step w c x s b)
  hand_one w x s true = given_one w x
  hand_one w x s false = context_one w x s

  as_it_is_one : (w : World) (x : ContextName) → IsOfOne c w (taken_as_it_is w c x)
  as_it_is_one w (OfThread t) = one w _ _ refl refl
  as_it_is_one w (OfCarrier d) = one w _ _ refl refl

  goal_one : (w : World) (t : ℕ) (k : Condition) → IsOfOne c w (taken_goal w c t k)
  goal_one w t Asleep = one w _ _ refl refl
  goal_one w t Dead = one w _ _ refl refl
  goal_one w t Absent = one w _ _ refl refl
  goal_one w t Awake = one w _ _ refl refl
  goal_one w t Ended = one w _ _ refl refl

  taken_one : (w : World) (t : Target) → IsOfOne c w (taken w c t)
  taken_one w (Helped context) = as_it_is_one w context
  taken_one w ItsOwn = go (has_switch (w.own c).stage)
    where
      go : (b : Bool) → IsOfOne c w (taken_own w c b)
      go true = one w _ _ refl refl
      go false = one w _ _ refl refl
  taken_one w (ItsGoals who) = goal_one w who.number (w.threads.condition who.number)

  take_one : (w : World) (t : Target) (b : Bool) → IsOfOne c w (take_step w c t b)
  take_one w t true = taken_one w t
  take_one w t false = one w _ _ refl refl

  target_one : (w : World) (t : Target) (o : Option ContextWord) → IsOfOne c w (target_step w c t o)
  target_one w t None = one w _ _ refl refl
  target_one w t (Some word) = take_one w t _

  beginning_one : (w : World) (b : Bool) → IsOfOne c w (beginning w c b)
  beginning_one w true = one w _ _ refl refl
  beginning_one w false = none w _ refl refl

  step_by_one : (w : World) (s : ThreadStep) (o : Option ContextName) → IsOfOne c w (carrier_step_by w c s o)
  step_by_one w s (Some x) = hand_one w x s (gives w c (w.carrier c) x)
  step_by_one w s None =
      let v = beginning w c (begins (w.carrier c)) in
      then w v _ (beginning_one w (begins (w.carrier c))) (target_one v (target_of (v.carrier c)) (v.carrier c).looked)

  pub step_one : (w : World) (s : ThreadStep) → IsOfOne c w (carrier_step w c s)
  step_one w s = step_by_one w s (w.carrier c).hand

-- HANDS

some_not : {A : Type 0} {o : Option A} {x : A} → o ≡ None → o ≡ Some x → ⊥
some_not e f = cc

apart : (w : World) (c d : ℕ) → c < w.carriers → w.carriers ≤ d → d ≢ c
apart w c d low far e = omega (arith, e, low, far)

pub hands_stay : (w : World) (c : ℕ) (s : ThreadStep) → c < w.carriers → HandsWithin w → HandsWithin (carrier_step w c s)
hands_stay w c s low h d far =
    let k = step_one c w s in
    let beyond : w.carriers ≤ d = subst (λ (n : ℕ). n ≤ d) k.carriers far in
    ap (λ (x : Carrier). x.hand) (k.others d (apart w c d low beyond)) ∙ h d beyond

-- a carrier with a context in hand is one of those that there are
pub hand_within : (w : World) (c : ℕ) (x : ContextName) → HandsWithin w → (w.carrier c).hand ≡ Some x → c < w.carriers
hand_within w c x h e = elim (cases_lt c w.carriers) [ inl l ↦ l | inr l ↦ absurd (some_not (h c l) e) ]

same_hands : (w v : World) → v.carriers ≡ w.carriers → ((d : ℕ) → (v.carrier d).hand ≡ (w.carrier d).hand) → HandsWithin w →
    HandsWithin v
same_hands w v e f h d far = f d ∙ h d (subst (λ (n : ℕ). n ≤ d) e far)

changed_hand : (w : World) (c : ℕ) (k : Carrier) → k.hand ≡ (w.carrier c).hand → (d : ℕ) →
    (upd w.carrier c k d).hand ≡ (w.carrier d).hand
changed_hand w c k e d =
    upd_cases (λ (x : Carrier). x.hand ≡ (w.carrier d).hand) w.carrier c k d (λ q. e ∙ ap (λ (n : ℕ). (w.carrier n).hand) (sym q))
    (λ _. refl)

module _ (w : World) (c : ℕ) (h : HandsWithin w) where
  pub started_hands : (t : ℕ) → HandsWithin (started w c t)
  started_hands t = same_hands w (started w c t) refl (changed_hand w c _ refl) h

  pub sliced_hands : HandsWithin (sliced w c)
  sliced_hands = same_hands w (sliced w c) refl (changed_hand w c _ refl) h

  pub parked_hands : HandsWithin (parked w c)
  parked_hands = same_hands w (parked w c) refl (changed_hand w c _ refl) h

-- STARTS

pub starts_left : (w v : World) (c : ℕ) → c < w.carriers → IsOfOne c w v → StartsWithin w → StartsWithin v
starts_left w v c low k h d t far =
    let beyond : w.carriers ≤ d = subst (λ (n : ℕ). n ≤ d) k.carriers far in
    ap (λ (x : Carrier). x.starts t) (k.others d (apart w c d low beyond)) ∙ h d t beyond

pub starts_stay : (w : World) (c : ℕ) (s : ThreadStep) → c < w.carriers → StartsWithin w → StartsWithin (carrier_step w c s)
starts_stay w c s low h = starts_left w (carrier_step w c s) c low (step_one c w s) h

pub started_starts : (w : World) (c t : ℕ) → c < w.carriers → StartsWithin w → StartsWithin (started w c t)
started_starts w c t low h = starts_left w (started w c t) c low (one c w (started w c t) _ refl refl) h

-- who has the same starts as before
pub same_starts : (w : World) (c : ℕ) (k : Carrier) → k.starts ≡ (w.carrier c).starts → StartsWithin w →
    StartsWithin (with_carrier w c k)
same_starts w c k e h d t far =
    upd_cases (λ (x : Carrier). x.starts t ≡ false) w.carrier c k d
    (λ q. ap (λ (f : ℕ → Bool). f t) e ∙ h c t (subst (λ (n : ℕ). w.carriers ≤ n) q far)) (λ _. h d t far)
