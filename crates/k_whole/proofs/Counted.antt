-- A carrier that has a context in hand, and isn't switching, is counted as running a thread: it is so at each moment.
use Rattle.std.proofs.Common.{◌≡◌, ℕ, ◌<◌, Bool, true, false, not, refl, sym, ap, ◌∙◌, subst, Option, Some, None}
use Rattle.std.proofs.Common.{List, [], ◌∷◌, inl, inr}
use Rattle.std.specs.Prelude.{is_some, if◌then◌else◌, ◌&&◌, ◌||◌}
use Rattle.std.proofs.lemmas.Bool.Decides.{eqb_tells}
use Rattle.k_ids.specs.declared.threads.ThreadId.{ThreadId}
use Rattle.k_ids.specs.declared.context_word.ContextWord.{ContextWord}
use Rattle.k_ids.specs.declared.context_word.ContextWord.TheVariants.{Empty, Clean, Holds, Taken}
use Rattle.k_model.specs.Maps.{upd}
use Rattle.k_model.proofs.Maps.{upd_cases, upd_same}
use Rattle.k_tokens.specs.World.{Carrier, Condition, Absent, Awake, Asleep, Ended, Dead, ContextName, OfCarrier, OfThread}
use Rattle.k_tokens.specs.World.{Stage, World, goal_of, has_switch, with_carrier}
use Rattle.k_tokens.specs.World as stage
use Rattle.k_tokens.specs.Good.{IsGood}
use Rattle.k_tokens.specs.Steps.{ThreadStep, after_step}
use Rattle.k_tokens.specs.Steps as steps
use Rattle.k_tokens.proofs.Keeping.{no_switch}
use Rattle.k_switching.specs.Switch.{acquired_by, before_take, first_taken_by, first_taken_of, highest_filled, switch_step}
use Rattle.k_switching.specs.Rules.{Target, Helped, ItsOwn, ItsGoals, after_look, beginning, begins, carrier_step}
use Rattle.k_switching.specs.Rules.{carrier_step_by, given, given_own, gives, hand_step, has_switched, is_interrupted, looking_if}
use Rattle.k_switching.specs.Rules.{parked, put_down, sliced, started, switched_to, switching_begun, take_step, taken}
use Rattle.k_switching.specs.Rules.{context_at, taken_as_it_is, taken_goal, taken_own, target_of, target_step, word_of}
use Rattle.k_whole.specs.Whole.{HandsCounted}
use Rattle.k_whole.proofs.Hands.{step_one}

-- the same of one carrier
abbrev pub IsHandCounted : Carrier → Type 0
IsHandCounted k = (context : ContextName) → k.hand ≡ Some context → k.switching ≡ false → k.counted ≡ true

-- and of one that takes a context next
abbrev IsReady : Carrier → Type 0
IsReady k = k.switching ≡ false → k.counted ≡ true

without_hand : (k : Carrier) → k.hand ≡ None → IsHandCounted k
without_hand k none x e = let no : None ≡ Some x = sym none ∙ e in cc

-- A carrier without a context in hand that doesn't begin to switch has a goal, unless it is switching, and is counted then.
ready_counted : (w : World) (c : ℕ) → IsGood w → begins (w.carrier c) ≡ false → IsReady (w.carrier c)
ready_counted w c good quiet off = by (w.carrier c).goal refl
  where
    none : has_switch (w.own c).stage ≡ false
    none = no_switch (good.1.carriers c) off

    goal_there : (a s : Bool) → (a || (not s && not false)) ≡ false → s ≡ false → ⊥
    goal_there true s e f = cc
    goal_there false true e f = cc
    goal_there false false e f = cc

    by : (o : Option ThreadId) → (w.carrier c).goal ≡ o → (w.carrier c).counted ≡ true
    by None goal =
        absurd (goal_there (is_interrupted (w.carrier c)) (w.carrier c).switching
        (ap (λ (x : Option ThreadId). is_interrupted (w.carrier c) || (not (w.carrier c).switching && not (is_some x))) (sym goal)
        ∙ quiet) off)
    by (Some who) goal =
        let own : goal_of (w.own c) (w.carrier c) ≡ Some who =
        ap (λ x. if x then (w.own c).goal else (w.carrier c).goal) none ∙ goal in
        ap (λ x. if x then (w.own c).counted else (w.carrier c).counted) (sym none) ∙ (good.1.carriers c).counted who own

-- OF THIS CARRIER

module _ (c : ℕ) where
  -- the carrier `c` of the world
  abbrev Here : World → Type 0
  Here w = IsHandCounted (w.carrier c)

  becomes : (m : ℕ → Carrier) (k : Carrier) → IsHandCounted k → IsHandCounted (upd m c k c)
  becomes m k h = subst IsHandCounted (sym (upd_same m c k)) h

  thread_counted : (w : World) (i : ℕ) (s : ThreadStep) → Here w → Here (after_step w c i s)
  thread_counted w i (steps.GoesOn held) h = h
  thread_counted w i (steps.FindsOwned context wanted) h = becomes w.carrier _ h
  thread_counted w i steps.FindsTaken h = h
  thread_counted w i (steps.TurnsOn who) h = h
  thread_counted w i steps.AcquiresReady h = h
  thread_counted w i (steps.Pushes seen held above) h = becomes w.carrier _ h
  thread_counted w i steps.AcquiresTable h = h
  thread_counted w i (steps.ReleasesTable held) h = h
  thread_counted w i (steps.Kills number) h = h
  thread_counted w i (steps.Unlists held) h = h
  thread_counted w i steps.Removes h = h
  thread_counted w i (steps.Places number) h = h
  thread_counted w i (steps.Makes priority) h = h
  thread_counted w i steps.FallsAsleep h = becomes w.carrier _ h
  thread_counted w i steps.Ends h = becomes w.carrier _ h
  thread_counted w i steps.Dies h = becomes w.carrier _ h

  first_counted : (v : World) (d : ℕ) (p : Option ℕ) → Here v → Here (first_taken_by v d p)
  first_counted v d None h = h
  first_counted v d (Some p) h = go (v.lists p)
    where
      go : (l : List ThreadId) → Here (first_taken_of v d p l)
      go [] = h
      go (who ∷ more) = h

  switch_counted : (w : World) (d : ℕ) (s : Stage) → Here w → Here (switch_step w c d s)
  switch_counted w d stage.NoSwitch h = h
  switch_counted w d stage.AcquireReady h = go w.ready_owner
    where
      go : (o : Option ContextName) → Here (acquired_by w c d o)
      go None = h
      go (Some owner) = becomes w.carrier _ h
  switch_counted w d stage.LoadGoal h = h
  switch_counted w d stage.LoadStart h = h
  switch_counted w d stage.ReleaseReady h =
      first_counted (before_take w d) d (highest_filled 64 (before_take w d).lists) h
  switch_counted w d stage.Finished h = h

  -- who has given what it had in hand has none
  put_down_counted : (w : World) (x : ContextName) → IsHandCounted (put_down w (w.carrier c) x)
  put_down_counted w x y e off = cc

  given_counted : (w : World) (x : ContextName) → Here (given w c x)
  given_counted w (OfThread t) = becomes w.carrier _ (put_down_counted w (OfThread t))
  given_counted w (OfCarrier d) = go (has_switched w c (OfCarrier d))
    where
      go : (b : Bool) → Here (given_own w c d b)
      go false = becomes w.carrier (put_down w (w.carrier c) (OfCarrier d)) (put_down_counted w (OfCarrier d))
      go true = becomes w.carrier (switched_to (put_down w (w.carrier c) (OfCarrier d)) (w.own d)) (λ y e off. cc)

  -- a look leaves the hand
  looking_hand : (b : Bool) (k : Carrier) (word : ContextWord) → (looking_if b k word).hand ≡ k.hand
  looking_hand true k word = refl
  looking_hand false k word = refl

  look_hand : (k : Carrier) (t : Target) (word : ContextWord) → (after_look k t word).hand ≡ k.hand
  look_hand k (Helped context) Empty = refl
  look_hand k (Helped context) (Clean v) = refl
  look_hand k (Helped context) (Holds v) = refl
  look_hand k (Helped context) (Taken d v) = refl
  look_hand k ItsOwn Empty = refl
  look_hand k ItsOwn (Clean v) = refl
  look_hand k ItsOwn (Holds v) = refl
  look_hand k ItsOwn (Taken d v) = refl
  look_hand k (ItsGoals who) Empty = refl
  look_hand k (ItsGoals who) (Clean v) = looking_hand _ k (Clean v)
  look_hand k (ItsGoals who) (Holds v) = looking_hand _ k (Holds v)
  look_hand k (ItsGoals who) (Taken d v) = refl

  as_it_is_counted : (w : World) (x : ContextName) → IsReady (w.carrier c) → Here (taken_as_it_is w c x)
  as_it_is_counted w (OfThread t) r = becomes w.carrier _ (λ y e off. r off)
  as_it_is_counted w (OfCarrier d) r = becomes w.carrier _ (λ y e off. r off)

  goal_counted : (w : World) (t : ℕ) (k : Condition) → IsReady (w.carrier c) → Here (taken_goal w c t k)
  goal_counted w t Asleep r = becomes w.carrier _ (λ y e off. r off)
  goal_counted w t Dead r = becomes w.carrier _ (λ y e off. r off)
  goal_counted w t Absent r = becomes w.carrier _ (λ y e off. r off)
  goal_counted w t Awake r = becomes w.carrier _ (λ y e off. r off)
  goal_counted w t Ended r = becomes w.carrier _ (λ y e off. r off)

  taken_counted : (w : World) (t : Target) → IsReady (w.carrier c) → Here (taken w c t)
  taken_counted w (Helped context) r = as_it_is_counted w context r
  taken_counted w ItsOwn r = go (has_switch (w.own c).stage)
    where
      go : (b : Bool) → Here (taken_own w c b)
      go true = becomes w.carrier _ (λ y e off. r off)
      go false = becomes w.carrier _ (λ y e off. r off)
  taken_counted w (ItsGoals who) r = goal_counted w who.number (w.threads.condition who.number) r

  module _ (w : World) (none : (w.carrier c).hand ≡ None) (r : IsReady (w.carrier c)) where
    take_counted : (t : Target) (b : Bool) → Here (take_step w c t b)
    take_counted t true = taken_counted w t r
    take_counted t false =
        becomes w.carrier (record (w.carrier c) { looked = None }) (without_hand (record (w.carrier c) { looked = None }) none)

    target_counted : (t : Target) (o : Option ContextWord) → Here (target_step w c t o)
    target_counted t None =
        let k = after_look (w.carrier c) t (word_of w (context_at c t)) in
        becomes w.carrier k (without_hand k (look_hand (w.carrier c) t (word_of w (context_at c t)) ∙ none))
    target_counted t (Some word) = take_counted t _

  -- who begins to switch is switching
  free_counted : (w : World) (b : Bool) → begins (w.carrier c) ≡ b → IsGood w → (w.carrier c).hand ≡ None →
      Here (target_step (beginning w c b) c (target_of ((beginning w c b).carrier c)) ((beginning w c b).carrier c).looked)
  free_counted w true e good none =
      let here = upd_same w.carrier c (switching_begun (w.carrier c)) in
      target_counted (beginning w c true) (ap (λ (k : Carrier). k.hand) here ∙ none)
      (λ off. (let no : true ≡ false = sym (ap (λ (k : Carrier). k.switching) here) ∙ off in cc)) _ _
  free_counted w false e good none = target_counted w none (ready_counted w c good e) _ _

  this_counted : (w : World) (s : ThreadStep) → IsGood w → Here w → Here (carrier_step w c s)
  this_counted w s good h = by (w.carrier c).hand refl
    where
      with_hand : (x : ContextName) (b : Bool) → Here (hand_step w c x s b)
      with_hand x true = given_counted w x
      with_hand (OfThread t) false = thread_counted w t s h
      with_hand (OfCarrier d) false = switch_counted w d (w.own d).stage h

      by : (o : Option ContextName) → (w.carrier c).hand ≡ o → Here (carrier_step_by w c s o)
      by None none = free_counted w (begins (w.carrier c)) refl good none
      by (Some x) hand = with_hand x (gives w c (w.carrier c) x)

-- OF EACH CARRIER

-- one carrier has changed
pub one_counted : (w : World) (c : ℕ) (k : Carrier) → IsHandCounted k → HandsCounted w → HandsCounted (with_carrier w c k)
one_counted w c k here h d low = upd_cases IsHandCounted w.carrier c k d (λ _. here) (λ _. h d low)

pub counted_stay : (w : World) (c : ℕ) (s : ThreadStep) → IsGood w → c < w.carriers → HandsCounted w →
    HandsCounted (carrier_step w c s)
counted_stay w c s good low h d few = let one = step_one c w s in elim (eqb_tells d c) [
  | inl e ↦ subst (λ n. IsHandCounted ((carrier_step w c s).carrier n)) (sym e.1) (this_counted c w s good (h c low))
  | inr ne ↦ subst IsHandCounted (sym (one.others d ne.1)) (h d (subst (λ n. d < n) one.carriers few))
]

module _ (w : World) (c : ℕ) (h : HandsCounted w) where
  -- a carrier of the same hand, that is counted as before
  same_counted : (k : Carrier) → (IsHandCounted (w.carrier c) → IsHandCounted k) → (d : ℕ) → d < w.carriers →
      IsHandCounted (upd w.carrier c k d)
  same_counted k same d few =
      upd_cases IsHandCounted w.carrier c k d (λ e. same (h c (subst (λ n. n < w.carriers) e few))) (λ _. h d few)

  pub started_counted : (t : ℕ) → HandsCounted (started w c t)
  started_counted t = same_counted _ (λ x. x)

  pub sliced_counted : HandsCounted (sliced w c)
  sliced_counted = same_counted _ (λ x. x)

  pub parked_counted : HandsCounted (parked w c)
  parked_counted = same_counted _ (λ x. x)
