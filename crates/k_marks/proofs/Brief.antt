-- What the functions of a context make of the steps that a switch has left.
use Rattle.std.proofs.Common.{◌≡◌, ℕ, ◌+◌, ◌≤◌, ◌<◌, Bool, true, false, cond, refl, arith, Option, Some, None}
use Rattle.std.specs.Prelude.{◌==◌, option_map}
use Rattle.k_ids.specs.declared.lock_word.LockWord.{LockWord}
use Rattle.k_ids.specs.declared.lock_word.LockWord.TheVariants.{Free, Owned}
use Rattle.k_ids.specs.LockWords.{lock_bits, lock_word_of}
use Rattle.k_locks.specs.declared.goods.Goods.{Goods}
use Rattle.k_locks.specs.declared.steps.Answer.{Answer}
use Rattle.k_locks.specs.declared.steps.Answer.TheVariants as answered
use Rattle.k_locks.specs.Steps.{answer_of, is_again, not_acquired, one_more}
use Rattle.k_script.specs.Script.{Script}
use Rattle.k_switch.specs.declared.carrier_context.CarrierContext.{CarrierContext}
use Rattle.k_switch.specs.declared.goal.Goal.{Goal}
use Rattle.k_switch.specs.declared.switch.Switch.{Switch}
use Rattle.k_switch.specs.declared.switch.SwitchCall.{SwitchCall}
use Rattle.k_switch.specs.declared.switch.SwitchLocation.{SwitchLocation}
use Rattle.k_switch.specs.declared.switch.SwitchLocation.TheVariants as location
use Rattle.k_switch.specs.declared.switch.SwitchLocked.TheVariants.{LoadGoal, LoadStart, ReleaseReady}
use Rattle.k_switch.specs.Carriers as carriers
use Rattle.k_switch.specs.Carriers.{can_ask_in, done_after, last_serial}
use Rattle.k_switch.specs.Switches.{asked_location, at_of, location_after, to_goal, to_start}
use Rattle.k_switch.specs.Switches as switches
use Rattle.k_context.specs.Contexts.{Carrier, ContextSeen, Thread, asked, begun, resumed}
use Rattle.k_context.specs.Contexts.{step_of, with_switch, without_switch, woken}
use Rattle.k_marks.specs.Brief.{IsBrief, left_in, locked_left, switch_left}

start_left : (start : Option ℕ) (back : Option Goal) → locked_left (to_start start back) ≤ 2
start_left (Some number) back = omega arith
start_left None back = omega arith

goal_left : (start : Option ℕ) (goal : Option Goal) → locked_left (to_goal start goal) ≤ 3
goal_left start (Some goal) = omega arith
goal_left start None = omega (arith, start_left start None)

not_got : (w : LockWord) → is_again (answered.Told (not_acquired w)) ≡ true
not_got (Owned owner) = refl
not_got Free = refl

no_both : {a : Bool} → a ≡ true → a ≡ false → ⊥
no_both t f = cc

-- an answer to the step of this location, given what its word was
abbrev answer_at : SwitchCall → SwitchLocation → ℕ → Goods → Answer
answer_at c l found home = answer_of (switches.step_of (record { call = c; location = l })) found home

-- a step that isn't to be made again leaves one less
location_left : (c : SwitchCall) (l : SwitchLocation) (found : ℕ) (home : Goods) → switches.can_ask l ≡ true →
    is_again (answer_at c l found home) ≡ false → switch_left (location_after c (asked_location c l) (answer_at c l found home)) +
    1 ≤ switch_left l
location_left c location.AcquireReady found home can again = by (found == lock_bits Free) again
  where
    by : (free : Bool) → is_again (cond free (answered.Got home) (answered.Told (not_acquired (lock_word_of found)))) ≡ false →
        switch_left (location_after c location.AcquireReady (cond free (answered.Got home)
        (answered.Told (not_acquired (lock_word_of found))))) + 1 ≤ 4
    by true q = omega (arith, goal_left c.start c.goal)
    by false q = absurd (no_both (not_got (lock_word_of found)) q)
location_left c (location.Locked (LoadGoal goal) lists) found home can again = omega (arith, start_left c.start)
location_left c (location.Locked (LoadStart back number) lists) found home can again = omega arith
location_left c (location.Locked (ReleaseReady back started) lists) found home can again = omega arith
location_left c (location.ListsReturned s) found home can again = absurd cc
location_left c (location.Finished s) found home can again = absurd cc

asked_left : (c : SwitchCall) (l : SwitchLocation) → switch_left (asked_location c l) ≤ switch_left l
asked_left c location.AcquireReady = omega arith
asked_left c (location.Locked (LoadGoal goal) lists) = omega arith
asked_left c (location.Locked (LoadStart back number) lists) = omega arith
asked_left c (location.Locked (ReleaseReady back started) lists) = omega arith
asked_left c (location.ListsReturned s) = omega arith
asked_left c (location.Finished s) = omega arith

one_at_most : (n : ℕ) → one_more n ≤ n + 1
one_at_most n = omega arith

done_at_most : (k : CarrierContext) → done_after k ≤ k.done + 1
done_at_most k = by (k.serial == last_serial)
  where
    by : (a : Bool) → cond a k.done (one_more k.done) ≤ k.done + 1
    by true = omega arith
    by false = one_at_most k.done

-- THE STEP OF A CARRIER'S OWN CONTEXT

module _ (k : CarrierContext) (brief : k.done + left_in k.switch ≤ 4) where
  asked_brief : k.done + left_in (option_map switches.asked k.switch) ≤ 4
  asked_brief = by k.switch brief
    where
      by : (o : Option Switch) → k.done + left_in o ≤ 4 → k.done + left_in (option_map switches.asked o) ≤ 4
      by None b = b
      by (Some s) b = omega (arith, b, asked_left s.call s.location)

  module _ (can : carriers.can_ask k ≡ true) (found : ℕ) (home : Goods) where
    -- it has a step left, which can be counted
    pub few_left : k.done < 4
    few_left = by k.switch brief can
      where
        left_some : (l : SwitchLocation) → switches.can_ask l ≡ true → 1 ≤ switch_left l
        left_some location.AcquireReady q = omega arith
        left_some (location.Locked (LoadGoal goal) lists) q = omega arith
        left_some (location.Locked (LoadStart back number) lists) q = omega arith
        left_some (location.Locked (ReleaseReady back started) lists) q = omega arith
        left_some (location.ListsReturned s) q = absurd cc
        left_some (location.Finished s) q = absurd cc

        by : (o : Option Switch) → k.done + left_in o ≤ 4 → can_ask_in o ≡ true → k.done < 4
        by None b q = absurd cc
        by (Some s) b q = omega (arith, b, left_some s.location q)

    -- the switch after the answer
    moved_left : (o : Option Switch) → can_ask_in o ≡ true → is_again (answer_of (carriers.step_in o) found home) ≡ false →
        left_in (option_map (λ s. switches.moved s (answer_of (carriers.step_in o) found home)) (option_map switches.asked o)) +
        1 ≤ left_in o
    moved_left None q again = absurd cc
    moved_left (Some s) q again = location_left s.call s.location found home q again

    pub resumed_brief : IsBrief (Carrier (carriers.resumed (carriers.asked k) (answer_of (carriers.step_of k) found home)))
    resumed_brief = by (is_again (answer_of (carriers.step_of k) found home)) refl
      where
        a : Answer
        a = answer_of (carriers.step_of k) found home

        by : (again : Bool) → is_again a ≡ again → IsBrief (Carrier
            (cond again (carriers.asked k) (record (carriers.asked k) {
              done = done_after (carriers.asked k);
              switch = option_map (λ s. switches.moved s a) (carriers.asked k).switch;
            })))
        by true q = asked_brief
        by false q = omega (arith, brief, done_at_most k, moved_left k.switch can q)

-- ANY CONTEXT

pub step_brief : (script : Script) (v : ContextSeen) (found : ℕ) (home : Goods) → IsBrief v →
    ((k : CarrierContext) → v ≡ Carrier k → carriers.can_ask k ≡ true) →
    IsBrief (resumed (asked (begun script v)) (answer_of (step_of (begun script v)) found home))
step_brief script (Thread t) found home b can = tt
step_brief script (Carrier k) found home b can = resumed_brief k b (can k refl) found home

pub with_brief : (c : SwitchCall) (v : ContextSeen) → IsBrief v → IsBrief (with_switch c v)
with_brief c (Thread t) b = tt
with_brief c (Carrier k) b = omega arith

pub without_brief : (v : ContextSeen) → IsBrief v → IsBrief (without_switch v)
without_brief (Thread t) b = tt
without_brief (Carrier k) b = omega (arith, b)

pub woken_brief : (v : ContextSeen) → IsBrief v → IsBrief (woken v)
woken_brief (Thread t) b = tt
woken_brief (Carrier k) b = b
