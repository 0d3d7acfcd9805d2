-- Each carrier has a step: what its next step in the world is, is one of the steps that keep the whole.
use Rattle.std.proofs.Common.{◌≡◌, ◌≢◌, ℕ, ◌+◌, ◌-◌, ◌<◌, Bool, true, false, refl, sym}
use Rattle.std.proofs.Common.{ap, ◌∙◌, subst, arith, Option, Some, None, inl, inr}
use Rattle.std.specs.Prelude.{◌&&◌, ◌==◌}
use Rattle.std.proofs.lemmas.Bool.{cases_lt, false≢true}
use Rattle.std.proofs.lemmas.Bool.Decides.{nat_tests}
use Rattle.k_ids.specs.declared.context_word.ContextWord.{ContextWord}
use Rattle.k_ids.specs.declared.threads.ThreadId.{ThreadId}
use Rattle.k_model.specs.Maps.{lowest}
use Rattle.k_model.proofs.Maps.{upd_same}
use Rattle.k_caller.specs.declared.thread.ThreadLocation.TheVariants as location
use Rattle.k_switch.specs.declared.goal.Goal.{Goal}
use Rattle.k_switch.specs.declared.goal.Switched.{Switched}
use Rattle.k_switch.specs.declared.switch.SwitchCall.{SwitchCall}
use Rattle.k_switch.specs.declared.switch.SwitchLocked.TheVariants as locked
use Rattle.k_switch.specs.Switches.{SwitchAt}
use Rattle.k_switch.specs.Switches as switch
use Rattle.k_board.specs.Words.{Programs}
use Rattle.k_board.specs.Boards.{At, Alone, InSend, InReceive, InCreate, InDestroy, InSwitch, Resting, Coming, Nowhere, Board}
use Rattle.k_board.specs.Turns.{is_going}
use Rattle.k_tokens.specs.Steps.{FindsTaken}
use Rattle.k_tokens.specs.World.{Absent, Awake, Asleep, Ended, Dead, Carrier, Condition, ContextName, OfCarrier}
use Rattle.k_tokens.specs.World.{OfThread, OwnContext, Threads, World, has_switch, is_finished, with_carrier}
use Rattle.k_switching.specs.Claims.{IsAsked}
use Rattle.k_switching.specs.Rules.{Target, Helped, ItsOwn, ItsGoals, beginning, begins, carrier_step}
use Rattle.k_switching.specs.Rules.{carrier_step_by, context_at, free_step, given, given_own, gives}
use Rattle.k_switching.specs.Rules.{hand_step, has_switched, same_word, switching_begun, take_step, taken}
use Rattle.k_switching.specs.Rules.{taken_goal, taken_own, target_of, target_step, taken_as_it_is, word_of}
use Rattle.k_grants.specs.Granted.{IsFreeToRemove}
use Rattle.k_stages.specs.Stages.{IsFrom, IsOwn, id_in}
use Rattle.k_sections.specs.Stepping.{board_after, response_to}
use Rattle.k_sections.proofs.Answered.{response_may}
use Rattle.k_paired.specs.Pairs.{IsPair, IsStill}
use Rattle.k_whole.specs.Whole.{OwnsThere, Step}
use Rattle.k_whole.specs.Whole as whole
use Rattle.k_whole.specs.Next.{has_next}
use Rattle.k_whole.proofs.Next.{asked_next, asked_step}
use Rattle.k_whole.proofs.Rests.{asleep_at}

-- WHERE A CARRIER'S OWN CONTEXT STANDS

-- a location of a switch
record InASwitch (p : At) : Type 0 where
  call : SwitchCall
  at : SwitchAt
  is : p ≡ InSwitch call at
  going : is_going at ≡ true

going_at : (p : At) (own : OwnContext) → IsOwn p own → has_next p ≡ true → InASwitch p
going_at (InSwitch c q) own h e = record { call = c; at = q; is = refl; going = e }
going_at (Alone q) own h e = absurd h
going_at (InSend c q) own h e = absurd h
going_at (InReceive c q) own h e = absurd h
going_at (InCreate c q) own h e = absurd h
going_at (InDestroy c q) own h e = absurd h
going_at Resting own h e = absurd (false≢true e)
going_at Coming own h e = absurd h
going_at Nowhere own h e = absurd (false≢true e)

-- a switch that is over
record Switches (p : At) : Type 0 where
  call : SwitchCall
  switched : Switched
  is : p ≡ InSwitch call (switch.Finished switched)

finished_at : (p : At) (own : OwnContext) → IsOwn p own → is_finished own.stage ≡ true → Switches p
finished_at (InSwitch c (switch.Finished s)) own h e = record { call = c; switched = s; is = refl }
finished_at (InSwitch c switch.AcquireReady) own h e = absurd (false≢true (sym (ap is_finished h.1) ∙ e))
finished_at (InSwitch c (switch.Locked (locked.LoadGoal goal))) own h e = absurd (false≢true (sym (ap is_finished h.1) ∙ e))
finished_at (InSwitch c (switch.Locked (locked.LoadStart back n))) own h e = absurd (false≢true (sym (ap is_finished h.1) ∙ e))
finished_at (InSwitch c (switch.Locked (locked.ReleaseReady back s))) own h e = absurd (false≢true (sym (ap is_finished h.1) ∙ e))
finished_at (InSwitch c (switch.Returned s)) own h e = absurd h
finished_at (Alone q) own h e = absurd h
finished_at (InSend c q) own h e = absurd h
finished_at (InReceive c q) own h e = absurd h
finished_at (InCreate c q) own h e = absurd h
finished_at (InDestroy c q) own h e = absurd h
finished_at Resting own h e = absurd (false≢true (sym (ap is_finished h) ∙ e))
finished_at Coming own h e = absurd h
finished_at Nowhere own h e = absurd (false≢true (sym (ap is_finished h) ∙ e))

true≢false : true ≡ false → ⊥
true≢false e = cc

resting_at : (p : At) (own : OwnContext) → IsOwn p own → has_switch own.stage ≡ false → p ≢ Nowhere → p ≡ Resting
resting_at Resting own h e n = refl
resting_at Nowhere own h e n = absurd (n refl)
resting_at (InSwitch c (switch.Finished s)) own h e n = absurd (true≢false (sym (ap has_switch h.0) ∙ e))
resting_at (InSwitch c switch.AcquireReady) own h e n = absurd (true≢false (sym (ap has_switch h.1) ∙ e))
resting_at (InSwitch c (switch.Locked (locked.LoadGoal goal))) own h e n = absurd (true≢false (sym (ap has_switch h.1) ∙ e))
resting_at (InSwitch c (switch.Locked (locked.LoadStart back x))) own h e n = absurd (true≢false (sym (ap has_switch h.1) ∙ e))
resting_at (InSwitch c (switch.Locked (locked.ReleaseReady back s))) own h e n = absurd (true≢false (sym (ap has_switch h.1) ∙ e))
resting_at (InSwitch c (switch.Returned s)) own h e n = absurd h
resting_at (Alone q) own h e n = absurd h
resting_at (InSend c q) own h e n = absurd h
resting_at (InReceive c q) own h e n = absurd h
resting_at (InCreate c q) own h e n = absurd h
resting_at (InDestroy c q) own h e n = absurd h
resting_at Coming own h e n = absurd h

-- a goal of this thread
abbrev goal_for : Option ThreadId → Option Goal
goal_for None = None
goal_for (Some who) = Some (record { id = who; priority = 0 })

goal_is : (o : Option ThreadId) → id_in (goal_for o) ≡ o
goal_is None = refl
goal_is (Some who) = refl

abbrev call_with : Carrier → Option ℕ → SwitchCall
call_with k start = record { goal = goal_for k.goal; counted = k.counted; slice_ended = k.slice; start = start }

is_from : (k : Carrier) (start : Option ℕ) → IsFrom (call_with k start) k start
is_from k start = record { goal = goal_is k.goal; counted = refl; slice = refl; start = refl }

-- THE STEP

as_it_is_still : (w : World) (c : ℕ) (x : ContextName) → IsStill w (taken_as_it_is w c x)
as_it_is_still w c (OfThread t) = record { threads = refl; ready = refl; lists = refl; running = refl; own = refl }
as_it_is_still w c (OfCarrier d) = record { threads = refl; ready = refl; lists = refl; running = refl; own = refl }

and_parts : (x y : Bool) → (x && y) ≡ true → (x ≡ true) × (y ≡ true)
and_parts true true e = (refl, refl)
and_parts true false e = absurd (false≢true e)
and_parts false y e = absurd (false≢true e)

same_name : {x y : ContextName} → Some x ≡ Some y → x ≡ y
same_name e = cc

none_some : {x : ContextName} → None ≡ Some x → ⊥
none_some e = cc

module _ (g : Programs) (b : Board) (w : World) (h : IsPair g b w) (owns : OwnsThere b w) (c : ℕ) (low : c < w.carriers) where
  abbrev HasStep : Type 0
  HasStep = (b' : Board) × Step g b w c b'

  abbrev Nobody : Type 0
  Nobody = (x : ContextName) → IsAsked w c x → ⊥

  still_step : Nobody → (v : World) → carrier_step w c FindsTaken ≡ v → IsStill w v → HasStep
  still_step nobody v e s = (b, whole.stays nobody (subst (IsStill w) (sym e) s))

  -- GIVEN BACK

  module _ (x : ContextName) (hand : (w.carrier c).hand ≡ Some x) where
    given_step : gives w c (w.carrier c) x ≡ true → HasStep
    given_step out = go x refl
      where
        nobody : Nobody
        nobody y a = true≢false (sym out ∙ ap (gives w c (w.carrier c)) (same_name (sym hand ∙ a.hand)) ∙ a.kept)

        made : carrier_step w c FindsTaken ≡ given w c x
        made = ap (carrier_step_by w c FindsTaken) hand ∙ ap (hand_step w c x FindsTaken) out

        own : (d : ℕ) → x ≡ OfCarrier d → (v : Bool) → has_switched w c (OfCarrier d) ≡ v → HasStep
        own d e false f =
            still_step nobody (given_own w c d false) (made ∙ ap (given w c) e ∙ ap (given_own w c d) f)
            (record { threads = refl; ready = refl; lists = refl; running = refl; own = refl })
        own d e true f =
            let p = and_parts (d == c) (is_finished (w.own d).stage) f in
            let eqn = p.0 in
            let same : d ≡ c = grind (arith, nat_tests, eqn) in
            let s = finished_at (b.context (b.size + c)).at (w.own c) (h.alike.stages c)
            (subst (λ (n : ℕ). is_finished (w.own n).stage ≡ true) same p.1) in
            (_, whole.ends_switch s.call s.switched (hand ∙ ap Some e ∙ ap (λ (n : ℕ). Some (OfCarrier n)) same) s.is)

        go : (y : ContextName) → x ≡ y → HasStep
        go (OfThread t) e =
            still_step nobody (given w c (OfThread t)) (made ∙ ap (given w c) e)
            (record { threads = refl; ready = refl; lists = refl; running = refl; own = refl })
        go (OfCarrier d) e = own d e (has_switched w c (OfCarrier d)) refl

  -- WITH NOTHING IN HAND

  module _ (hand : (w.carrier c).hand ≡ None) where
    nobody : Nobody
    nobody y a = none_some (sym hand ∙ a.hand)

    taken_own_step : (v : Bool) → has_switch (w.own c).stage ≡ v → carrier_step w c FindsTaken ≡ taken_own w c v → HasStep
    taken_own_step true f e = still_step nobody _ e (as_it_is_still w c (OfCarrier c))
    taken_own_step false f e =
        let start = lowest (w.carrier c).starts 64 in
        let at = resting_at (b.context (b.size + c)).at (w.own c) (h.alike.stages c) f (owns c low) in
        (_, whole.begins_switch (call_with (w.carrier c) start) hand e at (is_from (w.carrier c) start))

    inside : (i : ℕ) → (b.context i).at ≡ Alone location.Asleep → i < b.size
    inside i at = elim (cases_lt i b.size) [
      | inl l ↦ l
      | inr l ↦ let far : i ≡ b.size + (i - b.size) = omega (arith, l) in
          absurd (subst (λ (p : At). IsOwn p (w.own (i - b.size))) (ap (λ (n : ℕ). (b.context n).at) (sym far) ∙ at)
          (h.alike.stages (i - b.size)))
    ]

    taken_goal_step : (i : ℕ) (k : Condition) → w.threads.condition i ≡ k → carrier_step w c FindsTaken ≡ taken_goal w c i k →
        HasStep
    taken_goal_step i Asleep f e =
        let at = asleep_at (b.context i).at (sym (ap (λ (x : Threads). x.condition i) h.alike.agrees.threads) ∙ f) in
        (_, whole.wakes i hand e (inside i at) at)
    taken_goal_step i Dead f e =
        still_step nobody _ e (record { threads = refl; ready = refl; lists = refl; running = refl; own = refl })
    taken_goal_step i Absent f e = still_step nobody _ e (as_it_is_still w c (OfThread i))
    taken_goal_step i Awake f e = still_step nobody _ e (as_it_is_still w c (OfThread i))
    taken_goal_step i Ended f e = still_step nobody _ e (as_it_is_still w c (OfThread i))

    taken_step : (t : Target) → carrier_step w c FindsTaken ≡ taken w c t → HasStep
    taken_step (Helped x) e = still_step nobody _ e (as_it_is_still w c x)
    taken_step ItsOwn e = taken_own_step (has_switch (w.own c).stage) refl e
    taken_step (ItsGoals who) e = taken_goal_step who.number (w.threads.condition who.number) refl e

    won_step : (t : Target) (v : Bool) → carrier_step w c FindsTaken ≡ take_step w c t v → HasStep
    won_step t true e = taken_step t e
    won_step t false e = still_step nobody _ e (record { threads = refl; ready = refl; lists = refl; running = refl; own = refl })

    looked_step : (t : Target) (o : Option ContextWord) → carrier_step w c FindsTaken ≡ target_step w c t o → HasStep
    looked_step t None e =
        still_step nobody _ e (record { threads = refl; ready = refl; lists = refl; running = refl; own = refl })
    looked_step t (Some word) e = won_step t (same_word word (word_of w (context_at c t))) e

    begun_step : (v : Bool) → carrier_step w c FindsTaken ≡ free_step (beginning w c v) c → HasStep
    begun_step false e = looked_step (target_of (w.carrier c)) (w.carrier c).looked e
    begun_step true e =
        still_step nobody _ e (subst (λ (o : Option ContextWord). IsStill w (target_step u c (target_of (u.carrier c)) o))
        (sym blind)
        (record { threads = refl; ready = refl; lists = refl; running = refl; own = refl }))
      where
        u : World
        u = with_carrier w c (switching_begun (w.carrier c))

        blind : (u.carrier c).looked ≡ None
        blind = ap (λ (k : Carrier). k.looked) (upd_same w.carrier c (switching_begun (w.carrier c)))

    free_hand_step : HasStep
    free_hand_step = begun_step (begins (w.carrier c)) (ap (carrier_step_by w c FindsTaken) hand)

  -- ASKED

  module _ (free : (i : ℕ) → IsAsked w c (OfThread i) → (b' : Board) → IsFreeToRemove b w i b') where
    asked_hand_step : (x : ContextName) → IsAsked w c x → HasStep
    asked_hand_step (OfThread i) a =
        let calls : Board → ℕ → SwitchCall = λ _ _. call_with (w.carrier c) None in
        let after : Board = board_after g calls b i (b.context i).at in (
          after,
          whole.runs i after (record { above = false; waits = FindsTaken }) a tt (free i a after)
              (asked_step g b w h c calls (OfThread i) a).turn,
        )
    asked_hand_step (OfCarrier d) a =
        let s = going_at (b.context (b.size + d)).at (w.own d) (h.alike.stages d) (asked_next g b w h c (OfCarrier d) a) in
        let ask = switch.ask_of s.call s.at in
        (_, whole.switches d s.call s.at (response_to b ask) a s.is s.going (response_may b h.good.locks ask))

    by_gives : (x : ContextName) → (w.carrier c).hand ≡ Some x → (v : Bool) → gives w c (w.carrier c) x ≡ v → HasStep
    by_gives x e true f = given_step x e f
    by_gives x e false f = asked_hand_step x (record { hand = e; kept = f })

    by_hand : (o : Option ContextName) → (w.carrier c).hand ≡ o → HasStep
    by_hand None e = free_hand_step e
    by_hand (Some x) e = by_gives x e (gives w c (w.carrier c) x) refl

    pub has_a_step : HasStep
    has_a_step = by_hand (w.carrier c).hand refl
