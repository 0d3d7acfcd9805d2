-- After a carrier's move each context and each carrier is sound as before.
use Rattle.std.proofs.Common.{◌≡◌, ◌≢◌, ◌≤◌, ◌<◌, ℕ, ◌+◌, Bool, true, false, refl, sym, ap, ◌∙◌, subst, arith, inl}
use Rattle.std.proofs.Common.{inr, Option, Some, None, IfSome, length}
use Rattle.std.proofs.lemmas.Bool.Decides.{eqb_tells}
use Rattle.std.proofs.lemmas.Bool.{cases_lt, eqb-true, false≢true}
use Rattle.std.proofs.lemmas.List.{get_or-set_other, get_or-set_same, length-set}
use Rattle.std.specs.Prelude.{◌-◌, ◌==◌, if◌then◌else◌, is_some, option_map}
use Rattle.k_ids.specs.declared.context_word.ContextWord.{ContextWord}
use Rattle.k_ids.specs.declared.context_word.ContextWord.TheVariants as context
use Rattle.k_ids.specs.declared.histories.Entry.{Entry}
use Rattle.k_ids.specs.ContextWords.{IsContextWord, IsVersion, context_bits, context_word_of}
use Rattle.k_model.specs.Maps.{upd}
use Rattle.k_model.specs.State.{KernelState}
use Rattle.k_model.proofs.Maps.{upd_same}
use Rattle.k_locks.specs.declared.locks.Lock.{Lock}
use Rattle.k_locks.specs.declared.locks.Lock.TheVariants as lock
use Rattle.k_locks.specs.declared.locks.WordName.TheVariants as word
use Rattle.k_locks.specs.declared.steps.Step.{Step}
use Rattle.k_locks.specs.declared.steps.Answer.{Answer}
use Rattle.k_locks.specs.Asks.{Ask, response_of}
use Rattle.k_locks.specs.Asks as asks
use Rattle.k_locks.specs.Hands.{Hand, hand_with}
use Rattle.k_locks.specs.Locks.{Holds}
use Rattle.k_locks.specs.Places.{slot_of}
use Rattle.k_locks.specs.Steps.{is_again}
use Rattle.k_script.specs.Limits.{IsScript}
use Rattle.k_script.specs.Script.{Script}
use Rattle.k_switch.specs.declared.carrier_context.CarrierContext.{CarrierContext}
use Rattle.k_switch.specs.declared.goal.Switched.{Switched}
use Rattle.k_switch.specs.declared.switch.Switch.{Switch}
use Rattle.k_switch.specs.declared.switch.SwitchCall.{SwitchCall}
use Rattle.k_switch.specs.declared.switch.SwitchLocation.{SwitchLocation}
use Rattle.k_switch.specs.declared.switch.SwitchLocation.TheVariants as switch_location
use Rattle.k_switch.specs.declared.switch.SwitchLocked.TheVariants as switch_locked
use Rattle.k_switch.specs.Carriers as own
use Rattle.k_switch.specs.Switches as switch
use Rattle.k_caller.specs.Threads.{ThreadSeen}
use Rattle.k_caller.specs.Threads as threads
use Rattle.k_caller.proofs.Owned.{either}
use Rattle.k_context.specs.Contexts.{Carrier, ContextSeen, Thread, begun, has_switch, owner_of, step_of, switched_of}
use Rattle.k_context.specs.Contexts.{with_switch, without_switch, woken}
use Rattle.k_context.specs.Contexts as contexts
use Rattle.k_carrier.specs.declared.carrier.Target.{Target}
use Rattle.k_carrier.specs.declared.carrier.Target.TheVariants as target
use Rattle.k_carrier.specs.declared.moves.Awaits.TheVariants as awaits
use Rattle.k_carrier.specs.Answers.{AnswerSeen}
use Rattle.k_carrier.specs.Answers as answers
use Rattle.k_carrier.specs.Asked.{CarrierAsk, PutDown, Run, ask_at, ask_of, ask_with, asked, asked_by, lock_acquired}
use Rattle.k_carrier.specs.Asked.{move_by, out_of, rested, resting_word, taken_word, version_in, version_of}
use Rattle.k_carrier.specs.Conditions.{CanTell, IsGoalIn, IsHand, IsOfNumber, IsResting, IsSound}
use Rattle.k_carrier.specs.Resumed.{after_look, after_take, help_after, is_holding, resumed, seen, switch_call}
use Rattle.k_carrier.specs.Resumed.{switched_to, told_in}
use Rattle.k_carrier.specs.Resumed.{switched_given}
use Rattle.k_carrier.specs.Resumed as resumes
use Rattle.k_carrier.specs.Moves.{Section}
use Rattle.k_carrier.specs.Rules.{begins, context_at, gives, holds_any, is_own, own_context, readied, switched_in, target_of}
use Rattle.k_carrier.specs.Seen.{CarrierSeen, HandSeen, new_carrier}
use Rattle.k_carrier.proofs.Sound.{look_sound, put_down_sound, run_sound, take_sound}
use Rattle.k_world.specs.Moves.{answer_by, took}
use Rattle.k_world.specs.Steps.{entry_of, moved, running, step_in}
use Rattle.k_world.specs.Worlds.{held_in, Away, Guarded, Resting, Slot, World, carrier_at, resting_in, slot_at, word_at}
use Rattle.k_board.specs.Boards.{At, Board, InSwitch, owner_of as lock_owner}
use Rattle.k_good.specs.Locks.{locks_at, owner_by}
use Rattle.k_places.specs.Fits.{IsStepWithin}
use Rattle.k_places.specs.Memory.{Place, Same, slot_filled, Memory, memory_of, moved_maps}
use Rattle.k_places.specs.Shows.{AreInPlace, IsInHand, context_by}
use Rattle.k_places.proofs.Places.{version_held}
use Rattle.k_places.proofs.Raw.{maps_moved, word_is}
use Rattle.k_joint.proofs.Runs.{hand_is}
use Rattle.k_tokens.specs.Good.{Parts}
use Rattle.k_tokens.specs.World as tokens
use Rattle.k_moves.specs.Views.{ShowsAt, ShowsOwn, stage_of}
use Rattle.k_places.specs.Contexts.{at_in, held_on, switch_at, switch_hand}
use Rattle.k_aligned.specs.Aligned.{found_in}
use Rattle.k_whole.specs.Next.{has_next}
use Rattle.k_handling.specs.Handling.{HelpsWithin, IsKernel}
use Rattle.k_handling.proofs.Contexts.{on_board}
use Rattle.k_sound.specs.Hands.{HandProper}
use Rattle.k_sound.proofs.Contexts.{answered_sound, asked_sound, begun_sound}
use Rattle.k_conditions.specs.Finished.{FinishedWithin}
use Rattle.k_conditions.specs.Stays.{AllSound, IsSteady}
use Rattle.k_conditions.proofs.Answered.{EachAnswer, answer_in, each_answer}
use Rattle.k_conditions.proofs.Inside.{IsInside}
use Rattle.k_conditions.proofs.CanAsks.{in_hand, put_can, run_can, stands}
use Rattle.k_conditions.proofs.CanTells.{can_be_told, looked_rests, rests_there}
use Rattle.k_conditions.proofs.Founds.{AllFound, changed_found, section_found, unchanged_found}
use Rattle.k_conditions.proofs.Knows.{begun_id}
use Rattle.k_conditions.proofs.Moments.{hand_found, in_view, next_at}
use Rattle.k_conditions.proofs.Opened.{opened, thread_proper}
use Rattle.k_conditions.proofs.Others.{holding_switches, own_holds}
use Rattle.k_conditions.proofs.Steady.{HelpsSo, Keeps, ValueSound, readied_keeps, resumed_answered, resumed_helps}
use Rattle.k_handling.proofs.Soundly.{sound_given}
use Rattle.k_conditions.proofs.Steady.{resumed_number, resumed_sound, resumed_starts}
use Rattle.k_conditions.proofs.StepsAs.{IsFine, StepAs, step_as}
use Rattle.k_conditions.proofs.Switched.{comes_to}

one_is : {A : Type 0} {x y : A} → Some x ≡ Some y → x ≡ y
one_is e = cc

-- THE SAME OWNER

begun_same : (script : Script) (v : ContextSeen) → owner_of (contexts.asked (begun script v)) ≡ owner_of v
begun_same script (Thread t) = ap (λ id. owner_of (Thread (record t { id = id }))) (begun_id script t)
begun_same script (Carrier k) = refl

resumed_same : (v : ContextSeen) (a : Answer) → owner_of (contexts.resumed v a) ≡ owner_of v
resumed_same (Thread t) a = either (λ (x : ThreadSeen). owner_of (Thread x) ≡ owner_of (Thread t))
    (is_again a) t (threads.moved t a) refl refl
resumed_same (Carrier k) a =
    either (λ (x : CarrierContext). owner_of (Carrier x) ≡ owner_of (Carrier k)) (is_again a) k
    (record k { done = own.done_after k; switch = option_map (λ s. switch.moved s a) k.switch }) refl refl

-- WHAT IS TAKEN

abbrev in_hand_of : CarrierSeen → ℕ → ContextSeen → CarrierSeen
in_hand_of c n v = resumes.in_hand c n v

abbrev begun_of : CarrierSeen → ContextSeen → CarrierSeen
begun_of c v = resumes.switch_begun c v

seen_hand : (c : CarrierSeen) (w : ContextWord) (bits : ℕ) → (seen c w bits).hand ≡ c.hand
seen_hand c (context.Clean version) bits = refl
seen_hand c (context.Holds version) bits = refl
seen_hand c (context.Taken carrier version) bits = refl
seen_hand c context.Empty bits = refl

-- what it has in hand after a take: the context, woken or with a new switch, and P holds of what its switch has come to
record TakesIt (P : Option Switched → Type 0) (c : CarrierSeen) (t : Target) (v : ContextSeen) : Type 0 where
  pub held : HandSeen
  pub hand : (after_take c t v).hand ≡ Some held
  pub context : held.context ≡ context_at c t
  pub finished : P (switched_of held.value)

woken_switched : (v : ContextSeen) → switched_of (woken v) ≡ switched_of v
woken_switched (Thread t) = refl
woken_switched (Carrier k) = refl

begun_switched : (c : SwitchCall) (v : ContextSeen) → switched_of (with_switch c v) ≡ None
begun_switched c (Thread t) = refl
begun_switched c (Carrier k) = refl

takes_it : (P : Option Switched → Type 0) (c : CarrierSeen) (t : Target) (v : ContextSeen) → P None →
    P (switched_of v) → TakesIt P c t v
takes_it P c (target.Helped n) v none was = record {
  held = record { context = n; value = v };
  hand = refl;
  context = refl;
  finished = was;
}
takes_it P c (target.GoalOf g) v none was =
    record {
      held = record { context = g.id.number; value = woken v };
      hand = refl;
      context = refl;
      finished = subst P (sym (woken_switched v)) was;
    }
takes_it P c target.Own v none was = by (has_switch v) refl
  where
    by : (q : Bool) → has_switch v ≡ q → TakesIt P c target.Own v
    by true e = record {
      held = record { context = own_context c; value = v };
      hand = ap (λ (t : Bool). (if t then in_hand_of c (own_context c) v else begun_of c v).hand) e;
      context = refl;
      finished = was;
    }
    by false e = record {
      held = record { context = own_context c; value = with_switch (switch_call c) v };
      hand = ap (λ (t : Bool). (if t then in_hand_of c (own_context c) v else begun_of c v).hand) e;
      context = refl;
      finished = subst P (sym (begun_switched (switch_call c) v)) none;
    }

-- a look leaves the hand as it is
look_hand : (c : CarrierSeen) (t : Target) (w : ContextWord) (bits : ℕ) →
    (after_look c t w bits).hand ≡ c.hand
look_hand c (target.Helped n) w bits = either (λ (k : CarrierSeen). k.hand ≡ c.hand) (is_holding w)
    (record c { looked = Some bits }) (record c { help = None }) refl refl
look_hand c target.Own w bits = seen_hand c w bits
look_hand c (target.GoalOf g) w bits = either (λ (k : CarrierSeen). k.hand ≡ c.hand)
    (version_in w == g.id.version) (seen c w bits) (record c { goal = None }) (seen_hand c w bits) refl

-- and so does a give
given_hand : (c : CarrierSeen) (o : Option Switched) → (switched_to c o).hand ≡ c.hand
given_hand c None = refl
given_hand c (Some s) = refl

readied_hand : (c : CarrierSeen) → (readied c).hand ≡ c.hand
readied_hand c = either (λ (k : CarrierSeen). k.hand ≡ c.hand) (begins c)
    (record c { switching = true; help = None; looked = None }) c refl refl

-- WHAT IS PUT DOWN

rested_fine : (script : Script) (n : ℕ) (q : Bool) (v : ContextSeen) → IsFine script n v →
    IsFine script n (rested q v)
rested_fine script n q v fine = either (IsFine script n) (is_some (switched_in q v)) (without_switch v) v
    (ended v fine) fine
  where
    ended : (v : ContextSeen) → IsFine script n v → IsFine script n (without_switch v)
    ended (Thread t) fine = fine
    ended (Carrier k) fine = record {
      number = fine.number;
      sound = record { carrier = fine.sound.carrier; uncounted = fine.sound.uncounted; switch = tt };
      finished = tt;
    }

resting_there : (v u : ContextSeen) (slot : ℕ → Slot) (hand : ℕ → Option HandSeen) (n : ℕ) →
    context_by slot hand n (resting_word v) ≡ Some u → resting_in (slot n) ≡ Some u
resting_there v u slot hand n = by (holds_any (contexts.locks_of v))
  where
    by : (q : Bool) → context_by slot hand n (if q then context.Holds (version_of (owner_of v)) else
        context.Clean (version_of (owner_of v))) ≡ Some u → resting_in (slot n) ≡ Some u
    by true e = e
    by false e = e

resting_whole : (v : ContextSeen) → IsVersion (version_of (owner_of v)) → IsContextWord (resting_word v)
resting_whole v is = either IsContextWord (holds_any (contexts.locks_of v))
    (context.Holds (version_of (owner_of v))) (context.Clean (version_of (owner_of v))) is is

-- WHAT ITS SWITCH HAS COME TO

abbrev ComesTo : Script → Option Switched → Type 0
ComesTo script o = IfSome o (λ s. IfSome s.goal (IsGoalIn script.table))

-- a switch that was asked isn't finished
asked_none : (script : Script) (c : SwitchCall) (l : SwitchLocation) → switch.can_ask l ≡ true →
    ComesTo script (switch.switched_at (switch.asked_location c l))
asked_none script c switch_location.AcquireReady e = tt
asked_none script c (switch_location.Locked (switch_locked.LoadGoal goal) lists) e = tt
asked_none script c (switch_location.Locked (switch_locked.LoadStart back n) lists) e = tt
asked_none script c (switch_location.Locked (switch_locked.ReleaseReady back started) lists) e = tt
asked_none script c (switch_location.ListsReturned s) e = absurd (false≢true e)
asked_none script c (switch_location.Finished s) e = absurd (false≢true e)

-- what a switch comes to once its lists are home
abbrev ReturnsTo : Script → switch.SwitchAt → Type 0
ReturnsTo script (switch.Returned s) = IfSome s.goal (IsGoalIn script.table)
ReturnsTo script (switch.Finished s) = ⊥
ReturnsTo script switch.AcquireReady = Unit {0}
ReturnsTo script (switch.Locked p) = Unit {0}

abbrev Kept : switch.SwitchAt → Type 0
Kept (switch.Locked (switch_locked.ReleaseReady back started)) = ⊥
Kept p = Unit {0}

comes_after : (script : Script) (c : SwitchCall) (h g : Hand) (p : switch.SwitchAt) (r : asks.Response) →
    ReturnsTo script p → Kept p →
    ComesTo script (switch.switched_at (switch.location_with g (switch.leads c h p r)))
comes_after script c h g (switch.Finished s) r to kept = absurd to
comes_after script c h g switch.AcquireReady asks.Got to kept = tt
comes_after script c h g switch.AcquireReady (asks.Word w) to kept = tt
comes_after script c h g switch.AcquireReady (asks.Mail m) to kept = tt
comes_after script c h g switch.AcquireReady asks.Stored to kept = tt
comes_after script c h g switch.AcquireReady asks.Won to kept = tt
comes_after script c h g switch.AcquireReady (asks.Lost w) to kept = tt
comes_after script c h g switch.AcquireReady (asks.Owned owner) to kept = tt
comes_after script c h g switch.AcquireReady asks.Released to kept = tt
comes_after script c h g switch.AcquireReady asks.Placed to kept = tt
comes_after script c h g switch.AcquireReady asks.Removed to kept = tt
comes_after script c h g switch.AcquireReady asks.Kept to kept = tt
comes_after script c h g (switch.Locked (switch_locked.ReleaseReady back started)) r to kept = absurd kept
comes_after script c h g (switch.Locked (switch_locked.LoadGoal goal)) (asks.Word w) to kept = tt
comes_after script c h g (switch.Locked (switch_locked.LoadGoal goal)) asks.Got to kept = tt
comes_after script c h g (switch.Locked (switch_locked.LoadGoal goal)) (asks.Mail m) to kept = tt
comes_after script c h g (switch.Locked (switch_locked.LoadGoal goal)) asks.Stored to kept = tt
comes_after script c h g (switch.Locked (switch_locked.LoadGoal goal)) asks.Won to kept = tt
comes_after script c h g (switch.Locked (switch_locked.LoadGoal goal)) (asks.Lost w) to kept = tt
comes_after script c h g (switch.Locked (switch_locked.LoadGoal goal)) (asks.Owned owner) to kept = tt
comes_after script c h g (switch.Locked (switch_locked.LoadGoal goal)) asks.Released to kept = tt
comes_after script c h g (switch.Locked (switch_locked.LoadGoal goal)) asks.Placed to kept = tt
comes_after script c h g (switch.Locked (switch_locked.LoadGoal goal)) asks.Removed to kept = tt
comes_after script c h g (switch.Locked (switch_locked.LoadGoal goal)) asks.Kept to kept = tt
comes_after script c h g (switch.Locked (switch_locked.LoadStart back n)) (asks.Word w) to kept = tt
comes_after script c h g (switch.Locked (switch_locked.LoadStart back n)) asks.Got to kept = tt
comes_after script c h g (switch.Locked (switch_locked.LoadStart back n)) (asks.Mail m) to kept = tt
comes_after script c h g (switch.Locked (switch_locked.LoadStart back n)) asks.Stored to kept = tt
comes_after script c h g (switch.Locked (switch_locked.LoadStart back n)) asks.Won to kept = tt
comes_after script c h g (switch.Locked (switch_locked.LoadStart back n)) (asks.Lost w) to kept = tt
comes_after script c h g (switch.Locked (switch_locked.LoadStart back n)) (asks.Owned owner) to kept = tt
comes_after script c h g (switch.Locked (switch_locked.LoadStart back n)) asks.Released to kept = tt
comes_after script c h g (switch.Locked (switch_locked.LoadStart back n)) asks.Placed to kept = tt
comes_after script c h g (switch.Locked (switch_locked.LoadStart back n)) asks.Removed to kept = tt
comes_after script c h g (switch.Locked (switch_locked.LoadStart back n)) asks.Kept to kept = tt
comes_after script c h g (switch.Returned s) asks.Released to kept = to
comes_after script c h g (switch.Returned s) asks.Got to kept = tt
comes_after script c h g (switch.Returned s) (asks.Word w) to kept = tt
comes_after script c h g (switch.Returned s) (asks.Mail m) to kept = tt
comes_after script c h g (switch.Returned s) asks.Stored to kept = tt
comes_after script c h g (switch.Returned s) asks.Won to kept = tt
comes_after script c h g (switch.Returned s) (asks.Lost w) to kept = tt
comes_after script c h g (switch.Returned s) (asks.Owned owner) to kept = tt
comes_after script c h g (switch.Returned s) asks.Placed to kept = tt
comes_after script c h g (switch.Returned s) asks.Removed to kept = tt
comes_after script c h g (switch.Returned s) asks.Kept to kept = tt

-- A MOVE, AND WHAT COMES OF IT

-- the carrier that was asked so, in a world
pub record Goes (script : Script) (w : World) (k : CarrierSeen) (q : CarrierAsk) (P : ℕ → Type 0) : Type 0
  where
    pub sound : IsSound script (asked_by script k q)
    pub keeps : Keeps P k (asked_by script k q)
    pub value : ValueSound script (asked_by script k q) (answer_by w (move_by script k q))
    pub helps : HelpsSo P (asked_by script k q) (answer_by w (move_by script k q))

lock_owner_is : (b : Board) (l : Lock) → owner_by b.owner b.table b.ready l ≡ lock_owner b l
lock_owner_is b (lock.Thread n) = refl
lock_owner_is b lock.Table = refl
lock_owner_is b lock.Ready = refl

module _ (script : Script) (limits : IsScript script) (w : World) (b : Board) (view : tokens.World)
    (state : KernelState)
    (h : IsKernel script w b view state) (finished : FinishedWithin script w) (c : ℕ)
    (inside : c < length w.carriers) where
  abbrev K : CarrierSeen
  K = carrier_at w c

  abbrev Helped : ℕ → Type 0
  Helped n = n < script.table + length w.carriers

  abbrev A : CarrierAsk → CarrierSeen
  A q = asked_by script K q

  abbrev X : CarrierAsk → AnswerSeen
  X q = answer_by w (move_by script K q)

  parts : Parts view h.whole.pair.world.0
  parts = h.whole.pair.world.1

  was_fine : (i : ℕ) (v : ContextSeen) → found_in w i ≡ Some v → IsFine script i v
  was_fine i v e = record {
    number = (h.aligned.contexts i v e).0;
    sound = (h.aligned.contexts i v e).1;
    finished = finished i v e;
  }

  sound : IsSound script K
  sound = (h.aligned.carriers c inside).sound

  helped : IfSome K.help (λ p. Helped p.context)
  helped = h.helps c inside

  -- WHOM IT HAS TO HELP

  owner_there : (l : Lock) (owner : ℕ) → lock_owner b l ≡ Some owner → Helped owner
  owner_there l owner e = elim (cases_lt owner b.size) [
    | inl low ↦ let s = h.aligned.shows.shows.size in omega (arith, low, s)
    | inr high ↦ by_own high
  ]
    where
      by_own : b.size ≤ owner → Helped owner
      by_own high = elim (cases_lt (owner - b.size) view.carriers) [
        | inl low ↦ let s = h.aligned.shows.shows.size in let n = h.aligned.count in
            omega (arith, low, s, n, sum)
        | inr past ↦ absurd (false≢true (sym (parts.runs.beyond (owner - b.size) past).0 ∙ switches))
      ]
        where
          sum : owner ≡ b.size + (owner - b.size)
          sum = omega (arith, high)

          held : Holds l (locks_at (b.context owner).at)
          held = h.whole.pair.good.locks.held l owner (lock_owner_is b l ∙ e)

          switches : tokens.has_switch (view.own (owner - b.size)).stage ≡ true
          switches = holding_switches (view.own (owner - b.size)).stage
              (own_holds l (b.context (b.size + (owner - b.size))).at (view.own (owner - b.size))
              (h.whole.pair.alike.stages (owner - b.size))
              (subst (λ n. Holds l (locks_at (b.context n).at)) sum held))

  helps_each : (a : Ask) (l : Option Lock) → IsInside b.size a →
      EachAnswer w b a (λ x. IfSome (help_after K.help l (told_in x)) (λ p. Helped p.context))
  helps_each (asks.Load n) l is = helped
  helps_each (asks.LoadMail n) l is = helped
  helps_each (asks.Post n message) l is = helped
  helps_each (asks.Exchange n old new) l is = (helped, λ bits. helped)
  helps_each (asks.Acquire k) l is = (helped, λ owner e. owner_there k owner e)
  helps_each (asks.Release k) l is = helped
  helps_each (asks.Place id program priority) l is = helped
  helps_each (asks.Remove id) l is = (
    helped,
    (let n = is.1 in let s = h.aligned.shows.shows.size in
        omega (arith, n, s)),
    λ carrier. helped,
  )

  -- A STEP of the context in its hand

  module _ (x : HandSeen) (e : K.hand ≡ Some x) (run : ask_of K ≡ Run x) where
    abbrev V : ContextSeen
    V = contexts.asked (begun script x.value)

    abbrev S : Step
    S = step_of (begun script x.value)

    found : found_in w x.context ≡ Some x.value
    found = hand_found script limits w b view state h c inside x e

    goes_on : has_next (b.context x.context).at ≡ true
    goes_on = next_at script limits w b view state h c inside x run

    can : contexts.can_ask (begun script x.value) ≡ true
    can = (run_can script limits w b view state h finished c inside x run e).0

    value_sound : contexts.IsSound script V
    value_sound = asked_sound script (begun script x.value)
        (begun_sound script x.value limits (h.aligned.contexts x.context x.value found).1)

    told : CanTell script (A (Run x)) (X (Run x))
    told = subst (λ q. CanTell script (A q) (X q)) run (can_be_told script limits w b view state h finished c
        inside)

    proper : (v : ContextSeen) → found_in w x.context ≡ Some v → HandProper (contexts.asked (begun script v))
    proper (Thread t) there = thread_proper b h.whole.holds.proper.queues.once (let n =
        h.whole.pair.within.count in let s = h.aligned.shows.shows.size in let few = limits.table.1 in
        omega (arith, n, s, few)) script t (locks_at (at_in t.activity))
        (in_hand script limits w b view state h x.context t there
        (stands script limits w b view state h x.context t there goes_on))
    proper (Carrier k) there = tt

    answered : contexts.IsSound script (contexts.resumed V (answer_in w S))
    answered = answered_sound script V (answer_in w S) (opened (begun script x.value) can) value_sound told.0
        (proper x.value found) told.1

    step : StepAs script b.size S
    step = step_as script limits w b view state h x.context x.value found goes_on can

    helps_now : IfSome (help_after K.help (lock_acquired S) (told_in (answer_in w S))) (λ p. Helped p.context)
    helps_now = subst (λ z. IfSome (help_after K.help (lock_acquired S) (told_in (answer_in w z)))
        (λ p. Helped p.context)) (sym step.is)
        (each_answer script w b h.aligned.shows (λ a. IfSome (help_after K.help (lock_acquired S) (told_in a))
        (λ p. Helped p.context)) step.ask step.hand step.inside
        (helps_each step.ask (lock_acquired S) step.inside))

    run_goes : Goes script w K (Run x) Helped
    run_goes = record {
      sound = run_sound script K x sound e value_sound (opened (begun script x.value) can);
      keeps = record { number = refl; starts = refl; help = λ is. is };
      value = answered;
      helps = helps_now;
    }

    -- what a switch comes to with this step
    switched : (v : ContextSeen) (a : Answer) → found_in w x.context ≡ Some v →
        contexts.can_ask (begun script v) ≡ true →
        ComesTo script (switched_of (contexts.resumed (contexts.asked (begun script v)) a))
    switched (Thread t) a there _ = tt
    switched (Carrier k) a there asks_it = either (λ (z : CarrierContext). ComesTo script (own.switched_of z))
        (is_again a) (own.asked k)
        (record (own.asked k) {
          done = own.done_after (own.asked k);
          switch = option_map (λ s. switch.moved s a) (own.asked k).switch;
        })
        (still k.switch asks_it) (moved_on k.switch asks_it
        (in_view script limits w b view state h c inside x.context (Carrier k) there).1
        (h.aligned.shows.shows.goods.hands x.context (Carrier k) there
        ∙ ap (λ (p : At). held_on b (locks_at p)) at))
      where
        at : (b.context x.context).at ≡ switch_at k.switch
        at = on_board script w b view h.aligned.shows h.whole.pair.alike h.aligned.contexts x.context
            (Carrier k) there

        still : (o : Option Switch) → own.can_ask_in o ≡ true →
            ComesTo script (own.switched_in (option_map switch.asked o))
        still None _ = tt
        still (Some s) asks_it = asked_none script s.call s.location asks_it

        moved_on : (o : Option Switch) → own.can_ask_in o ≡ true → ShowsOwn o (view.own k.carrier) →
            switch_hand o ≡ held_on b (locks_at (switch_at o)) →
            ComesTo script (own.switched_in (option_map (λ s. switch.moved s a) (option_map switch.asked o)))
        moved_on None _ shown hand = tt
        moved_on (Some s) asks_it shown hand = by s.location asks_it shown.stage shown.at hand
          where
            lands : (l : SwitchLocation) → ReturnsTo script (switch.at_of l) → Kept (switch.at_of l) →
                ComesTo script (switch.switched_at (switch.location_after s.call l a))
            lands l to kept = comes_after script s.call (switch.hand_of l)
                (hand_with a (switch.hand_after s.call (switch.hand_of l) (switch.at_of l)
                (response_of a (switch.ask_of s.call (switch.at_of l)))))
                (switch.at_of l) (response_of a (switch.ask_of s.call (switch.at_of l))) to kept

            by : (l : SwitchLocation) → switch.can_ask l ≡ true →
                (view.own k.carrier).stage ≡ stage_of (switch.at_of l) →
                ShowsAt (view.own k.carrier) (switch.at_of l) →
                switch.hand_of l ≡ held_on b (locks_at (InSwitch s.call (switch.at_of l))) →
                ComesTo script (switch.switched_at (switch.location_after s.call
                (switch.asked_location s.call l) a))
            by switch_location.AcquireReady _ stage shown hand = lands switch_location.AcquireReady tt tt
            by (switch_location.Locked (switch_locked.LoadGoal goal) lists) _ stage shown hand =
                lands (switch_location.Locked (switch_locked.LoadGoal goal) lists) tt tt
            by (switch_location.Locked (switch_locked.LoadStart back n) lists) _ stage shown hand =
                lands (switch_location.Locked (switch_locked.LoadStart back n) lists) tt tt
            by (switch_location.Locked (switch_locked.ReleaseReady back started) lists) _ stage shown hand =
                lands (switch_location.ListsReturned
                (switch.switched_by (switch.filled s.call back started lists)))
                (comes_to script limits w b view state h k.carrier s.call back started lists
                (ap (λ (z : Hand). z.lists) hand) stage shown.0 shown.1) tt
            by (switch_location.ListsReturned z) asks_it stage shown hand = absurd (false≢true asks_it)
            by (switch_location.Finished z) asks_it stage shown hand = absurd (false≢true asks_it)

  -- WITHOUT A HAND

  abbrev R : CarrierSeen
  R = readied K

  abbrev N : ℕ
  N = context_at R (target_of R)

  abbrev T : CarrierSeen
  T = record R { awaits = awaits.Take }

  abbrev TakenBy : Bool → AnswerSeen
  TakenBy t = if t then took (word_at w (word.Context N)) (slot_at w (slot_of N)) else answers.TakeLost
      (word_at w (word.Context N))

  r_keeps : Keeps Helped K R
  r_keeps = readied_keeps Helped K

  look_goes : K.hand ≡ None → Goes script w K (ask_at R None) Helped
  look_goes empty = record {
    sound = look_sound script K sound empty;
    keeps = record { number = r_keeps.number; starts = r_keeps.starts; help = r_keeps.help };
    value = tt;
    helps = tt;
  }

  take_goes : (bits : ℕ) → K.hand ≡ None → Goes script w K (ask_at R (Some bits)) Helped
  take_goes bits empty = record {
    sound = take_sound script K sound empty;
    keeps = record { number = r_keeps.number; starts = r_keeps.starts; help = r_keeps.help };
    value = (nothing_of (word_at w (word.Context N) == bits)).0;
    helps = (nothing_of (word_at w (word.Context N) == bits)).1;
  }
    where
      won : (s : Slot) → ValueSound script T (took (word_at w (word.Context N)) s) × HelpsSo Helped T
          (took (word_at w (word.Context N)) s)
      won (Resting v) = (tt, tt)
      won (Guarded g) = (tt, tt)
      won Away = (tt, tt)

      nothing_of : (t : Bool) → ValueSound script T (TakenBy t) × HelpsSo Helped T (TakenBy t)
      nothing_of true = won (slot_at w (slot_of N))
      nothing_of false = (tt, tt)

  give_goes : (x : HandSeen) → K.hand ≡ Some x → Goes script w K (PutDown x) Helped
  give_goes x e = record {
    sound = put_down_sound script K x sound (put_can script limits w b view state h finished c inside x e);
    keeps = record { number = refl; starts = refl; help = λ is. is };
    value = tt;
    helps = tt;
  }

  -- WHAT IS FOUND THEN

  abbrev M : Memory
  M = memory_of w

  abbrev Found : (ℕ → ℕ) → (ℕ → Slot) → (ℕ → Option HandSeen) → Type 0
  Found words slots hands = AllFound (IsFine script) words slots hands

  places : AreInPlace M.context M.slot M.hand
  places = h.aligned.shows.shows.places

  hand_was : M.hand c ≡ K.hand
  hand_was = hand_is w c

  abbrev HandComes : CarrierSeen → ℕ → Type 0
  HandComes k n = IfSome k.hand (λ x. (x.context ≡ n) × ComesTo script (switched_of x.value))

  -- the context in its hand
  hand_fine : (k : CarrierSeen) (n : ℕ) → IsSound script k → HandComes k n →
      IfSome k.hand (λ x. (x.context ≡ n) × IsFine script n x.value)
  hand_fine k n s is = by k.hand s.hand is
    where
      by : (o : Option HandSeen) → IfSome o (IsHand script k.table) →
          IfSome o (λ x. (x.context ≡ n) × ComesTo script (switched_of x.value)) →
          IfSome o (λ x. (x.context ≡ n) × IsFine script n x.value)
      by None hand is = tt
      by (Some x) hand is = (
        is.0,
        record {
          number = subst (λ i. IsOfNumber script.table i x.value) is.0
              (subst (λ t. IsOfNumber t x.context x.value) s.table hand.number);
          sound = hand.sound;
          finished = is.1;
        },
      )

  -- a step
  module _ (x : HandSeen) (e : K.hand ≡ Some x) (run : ask_of K ≡ Run x) where
    abbrev x' : HandSeen
    x' = record { context = x.context; value = contexts.resumed (V x e run) (answer_in w (S x e run)) }

    run_found : (o : Option Entry) → AllFound (IsFine script)
        (moved_maps script M c x.context (move_by script K (Run x)) (Some x') o).context
        (moved_maps script M c x.context (move_by script K (Run x)) (Some x') o).slot
        (moved_maps script M c x.context (move_by script K (Run x)) (Some x') o).hand
    run_found o = subst (λ s. AllFound (IsFine script) (moved_maps script M c x.context (Section s) (Some x')
        o).context (moved_maps script M c x.context (Section s) (Some x') o).slot
        (moved_maps script M c x.context (Section s) (Some x') o).hand) (sym (step x e run).is)
        (section_found script (IsFine script) M c x x' places was_fine (hand_was ∙ e) refl same now
        (step x e run).ask (step x e run).hand o (step x e run).places)
      where
        same : version_held x' ≡ version_held x
        same = ap version_of (resumed_same (V x e run) (answer_in w (S x e run)) ∙ begun_same script x.value)

        comes : HandComes (resumed (A (Run x)) (X (Run x))) x.context
        comes = (refl, switched x e run x.value (answer_in w (S x e run)) (found x e run) (can x e run))

        now : IsFine script x.context x'.value
        now = (hand_fine (resumed (A (Run x)) (X (Run x))) x.context
            (resumed_sound script (A (Run x)) (X (Run x)) (run_goes x e run).sound (told x e run)
            (run_goes x e run).value) comes).1

  -- a look
  look_found : (k : CarrierSeen) (n : ℕ) → k.hand ≡ K.hand →
      AllFound (IsFine script) (upd M.context n (M.context n)) M.slot (upd M.hand c k.hand)
  look_found k n same = unchanged_found (IsFine script) M.context M.slot M.hand n c k.hand was_fine
      (same ∙ sym hand_was)

  -- a take that is won
  won_found : (bits : ℕ) → R.looked ≡ Some bits → K.hand ≡ None → (y : Option HandSeen) →
      IfSome y (λ x. (x.context ≡ N) × IsFine script N x.value) →
      AllFound (IsFine script) (upd M.context N (context_bits (taken_word K.number (context_word_of bits))))
      (upd M.slot N Away) (upd M.hand c y)
  won_found bits seen empty y fine = changed_found (IsFine script) M.context M.slot M.hand places was_fine N
      (taken_word K.number (context_word_of bits)) Away c y
      (λ i version ne k. absurd (subst (λ o. IsInHand o i version) (hand_was ∙ empty) k))
      (whole (context_word_of bits) (looked_rests script limits w b view state h finished c inside bits seen))
      here
    where
      whole : (z : ContextWord) → IsResting z → IsContextWord (taken_word K.number z)
      whole (context.Clean version) r = (sound.number, r)
      whole (context.Holds version) r = (sound.number, r)
      whole (context.Taken d version) r = absurd r
      whole context.Empty r = absurd r

      held : (y : Option HandSeen) → IfSome y (λ x. (x.context ≡ N) × IsFine script N x.value) →
          (v : ContextSeen) → held_in y ≡ Some v → IsFine script N v
      held None fine v e = absurd (let z : None ≡ Some v = e in cc)
      held (Some x) fine v e = let z : x.value ≡ v = cc in subst (IsFine script N) z fine.1

      here : (v : ContextSeen) → context_by (upd M.slot N Away) (upd M.hand c y) N
          (taken_word K.number (context_word_of bits)) ≡ Some v → IsFine script N v
      here v e = held y fine v (sym (ap (λ d. held_in (upd M.hand c y d)) (h.aligned.carriers c inside).number
          ∙ ap held_in (upd_same M.hand c y)) ∙ e)

  -- what it has in hand after a take
  take_comes : K.hand ≡ None → (bits : ℕ) → R.looked ≡ Some bits → (t : Bool) →
      (word_at w (word.Context N) == bits) ≡ t → HandComes (resumed T (TakenBy t)) N
  take_comes empty bits seen true e =
      by (slot_at w (slot_of N)) (λ v lies. rests_there w N v
      (subst (λ n. IsResting (context_word_of n)) (sym (eqb-true (word_at w (word.Context N)) bits e)
      ∙ word_is w (word.Context N))
      (looked_rests script limits w b view state h finished c inside bits seen)) lies)
    where
      none : IfSome R.hand (λ x. (x.context ≡ N) × ComesTo script (switched_of x.value))
      none = subst (λ (o : Option HandSeen). IfSome o
          (λ x. (x.context ≡ N) × ComesTo script (switched_of x.value))) (sym (readied_hand K ∙ empty)) tt

      by : (s : Slot) → ((v : ContextSeen) → s ≡ Resting v → found_in w N ≡ Some v) →
          HandComes (resumed T (took (word_at w (word.Context N)) s)) N
      by (Resting v) there =
          let is = takes_it (ComesTo script) (record T { awaits = awaits.Nothing }) (target_of T) v tt
          (finished N v (there v refl)) in
          subst (λ (o : Option HandSeen). IfSome o
          (λ x. (x.context ≡ N) × ComesTo script (switched_of x.value))) (sym is.hand)
          (is.context, is.finished)
      by (Guarded g) there = none
      by Away there = none
  take_comes empty bits seen false e =
      subst (λ (o : Option HandSeen). IfSome o (λ x. (x.context ≡ N) × ComesTo script (switched_of x.value)))
      (sym (readied_hand K ∙ empty)) tt

  take_found : K.hand ≡ None → (bits : ℕ) → R.looked ≡ Some bits → (t : Bool) →
      (word_at w (word.Context N) == bits) ≡ t → IsSound script (resumed T (TakenBy t)) →
      AllFound (IsFine script) (upd M.context N
      (if t then context_bits (taken_word K.number (context_word_of bits)) else M.context N))
      (slot_filled (if t then Place N Away else Same) M.slot) (upd M.hand c (resumed T (TakenBy t)).hand)
  take_found empty bits seen true e s = won_found bits seen empty (resumed T (TakenBy true)).hand
      (hand_fine (resumed T (TakenBy true)) N s (take_comes empty bits seen true e))
  take_found empty bits seen false e s = look_found (resumed T (TakenBy false)) N (readied_hand K)

  -- a give
  give_found : (x : HandSeen) → K.hand ≡ Some x → (q : Bool) (y : Option HandSeen) → y ≡ None →
      AllFound (IsFine script) (upd M.context x.context (context_bits (resting_word x.value)))
      (upd M.slot x.context (Resting (rested q x.value))) (upd M.hand c y)
  give_found x e q y none = changed_found (IsFine script) M.context M.slot M.hand places was_fine x.context
      (resting_word x.value) (Resting (rested q x.value)) c y
      (λ i version ne k. absurd (ne (sym (subst (λ o. IsInHand o i version) (hand_was ∙ e) k).0)))
      (resting_whole x.value whole) here
    where
      whole : IsVersion (version_of (owner_of x.value))
      whole = (subst IsContextWord (places.taken c x (hand_was ∙ e)) (places.spelled x.context).whole).1

      here : (v : ContextSeen) → context_by (upd M.slot x.context (Resting (rested q x.value)))
          (upd M.hand c y) x.context (resting_word x.value) ≡ Some v → IsFine script x.context v
      here v z =
          let lies : resting_in (upd M.slot x.context (Resting (rested q x.value)) x.context) ≡ Some v =
          resting_there x.value v (upd M.slot x.context (Resting (rested q x.value))) (upd M.hand c y)
          x.context z in
          let is : rested q x.value ≡ v = one_is
          (sym (ap resting_in (upd_same M.slot x.context (Resting (rested q x.value)))) ∙ lies) in
          subst (IsFine script x.context) is (rested_fine script x.context q x.value
          (was_fine x.context x.value (hand_found script limits w b view state h c inside x e)))

  -- ANY MOVE

  abbrev FoundAfter : CarrierAsk → Type 0
  FoundAfter q = (o : Option Entry) →
      AllFound (IsFine script) (moved_maps script M c (running (A q).hand) (move_by script K q)
      (resumed (A q) (X q)).hand o).context
      (moved_maps script M c (running (A q).hand) (move_by script K q) (resumed (A q) (X q)).hand o).slot
      (moved_maps script M c (running (A q).hand) (move_by script K q) (resumed (A q) (X q)).hand o).hand

  tells : (q : CarrierAsk) → ask_of K ≡ q → CanTell script (A q) (X q)
  tells q run = subst (λ q. CanTell script (A q) (X q)) run
      (can_be_told script limits w b view state h finished c inside)

  free_goes : (o : Option ℕ) → R.looked ≡ o → K.hand ≡ None → ask_of K ≡ ask_at R o →
      Goes script w K (ask_at R o) Helped × FoundAfter (ask_at R o)
  free_goes None seen empty run = (
    look_goes empty,
    λ o. look_found
        (resumed (A (ask_at R None)) (X (ask_at R None))) N
        (look_hand (record R { awaits = awaits.Nothing }) (target_of R)
        (context_word_of (word_at w (word.Context N))) (word_at w (word.Context N)) ∙ readied_hand K),
  )
  free_goes (Some bits) seen empty run = (
    take_goes bits empty,
    λ o. subst (λ t. AllFound (IsFine script)
        (upd M.context N (if t then context_bits (taken_word K.number (context_word_of bits)) else M.context N))
        (slot_filled (if t then Place N Away else Same) M.slot)
        (upd M.hand c (resumed T (TakenBy (word_at w (word.Context N) == bits))).hand))
        (ap (λ f. f == bits) (word_is w (word.Context N)))
        (take_found empty bits seen (word_at w (word.Context N) == bits) refl
        (resumed_sound script T (X (ask_at R (Some bits))) (take_goes bits empty).sound
        (tells (ask_at R (Some bits)) run) (take_goes bits empty).value)),
  )

  hand_goes : (o : Option HandSeen) → K.hand ≡ o → Goes script w K (ask_with K o) Helped × FoundAfter
      (ask_with K o)
  hand_goes None e = free_goes R.looked refl e (ap (ask_with K) e)
  hand_goes (Some x) e = by (gives K x) refl
    where
      by : (q : Bool) → gives K x ≡ q → Goes script w K (if q then PutDown x else Run x) Helped × FoundAfter
          (if q then PutDown x else Run x)
      by true z = (
        give_goes x e,
        λ o. give_found x e (is_own K x)
            (resumed (A (PutDown x)) answers.Given).hand (given_hand _ (switched_given (A (PutDown x)).awaits)),
      )
      by false z =
          let run : ask_of K ≡ Run x = ap (ask_with K) e ∙ ap (λ (t : Bool). if t then PutDown x else Run x)
          z in
          (run_goes x e run, λ o. run_found x e run o)

  all_goes : Goes script w K (ask_of K) Helped × FoundAfter (ask_of K)
  all_goes = hand_goes K.hand refl

  -- THE CARRIER

  abbrev K' : CarrierSeen
  K' = resumed (asked script K) (answer_by w (out_of script K))

  sound_then : IsSound script K'
  sound_then = resumed_sound script (asked script K) (answer_by w (out_of script K)) all_goes.0.sound
      (tells (ask_of K) refl) all_goes.0.value

  steady : IsSteady script c K'
  steady = record {
    number = resumed_number (asked script K) (answer_by w (out_of script K)) ∙ all_goes.0.keeps.number
        ∙ (h.aligned.carriers c inside).number;
    answered = resumed_answered script (asked script K) (answer_by w (out_of script K))
        (tells (ask_of K) refl);
    sound = sound_then;
    given = sound_given script K' sound_then (resumed_starts (asked script K) (answer_by w (out_of script K))
        ∙ all_goes.0.keeps.starts ∙ (h.aligned.carriers c inside).given.starts);
  }

  helped_then : IfSome K'.help (λ p. Helped p.context)
  helped_then = resumed_helps Helped (asked script K) (answer_by w (out_of script K))
      (all_goes.0.keeps.help helped) all_goes.0.helps

  -- THE WORLD

  count_then : length (moved script c w).carriers ≡ length w.carriers
  unfolding moved step_in
  count_then = length-set w.carriers c K'

  this_then : carrier_at (moved script c w) c ≡ K'
  unfolding moved step_in
  this_then = get_or-set_same w.carriers c K' (new_carrier 0 0) inside

  others_then : (d : ℕ) → d ≢ c → carrier_at (moved script c w) d ≡ carrier_at w d
  unfolding moved step_in
  others_then d ne = get_or-set_other w.carriers c d K' (new_carrier 0 0) ne

  each_then : (P : ℕ → CarrierSeen → Type 0) → ((d : ℕ) → d < length w.carriers → P d (carrier_at w d)) →
      P c K' → (d : ℕ) → d < length (moved script c w).carriers → P d (carrier_at (moved script c w) d)
  each_then P was now d low = elim (eqb_tells d c) [
    | inl q ↦ subst (λ n. P n (carrier_at (moved script c w) n)) (sym q.1) (subst (P c) (sym this_then) now)
    | inr q ↦ subst (P d) (sym (others_then d q.1)) (was d (subst (λ n. d < n) count_then low))
  ]

  found_then : IsStepWithin w (step_in script c w) → (i : ℕ) (v : ContextSeen) →
      found_in (moved script c w) i ≡ Some v → IsFine script i v
  unfolding moved step_in
  found_then within = subst (λ (m : Memory). AllFound (IsFine script) m.context m.slot m.hand)
      (sym (maps_moved script w (step_in script c w) within)) (all_goes.1 (entry_of w (step_in script c w)))

  pub all_sound : IsStepWithin w (step_in script c w) → AllSound script (moved script c w)
  all_sound within = record {
    contexts = λ i v e. ((found_then within i v e).number, (found_then within i v e).sound);
    carriers = each_then (IsSteady script) (λ d low. let al = h.aligned.carriers d low in
        record { number = al.number; answered = al.answered; sound = al.sound; given = al.given }) steady;
    helps = helps_then;
    finished = λ i v e. (found_then within i v e).finished;
  }
    where
      helps_then : HelpsWithin script (moved script c w)
      helps_then d low = subst (λ n. IfSome (carrier_at (moved script c w) d).help
          (λ p. p.context < script.table + n)) (sym count_then)
          (each_then (λ d k. IfSome k.help (λ p. Helped p.context)) (λ d low. h.helps d low) helped_then d
          low)
