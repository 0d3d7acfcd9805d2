-- Who holds up a step isn't the context that makes it: that wants no lock that it owns, and is in a hand.
use Rattle.std.proofs.Common.{◌≡◌, ℕ, ◌==◌, Bool, true, false, refl, sym, ap, ◌∙◌, subst, Option, Some, None, arith, inl, inr}
use Rattle.std.specs.Prelude.{if◌then◌else◌}
use Rattle.std.proofs.lemmas.Grind.{common_steps}
use Rattle.k_ids.specs.declared.context_word.ContextWord.{ContextWord}
use Rattle.k_ids.specs.declared.context_word.ContextWord.TheVariants as context_word
use Rattle.k_ids.specs.declared.state_word.StateWord.{StateWord}
use Rattle.k_ids.specs.declared.threads.ThreadId.{ThreadId}
use Rattle.k_ids.specs.ContextWords.{context_bits, context_word_of}
use Rattle.k_locks.specs.declared.locks.Lock.{Lock}
use Rattle.k_locks.specs.declared.steps.Told.TheVariants as told
use Rattle.k_locks.specs.Asks.{Ask, Want, step_for, want_for, want_of}
use Rattle.k_locks.specs.Asks as asks
use Rattle.k_locks.specs.Hands.{Hand, nothing}
use Rattle.k_locks.specs.Locks.{Holds as HoldsLock}
use Rattle.k_locks.specs.Steps.{answer_of, not_removed, word_of}
use Rattle.k_script.specs.Limits.{IsScript}
use Rattle.k_script.specs.Script.{Script}
use Rattle.k_caller.specs.declared.activity.Activity.{Activity}
use Rattle.k_caller.specs.declared.activity.Activity.TheVariants as activity
use Rattle.k_caller.specs.declared.thread.ThreadLocation.{ThreadLocation}
use Rattle.k_caller.specs.declared.thread.ThreadLocation.TheVariants as location
use Rattle.k_caller.specs.Activities.{section_own}
use Rattle.k_caller.specs.Threads.{ThreadSeen, begun_at}
use Rattle.k_caller.specs.Waits as alone
use Rattle.k_switch.specs.declared.switch.Switch.{Switch}
use Rattle.k_switch.specs.Carriers as carriers
use Rattle.k_switch.specs.Switches as switch
use Rattle.k_context.specs.Contexts.{Carrier, ContextSeen, Thread, begun, step_of}
use Rattle.k_carrier.specs.Asked.{Run, ask_of}
use Rattle.k_carrier.specs.Resumed.{told_in}
use Rattle.k_carrier.specs.Seen.{HandSeen}
use Rattle.k_world.specs.Worlds.{World, carrier_at}
use Rattle.k_board.specs.Boards.{Alone, Board, Context, owner_of}
use Rattle.k_good.specs.Locks.{locks_at}
use Rattle.k_good.proofs.Owners.{Named}
use Rattle.k_plays.specs.Scripts.{ranged_programs}
use Rattle.k_places.specs.Answers.{answer_in}
use Rattle.k_places.specs.Contexts.{IsShown, ShowsContext, at_in, switch_at}
use Rattle.k_places.specs.Memory.{Memory, memory_of}
use Rattle.k_places.specs.Shows.{Shows}
use Rattle.k_places.proofs.Places.{held_is}
use Rattle.k_places.proofs.Raw.{word_is}
use Rattle.k_turns.specs.Spelled.{IsSpelled, ask_at, ask_in, ask_of_switch}
use Rattle.k_joint.proofs.Runs.{goods_is, hand_is, hand_of_run}
use Rattle.k_sections.specs.Situations.{situation_of, want_at, wants_of}
use Rattle.k_sections.proofs.Answered.{holder_is, owned_held}
use Rattle.k_sections.proofs.LockLaws.{rank_rises}
use Rattle.k_sections.proofs.Tables.{ThreadTables}
use Rattle.k_switch.specs.declared.switch.SwitchCall.{SwitchCall}
use Rattle.k_invariant.specs.Invariant.{Holds}
use Rattle.k_invariant.proofs.Waits.{kept}
use Rattle.k_conditions.proofs.Others.{none_held}
use Rattle.k_running.specs.Running.{KernelHolds}
use Rattle.k_running.proofs.Again.{hand_for, step_is}
use Rattle.k_running.proofs.Found.{Heard, Tells}
use Rattle.k_running.proofs.Helped.{told_holds, told_owned}
use Rattle.k_running.proofs.Shown.{stands_like}

-- THE STEP OF A CONTEXT, by what it asks for

abbrev switch_hand_for : Option Switch → Hand
switch_hand_for None = nothing
switch_hand_for (Some s) = switch.hand_after s.call (switch.hand_of s.location) (switch.at_of s.location) asks.Released

switch_step_is : (o : Option Switch) → carriers.step_in o ≡ step_for (ask_of_switch o) (switch_hand_for o)
switch_step_is None = refl
switch_step_is (Some s) = refl

abbrev context_hand_for : Memory → ContextSeen → Hand
context_hand_for m (Thread t) = hand_for m t t.activity
context_hand_for m (Carrier k) = switch_hand_for k.switch

context_step_is : (m : Memory) (v : ContextSeen) → step_of v ≡ step_for (ask_at v) (context_hand_for m v)
context_step_is m (Thread t) = step_is m t t.activity
context_step_is m (Carrier k) = switch_step_is k.switch

-- WHAT IT WANTS, and the board has it

alone_wants : (me : ThreadId) (own : StateWord) (p : ThreadLocation) → None ≡ want_of (alone.ask_of me own p)
alone_wants me own p = grind (arith, common_steps)

activity_wants : (me : ThreadId) (own : StateWord) (a : Activity) →
    want_at (section_own own a) (at_in a) ≡ want_of (ask_in me own a)
activity_wants me own (activity.Alone p) = alone_wants me own p
activity_wants me own (activity.Send s) = refl
activity_wants me own (activity.Receive s) = refl
activity_wants me own (activity.Create s) = refl
activity_wants me own (activity.Destroy s) = refl

switch_wants : (own : StateWord) (o : Option Switch) → want_at own (switch_at o) ≡ want_of (ask_of_switch o)
switch_wants own None = refl
switch_wants own (Some s) = refl

context_wants : (word : StateWord) (n : ℕ) (v : ContextSeen) (x : Context) → ShowsContext word n (Some v) x →
    want_at x.own x.at ≡ want_of (ask_at v)
context_wants word n (Thread t) x shown =
    stands_like (want_at x.own) word n t x shown refl
    ∙ ap (λ (y : Context). want_at y.own (at_in t.activity)) shown.context
    ∙ activity_wants t.id t.own t.activity
context_wants word n (Carrier k) x shown = ap (want_at x.own) shown ∙ switch_wants x.own k.switch

-- a thread between two calls holds no lock
alone_free : (word : StateWord) (n : ℕ) (t : ThreadSeen) (x : Context) (p : ThreadLocation) → IsShown word n t x →
    t.activity ≡ activity.Alone p → locks_at x.at ≡ locks_at (Alone p)
alone_free word n t x p shown e = stands_like locks_at word n t x shown refl ∙ ap (λ a. locks_at (at_in a)) e

-- no removal is told of a context in a hand that it holds a lock
removes_taken : (q : Bool) (n : ℕ) (w : ContextWord) (carrier version o : ℕ) → w ≡ context_word.Taken carrier version →
    Some (if q then told.Removed else not_removed n w) ≡ Some (told.Holds o) → ⊥
removes_taken true n w carrier version o t e = absurd cc
removes_taken false n context_word.Empty carrier version o t e = absurd cc
removes_taken false n (context_word.Clean v) carrier version o t e = absurd cc
removes_taken false n (context_word.Holds v) carrier version o t e = absurd cc
removes_taken false n (context_word.Taken d v) carrier version o t e = absurd cc

no_switch : Board → ℕ → SwitchCall
no_switch b i = record { goal = None; counted = false; slice_ended = false; start = None }

module _ (script : Script) (limits : IsScript script) (tables : ThreadTables) (w : World) (h : KernelHolds script w) (c : ℕ)
    (x : HandSeen) (runs : ask_of (carrier_at w c) ≡ Run x) (spelled : IsSpelled script.table (ask_at (begun script x.value))) where
  abbrev M : Memory
  M = memory_of w

  abbrev B : Board
  B = h.board

  abbrev V : ContextSeen
  V = begun script x.value

  sh : Shows script M B
  sh = h.aligned.shows.shows

  in_hand : M.hand c ≡ Some x
  in_hand = hand_is w c ∙ hand_of_run (carrier_at w c) x runs

  shown : ShowsContext (B.seen x.context).word x.context (Some x.value) (B.context x.context)
  shown =
      subst (λ (o : Option ContextSeen). ShowsContext (B.seen x.context).word x.context o (B.context x.context))
      (held_is M.context M.slot M.hand c x sh.places in_hand) (sh.contexts x.context)

  heard : Heard script w c x ≡ answer_in M (step_for (ask_at V) (context_hand_for M V))
  heard =
      (λ d. answer_of (step_of V) (word_is w (word_of (step_of V)) d) (goods_is w (step_of V) d))
      ∙ ap (answer_in M) (context_step_is M V)

  -- A LOCK

  module _ (l : Lock) (wants : ask_at V ≡ asks.Acquire l) (owns : owner_of B l ≡ Some x.context) where
    -- what it wants stands above all that it holds
    staying : V ≡ x.value → ⊥
    staying same =
        let wanted : wants_of (situation_of B) x.context ≡ Some (want_for l) =
        context_wants (B.seen x.context).word x.context x.value (B.context x.context) shown
        ∙ ap (λ (v : ContextSeen). want_of (ask_at v)) (sym same) ∙ ap want_of wants in
        let up = rank_rises tables (ranged_programs script) no_switch (Holds script) (kept script limits) (situation_of B)
        x.context x.context (want_for l) (want_for l) (record {
          board = record { entries = w.history; state = h.state; holds = h.whole.holds };
          unlocked = λ n want e. absurd cc;
          spared = λ n want e. absurd cc;
        }) wanted (holder_is B l ∙ owns) wanted in omega (arith, up)

    named : Named B
    named = h.whole.holds.proper.good.locks

    never_owns : ⊥
    never_owns = by x.value refl shown
      where
        by : (v : ContextSeen) → x.value ≡ v → ShowsContext (B.seen x.context).word x.context (Some v) (B.context x.context) → ⊥
        by (Carrier k) q s = staying (ap (begun script) q ∙ sym q)
        by (Thread t) q s = acts t.activity refl
          where
            acts : (a : Activity) → t.activity ≡ a → ⊥
            acts (activity.Alone (location.Between last)) e =
                none_held l (subst (HoldsLock l)
                (alone_free (B.seen x.context).word x.context t (B.context x.context) (location.Between last) s e)
                (owned_held B named l x.context owns))
            acts a e = staying (ap (begun script) q ∙ ap (λ z. Thread (begun_at script t z)) e ∙ sym q)

  owned_apart : (i : ℕ) → told_in (Heard script w c x) ≡ Some (told.Owned i) → x.context ≡ i → ⊥
  owned_apart i e same =
      let k = told_owned script M B sh (context_hand_for M V) (ask_at V) spelled i (ap told_in (sym heard) ∙ e) in
      never_owns k.0 k.1 (k.2 ∙ ap (λ n. Some n) (sym same))

  -- A CONTEXT

  holds_apart : (i : ℕ) → told_in (Heard script w c x) ≡ Some (told.Holds i) → x.context ≡ i → ⊥
  holds_apart i e same =
      let told_here = ap told_in (sym heard) ∙ e in
      let k = told_holds script M B sh (context_hand_for M V) (ask_at V) i told_here in
      removes_taken (M.context k.0.number == context_bits (context_word.Clean k.0.version)) k.0.number
      (context_word_of (M.context k.0.number)) c _ i
      (ap (λ n. context_word_of (M.context n)) (k.2 ∙ sym same) ∙ sh.places.taken c x in_hand)
      (subst (λ a. told_in (answer_in M (step_for a (context_hand_for M V))) ≡ Some (told.Holds i)) k.1 told_here)

  pub apart : (i : ℕ) → Tells (Heard script w c x) i → x.context ≡ i → ⊥
  apart i t = elim t [
    | inl e ↦ owned_apart i e
    | inr e ↦ holds_apart i e
  ]
