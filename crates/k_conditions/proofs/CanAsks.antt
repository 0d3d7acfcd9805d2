-- A carrier can be asked for its next move.
use Rattle.std.proofs.Common.{◌≡◌, ◌≤◌, ◌<◌, ℕ, Bool, true, false, refl, sym, ap, ◌∙◌, subst, Option, Some, None, IfSome, length}
use Rattle.std.proofs.lemmas.Bool.{false≢true}
use Rattle.std.specs.Prelude.{◌==◌, if◌then◌else◌}
use Rattle.k_model.specs.State.{KernelState}
use Rattle.k_script.specs.Limits.{IsScript}
use Rattle.k_script.specs.Script.{Script}
use Rattle.k_switch.specs.declared.carrier_context.CarrierContext.{CarrierContext}
use Rattle.k_switch.specs.declared.goal.Switched.{Switched}
use Rattle.k_switch.specs.declared.switch.Switch.{Switch}
use Rattle.k_switch.specs.declared.switch.SwitchLocation.{SwitchLocation}
use Rattle.k_switch.specs.declared.switch.SwitchLocation.TheVariants as switch_location
use Rattle.k_switch.specs.Carriers as own
use Rattle.k_switch.specs.Switches as switch
use Rattle.k_caller.specs.Threads.{ThreadSeen}
use Rattle.k_context.specs.Contexts.{CanPush, Carrier, ContextSeen, Thread, begun, can_ask, switched_of}
use Rattle.k_carrier.specs.Asked.{PutDown, Run, ask_at, ask_of, ask_with}
use Rattle.k_carrier.specs.Conditions.{CanAsk, CanMove, IsGoalIn}
use Rattle.k_carrier.specs.Rules.{gives, is_own, readied}
use Rattle.k_carrier.specs.Seen.{CarrierSeen, HandSeen}
use Rattle.k_world.specs.Worlds.{World, carrier_at}
use Rattle.k_board.specs.Boards.{At, Board, Coming, Context}
use Rattle.k_board.specs.Turns.{is_going}
use Rattle.k_good.specs.Locks.{locks_at}
use Rattle.k_places.specs.Contexts.{IsShown, at_in, hand_in, held_on, switch_at, switch_hand}
use Rattle.k_tokens.specs.World.{OwnContext}
use Rattle.k_tokens.specs.World as tokens
use Rattle.k_moves.specs.Views.{ShowsAt, ShowsContext, ShowsOwn}
use Rattle.k_aligned.specs.Aligned.{found_in}
use Rattle.k_whole.specs.Next.{has_next}
use Rattle.k_handling.specs.Handling.{IsKernel}
use Rattle.k_handling.proofs.Contexts.{on_board}
use Rattle.k_conditions.specs.Finished.{FinishedWithin}
use Rattle.k_conditions.proofs.Asks.{begun_so, thread_asks}
use Rattle.k_conditions.proofs.Fills.{switch_pushes}
use Rattle.k_conditions.proofs.Moments.{hand_found, in_view, next_at, table_is}
use Rattle.k_conditions.proofs.Pushes.{thread_pushes}

-- without a hand it looks or takes
free_move : (script : Script) (k r : CarrierSeen) (o : Option ℕ) → CanMove script k (ask_at r o)
free_move script k r None = tt
free_move script k r (Some bits) = tt

-- a switch that goes on, as the good world has it, can be asked
going_asks : (own : OwnContext) (l : SwitchLocation) → ShowsAt own (switch.at_of l) →
    is_going (switch.at_of l) ≡ true → switch.can_ask l ≡ true
going_asks own switch_location.AcquireReady shown n = refl
going_asks own (switch_location.Locked p lists) shown n = refl
going_asks own (switch_location.ListsReturned s) shown n = absurd shown
going_asks own (switch_location.Finished s) shown n = absurd (false≢true n)

module _ (script : Script) (limits : IsScript script) (w : World) (b : Board) (view : tokens.World)
    (state : KernelState)
    (h : IsKernel script w b view state) where
  pub some : 1 ≤ b.size
  some = subst (λ n. 1 ≤ n) (sym h.aligned.shows.shows.size) limits.table.0

  -- A THREAD'S

  -- where it stands, where it isn't one that is still to be made
  pub stands : (n : ℕ) (t : ThreadSeen) → found_in w n ≡ Some (Thread t) → has_next (b.context n).at ≡ true →
      (b.context n).at ≡ at_in t.activity
  stands n t found next = by ((b.seen n).word.version == t.id.version) refl
    where
      shown : IsShown (b.seen n).word n t (b.context n)
      shown = on_board script w b view h.aligned.shows h.whole.pair.alike h.aligned.contexts n (Thread t)
          found

      by : (q : Bool) → ((b.seen n).word.version == t.id.version) ≡ q → (b.context n).at ≡ at_in t.activity
      by true e = ap (λ (z : Context). z.at) shown.context
          ∙ ap (λ (q : Bool). if q then at_in t.activity else Coming) e
      by false e = absurd (false≢true (sym
          (ap has_next (ap (λ (z : Context). z.at) shown.context
          ∙ ap (λ (q : Bool). if q then at_in t.activity else Coming) e)) ∙ next))

  pub in_hand : (n : ℕ) (t : ThreadSeen) → found_in w n ≡ Some (Thread t) →
      (b.context n).at ≡ at_in t.activity → hand_in t.activity ≡ held_on b (locks_at (at_in t.activity))
  in_hand n t found at = h.aligned.shows.shows.goods.hands n (Thread t) found
      ∙ ap (λ (p : At). held_on b (locks_at p)) at

  thread_can : (n : ℕ) (t : ThreadSeen) → found_in w n ≡ Some (Thread t) → has_next (b.context n).at ≡ true →
      (can_ask (begun script (Thread t)) ≡ true) × CanPush (begun script (Thread t))
  thread_can n t found next =
      let at = stands n t found next in
      let hand = in_hand n t found at in
      let goes : has_next (at_in t.activity) ≡ true = ap has_next (sym at) ∙ next in
      let inside : n < b.size = subst (λ m. n < m) (sym h.aligned.shows.shows.size)
      (subst (λ m. m < script.table) (h.aligned.contexts n (Thread t) found).0
      (h.aligned.contexts n (Thread t) found).1.inside) in (
        thread_asks b some h.whole.pair.alike.agrees.whole h.whole.pair.within.count script t goes hand,
        begun_so script t (thread_pushes script limits w b view state h n inside t.activity at goes hand),
      )

  -- A CARRIER'S OWN

  own_can : (n : ℕ) (x : CarrierContext) → found_in w n ≡ Some (Carrier x) →
      has_next (b.context n).at ≡ true → ShowsOwn x.switch (view.own x.carrier) →
      (can_ask (Carrier x) ≡ true) × CanPush (Carrier x)
  own_can n x found next shown =
      by x.switch (ap has_next (sym at) ∙ next) shown (h.aligned.shows.shows.goods.hands n (Carrier x) found
      ∙ ap (λ (p : At). held_on b (locks_at p)) at)
      (h.aligned.contexts n (Carrier x) found).1.switch
    where
      at : (b.context n).at ≡ switch_at x.switch
      at = on_board script w b view h.aligned.shows h.whole.pair.alike h.aligned.contexts n (Carrier x) found

      by : (s : Option Switch) → has_next (switch_at s) ≡ true → ShowsOwn s (view.own x.carrier) →
          switch_hand s ≡ held_on b (locks_at (switch_at s)) → IfSome s switch.IsSound →
          (own.can_ask_in s ≡ true) × own.CanPushIn s
      by None next shown hand sound = absurd (false≢true next)
      by (Some s) next shown hand sound =
          let can = going_asks (view.own x.carrier) s.location shown.at next in
          (can, switch_pushes script w b view state h x.carrier s shown can hand sound.located)

  -- ANY

  pub context_can : (n : ℕ) (v : ContextSeen) → found_in w n ≡ Some v → has_next (b.context n).at ≡ true →
      ShowsContext view script.table n v → (can_ask (begun script v) ≡ true) × CanPush (begun script v)
  context_can n (Thread t) found next shown = thread_can n t found next
  context_can n (Carrier x) found next shown = own_can n x found next shown.1

  module _ (finished : FinishedWithin script w) (c : ℕ) (inside : c < length w.carriers) where
    abbrev K : CarrierSeen
    K = carrier_at w c

    pub run_can : (x : HandSeen) → ask_of K ≡ Run x → K.hand ≡ Some x →
        (can_ask (begun script x.value) ≡ true) × CanPush (begun script x.value)
    run_can x a e =
        let found = hand_found script limits w b view state h c inside x e in
        context_can x.context x.value found (next_at script limits w b view state h c inside x a)
        (in_view script limits w b view state h c inside x.context x.value found)

    pub put_can : (x : HandSeen) → K.hand ≡ Some x → CanMove script K (PutDown x)
    put_can x e = by (is_own K x)
      where
        found : found_in w x.context ≡ Some x.value
        found = hand_found script limits w b view state h c inside x e

        by : (q : Bool) → IfSome (if q then switched_of x.value else None)
            (λ (s : Switched). IfSome s.goal (IsGoalIn K.table))
        by true = subst (λ n. IfSome (switched_of x.value) (λ (s : Switched). IfSome s.goal (IsGoalIn n)))
            (sym (table_is script limits w b view state h c inside)) (finished x.context x.value found)
        by false = tt

    can_move : (o : Option HandSeen) → K.hand ≡ o → CanMove script K (ask_with K o)
    can_move None e = free_move script K (readied K) (readied K).looked
    can_move (Some x) e = by (gives K x) refl
      where
        asks : ask_of K ≡ (if gives K x then PutDown x else Run x)
        asks = ap (ask_with K) e

        by : (q : Bool) → gives K x ≡ q → CanMove script K (if q then PutDown x else Run x)
        by true q = put_can x e
        by false q = run_can x (asks ∙ ap (λ (t : Bool). if t then PutDown x else Run x) q) e

    pub can_be_asked : CanAsk script K
    can_be_asked = record {
      answered = (h.aligned.carriers c inside).answered;
      sound = (h.aligned.carriers c inside).sound;
      move = can_move K.hand refl;
    }
