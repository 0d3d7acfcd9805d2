-- A carrier takes a context: it comes into its hand as it is, or as one in which a switch begins, or as that of a thread
-- that wakes.
use Rattle.std.proofs.Common.{◌≡◌, ◌≢◌, ℕ, ◌+◌, ◌<◌, ◌==◌, Bool, true, false, length, refl, sym, ap, ◌∙◌}
use Rattle.std.proofs.Common.{subst, Option, Some, None, arith, inl, inr}
use Rattle.std.specs.Prelude.{if◌then◌else◌, is_some}
use Rattle.std.proofs.lemmas.Bool.{cases_Bool}
use Rattle.std.proofs.lemmas.Bool.Decides.{eqb_tells}
use Rattle.k_ids.specs.ContextWords.{IsContextSpelling, context_word_of}
use Rattle.k_ids.specs.declared.calls.Reply.{Reply}
use Rattle.k_locks.specs.declared.locks.WordName.TheVariants as name
use Rattle.k_locks.specs.Places.{slot_of}
use Rattle.k_model.specs.Maps.{lowest}
use Rattle.k_caller.specs.declared.activity.Activity.{Activity}
use Rattle.k_caller.specs.declared.activity.Activity.TheVariants as activity
use Rattle.k_caller.specs.declared.thread.ThreadLocation.TheVariants as location
use Rattle.k_caller.specs.Activities.{is_asleep}
use Rattle.k_caller.specs.Threads.{ThreadSeen}
use Rattle.k_switch.specs.declared.carrier_context.CarrierContext.{CarrierContext}
use Rattle.k_switch.specs.declared.goal.Goal.{Goal}
use Rattle.k_switch.specs.declared.switch.Switch.{Switch}
use Rattle.k_switch.specs.declared.switch.SwitchCall.{SwitchCall}
use Rattle.k_switch.specs.declared.switch.SwitchLocked.TheVariants as locked
use Rattle.k_switch.specs.Carriers as own
use Rattle.k_switch.specs.Switches.{SwitchAt, at_of}
use Rattle.k_switch.specs.Switches as switch
use Rattle.k_context.specs.Contexts.{ContextSeen, Thread, Carrier}
use Rattle.k_carrier.specs.declared.carrier.Target.{Target}
use Rattle.k_carrier.specs.declared.carrier.Target.TheVariants.{GoalOf, Helped, Own}
use Rattle.k_carrier.specs.declared.moves.Help.{Help}
use Rattle.k_carrier.specs.declared.moves.Awaits.TheVariants as awaits
use Rattle.k_carrier.specs.Answers as answer
use Rattle.k_carrier.specs.Asked.{CarrierAsk, Take, ask_of, asked, asked_by, move_by}
use Rattle.k_carrier.specs.Resumed.{resumed, switch_call}
use Rattle.k_carrier.specs.Rules.{context_at, own_context, readied, target_of, target_with}
use Rattle.k_carrier.specs.Seen.{CarrierSeen}
use Rattle.k_world.specs.Moves.{answer_by, took}
use Rattle.k_world.specs.Steps.{moved}
use Rattle.k_world.specs.Worlds.{carrier_at, slot_at, word_at}
use Rattle.k_board.specs.Boards.{Alone, Board, InSwitch, Resting}
use Rattle.k_board.specs.Steps.{placed}
use Rattle.k_board.specs.Turns as turn
use Rattle.k_plays.specs.Scripts.{ranged_programs}
use Rattle.k_places.specs.Memory.{Memory, at, memory_of}
use Rattle.k_places.specs.Shows.{Shows}
use Rattle.k_places.proofs.Raw.{word_is}
use Rattle.k_joint.proofs.Runs.{MapsWith}
use Rattle.k_stages.specs.Stages.{IsFrom}
use Rattle.k_tokens.specs.Steps.{FindsTaken, ThreadStep}
use Rattle.k_tokens.specs.World.{Asleep, ContextName, OfCarrier, OfThread, Stage, has_switch, with_carrier}
use Rattle.k_tokens.specs.World as tokens
use Rattle.k_switching.specs.Claims.{IsAsked}
use Rattle.k_switching.specs.Rules as rules
use Rattle.k_switching.specs.Rules.{begun_with, carrier_step, taken, taken_as_it_is, taken_asleep, taken_goal}
use Rattle.k_switching.specs.Rules.{taken_own}
use Rattle.k_grants.specs.Views.{name_of}
use Rattle.k_moves.specs.Moved.{IsGoalGiven, IsMoved}
use Rattle.k_moves.specs.Views.{IsViewed, ShowsContext, ShowsOwn, carrier_view, condition_of, stage_of}
use Rattle.k_moves.specs.Views.{target_in}
use Rattle.k_moves.proofs.Looks.{take_asks}
use Rattle.k_moves.proofs.Takes.{take_is_same}
use Rattle.k_moves.proofs.Wins.{take_lost, take_won}
use Rattle.k_paired.specs.Pairs.{IsStill}
use Rattle.k_whole.specs.Whole.{begins_switch, stays, wakes}
use Rattle.k_handling.specs.Handling.{IsHandled}
use Rattle.k_handling.proofs.Contexts.{id_is}
use Rattle.k_handling.proofs.Handles.{IsAfter, Moment, given, number_is, serials_kept, table_is, viewed}
use Rattle.k_handling.proofs.Looks.{aim_word, few_contexts}
use Rattle.k_handling.proofs.Moves.{Heard, aim_within, handled_so, heard_after, nobody_in_hand, still_as}
use Rattle.k_handling.proofs.Moves.{take_kept}
use Rattle.k_handling.proofs.Taken.{IsThere, Value, at_asleep, at_rest, hand_then, looked, shows_awake, still}
use Rattle.k_handling.proofs.Taken.{shows_lost, shows_same, shows_switching, there, value_taken}
use Rattle.k_handling.proofs.Words.{hand_viewed, shown}

-- A TAKE OF THE VIEW that leaves threads, lists and switches as they were

still_taken : (view : tokens.World) (c : ℕ) (x : ContextName) → IsStill view (taken_as_it_is view c x)
still_taken view c (OfThread t) = record { threads = refl; ready = refl; lists = refl; running = refl; own = refl }
still_taken view c (OfCarrier d) = record { threads = refl; ready = refl; lists = refl; running = refl; own = refl }

still_goal : (view : tokens.World) (c t : ℕ) (a : Activity) → is_asleep a ≡ false →
    IsStill view (taken_goal view c t (condition_of a))
still_goal view c t (activity.Alone location.Asleep) e = absurd cc
still_goal view c t (activity.Alone location.Dead) e = record {
  threads = refl;
  ready = refl;
  lists = refl;
  running = refl;
  own = refl;
}
still_goal view c t (activity.Alone location.Ended) e = still_taken view c (OfThread t)
still_goal view c t (activity.Alone (location.Between last)) e = still_taken view c (OfThread t)
still_goal view c t (activity.Alone location.FallAsleep) e = still_taken view c (OfThread t)
still_goal view c t (activity.Alone location.LookAgain) e = still_taken view c (OfThread t)
still_goal view c t (activity.Alone (location.LoadMail from)) e = still_taken view c (OfThread t)
still_goal view c t (activity.Alone (location.Work count)) e = still_taken view c (OfThread t)
still_goal view c t (activity.Alone location.CommitEnd) e = still_taken view c (OfThread t)
still_goal view c t (activity.Send s) e = still_taken view c (OfThread t)
still_goal view c t (activity.Receive s) e = still_taken view c (OfThread t)
still_goal view c t (activity.Create s) e = still_taken view c (OfThread t)
still_goal view c t (activity.Destroy s) e = still_taken view c (OfThread t)

asleep_is : (a : Activity) → is_asleep a ≡ true → a ≡ activity.Alone location.Asleep
asleep_is (activity.Alone location.Asleep) q = refl
asleep_is (activity.Alone (location.Between last)) q = absurd cc
asleep_is (activity.Alone location.FallAsleep) q = absurd cc
asleep_is (activity.Alone location.LookAgain) q = absurd cc
asleep_is (activity.Alone (location.LoadMail from)) q = absurd cc
asleep_is (activity.Alone (location.Work count)) q = absurd cc
asleep_is (activity.Alone location.CommitEnd) q = absurd cc
asleep_is (activity.Alone location.Ended) q = absurd cc
asleep_is (activity.Alone location.Dead) q = absurd cc
asleep_is (activity.Send x) q = absurd cc
asleep_is (activity.Receive x) q = absurd cc
asleep_is (activity.Create x) q = absurd cc
asleep_is (activity.Destroy x) q = absurd cc

stage_there : (p : SwitchAt) → has_switch (stage_of p) ≡ true
stage_there switch.AcquireReady = refl
stage_there (switch.Locked (locked.LoadGoal goal)) = refl
stage_there (switch.Locked (locked.LoadStart back number)) = refl
stage_there (switch.Locked (locked.ReleaseReady back started)) = refl
stage_there (switch.Returned s) = refl
stage_there (switch.Finished s) = refl

-- a goal that is aimed at is a thread of the table
goal_aimed : (size : ℕ) (h : Option Help) (s : Bool) (o : Option Goal) (g : Goal) → target_with h s o ≡ GoalOf g →
    IsGoalGiven size o → g.id.number < size
goal_aimed size (Some p) s o g e i = absurd cc
goal_aimed size None true o g e i = absurd cc
goal_aimed size None false None g e i = absurd cc
goal_aimed size None false (Some x) g e i = let y : x ≡ g = cc in subst (λ (z : Goal). z.id.number < size) y i.0

module _ (now : Moment) (n bits : ℕ)
    (asks : ask_of (carrier_at now.w now.c) ≡ Take n bits) where
  open now use {script, limits, w, b, view, state, k, c, low}

  abbrev K : CarrierSeen
  K = carrier_at w c

  abbrev M : Memory
  M = memory_of w

  abbrev Found : ℕ
  Found = word_at w (name.Context n)

  number : K.number ≡ c
  number = number_is now

  table : K.table ≡ script.table
  table = table_is now

  mine : IsViewed view K
  mine = viewed now

  place : context_at K (target_of K) ≡ n
  place = ap (λ (x : CarrierSeen). context_at x (target_of x)) (sym (still now n bits asks)) ∙ (take_asks K n bits asks).place

  aimed : n < script.table + length w.carriers
  aimed =
      subst (λ m. m < script.table + length w.carriers) (take_asks K n bits asks).place (aim_within now)

  word : n < 72
  word = few_contexts now n aimed

  found_is : M.context n ≡ Found
  found_is = sym (word_is w (name.Context n))

  slot_is : slot_at w (slot_of n) ≡ M.slot n
  unfolding at
  slot_is = refl

  empty : (view.carrier c).hand ≡ None
  empty = hand_viewed script w b view state k c None low (take_asks K n bits asks).free

  nobody : (context : ContextName) → IsAsked view c context → ⊥
  nobody = nobody_in_hand view c empty

  said : rules.word_of view (name_of K.table n) ≡ context_word_of Found
  said = aim_word now n aimed

  abbrev Answered : Bool → answer.AnswerSeen
  Answered q = if q then took Found (slot_at w (slot_of n)) else answer.TakeLost Found

  -- IN VAIN

  lost : (Found == bits) ≡ false → Found ≢ bits → IsHandled script b view c (moved script c w) w.history state
  lost q ne =
      handled_so now (Take n bits) asks (answer.TakeLost Found) (ap Answered q) (λ x. refl) word
      (heard_after now (resumed (asked_by script K (Take n bits)) (answer.TakeLost Found))
      (record { number = refl; awaits = refl; starts = refl; help = inl refl })) b
      (shows_lost now n bits asks (ap (λ m. m == bits) found_is ∙ q)) k.serials
      (stays nobody (still_as (ap (λ m. carrier_step view m FindsTaken) (sym number) ∙ same FindsTaken)
      (record { threads = refl; ready = refl; lists = refl; running = refl; own = refl }))) refl
      (λ t. ap (λ (x : tokens.World). x.carrier) (same t)) (λ t. ap (λ (x : tokens.World). x.unmade) (same t))
    where
      same : (t : ThreadStep) → carrier_step view K.number t ≡
          with_carrier view K.number (carrier_view (resumed (asked script K) (answer.TakeLost Found)))
      same t =
          take_lost script view K n bits t mine (given now) asks Found said (looked now n bits asks).0
          (subst IsContextSpelling found_is (k.aligned.shows.shows.places.spelled n)) ne

  -- WON

  module _ (q : (Found == bits) ≡ true) (same : Found ≡ bits) where
    won : (M.context n == bits) ≡ true
    won = ap (λ m. m == bits) found_is ∙ q

    abbrev IsThereFor : ContextSeen → Type 0
    IsThereFor v = IsThere now n bits asks won v

    module _ (v : ContextSeen) (h : IsThereFor v) where
      abbrev Held : ContextSeen
      Held = Value now n bits asks won v h

      answers : answer_by w (move_by script K (Take n bits)) ≡ answer.Took v
      answers = ap Answered q ∙ ap (took Found) (slot_is ∙ h.slot)

      shows : ShowsContext view K.table n v
      shows = subst (λ m. ShowsContext view m n v) (sym table) (shown script w b view state k n v h.rests)

      moves : (t : ThreadStep) → IsMoved view (carrier_step view K.number t) K (resumed (asked script K) (answer.Took v)) n Held
          (Some K.number)
      moves t =
          take_is_same script view K n bits t v Held mine (given now) asks
          (said ∙ ap context_word_of same) shows
          (ap (λ (a : CarrierAsk). (resumed (asked_by script K a) (answer.Took v)).hand) asks
          ∙ hand_then now n bits asks won v h)

      takes : (t : ThreadStep) → carrier_step view K.number t ≡ taken view K.number (target_in K.table (target_of K))
      takes t =
          take_won script view K n bits t mine (given now) asks (said ∙ ap context_word_of same)

      takes_by : (g : Target) → target_of K ≡ g → carrier_step view c FindsTaken ≡ taken view K.number (target_in K.table g)
      takes_by g e =
          ap (λ m. carrier_step view m FindsTaken) (sym number) ∙ takes FindsTaken
          ∙ ap (λ (z : Target). taken view K.number (target_in K.table z)) e

      after : IsAfter now (resumed (asked_by script K (Take n bits)) (answer.Took v))
      after =
          heard_after now (resumed (asked_by script K (Take n bits)) (answer.Took v))
          (take_kept (Heard now) (target_of (readied K)) v)

      -- what comes into the hand, by what the carrier aims at
      held_by : (g : Target) → target_of K ≡ g → Held ≡ value_taken (Heard now) g v
      held_by g e =
          ap (λ (z : Target). value_taken (Heard now) z v) (ap target_of (still now n bits asks) ∙ e)

      as_it_is : Held ≡ v → IsStill view (carrier_step view c FindsTaken) → IsHandled script b view c (moved script c w) w.history state
      as_it_is e calm =
          handled_so now (Take n bits) asks (answer.Took v) answers (λ x. refl) word after b
          (shows_same now n bits asks won v h e) k.serials (stays nobody calm) refl
          (λ t. (moves t).carrier) (λ t. (moves t).unmade)

      -- ITS OWN CONTEXT

      module _ (z : CarrierContext) (is : v ≡ Carrier z) (aims : target_of K ≡ Own) where
        own_shows : ShowsContext view K.table n (Carrier z)
        own_shows = subst (ShowsContext view K.table n) is shows

        own_place : n ≡ own_context K
        own_place = sym place ∙ ap (context_at K) aims

        own_number : z.carrier ≡ K.number
        own_number = let x = own_shows.0 in let y = own_place in omega (arith, x, y)

        on_board : n ≡ b.size + c
        on_board = own_place ∙ (λ i. table i + number i) ∙ ap (λ m. m + c) (sym k.aligned.shows.shows.size)

        stage_is : (s : Stage) → (view.own z.carrier).stage ≡ s → (view.own K.number).stage ≡ s
        stage_is s e = ap (λ m. (view.own m).stage) (sym own_number) ∙ e

        goes_on : (s : Switch) → z.switch ≡ Some s → IsHandled script b view c (moved script c w) w.history state
        goes_on s on =
            as_it_is (held_by Own aims ∙ ap (value_taken (Heard now) Own) is
            ∙ ap (λ (o : Option Switch). if is_some o then Carrier z else Carrier (own.with_switch
            (switch_call (Heard now)) z)) on ∙ sym is)
            (still_as (takes_by Own aims ∙ ap (taken_own view K.number) (ap has_switch (stage_is (stage_of (at_of s.location))
            (subst (λ (o : Option Switch). ShowsOwn o (view.own z.carrier)) on own_shows.1).stage)
            ∙ stage_there (at_of s.location))) (still_taken view K.number (OfCarrier K.number)))

        abbrev Call : SwitchCall
        Call = switch_call (Heard now)

        abbrev After : ℕ → Board
        After m = placed b m (record (b.context m) { at = InSwitch Call switch.AcquireReady })

        begins : z.switch ≡ None → IsHandled script b view c (moved script c w) w.history state
        begins idle =
            handled_so now (Take n bits) asks (answer.Took v) answers (λ x. refl) word after
            (After (b.size + c)) (subst (λ m. Shows script (MapsWith script w c (Take n bits)) (After m)) on_board
            (shows_switching now n bits asks won v h z Call is idle value))
            (serials_kept (ranged_programs script) b (b.size + c) (length w.history) k.serials calm (After (b.size + c))
            (turn.begins_switch Call rest) refl)
            (begins_switch Call empty world rest from) refl (λ t. (moves t).carrier) (λ t. (moves t).unmade)
          where
            value : Held ≡ Carrier (own.with_switch Call z)
            value =
                held_by Own aims ∙ ap (value_taken (Heard now) Own) is
                ∙ ap (λ (o : Option Switch). if is_some o then Carrier z else Carrier (own.with_switch Call z)) idle

            rest : (b.context (b.size + c)).at ≡ Resting
            rest =
                ap (λ m. (b.context m).at) (sym on_board)
                ∙ at_rest now n bits asks won v h z Call is idle value

            calm : (l : Option Reply) → (b.context (b.size + c)).at ≡ Alone (location.Between l) → ⊥
            calm l e = let x : Alone (location.Between l) ≡ Resting = sym e ∙ rest in absurd cc

            none : (view.own K.number).stage ≡ tokens.NoSwitch
            none = stage_is tokens.NoSwitch (subst (λ (o : Option Switch). ShowsOwn o (view.own z.carrier)) idle own_shows.1)

            world : carrier_step view c FindsTaken ≡ begun_with view c (lowest (view.carrier c).starts 64)
            world =
                takes_by Own aims ∙ ap (taken_own view K.number) (ap has_switch none)
                ∙ ap (λ m. begun_with view m (lowest (view.carrier m).starts 64)) number

            like : (x : CarrierSeen) → x ≡ K → IsFrom (switch_call (record x { awaits = awaits.Nothing })) (view.carrier c)
                (lowest (view.carrier c).starts 64)
            like x e =
                subst (λ (y : tokens.Carrier). IsFrom (switch_call (record x { awaits = awaits.Nothing })) y (lowest y.starts 64))
                (ap carrier_view e ∙ sym (k.aligned.carriers c low).viewed)
                (record { goal = id_is x.goal; counted = refl; slice = refl; start = refl })

            from : IsFrom Call (view.carrier c) (lowest (view.carrier c).starts 64)
            from = like (readied K) (still now n bits asks)

      -- ITS GOAL'S

      module _ (g : Goal) (t : ThreadSeen) (is : v ≡ Thread t) (aims : target_of K ≡ GoalOf g) where
        goal_place : g.id.number ≡ n
        goal_place = ap (context_at K) (sym aims) ∙ place

        condition : view.threads.condition g.id.number ≡ condition_of t.activity
        condition =
            ap view.threads.condition goal_place ∙ (subst (ShowsContext view K.table n) is shows).condition

        abbrev WokenIf : Bool → ContextSeen
        WokenIf a = Thread (if a then record t { activity = activity.Alone location.LookAgain } else t)

        value : (a : Bool) → is_asleep t.activity ≡ a → Held ≡ WokenIf a
        value a e =
            held_by (GoalOf g) aims ∙ ap (value_taken (Heard now) (GoalOf g)) is ∙ ap WokenIf e

        awake : is_asleep t.activity ≡ false → IsHandled script b view c (moved script c w) w.history state
        awake e =
            as_it_is (value false e ∙ sym is)
            (still_as (takes_by (GoalOf g) aims ∙ ap (taken_goal view K.number g.id.number) condition)
            (still_goal view K.number g.id.number t.activity e))

        asleep : is_asleep t.activity ≡ true → IsHandled script b view c (moved script c w) w.history state
        asleep e =
            handled_so now (Take n bits) asks (answer.Took v) answers (λ x. refl) word after
            (placed b n (record (b.context n) { at = Alone location.LookAgain }))
            (shows_awake now n bits asks won v h t is sleeps (value true e))
            (serials_kept (ranged_programs script) b n (length w.history) k.serials calm
            (placed b n (record (b.context n) { at = Alone location.LookAgain })) (turn.wakes stands) refl)
            (wakes n empty world small stands) refl (λ t. (moves t).carrier) (λ t. (moves t).unmade)
          where
            sleeps : t.activity ≡ activity.Alone location.Asleep
            sleeps = asleep_is t.activity e

            stands : (b.context n).at ≡ Alone location.Asleep
            stands = at_asleep now n bits asks won v h t is sleeps (value true e)

            calm : (l : Option Reply) → (b.context n).at ≡ Alone (location.Between l) → ⊥
            calm l x = let y : Alone (location.Between l) ≡ Alone location.Asleep = sym x ∙ stands in absurd cc

            small : n < b.size
            small =
                subst (λ m. n < m) (sym k.aligned.shows.shows.size)
                (subst (λ m. n < m) table (subst (ShowsContext view K.table n) is shows).inside)

            world : carrier_step view c FindsTaken ≡ taken_asleep view c n
            world =
                takes_by (GoalOf g) aims ∙ ap (taken_goal view K.number g.id.number) (condition ∙ ap condition_of sleeps)
                ∙ (λ i. taken_asleep view (number i) (goal_place i))

      -- BY WHAT IT AIMS AT

      by_aim : (g : Target) → target_of K ≡ g → (u : ContextSeen) → v ≡ u → IsHandled script b view c (moved script c w) w.history state
      by_aim (Helped x) e u is =
          as_it_is (held_by (Helped x) e) (still_as (takes_by (Helped x) e) (still_taken view K.number (name_of K.table x)))
      by_aim Own e (Thread t) is =
          absurd (let i = (subst (ShowsContext view K.table n) is shows).inside in
          let p : n ≡ own_context K = sym place ∙ ap (context_at K) e in omega (arith, i, p))
      by_aim Own e (Carrier z) is = by z.switch refl
        where
          by : (o : Option Switch) → z.switch ≡ o → IsHandled script b view c (moved script c w) w.history state
          by None on = begins z is e on
          by (Some s) on = goes_on z is e s on
      by_aim (GoalOf g) e (Carrier z) is =
          absurd (let x = (subst (ShowsContext view K.table n) is shows).0 in
          let p : g.id.number ≡ n = ap (context_at K) (sym e) ∙ place in
          let i = goal_aimed K.table K.help K.switching K.goal g e (given now).goal in
          omega (arith, x, p, i))
      by_aim (GoalOf g) e (Thread t) is = elim (cases_Bool (is_asleep t.activity)) [
        | inl y ↦ asleep g t is e y
        | inr y ↦ awake g t is e y
      ]

    won_handled : IsHandled script b view c (moved script c w) w.history state
    won_handled =
        let f = there now n bits asks won in by_aim f.0 f.1 (target_of K) refl f.0 refl

  pub take_handled : IsHandled script b view c (moved script c w) w.history state
  take_handled = elim (eqb_tells Found bits) [ inl e ↦ won_handled e.0 e.1 | inr e ↦ lost e.0 e.1 ]
