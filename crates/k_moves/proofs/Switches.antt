-- A step of a switch, in the hand of its carrier or of another.
use Rattle.std.proofs.Common.{◌≡◌, ℕ, ◌==◌, Bool, true, false, not, refl, sym, ap, ◌∙◌, subst, Option, Some, None, List}
use Rattle.std.specs.Prelude.{◌&&◌, if◌then◌else◌, is_some}
use Rattle.k_ids.specs.declared.threads.ThreadId.{ThreadId}
use Rattle.k_ids.specs.declared.state_word.StateWord.{StateWord}
use Rattle.k_ids.specs.StateWords.{state_word_of}
use Rattle.k_model.specs.Maps.{upd}
use Rattle.k_model.proofs.Maps.{upd_cases, upd_same}
use Rattle.k_ready.specs.Lists.{Ready}
use Rattle.k_locks.specs.declared.goods.Goods.{Goods}
use Rattle.k_locks.specs.declared.locks.Lock.TheVariants as lock
use Rattle.k_locks.specs.declared.steps.Answer.{Answer}
use Rattle.k_locks.specs.declared.steps.Answer.TheVariants as answer
use Rattle.k_locks.specs.declared.steps.Told.TheVariants as told
use Rattle.k_locks.specs.Shown.{is_dead}
use Rattle.k_script.specs.Script.{Script}
use Rattle.k_switch.specs.declared.goal.Goal.{Goal}
use Rattle.k_switch.specs.declared.switch.SwitchCall.{SwitchCall}
use Rattle.k_switch.specs.declared.switch.SwitchLocation.{SwitchLocation}
use Rattle.k_switch.specs.declared.switch.SwitchLocation.TheVariants as location
use Rattle.k_switch.specs.declared.switch.SwitchLocked.{SwitchLocked}
use Rattle.k_switch.specs.declared.switch.SwitchLocked.TheVariants as locked
use Rattle.k_switch.specs.Switches as switch
use Rattle.k_context.specs.Contexts.{ContextSeen}
use Rattle.k_carrier.specs.Answers as answers
use Rattle.k_carrier.specs.Asked.{Run, ask_of, asked, asked_by}
use Rattle.k_carrier.specs.Resumed.{resumed}
use Rattle.k_carrier.specs.Seen.{CarrierSeen, HandSeen}
use Rattle.k_tokens.specs.World.{ContextName, OfCarrier, OwnContext, Threads, World}
use Rattle.k_tokens.specs.World as tokens
use Rattle.k_tokens.specs.Steps.{ThreadStep, helping}
use Rattle.k_switching.specs.Rules as carriers
use Rattle.k_switching.specs.Switch as rules
use Rattle.k_grants.specs.Views.{name_by, name_of}
use Rattle.k_moves.specs.Views.{IsViewed, number_in, ShowsCall, ShowsContext, ShowsLocked}
use Rattle.k_moves.specs.Views.{ShowsSwitch, carrier_view, first_by, goal_in, stage_of, told_goal}
use Rattle.k_moves.specs.Switched.{HasLists, IsStepped, ShowsWord, in_switch, stepped}
use Rattle.k_moves.proofs.Names.{name_beyond}
use Rattle.k_moves.proofs.Gives.{hand_so, run_asks}
use Rattle.k_moves.proofs.Takes.{shows_as, shows_else}

-- WHERE A SWITCH COMES TO under the ready lock

pub record StandsAt (own : OwnContext) (p : SwitchLocked) : Type 0 where
  pub stage : own.stage ≡ stage_of (switch.Locked p)
  pub knows : ShowsLocked own p

start_stands : (own : OwnContext) (start : Option ℕ) (back : Option Goal) → own.start ≡ start →
    back ≡ told_goal own.goal own.goal_seen → own.stage ≡ rules.to_start own → StandsAt own (switch.to_start start back)
start_stands own None back s b e = record {
  stage = e ∙ ap (λ (o : Option ℕ). if is_some o then tokens.LoadStart else tokens.ReleaseReady) s;
  knows = (b, sym (ap (λ o. told_goal (first_by o) own.start_seen) s));
}
start_stands own (Some n) back s b e = record {
  stage = e ∙ ap (λ (o : Option ℕ). if is_some o then tokens.LoadStart else tokens.ReleaseReady) s;
  knows = (b, s);
}

got_stands : (own : OwnContext) (start : Option ℕ) (goal : Option Goal) → own.start ≡ start → own.goal ≡ goal_in goal →
    own.stage ≡ rules.to_goal own → StandsAt own (switch.to_goal start goal)
got_stands own start None s g e =
    start_stands own start None s (sym (ap (λ o. told_goal o own.goal_seen) g))
    (e ∙ ap (λ (o : Option ThreadId). if is_some o then tokens.LoadGoal else rules.to_start own) g)
got_stands own start (Some x) s g e = record {
  stage = e ∙ ap (λ (o : Option ThreadId). if is_some o then tokens.LoadGoal else rules.to_start own) g;
  knows = g;
}

-- what a load tells
abbrev goal_with : ThreadId → ℕ → Goal
goal_with id priority = record { id = id; priority = priority }

shown_same : (threads : Threads) (id : ThreadId) (w : StateWord) → ShowsWord threads id.number w →
    switch.shown_on id w ≡ told_goal (Some id) (rules.shown_on threads id)
shown_same threads id w h =
    by (w.version == id.version) (is_dead w) w.on (λ e. h.priority (h.present ∙ e))
    ∙ (λ z. told_goal (Some id) (if (sym h.present z && (sym h.version z == id.version)) && sym h.on z then Some
    (threads.priority id.number) else None))
  where
    by : (v d o : Bool) → (not d ≡ true → threads.priority id.number ≡ w.priority) →
        (if (v && not d) && o then Some (goal_with id w.priority) else None) ≡
        told_goal (Some id) (if (not d && v) && o then Some (threads.priority id.number) else None)
    by true false true e = ap (λ p. Some (goal_with id p)) (sym (e refl))
    by true false false e = refl
    by true true true e = refl
    by true true false e = refl
    by false true true e = refl
    by false true false e = refl
    by false false true e = refl
    by false false false e = refl

goal_seen_same : (threads : Threads) (own : OwnContext) (id : ThreadId) (w : StateWord) → own.goal ≡ Some id →
    ShowsWord threads id.number w → switch.shown_on id w ≡ told_goal own.goal (rules.goal_shown threads own.goal)
goal_seen_same threads own id w g h = shown_same threads id w h ∙ sym (ap (λ o. told_goal o (rules.goal_shown threads o)) g)

start_seen_same : (threads : Threads) (own : OwnContext) (n : ℕ) (w : StateWord) → own.start ≡ Some n → ShowsWord threads n w →
    switch.shown_on (switch.first_of_number n) w ≡ told_goal (first_by own.start) (rules.start_shown threads own.start)
start_seen_same threads own n w g h =
    shown_same threads (switch.first_of_number n) w h ∙ sym (ap (λ o. told_goal (first_by o) (rules.start_shown threads o)) g)

-- ONE STEP

pub upd_own : {A : Type 0} (f : ℕ → A) (n : ℕ) (v : A) → v ≡ f n → f ≡ upd f n v
upd_own f n v e = λ z u. point u z
  where
    point : (u : ℕ) → f u ≡ upd f n v u
    point u = upd_cases (λ x. f u ≡ x) f n v u (λ q. ap f q ∙ sym e) (λ q. refl)

module _ (script : Script) (w : World) (k : CarrierSeen) (n d e f : ℕ) (c : SwitchCall) (s : ThreadStep)
    (viewed : IsViewed w k) where
  abbrev pub V : SwitchLocation → ContextSeen
  V l = in_switch d e f c l

  abbrev pub H : SwitchLocation → HandSeen
  H l = record { context = n; value = V l }

  module _ (l : SwitchLocation) (asks : ask_of k ≡ Run (H l)) (shows : ShowsContext w k.table n (V l)) where
    named : name_of k.table n ≡ OfCarrier d
    named = ap (name_of k.table) shows.0 ∙ name_beyond k.table d

    pub run_so : carriers.carrier_step w k.number s ≡ rules.switch_step w k.number d (stage_of (switch.at_of l))
    run_so =
        hand_so w k (H l) s false viewed (run_asks k (H l) asks) shows ∙ ap (λ nm. carriers.context_step w k.number nm s) named
        ∙ ap (rules.switch_step w k.number d) shows.1.stage

    -- with this context in hand it is as it was
    pub same_view : record (carrier_view k) { hand = Some (name_of k.table n) } ≡ w.carrier k.number
    same_view =
        (λ z. record (carrier_view k) { hand = name_by k.table (number_in (sym (run_asks k (H l) asks).hand z)) }) ∙ sym viewed

    -- its call
    pub call_is : tokens.is_open (stage_of (switch.at_of l)) ≡ true → ShowsCall c (w.own d)
    call_is o = shows.1.call (ap tokens.is_open shows.1.stage ∙ o)

  -- with another own context, lists and owner of the ready lock
  abbrev pub Changed : OwnContext → Option ContextName → (ℕ → List ThreadId) → ℕ → World
  Changed y ready lists running = record w { own = upd w.own d y; ready_owner = ready; lists = lists; running = running }

  pub own_stepped : (k' : CarrierSeen) (l l' : SwitchLocation) (g : ℕ) (y : OwnContext) (ready : Option ContextName)
      (lists : ℕ → List ThreadId) (running : ℕ) (r r' : Ready) → ask_of k ≡ Run (H l) → ShowsContext w k.table n (V l) →
      carriers.carrier_step w k.number s ≡ Changed y ready lists running →
      carrier_view k' ≡ record (carrier_view k) { hand = Some (name_of k.table n) } →
      ShowsSwitch (record { call = c; location = l' }) y → (HasLists r w → HasLists r' (Changed y ready lists running)) →
      IsStepped w (carriers.carrier_step w k.number s) k k' n (in_switch d e g c l') ready r r'
  own_stepped k' l l' g y ready lists running r r' asks shows is view switched have =
      subst (λ (W : World). IsStepped w W k k' n (in_switch d e g c l') ready r r') (sym is) (record {
        carrier = upd_own w.carrier k.number (carrier_view k') (view ∙ same_view l asks shows);
        threads = refl;
        held = refl;
        held_own = refl;
        here = (
          shows.0,
          subst (λ (q : OwnContext). ShowsSwitch (record { call = c; location = l' }) q)
              (sym (upd_same w.own d y)) switched,
        );
        others = λ i u ne. shows_else w (Changed y ready lists running) k.table i n d u y refl refl shows.0 ne;
        owner = refl;
        lists = have;
        unmade = refl;
        carriers = refl;
      })

  still_lists : (y : OwnContext) (ready : Option ContextName) (r : Ready) → HasLists r w →
      HasLists r (Changed y ready w.lists w.running)
  still_lists y ready r h = record { lists = h.lists; whole = h.whole; running = h.running }

  abbrev pub After : Answer → CarrierSeen
  After a = resumed (asked script k) (answers.Section a)

  stands_in : (own : OwnContext) (p : SwitchLocked) (lists : Ready) → StandsAt own p → ShowsCall c own →
      ShowsSwitch (record { call = c; location = location.Locked p lists }) own
  stands_in own p lists x y = record { stage = x.stage; call = λ _. y; at = x.knows }

  -- THE READY LOCK is free
  pub gets : (r : Ready) (goods : Goods) → ask_of k ≡ Run (H location.AcquireReady) →
      ShowsContext w k.table n (V location.AcquireReady) → w.ready_owner ≡ None →
      IsStepped w (carriers.carrier_step w k.number s) k (After (answer.Got goods)) n
      (stepped script (V location.AcquireReady) (answer.Got goods)) (Some (OfCarrier d)) r r
  gets r goods asks shows free =
      own_stepped (After (answer.Got goods)) location.AcquireReady _ _ (rules.got_lists (w.own d))
      (Some (OfCarrier d)) w.lists w.running r r asks shows run
      (ap (λ a. carrier_view (resumed (asked_by script k a) (answers.Section (answer.Got goods)))) asks)
      (stands_in (rules.got_lists (w.own d)) _ _ (got_stands (rules.got_lists (w.own d)) c.start c.goal call.start call.goal refl)
      (record { goal = call.goal; counted = call.counted; slice_ended = call.slice_ended; start = call.start }))
      (still_lists (rules.got_lists (w.own d)) (Some (OfCarrier d)) r)
    where
      run : carriers.carrier_step w k.number s ≡ rules.ready_acquired w d
      run = run_so location.AcquireReady asks shows ∙ ap (rules.acquired_by w k.number d) free

      call : ShowsCall c (w.own d)
      call = call_is location.AcquireReady asks shows refl

  -- .. or owned
  pub finds : (r : Ready) (i : ℕ) → ask_of k ≡ Run (H location.AcquireReady) →
      ShowsContext w k.table n (V location.AcquireReady) → w.ready_owner ≡ Some (name_of k.table i) →
      IsStepped w (carriers.carrier_step w k.number s) k (After (answer.Told (told.Owned i))) n
      (stepped script (V location.AcquireReady) (answer.Told (told.Owned i))) (Some (name_of k.table i)) r r
  finds r i asks shows owned =
      subst (λ (W : World). IsStepped w W k (After (answer.Told (told.Owned i))) n
      (stepped script (V location.AcquireReady) (answer.Told (told.Owned i))) (Some (name_of k.table i)) r r) (sym run)
      (record {
        carrier =
            ap (upd w.carrier k.number) (ap (λ (x : tokens.Carrier). helping x (name_of k.table i) (Some lock.Ready))
            (sym (same_view location.AcquireReady asks shows)) ∙ sym view);
        threads = refl;
        held = refl;
        held_own = refl;
        here = (shows.0, shows.1);
        others = λ j u ne. shows_as w W' k.table j u refl refl;
        owner = owned;
        lists = λ h. record { lists = h.lists; whole = h.whole; running = h.running };
        unmade = refl;
        carriers = refl;
      })
    where
      W' : World
      W' = tokens.with_carrier w k.number (helping (w.carrier k.number) (name_of k.table i) (Some lock.Ready))

      run : carriers.carrier_step w k.number s ≡ W'
      run = run_so location.AcquireReady asks shows ∙ ap (rules.acquired_by w k.number d) owned

      view : carrier_view (After (answer.Told (told.Owned i))) ≡
          helping (record (carrier_view k) { hand = Some (name_of k.table n) }) (name_of k.table i) (Some lock.Ready)
      view = ap (λ a. carrier_view (resumed (asked_by script k a) (answers.Section (answer.Told (told.Owned i))))) asks

  -- A WORD IS LOADED
  pub loads_goal : (r : Ready) (g : Goal) (lists : Ready) (bits : ℕ) →
      ask_of k ≡ Run (H (location.Locked (locked.LoadGoal g) lists)) →
      ShowsContext w k.table n (V (location.Locked (locked.LoadGoal g) lists)) →
      ShowsWord w.threads g.id.number (state_word_of bits) →
      IsStepped w (carriers.carrier_step w k.number s) k (After (answer.Told (told.Loaded bits))) n
      (stepped script (V (location.Locked (locked.LoadGoal g) lists)) (answer.Told (told.Loaded bits))) w.ready_owner r r
  loads_goal r g lists bits asks shows word =
      own_stepped (After (answer.Told (told.Loaded bits))) (location.Locked
      (locked.LoadGoal g) lists) _ _ own' w.ready_owner w.lists w.running r r asks shows
      (run_so (location.Locked (locked.LoadGoal g) lists) asks shows)
      (ap (λ a. carrier_view (resumed (asked_by script k a) (answers.Section (answer.Told (told.Loaded bits))))) asks)
      (stands_in own' _ _ (start_stands own' c.start (switch.shown_on g.id (state_word_of bits)) call.start
      (goal_seen_same w.threads (w.own d) g.id (state_word_of bits) shows.1.at word) refl)
      (record { goal = call.goal; counted = call.counted; slice_ended = call.slice_ended; start = call.start }))
      (still_lists own' w.ready_owner r)
    where
      own' : OwnContext
      own' = rules.saw_goal w.threads (w.own d)

      call : ShowsCall c (w.own d)
      call = call_is (location.Locked (locked.LoadGoal g) lists) asks shows refl

  pub loads_start : (r : Ready) (back : Option Goal) (number : ℕ) (lists : Ready) (bits : ℕ) →
      ask_of k ≡ Run (H (location.Locked (locked.LoadStart back number) lists)) →
      ShowsContext w k.table n (V (location.Locked (locked.LoadStart back number) lists)) →
      ShowsWord w.threads number (state_word_of bits) → IsStepped w (carriers.carrier_step w k.number s) k
      (After (answer.Told (told.Loaded bits))) n (stepped script (V (location.Locked (locked.LoadStart back number) lists))
      (answer.Told (told.Loaded bits))) w.ready_owner r r
  loads_start r back number lists bits asks shows word =
      own_stepped (After (answer.Told (told.Loaded bits))) (location.Locked
      (locked.LoadStart back number) lists) _ _ own' w.ready_owner w.lists w.running r r asks shows
      (run_so (location.Locked (locked.LoadStart back number) lists) asks shows)
      (ap (λ a. carrier_view (resumed (asked_by script k a) (answers.Section (answer.Told (told.Loaded bits))))) asks)
      (stands_in own' _ _ (record {
        stage = refl;
        knows = (
          shows.1.at.0,
          start_seen_same w.threads (w.own d) number (state_word_of bits) shows.1.at.1 word,
        );
      })
      (record { goal = call.goal; counted = call.counted; slice_ended = call.slice_ended; start = call.start }))
      (still_lists own' w.ready_owner r)
    where
      own' : OwnContext
      own' = rules.saw_start w.threads (w.own d)

      call : ShowsCall c (w.own d)
      call = call_is (location.Locked (locked.LoadStart back number) lists) asks shows refl
