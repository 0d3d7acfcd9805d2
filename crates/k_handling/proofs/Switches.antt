-- A carrier makes a step of a switch, its own or another carrier's: what it finds of the ready lock, of a word and of the ready
-- lists is what the board and the view have.
use Rattle.std.proofs.Common.{◌≡◌, ℕ, ◌+◌, ◌-◌, ◌<◌, ◌==◌, true, false, length, refl, sym, ap, ◌∙◌, subst}
use Rattle.std.proofs.Common.{Option, Some, None, arith, ◌⊎◌, inl, inr}
use Rattle.std.specs.Prelude.{IfSome}
use Rattle.std.proofs.lemmas.Bool.{cases_Bool, cases_lt}
use Rattle.k_ids.specs.declared.calls.Reply.{Reply}
use Rattle.k_ids.specs.declared.lock_word.LockWord.TheVariants.{Free, Owned}
use Rattle.k_ids.specs.LockWords.{lock_bits, lock_word_of}
use Rattle.k_ids.specs.StateWords.{state_word_of}
use Rattle.k_locks.specs.declared.goods.Goods.{Goods}
use Rattle.k_locks.specs.declared.locks.Lock.TheVariants as lock
use Rattle.k_locks.specs.declared.locks.WordName.TheVariants as name
use Rattle.k_locks.specs.declared.steps.Answer.{Answer}
use Rattle.k_locks.specs.declared.steps.Answer.TheVariants as answer
use Rattle.k_locks.specs.declared.steps.Step.TheVariants as step
use Rattle.k_locks.specs.declared.steps.Told.TheVariants as told
use Rattle.k_locks.specs.Asks.{Response}
use Rattle.k_locks.specs.Hands.{Hand}
use Rattle.k_locks.specs.Places.{IsWord}
use Rattle.k_locks.specs.Steps.{answer_of, word_of}
use Rattle.k_model.specs.State.{KernelState}
use Rattle.k_ready.specs.Lists.{Ready}
use Rattle.k_script.specs.Script.{Script}
use Rattle.k_caller.specs.declared.thread.ThreadLocation.TheVariants as thread_location
use Rattle.k_switch.specs.declared.carrier_context.CarrierContext.{CarrierContext}
use Rattle.k_switch.specs.declared.goal.Goal.{Goal}
use Rattle.k_switch.specs.declared.switch.Switch.{Switch}
use Rattle.k_switch.specs.declared.switch.SwitchCall.{SwitchCall}
use Rattle.k_switch.specs.declared.switch.SwitchLocation.{SwitchLocation}
use Rattle.k_switch.specs.declared.switch.SwitchLocation.TheVariants as location
use Rattle.k_switch.specs.declared.switch.SwitchLocked.TheVariants as locked
use Rattle.k_switch.specs.Switches.{IsGoal, SwitchAt, at_of, can_ask}
use Rattle.k_switch.specs.Switches as switch
use Rattle.k_context.specs.Contexts.{Carrier, ContextSeen, step_of}
use Rattle.k_carrier.specs.Answers.{Section}
use Rattle.k_carrier.specs.Asked.{Run, ask_of, asked, lock_acquired}
use Rattle.k_carrier.specs.Resumed.{help_after, resumed, told_in}
use Rattle.k_carrier.specs.Seen.{CarrierSeen, HandSeen}
use Rattle.k_world.specs.Moves.{goods_for}
use Rattle.k_world.specs.Steps.{moved}
use Rattle.k_world.specs.Worlds.{World, carrier_at, word_at}
use Rattle.k_board.specs.Boards.{Alone, Board, InSwitch}
use Rattle.k_board.specs.Steps.{Answers, switch_board}
use Rattle.k_board.specs.Turns.{Turn, is_going}
use Rattle.k_board.specs.Turns as turn
use Rattle.k_board.specs.Words.{Programs}
use Rattle.k_good.specs.Locks.{locks_at}
use Rattle.k_plays.specs.Scripts.{programs_of, ranged_programs}
use Rattle.k_places.specs.Asks.{IsAskFit}
use Rattle.k_places.specs.Contexts.{held_on, switch_at}
use Rattle.k_places.specs.Memory.{Memory, memory_of}
use Rattle.k_places.specs.Shows.{Shows, ShowsBoard, owner_in}
use Rattle.k_places.proofs.Places.{held_is}
use Rattle.k_places.proofs.Raw.{word_is}
use Rattle.k_turns.specs.Sections.{Turns, more, none, section_maps}
use Rattle.k_joint.proofs.Runs.{hand_is, maps_run, whole_moved}
use Rattle.k_joint.proofs.SwitchSteps.{switch_steps}
use Rattle.k_tokens.specs.Steps.{ThreadStep}
use Rattle.k_tokens.specs.World.{ContextName, OfCarrier, OfThread, Stage, Threads, has_switch, holds_ready}
use Rattle.k_tokens.specs.World.{is_open}
use Rattle.k_tokens.specs.World as tokens
use Rattle.k_switching.specs.Claims.{IsAsked}
use Rattle.k_switching.specs.Rules.{carrier_step}
use Rattle.k_switching.specs.Rules as rules
use Rattle.k_switching.proofs.Rules.{has_step}
use Rattle.k_grants.specs.Views.{name_by, name_of, threads_of}
use Rattle.k_moves.specs.Switched.{HasLists, IsListable, IsStepped, ShowsWord, in_switch}
use Rattle.k_moves.specs.Views.{IsViewed, ShowsContext, ShowsOwn}
use Rattle.k_moves.proofs.Gives.{run_asks}
use Rattle.k_moves.proofs.Names.{name_beyond, which}
use Rattle.k_moves.proofs.Releases.{releases}
use Rattle.k_moves.proofs.Rules.{gives_same}
use Rattle.k_moves.proofs.Switches.{finds, gets, loads_goal, loads_start}
use Rattle.k_aligned.specs.Aligned.{found_in}
use Rattle.k_whole.specs.Whole.{switches}
use Rattle.k_handling.specs.Handling.{IsHandled, IsKernel}
use Rattle.k_handling.proofs.Contexts.{on_board}
use Rattle.k_handling.proofs.Handles.{Moment, given, number_is, serials_kept, table_is, viewed}
use Rattle.k_handling.proofs.Moves.{handled_as, within}
use Rattle.k_handling.proofs.Words.{hand_viewed, shown}

-- WHAT AN ACQUIRE IS TOLD

pub record IsFreeLock (n : ℕ) (g : Goods) : Type 0 where
  pub word : lock_word_of n ≡ Free
  pub told : answer_of (step.Acquire lock.Ready) n g ≡ answer.Got g

pub record IsOwnedLock (n : ℕ) (g : Goods) (i : ℕ) : Type 0 where
  pub word : lock_word_of n ≡ Owned i
  pub told : answer_of (step.Acquire lock.Ready) n g ≡ answer.Told (told.Owned i)

lock_told : (n : ℕ) (g : Goods) → IsFreeLock n g ⊎ IsOwnedLock n g (n - 1)
unfolding lock_bits lock_word_of
lock_told n g = elim (cases_Bool (n == 0)) [
  | inl e ↦ inl (record { word = rw e refl; told = rw e refl })
  | inr e ↦ inr (record { word = rw e refl; told = rw e refl })
]

-- THE TURN that a switch makes

pub record IsSwitchTurn (b b' : Board) (i : ℕ) (c : SwitchCall) (p : SwitchAt) : Type 0 where
  pub response : Response
  pub answers : Answers b (switch.ask_of c p) response
  pub board : b' ≡ switch_board b i (b.context i) c p response

same_call : {c d : SwitchCall} {p q : SwitchAt} → InSwitch c p ≡ InSwitch d q → c ≡ d
same_call e = cc

same_place : {c d : SwitchCall} {p q : SwitchAt} → InSwitch c p ≡ InSwitch d q → p ≡ q
same_place e = cc

one_turn : (g : Programs) (b : Board) (i : ℕ) (b' : Board) (c : SwitchCall) (p : SwitchAt) → (b.context i).at ≡ InSwitch c p →
    is_going p ≡ true → Turn g b i b' → IsSwitchTurn b b' i c p
one_turn g b i _ c p e going (turn.switches d q r at on an) =
    let x : d ≡ c = same_call (sym at ∙ e) in let y : q ≡ p = same_place (sym at ∙ e) in record {
      response = r;
      answers = subst (λ z. Answers b (switch.ask_of z p) r) x (subst (λ z. Answers b (switch.ask_of d z) r) y an);
      board = λ z. switch_board b i (b.context i) (x z) (y z) r;
    }
one_turn g b i _ c p e going (turn.sends d q r at an) = absurd (let z = sym at ∙ e in cc)
one_turn g b i _ c p e going (turn.receives d q r at an) = absurd (let z = sym at ∙ e in cc)
one_turn g b i _ c p e going (turn.creates d q r at an) = absurd (let z = sym at ∙ e in cc)
one_turn g b i _ c p e going (turn.destroys d q r at an) = absurd (let z = sym at ∙ e in cc)
one_turn g b i _ c p e going (turn.goes_alone q r at can an) = absurd (let z = sym at ∙ e in cc)
one_turn g b i _ c p e going (turn.begins l f at n) = absurd (let z = sym at ∙ e in cc)
one_turn g b i _ c p e going (turn.turns_to_work l count at n) = absurd (let z = sym at ∙ e in cc)
one_turn g b i _ c p e going (turn.wakes at) = absurd (let z = sym at ∙ e in cc)
one_turn g b i _ c p e going (turn.begins_switch d at) = absurd (let z = sym at ∙ e in cc)
one_turn g b i _ c p e going (turn.ends_switch d s at) =
    absurd (let y : is_going (switch.Finished s) ≡ true = ap is_going (same_place (sym at ∙ e)) ∙ going in cc)

first_turn : (g : Programs) (b : Board) (i : ℕ) (b' : Board) (c : SwitchCall) (p : SwitchAt) → (b.context i).at ≡ InSwitch c p →
    is_going p ≡ true → Turns g i 1 b b' → IsSwitchTurn b b' i c p
first_turn g b i b' c p e going (more _ m _ t (none _)) = one_turn g b i b' c p e going t

-- a switch at these locations has a step
going_at : (l : SwitchLocation) → can_ask l ≡ true → is_going (at_of l) ≡ true
going_at location.AcquireReady e = refl
going_at (location.Locked p lists) e = refl
going_at (location.ListsReturned s) e = absurd cc
going_at (location.Finished s) e = absurd cc

fit_at : (m : Memory) (b : Board) (c : SwitchCall) (l : SwitchLocation) → IsAskFit m b (switch.ask_of c (at_of l))
fit_at m b c location.AcquireReady = tt
fit_at m b c (location.Locked (locked.LoadGoal goal) lists) = tt
fit_at m b c (location.Locked (locked.LoadStart back number) lists) = tt
fit_at m b c (location.Locked (locked.ReleaseReady back started) lists) = tt
fit_at m b c (location.ListsReturned s) = tt
fit_at m b c (location.Finished s) = tt

listable : (g : Option Goal) → IfSome g IsGoal → IsListable g
listable None h = tt
listable (Some g) h = h.priority

ready_switch : (s : Stage) → holds_ready s ≡ true → has_switch s ≡ true
ready_switch tokens.NoSwitch e = absurd cc
ready_switch tokens.AcquireReady e = absurd cc
ready_switch tokens.LoadGoal e = refl
ready_switch tokens.LoadStart e = refl
ready_switch tokens.ReleaseReady e = refl
ready_switch tokens.Finished e = absurd cc

-- A CARRIER'S CONTEXT in a carrier's hand, which it keeps

module _ (now : Moment) (n : ℕ) (x : CarrierContext)
    (asks : ask_of (carrier_at now.w now.c) ≡ Run (record { context = n; value = Carrier x })) where
  open now use {script, limits, w, b, view, state, k, c, low}

  abbrev Runner : CarrierSeen
  Runner = carrier_at w c

  abbrev pub H : HandSeen
  H = record { context = n; value = Carrier x }

  number : Runner.number ≡ c
  number = number_is now

  table : Runner.table ≡ script.table
  table = table_is now

  in_hand : Runner.hand ≡ Some H
  in_hand = (run_asks Runner H asks).hand

  pub was : (memory_of w).hand c ≡ Some H
  was = hand_is w c ∙ in_hand

  pub found : found_in w n ≡ Some (Carrier x)
  found = held_is (memory_of w).context (memory_of w).slot (memory_of w).hand c H k.aligned.shows.shows.places was

  pub shows : ShowsContext view Runner.table n (Carrier x)
  shows = subst (λ m. ShowsContext view m n (Carrier x)) (sym table) (shown script w b view state k n (Carrier x) found)

  named : name_of Runner.table n ≡ OfCarrier x.carrier
  named = ap (name_of Runner.table) shows.0 ∙ name_beyond Runner.table x.carrier

  pub place : n ≡ b.size + x.carrier
  place = shows.0 ∙ ap (λ m. m + x.carrier) (table ∙ sym k.aligned.shows.shows.size)

  pub asked_is : IsAsked view c (OfCarrier x.carrier)
  asked_is = record {
    hand =
        hand_viewed script w b view state k c (Some H) low in_hand ∙ ap (λ m. Some (name_of m n)) (sym table) ∙ ap Some named;
    kept =
        (λ z. rules.gives view (sym number z) ((k.aligned.carriers c low).viewed z) (sym named z))
        ∙ gives_same view Runner H shows ∙ (run_asks Runner H asks).gives;
  }

  pub goes : is_open (view.own x.carrier).stage ≡ true
  goes = has_step view c (OfCarrier x.carrier) k.whole.pair.world asked_is

  -- where it stands on the board
  pub stands_at : (b.context n).at ≡ switch_at x.switch
  stands_at = on_board script w b view k.aligned.shows k.whole.pair.alike k.aligned.contexts n (Carrier x) found

-- WITH A SWITCH

module _ (now : Moment) (n d serial done : ℕ) (call : SwitchCall)
    (l : SwitchLocation)
    (asks : ask_of (carrier_at now.w now.c) ≡ Run (record { context = n; value = in_switch d serial done call l })) where
  open now use {script, limits, w, b, view, state, k, c, low}

  abbrev K : CarrierSeen
  K = carrier_at w c

  abbrev M : Memory
  M = memory_of w

  abbrev X : CarrierContext
  X = record { carrier = d; serial = serial; done = done; switch = Some (record { call = call; location = l }) }

  abbrev V : ContextSeen
  V = in_switch d serial done call l

  abbrev Held : HandSeen
  Held = H now n X asks

  shown_in : ShowsContext view K.table n V
  shown_in = shows now n X asks

  goes_in : is_open (view.own d).stage ≡ true
  goes_in = goes now n X asks

  sound : switch.IsSound (record { call = call; location = l })
  sound = (k.aligned.contexts n V (found now n X asks)).1.switch

  -- THE BOARD

  stands : (b.context n).at ≡ InSwitch call (at_of l)
  stands = stands_at now n X asks

  in_hands : switch.hand_of l ≡ held_on b (locks_at (b.context n).at)
  in_hands = k.aligned.shows.shows.goods.hands n V (found now n X asks)

  abbrev Ans : Answer
  Ans = answer_of (step_of V) (word_at w (word_of (step_of V))) (goods_for w (step_of V))

  module _ (can : can_ask l ≡ true) (word : IsWord (word_of (step_of V))) where
    -- the board that the world shows then, by the turn
    pub record IsSwitched : Type 0 where
      pub board : Board
      pub turn : IsSwitchTurn b board n call (at_of l)
      pub shows : Shows script (section_maps script M c n V) board

    turned : IsSwitched
    turned =
        let comes = switch_steps script M b c n call l d serial done Held k.aligned.shows.shows k.whole.pair.good.locks
        (was now n X asks) refl (fit_at M b call l) stands can in_hands refl in record {
          board = comes.board;
          turn = first_turn (programs_of script) b n comes.board call (at_of l) stands (going_at l can) comes.turns;
          shows = comes.shows;
        }

    abbrev After : ℕ → Board
    After m = switch_board b m (b.context m) call (at_of l) turned.turn.response

    own_stands : (b.context (b.size + d)).at ≡ InSwitch call (at_of l)
    own_stands = ap (λ m. (b.context m).at) (sym (place now n X asks)) ∙ stands

    board : ShowsBoard script (moved script c w) (After (b.size + d))
    board =
        subst (λ m. ShowsBoard script (moved script c w) (After m)) (place now n X asks)
        (subst (ShowsBoard script (moved script c w)) turned.turn.board (record {
          whole = whole_moved script w c k.aligned.shows.whole;
          shows =
              subst (λ (m : Memory). Shows script m turned.board) (sym (maps_run script w c Held asks
              (within now (Run Held) asks (Section Ans) refl (λ x. refl) word))) turned.shows;
        }))

    calm : (r : Option Reply) → (b.context (b.size + d)).at ≡ Alone (thread_location.Between r) → ⊥
    calm r e =
        let z : Alone (thread_location.Between r) ≡ InSwitch call (at_of l) = sym e ∙ own_stands in absurd cc

    -- the view comes to the same, and who is helped is one of the contexts
    finish : (a : Answer) → Ans ≡ a → (v : ContextSeen) (ready : Option ContextName) (r r' : Ready) →
        ((t : ThreadStep) →
        IsStepped view (carrier_step view K.number t) K (resumed (asked script K) (Section a)) n v ready r r') →
        IfSome (help_after K.help (lock_acquired (step_of V)) (told_in a)) (λ p. p.context < script.table + length w.carriers) →
        IsHandled script b view c (moved script c w) w.history state
    finish a is v ready r r' steps helps =
        handled_as now (Run Held) asks (Section a) (ap Section is) (λ x. refl) word
        (record {
          number = number_is now;
          answered = refl;
          starts = (given now).starts;
          help = helps;
        })
        (After (b.size + d)) board
        (serials_kept (ranged_programs script) b (b.size + d) (length w.history) k.serials calm (After (b.size + d))
        (turn.switches call (at_of l) turned.turn.response own_stands (going_at l can) answers) refl)
        (switches d call (at_of l) turned.turn.response (asked_is now n X asks) own_stands (going_at l can) answers) refl
        (λ t. (steps t).carrier) (λ t. (steps t).unmade)
      where
        answers : Answers b (switch.ask_of call (at_of l)) turned.turn.response
        answers = turned.turn.answers

-- A WORD that is loaded

pub word_shown : (script : Script) (w : World) (b : Board) (view : tokens.World) (state : KernelState)
    (k : IsKernel script w b view state) (t : ℕ) → ShowsWord view.threads t (state_word_of (word_at w (name.State t)))
word_shown script w b view state k t =
    subst (λ x. ShowsWord view.threads t (state_word_of x)) (sym (word_is w (name.State t)))
    (subst (ShowsWord view.threads t) (k.aligned.shows.shows.seen t).word (record {
      version = ap (λ (x : Threads). x.version t) agrees;
      present = ap (λ (x : Threads). x.present t) agrees;
      on = ap (λ (x : Threads). x.on t) agrees;
      priority = λ there. k.whole.pair.alike.agrees.priorities t (sym (ap (λ (x : Threads). x.present t) agrees) ∙ there);
    }))
  where
    agrees : view.threads ≡ threads_of view.threads.priority b
    agrees = k.whole.pair.alike.agrees.threads

-- LOCATION BY LOCATION

module _ (now : Moment) (n d serial done : ℕ) (call : SwitchCall) where
  open now use {script, limits, w, b, view, state, k, c, low}

  abbrev Mine : CarrierSeen
  Mine = carrier_at w c

  abbrev At : SwitchLocation → Type 0
  At l = ask_of Mine ≡ Run (record { context = n; value = in_switch d serial done call l })

  -- whose the ready lock is
  owner_is : view.ready_owner ≡ name_by script.table (owner_in (lock_word_of (word_at w (name.Lock lock.Ready))))
  owner_is =
      k.whole.pair.alike.agrees.ready
      ∙ (λ z. name_by (k.aligned.shows.shows.size z) (k.aligned.shows.shows.owners lock.Ready tt z))
      ∙ ap (λ x. name_by script.table (owner_in (lock_word_of x))) (sym (word_is w (name.Lock lock.Ready)))

  -- it is one of a context that there is
  owner_within : (i : ℕ) → view.ready_owner ≡ Some (name_of script.table i) → i < script.table + length w.carriers
  owner_within i e = elim (which script.table i) [
    | inl x ↦ let l = x.0 in omega (arith, l)
    | inr x ↦
        let m = carrier (i - script.table) (e ∙ ap Some x.1) in let l = x.0 in let q = k.aligned.count in omega (arith, m, l, q)
  ]
    where
      carrier : (m : ℕ) → view.ready_owner ≡ Some (OfCarrier m) → m < view.carriers
      carrier m q = elim (cases_lt m view.carriers) [
        | inl l ↦ l
        | inr l ↦ absurd (let there = ready_switch (view.own m).stage (k.whole.pair.world.1.ready.own_is m q) in
            let z : false ≡ true = sym (k.whole.pair.world.1.runs.beyond m l).0 ∙ there in cc)
      ]

  table_at : Mine.table ≡ script.table
  table_at = table_is now

  acquires : At location.AcquireReady → IsHandled script b view c (moved script c w) w.history state
  acquires asks = elim (lock_told (word_at w (name.Lock lock.Ready)) (goods_for w (step.Acquire lock.Ready))) [
    | inl x ↦
        finish now n d serial done call location.AcquireReady asks refl tt
        (answer.Got (goods_for w (step.Acquire lock.Ready))) x.told _ _ b.lists b.lists
        (λ t. gets script view Mine n d serial done call t mine_viewed b.lists (goods_for w (step.Acquire lock.Ready)) asks
        shown_at (owner_is ∙ ap (λ o. name_by script.table (owner_in o)) x.word)) (k.helps c low)
    | inr x ↦
        let owner : view.ready_owner ≡ Some (name_of script.table (word_at w (name.Lock lock.Ready) - 1)) =
        owner_is ∙ ap (λ o. name_by script.table (owner_in o)) x.word in
        finish now n d serial done call location.AcquireReady asks refl tt
        (answer.Told (told.Owned (word_at w (name.Lock lock.Ready) - 1))) x.told _ _ b.lists b.lists
        (λ t. finds script view Mine n d serial done call t mine_viewed b.lists (word_at w (name.Lock lock.Ready) - 1) asks
        shown_at (owner ∙ ap (λ m. Some (name_of m (word_at w (name.Lock lock.Ready) - 1))) (sym table_at)))
        (owner_within (word_at w (name.Lock lock.Ready) - 1) owner)
  ]
    where
      mine_viewed : IsViewed view Mine
      mine_viewed = viewed now

      shown_at : ShowsContext view Mine.table n (in_switch d serial done call location.AcquireReady)
      shown_at = shown_in now n d serial done call location.AcquireReady asks

  loads : (g : Goal) (lists : Ready) → At (location.Locked (locked.LoadGoal g) lists) →
      IsHandled script b view c (moved script c w) w.history state
  loads g lists asks =
      finish now n d serial done call (location.Locked (locked.LoadGoal g) lists) asks refl
      (sound now n d serial done call (location.Locked (locked.LoadGoal g) lists)
      asks).located.id.number
      (answer.Told (told.Loaded (word_at w (name.State g.id.number)))) refl _ _ b.lists b.lists
      (λ t. loads_goal script view Mine n d serial done call t (viewed now) b.lists g lists
      (word_at w (name.State g.id.number)) asks
      (shown_in now n d serial done call (location.Locked (locked.LoadGoal g) lists) asks)
      (word_shown script w b view state k g.id.number)) (k.helps c low)

  loads_first : (back : Option Goal) (first : ℕ) (lists : Ready) → At (location.Locked (locked.LoadStart back first) lists) →
      IsHandled script b view c (moved script c w) w.history state
  loads_first back first lists asks =
      finish now n d serial done call (location.Locked (locked.LoadStart back first) lists) asks
      refl (sound now n d serial done call (location.Locked (locked.LoadStart back first) lists)
      asks).located.1 (answer.Told (told.Loaded (word_at w (name.State first)))) refl _ _ b.lists b.lists
      (λ t. loads_start script view Mine n d serial done call t (viewed now) b.lists back first
      lists (word_at w (name.State first)) asks
      (shown_in now n d serial done call (location.Locked (locked.LoadStart back first) lists) asks)
      (word_shown script w b view state k first)) (k.helps c low)

  gives_back : (back started : Option Goal) (r : Ready) → At (location.Locked (locked.ReleaseReady back started) r) →
      IsHandled script b view c (moved script c w) w.history state
  gives_back back started r asks =
      finish now n d serial done call (location.Locked (locked.ReleaseReady back started) r) asks
      refl tt (answer.Told told.Released) refl _ _ r _
      (λ t. releases script view Mine n d serial done call t (viewed now) back started r asks
      (shown_in now n d serial done call (location.Locked (locked.ReleaseReady back started) r) asks)
      lists (listable back located.0) (listable started located.1)) (k.helps c low)
    where
      located : IfSome back IsGoal × IfSome started IsGoal
      located =
          (sound now n d serial done call (location.Locked (locked.ReleaseReady back started) r)
          asks).located

      same : r ≡ b.lists
      same =
          ap (λ (h : Hand). h.lists) (in_hands now n d serial done call
          (location.Locked (locked.ReleaseReady back started) r) asks
          ∙ ap (λ p. held_on b (locks_at p)) (stands now n d serial done call
          (location.Locked (locked.ReleaseReady back started) r) asks))

      lists : HasLists r view
      lists =
          subst (λ x. HasLists x view) (sym same) (record {
            lists = k.whole.pair.alike.agrees.lists;
            whole = k.whole.pair.alike.agrees.whole;
            running = k.whole.pair.alike.agrees.running;
          })

  by_location : (l : SwitchLocation) → At l → IsHandled script b view c (moved script c w) w.history state
  by_location location.AcquireReady asks = acquires asks
  by_location (location.Locked (locked.LoadGoal g) lists) asks = loads g lists asks
  by_location (location.Locked (locked.LoadStart back first) lists) asks = loads_first back first lists asks
  by_location (location.Locked (locked.ReleaseReady back started) lists) asks = gives_back back started lists asks
  by_location (location.ListsReturned s) asks =
      absurd (shown_in now n d serial done call (location.ListsReturned s) asks).1.at
  by_location (location.Finished s) asks =
      absurd (let z : is_open tokens.Finished ≡ true =
      ap is_open (sym (shown_in now n d serial done call (location.Finished s) asks).1.stage)
      ∙ goes_in now n d serial done call (location.Finished s) asks in cc)

-- ANY SWITCH

pub switch_handled : (now : Moment) (n : ℕ) (x : CarrierContext) →
    ask_of (carrier_at now.w now.c) ≡ Run (record { context = n; value = Carrier x }) →
    IsHandled now.script now.b now.view now.c (moved now.script now.c now.w) now.w.history now.state
switch_handled now n x asks = by x.switch refl
  where
    open now use {script, w, b, view, state, c}

    by : (o : Option Switch) → x.switch ≡ o → IsHandled script b view c (moved script c w) w.history state
    by (Some s) on =
        by_location now n x.carrier x.serial x.done s.call s.location
        (asks ∙ (λ z. Run (record {
          context = n;
          value = Carrier (record { carrier = x.carrier; serial = x.serial; done = x.done; switch = on z });
        })))
    by None on =
        absurd (let z : is_open tokens.NoSwitch ≡ true =
        ap is_open (sym (subst (λ (o : Option Switch). ShowsOwn o (view.own x.carrier)) on
        (shows now n x asks).1)) ∙ goes now n x asks in cc)
