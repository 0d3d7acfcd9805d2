-- The shared words and slots can make a carrier's move.
use Rattle.std.proofs.Common.{◌≡◌, ◌≤◌, ◌<◌, ℕ, ◌+◌, Bool, true, false, refl, sym, ap, ◌∙◌, subst, arith, Option}
use Rattle.std.proofs.Common.{Some, None, IfSome, length}
use Rattle.std.specs.Prelude.{if◌then◌else◌, slice_index_or}
use Rattle.k_ids.specs.declared.lock_word.LockWord.{LockWord}
use Rattle.k_ids.specs.declared.lock_word.LockWord.TheVariants.{Free, Owned}
use Rattle.k_ids.specs.declared.state_word.StateWord.{StateWord}
use Rattle.k_ids.specs.declared.threads.ThreadId.{ThreadId}
use Rattle.k_ids.specs.ContextWords.{IsContextSpelling}
use Rattle.k_ids.specs.LockWords.{IsLockSpelling, IsLockWord, lock_bits, lock_word_of}
use Rattle.k_ids.specs.StateWords.{IsPartner, IsStateSpelling}
use Rattle.k_ids.proofs.LockSpelled.{lock-bits_small, lock-read, lock-spelled}
use Rattle.k_model.specs.State.{KernelState}
use Rattle.k_locks.specs.declared.locks.Lock.{Lock}
use Rattle.k_locks.specs.declared.locks.Lock.TheVariants as lock
use Rattle.k_locks.specs.declared.locks.WordName.TheVariants as word
use Rattle.k_locks.specs.Asks.{Ask, step_for}
use Rattle.k_locks.specs.Asks as asks
use Rattle.k_locks.specs.Hands.{Hand, nothing}
use Rattle.k_locks.specs.Locks.{Holds}
use Rattle.k_locks.specs.Places.{IsLock, home_of, lock_number}
use Rattle.k_script.specs.Limits.{IsScript}
use Rattle.k_script.specs.Script.{Script}
use Rattle.k_ipc.specs.declared.receive.ReceiveCall.{ReceiveCall}
use Rattle.k_ipc.specs.declared.receive.ReceiveLocked.TheVariants as receive_locked
use Rattle.k_ipc.specs.SendTable as send
use Rattle.k_ipc.specs.ReceiveTable as receive
use Rattle.k_threads.specs.CreateTable as create
use Rattle.k_threads.specs.DestroyTable as destroy
use Rattle.k_threads.specs.Goods.{no_lock}
use Rattle.k_switch.specs.declared.carrier_context.CarrierContext.{CarrierContext}
use Rattle.k_switch.specs.declared.goal.Goal.{Goal}
use Rattle.k_switch.specs.declared.switch.Switch.{Switch}
use Rattle.k_switch.specs.Carriers as own
use Rattle.k_switch.specs.Switches as switch
use Rattle.k_caller.specs.declared.activity.Activity.{Activity}
use Rattle.k_caller.specs.declared.activity.Activity.TheVariants as activity
use Rattle.k_caller.specs.Activities as about
use Rattle.k_caller.specs.Activities.{IsSoundAt, step_at}
use Rattle.k_caller.specs.Threads.{ThreadSeen}
use Rattle.k_caller.specs.Threads as threads
use Rattle.k_caller.specs.Waits as alone
use Rattle.k_context.specs.Contexts.{Carrier, ContextSeen, IsSound, Thread, begun, step_of}
use Rattle.k_context.specs.Contexts as contexts
use Rattle.k_carrier.specs.declared.moves.Help.{Help}
use Rattle.k_carrier.specs.Asked.{PutDown, Run, ask_at, ask_of, ask_with, asked, asked_by, move_by, out_of}
use Rattle.k_carrier.specs.Conditions.{IsGoalIn}
use Rattle.k_carrier.specs.Rules.{begins, context_at, gives, own_context, readied, target_of, target_with}
use Rattle.k_carrier.specs.Seen.{CarrierSeen, HandSeen}
use Rattle.k_world.specs.Steps.{running}
use Rattle.k_world.specs.Worlds.{Away, World, carrier_at}
use Rattle.k_store.specs.Conditions.{CanPerform, CanStep, IsHome, IsNumber, found_at}
use Rattle.k_board.specs.Boards.{At, Board, Nowhere, owner_of}
use Rattle.k_board.specs.Facts.{AllSay}
use Rattle.k_board.specs.Places.{facts_of, facts_receive}
use Rattle.k_good.specs.Locks.{locks_at, owner_by}
use Rattle.k_good.specs.Ranges.{FitsAt}
use Rattle.k_places.specs.Contexts.{at_in}
use Rattle.k_places.specs.Contexts as places
use Rattle.k_places.specs.Memory.{at, memory_of}
use Rattle.k_places.specs.Shows.{IsLockOf, owner_in}
use Rattle.k_places.proofs.Raw.{word_is}
use Rattle.k_places.proofs.Words.{is_lock}
use Rattle.k_plays.specs.Scripts.{ranged_programs}
use Rattle.k_turns.specs.Spelled.{ask_in}
use Rattle.k_tokens.specs.World as tokens
use Rattle.k_aligned.specs.Aligned.{found_in}
use Rattle.k_whole.specs.Next.{has_next}
use Rattle.k_handling.specs.Handling.{IsKernel}
use Rattle.k_sound.proofs.Contexts.{begun_sound}
use Rattle.k_conditions.specs.Finished.{FinishedWithin}
use Rattle.k_conditions.proofs.CanAsks.{run_can, stands}
use Rattle.k_conditions.proofs.Inside.{IsInside, NamesAt, NamesFrom, activity_inside, begun_named, switch_inside}
use Rattle.k_conditions.proofs.Moments.{hand_found, next_at, table_is}

-- WHAT LIES WHERE

home_is : (w : World) (l : Lock) → slice_index_or w.slots (home_of l) Away ≡ (memory_of w).home
    (lock_number l)
unfolding at
home_is w l = refl

none_held : (l : Lock) → Holds l no_lock → ⊥
none_held lock.Table e = absurd cc
none_held (lock.Thread n) e = absurd cc
none_held lock.Ready e = absurd cc

owner_is : (b : Board) (l : Lock) → owner_by b.owner b.table b.ready l ≡ owner_of b l
owner_is b (lock.Thread n) = refl
owner_is b lock.Table = refl
owner_is b lock.Ready = refl

lock_small : (size : ℕ) (l : Lock) → IsLockOf size l → lock_number l < 74
lock_small size (lock.Thread n) is = let m = is.0 in omega (arith, m)
lock_small size lock.Table is = omega arith
lock_small size lock.Ready is = omega arith

-- the target of a carrier that has no hand
target_small : (r : CarrierSeen) (p : Option Help) (s : Bool) (g : Option Goal) → own_context r < 72 →
    IfSome p (λ q. q.context < 72) →
    IfSome g (λ q. q.id.number < 72) → context_at r (target_with p s g) < 72
target_small r (Some p) s g own help goal = help
target_small r None true g own help goal = own
target_small r None false (Some g) own help goal = goal
target_small r None false None own help goal = own

-- a carrier that has begun to switch, where it does
abbrev readied_if : Bool → CarrierSeen → CarrierSeen
readied_if q k = if q then record k { switching = true; help = None; looked = None } else k

module _ (script : Script) (limits : IsScript script) (w : World) (b : Board) (view : tokens.World)
    (state : KernelState)
    (h : IsKernel script w b view state) where
  -- NUMBERS

  pub number_small : (i : ℕ) (v : ContextSeen) → found_in w i ≡ Some v → i < 72
  number_small i (Thread t) e =
      let is = (h.aligned.contexts i (Thread t) e).0 in
      let low = (h.aligned.contexts i (Thread t) e).1.inside in
      let few = limits.table.1 in
      omega (arith, is, low, few)
  number_small i (Carrier x) e =
      let is = (h.aligned.contexts i (Carrier x) e).0 in
      let low = (h.aligned.contexts i (Carrier x) e).1.carrier in
      let few = limits.table.1 in
      omega (arith, is, low, few)

  -- whose location holds a lock
  holder_small : (l : Lock) (i : ℕ) → Holds l (locks_at (b.context i).at) → i < 72
  holder_small l i held = by (found_in w i) refl
    where
      by : (o : Option ContextSeen) → found_in w i ≡ o → i < 72
      by (Some v) e = number_small i v e
      by None e =
          let gone : (b.context i).at ≡ Nowhere =
          subst (λ (o : Option ContextSeen). places.ShowsContext (b.seen i).word i o (b.context i)) e
          (h.aligned.shows.shows.contexts i) in
          absurd (none_held l (subst (λ (p : At). Holds l (locks_at p)) gone held))

  -- LOCKS

  found_is : (l : Lock) → found_at w.words (word.Lock l) ≡ (memory_of w).lock (lock_number l)
  found_is l = word_is w (word.Lock l)

  owner_word : (l : Lock) (x : LockWord) → owner_by b.owner b.table b.ready l ≡ owner_in x → IsLockWord x
  owner_word l Free e = tt
  owner_word l (Owned i) e = holder_small l i (h.whole.pair.good.locks.held l i e)

  lock_is_spelled : (l : Lock) → IsLock l → IsLockSpelling (found_at w.words (word.Lock l))
  lock_is_spelled l is =
      let n : ℕ = (memory_of w).lock (lock_number l) in
      let few : lock_bits (lock_word_of n) ≤ 72 =
      lock-bits_small (lock_word_of n) (owner_word l (lock_word_of n)
      (h.aligned.shows.shows.owners l is)) in
      subst (λ m. m ≤ 72) (lock-spelled n ∙ sym (found_is l)) few

  lock_is_home : (l : Lock) → IsLockOf b.size l → found_at w.words (word.Lock l) ≡ lock_bits Free →
      IsHome (slice_index_or w.slots (home_of l) Away)
  lock_is_home l is e =
      let free : owner_of b l ≡ None = sym (owner_is b l)
      ∙ h.aligned.shows.shows.owners l (is_lock b.size l is)
      ∙ ap (λ n. owner_in (lock_word_of n)) (sym (found_is l) ∙ e) ∙ ap owner_in (lock-read Free) in
      subst IsHome (sym (home_is w l ∙ h.aligned.shows.shows.goods.homes l is free)) tt

  -- A STEP OF A SECTION

  step_can : (a : Ask) (g : Hand) (i : ℕ) → i < 72 → IsInside b.size a →
      CanStep w.words w.slots i (step_for a g)
  step_can (asks.Load n) g i low is = omega (arith, is)
  step_can (asks.LoadMail n) g i low is = omega (arith, is)
  step_can (asks.Post n message) g i low is = omega (arith, is)
  step_can (asks.Exchange n old new) g i low is = omega (arith, is)
  step_can (asks.Acquire l) g i low is = record {
    owner = low;
    lock = lock_small b.size l is;
    spelled = lock_is_spelled l (is_lock b.size l is);
    home = lock_is_home l is;
  }
  step_can (asks.Release l) g i low is = lock_small b.size l is
  step_can (asks.Place id program priority) g i low is = is
  step_can (asks.Remove id) g i low is = (
    is.0,
    subst IsContextSpelling (sym (word_is w (word.Context id.number)))
        (h.aligned.shows.shows.places.spelled id.number),
  )

  activity_can : (me : ThreadId) (own : StateWord) (a : Activity) (i : ℕ) → i < 72 →
      IsInside b.size (ask_in me own a) → CanStep w.words w.slots i (step_at me own a)
  activity_can me own (activity.Alone p) i low is = step_can (alone.ask_of me own p) nothing i low is
  activity_can me own (activity.Send s) i low is =
      step_can (send.ask_of s.call s.own (send.at_of s.location))
      (send.hand_after s.call (send.hand_of s.location) (send.at_of s.location) asks.Released) i low is
  activity_can me own (activity.Receive s) i low is =
      step_can (receive.ask_of s.call s.own (receive.at_of s.location))
      (receive.hand_after s.call (receive.hand_of s.location) (receive.at_of s.location) asks.Released) i
      low is
  activity_can me own (activity.Create s) i low is =
      step_can (create.ask_of s.call s.own (create.at_of s.location))
      (create.hand_after s.call (create.hand_of s.location) (create.at_of s.location) asks.Released) i low
      is
  activity_can me own (activity.Destroy s) i low is =
      step_can (destroy.ask_of s.call s.own (destroy.at_of s.location))
      (destroy.hand_after s.call (destroy.hand_of s.location) (destroy.at_of s.location) asks.Released) i
      low is

  switch_can : (o : Option Switch) (i : ℕ) → i < 72 →
      IfSome o (λ s. IsInside b.size (switch.ask_of s.call (switch.at_of s.location))) →
      CanStep w.words w.slots i (own.step_in o)
  switch_can None i low is = omega arith
  switch_can (Some s) i low is =
      step_can (switch.ask_of s.call (switch.at_of s.location))
      (switch.hand_after s.call (switch.hand_of s.location) (switch.at_of s.location) asks.Released) i low
      is

  -- whom its section names, as its location on the board has it
  closed : (i : ℕ) (c : ReceiveCall) (p : receive.ReceiveAt) →
      AllSay (ranged_programs script) b i (b.context i) (facts_receive c p) → IfSome c.from IsPartner →
      NamesFrom p
  closed i c (receive.Locked (receive_locked.LoadPartner from)) f sound = let is : IsPartner from =
      subst (λ (o : Option ThreadId). IfSome o IsPartner) f.0 sound in is.number
  closed i c p f sound = tt

  named : (i : ℕ) (me : ThreadId) (own : StateWord) (a : Activity) → FitsAt b.size (at_in a) →
      AllSay (ranged_programs script) b i (b.context i) (facts_of (at_in a)) → IsSoundAt me own a →
      NamesAt b.size a
  named i me own (activity.Alone p) fits f sound = tt
  named i me own (activity.Send s) fits f sound = fits.number
  named i me own (activity.Receive s) fits f sound = closed i s.call (receive.at_of s.location) f
      sound.sound.from
  named i me own (activity.Create s) fits f sound = tt
  named i me own (activity.Destroy s) fits f sound = (fits.0.number, fits.1)

  -- what a thread's step names, once its next call has begun, is there
  pub thread_inside : (i : ℕ) (t : ThreadSeen) → found_in w i ≡ Some (Thread t) →
      has_next (b.context i).at ≡ true → about.can_ask (threads.begun script t).activity ≡ true →
      IsInside b.size (ask_in (threads.begun script t).id (threads.begun script t).own
      (threads.begun script t).activity)
  thread_inside i t found next can =
      let sound = (h.aligned.contexts i (Thread t) found).1 in
      let at = stands script limits w b view state h i t found next in
      let size = h.aligned.shows.shows.size in
      let names = named i t.id t.own t.activity (subst (FitsAt b.size) at (h.whole.pair.within.targets i))
      (subst (λ (p : At). AllSay (ranged_programs script) b i (b.context i) (facts_of p)) at
      (h.whole.pair.good.places i)) sound.doing in
      let begins = begun_sound script (Thread t) limits sound in
      let t' : ThreadSeen = threads.begun script t in
      subst (λ n. IsInside n (ask_in t'.id t'.own t'.activity)) (sym size)
      (activity_inside script.table limits.table.1 t'.id t'.own t'.activity begins.id begins.inside
      begins.doing can
      (begun_named script t sound (subst (λ n. NamesAt n t.activity) size names)))

  -- and what a switch names
  pub switch_inside_at : (i : ℕ) (x : CarrierContext) → found_in w i ≡ Some (Carrier x) →
      IfSome x.switch (λ s. IsInside b.size (switch.ask_of s.call (switch.at_of s.location)))
  switch_inside_at i x found = by x.switch (h.aligned.contexts i (Carrier x) found).1.switch
    where
      by : (o : Option Switch) → IfSome o switch.IsSound →
          IfSome o (λ s. IsInside b.size (switch.ask_of s.call (switch.at_of s.location)))
      by None sound = tt
      by (Some s) sound = switch_inside b.size (subst (λ n. n ≤ 64) (sym h.aligned.shows.shows.size)
          limits.table.1) s.call (switch.at_of s.location) sound.located

  pub section_can : (i : ℕ) (v : ContextSeen) → found_in w i ≡ Some v → has_next (b.context i).at ≡ true →
      contexts.can_ask (begun script v) ≡ true → CanStep w.words w.slots i (step_of (begun script v))
  section_can i (Thread t) found next can =
      activity_can (threads.begun script t).id (threads.begun script t).own (threads.begun script t).activity
      i (number_small i (Thread t) found) (thread_inside i t found next can)
  section_can i (Carrier x) found next can = switch_can x.switch i (number_small i (Carrier x) found)
      (switch_inside_at i x found)

  -- THE MOVE

  module _ (finished : FinishedWithin script w) (c : ℕ) (inside : c < length w.carriers) where
    abbrev K : CarrierSeen
    K = carrier_at w c

    pub free_small : context_at (readied K) (target_of (readied K)) < 72
    free_small = by (begins K)
      where
        table : K.table ≡ script.table
        table = table_is script limits w b view state h c inside

        own : own_context K < 72
        own = let n = (h.aligned.carriers c inside).sound.number in let few = limits.table.1 in
            omega (arith, n, few, table)

        goal_low : (o : Option Goal) → IfSome o (IsGoalIn K.table) → IfSome o (λ g. g.id.number < 72)
        goal_low None is = tt
        goal_low (Some g) is = let m = is.inside in let few = limits.table.1 in omega (arith, m, few, table)

        goal : IfSome K.goal (λ g. g.id.number < 72)
        goal = goal_low K.goal (h.aligned.carriers c inside).sound.goal

        help_low : (o : Option Help) → IfSome o (λ p. p.context < script.table + length w.carriers) →
            IfSome o (λ p. p.context < 72)
        help_low None is = tt
        help_low (Some p) is = let few = limits.table.1 in let eight = h.aligned.few in
            omega (arith, is, few, eight)

        help : IfSome K.help (λ p. p.context < 72)
        help = help_low K.help (h.helps c inside)

        by : (q : Bool) → context_at (readied_if q K) (target_of (readied_if q K)) < 72
        by true = target_small (readied_if true K) None true K.goal own tt goal
        by false = target_small K K.help K.switching K.goal own help goal

    free_can : (o : Option ℕ) → CanPerform w.words w.slots
        (running (asked_by script K (ask_at (readied K) o)).hand) (move_by script K (ask_at (readied K) o))
    free_can None = let l = free_small in omega (arith, l)
    free_can (Some bits) = let l = free_small in omega (arith, l)

    hand_can : (o : Option HandSeen) → K.hand ≡ o →
        CanPerform w.words w.slots (running (asked_by script K (ask_with K o)).hand)
        (move_by script K (ask_with K o))
    hand_can None e = free_can (readied K).looked
    hand_can (Some x) e = by (gives K x) refl
      where
        asks : ask_of K ≡ (if gives K x then PutDown x else Run x)
        asks = ap (ask_with K) e

        found : found_in w x.context ≡ Some x.value
        found = hand_found script limits w b view state h c inside x e

        low : x.context < 72
        low = number_small x.context x.value found

        by : (q : Bool) → gives K x ≡ q →
            CanPerform w.words w.slots (running (asked_by script K (if q then PutDown x else Run x)).hand)
            (move_by script K (if q then PutDown x else Run x))
        by true q = let l = low in omega (arith, l)
        by false q =
            let run : ask_of K ≡ Run x = asks ∙ ap (λ (t : Bool). if t then PutDown x else Run x) q in
            section_can x.context x.value found (next_at script limits w b view state h c inside x run)
            (run_can script limits w b view state h finished c inside x run e).0

    pub store_can : CanPerform w.words w.slots (running (asked script K).hand) (out_of script K)
    store_can = hand_can K.hand refl

  -- THE CALLER'S WORD

  module _ (c : ℕ) (inside : c < length w.carriers) where
    abbrev Kc : CarrierSeen
    Kc = carrier_at w c

    asked_small : (o : Option HandSeen) → Kc.hand ≡ o → running (asked_by script Kc (ask_with Kc o)).hand < 74
    asked_small None e = by (begins Kc) (readied Kc).looked
      where
        empty : (q : Bool) → (if q then record Kc { switching = true; help = None; looked = None } else
            Kc).hand ≡ None
        empty true = e
        empty false = e

        by : (q : Bool) (o : Option ℕ) → running (asked_by script Kc (ask_at (readied Kc) o)).hand < 74
        by q None = subst (λ (x : Option HandSeen). running x < 74) (sym (empty (begins Kc))) (omega arith)
        by q (Some bits) = subst (λ (x : Option HandSeen). running x < 74) (sym (empty (begins Kc)))
            (omega arith)
    asked_small (Some x) e = by (gives Kc x)
      where
        low : x.context < 72
        low = number_small x.context x.value (hand_found script limits w b view state h c inside x e)

        by : (q : Bool) → running (asked_by script Kc (if q then PutDown x else Run x)).hand < 74
        by true = omega arith
        by false = let l = low in omega (arith, l)

    pub caller_small : IsNumber (running (asked script Kc).hand)
    caller_small = asked_small Kc.hand refl

  pub state_spelled : (n : ℕ) → IsStateSpelling (found_at w.words (word.State n))
  state_spelled n = subst IsStateSpelling (sym (word_is w (word.State n)))
      (h.aligned.shows.shows.seen n).spelled
