-- What comes of a carrier's move, of any kind, can be told to it.
use Rattle.std.proofs.Common.{◌≡◌, ◌≢◌, ◌<◌, ℕ, ◌+◌, Bool, true, false, refl, sym, ap, ◌∙◌, subst, arith, Option}
use Rattle.std.proofs.Common.{Some, None, IfSome, length}
use Rattle.std.proofs.lemmas.Bool.{eqb-true, false≢true}
use Rattle.std.specs.Prelude.{◌==◌, if◌then◌else◌}
use Rattle.k_ids.specs.declared.context_word.ContextWord.{ContextWord}
use Rattle.k_ids.specs.declared.context_word.ContextWord.TheVariants as context
use Rattle.k_ids.specs.declared.state_word.StateWord.{StateWord}
use Rattle.k_ids.specs.declared.threads.ThreadId.{ThreadId}
use Rattle.k_ids.specs.ContextWords.{IsContextSpelling, context_word_of}
use Rattle.k_ids.specs.StateWords.{IsStateSpelling, state_word_of}
use Rattle.k_model.specs.State.{KernelState}
use Rattle.k_locks.specs.declared.locks.Lock.{Lock}
use Rattle.k_locks.specs.declared.locks.Lock.TheVariants as lock
use Rattle.k_locks.specs.declared.locks.WordName.TheVariants as word
use Rattle.k_locks.specs.Asks.{Ask, step_for}
use Rattle.k_locks.specs.Asks as asks
use Rattle.k_locks.specs.Hands.{nothing}
use Rattle.k_locks.specs.Locks.{Holds}
use Rattle.k_locks.specs.Places.{slot_of}
use Rattle.k_locks.specs.Steps.{suits}
use Rattle.k_script.specs.Limits.{IsScript}
use Rattle.k_script.specs.Script.{Script}
use Rattle.k_ipc.specs.SendTable as send
use Rattle.k_ipc.specs.ReceiveTable as receive
use Rattle.k_threads.specs.CreateTable as create
use Rattle.k_threads.specs.DestroyTable as destroy
use Rattle.k_threads.specs.Goods.{no_lock}
use Rattle.k_switch.specs.declared.switch.Switch.{Switch}
use Rattle.k_switch.specs.declared.switch.SwitchLocked.TheVariants as switch_locked
use Rattle.k_switch.specs.Carriers as own
use Rattle.k_switch.specs.Switches as switch
use Rattle.k_caller.specs.declared.activity.Activity.{Activity}
use Rattle.k_caller.specs.declared.activity.Activity.TheVariants as activity
use Rattle.k_caller.specs.Activities.{step_at}
use Rattle.k_caller.specs.Threads.{ThreadSeen}
use Rattle.k_caller.specs.Threads as threads
use Rattle.k_caller.specs.Waits as alone
use Rattle.k_context.specs.Contexts.{Carrier, ContextSeen, IsFit, Thread, begun, step_of}
use Rattle.k_context.specs.Contexts as contexts
use Rattle.k_carrier.specs.Answers as answers
use Rattle.k_carrier.specs.Asked.{PutDown, Run, ask_at, ask_of, ask_with, asked, asked_by, move_by, out_of}
use Rattle.k_carrier.specs.Conditions.{CanTell, CanTellOf, IsOfNumber, IsOfOthers, IsResting}
use Rattle.k_carrier.specs.declared.moves.Awaits.TheVariants as awaits
use Rattle.k_carrier.specs.Rules.{begins, context_at, gives, own_context, readied, target_of}
use Rattle.k_carrier.specs.Seen.{CarrierSeen, HandSeen}
use Rattle.k_carrier.proofs.Sound.{seen_resting}
use Rattle.k_world.specs.Moves.{answer_by, took}
use Rattle.k_world.specs.Worlds.{Away, Guarded, Resting, Slot, World, carrier_at, resting_in, slot_at, word_at}
use Rattle.k_places.specs.Shows.{context_by}
use Rattle.k_board.specs.Boards.{At, Board, Coming, Context, owner_of}
use Rattle.k_board.specs.Facts.{AllSay}
use Rattle.k_board.specs.Places.{facts_of}
use Rattle.k_good.specs.Locks.{locks_at}
use Rattle.k_good.specs.Ranges.{FitsAt}
use Rattle.k_places.specs.Contexts.{IsShown, at_in, switch_at}
use Rattle.k_places.specs.Memory.{memory_of}
use Rattle.k_places.specs.Memory as memory
use Rattle.k_places.proofs.Raw.{word_is}
use Rattle.k_plays.specs.Scripts.{ranged_programs}
use Rattle.k_turns.specs.Spelled.{ask_in}
use Rattle.k_tokens.specs.World.{ContextName, OfCarrier, OfThread}
use Rattle.k_tokens.specs.World as tokens
use Rattle.k_switching.specs.Claims.{IsAsked}
use Rattle.k_grants.specs.Views.{name_of}
use Rattle.k_moves.proofs.Names.{name_beyond, name_inside}
use Rattle.k_aligned.specs.Aligned.{found_in}
use Rattle.k_whole.specs.Next.{has_next}
use Rattle.k_handling.specs.Handling.{IsKernel}
use Rattle.k_handling.proofs.Contexts.{on_board}
use Rattle.k_conditions.specs.Finished.{FinishedWithin}
use Rattle.k_conditions.proofs.Answered.{EachAnswer, answer_in, each_answer}
use Rattle.k_conditions.proofs.CanAsks.{in_hand, run_can, stands}
use Rattle.k_conditions.proofs.Inside.{IsInside}
use Rattle.k_conditions.proofs.Knows.{Knows, begun_id, begun_knows, knows}
use Rattle.k_conditions.proofs.Moments.{asked_so, hand_found, next_at, size_is, table_is}
use Rattle.k_conditions.proofs.Others.{carrier_owner, thread_owner}
use Rattle.k_conditions.proofs.Performs.{switch_inside_at, thread_inside}
use Rattle.k_conditions.proofs.Tells.{switch_fine, thread_fine}

-- WHAT LIES IN A SLOT

slot_is : (w : World) (n : ℕ) → slot_at w (slot_of n) ≡ (memory_of w).slot n
unfolding memory.at
slot_is w n = refl

-- a context of which the word says that it rests is the one in its slot
pub rests_there : (w : World) (n : ℕ) (v : ContextSeen) →
    IsResting (context_word_of ((memory_of w).context n)) → slot_at w (slot_of n) ≡ Resting v →
    found_in w n ≡ Some v
rests_there w n v rests lies = by (context_word_of ((memory_of w).context n)) rests
  where
    there : (memory_of w).slot n ≡ Resting v
    there = sym (slot_is w n) ∙ lies

    by : (x : ContextWord) → IsResting x → context_by (memory_of w).slot (memory_of w).hand n x ≡ Some v
    by (context.Clean version) r = ap resting_in there
    by (context.Holds version) r = ap resting_in there
    by (context.Taken carrier version) r = absurd r
    by context.Empty r = absurd r

-- WHOM IT HAS TO HELP

step_others : (w : World) (b : Board) (k : CarrierSeen) (a : Ask) →
    ((l : Lock) (owner : ℕ) → a ≡ asks.Acquire l → owner_of b l ≡ Some owner → owner ≢ own_context k) →
    ((id : ThreadId) → a ≡ asks.Remove id → id.number ≢ own_context k) → EachAnswer w b a (IsOfOthers k)
step_others w b k (asks.Load n) owned held = tt
step_others w b k (asks.LoadMail n) owned held = tt
step_others w b k (asks.Post n message) owned held = tt
step_others w b k (asks.Exchange n old new) owned held = (tt, λ bits. tt)
step_others w b k (asks.Acquire l) owned held = (tt, λ owner e. owned l owner refl e)
step_others w b k (asks.Release l) owned held = tt
step_others w b k (asks.Place id program priority) owned held = tt
step_others w b k (asks.Remove id) owned held = (tt, held id refl, λ carrier. tt)

-- where a switch acquires a lock, it holds none
acquires_free : (s : Switch) (l m : Lock) → switch.ask_of s.call (switch.at_of s.location) ≡ asks.Acquire l →
    Holds m (switch.locks_of (switch.at_of s.location)) → ⊥
acquires_free s l m = by (switch.at_of s.location)
  where
    none : (m : Lock) → Holds m no_lock → ⊥
    none lock.Table e = absurd cc
    none (lock.Thread n) e = absurd cc
    none lock.Ready e = absurd cc

    by : (p : switch.SwitchAt) → switch.ask_of s.call p ≡ asks.Acquire l → Holds m (switch.locks_of p) → ⊥
    by switch.AcquireReady e held = none m held
    by (switch.Locked (switch_locked.LoadGoal goal)) e held = cc
    by (switch.Locked (switch_locked.LoadStart back n)) e held = cc
    by (switch.Locked (switch_locked.ReleaseReady back started)) e held = cc
    by (switch.Returned x) e held = cc
    by (switch.Finished x) e held = none m held

never_removes : (s : Switch) (id : ThreadId) → switch.ask_of s.call (switch.at_of s.location) ≡ asks.Remove
    id → ⊥
never_removes s id = by (switch.at_of s.location)
  where
    by : (p : switch.SwitchAt) → switch.ask_of s.call p ≡ asks.Remove id → ⊥
    by switch.AcquireReady e = cc
    by (switch.Locked (switch_locked.LoadGoal goal)) e = cc
    by (switch.Locked (switch_locked.LoadStart back n)) e = cc
    by (switch.Locked (switch_locked.ReleaseReady back started)) e = cc
    by (switch.Returned x) e = cc
    by (switch.Finished x) e = cc

module _ (script : Script) (limits : IsScript script) (w : World) (b : Board) (view : tokens.World)
    (state : KernelState)
    (h : IsKernel script w b view state) (finished : FinishedWithin script w) (c : ℕ)
    (inside : c < length w.carriers) where
  abbrev K : CarrierSeen
  K = carrier_at w c

  pub spelled : (n : ℕ) → IsStateSpelling (word_at w (word.State n))
  spelled n = subst IsStateSpelling (sym (word_is w (word.State n))) (h.aligned.shows.shows.seen n).spelled

  same : (n : ℕ) → (b.seen n).word ≡ state_word_of (word_at w (word.State n))
  same n = (h.aligned.shows.shows.seen n).word ∙ ap state_word_of (sym (word_is w (word.State n)))

  context_spelled : (n : ℕ) → IsContextSpelling (word_at w (word.Context n))
  context_spelled n = subst IsContextSpelling (sym (word_is w (word.Context n)))
      (h.aligned.shows.shows.places.spelled n)

  pub table : K.table ≡ script.table
  table = table_is script limits w b view state h c inside

  -- A STEP OF A SECTION

  -- the carrier as it is then, which has the same own context
  abbrev Asked : HandSeen → CarrierSeen
  Asked x = asked_by script K (Run x)

  own_is : own_context K ≡ b.size + c
  own_is = (λ z. size_is script limits w b view state h c inside z + (h.aligned.carriers c inside).number z)

  thread_knows : (n : ℕ) (t : ThreadSeen) → found_in w n ≡ Some (Thread t) →
      has_next (b.context n).at ≡ true → Knows b script.table (threads.begun script t).id
      (threads.begun script t).activity
  thread_knows n t found next =
      let at = stands script limits w b view state h n t found next in
      let shown : IsShown (b.seen n).word n t (b.context n) =
      on_board script w b view h.aligned.shows h.whole.pair.alike h.aligned.contexts n (Thread t) found in
      let sound = (h.aligned.contexts n (Thread t) found).1 in
      let low : n < script.table = subst (λ m. m < script.table) shown.number sound.inside in
      subst (λ me. Knows b script.table me (threads.begun script t).activity) (sym (begun_id script t))
      (begun_knows script b t (knows script limits b w.history state h.whole.holds n low
      h.whole.pair.alike.agrees.whole t.id t.own t.activity shown.number
      (version_made at shown) (subst (FitsAt b.size) at (h.whole.pair.within.targets n))
      (subst (λ (p : At). AllSay (ranged_programs script) b n (b.context n) (facts_of p)) at
      (h.whole.pair.good.places n)) sound.doing
      (in_hand script limits w b view state h n t found at) (ap has_next (sym at) ∙ next)))
    where
      version_made : (b.context n).at ≡ at_in t.activity → IsShown (b.seen n).word n t (b.context n) →
          (b.seen n).word.version ≡ t.id.version
      version_made at shown = by ((b.seen n).word.version == t.id.version) refl
        where
          by : (q : Bool) → ((b.seen n).word.version == t.id.version) ≡ q →
              (b.seen n).word.version ≡ t.id.version
          by true e = eqb-true (b.seen n).word.version t.id.version e
          by false e = absurd (false≢true (sym
              (ap has_next (ap (λ (z : Context). z.at) shown.context
              ∙ ap (λ (q : Bool). if q then at_in t.activity else Coming) e)) ∙ next))

  step_tells : (x : HandSeen) (v : ContextSeen) → ask_of K ≡ Run x → found_in w x.context ≡ Some v →
      has_next (b.context x.context).at ≡ true → contexts.can_ask (begun script v) ≡ true →
      (suits (step_of (contexts.asked (begun script v))) (answer_in w (step_of (begun script v))) ≡ true) ×
      IsFit script (contexts.asked (begun script v)) (answer_in w (step_of (begun script v))) ×
      IsOfOthers (Asked x) (answer_in w (step_of (begun script v)))
  step_tells x (Thread t) run found next can =
      let t' : ThreadSeen = threads.begun script t in
      let is : IsInside b.size (ask_in t'.id t'.own t'.activity) = thread_inside script limits w b view state
      h x.context t found next can in
      let fine = thread_fine script w b h.aligned.shows spelled same script.table t' refl can
      (thread_knows x.context t found next) is in
      (fine.0, fine.1, others t'.id t'.own t'.activity is)
    where
      low : x.context < b.size
      low = subst (λ m. x.context < m) (sym h.aligned.shows.shows.size)
          (subst (λ m. m < script.table) (h.aligned.contexts x.context (Thread t) found).0
          (h.aligned.contexts x.context (Thread t) found).1.inside)

      is_asked : IsAsked view c (OfThread x.context)
      is_asked = subst (IsAsked view c) (name_inside b.size x.context low)
          (asked_so script limits w b view state h c inside x run)

      each : (a : Ask) → IsInside b.size a → EachAnswer w b a (IsOfOthers (Asked x))
      each a is = step_others w b (Asked x) a
          (λ l owner e q o. thread_owner script w b view state h c x.context l is_asked
          (q ∙ ap Some (o ∙ own_is)))
          (λ id e o. let m = (subst (IsInside b.size) e is).1 in let z = own_is in
          absurd (omega (arith, m, o, z)))

      others : (me : ThreadId) (own : StateWord) (a : Activity) → IsInside b.size (ask_in me own a) →
          IsOfOthers (Asked x) (answer_in w (step_at me own a))
      others me own (activity.Alone p) is = each_answer script w b h.aligned.shows (IsOfOthers (Asked x))
          (alone.ask_of me own p) nothing is (each (alone.ask_of me own p) is)
      others me own (activity.Send s) is = each_answer script w b h.aligned.shows (IsOfOthers (Asked x))
          (send.ask_of s.call s.own (send.at_of s.location))
          (send.hand_after s.call (send.hand_of s.location) (send.at_of s.location) asks.Released) is
          (each _ is)
      others me own (activity.Receive s) is = each_answer script w b h.aligned.shows (IsOfOthers (Asked x))
          (receive.ask_of s.call s.own (receive.at_of s.location))
          (receive.hand_after s.call (receive.hand_of s.location) (receive.at_of s.location) asks.Released) is
          (each _ is)
      others me own (activity.Create s) is = each_answer script w b h.aligned.shows (IsOfOthers (Asked x))
          (create.ask_of s.call s.own (create.at_of s.location))
          (create.hand_after s.call (create.hand_of s.location) (create.at_of s.location) asks.Released) is
          (each _ is)
      others me own (activity.Destroy s) is = each_answer script w b h.aligned.shows (IsOfOthers (Asked x))
          (destroy.ask_of s.call s.own (destroy.at_of s.location))
          (destroy.hand_after s.call (destroy.hand_of s.location) (destroy.at_of s.location) asks.Released) is
          (each _ is)
  step_tells x (Carrier k) run found next can =
      let is = switch_inside_at script limits w b view state h x.context k found in
      let fine = switch_fine script w b h.aligned.shows spelled same script.table k can is in
      (fine.0, fine.1, others k.switch is (stands_own found))
    where
      number : b.size + k.carrier ≡ x.context
      number = (λ z. h.aligned.shows.shows.size z + k.carrier)
          ∙ (h.aligned.contexts x.context (Carrier k) found).0

      is_asked : IsAsked view c (OfCarrier k.carrier)
      is_asked = subst (IsAsked view c) (ap (name_of b.size) (sym number) ∙ name_beyond b.size k.carrier)
          (asked_so script limits w b view state h c inside x run)

      stands_own : found_in w x.context ≡ Some (Carrier k) → (b.context (b.size + k.carrier)).at ≡ switch_at
          k.switch
      stands_own found = ap (λ n. (b.context n).at) number ∙ on_board script w b view h.aligned.shows
          h.whole.pair.alike h.aligned.contexts x.context (Carrier k) found

      others : (o : Option Switch) → IfSome o
          (λ s. IsInside b.size (switch.ask_of s.call (switch.at_of s.location))) →
          (b.context (b.size + k.carrier)).at ≡ switch_at o →
          IsOfOthers (Asked x) (answer_in w (own.step_in o))
      others None is at = tt
      others (Some s) is at =
          each_answer script w b h.aligned.shows (IsOfOthers (Asked x))
          (switch.ask_of s.call (switch.at_of s.location))
          (switch.hand_after s.call (switch.hand_of s.location) (switch.at_of s.location) asks.Released)
          is
          (step_others w b (Asked x) (switch.ask_of s.call (switch.at_of s.location))
          (λ l owner e q o. carrier_owner script w b view state h c k.carrier l is_asked
          (λ held. acquires_free s l l e (subst (λ (p : At). Holds l (locks_at p)) at held))
          (q ∙ ap Some (o ∙ own_is)))
          (λ id e o. never_removes s id e))

  -- A LOOK, AND A TAKE

  readied_table : (readied K).table ≡ script.table
  readied_table = by (begins K) ∙ table
    where
      by : (q : Bool) → (if q then record K { switching = true; help = None; looked = None } else
          K).table ≡ K.table
      by true = refl
      by false = refl

  pub looked_rests : (bits : ℕ) → (readied K).looked ≡ Some bits → IsResting (context_word_of bits)
  looked_rests bits e = (seen_resting script K bits (h.aligned.carriers c inside).sound (by (begins K) e)).1
    where
      by : (q : Bool) → (if q then record K { switching = true; help = None; looked = None } else
          K).looked ≡ Some bits → K.looked ≡ Some bits
      by true z = absurd (let y : None ≡ Some bits = z in cc)
      by false z = z

  abbrev N : ℕ
  N = context_at (readied K) (target_of (readied K))

  abbrev Taking : CarrierSeen
  Taking = record (readied K) { awaits = awaits.Take }

  took_tells : (found : ℕ) (x : Slot) → IsContextSpelling found →
      ((v : ContextSeen) → x ≡ Resting v → found_in w N ≡ Some v) →
      CanTellOf script Taking awaits.Take (took found x)
  took_tells found (Resting v) sp there =
      let is = h.aligned.contexts N v (there v refl) in
      (subst (λ n. IsOfNumber n N v) (sym readied_table) is.0, is.1)
  took_tells found (Guarded g) sp there = sp
  took_tells found Away sp there = sp

  take_tells : (bits : ℕ) → (readied K).looked ≡ Some bits → (t : Bool) →
      (word_at w (word.Context N) == bits) ≡ t →
      CanTellOf script Taking awaits.Take (if t then took (word_at w (word.Context N)) (slot_at w (slot_of N))
      else answers.TakeLost (word_at w (word.Context N)))
  take_tells bits seen true e = took_tells (word_at w (word.Context N)) (slot_at w (slot_of N))
      (context_spelled N)
      (λ v lies. rests_there w N v (subst (λ n. IsResting (context_word_of n))
      (sym (eqb-true (word_at w (word.Context N)) bits e) ∙ word_is w (word.Context N))
      (looked_rests bits seen)) lies)
  take_tells bits seen false e = context_spelled N

  free_tells : (o : Option ℕ) → (readied K).looked ≡ o →
      CanTell script (asked_by script K (ask_at (readied K) o))
      (answer_by w (move_by script K (ask_at (readied K) o)))
  free_tells None e = context_spelled N
  free_tells (Some bits) e = take_tells bits e (word_at w (word.Context N) == bits) refl

  -- ANY MOVE

  hand_tells : (o : Option HandSeen) → K.hand ≡ o → CanTell script (asked_by script K (ask_with K o))
      (answer_by w (move_by script K (ask_with K o)))
  hand_tells None e = free_tells (readied K).looked refl
  hand_tells (Some x) e = by (gives K x) refl
    where
      asks_it : ask_of K ≡ (if gives K x then PutDown x else Run x)
      asks_it = ap (ask_with K) e

      by : (q : Bool) → gives K x ≡ q → CanTell script (asked_by script K (if q then PutDown x else Run x))
          (answer_by w (move_by script K (if q then PutDown x else Run x)))
      by true q = tt
      by false q =
          let run : ask_of K ≡ Run x = asks_it ∙ ap (λ (t : Bool). if t then PutDown x else Run x) q in
          step_tells x x.value run (hand_found script limits w b view state h c inside x e)
          (next_at script limits w b view state h c inside x run)
          (run_can script limits w b view state h finished c inside x run e).0

  pub can_be_told : CanTell script (asked script K) (answer_by w (out_of script K))
  can_be_told = hand_tells K.hand refl
