-- A move of a carrier is on a word that there is, and its entry is of numbers of the table.
use Rattle.std.proofs.Common.{◌≡◌, ℕ, ◌<◌, ◌==◌, Bool, true, false, refl, sym, ◌∙◌, subst, arith, Option}
use Rattle.std.proofs.Common.{Some, None}
use Rattle.std.proofs.Common.{List, length}
use Rattle.std.specs.Prelude.{IfSome, if◌then◌else◌}
use Rattle.k_ids.specs.declared.histories.Entry.{Entry}
use Rattle.k_ids.specs.declared.state_word.StateWord.{StateWord}
use Rattle.k_ids.specs.declared.threads.ThreadId.{ThreadId}
use Rattle.k_model.specs.State.{KernelState}
use Rattle.k_locks.specs.Places.{IsWord, slot_of}
use Rattle.k_locks.specs.Steps.{answer_of, word_of}
use Rattle.k_locks.specs.declared.locks.WordName.TheVariants as word
use Rattle.k_locks.specs.declared.points.Point.{Point}
use Rattle.k_locks.specs.declared.steps.Answer.{Answer}
use Rattle.k_script.specs.Limits.{IsScript}
use Rattle.k_script.specs.Script.{Script}
use Rattle.k_caller.specs.Threads as threads
use Rattle.k_caller.specs.Threads.{ThreadSeen}
use Rattle.k_context.specs.Contexts.{Carrier, ContextSeen, Thread, begun, points, step_of}
use Rattle.k_context.specs.Contexts as contexts
use Rattle.k_carrier.specs.Answers.{TakeLost}
use Rattle.k_carrier.specs.Asked.{CarrierAsk, LookAt, PutDown, Run, Take, ask_at, ask_of, ask_with, asked_by}
use Rattle.k_carrier.specs.Asked.{move_by}
use Rattle.k_carrier.specs.Conditions.{CanAsk, IsHand}
use Rattle.k_carrier.specs.Conditions as carriers
use Rattle.k_carrier.specs.Resumed.{point_of}
use Rattle.k_carrier.specs.Rules.{context_at, gives, readied, target_of}
use Rattle.k_carrier.specs.Seen.{CarrierSeen, HandSeen}
use Rattle.k_world.specs.Moves.{goods_for, took, word_on}
use Rattle.k_world.specs.Steps.{caller_in, entry_by, entry_of, step_in}
use Rattle.k_world.specs.Worlds.{Slot, Guarded, Resting, Away, World, carrier_at, slot_at, state_at, word_at}
use Rattle.k_board.specs.Boards.{Board, id_at}
use Rattle.k_good.specs.Ranges.{is_threads}
use Rattle.k_plays.specs.Scripts.{ranged_programs}
use Rattle.k_invariant.specs.Invariant.{BoardHolds}
use Rattle.k_places.specs.Contexts.{ShowsContext}
use Rattle.k_places.specs.Fits.{IsEntryWithin, IsStepWithin}
use Rattle.k_places.specs.Memory.{Memory, memory_of}
use Rattle.k_places.specs.Shows.{ShowsBoard}
use Rattle.k_places.proofs.Places.{held_is}
use Rattle.k_turns.specs.Spelled.{ask_at as asked_at}
use Rattle.k_joint.proofs.Carried.{not_held, put_down_hand}
use Rattle.k_joint.proofs.Runs.{StepWith, hand_is, hand_of_run}
use Rattle.k_kernel.specs.Moves.{CanMove, IsMade, IsRunnable}
use Rattle.k_aligned.specs.Aligned.{IsAligned}
use Rattle.k_handling.specs.Handling.{IsKernel}
use Rattle.k_handling.proofs.Handles.{moment}
use Rattle.k_handling.proofs.Moves.{aim_within}
use Rattle.k_spelled.specs.Asks.{ask_on}
use Rattle.k_spelled.specs.Words.{WordsHold}
use Rattle.k_spelled.proofs.Contexts.{thread_holds}
use Rattle.k_spelled.proofs.Worlds.{carrier_spelled, word_shown}
use Rattle.k_tokens.specs.World as tokens
use Rattle.k_within.specs.Asks.{IsAskWithin}
use Rattle.k_within.proofs.Boards.{within_at}
use Rattle.k_within.proofs.Contexts.{calls_begun, carrier_word, context_there, thread_word}
use Rattle.k_within.proofs.Made.{run_made}
use Rattle.k_within.proofs.Points.{IsPointWithin, thread_points}

pub board_within : (script : Script) (b : Board) (es : List Entry) (k : KernelState) →
    BoardHolds script b es k → (i : ℕ) →
    is_threads (b.context i).at ≡ true → IsAskWithin script.table
    (ask_on (id_at b i) (b.context i).own (b.context i).at)
board_within script b es k h i t =
    subst (λ (n : ℕ). IsAskWithin n (ask_on (id_at b i) (b.context i).own (b.context i).at)) h.size
    (within_at (ranged_programs script) b h.proper.good.places h.proper.within h.proper.queues i
    (b.context i).at refl t)

-- AN ENTRY is that of its point

entry_within : (w : World) (size : ℕ) (p : Option Point) → IsPointWithin size p →
    IsEntryWithin size (entry_by w p)
entry_within w size None h = tt
entry_within w size (Some p) h = h

-- a take has no point, whatever came of it
took_nothing : (k : CarrierSeen) (u : StateWord) (n : ℕ) (s : Slot) → point_of k u (took n s) ≡ None
took_nothing k u n (Resting v) = refl
took_nothing k u n (Guarded g) = refl
took_nothing k u n Away = refl

-- WHOM A CARRIER IS TO TAKE

looks_there : (k : CarrierSeen) (o : Option ℕ) (n : ℕ) → ask_at k o ≡ LookAt n →
    context_at k (target_of k) ≡ n
looks_there k None n e = cc
looks_there k (Some bits) n e = absurd cc

takes_there : (k : CarrierSeen) (o : Option ℕ) (n bits : ℕ) → ask_at k o ≡ Take n bits →
    context_at k (target_of k) ≡ n
takes_there k None n bits e = absurd cc
takes_there k (Some seen) n bits e = cc

-- without a hand it looks or takes
empty_asks : (k : CarrierSeen) (a : CarrierAsk) → ask_of k ≡ a → ((h : HandSeen) → a ≡ PutDown h → ⊥) →
    ((h : HandSeen) → a ≡ Run h → ⊥) → ask_at (readied k) (readied k).looked ≡ a
empty_asks k a e p r = by k.hand refl e
  where
    by : (o : Option HandSeen) → k.hand ≡ o → ask_with k o ≡ a → ask_at (readied k) (readied k).looked ≡ a
    by None q z = z
    by (Some x) q z = absurd (not_held k x (gives k x) a z p r)

module _ (script : Script) (limits : IsScript script) (w : World) (b : Board) (es : List Entry)
    (k : KernelState)
    (sh : ShowsBoard script w b) (h : BoardHolds script b es k) (words : WordsHold b) where
  abbrev M : Memory
  M = memory_of w

  -- THE STEP OF A CONTEXT in a carrier's hand

  module _ (c : ℕ) (x : HandSeen) (e : ask_of (carrier_at w c) ≡ Run x)
      (sound : contexts.IsSound script x.value)
      (made : IsMade (state_at w x.context) x.value) where
    shown : ShowsContext (b.seen x.context).word x.context (Some x.value) (b.context x.context)
    shown =
        subst (λ (o : Option ContextSeen). ShowsContext (b.seen x.context).word x.context o
        (b.context x.context))
        (held_is M.context M.slot M.hand c x sh.shows.places (hand_is w c ∙ hand_of_run (carrier_at w c) x e))
        (sh.shows.contexts x.context)

    asks_within : (t : ThreadSeen) → x.value ≡ Thread t →
        IsAskWithin script.table (asked_at (Thread (threads.begun script t)))
    asks_within t is =
        thread_holds script limits (IsAskWithin script.table)
        (λ d fs q on ws j th. board_within script d fs q on j th)
        b es k h words x.context t
        (subst (λ (v : ContextSeen). ShowsContext (b.seen x.context).word x.context (Some v)
        (b.context x.context)) is shown)
        (subst (λ (v : ContextSeen). IsMade (b.seen x.context).word v) is
        (subst (λ (u : StateWord). IsMade u x.value) (word_shown script w b sh x.context) made))

    pub run_word : IsWord (word_of (step_of (begun script x.value)))
    run_word = by x.value refl
      where
        by : (v : ContextSeen) → x.value ≡ v → IsWord (word_of (step_of (begun script v)))
        by (Thread t) is =
            let z = threads.begun script t in thread_word script.table z.id z.own z.activity limits.table.1
            (asks_within t is)
        by (Carrier z) is = carrier_word z.switch (subst (contexts.IsSound script) is sound).switch

    pub run_points : (u : StateWord) (a : Answer) →
        IsPointWithin script.table (points (contexts.asked (begun script x.value)) u a)
    run_points u a = by x.value refl
      where
        by : (v : ContextSeen) → x.value ≡ v → IsPointWithin script.table
            (points (contexts.asked (begun script v)) u a)
        by (Carrier z) is = tt
        by (Thread t) is =
            let z = threads.begun script t in
            let good = subst (contexts.IsSound script) is sound in
            let calls = calls_begun script t good.doing in
            thread_points script.table z.id z.own z.activity u a
            (subst (λ (id : ThreadId). id.number < script.table) (sym calls.0) good.inside) calls.1
            (asks_within t is)

module _ (script : Script) (limits : IsScript script) (w : World) (b : Board) (view : tokens.World)
    (state : KernelState) (k : IsKernel script w b view state) (words : WordsHold b) (c : ℕ)
    (inside : c < length w.carriers) where
  abbrev K : CarrierSeen
  K = carrier_at w c

  mine : IsAligned script c K view
  mine = k.aligned.carriers c inside

  made : (x : HandSeen) → ask_of K ≡ Run x → IsMade (state_at w x.context) x.value
  made x e = run_made script w b view state k c inside x e

  -- what it has in hand is sound, and has a word
  hand_of : (x : HandSeen) → K.hand ≡ Some x → IsHand script script.table x
  hand_of x e =
      subst (λ (n : ℕ). IsHand script n x) mine.sound.table
      (subst (λ (o : Option HandSeen). IfSome o (IsHand script K.table)) e mine.sound.hand)

  target_there : context_at (readied K) (target_of (readied K)) < 72
  target_there =
      let aim = aim_within (moment script limits w b view state k c inside) in
      let few = k.aligned.few in let small = limits.table.1 in omega (arith, aim, few, small)

  word_there : (q : CarrierAsk) → ask_of K ≡ q → IsWord (word_on (move_by script K q))
  word_there (Run x) e =
      run_word script limits w b w.history state k.aligned.shows k.whole.holds words c x e
      (hand_of x (hand_of_run K x e)).sound (made x e)
  word_there (PutDown x) e =
      let is = hand_of x (put_down_hand K x e) in
      context_there script x.context x.value limits is.number is.sound
  word_there (LookAt n) e =
      subst (λ (m : ℕ). m < 72) (looks_there (readied K) (readied K).looked n
      (empty_asks K (LookAt n) e (λ x d. absurd cc) (λ x d. absurd cc))) target_there
  word_there (Take n bits) e =
      subst (λ (m : ℕ). m < 72) (takes_there (readied K) (readied K).looked n bits
      (empty_asks K (Take n bits) e (λ x d. absurd cc) (λ x d. absurd cc))) target_there

  entry_there : (q : CarrierAsk) → ask_of K ≡ q →
      IsEntryWithin script.table (entry_of w (StepWith script w c q))
  entry_there (Run x) e =
      let s = step_of (begun script x.value) in
      entry_within w script.table _
      (run_points script limits w b w.history state k.aligned.shows k.whole.holds words c x e
      (hand_of x (hand_of_run K x e)).sound (made x e) (state_at w x.context)
      (answer_of s (word_at w (word_of s)) (goods_for w s)))
  entry_there (PutDown x) e = tt
  entry_there (LookAt n) e = tt
  entry_there (Take n bits) e = by (word_at w (word.Context n) == bits)
    where
      found : ℕ
      found = word_at w (word.Context n)

      by : (t : Bool) → IsEntryWithin script.table (entry_by w (point_of (asked_by script K (Take n bits))
          (caller_in w (asked_by script K (Take n bits)).hand)
          (if t then took found (slot_at w (slot_of n)) else TakeLost found)))
      by true =
          subst (λ (p : Option Point). IsEntryWithin script.table (entry_by w p))
          (sym (took_nothing (asked_by script K (Take n bits))
          (caller_in w (asked_by script K (Take n bits)).hand) found (slot_at w (slot_of n)))) tt
      by false = tt

  pub step_within : IsStepWithin w (step_in script c w)
  unfolding step_in
  step_within = record {
    words = k.aligned.shows.whole.words;
    slots = k.aligned.shows.whole.slots;
    carrier = inside;
    word = word_there (ask_of K) refl;
    entry =
        subst (λ (n : ℕ). IsEntryWithin n (entry_of w (StepWith script w c (ask_of K))))
        (sym k.aligned.shows.whole.serials) (entry_there (ask_of K) refl);
  }

  -- ALL THAT A MOVE NEEDS, where the carrier can be asked for it

  module _ (can : CanAsk script K)
      (sound : (x : HandSeen) → ask_of K ≡ Run x → contexts.IsSound script (begun script x.value)) where
    can_move : (q : CarrierAsk) → ask_of K ≡ q → CanMove script c w q
    can_move (Run x) e = record {
      made = made x e;
      sound = sound x e;
      asks = (subst (λ (q : CarrierAsk). carriers.CanMove script K q) e can.move).0;
    }
    can_move (PutDown x) e = tt
    can_move (LookAt n) e = tt
    can_move (Take n bits) e = record { sound = mine.sound; number = mine.number }

    pub is_runnable : IsRunnable script c w
    is_runnable = record {
      carrier = inside;
      word = step_within.word;
      entry = step_within.entry;
      move = can_move (ask_of K) refl;
      spelled = carrier_spelled script limits w b w.history state k.aligned.shows k.whole.holds words c made;
    }
