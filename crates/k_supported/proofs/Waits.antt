-- A step that the raw world has to make again is held up: who is told of holds what it waits for, and ranks above.
use Rattle.std.proofs.Common.{◌≡◌, ℕ, ◌<◌, ◌==◌, Bool, true, false, nat_lt, refl, sym, ap, ◌∙◌, subst, Option, Some, None, arith}
use Rattle.std.proofs.Common.{inl, inr}
use Rattle.std.specs.Prelude.{if◌then◌else◌}
use Rattle.std.proofs.lemmas.Bool.{false≢true}
use Rattle.std.proofs.lemmas.Bool.Decides.{nat_tests}
use Rattle.std.proofs.lemmas.Grind.{common_steps}
use Rattle.k_ids.specs.declared.context_word.ContextWord.{ContextWord}
use Rattle.k_ids.specs.declared.context_word.ContextWord.TheVariants as context_word
use Rattle.k_ids.specs.declared.lock_word.LockWord.{LockWord}
use Rattle.k_ids.specs.declared.lock_word.LockWord.TheVariants as lock_word
use Rattle.k_ids.specs.declared.state_word.StateWord.{StateWord}
use Rattle.k_ids.specs.declared.threads.ThreadId.{ThreadId}
use Rattle.k_ids.specs.ContextWords.{context_bits, context_word_of}
use Rattle.k_ids.specs.LockWords.{lock_bits}
use Rattle.k_ids.specs.StateWords.{state_bits}
use Rattle.k_locks.specs.Asks.{Ask, response_of, step_for, want_for, want_of}
use Rattle.k_locks.specs.Asks as asks
use Rattle.k_locks.specs.Hands.{Hand, nothing}
use Rattle.k_locks.specs.Places.{lock_number}
use Rattle.k_locks.specs.Steps.{not_acquired, not_removed}
use Rattle.k_locks.specs.Steps as steps
use Rattle.k_locks.specs.declared.locks.Lock.{Lock}
use Rattle.k_locks.specs.declared.steps.Answer.{Answer}
use Rattle.k_locks.specs.declared.steps.Answer.TheVariants as answer
use Rattle.k_locks.specs.declared.steps.Step.{Step}
use Rattle.k_locks.specs.declared.steps.Told.{Told}
use Rattle.k_locks.specs.declared.steps.Told.TheVariants as told
use Rattle.k_script.specs.Script.{Script}
use Rattle.k_ipc.specs.ReceiveTable as receive
use Rattle.k_ipc.specs.SendTable as send
use Rattle.k_threads.specs.declared.destroy.DestroyCall.{DestroyCall}
use Rattle.k_threads.specs.declared.destroy.DestroyLocked.TheVariants as destroy_locked
use Rattle.k_threads.specs.CreateTable as create
use Rattle.k_threads.specs.DestroyTable as destroy
use Rattle.k_caller.specs.declared.activity.Activity.{Activity}
use Rattle.k_caller.specs.declared.activity.Activity.TheVariants as activity
use Rattle.k_caller.specs.declared.ran.Ran.{Ran}
use Rattle.k_caller.specs.declared.thread.ThreadLocation.{ThreadLocation}
use Rattle.k_caller.specs.Activities.{section_own, step_at}
use Rattle.k_caller.specs.Threads.{ThreadSeen, step_of}
use Rattle.k_caller.specs.Waits as alone
use Rattle.k_switch.specs.declared.goal.Goal.{Goal}
use Rattle.k_carrier.specs.Asked.{lock_acquired}
use Rattle.k_carrier.specs.Resumed.{told_in}
use Rattle.k_board.specs.Words.{Programs}
use Rattle.k_board.specs.Boards.{At, Board, Coming, Context, InDestroy, owner_of}
use Rattle.k_good.specs.Ranges.{FitsAt}
use Rattle.k_sections.specs.Situations.{want_at}
use Rattle.k_sections.proofs.Tables.{ThreadTables}
use Rattle.k_sections.proofs.Wanted.{RemovesAt, removes_at}
use Rattle.k_context.specs.Contexts.{Thread}
use Rattle.k_board.specs.Steps.{Answers}
use Rattle.k_places.specs.Answers.{answer_in, goods_found}
use Rattle.k_places.specs.Contexts.{at_in}
use Rattle.k_places.specs.Memory.{Memory}
use Rattle.k_places.specs.Shows.{IsLockOf, Shows, context_in}
use Rattle.k_places.proofs.Words.{step_finds}
use Rattle.k_turns.specs.Spelled.{IsSpelled, ask_in}
use Rattle.k_tokens.specs.World.{OfThread, World}
use Rattle.k_switching.specs.Claims.{IsAsked}
use Rattle.k_switching.specs.Rules.{word_of}
use Rattle.k_grants.specs.Views.{name_of}
use Rattle.k_moves.specs.Told.{finding_by}
use Rattle.k_paired.specs.Pairs.{IsPair}
use Rattle.k_whole.specs.Whole.{HasVictims}
use Rattle.k_work.specs.Near.{IsAlone, IsHeldAbove, IsWaiting}
use Rattle.k_supported.specs.Supported.{IsRemovable}
use Rattle.k_supported.proofs.Owners.{lock_held_up}
use Rattle.k_supported.proofs.Removals.{removal_held_up}
use Rattle.k_supported.proofs.Shown.{shown_as, stands_at}

-- WHAT IS ASKED FOR

alone_wants : (me : ThreadId) (own : StateWord) (p : ThreadLocation) → None ≡ want_of (alone.ask_of me own p)
alone_wants me own p = grind (arith, common_steps)

activity_wants : (me : ThreadId) (own : StateWord) (a : Activity) →
    want_at (section_own own a) (at_in a) ≡ want_of (ask_in me own a)
activity_wants me own (activity.Alone p) = alone_wants me own p
activity_wants me own (activity.Send s) = refl
activity_wants me own (activity.Receive s) = refl
activity_wants me own (activity.Create s) = refl
activity_wants me own (activity.Destroy s) = refl

-- who asks to remove a context stands where a destroy does
asked_who : (me : ThreadId) (own : StateWord) (a : Activity) (call : DestroyCall) →
    at_in a ≡ InDestroy call (destroy.Locked destroy_locked.RemoveContext) → (id : ThreadId) → ask_in me own a ≡ asks.Remove id →
    call.who ≡ id
asked_who me own (activity.Destroy s) call at id e = one (sym (ap asks_at at) ∙ e)
  where
    asks_at : At → Ask
    asks_at (InDestroy c p) = destroy.ask_of c s.own p
    asks_at p = asks.Load 0

    one : asks.Remove call.who ≡ asks.Remove id → call.who ≡ id
    one z = cc
asked_who me own (activity.Alone p) call at id e = absurd cc
asked_who me own (activity.Send s) call at id e = absurd cc
asked_who me own (activity.Receive s) call at id e = absurd cc
asked_who me own (activity.Create s) call at id e = absurd cc

-- THE STEP, by what is asked for

abbrev hand_for : Activity → Hand
hand_for (activity.Alone p) = nothing
hand_for (activity.Send s) = send.hand_after s.call (send.hand_of s.location) (send.at_of s.location) asks.Released
hand_for (activity.Receive s) = receive.hand_after s.call (receive.hand_of s.location) (receive.at_of s.location) asks.Released
hand_for (activity.Create s) = create.hand_after s.call (create.hand_of s.location) (create.at_of s.location) asks.Released
hand_for (activity.Destroy s) = destroy.hand_after s.call (destroy.hand_of s.location) (destroy.at_of s.location) asks.Released

step_is : (t : ThreadSeen) (a : Activity) → step_at t.id t.own a ≡ step_for (ask_in t.id t.own a) (hand_for a)
step_is t (activity.Alone p) = refl
step_is t (activity.Send s) = refl
step_is t (activity.Receive s) = refl
step_is t (activity.Create s) = refl
step_is t (activity.Destroy s) = refl

-- WHAT IS TOLD

-- no acquire is told of a context, and no exchange is told to wait
acquired_holds : (q : Bool) (g : _) (w : LockWord) (o : ℕ) →
    (if q then answer.Got g else answer.Told (not_acquired w)) ≡ answer.Told (told.Holds o) → ⊥
acquired_holds true g w o e = cc
acquired_holds false g (lock_word.Owned i) o e = cc
acquired_holds false g lock_word.Free o e = cc

acquired_taken : (q : Bool) (g : _) (w : LockWord) (i d : ℕ) →
    (if q then answer.Got g else answer.Told (not_acquired w)) ≡ answer.Told (told.Taken i d) → ⊥
acquired_taken true g w i d e = cc
acquired_taken false g (lock_word.Owned o) i d e = cc
acquired_taken false g lock_word.Free i d e = cc

exchanged : (q : Bool) (x : ℕ) → steps.is_again (answer.Told (if q then told.Won else told.Lost x)) ≡ false
exchanged true x = refl
exchanged false x = refl

-- that a removal isn't made
kept_told : (q : Bool) (n : ℕ) (w : ContextWord) (x : Told) → (if q then told.Removed else not_removed n w) ≡ x →
    steps.is_again (answer.Told x) ≡ true → q ≡ false
kept_told true n w x e again =
    absurd (false≢true (ap (λ z. steps.is_again (answer.Told z)) e ∙ again))
kept_told false n w x e again = refl

-- that it holds a lock is told of the context that is to be removed, and no removal is told of a lock's owner
holds_told : (n : ℕ) (w : ContextWord) (o : ℕ) → not_removed n w ≡ told.Holds o → n ≡ o
holds_told n (context_word.Taken c u) o e = absurd cc
holds_told n (context_word.Holds u) o e = cc
holds_told n (context_word.Clean u) o e = cc
holds_told n context_word.Empty o e = cc

owned_told : (n : ℕ) (w : ContextWord) (o : ℕ) → not_removed n w ≡ told.Owned o → ⊥
owned_told n (context_word.Taken c u) o e = cc
owned_told n (context_word.Holds u) o e = cc
owned_told n (context_word.Clean u) o e = cc
owned_told n context_word.Empty o e = cc

-- it is told of a hand where the word is of one alone
taken_told : (n : ℕ) (w : ContextWord) (i d v : ℕ) → not_removed n w ≡ told.Taken i d → w ≡ context_word.Holds v → ⊥
taken_told n (context_word.Taken c u) i d v e f = cc
taken_told n (context_word.Holds u) i d v e f = cc
taken_told n (context_word.Clean u) i d v e f = cc
taken_told n context_word.Empty i d v e f = cc

module _ (tables : ThreadTables) (script : Script) (g : Programs) (m : Memory) (b : Board) (v : World) (c n size : ℕ)
    (t : ThreadSeen) (goal : Option Goal) (r : Ran) (sh : Shows script m b) (pair : IsPair g b v) (victims : HasVictims v)
    (alone : IsAlone v c) (asked : IsAsked v c (OfThread n))
    (found : context_in m.context m.slot m.hand n ≡ Some (Thread t)) (made : (b.context n).at ≡ Coming → ⊥)
    (same : size ≡ b.size) (spelled : IsSpelled script.table (ask_in t.id t.own t.activity))
    (words : (id : ThreadId) → ask_in t.id t.own t.activity ≡ asks.Remove id →
    word_of v (OfThread id.number) ≡ context_word_of (m.context id.number)) where
  abbrev Asks : Ask
  Asks = ask_in t.id t.own t.activity

  abbrev H : Hand
  H = hand_for t.activity

  abbrev X : Ask → Answer
  X a = answer_in m (step_for a H)

  -- what is found of an answer
  abbrev Waits : Step → Answer → Type 0
  Waits s x = IsWaiting v c (finding_by size goal (lock_acquired s) (told_in x) r)

  at : (b.context n).at ≡ at_in t.activity
  at = stands_at script m b sh n t found made

  own : (b.context n).own ≡ section_own t.own t.activity
  own = ap (λ (z : Context). z.own) (shown_as script m b sh n t found).context

  wants : want_at (b.context n).own (b.context n).at ≡ want_of Asks
  wants = (λ d. want_at (own d) (at d)) ∙ activity_wants t.id t.own t.activity

  -- A LOCK

  module _ (l : Lock) (is : Asks ≡ asks.Acquire l) where
    owner_is : (o : ℕ) → X (asks.Acquire l) ≡ answer.Told (told.Owned o) → owner_of b l ≡ Some o
    owner_is o e =
        subst (λ x. Answers b (asks.Acquire l) (response_of x (asks.Acquire l))) e
        (step_finds m b (asks.Acquire l) H (goods_found m (step_for (asks.Acquire l) H)) sh.seen sh.owners
        (subst (λ k. IsLockOf k l) (sym sh.size) (subst (IsSpelled script.table) is spelled)))

    acquire_waits : (x : Answer) → X (asks.Acquire l) ≡ x → steps.is_again x ≡ true → Waits (step_for (asks.Acquire l) H) x
    acquire_waits (answer.Told (told.Owned o)) e again = record {
      help = record { context = name_of size o; lock = Some l };
      waits = refl;
      held =
          subst (λ z. IsHeldAbove v c (record { context = name_of z o; lock = Some l })) (sym same)
          (lock_held_up g b v pair tables c n asked l o (wants ∙ ap want_of is) (owner_is o e));
    }
    acquire_waits (answer.Told (told.Holds o)) e again =
        absurd (acquired_holds (m.lock (lock_number l) == lock_bits lock_word.Free) _ _ o e)
    acquire_waits (answer.Told (told.Taken i d)) e again =
        absurd (acquired_taken (m.lock (lock_number l) == lock_bits lock_word.Free) _ _ i d e)
    acquire_waits (answer.Got y) e again = absurd (false≢true again)
    acquire_waits (answer.Told (told.Loaded y)) e again = absurd (false≢true again)
    acquire_waits (answer.Told told.Stored) e again = absurd (false≢true again)
    acquire_waits (answer.Told told.Won) e again = absurd (false≢true again)
    acquire_waits (answer.Told (told.Lost y)) e again = absurd (false≢true again)
    acquire_waits (answer.Told told.Released) e again = absurd (false≢true again)
    acquire_waits (answer.Told told.Placed) e again = absurd (false≢true again)
    acquire_waits (answer.Told told.Removed) e again = absurd (false≢true again)

  -- A REMOVAL

  module _ (id : ThreadId) (is : Asks ≡ asks.Remove id) where
    abbrev Word : ContextWord
    Word = context_word_of (m.context id.number)

    abbrev Clean_now : Bool
    Clean_now = m.context id.number == context_bits (context_word.Clean id.version)

    removes : RemovesAt (b.context n).at id.number
    removes = removes_at (b.context n).own (b.context n).at id.number (wants ∙ ap want_of is)

    who : removes.call.who ≡ id
    who = asked_who t.id t.own t.activity removes.call (sym at ∙ removes.at) id is

    inside : id.number < b.size
    inside =
        subst (λ (x : ThreadId). x.number < b.size) who (subst (FitsAt b.size) removes.at (pair.within.targets n)).0.number

    removable : IsRemovable v c id
    removable = subst (IsRemovable v c) who (removal_held_up g b v pair victims c n removes.call asked removes.at alone)

    -- it isn't clean, where the removal isn't made
    held_up : Clean_now ≡ false → (Word ≡ context_word.Holds id.version) ×
        IsHeldAbove v c (record { context = OfThread id.number; lock = None })
    held_up kept = elim removable [
      | inl clean ↦ absurd (false≢true (sym kept ∙ bits (sym (words id is) ∙ clean)))
      | inr h ↦ (sym (words id is) ∙ h.0, h.1)
    ]
      where
        bits : Word ≡ context_word.Clean id.version → Clean_now ≡ true
        bits e =
            let z : m.context id.number ≡ context_bits (context_word.Clean id.version) =
            sym (sh.places.spelled id.number).same ∙ ap context_bits e in
            grind (arith, nat_tests, z)

    named : name_of size id.number ≡ OfThread id.number
    named =
        ap (λ z. name_of z id.number) same
        ∙ rw (let l : nat_lt id.number b.size ≡ true = (let low = inside in grind (arith, nat_tests, low)) in l) refl

    told_is : {x : Told} → answer.Told (if Clean_now then told.Removed else not_removed id.number Word) ≡ answer.Told x →
        (if Clean_now then told.Removed else not_removed id.number Word) ≡ x
    told_is e = cc

    rest : (q : Bool) → q ≡ false → {x : Told} → (if q then told.Removed else not_removed id.number Word) ≡ x →
        not_removed id.number Word ≡ x
    rest false e f = f
    rest true e f = absurd (false≢true (sym e))

    remove_waits : (x : Answer) → X (asks.Remove id) ≡ x → steps.is_again x ≡ true → Waits (step_for (asks.Remove id) H) x
    remove_waits (answer.Told (told.Holds o)) e again =
        let kept = kept_told Clean_now id.number Word (told.Holds o) (told_is e) again in
        let one : id.number ≡ o = holds_told id.number Word o (rest Clean_now kept (told_is e)) in record {
          help = record { context = name_of size o; lock = None };
          waits = refl;
          held =
              subst (λ z. IsHeldAbove v c (record { context = z; lock = None })) (sym named ∙ ap (name_of size) one)
              (held_up kept).1;
        }
    remove_waits (answer.Told (told.Taken i d)) e again =
        absurd (let kept = kept_told Clean_now id.number Word (told.Taken i d) (told_is e) again in
        taken_told id.number Word i d id.version (rest Clean_now kept (told_is e)) (held_up kept).0)
    remove_waits (answer.Told (told.Owned o)) e again =
        absurd (let kept = kept_told Clean_now id.number Word (told.Owned o) (told_is e) again in
        owned_told id.number Word o (rest Clean_now kept (told_is e)))
    remove_waits (answer.Got y) e again = absurd (false≢true again)
    remove_waits (answer.Told (told.Loaded y)) e again = absurd (false≢true again)
    remove_waits (answer.Told told.Stored) e again = absurd (false≢true again)
    remove_waits (answer.Told told.Won) e again = absurd (false≢true again)
    remove_waits (answer.Told (told.Lost y)) e again = absurd (false≢true again)
    remove_waits (answer.Told told.Released) e again = absurd (false≢true again)
    remove_waits (answer.Told told.Placed) e again = absurd (false≢true again)
    remove_waits (answer.Told told.Removed) e again = absurd (false≢true again)

  -- ANY STEP

  by_ask : (a : Ask) → Asks ≡ a → steps.is_again (X a) ≡ true → Waits (step_for a H) (X a)
  by_ask (asks.Acquire l) e again = acquire_waits l e (X (asks.Acquire l)) refl again
  by_ask (asks.Remove id) e again = remove_waits id e (X (asks.Remove id)) refl again
  by_ask (asks.Load k) e again = absurd (false≢true again)
  by_ask (asks.LoadMail k) e again = absurd (false≢true again)
  by_ask (asks.Post k message) e again = absurd (false≢true again)
  by_ask (asks.Exchange k old new) e again =
      absurd (false≢true (sym (exchanged (m.state k == state_bits old) (m.state k)) ∙ again))
  by_ask (asks.Release l) e again = absurd (false≢true again)
  by_ask (asks.Place id program priority) e again = absurd (false≢true again)

  pub step_held_up : steps.is_again (answer_in m (step_of t)) ≡ true → Waits (step_of t) (answer_in m (step_of t))
  step_held_up =
      subst (λ s. steps.is_again (answer_in m s) ≡ true → Waits s (answer_in m s)) (sym (step_is t t.activity))
      (by_ask Asks refl)
