-- Whom a carrier helps is a thread of the table, or a carrier that there is.
use Rattle.std.proofs.Common.{◌≡◌, ℕ, ◌+◌, ◌-◌, ◌<◌, ◌==◌, Bool, true, false, refl, sym, ap, ◌∙◌, subst, Option, Some, None, arith}
use Rattle.std.proofs.Common.{inl, inr}
use Rattle.std.specs.Prelude.{IfSome, if◌then◌else◌}
use Rattle.std.proofs.lemmas.Bool.{cases_lt}
use Rattle.k_ids.specs.declared.context_word.ContextWord.{ContextWord}
use Rattle.k_ids.specs.declared.context_word.ContextWord.TheVariants as context_word
use Rattle.k_ids.specs.declared.lock_word.LockWord.{LockWord}
use Rattle.k_ids.specs.declared.lock_word.LockWord.TheVariants as lock_word
use Rattle.k_ids.specs.declared.threads.ThreadId.{ThreadId}
use Rattle.k_ids.specs.ContextWords.{context_bits, context_word_of}
use Rattle.k_ids.specs.LockWords.{lock_bits}
use Rattle.k_ids.specs.StateWords.{state_bits}
use Rattle.k_locks.specs.Asks.{Ask, Response, response_of, step_for}
use Rattle.k_locks.specs.Asks as asks
use Rattle.k_locks.specs.Hands.{Hand}
use Rattle.k_locks.specs.Locks.{Holds}
use Rattle.k_locks.specs.Places.{lock_number}
use Rattle.k_locks.specs.Steps.{not_acquired, not_removed}
use Rattle.k_locks.specs.declared.locks.Lock.{Lock}
use Rattle.k_locks.specs.declared.locks.Lock.TheVariants as lock
use Rattle.k_locks.specs.declared.steps.Answer.{Answer}
use Rattle.k_locks.specs.declared.steps.Answer.TheVariants as answer
use Rattle.k_locks.specs.declared.steps.Told.{Told}
use Rattle.k_locks.specs.declared.steps.Told.TheVariants as told
use Rattle.k_script.specs.Script.{Script}
use Rattle.k_ipc.specs.ReceiveTable as receive
use Rattle.k_ipc.specs.SendTable as send
use Rattle.k_threads.specs.CreateTable as create
use Rattle.k_threads.specs.DestroyTable as destroy
use Rattle.k_caller.specs.declared.activity.Activity.{Activity}
use Rattle.k_caller.specs.declared.activity.Activity.TheVariants as activity
use Rattle.k_caller.specs.Threads.{ThreadSeen, step_of}
use Rattle.k_caller.specs.Waits as alone
use Rattle.k_switch.specs.declared.switch.SwitchCall.{SwitchCall}
use Rattle.k_switch.specs.declared.switch.SwitchLocked.TheVariants as locked
use Rattle.k_switch.specs.Switches.{SwitchAt}
use Rattle.k_switch.specs.Switches as switch
use Rattle.k_carrier.specs.declared.moves.Help.{Help}
use Rattle.k_carrier.specs.Resumed.{help_after, told_in}
use Rattle.k_board.specs.Words.{Programs}
use Rattle.k_board.specs.Boards.{Alone, At, Board, Coming, InCreate, InDestroy, InReceive, InSend, InSwitch, Nowhere, Resting, owner_of}
use Rattle.k_board.specs.Steps.{Answers}
use Rattle.k_good.specs.Locks.{locks_at, owner_by}
use Rattle.k_good.specs.Ranges.{FitsAt, is_threads}
use Rattle.k_places.specs.Answers.{answer_in, goods_found}
use Rattle.k_places.specs.Contexts.{at_in}
use Rattle.k_places.specs.Memory.{Memory}
use Rattle.k_places.specs.Shows.{IsLockOf, Shows}
use Rattle.k_places.proofs.Words.{step_finds}
use Rattle.k_turns.specs.Spelled.{IsSpelled, ask_in}
use Rattle.k_turns.proofs.AloneSteps.{usual as alone_usual}
use Rattle.k_turns.proofs.DestroySteps.{usual as destroy_usual}
use Rattle.k_turns.proofs.ReceiveSteps.{usual as receive_usual}
use Rattle.k_turns.proofs.SendSteps.{usual as send_usual}
use Rattle.k_tokens.specs.World.{OwnContext, World, has_switch}
use Rattle.k_paired.specs.Pairs.{IsPair}
use Rattle.k_stages.specs.Stages.{IsOwn, IsStage}
use Rattle.k_running.proofs.Again.{create_removes, hand_for, no_remove, plain_or, step_is}

-- A LOCK'S OWNER

staged : (c : SwitchCall) (p : SwitchAt) (own : OwnContext) → IsStage c p own → has_switch own.stage ≡ true
staged c switch.AcquireReady own h = ap has_switch h.1
staged c (switch.Locked (locked.LoadGoal goal)) own h = ap has_switch h.1
staged c (switch.Locked (locked.LoadStart back number)) own h = ap has_switch h.1
staged c (switch.Locked (locked.ReleaseReady back started)) own h = ap has_switch h.1
staged c (switch.Returned s) own h = absurd h
staged c (switch.Finished s) own h = ap has_switch h.0

owner_is : (b : Board) (l : Lock) → owner_by b.owner b.table b.ready l ≡ owner_of b l
owner_is b (lock.Thread n) = refl
owner_is b lock.Table = refl
owner_is b lock.Ready = refl

module _ (g : Programs) (b : Board) (v : World) (pair : IsPair g b v) where
  owned_within : (l : Lock) (o : ℕ) → owner_of b l ≡ Some o → o < b.size + v.carriers
  owned_within l o e = by (b.context o).at refl (pair.good.locks.held l o (owner_is b l ∙ e))
    where
      threads : (p : At) → (b.context o).at ≡ p → is_threads p ≡ true → o < b.size + v.carriers
      threads p at is = let h = (pair.within.threads o (ap is_threads at ∙ is)).number in omega (arith, h)

      nobody : (l : Lock) → Holds l (locks_at Nowhere) → o < b.size + v.carriers
      nobody (lock.Thread n) h = absurd cc
      nobody lock.Table h = absurd cc
      nobody lock.Ready h = absurd cc

      -- a carrier's own context that has a switch is that of one that there is
      own : (c : SwitchCall) (p : SwitchAt) → (b.context o).at ≡ InSwitch c p → o < b.size + v.carriers
      own c p at = elim (cases_lt o b.size) [
        | inl m ↦ omega (arith, m)
        | inr m ↦ elim (cases_lt (o - b.size) v.carriers) [
          | inl k ↦ omega (arith, m, k)
          | inr k ↦
              let place : b.size + (o - b.size) ≡ o = omega (arith, m) in
              let stage = subst (λ (q : At). IsOwn q (v.own (o - b.size))) (ap (λ i. (b.context i).at) place ∙ at)
              (pair.alike.stages (o - b.size)) in
              let no : false ≡ true = sym (pair.world.1.runs.beyond (o - b.size) k).0 ∙ staged c p (v.own (o - b.size)) stage in
              absurd cc
        ]
      ]

      by : (p : At) → (b.context o).at ≡ p → Holds l (locks_at (b.context o).at) → o < b.size + v.carriers
      by (Alone p) at h = threads (Alone p) at refl
      by (InSend c p) at h = threads (InSend c p) at refl
      by (InReceive c p) at h = threads (InReceive c p) at refl
      by (InCreate c p) at h = threads (InCreate c p) at refl
      by (InDestroy c p) at h = threads (InDestroy c p) at refl
      by (InSwitch c p) at h = own c p at
      by Resting at h = nobody l (subst (λ q. Holds l (locks_at q)) at h)
      by Coming at h = nobody l (subst (λ q. Holds l (locks_at q)) at h)
      by Nowhere at h = nobody l (subst (λ q. Holds l (locks_at q)) at h)

-- WHAT IS TOLD

told_owner : (x : Answer) (a : Ask) (o : ℕ) → told_in x ≡ Some (told.Owned o) → response_of x a ≡ asks.Owned o
told_owner (answer.Got goods) a o e = absurd cc
told_owner (answer.Told t) a o e = let z : t ≡ told.Owned o = cc in ap (λ y. response_of (answer.Told y) a) z

exchange_owns : (q : Bool) (x o : ℕ) → Some (if q then told.Won else told.Lost x) ≡ Some (told.Owned o) → ⊥
exchange_owns true x o e = absurd cc
exchange_owns false x o e = absurd cc

remove_owns : (q : Bool) (n : ℕ) (w : ContextWord) (o : ℕ) →
    Some (if q then told.Removed else not_removed n w) ≡ Some (told.Owned o) → ⊥
remove_owns true n w o e = absurd cc
remove_owns false n context_word.Empty o e = absurd cc
remove_owns false n (context_word.Clean v) o e = absurd cc
remove_owns false n (context_word.Holds v) o e = absurd cc
remove_owns false n (context_word.Taken c v) o e = absurd cc

remove_holds : (q : Bool) (n : ℕ) (w : ContextWord) (o : ℕ) →
    Some (if q then told.Removed else not_removed n w) ≡ Some (told.Holds o) → n ≡ o
remove_holds true n w o e = absurd cc
remove_holds false n context_word.Empty o e = cc
remove_holds false n (context_word.Clean v) o e = cc
remove_holds false n (context_word.Holds v) o e = cc
remove_holds false n (context_word.Taken c v) o e = absurd cc

exchange_holds : (q : Bool) (x o : ℕ) → Some (if q then told.Won else told.Lost x) ≡ Some (told.Holds o) → ⊥
exchange_holds true x o e = absurd cc
exchange_holds false x o e = absurd cc

acquire_holds : (q : Bool) (g : _) (w : LockWord) (o : ℕ) →
    told_in (if q then answer.Got g else answer.Told (not_acquired w)) ≡ Some (told.Holds o) → ⊥
acquire_holds true g w o e = absurd cc
acquire_holds false g (lock_word.Owned i) o e = absurd cc
acquire_holds false g lock_word.Free o e = absurd cc

module _ (script : Script) (m : Memory) (b : Board) (sh : Shows script m b) (h : Hand) where
  abbrev X : Ask → Answer
  X a = answer_in m (step_for a h)

  -- an acquire finds the owner
  pub told_owned : (a : Ask) → IsSpelled script.table a → (o : ℕ) → told_in (X a) ≡ Some (told.Owned o) →
      (l : Lock) × (a ≡ asks.Acquire l) × (owner_of b l ≡ Some o)
  told_owned (asks.Acquire l) s o e = (
    l,
    refl,
    subst (Answers b (asks.Acquire l)) (told_owner (X (asks.Acquire l)) (asks.Acquire l) o e)
        (step_finds m b (asks.Acquire l) h (goods_found m (step_for (asks.Acquire l) h)) sh.seen sh.owners
        (subst (λ k. IsLockOf k l) (sym sh.size) s)),
  )
  told_owned (asks.Load n) s o e = absurd cc
  told_owned (asks.LoadMail n) s o e = absurd cc
  told_owned (asks.Post n message) s o e = absurd cc
  told_owned (asks.Exchange n old new) s o e = absurd (exchange_owns (m.state n == state_bits old) (m.state n) o e)
  told_owned (asks.Release l) s o e = absurd cc
  told_owned (asks.Place id program priority) s o e = absurd cc
  told_owned (asks.Remove id) s o e =
      absurd (remove_owns (m.context id.number == context_bits (context_word.Clean id.version)) id.number
      (context_word_of (m.context id.number)) o e)

  -- a removal finds that the context holds a lock
  pub told_holds : (a : Ask) (o : ℕ) → told_in (X a) ≡ Some (told.Holds o) → (id : ThreadId) × (a ≡ asks.Remove id) × (id.number ≡ o)
  told_holds (asks.Remove id) o e = (
    id,
    refl,
    remove_holds (m.context id.number == context_bits (context_word.Clean id.version)) id.number
        (context_word_of (m.context id.number)) o e,
  )
  told_holds (asks.Acquire l) o e =
      absurd (acquire_holds (m.lock (lock_number l) == lock_bits lock_word.Free) _ _ o e)
  told_holds (asks.Load n) o e = absurd cc
  told_holds (asks.LoadMail n) o e = absurd cc
  told_holds (asks.Post n message) o e = absurd cc
  told_holds (asks.Exchange n old new) o e = absurd (exchange_holds (m.state n == state_bits old) (m.state n) o e)
  told_holds (asks.Release l) o e = absurd cc
  told_holds (asks.Place id program priority) o e = absurd cc

-- the one that is to be removed is a thread of the table
pub removed_within : (size : ℕ) (t : ThreadSeen) (a : Activity) → FitsAt size (at_in a) → (id : ThreadId) →
    ask_in t.id t.own a ≡ asks.Remove id → id.number < size
removed_within size t (activity.Alone p) f id e =
    absurd (no_remove (alone.ask_of t.id t.own p) (alone_usual t.id t.own p) id e)
removed_within size t (activity.Send s) f id e =
    absurd (no_remove (send.ask_of s.call s.own (send.at_of s.location)) (send_usual s.call s.own (send.at_of s.location)) id e)
removed_within size t (activity.Receive s) f id e =
    absurd (no_remove (receive.ask_of s.call s.own (receive.at_of s.location))
    (receive_usual s.call s.own (receive.at_of s.location)) id e)
removed_within size t (activity.Create s) f id e = absurd (create_removes s.call s.own (create.at_of s.location) id e)
removed_within size t (activity.Destroy s) f id e = elim (plain_or (destroy.at_of s.location)) [
  | inl plain ↦ absurd (no_remove (destroy.ask_of s.call s.own (destroy.at_of s.location))
      (destroy_usual s.call s.own (destroy.at_of s.location) plain) id e)
  | inr at ↦
      let z : asks.Remove s.call.who ≡ asks.Remove id = sym (ap (destroy.ask_of s.call s.own) at) ∙ e in
      let y : s.call.who ≡ id = cc in subst (λ (x : ThreadId). x.number < size) y f.0.number
]

-- WHOM IT HELPS THEN

abbrev pub IsWithin : ℕ → Option Help → Type 0
IsWithin size p = IfSome p (λ h. h.context < size)

help_within : (size : ℕ) (p : Option Help) (l : Option Lock) (t : Option Told) → IsWithin size p →
    ((o : ℕ) → t ≡ Some (told.Owned o) → o < size) → ((o : ℕ) → t ≡ Some (told.Holds o) → o < size) →
    IsWithin size (help_after p l t)
help_within size p l (Some (told.Owned o)) h f k = f o refl
help_within size p l (Some (told.Holds o)) h f k = k o refl
help_within size p l None h f k = h
help_within size p l (Some (told.Loaded bits)) h f k = h
help_within size p l (Some told.Stored) h f k = h
help_within size p l (Some told.Won) h f k = h
help_within size p l (Some (told.Lost bits)) h f k = h
help_within size p l (Some told.Released) h f k = h
help_within size p l (Some told.Placed) h f k = h
help_within size p l (Some told.Removed) h f k = h
help_within size p l (Some (told.Taken n c)) h f k = h

pub helps_on : (script : Script) (g : Programs) (m : Memory) (b : Board) (v : World) (n : ℕ) (t : ThreadSeen) →
    Shows script m b → IsPair g b v → (b.context n).at ≡ at_in t.activity → IsSpelled script.table (ask_in t.id t.own t.activity) →
    (p : Option Help) (l : Option Lock) → IsWithin (b.size + v.carriers) p →
    IsWithin (b.size + v.carriers) (help_after p l (told_in (answer_in m (step_of t))))
helps_on script g m b v n t sh pair at spelled p l h =
    subst (λ s. IsWithin (b.size + v.carriers) (help_after p l (told_in (answer_in m s)))) (sym (step_is m t t.activity))
    (help_within (b.size + v.carriers) p l _ h (λ o e. (let k = told_owned script m b sh hand ask spelled o e in
    owned_within g b v pair k.0 o k.2)) (λ o e. (let k = told_holds script m b sh hand ask o e in
    let low = removed_within b.size t t.activity (subst (FitsAt b.size) at (pair.within.targets n)) k.0 k.1 in
    let same = k.2 in omega (arith, low, same))))
  where
    ask : Ask
    ask = ask_in t.id t.own t.activity

    hand : Hand
    hand = hand_for m t t.activity
