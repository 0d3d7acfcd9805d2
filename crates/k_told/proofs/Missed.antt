-- With one carrier no step finds a context in another's hand.
use Rattle.std.proofs.Common.{◌≡◌, ℕ, ◌<◌, ◌==◌, Bool, true, false, refl, sym, ap, ◌∙◌, subst, Option, Some, None, arith, length}
use Rattle.std.proofs.Common.{inl, inr}
use Rattle.std.specs.Prelude.{if◌then◌else◌}
use Rattle.std.proofs.lemmas.Bool.{cases_lt, false≢true}
use Rattle.std.proofs.lemmas.List.{get_or_past}
use Rattle.k_ids.specs.declared.context_word.ContextWord.{ContextWord}
use Rattle.k_ids.specs.declared.context_word.ContextWord.TheVariants as word
use Rattle.k_ids.specs.declared.lock_word.LockWord.{LockWord}
use Rattle.k_ids.specs.declared.lock_word.LockWord.TheVariants as locked
use Rattle.k_ids.specs.declared.threads.ThreadId.{ThreadId}
use Rattle.k_ids.specs.ContextWords.{context_bits, context_word_of}
use Rattle.k_ids.specs.LockWords.{lock_bits, lock_word_of}
use Rattle.k_locks.specs.declared.goods.Goods.{Goods}
use Rattle.k_locks.specs.declared.locks.Lock.{Lock}
use Rattle.k_locks.specs.declared.locks.WordName.TheVariants as name
use Rattle.k_locks.specs.declared.steps.Answer.{Answer}
use Rattle.k_locks.specs.declared.steps.Answer.TheVariants as answer
use Rattle.k_locks.specs.declared.steps.Step.{Step}
use Rattle.k_locks.specs.declared.steps.Step.TheVariants as step
use Rattle.k_locks.specs.declared.steps.Told.{Told}
use Rattle.k_locks.specs.declared.steps.Told.TheVariants as told
use Rattle.k_locks.specs.Places.{slot_of}
use Rattle.k_locks.specs.Steps.{answer_of, not_acquired, not_removed, word_of}
use Rattle.k_script.specs.Limits.{IsScript}
use Rattle.k_script.specs.Script.{Script}
use Rattle.k_threads.specs.declared.destroy.DestroyLocked.TheVariants as destroy_locked
use Rattle.k_threads.specs.DestroyTable as destroy
use Rattle.k_caller.specs.declared.ran.Ran.{Ran}
use Rattle.k_caller.specs.declared.ran.Ran.TheVariants as ran
use Rattle.k_caller.specs.Threads.{ThreadSeen}
use Rattle.k_context.specs.declared.owner.Owner.{Owner}
use Rattle.k_context.specs.declared.owner.Owner.TheVariants as owner
use Rattle.k_context.specs.Contexts.{Thread, begun, owner_of, ran_of, step_of}
use Rattle.k_switch.specs.declared.goal.Goal.{Goal}
use Rattle.k_switch.specs.declared.goal.Switched.{Switched}
use Rattle.k_carrier.specs.declared.moves.Stepped.{Stepped}
use Rattle.k_carrier.specs.declared.moves.Stepped.TheVariants as stepped
use Rattle.k_carrier.specs.Answers as answers
use Rattle.k_carrier.specs.Asked.{CarrierAsk, LookAt, PutDown, Run, Take, ask_of, asked_by, move_by}
use Rattle.k_carrier.specs.Resumed.{lock_awaited, switched_given, told_in}
use Rattle.k_carrier.specs.Rules.{is_goals}
use Rattle.k_carrier.specs.Seen.{CarrierSeen, HandSeen, new_carrier}
use Rattle.k_carrier.specs.Told.{blocked, stepped_of, told_by, told_section, told_switched, told_waiting, told_word}
use Rattle.k_world.specs.Moves.{answer_by, took}
use Rattle.k_world.specs.Steps.{step_in, told_of}
use Rattle.k_world.specs.Worlds.{Away, Guarded, Resting, Slot, World, carrier_at, slot_at, word_at}
use Rattle.k_board.specs.Boards.{Board, Context, Coming, InDestroy, Nowhere}
use Rattle.k_plays.specs.Scripts.{ranged_programs}
use Rattle.k_places.specs.Contexts.{IsShown, at_in}
use Rattle.k_places.specs.Memory.{Memory, memory_of}
use Rattle.k_places.specs.Shows.{IsInHand, Stands}
use Rattle.k_places.proofs.Raw.{word_is}
use Rattle.k_joint.proofs.Runs.{hand_is, hand_of_run}
use Rattle.k_tokens.specs.World.{OfThread}
use Rattle.k_switching.specs.Claims.{IsAsked}
use Rattle.k_moves.proofs.Names.{name_inside}
use Rattle.k_whole.specs.Next.{has_next}
use Rattle.k_whole.proofs.Missed.{is_free}
use Rattle.k_handling.specs.Handling.{IsKernel}
use Rattle.k_handling.proofs.Contexts.{on_board}
use Rattle.k_conditions.proofs.Moments.{asked_so, hand_found, next_at}
use Rattle.k_running.specs.Running.{KernelHolds}
use Rattle.k_told.proofs.Asked.{Heard, ToldWith, hand_none, told_with}
use Rattle.k_told.proofs.Removing.{remover}

-- WHAT IS TOLD, and why

pub word_missed : (n i d : ℕ) (l : ContextWord) → told_word n l ≡ stepped.Missed i d → (version : ℕ) × (l ≡ word.Taken d version)
word_missed n i d (word.Taken e version) q = let same : e ≡ d = cc in (version, ap (λ z. word.Taken z version) same)
word_missed n i d (word.Clean version) q = absurd cc
word_missed n i d (word.Holds version) q = absurd cc
word_missed n i d word.Empty q = absurd cc

switched_missed : (o : Option Switched) (i d : ℕ) → told_switched o ≡ stepped.Missed i d → ⊥
switched_missed None i d q = cc
switched_missed (Some s) i d q = by s.idle q
  where
    by : (t : Bool) → (if t then stepped.Idle else stepped.On) ≡ stepped.Missed i d → ⊥
    by true z = cc
    by false z = cc

ran_missed : (g : Option Goal) (o : Owner) (r : Ran) (i d : ℕ) → told_by g o r ≡ stepped.Missed i d → ⊥
ran_missed g o ran.On i d q = cc
ran_missed g o ran.Again i d q = cc
ran_missed g o (ran.Pushed priority) i d q = cc
ran_missed g o ran.Dead i d q = cc
ran_missed g o ran.Left i d q = by (is_goals g o) q
  where
    by : (t : Bool) → (if t then stepped.Left else stepped.On) ≡ stepped.Missed i d → ⊥
    by true z = cc
    by false z = cc
ran_missed g (owner.Thread id) (ran.Replied serial reply) i d q = cc
ran_missed g (owner.Carrier number) (ran.Replied serial reply) i d q = cc

blocked_missed : (l : Option Lock) (n i d : ℕ) → blocked l n ≡ stepped.Missed i d → ⊥
blocked_missed None n i d q = cc
blocked_missed (Some l) n i d q = cc

pub waiting_missed : (l : Option Lock) (t : Option Told) (s : Stepped) (i d : ℕ) → (s ≡ stepped.Missed i d → ⊥) →
    told_waiting l t s ≡ stepped.Missed i d → t ≡ Some (told.Taken i d)
waiting_missed l None s i d never q = absurd (never q)
waiting_missed l (Some (told.Owned n)) s i d never q = absurd (blocked_missed l n i d q)
waiting_missed l (Some (told.Holds n)) s i d never q = absurd cc
waiting_missed l (Some (told.Taken n e)) s i d never q =
    let same : n ≡ i = cc in let other : e ≡ d = cc in λ z. Some (told.Taken (same z) (other z))
waiting_missed l (Some (told.Loaded bits)) s i d never q = absurd (never q)
waiting_missed l (Some told.Stored) s i d never q = absurd (never q)
waiting_missed l (Some told.Won) s i d never q = absurd (never q)
waiting_missed l (Some (told.Lost bits)) s i d never q = absurd (never q)
waiting_missed l (Some told.Released) s i d never q = absurd (never q)
waiting_missed l (Some told.Placed) s i d never q = absurd (never q)
waiting_missed l (Some told.Removed) s i d never q = absurd (never q)

section_missed : (c : CarrierSeen) (o : Option HandSeen) (a : Answer) (i d : ℕ) →
    told_section c o a ≡ stepped.Missed i d → told_in a ≡ Some (told.Taken i d)
section_missed c None a i d q = absurd cc
section_missed c (Some h) a i d q =
    waiting_missed (lock_awaited c.awaits) (told_in a) (told_by c.goal (owner_of h.value) (ran_of h.value a)) i d
    (ran_missed c.goal (owner_of h.value) (ran_of h.value a) i d) q

-- what a section's step is told, but for goods
abbrev told_heard : answers.AnswerSeen → Option Told
told_heard (answers.Section a) = told_in a
told_heard (answers.Looked bits) = None
told_heard (answers.Took v) = None
told_heard (answers.TakeLost bits) = None
told_heard answers.Given = None

-- a removal alone is told that a context is taken, by the context's word
pub record IsTakenBy (s : Step) (found i d : ℕ) : Type 0 where
  pub id : ThreadId
  pub removes : s ≡ step.Remove id
  pub number : id.number ≡ i
  pub version : ℕ
  pub taken : context_word_of found ≡ word.Taken d version

removed_taken : (id : ThreadId) (found i d : ℕ) (t : Bool) (l : ContextWord) → context_word_of found ≡ l →
    Some (if t then told.Removed else not_removed id.number l) ≡ Some (told.Taken i d) → IsTakenBy (step.Remove id) found i d
removed_taken id found i d true l e q = absurd cc
removed_taken id found i d false word.Empty e q = absurd cc
removed_taken id found i d false (word.Clean v) e q = absurd cc
removed_taken id found i d false (word.Holds v) e q = absurd cc
removed_taken id found i d false (word.Taken c v) e q =
    let same : id.number ≡ i = cc in let other : c ≡ d = cc in
    record { id = id; removes = refl; number = same; version = v; taken = e ∙ ap (λ z. word.Taken z v) other }

acquired_taken : (g : Goods) (l : LockWord) (i d : ℕ) (t : Bool) →
    told_in (if t then answer.Got g else answer.Told (not_acquired l)) ≡ Some (told.Taken i d) → ⊥
acquired_taken g l i d true q = cc
acquired_taken g locked.Free i d false q = cc
acquired_taken g (locked.Owned n) i d false q = cc

exchange_taken : (x i d : ℕ) (t : Bool) → Some (if t then told.Won else told.Lost x) ≡ Some (told.Taken i d) → ⊥
exchange_taken x i d true q = cc
exchange_taken x i d false q = cc

pub answer_taken : (s : Step) (found : ℕ) (g : Goods) (i d : ℕ) → told_in (answer_of s found g) ≡ Some (told.Taken i d) →
    IsTakenBy s found i d
answer_taken (step.Load n) found g i d q = absurd cc
answer_taken (step.Store n value) found g i d q = absurd cc
answer_taken (step.Exchange n old new) found g i d q = absurd (exchange_taken found i d (found == old) q)
answer_taken (step.Acquire l) found g i d q =
    absurd (acquired_taken g (lock_word_of found) i d (found == lock_bits locked.Free) q)
answer_taken (step.Release l goods) found g i d q = absurd cc
answer_taken (step.Place id program priority) found g i d q = absurd cc
answer_taken (step.Remove id) found g i d q =
    removed_taken id found i d (found == context_bits (word.Clean id.version)) (context_word_of found) refl q

-- WHERE IT IS, WITH ONE CARRIER

module _ (script : Script) (limits : IsScript script) (w : World) (h : KernelHolds script w) (c : ℕ)
    (low : c < length w.carriers) (one : length w.carriers ≡ 1) where
  abbrev K : CarrierSeen
  K = carrier_at w c

  abbrev M : Memory
  M = memory_of w

  abbrev B : Board
  B = h.board

  kernel : IsKernel script w h.board h.view h.state
  kernel = record { aligned = h.aligned; helps = h.helps; whole = h.whole; serials = h.serials }

  -- who has something in hand is this carrier
  mine : (d : ℕ) (x : HandSeen) → (carrier_at w d).hand ≡ Some x → d ≡ c
  mine d x e = elim (cases_lt d (length w.carriers)) [
    | inl l ↦ omega (arith, l, low, one)
    | inr l ↦
        let no : None ≡ Some x = sym (ap (λ (k : CarrierSeen). k.hand) (get_or_past w.carriers d (new_carrier 0 0) l)) ∙ e in
        absurd cc
  ]

  -- a context that is taken is in this carrier's hand
  record IsMine (i : ℕ) : Type 0 where
    hand : HandSeen
    has : K.hand ≡ Some hand
    context : hand.context ≡ i

  in_hand : (i d version : ℕ) → context_word_of (word_at w (name.Context i)) ≡ word.Taken d version → IsMine i
  in_hand i d version e =
      by (M.hand d) refl
      (subst (Stands M.slot M.hand i) (sym (ap context_word_of (word_is w (name.Context i))) ∙ e)
      (h.aligned.shows.shows.places.stands i))
    where
      by : (o : Option HandSeen) → M.hand d ≡ o → IsInHand o i version → IsMine i
      by None q z = absurd z
      by (Some x) q z =
          let same = mine d x (sym (hand_is w d) ∙ q) in
          record { hand = x; has = sym (hand_is w c) ∙ ap M.hand (sym same) ∙ q; context = z.0 }

  -- without a hand there is none
  free : K.hand ≡ None → (i d version : ℕ) → context_word_of (word_at w (name.Context i)) ≡ word.Taken d version → ⊥
  free none i d version e =
      let m = in_hand i d version e in let no : None ≡ Some m.hand = sym none ∙ m.has in cc

  word_free : K.hand ≡ None → (n m i d : ℕ) → told_word n (context_word_of (word_at w (name.Context m))) ≡ stepped.Missed i d → ⊥
  word_free none n m i d q =
      let t = word_missed n i d (context_word_of (word_at w (name.Context m))) q in free none m d t.0 t.1

  -- NOBODY REMOVES ITSELF

  module _ (x : HandSeen) (runs : ask_of K ≡ Run x) where
    holds : K.hand ≡ Some x
    holds = hand_of_run K x runs

    -- the board has the thread where it is about to remove a context
    stands : (t : ThreadSeen) → x.value ≡ Thread t → (B.context x.context).at ≡ at_in t.activity
    stands t is = by ((B.seen x.context).word.version == t.id.version) (ap (λ (z : Context). z.at) shown.context)
      where
        shown : IsShown (B.seen x.context).word x.context t (B.context x.context)
        shown =
            on_board script w h.board h.view h.aligned.shows h.whole.pair.alike h.aligned.contexts x.context (Thread t)
            (hand_found script limits w h.board h.view h.state kernel c low x holds ∙ ap Some is)

        by : (q : Bool) → (B.context x.context).at ≡ (if q then at_in t.activity else Coming) →
            (B.context x.context).at ≡ at_in t.activity
        by true e = e
        by false e =
            absurd (false≢true (ap has_next (sym e) ∙ next_at script limits w h.board h.view h.state kernel c low x runs))

    abbrev Emptied : Board
    Emptied = record B { context = λ z. record (B.context z) { at = Nowhere } }

    removes_other : (id : ThreadId) → step_of (begun script x.value) ≡ step.Remove id → x.context ≡ id.number → ⊥
    removes_other id e same =
        let r = remover script x.value id e in
        let s = r.removing.section in
        let at : (B.context x.context).at ≡ InDestroy s.call (destroy.Locked destroy_locked.RemoveContext) =
        stands r.thread r.value ∙ ap at_in r.removing.about ∙ ap (λ (p : destroy.DestroyAt). InDestroy s.call p) r.removing.place in
        let unheld : h.view.held s.call.who.number ≡ None =
        is_free (ranged_programs script) B h.view h.whole.pair h.whole.hands (h.aligned.count ∙ one) c x.context
        (is_asked r.thread r.value) Emptied s.call at refl in
        let held : h.view.held s.call.who.number ≡ Some c =
        ap h.view.held (ap (λ (z : ThreadId). z.number) r.removing.who ∙ sym same)
        ∙ h.whole.pair.world.1.hands.thread c x.context (is_asked r.thread r.value).hand in
        let no : None ≡ Some c = sym unheld ∙ held in cc
      where
        is_asked : (t : ThreadSeen) → x.value ≡ Thread t → IsAsked h.view c (OfThread x.context)
        is_asked t is =
            subst (IsAsked h.view c) (name_inside B.size x.context (inside t is))
            (asked_so script limits w h.board h.view h.state kernel c low x runs)
          where
            inside : (t : ThreadSeen) → x.value ≡ Thread t → x.context < B.size
            inside t is =
                let found = hand_found script limits w h.board h.view h.state kernel c low x holds ∙ ap Some is in
                let sound = h.aligned.contexts x.context (Thread t) found in
                subst (λ m. x.context < m) (sym h.aligned.shows.shows.size)
                (subst (λ m. m < script.table) sound.0 sound.1.inside)

    -- its step isn't told that a context is taken
    pub never_taken : (i d : ℕ) → told_in (Heard script w c (begun script x.value)) ≡ Some (told.Taken i d) → ⊥
    never_taken i d e =
        let t = answer_taken (step_of (begun script x.value)) _ _ i d e in
        let m = in_hand t.id.number d t.version (ap (λ s. context_word_of (word_at w (word_of s))) (sym t.removes) ∙ t.taken) in
        let same : Some x ≡ Some m.hand = sym holds ∙ m.has in
        let is : x ≡ m.hand = cc in
        removes_other t.id t.removes (ap (λ (z : HandSeen). z.context) is ∙ m.context)

  -- ANY STEP

  pub never_missed : (i d : ℕ) → told_of script c w ≡ stepped.Missed i d → ⊥
  never_missed i d e = by (ask_of K) refl (sym (told_with script w c) ∙ e)
    where
      takes : (n bits : ℕ) → K.hand ≡ None → (t : Bool) (s : Slot) → stepped_of (asked_by script K (Take n bits))
          (if t then took (word_at w (name.Context n)) s else answers.TakeLost (word_at w (name.Context n))) ≡
          stepped.Missed i d → ⊥
      takes n bits none true (Resting v) z = cc
      takes n bits none true (Guarded g) z = word_free none _ n i d z
      takes n bits none true Away z = word_free none _ n i d z
      takes n bits none false s z = word_free none _ n i d z

      by : (a : CarrierAsk) → ask_of K ≡ a → ToldWith script w c a ≡ stepped.Missed i d → ⊥
      by (Run x) q z =
          let k : CarrierSeen = asked_by script K (Run x) in
          never_taken x q i d (section_missed k k.hand (Heard script w c (begun script x.value)) i d z)
      by (PutDown x) q z = switched_missed (switched_given (asked_by script K (PutDown x)).awaits) i d z
      by (LookAt n) q z = word_free (hand_none K (LookAt n) q tt) _ n i d z
      by (Take n bits) q z =
          takes n bits (hand_none K (Take n bits) q tt) (word_at w (name.Context n) == bits) (slot_at w (slot_of n)) z

  pub never_removed : (i d : ℕ) → (step_in script c w).answer ≡ answers.Section (answer.Told (told.Taken i d)) → ⊥
  unfolding step_in
  never_removed i d e = by (ask_of K) refl e
    where
      takes : (n bits : ℕ) (t : Bool) (s : Slot) →
          (if t then took (word_at w (name.Context n)) s else answers.TakeLost (word_at w (name.Context n))) ≡
          answers.Section (answer.Told (told.Taken i d)) → ⊥
      takes n bits true (Resting v) z = cc
      takes n bits true (Guarded g) z = cc
      takes n bits true Away z = cc
      takes n bits false s z = cc

      by : (a : CarrierAsk) → ask_of K ≡ a →
          answer_by w (move_by script K a) ≡ answers.Section (answer.Told (told.Taken i d)) → ⊥
      by (Run x) q z = never_taken x q i d (ap told_heard z)
      by (PutDown x) q z = cc
      by (LookAt n) q z = cc
      by (Take n bits) q z = takes n bits (word_at w (name.Context n) == bits) (slot_at w (slot_of n)) z
