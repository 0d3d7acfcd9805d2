-- The run of a destroy visits every other number, frees who waits for the victim, and unlinks the victim's entry.
use Rattle.std.proofs.Common.{◌≡◌, ◌≢◌, ℕ, zero, suc, ◌+◌, ◌<◌, ◌≤◌, true, List, [], ◌∷◌, ◌++◌, refl, sym, ap, ◌∙◌, subst, arith, Some, None, inl, inr}
use Rattle.std.proofs.lemmas.Bool.{false≢true, eqb-true, eq-eqb, ne_eqb, cases_Bool, cases_eq, and_parts, lt-ltb, le-ltb}
use Rattle.std.proofs.lemmas.List.{append-nil}
use Rattle.k_ids.specs.declared.threads.ThreadId.{ThreadId}
use Rattle.k_ids.specs.declared.threads.Status.TheVariants as status
use Rattle.k_ids.specs.declared.calls.Act.TheVariants as act
use Rattle.k_ids.specs.declared.calls.Outcome.TheVariants as outcome
use Rattle.k_ids.specs.declared.calls.Reply.TheVariants as reply
use Rattle.k_ids.specs.declared.histories.Entry.{Entry}
use Rattle.k_ids.specs.declared.histories.Event.{Event}
use Rattle.k_ids.specs.declared.histories.ReplyLine.{ReplyLine}
use Rattle.k_ids.specs.declared.state_word.State.{State}
use Rattle.k_ids.specs.declared.state_word.State.TheVariants as state
use Rattle.k_ids.specs.declared.state_word.StateWord.{StateWord}
use Rattle.k_ids.specs.LockWords.{lock_bits}
use Rattle.k_ids.specs.StateWords.{state_bits}
use Rattle.k_ids.proofs.StateSpelled.{state-read, state-whole}
use Rattle.k_senders.specs.Queue.{Queue}
use Rattle.k_ready.specs.Lists.{Ready, list_of}
use Rattle.k_locks.specs.Numbers.{ThreadNumbers}
use Rattle.k_locks.specs.declared.goods.Goods.TheVariants as goods
use Rattle.k_locks.specs.declared.locks.Lock.TheVariants as lock
use Rattle.k_locks.specs.declared.locks.WordName.TheVariants as word
use Rattle.k_locks.specs.declared.steps.Step.TheVariants as step
use Rattle.k_locks.specs.declared.steps.Answer.TheVariants as answer
use Rattle.k_locks.specs.declared.steps.Told.TheVariants as told_by
use Rattle.k_locks.specs.declared.steps.Went.{Went}
use Rattle.k_locks.specs.declared.steps.Went.TheVariants as went
use Rattle.k_locks.specs.Shown.{shows}
use Rattle.k_threads.specs.declared.destroy.DestroyCall.{DestroyCall}
use Rattle.k_threads.specs.Goods.{unlinked}
use Rattle.k_locks.specs.Hands.{no_lists, no_queue}
use Rattle.k_locks.specs.Steps.{one_more}
use Rattle.k_threads.specs.Words.{freed_word, is_receiving_from, thread_at}
use Rattle.k_threads.specs.declared.destroy.DestroyLocked.{DestroyLocked}
use Rattle.k_threads.specs.declared.destroy.DestroyLocked.TheVariants.{AcquireVisitedLock, Release}
use Rattle.k_threads.specs.declared.destroy.DestroyVisit.TheVariants.{LoadVisited, FreeVisited, AcquireReadyForVisited, ReleaseVisitedLock}
use Rattle.k_threads.specs.declared.destroy.DestroyPushing.TheVariants.{PushVisited}
use Rattle.k_threads.specs.declared.destroy.DestroyRelease.TheVariants as release
use Rattle.k_threads.specs.declared.destroy.DestroySection.{DestroySection}
use Rattle.k_threads.specs.DestroyTable.{Locked, Visit, Pushing, visit_from, visit_number}
use Rattle.k_model.specs.State.{KernelState, is_dead, same_id}
use Rattle.k_model.specs.Step.{acted}
use Rattle.k_model.specs.History.{IsReplay}
use Rattle.k_model.proofs.Maps.{upd_same, upd_other, upd_cases}
use Rattle.k_shown.specs.Memory.{Memory, with_word, with_queue}
use Rattle.k_alone.specs.Alone.{CanStep, Run, current}
use Rattle.k_alone.specs.DestroyAlone.{destroy_kind}
use Rattle.k_shown.proofs.Kept.{pushed}
use Rattle.k_alone.proofs.Killing.{Half, receiving_waits, may_free, fewer, freed_half, freed_state, freed_sound, off_nowhere, pushed_half}
use Rattle.k_alone.proofs.Killed.{half_queue}
use Rattle.k_alone.proofs.FreeRuns.{Frees, at, call_state, gone_of, hand_with, then_rest}
use Rattle.k_alone.proofs.Gone.{at_level, freed_gone, freed_stays, ids_of, lists_off, lists_on}
use Rattle.k_alone.proofs.Made.{replay_on}
use Rattle.k_alone.proofs.Runs.{Goes, arrived, can, loads, on, one, then, won, writes}
use Rattle.k_shown.proofs.Statuses.{any_waits, same_self}

-- whether a state is that of one who waits for the thread
receives_from : (who : ThreadId) (s : State) → is_receiving_from who s ≡ true → shows s ≡ status.Receiving (Some who)
receives_from who state.Dead e = absurd (false≢true e)
receives_from who (state.Run r) e = absurd (false≢true e)
receives_from who (state.Sending to joined) e = absurd (false≢true e)
receives_from who (state.Receiving None) e = absurd (false≢true e)
receives_from who (state.Receiving (Some id)) e =
    let parts = and_parts _ _ e in
    λ d. status.Receiving (Some (record { number = eqb-true id.number who.number parts.0 d; version = eqb-true id.version who.version parts.1 d }))
receives_from who state.Picking e = absurd (false≢true e)
receives_from who state.Ended e = absurd (false≢true e)

some_same : (a b : ThreadId) → status.Receiving (Some a) ≡ status.Receiving (Some b) → a ≡ b
some_same a b e = cc

receives_not : (who : ThreadId) (s : State) → shows s ≡ status.Receiving (Some who) → is_receiving_from who s ≡ true
receives_not who state.Dead e = absurd cc
receives_not who (state.Run r) e = absurd cc
receives_not who (state.Sending to joined) e = absurd cc
receives_not who (state.Receiving None) e = absurd (any_waits who e)
receives_not who (state.Receiving (Some id)) e = subst (λ (x : ThreadId). same_id id x ≡ true) (some_same id who e) (same_self id)
receives_not who state.Picking e = absurd cc
receives_not who state.Ended e = absurd cc

-- How far the queues have been visited.
pub record Visited (c : DestroyCall) (m : Memory) (x : ℕ) (memory : Memory) : Type 0 where
  pub done : (n : ℕ) → n < x → n ≢ c.who.number → memory.queue n ≡ unlinked c.who (m.queue n)
  pub todo : (n : ℕ) → x ≤ n → n ≢ c.who.number → memory.queue n ≡ m.queue n
  pub victim : (memory.queue c.who.number).entries ≡ []

module _ (c : DestroyCall) (own : StateWord) (k : KernelState) (m : Memory) (inside : c.who.number < c.count) where
  abbrev pub AllVisited : Memory → Queue → Type 0
  AllVisited memory queue = Visited c m c.count memory

  abbrev pub HalfAt : ℕ → Memory → KernelState → Type 0
  HalfAt x m' k' = Half m (call_state c k) c.who c.caller ⊥ (λ t. ⊥) (λ t. x ≤ t) m' k'

  abbrev pub FreesTo : Run DestroySection → KernelState → ThreadNumbers → Type 0
  FreesTo a k' numbers = Frees c own k m ⊥ (λ t. ⊥) (λ t. c.count ≤ t) AllVisited a k' (Locked (Release release.Killed)) numbers

  -- on, with nobody freed
  then_on : (a b : Run DestroySection) (k' : KernelState) (numbers : ThreadNumbers) → Goes (destroy_kind (current k c.caller)) a b → b.entries ≡ a.entries → b.memory.context ≡ a.memory.context → b.memory.numbers ≡ a.memory.numbers → b.memory.word ≡ a.memory.word → b.memory.ready ≡ a.memory.ready → FreesTo b k' numbers → FreesTo a k' numbers
  then_on a b k' numbers goes es ctx ns words ready f = record {
    memory = f.memory;
    state = f.state;
    queue = f.queue;
    ready = f.ready;
    went = f.went;
    done = f.done;
    freed = f.freed;
    lines = f.lines;
    goes = then (destroy_kind (current k c.caller)) a b _ goes (subst (λ (x : List Entry). Goes (destroy_kind (current k c.caller)) b (at c own f.memory (Locked (Release release.Killed)) (hand_with numbers f.queue f.ready) x f.went f.done)) (ap (λ (x : List Entry). x ++ f.freed) es) f.goes);
    legal = f.legal;
    frees = f.frees;
    replies = f.replies;
    half = f.half;
    contexts = f.contexts ∙ ctx;
    kept = f.kept ∙ ns;
    held = f.held;
    stays = λ t r. f.stays t (ap (λ (g : ℕ → StateWord). shows (g t).state) words ∙ r) ∙ ap (λ (g : ℕ → StateWord). g t) words;
    woken = f.woken;
    lists = λ p. f.lists p ∙ ap (λ (r : Ready). list_of r.lists p ++ at_level m p (ids_of f.lines)) ready;
  }

  -- A number has been visited, and its lock is released.
  released : (x : ℕ) → x ≢ c.who.number → (mX : Memory) (kX : KernelState) (numbers : ThreadNumbers) (rd : Ready) (before : List Entry) (w : Went) (d : ℕ) → HalfAt (x + 1) mX kX → Visited c m x mX → ((m' : Memory) (k' : KernelState) (q : Queue) (rd : Ready) (before : List Entry) (w : Went) (d : ℕ) → HalfAt (x + 1) m' k' → Visited c m (x + 1) m' → FreesTo (at c own m' (Locked (visit_from c (x + 1))) (hand_with numbers q rd) before w d) k' numbers) → FreesTo (at c own mX (Visit (ReleaseVisitedLock x)) (hand_with numbers (mX.queue x) rd) before w d) kX numbers
  released x ne mX kX numbers rd before w d h v rest =
      let t = destroy_kind (current k c.caller) in
      let q = unlinked c.who (mX.queue x) in
      let m1 = with_queue mX x q in
      let r0 = at c own mX (Visit (ReleaseVisitedLock x)) (hand_with numbers (mX.queue x) rd) before w d in
      let r1 = at c own m1 (Locked (visit_from c (x + 1))) (hand_with numbers no_queue rd) before went.On (one_more d) in
      let s01 = one t r0 (step.Release (lock.Thread x) (goods.Senders q)) (answer.Told told_by.Released) m1 r1.section None before went.On refl refl refl refl refl (append-nil before) refl in
      let h1 = half_queue m (call_state c k) c.who c.caller ⊥ (λ t. ⊥) (λ t. x + 1 ≤ t) mX kX h x q refl in
      let v1 : Visited c m (x + 1) m1 = record {
        done = λ n l other. upd_cases (λ (y : Queue). y ≡ unlinked c.who (m.queue n)) mX.queue x q n
            (λ e. ap (unlinked c.who) (v.todo x (omega arith) ne ∙ ap m.queue (sym e)))
            (λ apart. v.done n (omega (arith, l, apart)) other);
        todo = λ n l other. upd_other mX.queue x q n (λ e. omega (arith, l, e)) ∙ v.todo n (omega (arith, l)) other;
        victim = ap (λ (y : Queue). y.entries) (upd_other mX.queue x q c.who.number (λ e. ne (sym e))) ∙ v.victim;
      } in
      then_on r0 r1 kX numbers (on t r0 r1 r1 (record { ask = (refl, tt); tell = (refl, tt) }) s01 (arrived t r1)) refl refl refl refl refl (rest m1 kX no_queue rd before went.On (one_more d) h1 v1)

  -- One number is visited.
  visit : (x : ℕ) → x < c.count → x ≢ c.who.number → (m' : Memory) (k' : KernelState) (numbers : ThreadNumbers) (q : Queue) (rd : Ready) (before : List Entry) (w0 : Went) (d : ℕ) → HalfAt x m' k' → Visited c m x m' → ((m' : Memory) (k' : KernelState) (q : Queue) (rd : Ready) (before : List Entry) (w : Went) (d : ℕ) → HalfAt (x + 1) m' k' → Visited c m (x + 1) m' → FreesTo (at c own m' (Locked (visit_from c (x + 1))) (hand_with numbers q rd) before w d) k' numbers) → FreesTo (at c own m' (Locked (AcquireVisitedLock x)) (hand_with numbers q rd) before w0 d) k' numbers
  unfolding lock_bits acted
  visit x small ne m' k' numbers q rd before w0 d h v rest =
      let t = destroy_kind (current k c.caller) in
      let w = m'.word x in
      let kc = call_state c k in
      let qx = m'.queue x in
      let hd = hand_with numbers qx rd in
      let d1 = one_more d in
      let d2 = one_more d1 in
      let d3 = one_more d2 in
      let d4 = one_more d3 in
      let d5 = one_more d4 in
      let r0 = at c own m' (Locked (AcquireVisitedLock x)) (hand_with numbers q rd) before w0 d in
      let r1 = at c own m' (Visit (LoadVisited x)) hd before went.On d1 in
      let s01 = one t r0 (step.Acquire (lock.Thread x)) (answer.Got (goods.Senders qx)) m' r1.section None before went.On refl refl refl refl refl (append-nil before) refl in
      let plain : CanStep t r1 = record { ask = (refl, tt); tell = (refl, state-whole w (h.words x)) } in
      elim (cases_Bool (is_receiving_from c.who w.state)) [
        | inr not_it ↦
            let r2 = at c own m' (Visit (ReleaseVisitedLock x)) hd before went.On d2 in
            let s12 = one t r1 (step.Load (word.State x)) (answer.Told (told_by.Loaded (state_bits w))) m' r2.section None before went.On refl refl (loads m' x (h.words x)) (rw (state-read w (h.words x), not_it) refl) refl (append-nil before) refl in
            let h1 : HalfAt (x + 1) m' k' = fewer m kc c.who c.caller ⊥ (λ t. ⊥) (λ t. x ≤ t) m' k' h (λ t. ⊥) (λ t. x + 1 ≤ t) (λ _ _ _ y. y)
            (λ n _ e l. elim (cases_eq n x) [ inl same ↦ absurd (false≢true (sym not_it ∙ receives_not c.who w.state (ap (λ (y : ℕ). shows (m'.word y).state) (sym same) ∙ e))) | inr apart ↦ omega (arith, l, apart) ]) in
            then_on r0 r2 k' numbers (on t r0 r1 r2 (record { ask = (refl, tt); tell = (refl, tt) }) s01 (on t r1 r2 r2 plain s12 (arrived t r2))) refl refl refl refl refl
            (released x ne m' k' numbers rd before went.On d2 h1 v rest)
        | inl it ↦
            let wt = receiving_waits c.who w (receives_from c.who w.state it) in
            let u = freed_word w in
            let m1 = with_word m' x u in
            let k1 = freed_state m kc c.who c.caller ⊥ (λ t. ⊥) (λ t. x ≤ t) m' k' h x wt ne in
            let g = gone_of (thread_at x w) (current k c.caller) in
            let line : ReplyLine = record { id = thread_at x w; serial = (kc.place x).serial; reply = reply.Gone } in
            let fh = freed_half m kc c.who c.caller ⊥ (λ t. ⊥) (λ t. x ≤ t) m' k' h x wt ne in
            let h1 : HalfAt (x + 1) m1 k1 =
            fewer m kc c.who c.caller ⊥ (λ t. ⊥ × (t ≢ x)) (λ t. (x ≤ t) × (t ≢ x)) m1 k1 fh (λ t. ⊥) (λ t. x + 1 ≤ t) (λ _ _ _ y. y.0) (λ n _ _ y. let l = y.0 in let apart = y.1 in omega (arith, l, apart)) in
            let sound = freed_sound m kc c.who c.caller ⊥ (λ t. ⊥) (λ t. x ≤ t) m' k' h x wt ne in
            let next = before ++ g ∷ [] in
            let r2 = at c own m' (Visit (FreeVisited x w)) hd before went.On d2 in
            let s12 = one t r1 (step.Load (word.State x)) (answer.Told (told_by.Loaded (state_bits w))) m' r2.section None before went.On refl refl (loads m' x (h.words x)) (rw (state-read w (h.words x), it) refl) refl (append-nil before) refl in
            let ex = step.Exchange (word.State x) (state_bits w) (state_bits u) in
            let event : Event = record { who = thread_at x w; serial = (kc.place x).serial; act = act.Gone } in
            let may = may_free m kc c.who c.caller ⊥ (λ t. ⊥) (λ t. x ≤ t) m' k' h x wt in
            let legal : (xs : List Entry) (new : KernelState) → IsReplay k1 xs new → IsReplay k' (g ∷ xs) new = λ xs new r. replay_on k' k1 new event outcome.Freed xs may refl r in
            let stays = freed_stays m kc c.who c.caller ⊥ (λ t. ⊥) (λ t. x ≤ t) m' k' h x wt ne in
            let gone = freed_gone m kc c.who c.caller ⊥ (λ t. ⊥) (λ t. x ≤ t) m' k' h x wt ne (kc.place x).serial in
            let frees : CanStep t r2 = can t r2 (answer.Told told_by.Won) (refl, tt) (won m' x w u refl) (refl, tt) in
            elim (cases_Bool w.on) [
              | inl was ↦
                  let r3 = at c own m1 (Visit (ReleaseVisitedLock x)) hd next went.On d3 in
                  let s23 = one t r2 ex (answer.Told told_by.Won) m1 r3.section (Some g) next went.On refl (won m' x w u refl) (writes m' x w u refl sound) (rw was refl) refl refl refl in
                  let v1 : Visited c m x m1 = record { done = v.done; todo = v.todo; victim = v.victim } in
                  then_rest c own k m ⊥ (λ t. x ≤ t) x m' k' r0 r3 k1 numbers (Locked (Release release.Killed)) (λ t. ⊥) (λ t. c.count ≤ t) AllVisited g line (on t r0 r1 r3 (record { ask = (refl, tt); tell = (refl, tt) }) s01 (on t r1 r2 r3 plain s12 (on t r2 r3 r3 frees s23 (arrived t r3)))) refl refl refl (record { gone = refl; freed = refl }) legal refl stays gone (lists_on m kc c.who c.caller ⊥ (λ t. ⊥) (λ t. x ≤ t) m' k' h x wt ne was)
                  (released x ne m1 k1 numbers rd next went.On d3 h1 v1 rest)
              | inr was ↦
                  let m2 = pushed m1 (thread_at x w) w.priority in
                  let is : m1.word x ≡ u = upd_same m'.word x u in
                  let free = off_nowhere m kc c.who c.caller ⊥ (λ t. ⊥) (λ t. x ≤ t) m' k' h x was ne in
                  let h2 : HalfAt (x + 1) m2 k1 =
                  subst (λ (p : ℕ). HalfAt (x + 1) (pushed m1 (thread_at x w) p) k1) (ap (λ (y : StateWord). y.priority) is)
                  (pushed_half m kc c.who c.caller ⊥ (λ t. ⊥) (λ t. x + 1 ≤ t) m1 k1 h1 (thread_at x w) (ap (λ (y : StateWord). y.version) is) (ap (λ (y : StateWord). is_dead (shows y.state)) is) (ap (λ (y : StateWord). y.on) is) free) in
                  let r3 = at c own m1 (Visit (AcquireReadyForVisited x w)) hd next went.On d3 in
                  let r4 = at c own m1 (Pushing (PushVisited x w)) (hand_with numbers qx m'.ready) next went.On d4 in
                  let r5 = at c own m2 (Visit (ReleaseVisitedLock x)) (hand_with numbers qx no_lists) next (went.Pushed w.priority) d5 in
                  let s23 = one t r2 ex (answer.Told told_by.Won) m1 r3.section (Some g) next went.On refl (won m' x w u refl) (writes m' x w u refl sound) (rw was refl) refl refl refl in
                  let s34 = one t r3 (step.Acquire lock.Ready) (answer.Got (goods.Ready m'.ready)) m1 r4.section None next went.On refl refl refl refl refl (append-nil next) refl in
                  let s45 = one t r4 (step.Release lock.Ready (goods.Ready m2.ready)) (answer.Told told_by.Released) m2 r5.section None next (went.Pushed w.priority) refl refl refl refl refl (append-nil next) refl in
                  let v2 : Visited c m x m2 = record { done = v.done; todo = v.todo; victim = v.victim } in
                  then_rest c own k m ⊥ (λ t. x ≤ t) x m' k' r0 r5 k1 numbers (Locked (Release release.Killed)) (λ t. ⊥) (λ t. c.count ≤ t) AllVisited g line (on t r0 r1 r5 (record { ask = (refl, tt); tell = (refl, tt) }) s01 (on t r1 r2 r5 plain s12 (on t r2 r3 r5 frees s23 (on t r3 r4 r5 (record { ask = (refl, tt); tell = (refl, tt) }) s34 (on t r4 r5 r5 (record { ask = (refl, free); tell = (refl, tt) }) s45 (arrived t r5)))))) refl refl refl (record { gone = refl; freed = refl }) legal refl stays (record { reply = gone.reply; word = gone.word; other = gone.other; apart = gone.apart }) (lists_off m kc c.who c.caller ⊥ (λ t. ⊥) (λ t. x ≤ t) m' k' h x wt ne was)
                  (released x ne m2 k1 numbers no_lists next (went.Pushed w.priority) d5 h2 v2 rest)
            ]
      ]

  -- where the next visit is
  at_number : (x : ℕ) → x ≢ c.who.number → visit_from c x ≡ visit_number c x
  at_number x ne = rw (ne_eqb x c.who.number ne) refl

  at_next : (x : ℕ) → x < c.count → x ≢ c.who.number → visit_from c x ≡ AcquireVisitedLock x
  at_next x l ne = at_number x ne ∙ rw (lt-ltb x c.count l) refl

  at_end : (x : ℕ) → c.count ≤ x → visit_from c x ≡ Release release.Killed
  at_end x l = let ne : x ≢ c.who.number = omega (arith, l, inside) in at_number x ne ∙ rw (le-ltb x c.count l) refl

  at_victim : (x : ℕ) → x ≡ c.who.number → visit_from c x ≡ visit_from c (x + 1)
  at_victim x e =
      let ne : x + 1 ≢ c.who.number = omega (arith, e) in
      ap (visit_number c) (rw (eq-eqb x c.who.number e) refl) ∙ sym (at_number (x + 1) ne)

  -- .. of each number from one on
  pub visits : (j x : ℕ) → x + j ≡ c.count → (m' : Memory) (k' : KernelState) (numbers : ThreadNumbers) (q : Queue) (rd : Ready) (before : List Entry) (w0 : Went) (d : ℕ) → HalfAt x m' k' → Visited c m x m' → FreesTo (at c own m' (Locked (visit_from c x)) (hand_with numbers q rd) before w0 d) k' numbers
  visits zero x e m' k' numbers q rd before w0 d h v =
      let t = destroy_kind (current k c.caller) in
      let l : c.count ≤ x = omega (arith, e) in
      let back : x ≤ c.count = omega (arith, e) in
      let a = at c own m' (Locked (Release release.Killed)) (hand_with numbers q rd) before w0 d in
      let here : FreesTo a k' numbers = record {
        memory = m';
        state = k';
        queue = q;
        ready = rd;
        went = w0;
        done = d;
        freed = [];
        lines = [];
        goes = subst (λ (y : List Entry). Goes t a (at c own m' (Locked (Release release.Killed)) (hand_with numbers q rd) y w0 d)) (sym (append-nil before)) (arrived t a);
        legal = refl;
        frees = tt;
        replies = sym (append-nil k'.replies);
        half = fewer m (call_state c k) c.who c.caller ⊥ (λ t. ⊥) (λ t. x ≤ t) m' k' h (λ t. ⊥) (λ t. c.count ≤ t) (λ _ _ _ y. y) (λ n _ _ y. omega (arith, l, y));
        contexts = refl;
        kept = refl;
        stays = λ t r. refl;
        woken = tt;
        lists = λ p. sym (append-nil (list_of m'.ready.lists p));
        held = record { done = λ n y other. v.done n (omega (arith, l, y)) other; todo = λ n y other. v.todo n (omega (arith, back, y)) other; victim = v.victim };
      } in
      subst (λ (z : DestroyLocked). FreesTo (at c own m' (Locked z) (hand_with numbers q rd) before w0 d) k' numbers) (sym (at_end x l)) here
  visits (suc j) x e m' k' numbers q rd before w0 d h v =
      let small : x < c.count = omega (arith, e) in
      let onward : (x + 1) + j ≡ c.count = omega (arith, e) in
      elim (cases_eq x c.who.number) [
        | inl same ↦
            let h1 : HalfAt (x + 1) m' k' = fewer m (call_state c k) c.who c.caller ⊥ (λ t. ⊥) (λ t. x ≤ t) m' k' h (λ t. ⊥) (λ t. x + 1 ≤ t) (λ _ _ _ y. y) (λ n other _ y. omega (arith, same, other, y)) in
            let v1 : Visited c m (x + 1) m' = record { done = λ n y other. v.done n (omega (arith, same, y, other)) other; todo = λ n y other. v.todo n (omega (arith, y)) other; victim = v.victim } in
            subst (λ (z : DestroyLocked). FreesTo (at c own m' (Locked z) (hand_with numbers q rd) before w0 d) k' numbers) (sym (at_victim x same)) (visits j (x + 1) onward m' k' numbers q rd before w0 d h1 v1)
        | inr ne ↦
            subst (λ (z : DestroyLocked). FreesTo (at c own m' (Locked z) (hand_with numbers q rd) before w0 d) k' numbers) (sym (at_next x small ne))
            (visit x small ne m' k' numbers q rd before w0 d h v (λ m2 k2 q2 rd2 before2 w2 e2 h2 v2. visits j (x + 1) onward m2 k2 numbers q2 rd2 before2 w2 e2 h2 v2))
      ]
