-- The run of a destroy frees those who wait to send to the victim.
use Rattle.std.proofs.Common.{◌≡◌, ◌≢◌, ℕ, ◌+◌, ◌≤◌, Bool, true, false, ◌||◌, eqb, List, [], ◌∷◌, ◌++◌, refl, sym, ap, ◌∙◌, subst, Some, None, inl, inr}
use Rattle.std.proofs.lemmas.Bool.{false≢true, eq-eqb, ne_eqb, cases_Bool}
use Rattle.std.proofs.lemmas.List.{append-nil, append_assoc}
use Rattle.std.specs.List.{AllByRecursion}
use Rattle.k_ids.specs.declared.threads.ThreadId.{ThreadId}
use Rattle.k_ids.specs.declared.threads.Status.TheVariants as status
use Rattle.k_ids.specs.declared.calls.Act.TheVariants as act
use Rattle.k_ids.specs.declared.calls.Outcome.TheVariants as outcome
use Rattle.k_ids.specs.declared.calls.Reply.TheVariants as reply
use Rattle.k_ids.specs.declared.histories.Entry.{Entry}
use Rattle.k_ids.specs.declared.histories.Event.{Event}
use Rattle.k_ids.specs.declared.histories.ReplyLine.{ReplyLine}
use Rattle.k_ids.specs.declared.state_word.StateWord.{StateWord}
use Rattle.k_ids.specs.LockWords.{lock_bits}
use Rattle.k_ids.specs.StateWords.{state_bits}
use Rattle.k_ids.proofs.StateSpelled.{state-read, state-whole}
use Rattle.k_senders.specs.declared.entries.SenderEntry.{SenderEntry}
use Rattle.k_senders.specs.Entries.{number_of}
use Rattle.k_senders.specs.Queue.{Queue, IsOnceEach}
use Rattle.k_senders.specs.Queue.{stands as waits}
use Rattle.k_ready.specs.Lists.{Ready, list_of}
use Rattle.k_locks.specs.Numbers.{ThreadNumbers}
use Rattle.k_locks.specs.declared.goods.Goods.TheVariants as goods
use Rattle.k_locks.specs.declared.locks.Lock.TheVariants as lock
use Rattle.k_locks.specs.declared.locks.WordName.TheVariants as word
use Rattle.k_locks.specs.declared.steps.Step.TheVariants as step
use Rattle.k_locks.specs.declared.steps.Answer.TheVariants as answer
use Rattle.k_locks.specs.declared.steps.Told.TheVariants as told_by
use Rattle.k_locks.specs.declared.steps.Went.{Went}
use Rattle.k_locks.specs.declared.steps.Went.TheVariants as went
use Rattle.k_locks.specs.Shown.{shows}
use Rattle.k_threads.specs.declared.destroy.DestroyCall.{DestroyCall}
use Rattle.k_locks.specs.Hands.{Hand, no_lists}
use Rattle.k_threads.specs.Words.{freed_word, thread_at}
use Rattle.k_threads.specs.declared.destroy.DestroyVictim.TheVariants.{LoadSender, FreeSender, AcquireReadyForSender, ReleaseVictimLock}
use Rattle.k_threads.specs.declared.destroy.DestroyPushing.TheVariants.{PushSender}
use Rattle.k_threads.specs.declared.destroy.DestroySection.{DestroySection}
use Rattle.k_threads.specs.DestroyTable.{DestroyAt, Victim, Pushing, free_first, freed, location_with}
use Rattle.k_model.specs.State.{KernelState, is_dead}
use Rattle.k_model.specs.Step.{acted, called}
use Rattle.k_model.specs.History.{IsReplay}
use Rattle.k_model.proofs.Maps.{upd_same, upd_other}
use Rattle.k_lists.proofs.All.{all_weaker}
use Rattle.k_shown.specs.Memory.{Memory, with_word}
use Rattle.k_locks.specs.Steps.{one_more}
use Rattle.k_alone.specs.Alone.{CanStep, Run, IsFreed, current, entry_at}
use Rattle.k_alone.specs.DestroyAlone.{destroy_kind}
use Rattle.k_shown.proofs.Kept.{pushed}
use Rattle.k_alone.proofs.Killing.{Half, sending_waits, may_free, fewer, freed_half, freed_state, freed_sound, off_nowhere, pushed_half}
use Rattle.k_alone.proofs.Gone.{IsGone, at_level, freed_gone, freed_stays, ids_of, level_append, lists_off, lists_on}
use Rattle.k_alone.proofs.Made.{replay_on}
use Rattle.k_alone.proofs.Runs.{Goes, arrived, can, loads, on, one, then, won, writes}
use Rattle.k_shown.proofs.States.{alive_version}

-- a destroy at a location, with what it has in hand, after so many steps
abbrev pub at : DestroyCall → StateWord → Memory → DestroyAt → Hand → List Entry → Went → ℕ → Run DestroySection
at c own m p h es w d = record { memory = m; section = record { call = c; own = own; location = location_with h p; done = d }; entries = es; went = w }

abbrev pub hand_with : ThreadNumbers → Queue → Ready → Hand
hand_with ns q r = record { numbers = ns; queue = q; lists = r }

-- the entry of a thread that is freed
abbrev pub gone_of : ThreadId → (ℕ → ℕ) → Entry
gone_of id serials = entry_at serials (freed id)

-- the state of the specification in which the caller has taken its serial
abbrev pub call_state : DestroyCall → KernelState → KernelState
call_state c k = called k c.caller ((k.place c.caller.number).serial + 1)

-- Some threads are freed on the way to a location.
pub record Frees (c : DestroyCall) (own : StateWord) (k : KernelState) (m : Memory) (V : Type 0) (S R : ℕ → Type 0) (Q : Memory → Queue → Type 0) (a : Run DestroySection) (k' : KernelState) (l : DestroyAt) (numbers : ThreadNumbers) : Type 0 where
  pub memory : Memory
  pub state : KernelState
  pub queue : Queue
  pub ready : Ready
  pub went : Went
  pub done : ℕ
  pub freed : List Entry
  pub lines : List ReplyLine
  pub goes : Goes (destroy_kind (current k c.caller)) a (at c own memory l (hand_with numbers queue ready) (a.entries ++ freed) went done)
  pub legal : IsReplay k' freed state
  pub frees : AllByRecursion IsFreed freed
  pub replies : state.replies ≡ k'.replies ++ lines
  pub half : Half m (call_state c k) c.who c.caller V S R memory state
  pub contexts : memory.context ≡ a.memory.context
  pub kept : memory.numbers ≡ a.memory.numbers
  pub held : Q memory queue
  pub stays : (t : ℕ) → shows (a.memory.word t).state ≡ status.Run → memory.word t ≡ a.memory.word t
  pub woken : AllByRecursion (IsGone m c.who c.caller memory) lines
  pub lists : (p : ℕ) → list_of memory.ready.lists p ≡ list_of a.memory.ready.lists p ++ at_level m p (ids_of lines)

-- who waits to send to the victim, and isn't the victim
pub record IsWaiter (c : DestroyCall) (m' : Memory) (n : ℕ) : Type 0 where
  pub sends : shows (m'.word n).state ≡ status.Sending c.who
  pub other : n ≢ c.who.number

module _ (c : DestroyCall) (own : StateWord) (k : KernelState) (m : Memory) (V : Type 0) (R : ℕ → Type 0) where
  -- who are left still wait
  still_waiters : (m' : Memory) (n : ℕ) (w : StateWord) (es : List SenderEntry) → waits n es ≡ false → AllByRecursion (λ e. IsWaiter c m' (number_of e)) es → AllByRecursion (λ e. IsWaiter c (with_word m' n w) (number_of e)) es
  still_waiters m' n w [] none all = tt
  still_waiters m' n w (e ∷ es) none all =
      let ne : number_of e ≢ n = λ q. false≢true (sym (or_first (eqb (number_of e) n) (waits n es) none) ∙ eq-eqb (number_of e) n q) in (
        record { sends = ap (λ (x : StateWord). shows x.state) (upd_other m'.word n w (number_of e) ne) ∙ all.0.sends; other = all.0.other },
        still_waiters m' n w es (or_second (eqb (number_of e) n) (waits n es) none) all.1,
      )
    where
      or_first : (a b : Bool) → (a || b) ≡ false → a ≡ false
      or_first false b e = refl
      or_first true b e = absurd (false≢true (sym e))

      or_second : (a b : Bool) → (a || b) ≡ false → b ≡ false
      or_second false b e = e
      or_second true b e = absurd (false≢true (sym e))

  -- on with the rest
  pub then_rest : (n : ℕ) (m' : Memory) (k' : KernelState) (a b : Run DestroySection) (k1 : KernelState) (numbers : ThreadNumbers) (l : DestroyAt) (S' R' : ℕ → Type 0) (Q : Memory → Queue → Type 0) (g : Entry) (line : ReplyLine) → Goes (destroy_kind (current k c.caller)) a b → b.entries ≡ a.entries ++ g ∷ [] → b.memory.context ≡ a.memory.context → b.memory.numbers ≡ a.memory.numbers → IsFreed g → ((es : List Entry) (new : KernelState) → IsReplay k1 es new → IsReplay k' (g ∷ es) new) → k1.replies ≡ k'.replies ++ line ∷ [] → ((t : ℕ) → shows (a.memory.word t).state ≡ status.Run → b.memory.word t ≡ a.memory.word t) → IsGone m c.who c.caller b.memory line → ((p : ℕ) → list_of b.memory.ready.lists p ≡ list_of a.memory.ready.lists p ++ at_level m p (line.id ∷ [])) → Frees c own k m V S' R' Q b k1 l numbers → Frees c own k m V S' R' Q a k' l numbers
  then_rest n m' k' a b k1 numbers l S' R' Q g line goes es ctx ns is legal replies stays gone lists f = record {
    memory = f.memory;
    state = f.state;
    queue = f.queue;
    ready = f.ready;
    went = f.went;
    done = f.done;
    freed = g ∷ f.freed;
    lines = line ∷ f.lines;
    goes = then (destroy_kind (current k c.caller)) a b _ goes (subst (λ (x : List Entry). Goes (destroy_kind (current k c.caller)) b (at c own f.memory l (hand_with numbers f.queue f.ready) x f.went f.done)) (ap (λ (x : List Entry). x ++ f.freed) es ∙ append_assoc a.entries (g ∷ []) f.freed) f.goes);
    legal = legal f.freed f.state f.legal;
    frees = (is, f.frees);
    replies = f.replies ∙ ap (λ (x : List ReplyLine). x ++ f.lines) replies ∙ append_assoc k'.replies (line ∷ []) f.lines;
    half = f.half;
    contexts = f.contexts ∙ ctx;
    kept = f.kept ∙ ns;
    held = f.held;
    stays = λ t r. f.stays t (ap (λ (w : StateWord). shows w.state) (stays t r) ∙ r) ∙ stays t r;
    woken = (record { reply = gone.reply; word = f.stays line.id.number (ap (λ (w : StateWord). shows w.state) gone.word) ∙ gone.word; other = gone.other; apart = gone.apart }, f.woken);
    lists = λ p. f.lists p ∙ ap (λ (xs : List ThreadId). xs ++ at_level m p (ids_of f.lines)) (lists p) ∙ append_assoc (list_of a.memory.ready.lists p) (at_level m p (line.id ∷ [])) (at_level m p (ids_of f.lines)) ∙ ap (λ (xs : List ThreadId). list_of a.memory.ready.lists p ++ xs) (sym (level_append m p (line.id ∷ []) (ids_of f.lines)));
  }

  -- the queues are as they were, and none is left in hand
  abbrev pub AllTaken : (ℕ → Queue) → ℕ → Memory → Queue → Type 0
  AllTaken queues room memory queue = (memory.queue ≡ queues) × (queue.entries ≡ []) × (queue.room ≡ room)

  pub senders_freed : (es : List SenderEntry) (room : ℕ) (m' : Memory) (k' : KernelState) (numbers : ThreadNumbers) (rd : Ready) (before : List Entry) (w0 : Went) (d : ℕ) → Half m (call_state c k) c.who c.caller V (λ t. waits t es ≡ true) R m' k' → AllByRecursion (λ e. IsWaiter c m' (number_of e)) es → IsOnceEach es → Frees c own k m V (λ t. ⊥) R (AllTaken m'.queue room) (at c own m' (Victim (free_first es)) (hand_with numbers (record { entries = es; room = room }) rd) before w0 d) k' (Victim ReleaseVictimLock) numbers
  unfolding lock_bits acted
  senders_freed [] room m' k' numbers rd before w0 d h all once =
      let t = destroy_kind (current k c.caller) in
      let a = at c own m' (Victim ReleaseVictimLock) (hand_with numbers (record { entries = []; room = room }) rd) before w0 d in
      record {
        memory = m';
        state = k';
        queue = record { entries = []; room = room };
        ready = rd;
        went = w0;
        done = d;
        freed = [];
        lines = [];
        goes = subst (λ (x : List Entry). Goes t a (at c own m' (Victim ReleaseVictimLock) (hand_with numbers (record { entries = []; room = room }) rd) x w0 d)) (sym (append-nil before)) (arrived t a);
        legal = refl;
        frees = tt;
        replies = sym (append-nil k'.replies);
        half = fewer m (call_state c k) c.who c.caller V (λ t. waits t [] ≡ true) R m' k' h (λ t. ⊥) R (λ n _ _ e. false≢true e) (λ n _ _ r. r);
        contexts = refl;
        kept = refl;
        held = (refl, refl, refl);
        stays = λ t r. refl;
        woken = tt;
        lists = λ p. sym (append-nil (list_of m'.ready.lists p));
      }
  senders_freed (e ∷ es) room m' k' numbers rd before w0 d h all once =
      let t = destroy_kind (current k c.caller) in
      let n = number_of e in
      let w = m'.word n in
      let kc = call_state c k in
      let wt = sending_waits c.who w all.0.sends in
      let ne = all.0.other in
      let v = freed_word w in
      let m1 = with_word m' n v in
      let k1 = freed_state m kc c.who c.caller V (λ t. waits t (e ∷ es) ≡ true) R m' k' h n wt ne in
      let g = gone_of (thread_at n w) (current k c.caller) in
      let d1 = one_more d in
      let d2 = one_more d1 in
      let d3 = one_more d2 in
      let d4 = one_more d3 in
      let line : ReplyLine = record { id = thread_at n w; serial = (kc.place n).serial; reply = reply.Gone } in
      let fh = freed_half m kc c.who c.caller V (λ t. waits t (e ∷ es) ≡ true) R m' k' h n wt ne in
      let h1 : Half m kc c.who c.caller V (λ t. waits t es ≡ true) R m1 k1 =
      fewer m kc c.who c.caller V (λ t. (waits t (e ∷ es) ≡ true) × (t ≢ n)) (λ t. R t × (t ≢ n)) m1 k1 fh (λ t. waits t es ≡ true) R
      (λ x _ _ y. subst (λ (b : Bool). (b || waits x es) ≡ true) (ne_eqb n x (λ q. y.1 (sym q))) y.0) (λ x _ _ y. y.0) in
      let all1 = still_waiters m' n v es once.0 all.1 in
      let sound = freed_sound m kc c.who c.caller V (λ t. waits t (e ∷ es) ≡ true) R m' k' h n wt ne in
      let q0 : Queue = record { entries = e ∷ es; room = room } in
      let q1 : Queue = record { entries = es; room = room } in
      let hd = hand_with numbers q0 rd in
      let r0 = at c own m' (Victim (LoadSender n)) hd before w0 d in
      let r1 = at c own m' (Victim (FreeSender n w)) hd before went.On d1 in
      let next = before ++ g ∷ [] in
      let plain : CanStep t r0 = record { ask = (refl, tt); tell = (refl, (state-whole w (h.words n), subst (λ (x : StateWord). 1 ≤ x.version) (sym (state-read w (h.words n))) (alive_version w (h.words n) wt.alive))) } in
      let s01 = one t r0 (step.Load (word.State n)) (answer.Told (told_by.Loaded (state_bits w))) m' r1.section None before went.On refl refl (loads m' n (h.words n)) (rw (state-read w (h.words n)) refl) refl (append-nil before) refl in
      let x = step.Exchange (word.State n) (state_bits w) (state_bits v) in
      let event : Event = record { who = thread_at n w; serial = (kc.place n).serial; act = act.Gone } in
      let may = may_free m kc c.who c.caller V (λ t. waits t (e ∷ es) ≡ true) R m' k' h n wt in
      let legal : (xs : List Entry) (new : KernelState) → IsReplay k1 xs new → IsReplay k' (g ∷ xs) new = λ xs new r. replay_on k' k1 new event outcome.Freed xs may refl r in
      let stays = freed_stays m kc c.who c.caller V (λ t. waits t (e ∷ es) ≡ true) R m' k' h n wt ne in
      let gone = freed_gone m kc c.who c.caller V (λ t. waits t (e ∷ es) ≡ true) R m' k' h n wt ne (kc.place n).serial in
      let frees : CanStep t r1 = can t r1 (answer.Told told_by.Won) (refl, tt) (won m' n w v refl) (refl, tt) in
      elim (cases_Bool w.on) [
        | inl was ↦
            let r2 = at c own m1 (Victim (free_first es)) (hand_with numbers q1 rd) next went.On d2 in
            let s12 = one t r1 x (answer.Told told_by.Won) m1 r2.section (Some g) next went.On refl (won m' n w v refl) (writes m' n w v refl sound) (rw was refl) refl refl refl in
            then_rest n m' k' r0 r2 k1 numbers (Victim ReleaseVictimLock) (λ t. ⊥) R (AllTaken m'.queue room) g line (on t r0 r1 r2 plain s01 (on t r1 r2 r2 frees s12 (arrived t r2))) refl refl refl (record { gone = refl; freed = refl }) legal refl stays gone (lists_on m kc c.who c.caller V (λ t. waits t (e ∷ es) ≡ true) R m' k' h n wt ne was)
            (senders_freed es room m1 k1 numbers rd next went.On d2 h1 all1 once.1)
        | inr was ↦
            let m2 = pushed m1 (thread_at n w) w.priority in
            let is : m1.word n ≡ v = upd_same m'.word n v in
            let free = off_nowhere m kc c.who c.caller V (λ t. waits t (e ∷ es) ≡ true) R m' k' h n was ne in
            let h2 : Half m kc c.who c.caller V (λ t. waits t es ≡ true) R m2 k1 =
            subst (λ (p : ℕ). Half m kc c.who c.caller V (λ t. waits t es ≡ true) R (pushed m1 (thread_at n w) p) k1) (ap (λ (y : StateWord). y.priority) is)
            (pushed_half m kc c.who c.caller V (λ t. waits t es ≡ true) R m1 k1 h1 (thread_at n w) (ap (λ (y : StateWord). y.version) is) (ap (λ (y : StateWord). is_dead (shows y.state)) is) (ap (λ (y : StateWord). y.on) is) free) in
            let all2 = all_weaker (λ (y : SenderEntry). IsWaiter c m1 (number_of y)) (λ (y : SenderEntry). IsWaiter c m2 (number_of y)) (λ y z. record { sends = z.sends; other = z.other }) es all1 in
            let r2 = at c own m1 (Victim (AcquireReadyForSender n w)) hd next went.On d2 in
            let r3 = at c own m1 (Pushing (PushSender n w)) (hand_with numbers q0 m'.ready) next went.On d3 in
            let r4 = at c own m2 (Victim (free_first es)) (hand_with numbers q1 no_lists) next (went.Pushed w.priority) d4 in
            let s12 = one t r1 x (answer.Told told_by.Won) m1 r2.section (Some g) next went.On refl (won m' n w v refl) (writes m' n w v refl sound) (rw was refl) refl refl refl in
            let s23 = one t r2 (step.Acquire lock.Ready) (answer.Got (goods.Ready m'.ready)) m1 r3.section None next went.On refl refl refl refl refl (append-nil next) refl in
            let s34 = one t r3 (step.Release lock.Ready (goods.Ready m2.ready)) (answer.Told told_by.Released) m2 r4.section None next (went.Pushed w.priority) refl refl refl refl refl (append-nil next) refl in
            then_rest n m' k' r0 r4 k1 numbers (Victim ReleaseVictimLock) (λ t. ⊥) R (AllTaken m'.queue room) g line (on t r0 r1 r4 plain s01 (on t r1 r2 r4 frees s12 (on t r2 r3 r4 (record { ask = (refl, tt); tell = (refl, tt) }) s23 (on t r3 r4 r4 (record { ask = (refl, free); tell = (refl, tt) }) s34 (arrived t r4))))) refl refl refl (record { gone = refl; freed = refl }) legal refl stays (record { reply = gone.reply; word = gone.word; other = gone.other; apart = gone.apart }) (lists_off m kc c.who c.caller V (λ t. waits t (e ∷ es) ≡ true) R m' k' h n wt ne was)
            (senders_freed es room m2 k1 numbers no_lists next (went.Pushed w.priority) d4 h2 all2 once.1)
      ]
