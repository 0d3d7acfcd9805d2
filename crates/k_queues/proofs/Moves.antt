-- The steps of sends and receives that change a queue, or of what a context has to do there.
use Rattle.std.proofs.Common.{◌≡◌, ◌≢◌, ℕ, true, false, sym, ap, ◌∙◌, subst, Some, List, [], ◌∷◌, ◌++◌, ◌⊎◌, inl, inr}
use Rattle.std.specs.Prelude.{not}
use Rattle.std.proofs.lemmas.Bool.{and_parts, eqb-true}
use Rattle.std.proofs.lemmas.Bool.Decides.{eqb_tells}
use Rattle.std.proofs.Common.{eqb}
use Rattle.k_ids.specs.declared.threads.ThreadId.{ThreadId}
use Rattle.k_links.proofs.Appended.{once_append}
use Rattle.k_links.proofs.Removed.{once_without}
use Rattle.k_senders.specs.declared.entries.SenderEntry.{SenderEntry}
use Rattle.k_senders.specs.Entries.{number_of, sender_of}
use Rattle.k_senders.specs.Queue.{IsOnceEach, entry_of, stands, without}
use Rattle.k_locks.specs.Shown.{is_dead}
use Rattle.k_ipc.specs.Words.{sends_to}
use Rattle.k_board.specs.Boards.{Board, id_at}
use Rattle.k_board.specs.Facts.{waits_for}
use Rattle.k_queues.specs.Tasks.{Comes, Idle, IsEmptied, IsFreed, IsToVisit, Somewhere, TakesOut, Task, task_of}
use Rattle.k_queues.specs.Queues.{HasEntry, IsQueued, IsSender, QueuesHold, Reason, by_kill, by_take, by_wait}
use Rattle.k_queues.proofs.Entries.{last_entry, left_entry, more_entry, of_number, sends_once}
use Rattle.k_queues.proofs.Entries.{some_is, stays_entry, still_entry, true_false}
use Rattle.k_queues.proofs.Quiet.{SameWait, has_entry_stays}
use Rattle.k_queues.proofs.Steps.{QueueStep, id_stays, somewhere_stays, waits_is}
use Rattle.k_queues.proofs.Tasks.{TaskSays, emptied_destroying}

-- whom a thread waits for is the thread that its number's word has
pub queued_is : (b : Board) → ((n : ℕ) → TaskSays b n (task_of b n)) → (n : ℕ) (to : ThreadId) → IsQueued b n to →
    id_at b to.number ≡ to
queued_is b says n to q = elim q.there [
  | inl y ↦
      ap (λ (v : ℕ). record { number = to.number; version = v })
      (eqb-true (b.seen to.number).word.version to.version (and_parts (eqb (b.seen to.number).word.version to.version)
      (not (is_dead (b.seen to.number).word)) y).0)
  | inr s ↦
      ap (λ (v : ℕ). record { number = to.number; version = v })
      (emptied_destroying b s.number to (task_of b s.number) (says s.number) s.has).version
]

pub comes_is : {to r : ThreadId} → Comes to ≡ Comes r → to ≡ r
comes_is e = cc

pub takes_is : {e f : SenderEntry} → TakesOut e ≡ TakesOut f → e ≡ f
takes_is e = cc

pub comes_takes : {to : ThreadId} {e : SenderEntry} → Comes to ≡ TakesOut e → ⊥
comes_takes e = cc

pub idle_comes : {to : ThreadId} → Idle ≡ Comes to → ⊥
idle_comes e = cc

pub idle_takes : {e : SenderEntry} → Idle ≡ TakesOut e → ⊥
idle_takes e = cc

pub takes_comes : {e : SenderEntry} {to : ThreadId} → TakesOut e ≡ Comes to → ⊥
takes_comes e = cc

module _ (b b' : Board) (i : ℕ) (h : QueuesHold b) (says : (n : ℕ) → TaskSays b n (task_of b n)) (size : b'.size ≡ b.size)
    (others : (n : ℕ) → n ≢ i → task_of b' n ≡ task_of b n) where
  -- a thread that waits comes into the queue
  module _ (to : ThreadId) (f : SenderEntry) (words : (n : ℕ) → SameWait (b.seen n).word (b'.seen n).word)
      (was : task_of b i ≡ Comes to) (now : task_of b' i ≡ Idle) (here : b'.queue to.number ≡ b.queue to.number ++ f ∷ [])
      (but : (t : ℕ) → t ≢ to.number → b'.queue t ≡ b.queue t) (number : number_of f ≡ i)
      (sender : sender_of f ≡ id_at b i) (fits : IsSender b.size to.number f)
      (fresh : stands i (b.queue to.number) ≡ false)
      (lives : (is_dead (b.seen i).word ≡ true) ⊎ (sends_to to (b.seen i).word.state ≡ true)) where
    come_fresh : stands (number_of f) (b.queue to.number) ≡ false
    come_fresh = subst (λ (n : ℕ). stands n (b.queue to.number) ≡ false) (sym number) fresh

    by_to : (t : ℕ) → (t ≡ to.number) ⊎ (t ≢ to.number)
    by_to t = elim (eqb_tells t to.number) [ inl e ↦ inl e.1 | inr e ↦ inr e.1 ]

    come_once : (t : ℕ) → (t ≡ to.number) ⊎ (t ≢ to.number) → IsOnceEach (b'.queue t)
    come_once t (inl d) =
        subst (λ (n : ℕ). IsOnceEach (b'.queue n)) (sym d) (subst IsOnceEach (sym here)
        (once_append number_of (b.queue to.number) f (h.once to.number) come_fresh))
    come_once t (inr d) = subst IsOnceEach (sym (but t d)) (h.once t)

    -- an entry of before, or the new one
    come_entry : (t n : ℕ) (e : SenderEntry) → entry_of n (b'.queue t) ≡ Some e → (t ≡ to.number) ⊎ (t ≢ to.number) →
        (entry_of n (b.queue t) ≡ Some e) ⊎ ((t ≡ to.number) × (n ≡ i) × (e ≡ f))
    come_entry t n e q (inl d) =
        elim (more_entry n (b.queue to.number) e f come_fresh
        (ap (λ (es : List SenderEntry). entry_of n es) (sym here)
        ∙ subst (λ (m : ℕ). entry_of n (b'.queue m) ≡ Some e) d q)) [
          | inl y ↦ inl (subst (λ (m : ℕ). entry_of n (b.queue m) ≡ Some e) (sym d) y)
          | inr y ↦ inr (d, y.0 ∙ number, y.1)
        ]
    come_entry t n e q (inr d) = inl (ap (λ (es : List SenderEntry). entry_of n es) (sym (but t d)) ∙ q)

    come_reason : Reason b' to.number i f
    come_reason = elim lives [
      | inl d ↦
          by_kill (somewhere_stays b b' i others (λ (k : Task). IsToVisit k (sender_of f) to.number)
          (λ v. absurd (subst (λ (k : Task). IsToVisit k (sender_of f) to.number) was v))
          (subst (λ (id : ThreadId). Somewhere b (λ (k : Task). IsToVisit k id to.number)) (sym sender)
          (h.coming i to was d)))
      | inr y ↦
          by_wait (waits_is (id_at b' to.number) f (b'.seen i).word
          ((words i).version ∙ ap (λ (id : ThreadId). id.version) (sym sender))
          ((words i).sends (id_at b' to.number) ∙ subst (λ (id : ThreadId). sends_to id (b.seen i).word.state ≡ true)
          (sym (id_stays b b' to.number (words to.number).version ∙ queued_is b says i to (h.waiting i to y))) y))
    ]

    come_senders : (t n : ℕ) (e : SenderEntry) → entry_of n (b'.queue t) ≡ Some e → IsSender b.size t e
    come_senders t n e q = elim (come_entry t n e q (by_to t)) [
      | inl y ↦ h.senders t n e y
      | inr y ↦ subst (λ (m : ℕ). IsSender b.size m e) (sym y.0) (subst (IsSender b.size to.number) (sym y.2) fits)
    ]

    come_entries : (t n : ℕ) (e : SenderEntry) → entry_of n (b'.queue t) ≡ Some e →
        (entry_of n (b.queue t) ≡ Some e) ⊎ Reason b' t n e
    come_entries t n e q = elim (come_entry t n e q (by_to t)) [
      | inl y ↦ inl y
      | inr y ↦
          inr (subst (λ (m : ℕ). Reason b' m n e) (sym y.0) (subst (λ (m : ℕ). Reason b' to.number m e) (sym y.1)
          (subst (Reason b' to.number i) (sym y.2) come_reason)))
    ]

    come_stands : (n : ℕ) (r : ThreadId) → HasEntry b n r → (r.number ≡ to.number) ⊎ (r.number ≢ to.number) → HasEntry b' n r
    come_stands n r e (inl d) = record {
      entry = e.entry;
      stands =
          ap (λ (m : ℕ). entry_of n (b'.queue m)) d ∙ ap (λ (es : List SenderEntry). entry_of n es) here
          ∙ still_entry n (b.queue to.number) e.entry f come_fresh
          (subst (λ (m : ℕ). entry_of n (b.queue m) ≡ Some e.entry) d e.stands);
      sender = e.sender ∙ sym (id_stays b b' n (words n).version);
    }
    come_stands n r e (inr d) = has_entry_stays b b' n r (words n).version (but r.number d) e

    come_has : HasEntry b' i to
    come_has = record {
      entry = f;
      stands =
          ap (λ (es : List SenderEntry). entry_of i es) here ∙ subst
          (λ (n : ℕ). entry_of n (b.queue to.number ++ f ∷ []) ≡ Some f) number (last_entry (b.queue to.number) f come_fresh);
      sender = sender ∙ sym (id_stays b b' i (words i).version);
    }

    pub come_step : QueueStep b b' i
    come_step = record {
      size = size;
      version = λ n. (words n).version;
      dead = λ n. (words n).dead;
      back = λ n r y. sym ((words n).sends r) ∙ y;
      others = others;
      once = λ t. come_once t (by_to t);
      senders = come_senders;
      entries = come_entries;
      waits = λ t n e q y. inl ((words n).sends (id_at b t) ∙ y);
      taken = λ n e q k. absurd (comes_takes (sym was ∙ k));
      freed = λ t n e q k. absurd (subst (λ (u : Task). IsFreed u t n) was k);
      killed = λ t n e q k. absurd (subst (λ (u : Task). IsToVisit u (sender_of e) t) was k);
      stands = λ n r y e. come_stands n r e (by_to r.number);
      comes = λ r k. inr (subst (HasEntry b' i) (comes_is (sym was ∙ k)) come_has);
      emptied = λ n r y e k. absurd (subst (λ (u : Task). IsEmptied u r) was k);
      new_comes = λ r k. absurd (idle_comes (sym now ∙ k));
      visits = λ n r ne k v. absurd (subst (λ (u : Task). IsToVisit u (id_at b n) r.number) was v);
      new_freed = λ t n k. absurd (subst (λ (u : Task). IsFreed u t n) now k);
    }

  -- the message of an entry is taken: its sender waits no more
  module _ (e : SenderEntry) (was : task_of b i ≡ Idle) (now : task_of b' i ≡ TakesOut e)
      (queue : (t : ℕ) → b'.queue t ≡ b.queue t) (stands_it : entry_of (number_of e) (b.queue i) ≡ Some e)
      (waited : sends_to (id_at b i) (b.seen (number_of e)).word.state ≡ true)
      (words : (n : ℕ) → n ≢ number_of e → SameWait (b.seen n).word (b'.seen n).word)
      (version : (b'.seen (number_of e)).word.version ≡ (b.seen (number_of e)).word.version)
      (dead : is_dead (b'.seen (number_of e)).word ≡ is_dead (b.seen (number_of e)).word)
      (none : (r : ThreadId) → sends_to r (b'.seen (number_of e)).word.state ≡ false) where
    by_it : (n : ℕ) → (n ≡ number_of e) ⊎ (n ≢ number_of e)
    by_it n = elim (eqb_tells n (number_of e)) [ inl d ↦ inl d.1 | inr d ↦ inr d.1 ]

    took_version : (n : ℕ) → (n ≡ number_of e) ⊎ (n ≢ number_of e) → (b'.seen n).word.version ≡ (b.seen n).word.version
    took_version n (inl d) = subst (λ (m : ℕ). (b'.seen m).word.version ≡ (b.seen m).word.version) (sym d) version
    took_version n (inr d) = (words n d).version

    took_dead : (n : ℕ) → (n ≡ number_of e) ⊎ (n ≢ number_of e) → is_dead (b'.seen n).word ≡ is_dead (b.seen n).word
    took_dead n (inl d) = subst (λ (m : ℕ). is_dead (b'.seen m).word ≡ is_dead (b.seen m).word) (sym d) dead
    took_dead n (inr d) = (words n d).dead

    took_back : (n : ℕ) (r : ThreadId) → sends_to r (b'.seen n).word.state ≡ true → (n ≡ number_of e) ⊎ (n ≢ number_of e) →
        sends_to r (b.seen n).word.state ≡ true
    took_back n r y (inl d) = absurd (true_false (subst (λ (m : ℕ). sends_to r (b'.seen m).word.state ≡ true) d y) (none r))
    took_back n r y (inr d) = sym ((words n d).sends r) ∙ y

    took_entry : (t n : ℕ) (f : SenderEntry) → entry_of n (b'.queue t) ≡ Some f → entry_of n (b.queue t) ≡ Some f
    took_entry t n f q = ap (λ (es : List SenderEntry). entry_of n es) (sym (queue t)) ∙ q

    took_waits : (t n : ℕ) (f : SenderEntry) → entry_of n (b'.queue t) ≡ Some f →
        sends_to (id_at b t) (b.seen n).word.state ≡ true → (n ≡ number_of e) ⊎ (n ≢ number_of e) →
        (sends_to (id_at b t) (b'.seen n).word.state ≡ true) ⊎ Reason b' t n f
    took_waits t n f q y (inl d) =
        let it : t ≡ i = ap (λ (id : ThreadId). id.number) (sends_once (id_at b t) (id_at b i) (b.seen (number_of e)).word.state
        (subst (λ (m : ℕ). sends_to (id_at b t) (b.seen m).word.state ≡ true) d y) waited) in
        let same : f ≡ e = some_is (sym (took_entry i (number_of e) f
        (subst (λ (m : ℕ). entry_of m (b'.queue i) ≡ Some f) d (subst (λ (m : ℕ). entry_of n (b'.queue m) ≡ Some f) it q)))
        ∙ stands_it) in
        inr (by_take (ap (λ (m : ℕ). task_of b' m) it ∙ now ∙ ap TakesOut (sym same)))
    took_waits t n f q y (inr d) = inl ((words n d).sends (id_at b t) ∙ y)

    pub take_step : QueueStep b b' i
    take_step = record {
      size = size;
      version = λ n. took_version n (by_it n);
      dead = λ n. took_dead n (by_it n);
      back = λ n r y. took_back n r y (by_it n);
      others = others;
      once = λ t. subst IsOnceEach (sym (queue t)) (h.once t);
      senders = λ t n f q. h.senders t n f (took_entry t n f q);
      entries = λ t n f q. inl (took_entry t n f q);
      waits = λ t n f q y. took_waits t n f q y (by_it n);
      taken = λ n f q k. absurd (idle_takes (sym was ∙ k));
      freed = λ t n f q k. absurd (subst (λ (u : Task). IsFreed u t n) was k);
      killed = λ t n f q k. absurd (subst (λ (u : Task). IsToVisit u (sender_of f) t) was k);
      stands = λ n r y k. has_entry_stays b b' n r (took_version n (by_it n)) (queue r.number) k;
      comes = λ r k. absurd (idle_comes (sym was ∙ k));
      emptied = λ n r y f k. absurd (subst (λ (u : Task). IsEmptied u r) was k);
      new_comes = λ r k. absurd (takes_comes (sym now ∙ k));
      visits = λ n r ne k v. absurd (subst (λ (u : Task). IsToVisit u (id_at b n) r.number) was v);
      new_freed = λ t n k. absurd (subst (λ (u : Task). IsFreed u t n) now k);
    }

  -- the entry whose message was taken leaves the queue
  module _ (e : SenderEntry) (words : (n : ℕ) → SameWait (b.seen n).word (b'.seen n).word)
      (was : task_of b i ≡ TakesOut e) (now : task_of b' i ≡ Idle) (here : b'.queue i ≡ without (number_of e) (b.queue i))
      (but : (t : ℕ) → t ≢ i → b'.queue t ≡ b.queue t) (stood : entry_of (number_of e) (b.queue i) ≡ Some e)
      (gone : waits_for (id_at b i) e (b.seen (number_of e)).word ≡ false) where
    by_me : (t : ℕ) → (t ≡ i) ⊎ (t ≢ i)
    by_me t = elim (eqb_tells t i) [ inl d ↦ inl d.1 | inr d ↦ inr d.1 ]

    out_once : (t : ℕ) → (t ≡ i) ⊎ (t ≢ i) → IsOnceEach (b'.queue t)
    out_once t (inl d) =
        subst (λ (n : ℕ). IsOnceEach (b'.queue n)) (sym d) (subst IsOnceEach (sym here)
        (once_without number_of (number_of e) (b.queue i) (h.once i)))
    out_once t (inr d) = subst IsOnceEach (sym (but t d)) (h.once t)

    out_left : (n : ℕ) (f : SenderEntry) → entry_of n (b'.queue i) ≡ Some f →
        (entry_of n (b.queue i) ≡ Some f) × (n ≢ number_of e)
    out_left n f q =
        left_entry n (number_of e) (b.queue i) f (h.once i) (ap (λ (es : List SenderEntry). entry_of n es) (sym here) ∙ q)

    out_entry : (t n : ℕ) (f : SenderEntry) → entry_of n (b'.queue t) ≡ Some f → (t ≡ i) ⊎ (t ≢ i) →
        entry_of n (b.queue t) ≡ Some f
    out_entry t n f q (inl d) =
        subst (λ (m : ℕ). entry_of n (b.queue m) ≡ Some f) (sym d)
        (out_left n f (subst (λ (m : ℕ). entry_of n (b'.queue m) ≡ Some f) d q)).0
    out_entry t n f q (inr d) = ap (λ (es : List SenderEntry). entry_of n es) (sym (but t d)) ∙ q

    out_taken : (n : ℕ) (f : SenderEntry) → entry_of n (b'.queue i) ≡ Some f → task_of b i ≡ TakesOut f → ⊥
    out_taken n f q k =
        let left = out_left n f q in
        left.1 (sym (of_number n (b.queue i) f left.0) ∙ ap number_of (takes_is (sym k ∙ was)))

    out_stands : (n : ℕ) (r : ThreadId) → sends_to r (b'.seen n).word.state ≡ true → HasEntry b n r →
        (r.number ≡ i) ⊎ (r.number ≢ i) → HasEntry b' n r
    out_stands n r y k (inr d) = has_entry_stays b b' n r (words n).version (but r.number d) k
    out_stands n r y k (inl d) = record {
      entry = k.entry;
      stands =
          ap (λ (m : ℕ). entry_of n (b'.queue m)) d ∙ ap (λ (es : List SenderEntry). entry_of n es) here
          ∙ stays_entry n (number_of e) (b.queue i) k.entry (h.once i) stands_i apart;
      sender = k.sender ∙ sym (id_stays b b' n (words n).version);
    }
      where
        stands_i : entry_of n (b.queue i) ≡ Some k.entry
        stands_i = subst (λ (m : ℕ). entry_of n (b.queue m) ≡ Some k.entry) d k.stands

        sends : sends_to r (b.seen n).word.state ≡ true
        sends = sym ((words n).sends r) ∙ y

        whom : id_at b i ≡ r
        whom = ap (id_at b) (sym d) ∙ queued_is b says n r (h.waiting n r sends)

        apart : n ≢ number_of e
        apart z =
            let same : k.entry ≡ e = some_is (sym stands_i ∙ ap (λ (m : ℕ). entry_of m (b.queue i)) z ∙ stood) in
            let version : (b.seen n).word.version ≡ (sender_of e).version =
            ap (λ (id : ThreadId). id.version) (sym k.sender) ∙ ap (λ (f : SenderEntry). (sender_of f).version) same in
            true_false (waits_is (id_at b i) e (b.seen (number_of e)).word
            (subst (λ (m : ℕ). (b.seen m).word.version ≡ (sender_of e).version) z version)
            (subst (λ (id : ThreadId). sends_to id (b.seen (number_of e)).word.state ≡ true) (sym whom)
            (subst (λ (m : ℕ). sends_to r (b.seen m).word.state ≡ true) z sends))) gone

    pub out_step : QueueStep b b' i
    out_step = record {
      size = size;
      version = λ n. (words n).version;
      dead = λ n. (words n).dead;
      back = λ n r y. sym ((words n).sends r) ∙ y;
      others = others;
      once = λ t. out_once t (by_me t);
      senders = λ t n f q. h.senders t n f (out_entry t n f q (by_me t));
      entries = λ t n f q. inl (out_entry t n f q (by_me t));
      waits = λ t n f q y. inl ((words n).sends (id_at b t) ∙ y);
      taken = λ n f q k. absurd (out_taken n f q k);
      freed = λ t n f q k. absurd (subst (λ (u : Task). IsFreed u t n) was k);
      killed = λ t n f q k. absurd (subst (λ (u : Task). IsToVisit u (sender_of f) t) was k);
      stands = λ n r y k. out_stands n r y k (by_me r.number);
      comes = λ r k. absurd (takes_comes (sym was ∙ k));
      emptied = λ n r y f k. absurd (subst (λ (u : Task). IsEmptied u r) was k);
      new_comes = λ r k. absurd (idle_comes (sym now ∙ k));
      visits = λ n r ne k v. absurd (subst (λ (u : Task). IsToVisit u (id_at b n) r.number) was v);
      new_freed = λ t n k. absurd (subst (λ (u : Task). IsFreed u t n) now k);
    }
