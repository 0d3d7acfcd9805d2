-- The steps of a destroy that change a queue, or of what it has to do there.
use Rattle.std.proofs.Common.{◌≡◌, ◌≢◌, ℕ, true, false, sym, ap, ◌∙◌, subst, Option, Some, None, List, ◌⊎◌, inl, inr}
use Rattle.std.proofs.lemmas.Bool.Decides.{eqb_tells}
use Rattle.k_ids.specs.declared.threads.ThreadId.{ThreadId}
use Rattle.k_links.proofs.Removed.{once_without}
use Rattle.k_senders.specs.declared.entries.SenderEntry.{SenderEntry}
use Rattle.k_senders.specs.Entries.{number_of, sender_of}
use Rattle.k_senders.specs.Queue.{IsOnceEach, entry_of, without}
use Rattle.k_locks.specs.Shown.{is_dead}
use Rattle.k_ipc.specs.Words.{sends_to}
use Rattle.k_threads.specs.declared.destroy.DestroyCall.{DestroyCall}
use Rattle.k_board.specs.Boards.{Board, id_at}
use Rattle.k_queues.specs.Tasks.{Comes, Empties, IsAhead, IsEmptied, IsFreed, IsToVisit, TakesOut, Task, Visits, task_of}
use Rattle.k_queues.specs.Queues.{HasEntry, QueuesHold, Reason, by_free}
use Rattle.k_queues.proofs.Entries.{dead_silent, left_entry, sends_once, some_is, stays_entry, true_false}
use Rattle.k_queues.proofs.Moves.{queued_is}
use Rattle.k_queues.proofs.Quiet.{SameWait, has_entry_stays}
use Rattle.k_queues.proofs.Steps.{QueueStep, id_stays}
use Rattle.k_queues.proofs.Tasks.{TaskSays}

empties_comes : {c : DestroyCall} {o : Option ℕ} {r : ThreadId} → Empties c o ≡ Comes r → ⊥
empties_comes e = cc

empties_takes : {c : DestroyCall} {o : Option ℕ} {e : SenderEntry} → Empties c o ≡ TakesOut e → ⊥
empties_takes q = cc

visits_comes : {c : DestroyCall} {n : ℕ} {r : ThreadId} → Visits c n ≡ Comes r → ⊥
visits_comes e = cc

visits_takes : {c : DestroyCall} {n : ℕ} {e : SenderEntry} → Visits c n ≡ TakesOut e → ⊥
visits_takes q = cc

module _ (b b' : Board) (i : ℕ) (h : QueuesHold b) (says : (n : ℕ) → TaskSays b n (task_of b n)) (size : b'.size ≡ b.size)
    (others : (n : ℕ) → n ≢ i → task_of b' n ≡ task_of b n) (c : DestroyCall) where
  by_v : (t : ℕ) → (t ≡ c.who.number) ⊎ (t ≢ c.who.number)
  by_v t = elim (eqb_tells t c.who.number) [ inl e ↦ inl e.1 | inr e ↦ inr e.1 ]

  -- who is about to come into the queue of this number owns its lock
  not_coming : (n : ℕ) (r : ThreadId) (m : ℕ) → b.owner m ≡ Some i → n ≢ i → task_of b n ≡ Comes r → r.number ≢ m
  not_coming n r m owner ne k d = ne (some_is (sym (subst (TaskSays b n) k (says n)).owner ∙ ap b.owner d ∙ owner))

  -- a sender that was off is freed, and its entry stays for now
  module _ (sender : ℕ) (was : task_of b i ≡ Empties c None) (now : task_of b' i ≡ Empties c (Some sender))
      (queue : (t : ℕ) → b'.queue t ≡ b.queue t) (is : id_at b c.who.number ≡ c.who)
      (waited : sends_to c.who (b.seen sender).word.state ≡ true)
      (words : (n : ℕ) → n ≢ sender → SameWait (b.seen n).word (b'.seen n).word)
      (version : (b'.seen sender).word.version ≡ (b.seen sender).word.version)
      (dead : is_dead (b'.seen sender).word ≡ is_dead (b.seen sender).word)
      (none : (r : ThreadId) → sends_to r (b'.seen sender).word.state ≡ false) where
    by_s : (n : ℕ) → (n ≡ sender) ⊎ (n ≢ sender)
    by_s n = elim (eqb_tells n sender) [ inl e ↦ inl e.1 | inr e ↦ inr e.1 ]

    freed_version : (n : ℕ) → (n ≡ sender) ⊎ (n ≢ sender) → (b'.seen n).word.version ≡ (b.seen n).word.version
    freed_version n (inl d) = subst (λ (m : ℕ). (b'.seen m).word.version ≡ (b.seen m).word.version) (sym d) version
    freed_version n (inr d) = (words n d).version

    freed_dead : (n : ℕ) → (n ≡ sender) ⊎ (n ≢ sender) → is_dead (b'.seen n).word ≡ is_dead (b.seen n).word
    freed_dead n (inl d) = subst (λ (m : ℕ). is_dead (b'.seen m).word ≡ is_dead (b.seen m).word) (sym d) dead
    freed_dead n (inr d) = (words n d).dead

    freed_back : (n : ℕ) (r : ThreadId) → sends_to r (b'.seen n).word.state ≡ true → (n ≡ sender) ⊎ (n ≢ sender) →
        sends_to r (b.seen n).word.state ≡ true
    freed_back n r y (inl d) = absurd (true_false (subst (λ (m : ℕ). sends_to r (b'.seen m).word.state ≡ true) d y) (none r))
    freed_back n r y (inr d) = sym ((words n d).sends r) ∙ y

    freed_entry : (t n : ℕ) (e : SenderEntry) → entry_of n (b'.queue t) ≡ Some e → entry_of n (b.queue t) ≡ Some e
    freed_entry t n e q = ap (λ (es : List SenderEntry). entry_of n es) (sym (queue t)) ∙ q

    freed_waits : (t n : ℕ) (e : SenderEntry) → sends_to (id_at b t) (b.seen n).word.state ≡ true → (n ≡ sender) ⊎ (n ≢ sender) →
        (sends_to (id_at b t) (b'.seen n).word.state ≡ true) ⊎ Reason b' t n e
    freed_waits t n e y (inl d) =
        let it = ap (λ (id : ThreadId). id.number) (sends_once (id_at b t) c.who (b.seen sender).word.state
        (subst (λ (m : ℕ). sends_to (id_at b t) (b.seen m).word.state ≡ true) d y) waited) in
        inr (by_free record { number = i; has = subst (λ (k : Task). IsFreed k t n) (sym now) (sym it, sym d) })
    freed_waits t n e y (inr d) = inl ((words n d).sends (id_at b t) ∙ y)

    pub free_step : QueueStep b b' i
    free_step = record {
      size = size;
      version = λ n. freed_version n (by_s n);
      dead = λ n. freed_dead n (by_s n);
      back = λ n r y. freed_back n r y (by_s n);
      others = others;
      once = λ t. subst IsOnceEach (sym (queue t)) (h.once t);
      senders = λ t n e q. h.senders t n e (freed_entry t n e q);
      entries = λ t n e q. inl (freed_entry t n e q);
      waits = λ t n e q y. freed_waits t n e y (by_s n);
      taken = λ n e q k. absurd (empties_takes (sym was ∙ k));
      freed = λ t n e q k. absurd (subst (λ (u : Task). IsFreed u t n) was k);
      killed =
          λ t n e q k. subst (λ (u : Task). IsToVisit u (sender_of e) t) (sym now)
          (subst (λ (u : Task). IsToVisit u (sender_of e) t) was k);
      stands = λ n r y k. has_entry_stays b b' n r (freed_version n (by_s n)) (queue r.number) k;
      comes = λ r k. absurd (empties_comes (sym was ∙ k));
      emptied = λ n r y f k. subst (λ (u : Task). IsEmptied u r) (sym now) (subst (λ (u : Task). IsEmptied u r) was k);
      new_comes = λ r k. absurd (empties_comes (sym now ∙ k));
      visits =
          λ n r ne k v. subst (λ (u : Task). IsToVisit u (id_at b n) r.number) (sym now)
          (subst (λ (u : Task). IsToVisit u (id_at b n) r.number) was v);
      new_freed =
          λ t n k. let z = subst (λ (u : Task). IsFreed u t n) now k in
          subst (λ (m : ℕ). sends_to (id_at b t) (b'.seen m).word.state ≡ false) z.1 (none (id_at b t));
    }

  -- the first entry leaves the victim's queue
  module _ (o : Option ℕ) (sender : ℕ) (was : task_of b i ≡ Empties c o)
      (which : (t n : ℕ) → IsFreed (Empties c o) t n → (c.who.number ≡ t) × (sender ≡ n))
      (visits : (id : ThreadId) (t : ℕ) → IsAhead c 0 id t → IsToVisit (task_of b' i) id t)
      (empties : (n : ℕ) (e : SenderEntry) → entry_of n (b'.queue c.who.number) ≡ Some e → IsEmptied (task_of b' i) c.who)
      (frees : (t n : ℕ) → IsFreed (task_of b' i) t n → ⊥) (comes : (r : ThreadId) → task_of b' i ≡ Comes r → ⊥)
      (owner : b.owner c.who.number ≡ Some i) (is : id_at b c.who.number ≡ c.who)
      (here : b'.queue c.who.number ≡ without sender (b.queue c.who.number))
      (but : (t : ℕ) → t ≢ c.who.number → b'.queue t ≡ b.queue t)
      (version : (n : ℕ) → (b'.seen n).word.version ≡ (b.seen n).word.version)
      (dead : (n : ℕ) → is_dead (b'.seen n).word ≡ is_dead (b.seen n).word)
      (words : (n : ℕ) → n ≢ sender → SameWait (b.seen n).word (b'.seen n).word)
      (same : (r : ThreadId) → r ≢ c.who → sends_to r (b'.seen sender).word.state ≡ sends_to r (b.seen sender).word.state)
      (none : sends_to c.who (b'.seen sender).word.state ≡ false) where
    by_s' : (n : ℕ) → (n ≡ sender) ⊎ (n ≢ sender)
    by_s' n = elim (eqb_tells n sender) [ inl e ↦ inl e.1 | inr e ↦ inr e.1 ]

    left_once : (t : ℕ) → (t ≡ c.who.number) ⊎ (t ≢ c.who.number) → IsOnceEach (b'.queue t)
    left_once t (inl d) =
        subst (λ (n : ℕ). IsOnceEach (b'.queue n)) (sym d) (subst IsOnceEach (sym here)
        (once_without number_of sender (b.queue c.who.number) (h.once c.who.number)))
    left_once t (inr d) = subst IsOnceEach (sym (but t d)) (h.once t)

    left_here : (n : ℕ) (e : SenderEntry) → entry_of n (b'.queue c.who.number) ≡ Some e →
        (entry_of n (b.queue c.who.number) ≡ Some e) × (n ≢ sender)
    left_here n e q =
        left_entry n sender (b.queue c.who.number) e (h.once c.who.number)
        (ap (λ (es : List SenderEntry). entry_of n es) (sym here) ∙ q)

    left_was : (t n : ℕ) (e : SenderEntry) → entry_of n (b'.queue t) ≡ Some e → (t ≡ c.who.number) ⊎ (t ≢ c.who.number) →
        entry_of n (b.queue t) ≡ Some e
    left_was t n e q (inl d) =
        subst (λ (m : ℕ). entry_of n (b.queue m) ≡ Some e) (sym d)
        (left_here n e (subst (λ (m : ℕ). entry_of n (b'.queue m) ≡ Some e) d q)).0
    left_was t n e q (inr d) = ap (λ (es : List SenderEntry). entry_of n es) (sym (but t d)) ∙ q

    by_who : (r : ThreadId) → sends_to r (b'.seen sender).word.state ≡ true → r ≢ c.who
    by_who r y z = true_false (subst (λ (id : ThreadId). sends_to id (b'.seen sender).word.state ≡ true) z y) none

    left_back : (n : ℕ) (r : ThreadId) → sends_to r (b'.seen n).word.state ≡ true → (n ≡ sender) ⊎ (n ≢ sender) →
        sends_to r (b.seen n).word.state ≡ true
    left_back n r y (inr d) = sym ((words n d).sends r) ∙ y
    left_back n r y (inl d) =
        let z = subst (λ (m : ℕ). sends_to r (b'.seen m).word.state ≡ true) d y in
        subst (λ (m : ℕ). sends_to r (b.seen m).word.state ≡ true) (sym d) (sym (same r (by_who r z)) ∙ z)

    left_waits : (t n : ℕ) (e : SenderEntry) → entry_of n (b'.queue t) ≡ Some e →
        sends_to (id_at b t) (b.seen n).word.state ≡ true → (n ≡ sender) ⊎ (n ≢ sender) →
        (t ≡ c.who.number) ⊎ (t ≢ c.who.number) → sends_to (id_at b t) (b'.seen n).word.state ≡ true
    left_waits t n e q y (inr d) v = (words n d).sends (id_at b t) ∙ y
    left_waits t n e q y (inl d) (inl v) = absurd ((left_here n e (subst (λ (m : ℕ). entry_of n (b'.queue m) ≡ Some e) v q)).1 d)
    left_waits t n e q y (inl d) (inr v) =
        subst (λ (m : ℕ). sends_to (id_at b t) (b'.seen m).word.state ≡ true) (sym d)
        (same (id_at b t) (λ z. v (ap (λ (id : ThreadId). id.number) z))
        ∙ subst (λ (m : ℕ). sends_to (id_at b t) (b.seen m).word.state ≡ true) d y)

    left_stands : (n : ℕ) (r : ThreadId) → sends_to r (b'.seen n).word.state ≡ true → HasEntry b n r →
        (r.number ≡ c.who.number) ⊎ (r.number ≢ c.who.number) → HasEntry b' n r
    left_stands n r y k (inr d) = has_entry_stays b b' n r (version n) (but r.number d) k
    left_stands n r y k (inl d) = record {
      entry = k.entry;
      stands =
          ap (λ (m : ℕ). entry_of n (b'.queue m)) d ∙ ap (λ (es : List SenderEntry). entry_of n es) here
          ∙ stays_entry n sender (b.queue c.who.number) k.entry (h.once c.who.number)
          (subst (λ (m : ℕ). entry_of n (b.queue m) ≡ Some k.entry) d k.stands) apart;
      sender = k.sender ∙ sym (id_stays b b' n (version n));
    }
      where
        whom : r ≡ c.who
        whom = sym (queued_is b says n r (h.waiting n r (left_back n r y (by_s' n)))) ∙ ap (id_at b) d ∙ is

        apart : n ≢ sender
        apart z = by_who r (subst (λ (m : ℕ). sends_to r (b'.seen m).word.state ≡ true) z y) whom

    left_emptied : (n : ℕ) (r : ThreadId) → (task_of b' n ≡ Comes r) ⊎ HasEntry b' n r → c.who ≡ r → IsEmptied (task_of b' i) r
    left_emptied n r (inl k) e = absurd (elim (eqb_tells n i) [
      | inl d ↦ comes r (ap (task_of b') (sym d.1) ∙ k)
      | inr d ↦ not_coming n r c.who.number owner d.1 (sym (others n d.1) ∙ k) (ap (λ (id : ThreadId). id.number) (sym e))
    ])
    left_emptied n r (inr f) e =
        subst (IsEmptied (task_of b' i)) e (empties n f.entry
        (subst (λ (id : ThreadId). entry_of n (b'.queue id.number) ≡ Some f.entry) (sym e) f.stands))

    left_freed : (t n : ℕ) (e : SenderEntry) → entry_of n (b'.queue t) ≡ Some e → IsFreed (Empties c o) t n → ⊥
    left_freed t n e q k =
        let z = which t n k in
        (left_here n e (subst (λ (m : ℕ). entry_of n (b'.queue m) ≡ Some e) (sym z.0) q)).1 (sym z.1)

    pub empty_step : QueueStep b b' i
    empty_step = record {
      size = size;
      version = version;
      dead = dead;
      back = λ n r y. left_back n r y (by_s' n);
      others = others;
      once = λ t. left_once t (by_v t);
      senders = λ t n e q. h.senders t n e (left_was t n e q (by_v t));
      entries = λ t n e q. inl (left_was t n e q (by_v t));
      waits = λ t n e q y. inl (left_waits t n e q y (by_s' n) (by_v t));
      taken = λ n e q k. absurd (empties_takes (sym was ∙ k));
      freed = λ t n e q k. absurd (left_freed t n e q (subst (λ (u : Task). IsFreed u t n) was k));
      killed = λ t n e q k. visits (sender_of e) t (subst (λ (u : Task). IsToVisit u (sender_of e) t) was k);
      stands = λ n r y k. left_stands n r y k (by_v r.number);
      comes = λ r k. absurd (empties_comes (sym was ∙ k));
      emptied = λ n r y f k. left_emptied n r f (subst (λ (u : Task). IsEmptied u r) was k);
      new_comes = λ r k. absurd (comes r k);
      visits = λ n r ne k v. visits (id_at b n) r.number (subst (λ (u : Task). IsToVisit u (id_at b n) r.number) was v);
      new_freed = λ t n k. absurd (frees t n k);
    }

  -- a number is visited, and the victim's entry leaves its queue
  module _ (m : ℕ) (was : task_of b i ≡ Visits c m)
      (visits : (id : ThreadId) (t : ℕ) → IsAhead c m id t → t ≢ m → IsToVisit (task_of b' i) id t)
      (frees : (t n : ℕ) → IsFreed (task_of b' i) t n → ⊥) (comes : (r : ThreadId) → task_of b' i ≡ Comes r → ⊥)
      (owner : b.owner m ≡ Some i) (gone : is_dead (b.seen c.who.number).word ≡ true)
      (words : (n : ℕ) → SameWait (b.seen n).word (b'.seen n).word) (but : (t : ℕ) → t ≢ m → b'.queue t ≡ b.queue t)
      (once : IsOnceEach (b'.queue m))
      (left : (n : ℕ) (e : SenderEntry) → entry_of n (b'.queue m) ≡ Some e →
      (entry_of n (b.queue m) ≡ Some e) × (sender_of e ≢ c.who))
      (keep : (n : ℕ) (e : SenderEntry) → entry_of n (b.queue m) ≡ Some e → sender_of e ≢ c.who →
      entry_of n (b'.queue m) ≡ Some e) where
    by_m : (t : ℕ) → (t ≡ m) ⊎ (t ≢ m)
    by_m t = elim (eqb_tells t m) [ inl e ↦ inl e.1 | inr e ↦ inr e.1 ]

    seen_was : (t n : ℕ) (e : SenderEntry) → entry_of n (b'.queue t) ≡ Some e → (t ≡ m) ⊎ (t ≢ m) →
        entry_of n (b.queue t) ≡ Some e
    seen_was t n e q (inl d) =
        subst (λ (k : ℕ). entry_of n (b.queue k) ≡ Some e) (sym d)
        (left n e (subst (λ (k : ℕ). entry_of n (b'.queue k) ≡ Some e) d q)).0
    seen_was t n e q (inr d) = ap (λ (es : List SenderEntry). entry_of n es) (sym (but t d)) ∙ q

    seen_killed : (t n : ℕ) (e : SenderEntry) → entry_of n (b'.queue t) ≡ Some e → IsAhead c m (sender_of e) t →
        (t ≡ m) ⊎ (t ≢ m) → IsToVisit (task_of b' i) (sender_of e) t
    seen_killed t n e q k (inl d) = absurd ((left n e (subst (λ (u : ℕ). entry_of n (b'.queue u) ≡ Some e) d q)).1 (sym k.who))
    seen_killed t n e q k (inr d) = visits (sender_of e) t k d

    seen_stands : (n : ℕ) (r : ThreadId) → sends_to r (b'.seen n).word.state ≡ true → HasEntry b n r →
        (r.number ≡ m) ⊎ (r.number ≢ m) → HasEntry b' n r
    seen_stands n r y k (inr d) = has_entry_stays b b' n r (words n).version (but r.number d) k
    seen_stands n r y k (inl d) = record {
      entry = k.entry;
      stands =
          ap (λ (u : ℕ). entry_of n (b'.queue u)) d ∙ keep n k.entry
          (subst (λ (u : ℕ). entry_of n (b.queue u) ≡ Some k.entry) d k.stands) apart;
      sender = k.sender ∙ sym (id_stays b b' n (words n).version);
    }
      where
        apart : sender_of k.entry ≢ c.who
        apart z =
            dead_silent r (b.seen c.who.number).word gone (subst (λ (u : ℕ). sends_to r (b.seen u).word.state ≡ true)
            (ap (λ (id : ThreadId). id.number) (sym k.sender ∙ z)) (sym ((words n).sends r) ∙ y))

    pub visit_step : QueueStep b b' i
    visit_step = record {
      size = size;
      version = λ n. (words n).version;
      dead = λ n. (words n).dead;
      back = λ n r y. sym ((words n).sends r) ∙ y;
      others = others;
      once =
          λ t. elim (by_m t) [
            | inl d ↦ subst (λ (u : ℕ). IsOnceEach (b'.queue u)) (sym d) once
            | inr d ↦ subst IsOnceEach (sym (but t d)) (h.once t)
          ];
      senders = λ t n e q. h.senders t n e (seen_was t n e q (by_m t));
      entries = λ t n e q. inl (seen_was t n e q (by_m t));
      waits = λ t n e q y. inl ((words n).sends (id_at b t) ∙ y);
      taken = λ n e q k. absurd (visits_takes (sym was ∙ k));
      freed = λ t n e q k. absurd (subst (λ (u : Task). IsFreed u t n) was k);
      killed = λ t n e q k. seen_killed t n e q (subst (λ (u : Task). IsToVisit u (sender_of e) t) was k) (by_m t);
      stands = λ n r y k. seen_stands n r y k (by_m r.number);
      comes = λ r k. absurd (visits_comes (sym was ∙ k));
      emptied = λ n r y f k. absurd (subst (λ (u : Task). IsEmptied u r) was k);
      new_comes = λ r k. absurd (comes r k);
      visits =
          λ n r ne k v. visits (id_at b n) r.number (subst (λ (u : Task). IsToVisit u (id_at b n) r.number) was v)
          (not_coming n r m owner ne k);
      new_freed = λ t n k. absurd (frees t n k);
    }

  -- the visits begin
  module _ (m : ℕ) (was : task_of b i ≡ Visits c m)
      (visits : (id : ThreadId) (t : ℕ) → IsAhead c m id t → IsToVisit (task_of b' i) id t)
      (frees : (t n : ℕ) → IsFreed (task_of b' i) t n → ⊥) (comes : (r : ThreadId) → task_of b' i ≡ Comes r → ⊥)
      (words : (n : ℕ) → SameWait (b.seen n).word (b'.seen n).word) (queue : (t : ℕ) → b'.queue t ≡ b.queue t) where
    kept_entry : (t n : ℕ) (e : SenderEntry) → entry_of n (b'.queue t) ≡ Some e → entry_of n (b.queue t) ≡ Some e
    kept_entry t n e q = ap (λ (es : List SenderEntry). entry_of n es) (sym (queue t)) ∙ q

    pub onward_step : QueueStep b b' i
    onward_step = record {
      size = size;
      version = λ n. (words n).version;
      dead = λ n. (words n).dead;
      back = λ n r y. sym ((words n).sends r) ∙ y;
      others = others;
      once = λ t. subst IsOnceEach (sym (queue t)) (h.once t);
      senders = λ t n e q. h.senders t n e (kept_entry t n e q);
      entries = λ t n e q. inl (kept_entry t n e q);
      waits = λ t n e q y. inl ((words n).sends (id_at b t) ∙ y);
      taken = λ n e q k. absurd (visits_takes (sym was ∙ k));
      freed = λ t n e q k. absurd (subst (λ (u : Task). IsFreed u t n) was k);
      killed = λ t n e q k. visits (sender_of e) t (subst (λ (u : Task). IsToVisit u (sender_of e) t) was k);
      stands = λ n r y k. has_entry_stays b b' n r (words n).version (queue r.number) k;
      comes = λ r k. absurd (visits_comes (sym was ∙ k));
      emptied = λ n r y f k. absurd (subst (λ (u : Task). IsEmptied u r) was k);
      new_comes = λ r k. absurd (comes r k);
      visits = λ n r ne k v. visits (id_at b n) r.number (subst (λ (u : Task). IsToVisit u (id_at b n) r.number) was v);
      new_freed = λ t n k. absurd (frees t n k);
    }
