-- A thread begins to wait; a thread is made; and a thread is destroyed.
use Rattle.std.proofs.Common.{◌≡◌, ◌≢◌, ℕ, ◌<◌, ◌≤◌, true, false, sym, ap, ◌∙◌, subst, Some, List, ◌⊎◌, inl, inr, eqb}
use Rattle.std.specs.Prelude.{not}
use Rattle.std.proofs.lemmas.Bool.{and_parts, cases_Bool, eqb-true}
use Rattle.std.proofs.lemmas.Bool.Decides.{eqb_tells}
use Rattle.k_ids.specs.declared.threads.ThreadId.{ThreadId}
use Rattle.k_ids.specs.declared.state_word.StateWord.{StateWord}
use Rattle.k_model.specs.State.{same_id}
use Rattle.k_senders.specs.declared.entries.SenderEntry.{SenderEntry}
use Rattle.k_senders.specs.Entries.{number_of, sender_of}
use Rattle.k_senders.specs.Queue.{IsOnceEach, entry_of}
use Rattle.k_locks.specs.Shown.{is_dead, is_present_in}
use Rattle.k_ipc.specs.Words.{sends_to}
use Rattle.k_threads.specs.declared.destroy.DestroyCall.{DestroyCall}
use Rattle.k_board.specs.Boards.{Board, id_at}
use Rattle.k_board.specs.Facts.{waits_for}
use Rattle.k_queues.specs.Tasks.{Comes, Idle, IsEmptied, IsFreed, IsToVisit, Somewhere, Task, task_of}
use Rattle.k_queues.specs.Queues.{HasEntry, IsQueued, IsSender, QueuesHold, Reason, by_free, by_kill, by_take, by_wait}
use Rattle.k_queues.proofs.Entries.{dead_silent, of_number, same_is, some_is, true_false}
use Rattle.k_queues.proofs.Moves.{idle_comes, idle_takes}
use Rattle.k_queues.proofs.Quiet.{SameWait, has_entry_stays}
use Rattle.k_queues.proofs.Steps.{id_stays, present_stays, somewhere_stays, waits_is, waits_parts}
use Rattle.k_queues.proofs.Tasks.{TaskSays, emptied_mine, freed_destroying, freed_mine, visits_mine}

module _ (b b' : Board) (i : ℕ) (h : QueuesHold b) (says : (n : ℕ) → TaskSays b n (task_of b n)) (size : b'.size ≡ b.size)
    (queue : (t : ℕ) → b'.queue t ≡ b.queue t) (others : (n : ℕ) → n ≢ i → task_of b' n ≡ task_of b n) where
  was_entry : (t n : ℕ) (e : SenderEntry) → entry_of n (b'.queue t) ≡ Some e → entry_of n (b.queue t) ≡ Some e
  was_entry t n e q = ap (λ (es : List SenderEntry). entry_of n es) (sym (queue t)) ∙ q

  now_once : (t : ℕ) → IsOnceEach (b'.queue t)
  now_once t = subst IsOnceEach (sym (queue t)) (h.once t)

  now_senders : (t n : ℕ) (e : SenderEntry) → entry_of n (b'.queue t) ≡ Some e → IsSender b'.size t e
  now_senders t n e q = subst (λ (k : ℕ). IsSender k t e) (sym size) (h.senders t n e (was_entry t n e q))

  now_size : b'.size ≤ 64
  now_size = subst (λ (n : ℕ). n ≤ 64) (sym size) h.size

  by_i : (n : ℕ) → (n ≡ i) ⊎ (n ≢ i)
  by_i n = elim (eqb_tells n i) [ inl e ↦ inl e.1 | inr e ↦ inr e.1 ]

  -- a thread begins to wait
  module _ (to : ThreadId) (was : task_of b i ≡ Idle) (now : task_of b' i ≡ Comes to)
      (words : (n : ℕ) → n ≢ i → SameWait (b.seen n).word (b'.seen n).word)
      (version : (b'.seen i).word.version ≡ (b.seen i).word.version) (alive : is_dead (b.seen i).word ≡ false)
      (still : is_dead (b'.seen i).word ≡ false) (silent : (r : ThreadId) → sends_to r (b.seen i).word.state ≡ false)
      (sends : (r : ThreadId) → sends_to r (b'.seen i).word.state ≡ same_id to r)
      (present : is_present_in (b.seen to.number).word to ≡ true) where
    begun_version : (n : ℕ) → (n ≡ i) ⊎ (n ≢ i) → (b'.seen n).word.version ≡ (b.seen n).word.version
    begun_version n (inl d) = subst (λ (m : ℕ). (b'.seen m).word.version ≡ (b.seen m).word.version) (sym d) version
    begun_version n (inr d) = (words n d).version

    begun_dead : (n : ℕ) → (n ≡ i) ⊎ (n ≢ i) → is_dead (b'.seen n).word ≡ is_dead (b.seen n).word
    begun_dead n (inl d) = subst (λ (m : ℕ). is_dead (b'.seen m).word ≡ is_dead (b.seen m).word) (sym d) (still ∙ sym alive)
    begun_dead n (inr d) = (words n d).dead

    begun_id : (n : ℕ) → id_at b' n ≡ id_at b n
    begun_id n = id_stays b b' n (begun_version n (by_i n))

    begun_sends : (n : ℕ) (r : ThreadId) → sends_to r (b.seen n).word.state ≡ true → (n ≡ i) ⊎ (n ≢ i) →
        sends_to r (b'.seen n).word.state ≡ true
    begun_sends n r y (inl d) = absurd (true_false (subst (λ (m : ℕ). sends_to r (b.seen m).word.state ≡ true) d y) (silent r))
    begun_sends n r y (inr d) = (words n d).sends r ∙ y

    begun_stays : (P : Task → Type 0) → (P Idle → ⊥) → Somewhere b P → Somewhere b' P
    begun_stays P none s = somewhere_stays b b' i others P (λ k. absurd (none (subst P was k))) s

    begun_reason : (t n : ℕ) (e : SenderEntry) → Reason b t n e → Reason b' t n e
    begun_reason t n e (by_wait w) =
        let p = waits_parts (id_at b t) e (b.seen n).word w in
        by_wait (waits_is (id_at b' t) e (b'.seen n).word (begun_version n (by_i n) ∙ p.0)
        (subst (λ (id : ThreadId). sends_to id (b'.seen n).word.state ≡ true) (sym (begun_id t))
        (begun_sends n (id_at b t) p.1 (by_i n))))
    begun_reason t n e (by_take k) = by_take (elim (by_i t) [
      | inl d ↦ absurd (idle_takes (sym was ∙ ap (task_of b) (sym d) ∙ k))
      | inr d ↦ others t d ∙ k
    ])
    begun_reason t n e (by_free k) = by_free (begun_stays (λ (u : Task). IsFreed u t n) (λ v. v) k)
    begun_reason t n e (by_kill k) = by_kill (begun_stays (λ (u : Task). IsToVisit u (sender_of e) t) (λ v. v) k)

    begun_there : (r : ThreadId) → (is_present_in (b.seen r.number).word r ≡ true) ⊎ Somewhere b (λ (k : Task). IsEmptied k r) →
        (is_present_in (b'.seen r.number).word r ≡ true) ⊎ Somewhere b' (λ (k : Task). IsEmptied k r)
    begun_there r (inl y) =
        inl (present_stays (b.seen r.number).word (b'.seen r.number).word r (begun_version r.number (by_i r.number))
        (begun_dead r.number (by_i r.number)) y)
    begun_there r (inr y) = inr (begun_stays (λ (u : Task). IsEmptied u r) (λ v. v) y)

    begun_queued : (n : ℕ) (r : ThreadId) → sends_to r (b'.seen n).word.state ≡ true → (n ≡ i) ⊎ (n ≢ i) → IsQueued b' n r
    begun_queued n r y (inl d) =
        let same : to ≡ r = same_is to r (sym (sends r) ∙ subst (λ (m : ℕ). sends_to r (b'.seen m).word.state ≡ true) d y) in
        record {
          entry = inl (ap (task_of b') d ∙ now ∙ ap Comes same);
          there = begun_there r (inl (subst
              (λ (id : ThreadId). is_present_in (b.seen id.number).word id ≡ true) same present));
        }
    begun_queued n r y (inr d) =
        let q = h.waiting n r (sym ((words n d).sends r) ∙ y) in
        record {
          entry =
              elim q.entry [
                | inl k ↦ inl (others n d ∙ k)
                | inr k ↦ inr
                    (has_entry_stays b b' n r (words n d).version (queue r.number) k)
              ];
          there = begun_there r q.there;
        }

    begun_coming : (n : ℕ) (r : ThreadId) → task_of b' n ≡ Comes r → is_dead (b'.seen n).word ≡ true → (n ≡ i) ⊎ (n ≢ i) →
        Somewhere b' (λ (k : Task). IsToVisit k (id_at b' n) r.number)
    begun_coming n r k d (inl e) = absurd (true_false (subst (λ (m : ℕ). is_dead (b'.seen m).word ≡ true) e d) still)
    begun_coming n r k d (inr e) =
        subst (λ (id : ThreadId). Somewhere b' (λ (u : Task). IsToVisit u id r.number)) (sym (begun_id n))
        (begun_stays (λ (u : Task). IsToVisit u (id_at b n) r.number) (λ v. v)
        (h.coming n r (sym (others n e) ∙ k) (sym (words n e).dead ∙ d)))

    begun_freed : (j t n : ℕ) → IsFreed (task_of b' j) t n → (j ≡ i) ⊎ (j ≢ i) → (n ≡ i) ⊎ (n ≢ i) →
        sends_to (id_at b' t) (b'.seen n).word.state ≡ false
    begun_freed j t n k (inl e) m = absurd (subst (λ (u : Task). IsFreed u t n) (ap (task_of b') e ∙ now) k)
    begun_freed j t n k (inr e) (inr m) =
        subst (λ (id : ThreadId). sends_to id (b'.seen n).word.state ≡ false) (sym (begun_id t))
        ((words n m).sends (id_at b t) ∙ h.freed j t n (subst (λ (u : Task). IsFreed u t n) (others j e) k))
    begun_freed j t n k (inr e) (inl m) = elim (cases_Bool (sends_to (id_at b' t) (b'.seen n).word.state)) [
      | inr y ↦ y
      | inl y ↦
          let same : to ≡ id_at b' t = same_is to (id_at b' t)
          (sym (sends (id_at b' t)) ∙ subst (λ (u : ℕ). sends_to (id_at b' t) (b'.seen u).word.state ≡ true) m y) in
          let gone = (freed_destroying b j t n (task_of b j) (says j) (subst (λ (u : Task). IsFreed u t n) (others j e) k)).1 in
          absurd (not_there (b.seen t).word (subst (λ (u : ℕ). is_present_in (b.seen u).word to ≡ true)
          (ap (λ (id : ThreadId). id.number) same) present) gone)
    ]
      where
        not_there : (w : StateWord) → is_present_in w to ≡ true → is_dead w ≡ true → ⊥
        not_there w p d = true_false (and_parts (eqb w.version to.version) (not (is_dead w)) p).1 (ap not d)

    pub begin_keeps : QueuesHold b'
    begin_keeps = record {
      size = now_size;
      once = now_once;
      senders = now_senders;
      reasons = λ t n e q. begun_reason t n e (h.reasons t n e (was_entry t n e q));
      waiting = λ n r y. begun_queued n r y (by_i n);
      coming = λ n r k d. begun_coming n r k d (by_i n);
      freed = λ j t n k. begun_freed j t n k (by_i j) (by_i n);
    }

  -- a thread is made
  module _ (m : ℕ) (same : (n : ℕ) → task_of b' n ≡ task_of b n) (was : task_of b i ≡ Idle) (table : b.table ≡ Some i)
      (words : (n : ℕ) → n ≢ m → SameWait (b.seen n).word (b'.seen n).word) (dead : is_dead (b.seen m).word ≡ true)
      (lives : is_dead (b'.seen m).word ≡ false) (silent : (r : ThreadId) → sends_to r (b'.seen m).word.state ≡ false) where
    by_m : (n : ℕ) → (n ≡ m) ⊎ (n ≢ m)
    by_m n = elim (eqb_tells n m) [ inl e ↦ inl e.1 | inr e ↦ inr e.1 ]

    made_stays : (P : Task → Type 0) → Somewhere b P → Somewhere b' P
    made_stays P s = record { number = s.number; has = subst P (sym (same s.number)) s.has }

    -- nobody waits for the number's thread of before
    not_for : (n : ℕ) (to : ThreadId) → sends_to to (b.seen n).word.state ≡ true → to.number ≢ m
    not_for n to y d = elim (h.waiting n to y).there [
      | inl p ↦
          true_false (and_parts (eqb (b.seen to.number).word.version to.version) (not (is_dead (b.seen to.number).word)) p).1
          (ap not (subst (λ (u : ℕ). is_dead (b.seen u).word ≡ true) (sym d) dead))
      | inr s ↦ subst (λ (u : Task). IsEmptied u to) was (emptied_mine b says i table to s)
    ]

    was_other : (n : ℕ) (to : ThreadId) → sends_to to (b.seen n).word.state ≡ true → n ≢ m
    was_other n to y d = dead_silent to (b.seen m).word dead (subst (λ (u : ℕ). sends_to to (b.seen u).word.state ≡ true) d y)

    now_other : (n : ℕ) (to : ThreadId) → sends_to to (b'.seen n).word.state ≡ true → n ≢ m
    now_other n to y d = true_false (subst (λ (u : ℕ). sends_to to (b'.seen u).word.state ≡ true) d y) (silent to)

    made_reason : (t n : ℕ) (e : SenderEntry) → Reason b t n e → Reason b' t n e
    made_reason t n e (by_wait w) =
        let p = waits_parts (id_at b t) e (b.seen n).word w in
        let k = words n (was_other n (id_at b t) p.1) in
        by_wait (waits_is (id_at b' t) e (b'.seen n).word (k.version ∙ p.0)
        (subst (λ (id : ThreadId). sends_to id (b'.seen n).word.state ≡ true)
        (sym (id_stays b b' t (words t (not_for n (id_at b t) p.1)).version)) (k.sends (id_at b t) ∙ p.1)))
    made_reason t n e (by_take k) = by_take (same t ∙ k)
    made_reason t n e (by_free k) = by_free (made_stays (λ (u : Task). IsFreed u t n) k)
    made_reason t n e (by_kill k) = by_kill (made_stays (λ (u : Task). IsToVisit u (sender_of e) t) k)

    made_queued : (n : ℕ) (r : ThreadId) → sends_to r (b'.seen n).word.state ≡ true → IsQueued b' n r
    made_queued n r y =
        let k = words n (now_other n r y) in
        let z = sym (k.sends r) ∙ y in
        let q = h.waiting n r z in
        let o = words r.number (not_for n r z) in
        record {
          entry = elim q.entry [ inl k ↦ inl (same n ∙ k) | inr f ↦ inr (has_entry_stays b b' n r k.version (queue r.number) f) ];
          there =
              elim q.there [
                | inl p ↦ inl (present_stays (b.seen r.number).word (b'.seen r.number).word r o.version o.dead p)
                | inr s ↦ inr (made_stays (λ (u : Task). IsEmptied u r) s)
              ];
        }

    made_coming : (n : ℕ) (r : ThreadId) → task_of b' n ≡ Comes r → is_dead (b'.seen n).word ≡ true → (n ≡ m) ⊎ (n ≢ m) →
        Somewhere b' (λ (k : Task). IsToVisit k (id_at b' n) r.number)
    made_coming n r k d (inl e) = absurd (true_false (subst (λ (u : ℕ). is_dead (b'.seen u).word ≡ true) e d) lives)
    made_coming n r k d (inr e) =
        subst (λ (id : ThreadId). Somewhere b' (λ (u : Task). IsToVisit u id r.number))
        (sym (id_stays b b' n (words n e).version)) (made_stays (λ (u : Task). IsToVisit u (id_at b n) r.number)
        (h.coming n r (sym (same n) ∙ k) (sym (words n e).dead ∙ d)))

    pub make_keeps : QueuesHold b'
    make_keeps = record {
      size = now_size;
      once = now_once;
      senders = now_senders;
      reasons = λ t n e q. made_reason t n e (h.reasons t n e (was_entry t n e q));
      waiting = made_queued;
      coming = λ n r k d. made_coming n r k d (by_m n);
      freed =
          λ j t n k. absurd (subst (λ (u : Task). IsFreed u t n) was
          (freed_mine b says i table t n record { number = j; has = subst (λ (u : Task). IsFreed u t n) (same j) k }));
    }

  -- a thread is destroyed
  module _ (c : DestroyCall) (was : task_of b i ≡ Idle) (table : b.table ≡ Some i) (owner : b.owner c.who.number ≡ Some i)
      (is : id_at b c.who.number ≡ c.who) (words : (n : ℕ) → n ≢ c.who.number → SameWait (b.seen n).word (b'.seen n).word)
      (version : (b'.seen c.who.number).word.version ≡ (b.seen c.who.number).word.version)
      (dead : is_dead (b'.seen c.who.number).word ≡ true)
      (visits : (t : ℕ) → t ≢ c.who.number → t < b.size → IsToVisit (task_of b' i) c.who t)
      (empties : (n : ℕ) (e : SenderEntry) → entry_of n (b.queue c.who.number) ≡ Some e → IsEmptied (task_of b' i) c.who)
      (frees : (t n : ℕ) → IsFreed (task_of b' i) t n → ⊥) (comes : (r : ThreadId) → task_of b' i ≡ Comes r → ⊥) where
    by_v : (n : ℕ) → (n ≡ c.who.number) ⊎ (n ≢ c.who.number)
    by_v n = elim (eqb_tells n c.who.number) [ inl e ↦ inl e.1 | inr e ↦ inr e.1 ]

    killed_version : (n : ℕ) → (n ≡ c.who.number) ⊎ (n ≢ c.who.number) → (b'.seen n).word.version ≡ (b.seen n).word.version
    killed_version n (inl d) = subst (λ (m : ℕ). (b'.seen m).word.version ≡ (b.seen m).word.version) (sym d) version
    killed_version n (inr d) = (words n d).version

    killed_id : (n : ℕ) → id_at b' n ≡ id_at b n
    killed_id n = id_stays b b' n (killed_version n (by_v n))

    no_visit : (t : ℕ) (id : ThreadId) → Somewhere b (λ (u : Task). IsToVisit u id t) → ⊥
    no_visit t id s = subst (λ (u : Task). IsToVisit u id t) was (visits_mine b says i table t id s)

    no_freed : (t n : ℕ) → Somewhere b (λ (u : Task). IsFreed u t n) → ⊥
    no_freed t n s = subst (λ (u : Task). IsFreed u t n) was (freed_mine b says i table t n s)

    -- who is about to come into a queue isn't in the destroy, and comes to another queue than the victim's
    comes_apart : (n : ℕ) (to : ThreadId) → task_of b n ≡ Comes to → (n ≢ i) × (to.number ≢ c.who.number)
    comes_apart n to k =
        let ne = λ (d : n ≡ i). idle_comes (sym was ∙ ap (task_of b) (sym d) ∙ k) in
        let s = subst (TaskSays b n) k (says n) in
        (ne, λ d. ne (some_is (sym s.owner ∙ ap b.owner d ∙ owner)))

    killed_wait : (t n : ℕ) (e : SenderEntry) → entry_of n (b.queue t) ≡ Some e → waits_for (id_at b t) e (b.seen n).word ≡ true →
        (n ≡ c.who.number) ⊎ (n ≢ c.who.number) → Reason b' t n e
    killed_wait t n e q w (inl d) =
        let p = waits_parts (id_at b t) e (b.seen n).word w in
        let sent = h.senders t n e q in
        let number : number_of e ≡ c.who.number = of_number n (b.queue t) e q ∙ d in
        let sender : c.who ≡ sender_of e = sym is ∙ (λ z. record {
          number = sym number z;
          version = (ap (λ (m : ℕ). (b.seen m).word.version) (sym d) ∙ p.0) z;
        }) in
        by_kill record {
          number = i;
          has = subst (λ (id : ThreadId). IsToVisit (task_of b' i) id t) sender
              (visits t (λ z. sent.apart (number ∙ sym z)) sent.inside);
        }
    killed_wait t n e q w (inr d) =
        let p = waits_parts (id_at b t) e (b.seen n).word w in
        let k = words n d in
        by_wait (waits_is (id_at b' t) e (b'.seen n).word (k.version ∙ p.0)
        (subst (λ (id : ThreadId). sends_to id (b'.seen n).word.state ≡ true) (sym (killed_id t))
        (k.sends (id_at b t) ∙ p.1)))

    killed_reason : (t n : ℕ) (e : SenderEntry) → entry_of n (b.queue t) ≡ Some e → Reason b t n e → Reason b' t n e
    killed_reason t n e q (by_wait w) = killed_wait t n e q w (by_v n)
    killed_reason t n e q (by_take k) = by_take (elim (by_i t) [
      | inl d ↦ absurd (idle_takes (sym was ∙ ap (task_of b) (sym d) ∙ k))
      | inr d ↦ others t d ∙ k
    ])
    killed_reason t n e q (by_free k) = absurd (no_freed t n k)
    killed_reason t n e q (by_kill k) = absurd (no_visit t (sender_of e) k)

    killed_other : (n : ℕ) (to : ThreadId) → sends_to to (b'.seen n).word.state ≡ true → n ≢ c.who.number
    killed_other n to y d =
        dead_silent to (b'.seen c.who.number).word dead (subst (λ (u : ℕ). sends_to to (b'.seen u).word.state ≡ true) d y)

    killed_there : (n : ℕ) (r : ThreadId) → (task_of b n ≡ Comes r) ⊎ HasEntry b n r →
        (is_present_in (b.seen r.number).word r ≡ true) ⊎ Somewhere b (λ (k : Task). IsEmptied k r) →
        (r.number ≡ c.who.number) ⊎ (r.number ≢ c.who.number) →
        (is_present_in (b'.seen r.number).word r ≡ true) ⊎ Somewhere b' (λ (k : Task). IsEmptied k r)
    killed_there n r q (inr s) d = absurd (subst (λ (u : Task). IsEmptied u r) was (emptied_mine b says i table r s))
    killed_there n r q (inl p) (inr d) =
        inl (present_stays (b.seen r.number).word (b'.seen r.number).word r (words r.number d).version (words r.number d).dead p)
    killed_there n r (inl k) (inl p) (inl d) = absurd ((comes_apart n r k).1 d)
    killed_there n r (inr f) (inl p) (inl d) =
        let version_r = eqb-true (b.seen r.number).word.version r.version
        (and_parts (eqb (b.seen r.number).word.version r.version) (not (is_dead (b.seen r.number).word)) p).0 in
        let same : c.who ≡ r = sym is ∙ (λ z. record {
          number = sym d z;
          version = (ap (λ (m : ℕ). (b.seen m).word.version) (sym d) ∙ version_r) z;
        }) in
        inr record {
          number = i;
          has = subst (λ (id : ThreadId). IsEmptied (task_of b' i) id) same
              (empties n f.entry (subst (λ (m : ℕ). entry_of n (b.queue m) ≡ Some f.entry) d f.stands));
        }

    killed_queued : (n : ℕ) (r : ThreadId) → sends_to r (b'.seen n).word.state ≡ true → IsQueued b' n r
    killed_queued n r y =
        let k = words n (killed_other n r y) in
        let q = h.waiting n r (sym (k.sends r) ∙ y) in
        record {
          entry =
              elim q.entry [
                | inl u ↦ inl (others n (comes_apart n r u).0 ∙ u)
                | inr f ↦ inr (has_entry_stays b b' n r k.version (queue r.number) f)
              ];
          there = killed_there n r q.entry q.there (by_v r.number);
        }

    killed_coming : (n : ℕ) (r : ThreadId) → task_of b n ≡ Comes r → is_dead (b'.seen n).word ≡ true →
        (n ≡ c.who.number) ⊎ (n ≢ c.who.number) → Somewhere b' (λ (k : Task). IsToVisit k (id_at b' n) r.number)
    killed_coming n r k d (inl e) =
        let s = subst (TaskSays b n) k (says n) in
        record {
          number = i;
          has = subst (λ (id : ThreadId). IsToVisit (task_of b' i) id r.number)
              (sym is ∙ ap (id_at b) (sym e) ∙ sym (killed_id n)) (visits r.number (comes_apart n r k).1 s.range.number);
        }
    killed_coming n r k d (inr e) = absurd (no_visit r.number (id_at b n) (h.coming n r k (sym (words n e).dead ∙ d)))

    pub kill_keeps : QueuesHold b'
    kill_keeps = record {
      size = now_size;
      once = now_once;
      senders = now_senders;
      reasons = λ t n e q. let w = was_entry t n e q in killed_reason t n e w (h.reasons t n e w);
      waiting = killed_queued;
      coming =
          λ n r k d. elim (by_i n) [
            | inl z ↦ absurd (comes r (ap (task_of b') (sym z) ∙ k))
            | inr z ↦ killed_coming n r (sym (others n z) ∙ k) d (by_v n)
          ];
      freed = λ j t n k. elim (by_i j) [
        | inl z ↦ absurd (frees t n (subst (λ (m : ℕ). IsFreed (task_of b' m) t n) z k))
        | inr z ↦ absurd (no_freed t n record { number = j; has = subst (λ (u : Task). IsFreed u t n) (others j z) k })
      ];
    }
