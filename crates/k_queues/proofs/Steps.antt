-- What a step has to show so that the queues hold after it, where it makes nobody wait, and destroys and makes no thread.
use Rattle.std.proofs.Common.{◌≡◌, ◌≢◌, ℕ, ◌≤◌, true, false, refl, sym, ap, ◌∙◌, subst, Some, ◌⊎◌, inl, inr, eqb}
use Rattle.std.proofs.lemmas.Bool.{and_parts, cases_Bool, eqb-true, eq-eqb}
use Rattle.std.proofs.lemmas.Bool.Decides.{eqb_tells}
use Rattle.k_ids.specs.declared.threads.ThreadId.{ThreadId}
use Rattle.k_ids.specs.declared.state_word.StateWord.{StateWord}
use Rattle.k_senders.specs.declared.entries.SenderEntry.{SenderEntry}
use Rattle.k_senders.specs.Entries.{sender_of}
use Rattle.k_senders.specs.Queue.{IsOnceEach, entry_of}
use Rattle.k_locks.specs.Shown.{is_dead, is_present_in}
use Rattle.k_ipc.specs.Words.{sends_to}
use Rattle.k_board.specs.Boards.{Board, id_at}
use Rattle.k_board.specs.Facts.{waits_for}
use Rattle.k_queues.proofs.Entries.{true_false}
use Rattle.k_queues.specs.Tasks.{Comes, IsEmptied, IsFreed, IsToVisit, Somewhere, TakesOut, Task, task_of}
use Rattle.k_queues.specs.Queues.{HasEntry, IsQueued, IsSender, QueuesHold, Reason, by_free, by_kill, by_take, by_wait}

-- another context has the task, or this one still has it
pub somewhere_stays : (b b' : Board) (i : ℕ) → ((n : ℕ) → n ≢ i → task_of b' n ≡ task_of b n) → (P : Task → Type 0) →
    (P (task_of b i) → P (task_of b' i)) → Somewhere b P → Somewhere b' P
somewhere_stays b b' i others P f s = elim (eqb_tells s.number i) [
  | inl e ↦ record { number = i; has = f (subst (λ (n : ℕ). P (task_of b n)) e.1 s.has) }
  | inr e ↦ record { number = s.number; has = subst P (sym (others s.number e.1)) s.has }
]

pub waits_is : (to : ThreadId) (e : SenderEntry) (w : StateWord) → w.version ≡ (sender_of e).version →
    sends_to to w.state ≡ true → waits_for to e w ≡ true
waits_is to e w v s = rw (eq-eqb w.version (sender_of e).version v, s) refl

pub waits_parts : (to : ThreadId) (e : SenderEntry) (w : StateWord) → waits_for to e w ≡ true →
    (w.version ≡ (sender_of e).version) × (sends_to to w.state ≡ true)
waits_parts to e w h =
    let p = and_parts (eqb w.version (sender_of e).version) (sends_to to w.state) h in
    (eqb-true w.version (sender_of e).version p.0, p.1)

pub id_stays : (b b' : Board) (n : ℕ) → (b'.seen n).word.version ≡ (b.seen n).word.version → id_at b' n ≡ id_at b n
id_stays b b' n e = ap (λ (v : ℕ). record { number = n; version = v }) e

pub present_stays : (w u : StateWord) (to : ThreadId) → u.version ≡ w.version → is_dead u ≡ is_dead w →
    is_present_in w to ≡ true → is_present_in u to ≡ true
present_stays w u to v d h = rw (v, d) h

pub record QueueStep (b b' : Board) (i : ℕ) : Type 0 where
  pub size : b'.size ≡ b.size
  pub version : (n : ℕ) → (b'.seen n).word.version ≡ (b.seen n).word.version
  pub dead : (n : ℕ) → is_dead (b'.seen n).word ≡ is_dead (b.seen n).word
  -- nobody begins to wait
  pub back : (n : ℕ) (to : ThreadId) → sends_to to (b'.seen n).word.state ≡ true → sends_to to (b.seen n).word.state ≡ true
  pub others : (n : ℕ) → n ≢ i → task_of b' n ≡ task_of b n
  pub once : (t : ℕ) → IsOnceEach (b'.queue t)
  pub senders : (t n : ℕ) (e : SenderEntry) → entry_of n (b'.queue t) ≡ Some e → IsSender b.size t e
  -- a new entry has a reason, and so has one whose sender waits no more, or whose reason was in the context that steps
  pub entries : (t n : ℕ) (e : SenderEntry) → entry_of n (b'.queue t) ≡ Some e →
      (entry_of n (b.queue t) ≡ Some e) ⊎ Reason b' t n e
  pub waits : (t n : ℕ) (e : SenderEntry) → entry_of n (b'.queue t) ≡ Some e →
      sends_to (id_at b t) (b.seen n).word.state ≡ true →
      (sends_to (id_at b t) (b'.seen n).word.state ≡ true) ⊎ Reason b' t n e
  pub taken : (n : ℕ) (e : SenderEntry) → entry_of n (b'.queue i) ≡ Some e → task_of b i ≡ TakesOut e →
      task_of b' i ≡ TakesOut e
  pub freed : (t n : ℕ) (e : SenderEntry) → entry_of n (b'.queue t) ≡ Some e → IsFreed (task_of b i) t n →
      IsFreed (task_of b' i) t n
  pub killed : (t n : ℕ) (e : SenderEntry) → entry_of n (b'.queue t) ≡ Some e → IsToVisit (task_of b i) (sender_of e) t →
      IsToVisit (task_of b' i) (sender_of e) t
  -- who waits keeps its entry, or its coming
  pub stands : (n : ℕ) (to : ThreadId) → sends_to to (b'.seen n).word.state ≡ true → HasEntry b n to → HasEntry b' n to
  pub comes : (to : ThreadId) → task_of b i ≡ Comes to → (task_of b' i ≡ Comes to) ⊎ HasEntry b' i to
  pub emptied : (n : ℕ) (to : ThreadId) → sends_to to (b'.seen n).word.state ≡ true →
      (task_of b' n ≡ Comes to) ⊎ HasEntry b' n to → IsEmptied (task_of b i) to → IsEmptied (task_of b' i) to
  -- of those that are about to come
  pub new_comes : (to : ThreadId) → task_of b' i ≡ Comes to → task_of b i ≡ Comes to
  pub visits : (n : ℕ) (to : ThreadId) → n ≢ i → task_of b n ≡ Comes to →
      IsToVisit (task_of b i) (id_at b n) to.number → IsToVisit (task_of b' i) (id_at b n) to.number
  pub new_freed : (t n : ℕ) → IsFreed (task_of b' i) t n → sends_to (id_at b t) (b'.seen n).word.state ≡ false

module _ (b b' : Board) (i : ℕ) (h : QueuesHold b) (s : QueueStep b b' i) where
  by_i : (n : ℕ) → (n ≡ i) ⊎ (n ≢ i)
  by_i n = elim (eqb_tells n i) [ inl e ↦ inl e.1 | inr e ↦ inr e.1 ]

  id_is : (n : ℕ) → id_at b' n ≡ id_at b n
  id_is n = id_stays b b' n (s.version n)

  not_back : (n : ℕ) (to : ThreadId) → sends_to to (b.seen n).word.state ≡ false → sends_to to (b'.seen n).word.state ≡ false
  not_back n to f = elim (cases_Bool (sends_to to (b'.seen n).word.state)) [
    | inl y ↦ absurd (true_false (s.back n to y) f)
    | inr y ↦ y
  ]

  reason_stays : (t n : ℕ) (e : SenderEntry) → entry_of n (b'.queue t) ≡ Some e → Reason b t n e → Reason b' t n e
  reason_stays t n e q (by_wait w) =
      let p = waits_parts (id_at b t) e (b.seen n).word w in
      elim (s.waits t n e q p.1) [
        | inl y ↦
            by_wait (waits_is (id_at b' t) e (b'.seen n).word (s.version n ∙ p.0)
            (subst (λ (id : ThreadId). sends_to id (b'.seen n).word.state ≡ true) (sym (id_is t)) y))
        | inr y ↦ y
      ]
  reason_stays t n e q (by_take k) = by_take (elim (by_i t) [
    | inl d ↦
        subst (λ (m : ℕ). task_of b' m ≡ TakesOut e) (sym d)
        (s.taken n e (subst (λ (m : ℕ). entry_of n (b'.queue m) ≡ Some e) d q) (subst (λ (m : ℕ). task_of b m ≡ TakesOut e) d k))
    | inr d ↦ s.others t d ∙ k
  ])
  reason_stays t n e q (by_free k) = by_free (somewhere_stays b b' i s.others (λ (k : Task). IsFreed k t n) (s.freed t n e q) k)
  reason_stays t n e q (by_kill k) =
      by_kill (somewhere_stays b b' i s.others (λ (k : Task). IsToVisit k (sender_of e) t) (s.killed t n e q) k)

  reasons_stay : (t n : ℕ) (e : SenderEntry) → entry_of n (b'.queue t) ≡ Some e → Reason b' t n e
  reasons_stay t n e q = elim (s.entries t n e q) [ inl y ↦ reason_stays t n e q (h.reasons t n e y) | inr y ↦ y ]

  entry_stays : (n : ℕ) (to : ThreadId) → sends_to to (b'.seen n).word.state ≡ true → (task_of b n ≡ Comes to) ⊎ HasEntry b n to →
      (task_of b' n ≡ Comes to) ⊎ HasEntry b' n to
  entry_stays n to w (inl k) = elim (by_i n) [
    | inl d ↦
        subst (λ (m : ℕ). (task_of b' m ≡ Comes to) ⊎ HasEntry b' m to) (sym d)
        (s.comes to (subst (λ (m : ℕ). task_of b m ≡ Comes to) d k))
    | inr d ↦ inl (s.others n d ∙ k)
  ]
  entry_stays n to w (inr k) = inr (s.stands n to w k)

  queued_stays : (n : ℕ) (to : ThreadId) → sends_to to (b'.seen n).word.state ≡ true → IsQueued b' n to
  queued_stays n to w =
      let q = h.waiting n to (s.back n to w) in
      let e = entry_stays n to w q.entry in
      record {
        entry = e;
        there = elim q.there [
          | inl y ↦
              inl (present_stays (b.seen to.number).word (b'.seen to.number).word to (s.version to.number) (s.dead to.number) y)
          | inr y ↦ inr (somewhere_stays b b' i s.others (λ (k : Task). IsEmptied k to) (s.emptied n to w e) y)
        ];
      }

  coming_stays : (n : ℕ) (to : ThreadId) → task_of b' n ≡ Comes to → is_dead (b'.seen n).word ≡ true → (n ≡ i) ⊎ (n ≢ i) →
      Somewhere b' (λ (k : Task). IsToVisit k (id_at b' n) to.number)
  coming_stays n to k d (inl e) =
      let was = subst (λ (m : ℕ). task_of b m ≡ Comes to) (sym e)
      (s.new_comes to (subst (λ (m : ℕ). task_of b' m ≡ Comes to) e k)) in
      subst (λ (id : ThreadId). Somewhere b' (λ (k : Task). IsToVisit k id to.number)) (sym (id_is n))
      (somewhere_stays b b' i s.others (λ (k : Task). IsToVisit k (id_at b n) to.number)
      (λ v. absurd (not_me (id_at b n) (subst (λ (m : ℕ). task_of b m ≡ Comes to) e was) v))
      (h.coming n to was (sym (s.dead n) ∙ d)))
    where
      not_me : (id : ThreadId) → task_of b i ≡ Comes to → IsToVisit (task_of b i) id to.number → ⊥
      not_me id z v = subst (λ (k : Task). IsToVisit k id to.number) z v
  coming_stays n to k d (inr e) =
      let was = sym (s.others n e) ∙ k in
      subst (λ (id : ThreadId). Somewhere b' (λ (k : Task). IsToVisit k id to.number)) (sym (id_is n))
      (somewhere_stays b b' i s.others (λ (k : Task). IsToVisit k (id_at b n) to.number) (s.visits n to e was)
      (h.coming n to was (sym (s.dead n) ∙ d)))

  freed_stays : (j t n : ℕ) → IsFreed (task_of b' j) t n → (j ≡ i) ⊎ (j ≢ i) →
      sends_to (id_at b' t) (b'.seen n).word.state ≡ false
  freed_stays j t n k (inl e) =
      subst (λ (id : ThreadId). sends_to id (b'.seen n).word.state ≡ false) (sym (id_is t))
      (s.new_freed t n (subst (λ (m : ℕ). IsFreed (task_of b' m) t n) e k))
  freed_stays j t n k (inr e) =
      subst (λ (id : ThreadId). sends_to id (b'.seen n).word.state ≡ false) (sym (id_is t))
      (not_back n (id_at b t) (h.freed j t n (subst (λ (u : Task). IsFreed u t n) (s.others j e) k)))

  pub step_keeps : QueuesHold b'
  step_keeps = record {
    size = subst (λ (n : ℕ). n ≤ 64) (sym s.size) h.size;
    once = s.once;
    senders = λ t n e q. subst (λ (k : ℕ). IsSender k t e) (sym s.size) (s.senders t n e q);
    reasons = reasons_stay;
    waiting = queued_stays;
    coming = λ n to k d. coming_stays n to k d (by_i n);
    freed = λ j t n k. freed_stays j t n k (by_i j);
  }
