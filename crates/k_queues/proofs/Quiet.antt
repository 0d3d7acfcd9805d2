-- Steps that change neither queues, nor who waits, nor what a context has to do in queues.
use Rattle.std.proofs.Common.{◌≡◌, ◌≢◌, ℕ, sym, ap, ◌∙◌, subst, Some, List, inl}
use Rattle.k_ids.specs.declared.threads.ThreadId.{ThreadId}
use Rattle.k_ids.specs.declared.state_word.StateWord.{StateWord}
use Rattle.k_senders.specs.declared.entries.SenderEntry.{SenderEntry}
use Rattle.k_senders.specs.Entries.{sender_of}
use Rattle.k_senders.specs.Queue.{IsOnceEach, entry_of}
use Rattle.k_locks.specs.Shown.{is_dead}
use Rattle.k_ipc.specs.Words.{sends_to}
use Rattle.k_board.specs.Boards.{Board, id_at}
use Rattle.k_queues.specs.Tasks.{IsEmptied, IsFreed, IsToVisit, Task, task_of}
use Rattle.k_queues.specs.Queues.{HasEntry, QueuesHold}
use Rattle.k_queues.proofs.Steps.{QueueStep, id_stays}

-- the word tells the same of its thread, and of whom it waits for to send
pub record SameWait (w u : StateWord) : Type 0 where
  pub version : u.version ≡ w.version
  pub dead : is_dead u ≡ is_dead w
  pub sends : (to : ThreadId) → sends_to to u.state ≡ sends_to to w.state

pub same_wait : (w u : StateWord) → u ≡ w → SameWait w u
same_wait w u e = record {
  version = ap (λ (v : StateWord). v.version) e;
  dead = ap is_dead e;
  sends = λ to. ap (λ (v : StateWord). sends_to to v.state) e;
}

-- an entry in a queue that stays
pub has_entry_stays : (b b' : Board) (n : ℕ) (to : ThreadId) → (b'.seen n).word.version ≡ (b.seen n).word.version →
    b'.queue to.number ≡ b.queue to.number → HasEntry b n to → HasEntry b' n to
has_entry_stays b b' n to v q e = record {
  entry = e.entry;
  stands = ap (λ (es : List SenderEntry). entry_of n es) q ∙ e.stands;
  sender = e.sender ∙ sym (id_stays b b' n v);
}

module _ (b b' : Board) (i : ℕ) (h : QueuesHold b) (size : b'.size ≡ b.size) (queue : (t : ℕ) → b'.queue t ≡ b.queue t)
    (words : (n : ℕ) → SameWait (b.seen n).word (b'.seen n).word) (others : (n : ℕ) → n ≢ i → task_of b' n ≡ task_of b n) where
  was_entry : (t n : ℕ) (e : SenderEntry) → entry_of n (b'.queue t) ≡ Some e → entry_of n (b.queue t) ≡ Some e
  was_entry t n e q = ap (λ (es : List SenderEntry). entry_of n es) (sym (queue t)) ∙ q

  pub quiet_step : task_of b' i ≡ task_of b i → QueueStep b b' i
  quiet_step mine = record {
    size = size;
    version = λ n. (words n).version;
    dead = λ n. (words n).dead;
    back = λ n to y. sym ((words n).sends to) ∙ y;
    others = others;
    once = λ t. subst IsOnceEach (sym (queue t)) (h.once t);
    senders = λ t n e q. h.senders t n e (was_entry t n e q);
    entries = λ t n e q. inl (was_entry t n e q);
    waits = λ t n e q y. inl ((words n).sends (id_at b t) ∙ y);
    taken = λ n e q k. mine ∙ k;
    freed = λ t n e q k. subst (λ (u : Task). IsFreed u t n) (sym mine) k;
    killed = λ t n e q k. subst (λ (u : Task). IsToVisit u (sender_of e) t) (sym mine) k;
    stands = λ n to y e. has_entry_stays b b' n to (words n).version (queue to.number) e;
    comes = λ to k. inl (mine ∙ k);
    emptied = λ n to y e k. subst (λ (u : Task). IsEmptied u to) (sym mine) k;
    new_comes = λ to k. sym mine ∙ k;
    visits = λ n to ne k v. subst (λ (u : Task). IsToVisit u (id_at b n) to.number) (sym mine) v;
    new_freed = λ t n k. (words n).sends (id_at b t) ∙ h.freed i t n (subst (λ (u : Task). IsFreed u t n) mine k);
  }
