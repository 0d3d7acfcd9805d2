-- The sum of the parts: they hold at the start, and stay; and what they tell of a queue that nobody works on.
use Rattle.std.proofs.Common.{◌≡◌, ℕ, ◌<◌, ◌≤◌, true, false, sym, ap, ◌∙◌, subst, Some, None, [], ◌⊎◌, inl, inr}
use Rattle.std.specs.Prelude.{length}
use Rattle.k_ids.specs.declared.threads.ThreadId.{ThreadId}
use Rattle.k_senders.specs.declared.entries.SenderEntry.{SenderEntry}
use Rattle.k_senders.specs.Entries.{sender_of}
use Rattle.k_senders.specs.Queue.{entry_of}
use Rattle.k_locks.specs.declared.locks.Lock.{Lock}
use Rattle.k_locks.specs.Shown.{is_dead, is_present_in}
use Rattle.k_ipc.specs.Words.{sends_to}
use Rattle.k_board.specs.Words.{Programs}
use Rattle.k_board.specs.Boards.{Board, id_at, owner_of}
use Rattle.k_board.specs.Boots.{Booted}
use Rattle.k_board.specs.Turns.{Turn}
use Rattle.k_good.specs.Good.{NumbersAgree}
use Rattle.k_good.specs.Ranges.{NamesFit}
use Rattle.k_good.proofs.Goods.{good_keeps, good_start, supports}
use Rattle.k_good.proofs.RangesKeep.{within_keeps}
use Rattle.k_good.proofs.RangesStart.{within_starts}
use Rattle.k_queues.specs.Tasks.{Comes, IsEmptied, Somewhere, Task, task_of}
use Rattle.k_queues.specs.Queues.{CallsUnanswered, HasEntry, IsProper, IsWhoWaits, Reason, by_free, by_kill, by_take, by_wait}
use Rattle.k_queues.proofs.Entries.{none_some, of_number}
use Rattle.k_queues.proofs.Steps.{waits_parts}
use Rattle.k_queues.proofs.Tasks.{TaskSays, emptied_destroying, freed_destroying, task_says, visits_destroying}
use Rattle.k_queues.proofs.Turns.{queues_start, queues_tell, turn_keeps_queues}

pub proper_keeps : (g : Programs) (b b' : Board) (i : ℕ) → IsProper g b → NamesFit g b.size → CallsUnanswered b → Turn g b i b' →
    IsProper g b'
proper_keeps g b b' i p names u t =
    let q = queues_tell g b p.good p.within p.queues i u in
    record {
      good = good_keeps g b b' i p.good q t;
      within = within_keeps g b p.good.places p.within names i b' (supports g b i p.good q) t;
      queues = turn_keeps_queues g b p.good p.within p.queues i b' t;
    }

pub proper_start : (g : Programs) (b : Board) → ((n : ℕ) → Booted g b n) → ((l : Lock) → owner_of b l ≡ None) →
    NumbersAgree b.seen b.numbers b.context → length b.numbers.versions ≡ b.size →
    ((n : ℕ) → is_dead (b.seen n).word ≡ false → n < b.size) → ((t : ℕ) → b.queue t ≡ []) → b.size ≤ 64 → IsProper g b
proper_start g b h free agree count alive empty size = record {
  good = good_start g b h free agree;
  within = within_starts g b h count alive;
  queues = queues_start g b h empty size;
}

module _ (g : Programs) (b : Board) (p : IsProper g b) (t : ℕ) (table : b.table ≡ None) (owner : b.owner t ≡ None) where
  says : (n : ℕ) → TaskSays b n (task_of b n)
  says = task_says g b p.good.places p.within

  idle_table : (n : ℕ) → b.table ≡ Some n → ⊥
  idle_table n e = none_some (sym table ∙ e)

  who_has : (n : ℕ) (e : SenderEntry) → entry_of n (b.queue t) ≡ Some e → Reason b t n e →
      (sender_of e ≡ id_at b n) × (sends_to (id_at b t) (b.seen n).word.state ≡ true)
  who_has n e q (by_wait w) =
      let k = waits_parts (id_at b t) e (b.seen n).word w in
      (λ d. record { number = of_number n (b.queue t) e q d; version = sym k.0 d }, k.1)
  who_has n e q (by_take k) = absurd (none_some (sym owner ∙ subst (TaskSays b t) k (says t)))
  who_has n e q (by_free k) =
      absurd (idle_table k.number (freed_destroying b k.number t n (task_of b k.number) (says k.number) k.has).0)
  who_has n e q (by_kill k) =
      absurd (idle_table k.number (visits_destroying b k.number t (sender_of e) (task_of b k.number) (says k.number) k.has))

  who_stands : (n : ℕ) (to : ThreadId) → to.number ≡ t → (task_of b n ≡ Comes to) ⊎ HasEntry b n to → HasEntry b n to
  who_stands n to e (inl k) = absurd (none_some (sym owner ∙ ap b.owner (sym e) ∙ (subst (TaskSays b n) k (says n)).owner))
  who_stands n to e (inr k) = k

  who_is_there : (to : ThreadId) → to.number ≡ t →
      (is_present_in (b.seen to.number).word to ≡ true) ⊎ Somewhere b (λ (k : Task). IsEmptied k to) →
      is_present_in (b.seen t).word to ≡ true
  who_is_there to e (inl y) = subst (λ (n : ℕ). is_present_in (b.seen n).word to ≡ true) e y
  who_is_there to e (inr k) =
      absurd (idle_table k.number (emptied_destroying b k.number to (task_of b k.number) (says k.number) k.has).table)

  pub exact_queue : IsWhoWaits b t
  exact_queue = record {
    entries = λ n e q. who_has n e q (p.queues.reasons t n e q);
    waiters = λ n to e y. let q = p.queues.waiting n to y in (who_stands n to e q.entry, who_is_there to e q.there);
  }
