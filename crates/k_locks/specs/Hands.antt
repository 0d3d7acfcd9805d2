-- What a section has in hand: what the locks that it holds guard.
use Rattle.std.specs.Prelude.{ℕ, Option, Some, None, List, [], ◌∷◌, ◌++◌, slice_index_or}
use Rattle.k_ids.specs.declared.threads.ThreadId.{ThreadId}
use Rattle.k_ready.specs.Lists.{Ready, list_of, with_list}
use Rattle.k_senders.specs.Queue.{Queue}
use Rattle.k_locks.specs.Numbers.{ThreadNumbers}
use Rattle.k_locks.specs.declared.locks.Lock.{Lock}
use Rattle.k_locks.specs.declared.locks.Lock.TheVariants as lock
use Rattle.k_locks.specs.declared.goods.Goods.{Goods}
use Rattle.k_locks.specs.declared.goods.Goods.TheVariants as goods
use Rattle.k_locks.specs.declared.steps.Answer.{Answer}
use Rattle.k_locks.specs.declared.steps.Answer.TheVariants as answer

-- What the lock of each rank guards. Without the lock it is nothing.
pub record Hand : Type 0 where
  pub numbers : ThreadNumbers
  pub queue : Queue
  pub lists : Ready

abbrev pub no_numbers : ThreadNumbers
no_numbers = record { versions = []; present = [] }

abbrev pub no_queue : Queue
no_queue = record { entries = []; room = 0 }

abbrev pub no_lists : Ready
no_lists = record { lists = []; running = 0 }

abbrev pub nothing : Hand
nothing = record { numbers = no_numbers; queue = no_queue; lists = no_lists }

-- with what a lock guards
abbrev pub with_goods : Goods → Hand → Hand
with_goods (goods.Numbers numbers) h = record h { numbers = numbers }
with_goods (goods.Senders queue) h = record h { queue = queue }
with_goods (goods.Ready lists) h = record h { lists = lists }

-- what this lock guards
abbrev pub goods_for : Lock → Hand → Goods
goods_for lock.Table h = goods.Numbers h.numbers
goods_for (lock.Thread number) h = goods.Senders h.queue
goods_for lock.Ready h = goods.Ready h.lists

-- without what this lock guards
abbrev pub without_goods : Lock → Hand → Hand
without_goods lock.Table h = record h { numbers = no_numbers }
without_goods (lock.Thread number) h = record h { queue = no_queue }
without_goods lock.Ready h = record h { lists = no_lists }

-- What comes with an answer.
abbrev pub hand_with : Answer → Hand → Hand
hand_with (answer.Got goods) h = with_goods goods h
hand_with (answer.Told t) h = h

-- The goods that come with an answer; where none come, they are of no use.
abbrev pub goods_in : Answer → Goods
goods_in (answer.Got goods) = goods
goods_in (answer.Told t) = goods.Senders no_queue

-- A thread is put to the end of the list of its priority.
abbrev pub pushed : ThreadId → ℕ → Ready → Ready
pushed id priority lists = with_list lists priority (list_of lists.lists priority ++ id ∷ [])

-- WHAT THE LOCKS HELD LEAVE IN HAND

abbrev pub if_held : {A : Type 0} → Option Lock → A → A → A
if_held None kept none = none
if_held (Some l) kept none = kept

-- Without the locks that aren't held, what they guard is nothing.
abbrev pub trimmed : List (Option Lock) → Hand → Hand
trimmed locks h = record {
  numbers = if_held (slice_index_or locks 0 None) h.numbers no_numbers;
  queue = if_held (slice_index_or locks 1 None) h.queue no_queue;
  lists = if_held (slice_index_or locks 2 None) h.lists no_lists;
}
