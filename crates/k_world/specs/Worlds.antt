-- The kernel as a whole, as plain data: its words, what lies in its slots, its carriers, and its logs. Words stand by `index_of`,
-- what locks guard by `home_of`, and contexts by `slot_of` (k_locks).
use Rattle.std.specs.Prelude.{ℕ, Bool, Option, Some, None, List, slice_index_or}
use Rattle.k_ids.specs.declared.context_word.ContextWord.{ContextWord}
use Rattle.k_ids.specs.declared.context_word.ContextWord.TheVariants.{Empty, Clean, Holds, Taken}
use Rattle.k_ids.specs.declared.histories.Entry.{Entry}
use Rattle.k_ids.specs.declared.state_word.StateWord.{StateWord}
use Rattle.k_ids.specs.ContextWords.{context_word_of}
use Rattle.k_ids.specs.StateWords.{state_word_of}
use Rattle.k_locks.specs.declared.goods.Goods.{Goods}
use Rattle.k_locks.specs.declared.goods.Goods.TheVariants as goods
use Rattle.k_locks.specs.declared.locks.WordName.{WordName}
use Rattle.k_locks.specs.declared.locks.WordName.TheVariants as word
use Rattle.k_locks.specs.Hands.{no_queue}
use Rattle.k_locks.specs.Places.{index_of, slot_of}
use Rattle.k_context.specs.Contexts.{ContextSeen}
use Rattle.k_carrier.specs.declared.marks.Link.{Link}
use Rattle.k_carrier.specs.declared.marks.StepMark.{StepMark}
use Rattle.k_carrier.specs.declared.marks.WaitMark.{WaitMark}
use Rattle.k_carrier.specs.Seen.{CarrierSeen, HandSeen, new_carrier}

-- What lies in a slot.
pub data Slot : Type 0 where
  Guarded : Goods → Slot  -- what a lock guards, while nobody holds it
  Resting : ContextSeen → Slot  -- a context that no carrier has in hand
  Away : Slot  -- nothing

-- What is known of waiting: whose step found a lock or a context held up, and by whom.
pub record WaitLog : Type 0 where
  pub marks : List WaitMark
  pub links : List Link
  pub standing : List (Option ℕ)  -- of each carrier: the index of its mark that stands

-- Logs have the oldest first. What is by number begins with number 0.
pub record World : Type 0 where
  pub words : List ℕ
  pub slots : List Slot
  pub carriers : List CarrierSeen
  pub serials : List ℕ  -- of each number: the serial of its thread's last call in the history
  pub unstarted : List Bool  -- of each number: its start hasn't come yet
  pub made : ℕ  -- how many atomic steps
  pub history : List Entry
  pub steps : List StepMark
  pub waits : WaitLog

-- WHAT STANDS WHERE

abbrev pub word_at : World → WordName → ℕ
word_at w name = slice_index_or w.words (index_of name) 0

abbrev pub slot_at : World → ℕ → Slot
slot_at w place = slice_index_or w.slots place Away

abbrev pub carrier_at : World → ℕ → CarrierSeen
carrier_at w c = slice_index_or w.carriers c (new_carrier 0 0)

abbrev pub serial_at : World → ℕ → ℕ
serial_at w number = slice_index_or w.serials number 0

-- the state word of a number
abbrev pub state_at : World → ℕ → StateWord
state_at w number = state_word_of (word_at w (word.State number))

-- what a lock guards; where it isn't at home, it is of no use
abbrev pub goods_in : Slot → Goods
goods_in (Guarded g) = g
goods_in (Resting v) = goods.Senders no_queue
goods_in Away = goods.Senders no_queue

abbrev pub resting_in : Slot → Option ContextSeen
resting_in (Resting v) = Some v
resting_in (Guarded g) = None
resting_in Away = None

abbrev pub held_in : Option HandSeen → Option ContextSeen
held_in None = None
held_in (Some h) = Some h.value

-- a context, wherever it is: its word tells
abbrev pub context_by : World → ℕ → ContextWord → Option ContextSeen
context_by w i (Taken carrier version) = held_in (carrier_at w carrier).hand
context_by w i (Clean version) = resting_in (slot_at w (slot_of i))
context_by w i (Holds version) = resting_in (slot_at w (slot_of i))
context_by w i Empty = None

abbrev pub context_at : World → ℕ → Option ContextSeen
context_at w i = context_by w i (context_word_of (word_at w (word.Context i)))
