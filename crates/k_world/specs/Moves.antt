-- One move of a carrier on the words and slots: a step of the section in hand, or a look at a context, a take or a give of one.
-- `i` is the context that runs, `found` what the move's word was.
use Rattle.std.specs.Prelude.{ℕ, ◌==◌, if◌then◌else◌, Option, Some, None, List, slice_set}
use Rattle.k_ids.specs.declared.context_word.ContextWord.TheVariants.{Empty, Clean}
use Rattle.k_ids.specs.declared.lock_word.LockWord.TheVariants.{Free}
use Rattle.k_ids.specs.ContextWords.{context_bits}
use Rattle.k_ids.specs.LockWords.{lock_bits}
use Rattle.k_locks.specs.declared.goods.Goods.{Goods}
use Rattle.k_locks.specs.declared.goods.Goods.TheVariants as goods
use Rattle.k_locks.specs.declared.locks.WordName.{WordName}
use Rattle.k_locks.specs.declared.locks.WordName.TheVariants as word
use Rattle.k_locks.specs.declared.steps.Step.{Step}
use Rattle.k_locks.specs.declared.steps.Step.TheVariants as step
use Rattle.k_locks.specs.Hands.{no_queue}
use Rattle.k_locks.specs.Places.{home_of, index_of, slot_of}
use Rattle.k_locks.specs.Steps.{answer_of, becomes, exchanged, word_of}
use Rattle.k_script.specs.Script.{Script}
use Rattle.k_context.specs.Contexts.{thread_of}
use Rattle.k_carrier.specs.Answers.{AnswerSeen}
use Rattle.k_carrier.specs.Answers as answer
use Rattle.k_carrier.specs.Moves.{MoveSeen}
use Rattle.k_carrier.specs.Moves as move
use Rattle.k_world.specs.Worlds.{Slot, Guarded, Resting, Away, World, goods_in, slot_at, word_at}

-- THE WORD

abbrev pub word_on : MoveSeen → WordName
word_on (move.Section s) = word_of s
word_on (move.Look n) = word.Context n
word_on (move.TakeContext n old new) = word.Context n
word_on (move.GiveContext n new v) = word.Context n

-- what the word becomes
abbrev pub word_after : ℕ → MoveSeen → ℕ → ℕ
word_after i (move.Section s) found = becomes i s found
word_after i (move.Look n) found = found
word_after i (move.TakeContext n old new) found = exchanged old new found
word_after i (move.GiveContext n new v) found = new

-- THE SLOT

-- a slot that changes, and what lies there then
pub record Change : Type 0 where
  pub slot : ℕ
  pub holds : Slot

abbrev pub changed : ℕ → Slot → Option Change
changed slot holds = Some record { slot = slot; holds = holds }

-- by a step of a section: a lock that is got or released, and a context that is placed or removed
abbrev pub change_by : Script → Step → ℕ → Option Change
change_by script (step.Acquire l) found = if found == lock_bits Free then changed (home_of l) Away else None
change_by script (step.Release l g) found = changed (home_of l) (Guarded g)
change_by script (step.Place id program priority) found =
    if found == context_bits Empty then changed (slot_of id.number) (Resting (thread_of script id program priority)) else None
change_by script (step.Remove id) found =
    if found == context_bits (Clean id.version) then changed (slot_of id.number) Away else None
change_by script (step.Load name) found = None
change_by script (step.Store name value) found = None
change_by script (step.Exchange name old new) found = None

abbrev pub change_of : Script → MoveSeen → ℕ → Option Change
change_of script (move.Section s) found = change_by script s found
change_of script (move.Look n) found = None
change_of script (move.TakeContext n old new) found = if found == old then changed (slot_of n) Away else None
change_of script (move.GiveContext n new v) found = changed (slot_of n) (Resting v)

abbrev pub with_change : Option Change → List Slot → List Slot
with_change None slots = slots
with_change (Some c) slots = slice_set slots c.slot c.holds

-- THE ANSWER

-- what comes with the lock, where the step gets one
abbrev pub goods_for : World → Step → Goods
goods_for w (step.Acquire l) = goods_in (slot_at w (home_of l))
goods_for w (step.Release l g) = goods.Senders no_queue
goods_for w (step.Place id program priority) = goods.Senders no_queue
goods_for w (step.Remove id) = goods.Senders no_queue
goods_for w (step.Load name) = goods.Senders no_queue
goods_for w (step.Store name value) = goods.Senders no_queue
goods_for w (step.Exchange name old new) = goods.Senders no_queue

-- what comes of a take that was won
abbrev pub took : ℕ → Slot → AnswerSeen
took found (Resting v) = answer.Took v
took found (Guarded g) = answer.TakeLost found
took found Away = answer.TakeLost found

abbrev pub answer_to : World → MoveSeen → ℕ → AnswerSeen
answer_to w (move.Section s) found = answer.Section (answer_of s found (goods_for w s))
answer_to w (move.Look n) found = answer.Looked found
answer_to w (move.TakeContext n old new) found =
    if found == old then took found (slot_at w (slot_of n)) else answer.TakeLost found
answer_to w (move.GiveContext n new v) found = answer.Given

-- THE MOVE, in a world: what comes of it, and the words and slots that it leaves

abbrev pub found_by : World → MoveSeen → ℕ
found_by w m = word_at w (word_on m)

abbrev pub answer_by : World → MoveSeen → AnswerSeen
answer_by w m = answer_to w m (found_by w m)

abbrev pub words_by : World → ℕ → MoveSeen → List ℕ
words_by w i m = slice_set w.words (index_of (word_on m)) (word_after i m (found_by w m))

abbrev pub slots_by : Script → World → MoveSeen → List Slot
slots_by script w m = with_change (change_of script m (found_by w m)) w.slots
