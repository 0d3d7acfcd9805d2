-- What contracts see of a store: its words, and what lies in its slots. A world shows the same (k_world), with each context as
-- any context is seen.
use Rattle.std.specs.Prelude.{ℕ, ◌≡◌, Option, List, map, slice_index_or}
use Rattle.k_locks.specs.declared.steps.Answer.{Answer}
use Rattle.k_locks.specs.declared.steps.Answer.TheVariants as answered
use Rattle.k_locks.specs.declared.steps.Step.{Step}
use Rattle.k_locks.specs.declared.steps.Told.{Told}
use Rattle.k_locks.specs.Places.{slot_of}
use Rattle.k_script.specs.Script.{Script}
use Rattle.k_context.specs.Contexts.{ContextSeen, seen_in}
use Rattle.k_context.specs.Contexts as contexts
use Rattle.k_carrier.specs.Answers.{AnswerSeen}
use Rattle.k_carrier.specs.Answers as answer
use Rattle.k_carrier.specs.Moves.{MoveSeen}
use Rattle.k_carrier.specs.Moves as move
use Rattle.k_world.specs.Moves.{answer_by, slots_by, words_by}
use Rattle.k_world.specs.Worlds.{World}
use Rattle.k_world.specs.Worlds as worlds
use Rattle.k_store.specs.declared.slots.Slot.{Slot}
use Rattle.k_store.specs.declared.slots.Slot.TheVariants as slot

-- The words stand by `index_of`, and slots by `home_of` and `slot_of` (k_locks).
pub record Contents : Type 0 where
  pub words : List ℕ
  pub slots : List Slot

-- IN A WORLD

abbrev pub slot_in : Script → Slot → worlds.Slot
slot_in script (slot.Guarded goods) = worlds.Guarded goods
slot_in script (slot.Resting value) = worlds.Resting (seen_in script value)
slot_in script slot.Away = worlds.Away

abbrev pub slots_in : Script → List Slot → List worlds.Slot
slots_in script slots = map (slot_in script) slots

-- a world with the words and slots of this store
abbrev pub with_store : Script → Contents → World → World
with_store script s w = record w { words = s.words; slots = slots_in script s.slots }

-- a context that rests
abbrev pub resting_at : Script → Contents → ℕ → Option ContextSeen
resting_at script s n = worlds.resting_in (slice_index_or (slots_in script s.slots) (slot_of n) worlds.Away)

-- THE PLACES OF THREADS

-- the place of a thread whose context rests there is one of this script
abbrev pub IsSlotPlaced : Script → Slot → Type 0
IsSlotPlaced script (slot.Resting value) = contexts.IsPlaced script value
IsSlotPlaced script (slot.Guarded goods) = Unit {0}
IsSlotPlaced script slot.Away = Unit {0}

abbrev pub slot_at : List Slot → ℕ → Slot
slot_at slots place = slice_index_or slots place slot.Away

-- so for each context that rests
pub record IsPlaced (script : Script) (s : Contents) : Type 0 where
  pub rests : (place : ℕ) → IsSlotPlaced script (slot_at s.slots place)

-- A MOVE

-- What a move makes of a store, and its answer, are what they are in a world. `i` is the context that runs.
pub record IsPerformed (script : Script) (w : World) (i : ℕ) (m : MoveSeen) (old new : Contents) (a : AnswerSeen) : Type 0 where
  pub answer : a ≡ answer_by (with_store script old w) m
  pub words : new.words ≡ words_by (with_store script old w) i m
  pub slots : slots_in script new.slots ≡ slots_by script (with_store script old w) m

-- so for a step of a section
abbrev pub IsStepped : Script → World → ℕ → Step → Contents → Contents → Answer → Type 0
IsStepped script w i s old new a = IsPerformed script w i (move.Section s) old new (answer.Section a)

-- with which no goods come
abbrev pub IsTold : Script → World → ℕ → Step → Contents → Contents → Told → Type 0
IsTold script w i s old new t = IsStepped script w i s old new (answered.Told t)
