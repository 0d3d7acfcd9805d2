-- What a move makes of a store, from what its word was.
use Rattle.std.proofs.Common.{◌≡◌, ℕ, ap, refl, inl, inr, ◌∙◌, ◌⊎◌, ◌==◌, true}
use Rattle.std.specs.Prelude.{slice_index_or, slice_set}
use Rattle.std.proofs.lemmas.Bool.{eq-eqb}
use Rattle.k_ids.specs.declared.context_word.ContextWord.TheVariants.{Empty, Clean}
use Rattle.k_ids.specs.declared.lock_word.LockWord.TheVariants.{Free, Owned}
use Rattle.k_ids.specs.declared.threads.ThreadId.{ThreadId}
use Rattle.k_ids.specs.ContextWords.{context_bits}
use Rattle.k_ids.specs.LockWords.{lock_bits}
use Rattle.k_locks.specs.declared.goods.Goods.{Goods}
use Rattle.k_locks.specs.declared.locks.Lock.{Lock}
use Rattle.k_locks.specs.declared.locks.WordName.TheVariants as word
use Rattle.k_locks.specs.declared.steps.Answer.TheVariants as answered
use Rattle.k_locks.specs.declared.steps.Step.TheVariants as step
use Rattle.k_locks.specs.declared.steps.Told.TheVariants as told
use Rattle.k_locks.specs.Places.{home_of, index_of, slot_of}
use Rattle.k_locks.specs.Steps.{exchanged}
use Rattle.k_script.specs.Script.{Script}
use Rattle.k_context.specs.declared.context.Context.{Context}
use Rattle.k_carrier.specs.Answers.{AnswerSeen}
use Rattle.k_carrier.specs.Answers as answer
use Rattle.k_carrier.specs.Moves.{MoveSeen}
use Rattle.k_carrier.specs.Moves as move
use Rattle.k_world.specs.Moves.{answer_to, change_of, took, with_change, word_after, word_on}
use Rattle.k_world.specs.Worlds.{World, Guarded, Away}
use Rattle.k_store.specs.declared.slots.Slot.{Slot}
use Rattle.k_store.specs.declared.slots.Slot.TheVariants as slot
use Rattle.k_store.specs.Conditions.{IsHome, found_at}
use Rattle.k_store.specs.Stores.{Contents, IsPerformed, slot_in, slots_in, with_store}

-- by what was found
pub performed : (script : Script) (w : World) (i : ℕ) (m : MoveSeen) (old new : Contents) (a : AnswerSeen) (found : ℕ) → found ≡ found_at old.words (word_on m) → new.words ≡ slice_set old.words (index_of (word_on m)) (word_after i m found) → slots_in script new.slots ≡ with_change (change_of script m found) (slots_in script old.slots) → a ≡ answer_to (with_store script old w) m found → IsPerformed script w i m old new a
performed script w i m old new a found e words slots answer = record {
  answer = answer ∙ ap (answer_to (with_store script old w) m) e;
  words = words ∙ ap (λ n. slice_set old.words (index_of (word_on m)) (word_after i m n)) e;
  slots = slots ∙ ap (λ n. with_change (change_of script m n) (slots_in script old.slots)) e;
}

-- what isn't there isn't at home
pub not_home : (script : Script) (s : Slot) → IsHome (slot_in script s) → (((x : Context) × (s ≡ slot.Resting x)) ⊎ (s ≡ slot.Away)) → ⊥
not_home script (slot.Resting v) h d = h
not_home script slot.Away h d = h
not_home script (slot.Guarded g) h (inl e) = let no : slot.Guarded g ≡ slot.Resting e.0 = e.1 in absurd cc
not_home script (slot.Guarded g) h (inr e) = absurd cc

-- a lock that was free
pub acquired : (script : Script) (w : World) (i : ℕ) (l : Lock) (old new : Contents) (goods : Goods) (found : ℕ) → found ≡ found_at old.words (word.Lock l) → found ≡ lock_bits Free → new.words ≡ slice_set old.words (index_of (word.Lock l)) (exchanged (lock_bits Free) (lock_bits (Owned i)) found) → slots_in script new.slots ≡ slice_set (slots_in script old.slots) (home_of l) Away → slice_index_or (slots_in script old.slots) (home_of l) Away ≡ Guarded goods → IsPerformed script w i (move.Section (step.Acquire l)) old new (answer.Section (answered.Got goods))
acquired script w i l old new goods found e f words slots home =
    let t : (found == lock_bits Free) ≡ true = eq-eqb found (lock_bits Free) f in
    performed script w i (move.Section (step.Acquire l)) old new (answer.Section (answered.Got goods)) found e words (rw t slots) (rw (t, home) refl)

-- a context that was clean
pub removed : (script : Script) (w : World) (i : ℕ) (id : ThreadId) (old new : Contents) (found : ℕ) → found ≡ found_at old.words (word.Context id.number) → found ≡ context_bits (Clean id.version) → new.words ≡ slice_set old.words (index_of (word.Context id.number)) (exchanged (context_bits (Clean id.version)) (context_bits Empty) found) → slots_in script new.slots ≡ slice_set (slots_in script old.slots) (slot_of id.number) Away → IsPerformed script w i (move.Section (step.Remove id)) old new (answer.Section (answered.Told told.Removed))
removed script w i id old new found e f words slots =
    let t : (found == context_bits (Clean id.version)) ≡ true = eq-eqb found (context_bits (Clean id.version)) f in
    performed script w i (move.Section (step.Remove id)) old new (answer.Section (answered.Told told.Removed)) found e words (rw t slots) (rw t refl)

-- a context that was taken as it was seen
pub taken : (script : Script) (w : World) (i n was new_word : ℕ) (old new : Contents) (a : AnswerSeen) (found : ℕ) → found ≡ found_at old.words (word.Context n) → found ≡ was → new.words ≡ slice_set old.words (index_of (word.Context n)) (exchanged was new_word found) → slots_in script new.slots ≡ slice_set (slots_in script old.slots) (slot_of n) Away → a ≡ took found (slice_index_or (slots_in script old.slots) (slot_of n) Away) → IsPerformed script w i (move.TakeContext n was new_word) old new a
taken script w i n was new_word old new a found e f words slots got =
    let t : (found == was) ≡ true = eq-eqb found was f in
    performed script w i (move.TakeContext n was new_word) old new a found e words (rw t slots) (rw t got)
