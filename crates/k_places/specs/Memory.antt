-- The raw world as maps: each word by its name, each slot by what lies there, the hands of the carriers, and the last
-- serials. Lists and indices are below this, and decoded words and locations above it.
use Rattle.std.specs.Prelude.{ℕ, ◌+◌, ◌*◌, ◌==◌, if◌then◌else◌, Option, Some, None, List, slice_index_or}
use Rattle.k_ids.specs.declared.calls.Outcome.{Outcome}
use Rattle.k_ids.specs.declared.calls.Outcome.TheVariants as outcome
use Rattle.k_ids.specs.declared.context_word.ContextWord.TheVariants.{Empty, Clean}
use Rattle.k_ids.specs.declared.histories.Entry.{Entry}
use Rattle.k_ids.specs.declared.lock_word.LockWord.TheVariants.{Free}
use Rattle.k_ids.specs.ContextWords.{context_bits}
use Rattle.k_ids.specs.LockWords.{lock_bits}
use Rattle.k_locks.specs.declared.locks.Lock.{Lock}
use Rattle.k_locks.specs.declared.locks.WordName.{WordName}
use Rattle.k_locks.specs.declared.locks.WordName.TheVariants as word
use Rattle.k_locks.specs.declared.steps.Step.{Step}
use Rattle.k_locks.specs.declared.steps.Step.TheVariants as step
use Rattle.k_locks.specs.Places.{lock_number}
use Rattle.k_model.specs.Maps.{upd}
use Rattle.k_script.specs.Script.{Script}
use Rattle.k_context.specs.Contexts.{thread_of}
use Rattle.k_carrier.specs.Moves.{MoveSeen}
use Rattle.k_carrier.specs.Moves as move
use Rattle.k_carrier.specs.Seen.{CarrierSeen, HandSeen, new_carrier}
use Rattle.k_world.specs.Moves.{word_after, word_on}
use Rattle.k_world.specs.Worlds.{Slot, Guarded, Resting, Away, World}

-- a list as a map
unfoldable pub at : {A : Type 0} → List A → A → ℕ → A
at xs default place = slice_index_or xs place default

-- Locks, and what they guard, are by the number of the lock.
pub record Memory : Type 0 where
  pub state : ℕ → ℕ
  pub mail : ℕ → ℕ
  pub lock : ℕ → ℕ
  pub context : ℕ → ℕ
  pub home : ℕ → Slot
  pub slot : ℕ → Slot
  pub hand : ℕ → Option HandSeen
  pub serial : ℕ → ℕ

abbrev pub memory_from : (ℕ → ℕ) → (ℕ → Slot) → (ℕ → CarrierSeen) → (ℕ → ℕ) → Memory
memory_from words slots carriers serials = record {
  state = λ n. words (4 * n);
  mail = λ n. words (4 * n + 1);
  lock = λ n. words (4 * n + 2);
  context = λ n. words (4 * n + 3);
  home = λ n. slots (2 * n);
  slot = λ n. slots (2 * n + 1);
  hand = λ c. (carriers c).hand;
  serial = serials;
}

abbrev pub memory_of : World → Memory
memory_of w = memory_from (at w.words 0) (at w.slots Away) (at w.carriers (new_carrier 0 0)) (at w.serials 0)

-- WORDS

abbrev pub word_in : Memory → WordName → ℕ
word_in m (word.State n) = m.state n
word_in m (word.Mail n) = m.mail n
word_in m (word.Lock l) = m.lock (lock_number l)
word_in m (word.Context n) = m.context n

abbrev pub with_word : WordName → ℕ → Memory → Memory
with_word (word.State n) v m = record m { state = upd m.state n v }
with_word (word.Mail n) v m = record m { mail = upd m.mail n v }
with_word (word.Lock l) v m = record m { lock = upd m.lock (lock_number l) v }
with_word (word.Context n) v m = record m { context = upd m.context n v }

-- SLOTS

-- what a move puts where: what a lock guards, or a context, or nothing
pub data Filling : Type 0 where
  Same : Filling
  Home : Lock → Slot → Filling
  Place : (number : ℕ) → Slot → Filling

abbrev pub home_filled : Filling → (ℕ → Slot) → ℕ → Slot
home_filled Same homes = homes
home_filled (Home l x) homes = upd homes (lock_number l) x
home_filled (Place n x) homes = homes

abbrev pub slot_filled : Filling → (ℕ → Slot) → ℕ → Slot
slot_filled Same slots = slots
slot_filled (Home l x) slots = slots
slot_filled (Place n x) slots = upd slots n x

-- of a step of a section, where this word is found
abbrev pub filling_by : Script → Step → ℕ → Filling
filling_by script (step.Acquire l) found = if found == lock_bits Free then Home l Away else Same
filling_by script (step.Release l g) found = Home l (Guarded g)
filling_by script (step.Place id program priority) found =
    if found == context_bits Empty then Place id.number (Resting (thread_of script id program priority)) else Same
filling_by script (step.Remove id) found = if found == context_bits (Clean id.version) then Place id.number Away else Same
filling_by script (step.Load name) found = Same
filling_by script (step.Store name value) found = Same
filling_by script (step.Exchange name old new) found = Same

abbrev pub filling_of : Script → MoveSeen → ℕ → Filling
filling_of script (move.Section s) found = filling_by script s found
filling_of script (move.Look n) found = Same
filling_of script (move.TakeContext n old new) found = if found == old then Place n Away else Same
filling_of script (move.GiveContext n new v) found = Place n (Resting v)

-- SERIALS

abbrev pub new_serial : Outcome → (ℕ → ℕ) → ℕ → ℕ
new_serial (outcome.Made id) serials = upd serials id.number 0
new_serial o serials = serials

-- the last serials, once an entry is made
abbrev pub serials_with : Option Entry → (ℕ → ℕ) → ℕ → ℕ
serials_with None serials = serials
serials_with (Some e) serials = new_serial e.outcome (upd serials e.event.who.number e.event.serial)

-- A MOVE

-- The maps with another word, another slot, and other things in hands; and the serials.
abbrev pub memory_with : Memory → WordName → ℕ → Filling → (ℕ → Option HandSeen) → (ℕ → ℕ) → Memory
memory_with m name v f hands serials = record {
  state = (with_word name v m).state;
  mail = (with_word name v m).mail;
  lock = (with_word name v m).lock;
  context = (with_word name v m).context;
  home = home_filled f m.home;
  slot = slot_filled f m.slot;
  hand = hands;
  serial = serials;
}

-- The maps after a move of this carrier, with this context running: what it has in hand then, and the entry that it makes.
abbrev pub moved_maps : Script → Memory → (carrier running : ℕ) → MoveSeen → Option HandSeen → Option Entry → Memory
moved_maps script m c i mv h e = memory_with m (word_on mv) (word_after i mv (word_in m (word_on mv)))
    (filling_of script mv (word_in m (word_on mv))) (upd m.hand c h) (serials_with e m.serial)
