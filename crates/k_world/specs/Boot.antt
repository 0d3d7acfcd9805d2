-- The world in which the kernel begins to run a script, with so many carriers. The script's threads run, with version 1; those
-- that have no start line stand in the ready lists, in the order of their numbers. Other numbers are dead. All contexts rest,
-- no lock is owned, and nothing has happened.
use Rattle.std.specs.Prelude.{ℕ, ◌+◌, ◌-◌, ◌==◌, nat_lt, Bool, ◌&&◌, not, if◌then◌else◌, None, List, [], ◌∷◌, length, map, replicate, slice_index_or}
use Rattle.std.specs.List.{filter, flat_map, list_any, range_with_len}
use Rattle.k_ids.specs.declared.context_word.ContextWord.{ContextWord}
use Rattle.k_ids.specs.declared.context_word.ContextWord.TheVariants.{Empty, Clean}
use Rattle.k_ids.specs.declared.lock_word.LockWord.TheVariants.{Free}
use Rattle.k_ids.specs.declared.state_word.StateWord.{StateWord}
use Rattle.k_ids.specs.declared.threads.ThreadId.{ThreadId}
use Rattle.k_ids.specs.ContextWords.{context_bits}
use Rattle.k_ids.specs.LockWords.{lock_bits}
use Rattle.k_ids.specs.StateWords.{state_bits}
use Rattle.k_locks.specs.declared.goods.Goods.TheVariants as goods
use Rattle.k_locks.specs.declared.locks.Lock.TheVariants as lock
use Rattle.k_locks.specs.Numbers.{ThreadNumbers}
use Rattle.k_locks.specs.Places.{lock_number}
use Rattle.k_ready.specs.Lists.{Ready}
use Rattle.k_senders.specs.Queue.{Queue}
use Rattle.k_script.specs.declared.lines.ThreadLine.{ThreadLine}
use Rattle.k_script.specs.Limits.{started}
use Rattle.k_script.specs.Script.{Script}
use Rattle.k_context.specs.Contexts.{ContextSeen, carrier_of, thread_of}
use Rattle.k_shown.specs.Words.{dead_word, new_word}
use Rattle.k_switch.specs.Switches.{first_of_number}
use Rattle.k_carrier.specs.Seen.{new_carrier}
use Rattle.k_world.specs.Worlds.{Slot, Guarded, Resting, Away, WaitLog, World}

-- how many numbers have words, and slots: 64 threads, eight carriers, the table lock and the ready lock
abbrev pub places : ℕ
places = 74

-- THE SCRIPT'S THREADS

abbrev pub thread_line : Script → ℕ → ThreadLine
thread_line script number = slice_index_or script.threads number (record { priority = 0; program = 0 })

abbrev pub has_thread : Script → ℕ → Bool
has_thread script number = nat_lt number (length script.threads)

-- the number of a carrier's own context
abbrev pub is_carriers : Script → ℕ → ℕ → Bool
is_carriers script carriers number = not (nat_lt number script.table) && nat_lt number (script.table + carriers)

-- whether the number's first thread waits for its start
abbrev pub has_start : Script → ℕ → Bool
has_start script number = list_any (λ t. t == number) (started script.at_lines)

-- WORDS

abbrev pub boot_state : Script → ℕ → StateWord
boot_state script number =
    if has_thread script number then new_word 1 (thread_line script number).priority
    else dead_word (slice_index_or script.aged number 0)

abbrev pub boot_context : Script → ℕ → ℕ → ContextWord
boot_context script carriers number = if has_thread script number then Clean 1
    else (if is_carriers script carriers number then Clean 1 else Empty)

-- the words of a number: state, mail, lock, context
abbrev pub boot_words : Script → ℕ → ℕ → List ℕ
boot_words script carriers number =
    state_bits (boot_state script number) ∷ 0 ∷ lock_bits Free ∷ context_bits (boot_context script carriers number) ∷ []

-- WHAT THE LOCKS GUARD

abbrev pub table_numbers : Script → List ℕ
table_numbers script = range_with_len 0 script.table

abbrev pub boot_numbers : Script → ThreadNumbers
boot_numbers script = record {
  versions = map (λ number. (boot_state script number).version) (table_numbers script);
  present = map (has_thread script) (table_numbers script);
}

abbrev pub boot_queue : Script → Queue
boot_queue script = record { entries = []; room = script.table }

abbrev pub is_ready : Script → ℕ → ℕ → Bool
is_ready script priority number =
    not (has_start script number) && ((thread_line script number).priority == priority)

-- the threads of a priority that wait for no start
abbrev pub boot_list : Script → ℕ → List ThreadId
boot_list script priority = map first_of_number (filter (is_ready script priority) (range_with_len 0 (length script.threads)))

abbrev pub boot_ready : Script → Ready
boot_ready script = record { lists = map (boot_list script) (range_with_len 0 64); running = 0 }

-- by the number of the lock
abbrev pub boot_home : Script → ℕ → Slot
boot_home script number = if nat_lt number script.table then Guarded (goods.Senders (boot_queue script))
    else (if number == lock_number lock.Table then Guarded (goods.Numbers (boot_numbers script))
    else (if number == lock_number lock.Ready then Guarded (goods.Ready (boot_ready script)) else Away))

-- CONTEXTS

abbrev pub first_thread : Script → ℕ → ContextSeen
first_thread script number =
    thread_of script (first_of_number number) (thread_line script number).program (thread_line script number).priority

abbrev pub boot_resting : Script → ℕ → ℕ → Slot
boot_resting script carriers number = if has_thread script number then Resting (first_thread script number)
    else (if is_carriers script carriers number then Resting (carrier_of (number - script.table)) else Away)

-- the slots of a number: what its lock guards, and its context
abbrev pub boot_slots : Script → ℕ → ℕ → List Slot
boot_slots script carriers number = boot_home script number ∷ boot_resting script carriers number ∷ []

-- THE WORLD

abbrev pub no_waits : ℕ → WaitLog
no_waits carriers = record { marks = []; links = []; standing = replicate carriers None }

unfoldable pub booted : Script → ℕ → World
booted script carriers = record {
  words = flat_map (boot_words script carriers) (range_with_len 0 places);
  slots = flat_map (boot_slots script carriers) (range_with_len 0 places);
  carriers = map (λ c. new_carrier c script.table) (range_with_len 0 carriers);
  serials = replicate script.table 0;
  unstarted = map (has_start script) (table_numbers script);
  made = 0;
  history = [];
  steps = [];
  waits = no_waits carriers;
}
