-- What an atomic step is: which word it is on, what becomes of the word, what is told of it, and what moves along.
use Rattle.std.specs.Prelude.{ℕ, ◌+◌, ◌-◌, ◌^◌, min, ◌==◌, Bool, true, false, if◌then◌else◌, Option, Some, None}
use Rattle.k_ids.specs.declared.threads.ThreadId.{ThreadId}
use Rattle.k_ids.specs.declared.context_word.ContextWord.{ContextWord}
use Rattle.k_ids.specs.declared.context_word.ContextWord.TheVariants.{Empty, Clean, Holds, Taken}
use Rattle.k_ids.specs.declared.lock_word.LockWord.{LockWord}
use Rattle.k_ids.specs.declared.lock_word.LockWord.TheVariants.{Free, Owned}
use Rattle.k_ids.specs.ContextWords.{context_bits, context_word_of}
use Rattle.k_ids.specs.LockWords.{lock_bits, lock_word_of}
use Rattle.k_locks.specs.declared.locks.Lock.{Lock}
use Rattle.k_locks.specs.declared.locks.WordName.{WordName}
use Rattle.k_locks.specs.declared.locks.WordName.TheVariants as word
use Rattle.k_locks.specs.declared.goods.Goods.{Goods}
use Rattle.k_locks.specs.declared.steps.Step.{Step}
use Rattle.k_locks.specs.declared.steps.Step.TheVariants as step
use Rattle.k_locks.specs.declared.steps.Answer.{Answer}
use Rattle.k_locks.specs.declared.steps.Answer.TheVariants as answer
use Rattle.k_locks.specs.declared.steps.Told.{Told}
use Rattle.k_locks.specs.declared.steps.Told.TheVariants as told
use Rattle.k_locks.specs.Locks.{guards}
use Rattle.k_locks.specs.declared.steps.Went.{Went}
use Rattle.k_locks.specs.declared.steps.Went.TheVariants as went

-- THE WORD

-- the word that a step is on
abbrev pub word_of : Step → WordName
word_of (step.Load word) = word
word_of (step.Store word value) = word
word_of (step.Exchange word old new) = word
word_of (step.Acquire lock) = word.Lock lock
word_of (step.Release lock goods) = word.Lock lock
word_of (step.Place id program priority) = word.Context id.number
word_of (step.Remove id) = word.Context id.number

-- a compare-exchange: what the word becomes, given what it was
abbrev pub exchanged : ℕ → ℕ → ℕ → ℕ
exchanged old new found = if found == old then new else found

-- What the word becomes, given the context that runs and what the word was.
abbrev pub becomes : ℕ → Step → ℕ → ℕ
becomes context (step.Load word) found = found
becomes context (step.Store word value) found = value
becomes context (step.Exchange word old new) found = exchanged old new found
becomes context (step.Acquire lock) found = exchanged (lock_bits Free) (lock_bits (Owned context)) found
becomes context (step.Release lock goods) found = lock_bits Free
becomes context (step.Place id program priority) found = exchanged (context_bits Empty) (context_bits (Clean id.version)) found
becomes context (step.Remove id) found = exchanged (context_bits (Clean id.version)) (context_bits Empty) found

-- WHAT MOVES ALONG

-- the lock whose goods come with the step
abbrev pub lock_taken : Step → ℕ → Option Lock
lock_taken (step.Acquire lock) found = if found == lock_bits Free then Some lock else None
lock_taken (step.Load word) found = None
lock_taken (step.Store word value) found = None
lock_taken (step.Exchange word old new) found = None
lock_taken (step.Release lock goods) found = None
lock_taken (step.Place id program priority) found = None
lock_taken (step.Remove id) found = None

-- the lock whose goods go back, with the goods
abbrev pub goods_returned : Step → Option (Lock × Goods)
goods_returned (step.Release lock goods) = Some (lock, goods)
goods_returned (step.Load word) = None
goods_returned (step.Store word value) = None
goods_returned (step.Exchange word old new) = None
goods_returned (step.Acquire lock) = None
goods_returned (step.Place id program priority) = None
goods_returned (step.Remove id) = None

-- the thread whose new context is put there, with its program and its priority
abbrev pub context_placed : Step → Option (ThreadId × ℕ × ℕ)
context_placed (step.Place id program priority) = Some (id, program, priority)
context_placed (step.Load word) = None
context_placed (step.Store word value) = None
context_placed (step.Exchange word old new) = None
context_placed (step.Acquire lock) = None
context_placed (step.Release lock goods) = None
context_placed (step.Remove id) = None

-- THE ANSWER

-- Of a remove that found another word: who has to be helped first. A word of which a remove can say nothing, since the
-- thread's context must be there, is told as one that holds locks.
abbrev pub not_removed : ℕ → ContextWord → Told
not_removed context (Taken carrier version) = told.Taken context carrier
not_removed context (Holds version) = told.Holds context
not_removed context (Clean version) = told.Holds context
not_removed context Empty = told.Holds context

-- of an acquire that found the lock owned
abbrev pub not_acquired : LockWord → Told
not_acquired (Owned owner) = told.Owned owner
not_acquired Free = told.Owned 0

-- What is told of a step, given what the word was, and the goods that come where a lock is got.
abbrev pub answer_of : Step → ℕ → Goods → Answer
answer_of (step.Load word) found home = answer.Told (told.Loaded found)
answer_of (step.Store word value) found home = answer.Told told.Stored
answer_of (step.Exchange word old new) found home = answer.Told (if found == old then told.Won else told.Lost found)
answer_of (step.Acquire lock) found home =
    if found == lock_bits Free then answer.Got home else answer.Told (not_acquired (lock_word_of found))
answer_of (step.Release lock goods) found home = answer.Told told.Released
answer_of (step.Place id program priority) found home = answer.Told told.Placed
answer_of (step.Remove id) found home =
    answer.Told (if found == context_bits (Clean id.version) then told.Removed else not_removed id.number (context_word_of found))

-- whether a step can be told this
abbrev pub suits_told : Step → Told → Bool
suits_told (step.Load word) (told.Loaded found) = true
suits_told (step.Store word value) told.Stored = true
suits_told (step.Exchange word old new) told.Won = true
suits_told (step.Exchange word old new) (told.Lost found) = true
suits_told (step.Acquire lock) (told.Owned owner) = true
suits_told (step.Release lock goods) told.Released = true
suits_told (step.Place id program priority) told.Placed = true
suits_told (step.Remove id) told.Removed = true
suits_told (step.Remove id) (told.Holds context) = true
suits_told (step.Remove id) (told.Taken context carrier) = true
suits_told s t = false

-- whether the goods are those that come with this step
abbrev pub suits_goods : Step → Goods → Bool
suits_goods (step.Acquire lock) goods = guards lock goods
suits_goods s goods = false

-- whether a step can have this answer
abbrev pub suits : Step → Answer → Bool
suits s (answer.Got goods) = suits_goods s goods
suits s (answer.Told t) = suits_told s t

-- whether the section has to ask for the same step again
abbrev pub is_again_told : Told → Bool
is_again_told (told.Owned owner) = true
is_again_told (told.Holds context) = true
is_again_told (told.Taken context carrier) = true
is_again_told t = false

abbrev pub is_again : Answer → Bool
is_again (answer.Got goods) = false
is_again (answer.Told t) = is_again_told t

-- the count of steps with one more; it stays at the end of its type
abbrev pub one_more : ℕ → ℕ
one_more n = min (n + 1) (2 ^ 32 - 1)

-- whether the section has a next step
abbrev pub goes_on : Went → Bool
goes_on went.On = true
goes_on went.Again = true
goes_on (went.Pushed priority) = true
goes_on went.Waits = false
goes_on (went.Ends reply) = false
goes_on went.CallerDead = false
goes_on went.Picks = false
