-- One step of a section on decoded words, without what a lock guards, and what came of it (Herlihy and Wing, *Linearizability*: an
-- invocation and its response). The step on words as bits, with what moves along, is derived from it.
use Rattle.std.specs.Prelude.{ℕ, ◌==◌, Bool, true, false, Option, Some, None}
use Rattle.k_ids.specs.declared.threads.ThreadId.{ThreadId}
use Rattle.k_ids.specs.declared.threads.Message.{Message}
use Rattle.k_ids.specs.declared.state_word.StateWord.{StateWord}
use Rattle.k_ids.specs.Messages.{message_bits, message_of_bits}
use Rattle.k_ids.specs.StateWords.{state_bits, state_word_of}
use Rattle.k_locks.specs.declared.locks.Lock.{Lock}
use Rattle.k_locks.specs.declared.locks.Lock.TheVariants as lock
use Rattle.k_locks.specs.declared.locks.WordName.TheVariants as word
use Rattle.k_locks.specs.declared.steps.Step.{Step}
use Rattle.k_locks.specs.declared.steps.Step.TheVariants as step
use Rattle.k_locks.specs.declared.steps.Answer.{Answer}
use Rattle.k_locks.specs.declared.steps.Answer.TheVariants as answer
use Rattle.k_locks.specs.declared.steps.Told.{Told}
use Rattle.k_locks.specs.declared.steps.Told.TheVariants as told
use Rattle.k_locks.specs.Hands.{Hand, goods_for, without_goods}

-- the words are those of this thread number
pub data Ask : Type 0 where
  Load : (number : ℕ) → Ask  -- its state word
  LoadMail : (number : ℕ) → Ask
  Post : (number : ℕ) → Message → Ask
  Exchange : (number : ℕ) → (old new : StateWord) → Ask
  Acquire : Lock → Ask
  Release : Lock → Ask
  Place : ThreadId → (program priority : ℕ) → Ask
  Remove : ThreadId → Ask

pub data Response : Type 0 where
  Word : StateWord → Response
  Mail : Message → Response
  Stored : Response
  Won : Response
  Lost : StateWord → Response
  Got : Response
  Owned : (owner : ℕ) → Response
  Released : Response
  Placed : Response
  Removed : Response
  Kept : Response  -- a context that can't be removed yet

-- the step as the words have it; a release takes along what its lock guards, out of the hand
abbrev pub step_for : Ask → Hand → Step
step_for (Load number) h = step.Load (word.State number)
step_for (LoadMail number) h = step.Load (word.Mail number)
step_for (Post number message) h = step.Store (word.Mail number) (message_bits message)
step_for (Exchange number old new) h = step.Exchange (word.State number) (state_bits old) (state_bits new)
step_for (Acquire l) h = step.Acquire l
step_for (Release l) h = step.Release l (goods_for l h)
step_for (Place id program priority) h = step.Place id program priority
step_for (Remove id) h = step.Remove id

-- What is left in hand once the step is asked for: what a lock guards goes with its release.
abbrev pub hand_asked : Ask → Hand → Hand
hand_asked (Release l) h = without_goods l h
hand_asked (Load number) h = h
hand_asked (LoadMail number) h = h
hand_asked (Post number message) h = h
hand_asked (Exchange number old new) h = h
hand_asked (Acquire l) h = h
hand_asked (Place id program priority) h = h
hand_asked (Remove id) h = h

-- the bits that a load found: those of a message, or of a state word
abbrev pub loaded : ℕ → Ask → Response
loaded bits (LoadMail number) = Mail (message_of_bits bits)
loaded bits (Load number) = Word (state_word_of bits)
loaded bits (Post number message) = Word (state_word_of bits)
loaded bits (Exchange number old new) = Word (state_word_of bits)
loaded bits (Acquire l) = Word (state_word_of bits)
loaded bits (Release l) = Word (state_word_of bits)
loaded bits (Place id program priority) = Word (state_word_of bits)
loaded bits (Remove id) = Word (state_word_of bits)

abbrev pub told_of : Told → Ask → Response
told_of (told.Loaded bits) a = loaded bits a
told_of told.Stored a = Stored
told_of told.Won a = Won
told_of (told.Lost bits) a = Lost (state_word_of bits)
told_of (told.Owned owner) a = Owned owner
told_of told.Released a = Released
told_of told.Placed a = Placed
told_of told.Removed a = Removed
told_of (told.Holds context) a = Kept
told_of (told.Taken context carrier) a = Kept

-- what an answer tells, decoded
abbrev pub response_of : Answer → Ask → Response
response_of (answer.Got goods) a = Got
response_of (answer.Told t) a = told_of t a

-- whether a step can have this response
abbrev pub suits_response : Ask → Response → Bool
suits_response (Load number) (Word w) = true
suits_response (LoadMail number) (Mail message) = true
suits_response (Post number message) Stored = true
suits_response (Exchange number old new) Won = true
suits_response (Exchange number old new) (Lost w) = true
suits_response (Acquire l) Got = true
suits_response (Acquire l) (Owned owner) = true
suits_response (Release l) Released = true
suits_response (Place id program priority) Placed = true
suits_response (Remove id) Removed = true
suits_response (Remove id) Kept = true
suits_response a r = false

-- whether the section has to ask for the same step again
abbrev pub is_again : Response → Bool
is_again (Owned owner) = true
is_again Kept = true
is_again r = false

abbrev pub is_lost : Response → Bool
is_lost (Lost w) = true
is_lost r = false

-- whether an exchange that expects the second word finds it, where the first is there
unfoldable pub same_word : StateWord → StateWord → Bool
same_word found expected = state_bits found == state_bits expected

-- WHAT A SECTION CAN HAVE TO WAIT FOR

-- a lock, or that the context of this thread number holds no lock and is in no carrier's hand
pub data Want : Type 0 where
  Table : Want
  Context : (number : ℕ) → Want
  Thread : (number : ℕ) → Want
  Ready : Want

abbrev pub want_for : Lock → Want
want_for lock.Table = Table
want_for (lock.Thread number) = Thread number
want_for lock.Ready = Ready

abbrev pub want_of : Ask → Option Want
want_of (Acquire l) = Some (want_for l)
want_of (Remove id) = Some (Context id.number)
want_of (Load number) = None
want_of (LoadMail number) = None
want_of (Post number message) = None
want_of (Exchange number old new) = None
want_of (Release l) = None
want_of (Place id program priority) = None
