-- What a thread does between its critical sections, location by location: its step, where it leads, the thread's own word
-- after it, what is told of it, and the entry that it makes.
--
-- `me` is the thread, and `own` its state word as its context knows it.
use Rattle.std.specs.Prelude.{ℕ, ◌-◌, ◌≡◌, ◌≤◌, ◌==◌, Bool, true, false, if◌then◌else◌, Option, Some, None}
use Rattle.k_ids.specs.declared.threads.ThreadId.{ThreadId}
use Rattle.k_ids.specs.declared.calls.Phase.TheVariants as phase
use Rattle.k_ids.specs.declared.calls.Reply.TheVariants as reply
use Rattle.k_ids.specs.declared.calls.Act.TheVariants as act
use Rattle.k_ids.specs.declared.calls.Outcome.TheVariants as outcome
use Rattle.k_ids.specs.declared.state_word.Result4.{Result4}
use Rattle.k_ids.specs.declared.state_word.Result4.TheVariants as result4
use Rattle.k_ids.specs.declared.state_word.State.{State}
use Rattle.k_ids.specs.declared.state_word.State.TheVariants as state
use Rattle.k_ids.specs.declared.state_word.StateWord.{StateWord}
use Rattle.k_ids.specs.StateWords.{IsPartner, IsStateSpelling, IsStateWord}
use Rattle.k_locks.specs.Asks.{Ask, Response, step_for, told_of}
use Rattle.k_locks.specs.Asks as plain
use Rattle.k_locks.specs.Hands.{nothing}
use Rattle.k_locks.specs.Steps.{suits}
use Rattle.k_locks.specs.declared.steps.Answer.TheVariants as answer
use Rattle.k_locks.specs.declared.steps.Told.{Told}
use Rattle.k_locks.specs.declared.steps.Told.TheVariants as told
use Rattle.k_locks.specs.declared.points.Point.{Point}
use Rattle.k_locks.specs.Shown.{is_dead}
use Rattle.k_locks.specs.Threads.{runs}
use Rattle.k_caller.specs.declared.thread.ThreadLocation.{ThreadLocation}
use Rattle.k_caller.specs.declared.thread.ThreadLocation.TheVariants.{Between, FallAsleep, LookAgain, LoadMail, Work, CommitEnd, Asleep, Ended, Dead}
use Rattle.k_caller.specs.declared.ran.Ran.{Ran}
use Rattle.k_caller.specs.declared.ran.Ran.TheVariants as ran

-- THE WORDS THAT IT WRITES

abbrev pub off_word : StateWord → StateWord
off_word w = record w { on = false }

-- the thread has reached the end of its program
abbrev pub ended_word : StateWord → StateWord
ended_word w = record w { on = false; state = state.Ended }

-- THE STEP

abbrev pub ask_of : ThreadId → StateWord → ThreadLocation → Ask
ask_of me own FallAsleep = plain.Exchange me.number own (off_word own)
ask_of me own LookAgain = plain.Load me.number
ask_of me own (LoadMail from) = plain.LoadMail me.number
ask_of me own (Work count) = plain.Load me.number
ask_of me own CommitEnd = plain.Exchange me.number own (ended_word own)
ask_of me own p = plain.Load me.number  -- the others aren't asked

-- WHERE IT LEADS

-- what has become of the wait, by the thread's own word
abbrev pub looked_run : Result4 → ThreadLocation
looked_run result4.Sent = Between (Some reply.Sent)
looked_run (result4.Delivered from) = LoadMail from
looked_run result4.Gone = Between (Some reply.Gone)
looked_run result4.Plain = LookAgain

abbrev pub looked : State → ThreadLocation
looked state.Dead = Dead
looked (state.Run result) = looked_run result
looked (state.Sending to joined) = FallAsleep
looked (state.Receiving from) = FallAsleep
looked state.Picking = LookAgain
looked state.Ended = LookAgain

-- one load less; after the last one there is no reply to take in
abbrev pub worked : ℕ → ThreadLocation
worked count = if count == 1 then Between None else Work (count - 1)

abbrev pub leads : ThreadLocation → Response → ThreadLocation
leads FallAsleep plain.Won = Asleep
leads FallAsleep (plain.Lost w) = LookAgain
leads LookAgain (plain.Word w) = looked w.state
leads (LoadMail from) (plain.Mail message) = Between (Some (reply.Got from message))
leads (Work count) (plain.Word w) = if is_dead w then Dead else worked count
leads CommitEnd plain.Won = Ended
leads CommitEnd (plain.Lost w) = Dead
leads p r = p

-- the thread's own word, as the context knows it
abbrev pub own_of : StateWord → ThreadLocation → Response → StateWord
own_of own FallAsleep plain.Won = off_word own
own_of own LookAgain (plain.Word w) = w
own_of own CommitEnd plain.Won = ended_word own
own_of own p r = own

-- WHAT IS TOLD

-- a call that waited is over where there is a reply to it; work has none
abbrev pub ran_to : ℕ → ThreadLocation → Ran
ran_to serial (Between (Some r)) = ran.Replied serial r
ran_to serial Asleep = ran.Left
ran_to serial Ended = ran.Left
ran_to serial Dead = ran.Dead
ran_to serial p = ran.On

abbrev pub ran_of : ℕ → ThreadLocation → Response → Ran
ran_of serial p r = ran_to serial (leads p r)

-- whether its step belongs to a call
abbrev pub is_of_call : ThreadLocation → Bool
is_of_call (Work count) = false
is_of_call p = true

-- THE LINEARIZATION POINT

abbrev pub points : ThreadId → ThreadLocation → Response → Option Point
points me CommitEnd plain.Won = Some (record { who = me; act = act.Call phase.End; outcome = outcome.Ended })
points me p r = None

-- CONDITIONS

-- its step can be asked for
abbrev pub can_ask : ThreadLocation → Bool
can_ask FallAsleep = true
can_ask LookAgain = true
can_ask (LoadMail from) = true
can_ask (Work count) = true
can_ask CommitEnd = true
can_ask (Between last) = false
can_ask Asleep = false
can_ask Ended = false
can_ask Dead = false

-- a word of this thread
pub record IsWordOf (me : ThreadId) (w : StateWord) : Type 0 where
  pub whole : IsStateWord w
  pub version : w.version ≡ me.version

abbrev pub is_waiting : State → Bool
is_waiting (state.Sending to joined) = true
is_waiting (state.Receiving from) = true
is_waiting state.Picking = true
is_waiting state.Dead = false
is_waiting (state.Run result) = false
is_waiting state.Ended = false

-- What its own word is: it runs between two calls, waits where it falls asleep, and is any where it isn't used.
abbrev pub IsSoundAt : ThreadId → StateWord → ThreadLocation → Type 0
IsSoundAt me own (Between last) = IsWordOf me own × (runs own.state ≡ true)
IsSoundAt me own FallAsleep = IsWordOf me own × (is_waiting own.state ≡ true)
IsSoundAt me own LookAgain = Unit {0}
IsSoundAt me own (LoadMail from) = IsWordOf me own × (runs own.state ≡ true) × IsPartner from
IsSoundAt me own (Work count) = IsWordOf me own × (runs own.state ≡ true) × (1 ≤ count)
IsSoundAt me own CommitEnd = IsWordOf me own × (runs own.state ≡ true)
IsSoundAt me own Asleep = Unit {0}
IsSoundAt me own Ended = Unit {0}
IsSoundAt me own Dead = Unit {0}

-- A waiting thread finds that it was destroyed, that its wait is over, or that it still waits.
abbrev pub has_way : State → Bool
has_way state.Dead = true
has_way (state.Run result4.Plain) = false
has_way (state.Run result4.Sent) = true
has_way (state.Run (result4.Delivered from)) = true
has_way (state.Run result4.Gone) = true
has_way (state.Sending to joined) = true
has_way (state.Receiving from) = true
has_way state.Picking = false
has_way state.Ended = false

abbrev pub IsFit : ThreadId → ThreadLocation → Response → Type 0
IsFit me LookAgain (plain.Word w) = (has_way w.state ≡ true) × (is_dead w ≡ false → IsWordOf me w)
IsFit me p r = Unit {0}

-- a state word that is read has a spelling
abbrev pub IsSpelled : ThreadLocation → Told → Type 0
IsSpelled LookAgain (told.Loaded bits) = IsStateSpelling bits
IsSpelled (Work count) (told.Loaded bits) = IsStateSpelling bits
IsSpelled p t = Unit {0}

-- What can be told of the step.
pub record IsAnswer (me : ThreadId) (own : StateWord) (p : ThreadLocation) (t : Told) : Type 0 where
  pub suiting : suits (step_for (ask_of me own p) nothing) (answer.Told t) ≡ true
  pub spelled : IsSpelled p t
  pub fit : IsFit me p (told_of t (ask_of me own p))
