-- The state of the sequential specification: what each number shows, who waits to send to it, and the replies so far.
use Rattle.std.specs.Prelude.{ℕ, Bool, true, false, ◌&&◌, not, ◌==◌, List, [], ◌∷◌, ◌++◌, Option, Some, None}
use Rattle.k_ids.specs.declared.threads.ThreadId.{ThreadId}
use Rattle.k_ids.specs.declared.threads.Message.{Message}
use Rattle.k_ids.specs.declared.threads.Status.{Status}
use Rattle.k_ids.specs.declared.threads.Status.TheVariants as status
use Rattle.k_ids.specs.declared.threads.Found.{Found}
use Rattle.k_ids.specs.declared.calls.Reply.{Reply}
use Rattle.k_ids.specs.declared.histories.ReplyLine.{ReplyLine}
use Rattle.k_model.specs.Maps.{upd}

-- a waiting sender and its message
abbrev pub Waiting : Type 0
Waiting = ThreadId × Message

-- One number of the table. A thread is its number and its version: each new thread of a number has the next version.
pub record Place : Type 0 where
  pub version : ℕ  -- of the thread that has the number, or had it last
  pub status : Status
  pub joined : Bool  -- whether the thread is sending and then waits for the partner's answer; false in every other status
  pub serial : ℕ  -- of the thread's last call; the first has serial 1
  pub waiting : List Waiting  -- who waits to send to the thread, in the order in which they came

-- The table is a total map. Numbers that it doesn't have are dead, of version 0, and stay so.
pub record KernelState : Type 0 where
  pub size : ℕ
  pub place : ℕ → Place
  pub replies : List ReplyLine  -- in the order in which they came

-- what a number past the table shows
abbrev pub nowhere : Place
nowhere = record { version = 0; status = status.Dead; joined = false; serial = 0; waiting = [] }

-- Changes of a state

abbrev pub with_place : KernelState → ℕ → Place → KernelState
with_place k number p = record k { place = upd k.place number p }

-- any status but sending
abbrev pub with_status : KernelState → ℕ → Status → KernelState
with_status k number s = with_place k number (record (k.place number) { status = s; joined = false })

-- one more reply
abbrev pub answered : KernelState → ThreadId → ℕ → Reply → KernelState
answered k who serial r = record k { replies = k.replies ++ record { id = who; serial = serial; reply = r } ∷ [] }

-- Questions to a state

-- the thread that has the number, or had it last
abbrev pub id_of : KernelState → ℕ → ThreadId
id_of k number = record { number = number; version = (k.place number).version }

abbrev pub found_of : KernelState → ℕ → Found
found_of k number = record { id = id_of k number; status = (k.place number).status }

abbrev pub same_id : ThreadId → ThreadId → Bool
same_id a b = (a.number == b.number) && (a.version == b.version)

abbrev pub is_dead : Status → Bool
is_dead status.Dead = true
is_dead status.Run = false
is_dead (status.Sending to) = false
is_dead (status.Receiving from) = false
is_dead status.Picking = false
is_dead status.Ended = false

abbrev pub is_run : Status → Bool
is_run status.Dead = false
is_run status.Run = true
is_run (status.Sending to) = false
is_run (status.Receiving from) = false
is_run status.Picking = false
is_run status.Ended = false

abbrev pub is_picking : Status → Bool
is_picking status.Dead = false
is_picking status.Run = false
is_picking (status.Sending to) = false
is_picking (status.Receiving from) = false
is_picking status.Picking = true
is_picking status.Ended = false

-- A thread is present where its number has its version and isn't dead.
abbrev pub is_present : KernelState → ThreadId → Bool
is_present k who = ((k.place who.number).version == who.version) && not (is_dead (k.place who.number).status)

-- whether a thread that receives from one, or from any, wants this sender
abbrev pub admits : Option ThreadId → ThreadId → Bool
admits None who = true
admits (Some from) who = same_id from who

-- Whether a thread of this status takes a message of this sender at once. A picking thread takes none of a sender that
-- can wait: it looks at its own list first.
abbrev pub takes_from : Status → ThreadId → Bool → Bool
takes_from status.Dead who zero = false
takes_from status.Run who zero = false
takes_from (status.Sending to) who zero = false
takes_from (status.Receiving from) who zero = admits from who
takes_from status.Picking who zero = zero
takes_from status.Ended who zero = false

-- whether a thread of this status waits for one thread that isn't present
abbrev pub waits_for_absent : KernelState → Status → Bool
waits_for_absent k status.Dead = false
waits_for_absent k status.Run = false
waits_for_absent k (status.Sending to) = not (is_present k to)
waits_for_absent k (status.Receiving None) = false
waits_for_absent k (status.Receiving (Some from)) = not (is_present k from)
waits_for_absent k status.Picking = false
waits_for_absent k status.Ended = false
