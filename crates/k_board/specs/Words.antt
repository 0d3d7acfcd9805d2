-- What is seen of a thread number: its two words, and its ledger. The ledger is what the replay of the history has of the number's
-- thread; here it is data of its own, changed at linearization points alone (Herlihy and Wing, *Linearizability*).
use Rattle.std.specs.Prelude.{◌≡◌, ℕ, ◌+◌, if◌then◌else◌, Option, Some, None}
use Rattle.k_ids.specs.declared.threads.ThreadId.{ThreadId}
use Rattle.k_ids.specs.declared.threads.Message.{Message}
use Rattle.k_ids.specs.declared.calls.Phase.{Phase}
use Rattle.k_ids.specs.declared.calls.Phase.TheVariants as phase
use Rattle.k_ids.specs.declared.calls.Reply.{Reply}
use Rattle.k_ids.specs.declared.calls.Reply.TheVariants as reply
use Rattle.k_ids.specs.declared.calls.Act.{Act}
use Rattle.k_ids.specs.declared.calls.Act.TheVariants as act
use Rattle.k_ids.specs.declared.calls.Outcome.{Outcome}
use Rattle.k_ids.specs.declared.calls.Outcome.TheVariants as outcome
use Rattle.k_ids.specs.declared.state_word.StateWord.{StateWord}
use Rattle.k_model.specs.Maps.{upd}
use Rattle.k_locks.specs.declared.points.Point.{Point}
use Rattle.k_script.specs.declared.registers.Next.{Next}
use Rattle.k_script.specs.declared.registers.Next.TheVariants as next
use Rattle.k_script.specs.Plays.{Position}
use Rattle.k_ipc.specs.Words.{is_joined_to}

pub record Seen : Type 0 where
  pub word : StateWord
  pub mail : Message
  pub last : ℕ  -- the serial of the thread's last call, 0 before the first
  pub told : Option Reply  -- the reply to that call
  pub position : Position  -- where the program stands after that call

-- Any programs: where a new thread begins, what comes next at a position, given the reply to the last call, and where that leads.
pub record Programs : Type 0 where
  pub start : ThreadId → (program : ℕ) → Position
  pub next : Position → Option Reply → Next
  pub moved : Position → Option Reply → Position

-- A position is reached over works alone. There is no reply to take in after a work.
pub data Walks (g : Programs) (p : Position) (r : Option Reply) : Position → Option Reply → Type 0 where
  here : Walks g p r p r
  works : (q : Position) (l : Option Reply) (count : ℕ) → Walks g p r q l → g.next q l ≡ next.Work count →
      Walks g p r (g.moved q l) None

-- The program gives this call after a position and a reply, and stands there once it is made.
pub record Begins (g : Programs) (p : Position) (r : Option Reply) (f : Phase) (after : Position) : Type 0 where
  pub at : Position
  pub last : Option Reply
  pub walk : Walks g p r at last
  pub call : g.next at last ≡ next.Phase f
  pub moved : after ≡ g.moved at last

-- THE LEDGER AT A LINEARIZATION POINT

-- A call takes the next serial, and has this reply or none yet; the program stands where the caller's context has it.
abbrev pub called : Seen → Option Reply → Position → Seen
called v r p = record v { last = v.last + 1; told = r; position = p }

abbrev pub answered : Seen → Reply → Seen
answered v r = record v { told = Some r }

-- a new thread has made no call
abbrev pub opened : Seen → Position → Seen
opened v p = record v { last = 0; told = None; position = p }

abbrev pub calls : (ℕ → Seen) → ThreadId → Position → Option Reply → ℕ → Seen
calls s me at r = upd s me.number (called (s me.number) r at)

abbrev pub tells : (ℕ → Seen) → ThreadId → Reply → ℕ → Seen
tells s id r = upd s id.number (answered (s id.number) r)

-- a sender whose message was taken is answered, unless its send was joined
abbrev pub tells_sent : (ℕ → Seen) → ThreadId → ℕ → Seen
tells_sent s id = if is_joined_to (s id.number).word.state then s else tells s id reply.Sent

-- the reply to a call whose message passes: a joined one waits for its answer, and one that replies picks
abbrev pub sent_reply : Phase → Option Reply
sent_reply (phase.Send to message zero joined) = if joined then None else Some reply.Sent
sent_reply p = None

abbrev pub passes_to : (ℕ → Seen) → ThreadId → Phase → ℕ → Seen
passes_to s me (phase.Send to message zero joined) = tells s to (reply.Got me message)
passes_to s me (phase.Reply to message zero) = tells s to (reply.Got me message)
passes_to s me p = s

abbrev pub opens : Programs → (ℕ → Seen) → ThreadId → Phase → ℕ → Seen
opens g s id (phase.Create program priority) = upd s id.number (opened (s id.number) (g.start id program))
opens g s id p = s

abbrev pub call_noted : Programs → (ℕ → Seen) → ThreadId → Position → Phase → Outcome → ℕ → Seen
call_noted g s me at p outcome.Passed = passes_to (calls s me at (sent_reply p)) me p
call_noted g s me at p outcome.Waits = calls s me at None
call_noted g s me at p (outcome.Took from message) = tells_sent (calls s me at (Some (reply.Got from message))) from
call_noted g s me at p (outcome.Absent found) = calls s me at (Some (reply.Absent found))
call_noted g s me at p (outcome.Busy found) = calls s me at (Some (reply.Busy found))
call_noted g s me at p outcome.Nobody = calls s me at (Some reply.Nobody)
call_noted g s me at p outcome.Own = calls s me at (Some reply.Own)
call_noted g s me at p outcome.Killed = calls s me at (Some reply.Killed)
call_noted g s me at p (outcome.Made id) = opens g (calls s me at (Some (reply.Made id))) id p
call_noted g s me at p (outcome.Full alive worn) = calls s me at (Some (reply.Full alive worn))
call_noted g s me at p outcome.Ended = calls s me at None
call_noted g s me at p outcome.Freed = s

abbrev pub pick_noted : (ℕ → Seen) → ThreadId → Outcome → ℕ → Seen
pick_noted s me (outcome.Took from message) = tells_sent (tells s me (reply.Got from message)) from
pick_noted s me o = s

abbrev pub act_noted : Programs → (ℕ → Seen) → ThreadId → Position → Act → Outcome → ℕ → Seen
act_noted g s me at (act.Call p) o = call_noted g s me at p o
act_noted g s me at act.Gone o = tells s me reply.Gone
act_noted g s me at act.Pick o = pick_noted s me o

-- What a point makes of the ledgers; `at` is the position that the context has which makes it.
abbrev pub noted : Programs → (ℕ → Seen) → Position → Option Point → ℕ → Seen
noted g s at None = s
noted g s at (Some p) = act_noted g s p.who at p.act p.outcome
