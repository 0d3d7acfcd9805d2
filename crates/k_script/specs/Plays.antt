-- PLAYS: what it means that a history plays a script.
use Rattle.std.specs.Prelude.{◌≡◌, ℕ, ◌+◌, ◌-◌, ◌≤◌, ◌<◌, ◌==◌, nat_lt, Bool, true, false, ◌&&◌, List, [], ◌∷◌, length, slice_index_or, Option, Some, None, option_map, is_some, if◌then◌else◌}
use Rattle.std.specs.List.{sum_by, AllByRecursion}
use Rattle.std.specs.Option.{option_or}
use Rattle.k_ids.specs.declared.threads.ThreadId.{ThreadId}
use Rattle.k_ids.specs.declared.threads.Message.{Message}
use Rattle.k_ids.specs.declared.calls.Phase.{Phase}
use Rattle.k_ids.specs.declared.calls.Phase.TheVariants as phase
use Rattle.k_ids.specs.declared.calls.Reply.{Reply}
use Rattle.k_ids.specs.declared.calls.Reply.TheVariants as reply
use Rattle.k_ids.specs.declared.calls.Act.{Act}
use Rattle.k_ids.specs.declared.calls.Act.TheVariants as act
use Rattle.k_ids.specs.declared.calls.Outcome.{Outcome}
use Rattle.k_ids.specs.declared.calls.Outcome.TheVariants as outcome
use Rattle.k_ids.specs.declared.histories.Entry.{Entry}
use Rattle.k_model.specs.State.{KernelState, same_id}
use Rattle.k_model.specs.History.{IsReplay, IsFinished, calls_of, opened}
use Rattle.k_model.specs.Answered.{reply_to}
use Rattle.k_script.specs.declared.operation.Who.{Who}
use Rattle.k_script.specs.declared.operation.Who.TheVariants as who
use Rattle.k_script.specs.declared.operation.Value.{Value}
use Rattle.k_script.specs.declared.operation.Value.TheVariants as value
use Rattle.k_script.specs.declared.operation.Operation.{Operation}
use Rattle.k_script.specs.declared.operation.Operation.TheVariants as operation
use Rattle.k_script.specs.declared.lines.ThreadLine.{ThreadLine}
use Rattle.k_script.specs.declared.registers.Registers.{Registers}
use Rattle.k_script.specs.declared.registers.Next.{Next}
use Rattle.k_script.specs.declared.registers.Next.TheVariants as next
use Rattle.k_script.specs.Script.{Script, operations_of}
use Rattle.k_script.specs.Limits.{IsOperation}
use Rattle.k_script.specs.Flat.{flat}
use Rattle.k_script.specs.Weight.{phase_scale, cost, program_phases, phases_of_program}

-- REGISTERS: `last` is the sender of the message last got, `created` the thread last made, `got` the message last got. They
-- are filled from the replies to a thread's own calls.

abbrev pub id_of : Registers → Who → ThreadId
id_of r (who.Number n) = record { number = n; version = 1 }
id_of r who.Last = r.last
id_of r who.Made = r.created

abbrev pub value_of : Registers → Value → ℕ
value_of r (value.Number n) = n
value_of r value.Got0 = r.got.low
value_of r value.Got1 = r.got.high

abbrev pub message_of : Registers → Value → Value → Message
message_of r low high = record { low = value_of r low; high = value_of r high }

abbrev pub filled : Registers → Option Reply → Registers
filled r (Some (reply.Got from message)) = record r { last = from; got = message }
filled r (Some (reply.Made id)) = record r { created = id }
filled r other = r

-- THE PHASES OF A PROGRAM

-- A program is written out flat. It goes on with its next operation whatever the reply to the phase before was; but a reply
-- that was sent is followed by an open receive. Here the reply to the last phase is not taken in yet.
pub record Position : Type 0 where
  pub registers : Registers
  pub replying : Bool  -- the last phase is that of a reply
  pub left : Option (List Operation)  -- the operations that are left; none once the end was made

abbrev pub is_sent : Option Reply → Bool
is_sent (Some reply.Sent) = true
is_sent other = false

-- an open receive with timeout never
abbrev pub open_receive : Operation
open_receive = operation.Receive None false

abbrev pub is_reply : Operation → Bool
is_reply (operation.Reply low high zero) = true
is_reply other = false

-- what is to be done next, given the reply to the last phase
abbrev pub coming : Bool → Option Reply → List Operation → List Operation
coming replying last ops = if replying && is_sent last then open_receive ∷ ops else ops

-- work makes no phase
abbrev pub after_work : List Operation → List Operation
after_work [] = []
after_work (operation.Work count ∷ ops) = after_work ops
after_work (op ∷ ops) = op ∷ ops

-- In version 1 of the script a reply is a send. In version 2 it is a call of its own.
abbrev pub reply_phase : ℕ → ThreadId → Message → Bool → Phase
reply_phase version to message zero = if version == 2 then phase.Reply to message zero else phase.Send to message zero false

-- (Work, a repeat and an again have no phase.)
abbrev pub phase_of : ℕ → Registers → Operation → Phase
phase_of version r (operation.Send to low high zero) = phase.Send (id_of r to) (message_of r low high) zero false
phase_of version r (operation.Receive from zero) = phase.Receive (option_map (id_of r) from) zero
phase_of version r (operation.Call to low high zero) = phase.Send (id_of r to) (message_of r low high) zero true
phase_of version r (operation.Reply low high zero) = reply_phase version r.last (message_of r low high) zero
phase_of version r (operation.Create program priority) = phase.Create program priority
phase_of version r (operation.Destroy victim) = phase.Destroy (id_of r victim)
phase_of version r (operation.Work count) = phase.End
phase_of version r (operation.Repeat count) = phase.End
phase_of version r operation.Again = phase.End

abbrev pub first_phase : ℕ → Registers → List Operation → Phase
first_phase version r [] = phase.End
first_phase version r (op ∷ ops) = phase_of version r op

abbrev pub first_move : Registers → List Operation → Position
first_move r [] = record { registers = r; replying = false; left = None }
first_move r (op ∷ ops) = record { registers = r; replying = is_reply op; left = Some ops }

abbrev pub phase_in : ℕ → Position → Option Reply → Option (List Operation) → Phase
phase_in version p last None = phase.End
phase_in version p last (Some ops) = first_phase version (filled p.registers last) (after_work (coming p.replying last ops))

abbrev pub move_in : Position → Option Reply → Option (List Operation) → Position
move_in p last None = p
move_in p last (Some ops) = first_move (filled p.registers last) (after_work (coming p.replying last ops))

-- the next phase, given the reply to the last one
abbrev pub phase_next : ℕ → Position → Option Reply → Phase
phase_next version p last = phase_in version p last p.left

-- where that phase leaves the program
abbrev pub moved : Position → Option Reply → Position
moved p last = move_in p last p.left

-- ONE AT A TIME: what a thread does next, where work counts too. After work there is no reply to take in.

abbrev pub next_for : ℕ → Registers → Operation → Next
next_for version r (operation.Work count) = next.Work count
next_for version r op = next.Phase (phase_of version r op)

abbrev pub first_next : ℕ → Registers → List Operation → Next
first_next version r [] = next.Phase phase.End
first_next version r (op ∷ ops) = next_for version r op

abbrev pub next_in : ℕ → Position → Option Reply → Option (List Operation) → Next
next_in version p last None = next.Phase phase.End
next_in version p last (Some ops) = first_next version (filled p.registers last) (coming p.replying last ops)

abbrev pub went_in : Position → Option Reply → Option (List Operation) → Position
went_in p last None = p
went_in p last (Some ops) = first_move (filled p.registers last) (coming p.replying last ops)

abbrev pub next_of : ℕ → Position → Option Reply → Next
next_of version p last = next_in version p last p.left

-- where that leaves the program
abbrev pub went_on : Position → Option Reply → Position
went_on p last = went_in p last p.left

-- These calls, from this serial on, are those of the program from a position on, and lead to this position and next
-- serial; none comes behind the end. `replies s` is the reply to the call before serial s.
abbrev pub Runs : ℕ → (ℕ → Option Reply) → Position → ℕ → List (ℕ × Phase) → Position → ℕ → Type 0
Runs version replies p s [] q next = (q ≡ p) × (next ≡ s)
Runs version replies p s (c ∷ calls) q next = (is_some p.left ≡ true) × (c ≡ (s, phase_next version p (replies s))) × Runs version replies (moved p (replies s)) (s + 1) calls q next

-- how many calls are still to come at most, with the end and those of the threads that are created
abbrev pub phases_in : Script → Bool → Option (List Operation) → ℕ
phases_in script replying None = 0
phases_in script replying (Some ops) = sum_by (cost phase_scale (program_phases script)) ops + 1 + (if replying then 1 else 0)

abbrev pub phases_left : Script → Position → ℕ
phases_left script p = phases_in script p.replying p.left

-- the calls of the thread that a phase may create
abbrev pub phases_given : Script → Phase → ℕ
phases_given script (phase.Create program priority) = phases_of_program script program
phases_given script other = 0

-- THE PROGRAM OF A THREAD

-- the first thread of a number
abbrev pub first_id : ℕ → ThreadId
first_id number = record { number = number; version = 1 }

-- At its start a thread has got a message of zeros from itself, and made itself.
abbrev pub start_registers : ThreadId → Registers
start_registers id = record { last = id; created = id; got = record { low = 0; high = 0 } }

abbrev pub start_of : Script → ℕ → ThreadId → Position
start_of script program id = record { registers = start_registers id; replying = false; left = Some (flat (operations_of script program)) }

abbrev pub no_thread : ThreadLine
no_thread = record { priority = 0; program = 255 }

abbrev pub is_first : Script → ThreadId → Bool
is_first script id = (id.version == 1) && nat_lt id.number (length script.threads)

abbrev pub created_program : Act → Option ℕ
created_program (act.Call (phase.Create program priority)) = Some program
created_program other = None

abbrev pub makes : Outcome → ThreadId → Bool
makes (outcome.Made made) id = same_id made id
makes other id = false

-- the program that an entry's create named, if it made the thread
abbrev pub program_made : Entry → ThreadId → Option ℕ
program_made e id = if makes e.outcome id then created_program e.event.act else None

abbrev pub made_program : List Entry → ThreadId → Option ℕ
made_program [] id = None
made_program (e ∷ es) id = option_or (program_made e id) (made_program es id)

-- The threads of the script have the programs of their lines, and a thread that was made has that which its create named.
abbrev pub program_of : Script → List Entry → ThreadId → Option ℕ
program_of script entries id =
    if is_first script id then Some (slice_index_or script.threads id.number no_thread).program
    else made_program entries id

-- PLAYS: each thread's calls have the serials 1, 2, 3 and so on, in this order, and are the phases of its program, with
-- the registers filled from the replies to its earlier calls. A thread that never was has made no calls.

-- the reply to the call of this thread before the serial
abbrev pub reply_before : KernelState → ThreadId → ℕ → Option Reply
reply_before k id serial = reply_to k.replies id (serial - 1)

pub record RunsProgram (script : Script) (program : ℕ) (entries : List Entry) (end : KernelState) (id : ThreadId) : Type 0 where
  pub position : Position
  pub next : ℕ
  pub runs : Runs script.version (reply_before end id) (start_of script program id) 1 (calls_of id entries) position next

abbrev pub PlaysIn : Script → List Entry → KernelState → ThreadId → Option ℕ → Type 0
PlaysIn script entries end id None = calls_of id entries ≡ []
PlaysIn script entries end id (Some program) = RunsProgram script program entries end id

abbrev pub PlaysProgram : Script → List Entry → KernelState → ThreadId → Type 0
PlaysProgram script entries end id = PlaysIn script entries end id (program_of script entries id)

abbrev pub Plays : Script → List Entry → KernelState → Type 0
Plays script entries end = (id : ThreadId) → PlaysProgram script entries end id

-- A LEGAL, PLAYING, FINISHED HISTORY OF A SCRIPT, and the state that it leaves

-- Each thread line's thread runs, and the other numbers are dead with the versions that they had last.
abbrev pub opened_for : Script → KernelState
opened_for script = opened script.aged (length script.threads)

pub record IsHistory (script : Script) (entries : List Entry) (end : KernelState) : Type 0 where
  pub legal : IsReplay (opened_for script) entries end
  pub plays : Plays script entries end
  pub finished : IsFinished end

-- RANGES: the phases of a script name numbers of the table, versions from 1 to 1,048,575 and priorities up to 63, where the
-- replies do.

pub record IsInRange (table : ℕ) (id : ThreadId) : Type 0 where
  pub number : id.number < table
  pub first : 1 ≤ id.version
  pub last : id.version ≤ 1048575

pub record AreInRange (table : ℕ) (r : Registers) : Type 0 where
  pub last : IsInRange table r.last
  pub created : IsInRange table r.created

abbrev pub TellsInRange : ℕ → Option Reply → Type 0
TellsInRange table (Some (reply.Got from message)) = IsInRange table from
TellsInRange table (Some (reply.Made id)) = IsInRange table id
TellsInRange table other = Unit {0}

abbrev pub NamesInRange : Script → Phase → Type 0
NamesInRange script (phase.Send to message zero joined) = IsInRange script.table to
NamesInRange script (phase.Receive (Some from) zero) = IsInRange script.table from
NamesInRange script (phase.Receive None zero) = Unit {0}
NamesInRange script (phase.Create program priority) = (program < length script.programs) × (priority ≤ 63)
NamesInRange script (phase.Destroy victim) = IsInRange script.table victim
NamesInRange script (phase.Reply to message zero) = IsInRange script.table to
NamesInRange script phase.End = Unit {0}

abbrev pub AllLeft : Script → Option (List Operation) → Type 0
AllLeft script None = Unit {0}
AllLeft script (Some ops) = AllByRecursion (IsOperation script.table (length script.programs)) ops

-- a position whose registers are in range, and of whose program operations of the script are left
pub record IsWithin (script : Script) (p : Position) : Type 0 where
  pub registers : AreInRange script.table p.registers
  pub left : AllLeft script p.left
