-- Three runs, worked from beginning to end: what each leaves in the history and in the log of waits.
use Rattle.std.specs.Prelude.{ℕ, ◌≡◌, true, false, None, List, [], ◌∷◌, length, replicate}
use Rattle.k_ids.specs.declared.calls.Act.TheVariants as act
use Rattle.k_ids.specs.declared.calls.Outcome.{Outcome}
use Rattle.k_ids.specs.declared.calls.Outcome.TheVariants as outcome
use Rattle.k_ids.specs.declared.calls.Phase.{Phase}
use Rattle.k_ids.specs.declared.calls.Phase.TheVariants as phase
use Rattle.k_ids.specs.declared.histories.Entry.{Entry}
use Rattle.k_ids.specs.declared.threads.Message.{Message}
use Rattle.k_ids.specs.declared.threads.ThreadId.{ThreadId}
use Rattle.k_locks.specs.declared.locks.Lock.TheVariants as lock
use Rattle.k_script.specs.declared.lines.AtWhat.TheVariants as what
use Rattle.k_script.specs.declared.lines.AtLine.{AtLine}
use Rattle.k_script.specs.declared.lines.ThreadLine.{ThreadLine}
use Rattle.k_script.specs.declared.operation.Operation.{Operation}
use Rattle.k_script.specs.declared.operation.Operation.TheVariants as operation
use Rattle.k_script.specs.declared.operation.Value.TheVariants as value
use Rattle.k_script.specs.declared.operation.Who.TheVariants as who
use Rattle.k_script.specs.Script.{Program, Script}
use Rattle.k_context.specs.declared.owner.Owner.TheVariants as owner
use Rattle.k_carrier.specs.declared.marks.Link.{Link}
use Rattle.k_carrier.specs.declared.marks.WaitMark.{WaitMark}
use Rattle.k_carrier.specs.declared.marks.Want.TheVariants as want
use Rattle.k_world.specs.Runs.{Turn, Start, Park, run_of, burst}
use Rattle.k_world.specs.Worlds.{World}

-- WHAT IS SHOWN OF A RUN

pub record Shown : Type 0 where
  pub made : ℕ  -- atomic steps
  pub marked : ℕ  -- steps that have a mark
  pub history : List Entry
  pub marks : List WaitMark
  pub links : List Link

abbrev pub shown : World → Shown
shown w = record { made = w.made; marked = length w.steps; history = w.history; marks = w.waits.marks; links = w.waits.links }

-- WORDS OF THE EXAMPLES

abbrev pub thread : ℕ → ℕ → ThreadId
thread number version = record { number = number; version = version }

abbrev pub message : ℕ → ℕ → Message
message low high = record { low = low; high = high }

abbrev pub made_call : ThreadId → ℕ → Phase → Outcome → Entry
made_call id serial call o = record { event = record { who = id; serial = serial; act = act.Call call }; outcome = o }

abbrev pub program : List Operation → Program
program operations = record { name = []; operations = operations }

abbrev pub line : ℕ → ℕ → ThreadLine
line priority program = record { priority = priority; program = program }

abbrev pub starts_at : ℕ → ℕ → AtLine
starts_at step number = record { step = step; what = what.Start number }

abbrev pub send_to : ℕ → ℕ → ℕ → Operation
send_to number low high = operation.Send (who.Number number) (value.Number low) (value.Number high) false

abbrev pub waits : Operation
waits = operation.Receive None false

abbrev pub script_of : ℕ → ℕ → List Program → List ThreadLine → List AtLine → Script
script_of table carriers programs threads at_lines = record {
  version = 1;
  table = table;
  carriers = carriers;
  show_steps = false;
  aged = replicate table 0;
  programs = programs;
  threads = threads;
  at_lines = at_lines;
  turns = [];
}

-- A CALL: the client wakes the server inside its section and is preempted there. The server's next wait needs the lock that the
-- client still holds, and helps it for one step.

abbrev pub client_and_server : Script
client_and_server = script_of 2 1
    (program (operation.Call (who.Number 1) (value.Number 7) (value.Number 8) false ∷ []) ∷ program (waits ∷ operation.Reply value.Got0 value.Got1 false ∷ []) ∷ [])
    (line 10 0 ∷ line 20 1 ∷ []) []

abbrev pub ClientIsHelped : Type 0
ClientIsHelped = shown (run_of client_and_server 1 (burst 0 75 [])) ≡ record {
  made = 75;
  marked = 41;
  history = made_call (thread 1 1) 1 (phase.Receive None false) outcome.Waits
      ∷ made_call (thread 0 1) 1 (phase.Send (thread 1 1) (message 7 8) false true) outcome.Passed
      ∷ made_call (thread 1 1) 2 (phase.Send (thread 0 1) (message 7 8) false false) outcome.Passed
      ∷ made_call (thread 1 1) 3 (phase.Receive None false) outcome.Waits
      ∷ made_call (thread 0 1) 2 phase.End outcome.Ended ∷ [];
  marks = record {
    requester = owner.Thread (thread 1 1);
    serial = 3;
    wants = want.Lock (lock.Thread 1);
    got = true;
    allowed = 1;
    used = 1;
    first = 0;
    count = 1;
  } ∷ [];
  links = record { mark = 0; owner = owner.Thread (thread 0 1); serial = 1; wants = want.Lock (lock.Thread 1); left = 1 } ∷ [];
}

-- A CHAIN: a sender is preempted in its section by a destroyer, which needs its context removed; and that by a creator, which needs
-- the destroyer's lock. The creator helps the destroyer, which is held up by the sender, which is helped first.

abbrev pub sender_and_others : Script
sender_and_others = script_of 4 1
    (program [] ∷ program (send_to 1 5 6 ∷ []) ∷ program (waits ∷ []) ∷ program (operation.Destroy (who.Number 0) ∷ []) ∷ program (operation.Create 0 1 ∷ []) ∷ [])
    (line 10 1 ∷ line 20 2 ∷ line 30 3 ∷ line 40 4 ∷ [])
    (starts_at 23 2 ∷ starts_at 41 3 ∷ [])

abbrev pub CreatorHelpsTwo : Type 0
CreatorHelpsTwo = shown (run_of sender_and_others 1 (burst 0 23 (Start 0 2 ∷ burst 0 18 (Start 0 3 ∷ burst 0 73 [])))) ≡ record {
  made = 114;
  marked = 57;
  history = made_call (thread 1 1) 1 (phase.Receive None false) outcome.Waits
      ∷ made_call (thread 2 1) 1 (phase.Destroy (thread 0 1)) outcome.Killed
      ∷ made_call (thread 3 1) 1 (phase.Create 0 1) (outcome.Made (thread 0 2))
      ∷ made_call (thread 3 1) 2 phase.End outcome.Ended
      ∷ made_call (thread 2 1) 2 phase.End outcome.Ended
      ∷ made_call (thread 0 2) 1 phase.End outcome.Ended ∷ [];
  marks = record {
    requester = owner.Thread (thread 3 1);
    serial = 1;
    wants = want.Lock lock.Table;
    got = true;
    allowed = 25;
    used = 13;
    first = 0;
    count = 2;
  } ∷ [];
  links = record { mark = 0; owner = owner.Thread (thread 2 1); serial = 1; wants = want.Lock lock.Table; left = 20 }
      ∷ record { mark = 0; owner = owner.Thread (thread 0 1); serial = 1; wants = want.Context 0; left = 5 } ∷ [];
}

-- TWO CARRIERS: the first is parked with the receiver's context, which holds a lock. The second, which runs the sender, helps the
-- receiver until that lock is released.

abbrev pub sender_and_receiver : Script
sender_and_receiver = script_of 2 2 (program (send_to 1 5 6 ∷ []) ∷ program (waits ∷ []) ∷ []) (line 10 0 ∷ line 20 1 ∷ []) []

abbrev pub two_turns : List Turn
two_turns = burst 0 8 (burst 1 10 (Park 0 ∷ burst 0 1 (burst 1 18 (Park 1 ∷ burst 1 1 (burst 0 12 (burst 1 9 []))))))

abbrev pub ReceiverIsHelped : Type 0
ReceiverIsHelped = shown (run_of sender_and_receiver 2 two_turns) ≡ record {
  made = 59;
  marked = 23;
  history = made_call (thread 1 1) 1 (phase.Receive None false) outcome.Waits
      ∷ made_call (thread 0 1) 1 (phase.Send (thread 1 1) (message 5 6) false false) outcome.Passed
      ∷ made_call (thread 1 1) 2 phase.End outcome.Ended
      ∷ made_call (thread 0 1) 2 phase.End outcome.Ended ∷ [];
  marks = record {
    requester = owner.Thread (thread 0 1);
    serial = 1;
    wants = want.Lock (lock.Thread 1);
    got = true;
    allowed = 3;
    used = 3;
    first = 0;
    count = 1;
  } ∷ [];
  links = record { mark = 0; owner = owner.Thread (thread 1 1); serial = 1; wants = want.Lock (lock.Thread 1); left = 3 } ∷ [];
}
