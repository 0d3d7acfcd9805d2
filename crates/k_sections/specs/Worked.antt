-- A worked wait on a board of three numbers. Thread 0 was killed while it sent to thread 2: its context still holds the lock of
-- thread 2, and is about to release it. Thread 1, which killed it, holds the table lock and is about to remove that context.
-- Thread 2 creates a thread, and asks for the table lock.
use Rattle.std.specs.Prelude.{ℕ, ◌==◌, true, false, if◌then◌else◌, Some, None, [], ◌∷◌, replicate}
use Rattle.k_ids.specs.declared.threads.ThreadId.{ThreadId}
use Rattle.k_ids.specs.declared.threads.Message.{Message}
use Rattle.k_ids.specs.declared.state_word.Result4.TheVariants as result4
use Rattle.k_ids.specs.declared.state_word.State.TheVariants as state
use Rattle.k_ids.specs.declared.state_word.StateWord.{StateWord}
use Rattle.k_locks.specs.Asks.{Table}
use Rattle.k_locks.specs.Asks as asks
use Rattle.k_locks.specs.Hands.{no_lists}
use Rattle.k_script.specs.Plays.{Position}
use Rattle.k_ipc.specs.declared.send.Manner.TheVariants as manner
use Rattle.k_ipc.specs.declared.send.SendCall.{SendCall}
use Rattle.k_ipc.specs.declared.send.SendLocked.TheVariants as send_locked
use Rattle.k_ipc.specs.declared.send.SendRelease.TheVariants as send_release
use Rattle.k_ipc.specs.SendTable as send
use Rattle.k_threads.specs.declared.create.CreateCall.{CreateCall}
use Rattle.k_threads.specs.declared.create.CreateOutside.TheVariants as create_outside
use Rattle.k_threads.specs.CreateTable as create
use Rattle.k_threads.specs.declared.destroy.DestroyCall.{DestroyCall}
use Rattle.k_threads.specs.declared.destroy.DestroyLocked.TheVariants as destroy_locked
use Rattle.k_threads.specs.DestroyTable as destroy
use Rattle.k_threads.specs.Words.{dead_word}
use Rattle.k_switch.specs.declared.switch.SwitchCall.{SwitchCall}
use Rattle.k_bound.specs.Waits.{Helping, SectionStep, WaitMark, owner_found, run, started}
use Rattle.k_board.specs.Words.{Programs}
use Rattle.k_board.specs.Boards.{At, InCreate, InDestroy, InSend, Nowhere, Board}
use Rattle.k_sections.specs.Situations.{Situation, situation_of}
use Rattle.k_sections.specs.Stepping.{kernel_sections}

-- the first thread of a number
abbrev pub thread : ℕ → ThreadId
thread number = record { number = number; version = 1 }

-- the word of a thread that runs
abbrev pub running_word : StateWord
running_word = record { version = 1; priority = 0; on = true; state = state.Run result4.Plain }

-- the calls of the three threads
abbrev pub first_call : Message → SendCall
first_call message =
    record { caller = thread 0; to = thread 2; message = message; zero = false; manner = manner.Plain }

abbrev pub second_call : DestroyCall
second_call = record { caller = thread 1; who = thread 0; count = 3 }

abbrev pub third_call : CreateCall
third_call = record { caller = thread 2; program = 0; priority = 0 }

-- where the context of a number stands
abbrev pub stands_at : Message → ℕ → At
stands_at message number = if number == 0 then InSend (first_call message) (send.Locked (send_locked.Release send_release.Dead))
    else (if number == 1 then InDestroy second_call (destroy.Locked destroy_locked.RemoveContext)
    else (if number == 2 then InCreate third_call (create.Outside create_outside.AcquireTable) else Nowhere))

-- Mails, programs and ready lists don't matter. No queue has an entry.
abbrev pub worked_board : Message → Position → Board
worked_board message position = record {
  size = 3;
  seen = λ number. record {
    word = if number == 0 then dead_word 1 else running_word;
    mail = message;
    last = 0;
    told = None;
    position = position;
  };
  queue = λ number. [];
  lists = no_lists;
  numbers = record { versions = 1 ∷ 1 ∷ 1 ∷ []; present = true ∷ true ∷ true ∷ [] };
  owner = λ number. if number == 2 then Some 0 else None;
  table = Some 1;
  ready = None;
  context = λ number. record {
    serial = 0;
    own = running_word;
    position = position;
    at = stands_at message number;
  };
}

-- Thread 2 finds the table lock owned. Thread 1, which owns it, finds that the context that it removes holds a lock. That one
-- releases it. Then thread 1 removes it, visits the numbers 1 and 2, and releases the table lock.
abbrev pub worked_end : Programs → (Board → ℕ → SwitchCall) → Message → Position → Helping Situation
worked_end g calls message position =
    run (kernel_sections g calls) (replicate 13 SectionStep) (started (situation_of (worked_board message position)) 2)

-- fifteen steps are allowed, and nine used
abbrev pub worked_mark : WaitMark
worked_mark = record {
  want = Table;
  links = record { found = owner_found 0 (asks.Context 0); left = 1 } ∷ record { found = owner_found 1 Table; left = 14 } ∷ [];
  used = 9;
  by_owners = true;
  helped = owner_found 1 Table ∷ owner_found 1 Table ∷ owner_found 1 Table ∷ owner_found 1 Table
      ∷ owner_found 1 Table ∷ owner_found 1 Table ∷ owner_found 1 Table ∷ owner_found 1 Table
      ∷ owner_found 0 (asks.Context 0) ∷ [];
}
