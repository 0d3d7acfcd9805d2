-- The board: all words, all that the locks guard, wherever it is, and where each context stands. No carrier is on it, and no home of
-- what a lock guards. On a board any context may make its next step at any moment.
use Rattle.std.specs.Prelude.{ℕ, Option, List}
use Rattle.k_ids.specs.declared.threads.ThreadId.{ThreadId}
use Rattle.k_ids.specs.declared.state_word.StateWord.{StateWord}
use Rattle.k_ready.specs.Lists.{Ready}
use Rattle.k_senders.specs.declared.entries.SenderEntry.{SenderEntry}
use Rattle.k_locks.specs.declared.locks.Lock.{Lock}
use Rattle.k_locks.specs.declared.locks.Lock.TheVariants as lock
use Rattle.k_locks.specs.Hands.{Hand}
use Rattle.k_locks.specs.Numbers.{ThreadNumbers}
use Rattle.k_script.specs.Plays.{Position}
use Rattle.k_ipc.specs.declared.send.SendCall.{SendCall}
use Rattle.k_ipc.specs.declared.receive.ReceiveCall.{ReceiveCall}
use Rattle.k_ipc.specs.SendTable.{SendAt}
use Rattle.k_ipc.specs.ReceiveTable.{ReceiveAt}
use Rattle.k_threads.specs.declared.create.CreateCall.{CreateCall}
use Rattle.k_threads.specs.declared.destroy.DestroyCall.{DestroyCall}
use Rattle.k_threads.specs.CreateTable.{CreateAt}
use Rattle.k_threads.specs.DestroyTable.{DestroyAt}
use Rattle.k_caller.specs.declared.thread.ThreadLocation.{ThreadLocation}
use Rattle.k_switch.specs.declared.switch.SwitchCall.{SwitchCall}
use Rattle.k_switch.specs.Switches.{SwitchAt}
use Rattle.k_board.specs.Words.{Seen}

-- where a context stands
pub data At : Type 0 where
  Alone : ThreadLocation → At
  InSend : SendCall → SendAt → At
  InReceive : ReceiveCall → ReceiveAt → At
  InCreate : CreateCall → CreateAt → At
  InDestroy : DestroyCall → DestroyAt → At
  InSwitch : SwitchCall → SwitchAt → At  -- a carrier's own context
  Resting : At  -- a carrier's own context, without a switch
  Coming : At  -- placed by a create that hasn't committed yet
  Nowhere : At  -- there is no context of this number

pub record Context : Type 0 where
  pub serial : ℕ  -- of the thread's last call
  pub own : StateWord  -- the thread's state word, as the context knows it
  pub position : Position
  pub at : At

-- Of each thread number its words and its ledger, its queue and the owner of its lock; of each context where it stands.
pub record Board : Type 0 where
  pub size : ℕ  -- how many numbers the table has
  pub seen : ℕ → Seen
  pub queue : ℕ → List SenderEntry
  pub lists : Ready
  pub numbers : ThreadNumbers
  pub owner : ℕ → Option ℕ
  pub table : Option ℕ
  pub ready : Option ℕ
  pub context : ℕ → Context

-- the context that owns a lock
abbrev pub owner_of : Board → Lock → Option ℕ
owner_of b (lock.Thread number) = b.owner number
owner_of b lock.Table = b.table
owner_of b lock.Ready = b.ready

-- what a context has in hand where it owns the lock of the thread number whose queue this is
abbrev pub hand_of : Board → List SenderEntry → Hand
hand_of b entries = record { numbers = b.numbers; queue = record { entries = entries; room = b.size }; lists = b.lists }

-- the thread that has the number
abbrev pub id_at : Board → ℕ → ThreadId
id_at b number = record { number = number; version = (b.seen number).word.version }
