-- What a context asks for next, by where it stands.
use Rattle.k_ids.specs.declared.state_word.StateWord.{StateWord}
use Rattle.k_ids.specs.declared.threads.ThreadId.{ThreadId}
use Rattle.k_locks.specs.Asks.{Ask}
use Rattle.k_locks.specs.Asks as asks
use Rattle.k_ipc.specs.SendTable as send
use Rattle.k_ipc.specs.ReceiveTable as receive
use Rattle.k_threads.specs.CreateTable as create
use Rattle.k_threads.specs.DestroyTable as destroy
use Rattle.k_caller.specs.Waits as alone
use Rattle.k_switch.specs.Switches as switch
use Rattle.k_board.specs.Boards.{Alone, At, Coming, InCreate, InDestroy, InReceive, InSend, InSwitch}
use Rattle.k_board.specs.Boards.{Nowhere, Resting}

-- `me` is the thread that has the context's number, and `own` its state word as the context knows it.
abbrev pub ask_on : ThreadId → StateWord → At → Ask
ask_on me own (Alone p) = alone.ask_of me own p
ask_on me own (InSend c p) = send.ask_of c own p
ask_on me own (InReceive c p) = receive.ask_of c own p
ask_on me own (InCreate c p) = create.ask_of c own p
ask_on me own (InDestroy c p) = destroy.ask_of c own p
ask_on me own (InSwitch c p) = switch.ask_of c p
ask_on me own Resting = asks.Load 0  -- the last three aren't asked
ask_on me own Coming = asks.Load 0
ask_on me own Nowhere = asks.Load 0
