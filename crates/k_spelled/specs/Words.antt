-- The state words of a board, and those that its contexts know: each has a spelling in 64 bits.
use Rattle.std.specs.Prelude.{ℕ, ◌<◌}
use Rattle.k_ids.specs.StateWords.{IsStateWord}
use Rattle.k_ipc.specs.declared.send.SendLocked.TheVariants.{AcquireReady, CommitPass, StoreMail}
use Rattle.k_ipc.specs.declared.send.SendLocked.TheVariants.{WakeReceiver}
use Rattle.k_ipc.specs.declared.send.SendPushing.TheVariants.{PushReceiver}
use Rattle.k_ipc.specs.SendTable.{SendAt, Locked, Pushing}
use Rattle.k_ipc.specs.declared.receive.ReceiveLocked.TheVariants as locked
use Rattle.k_ipc.specs.declared.receive.ReceivePushing.TheVariants as pushing
use Rattle.k_ipc.specs.ReceiveTable.{ReceiveAt}
use Rattle.k_ipc.specs.ReceiveTable as receive
use Rattle.k_threads.specs.declared.destroy.DestroyPushing.TheVariants as destroy_pushing
use Rattle.k_threads.specs.declared.destroy.DestroyVictim.TheVariants as victim
use Rattle.k_threads.specs.declared.destroy.DestroyVisit.TheVariants as visit
use Rattle.k_threads.specs.DestroyTable.{DestroyAt}
use Rattle.k_threads.specs.DestroyTable as destroy
use Rattle.k_board.specs.Boards.{Alone, At, Board, Coming, Context, InCreate, InDestroy, InReceive}
use Rattle.k_board.specs.Boards.{InSend, InSwitch, Nowhere, Resting}

-- WHAT A LOCATION KNOWS: the words that were loaded on the way to it have spellings, and priorities are below
-- 64.

abbrev pub SpelledSend : SendAt → Type 0
SpelledSend (Locked (StoreMail w)) = IsStateWord w
SpelledSend (Locked (CommitPass w)) = IsStateWord w
SpelledSend (Locked (WakeReceiver w)) = IsStateWord w
SpelledSend (Locked (AcquireReady priority)) = priority < 64
SpelledSend (Pushing (PushReceiver priority)) = priority < 64
SpelledSend p = Unit {0}

abbrev pub SpelledReceive : ReceiveAt → Type 0
SpelledReceive (receive.Locked (locked.FreeSender e w)) = IsStateWord w
SpelledReceive (receive.Locked (locked.FreeNext e w)) = IsStateWord w
SpelledReceive (receive.Locked (locked.EndPick e w)) = IsStateWord w
SpelledReceive (receive.Pushing (pushing.PushFreed e w)) = IsStateWord w
SpelledReceive p = Unit {0}

abbrev pub SpelledDestroy : DestroyAt → Type 0
SpelledDestroy (destroy.Victim (victim.CommitKill w)) = IsStateWord w
SpelledDestroy (destroy.Victim (victim.FreeSender sender w)) = IsStateWord w
SpelledDestroy (destroy.Victim (victim.AcquireReadyForSender sender w)) = IsStateWord w
SpelledDestroy (destroy.Visit (visit.FreeVisited visited w)) = IsStateWord w
SpelledDestroy (destroy.Visit (visit.AcquireReadyForVisited visited w)) = IsStateWord w
SpelledDestroy (destroy.Pushing (destroy_pushing.PushSender sender w)) = IsStateWord w
SpelledDestroy (destroy.Pushing (destroy_pushing.PushVisited visited w)) = IsStateWord w
SpelledDestroy p = Unit {0}

abbrev pub SpelledAt : At → Type 0
SpelledAt (Alone p) = Unit {0}
SpelledAt (InSend c p) = SpelledSend p
SpelledAt (InReceive c p) = SpelledReceive p
SpelledAt (InCreate c p) = c.priority < 64
SpelledAt (InDestroy c p) = SpelledDestroy p
SpelledAt (InSwitch c p) = Unit {0}
SpelledAt Resting = Unit {0}
SpelledAt Coming = Unit {0}
SpelledAt Nowhere = Unit {0}

-- The context's own word, and what its location knows.
pub record KnowsWords (x : Context) : Type 0 where
  pub own : IsStateWord x.own
  pub loaded : SpelledAt x.at

-- THE BOARD

pub record WordsHold (b : Board) : Type 0 where
  pub words : (t : ℕ) → IsStateWord (b.seen t).word
  pub contexts : (i : ℕ) → KnowsWords (b.context i)
