-- Who waits to send to a number, as the board shows it: the entries of its queue whose senders still wait for its thread, in
-- their order, and the one that is about to come there. So the lists of the specification's state are shown too.
use Rattle.std.specs.Prelude.{◌≡◌, ℕ, ◌<◌, ◌^◌, ◌==◌, if◌then◌else◌, Option, Some, None, List, [], ◌∷◌, ◌++◌, map}
use Rattle.std.specs.List.{filter}
use Rattle.k_ids.specs.declared.calls.Phase.{Phase}
use Rattle.k_ids.specs.declared.calls.Phase.TheVariants as phase
use Rattle.k_ids.specs.declared.calls.Reply.{Reply}
use Rattle.k_ids.specs.declared.threads.Message.{Message}
use Rattle.k_ids.specs.declared.threads.ThreadId.{ThreadId}
use Rattle.k_model.specs.State.{KernelState, Waiting}
use Rattle.k_senders.specs.declared.entries.SenderEntry.{SenderEntry}
use Rattle.k_senders.specs.Entries.{entry_for, number_of}
use Rattle.k_locks.specs.Shown.{is_dead}
use Rattle.k_script.specs.declared.registers.Next.TheVariants as next
use Rattle.k_script.specs.Plays.{Position}
use Rattle.k_ipc.specs.declared.send.SendCall.{SendCall}
use Rattle.k_ipc.specs.declared.send.SendLocked.TheVariants as send_locked
use Rattle.k_ipc.specs.declared.send.SendRelease.TheVariants as send_release
use Rattle.k_ipc.specs.SendTable.{SendAt}
use Rattle.k_ipc.specs.SendTable as send
use Rattle.k_board.specs.Words.{Programs, Seen}
use Rattle.k_board.specs.Boards.{Alone, At, Board, Coming, Context, InCreate, InDestroy, InReceive, InSend, InSwitch, Nowhere, Resting, id_at}
use Rattle.k_board.specs.Facts.{waits_for}
use Rattle.k_shown.specs.Memory.{waiting_of}

-- the entry that a sender is about to put into a number's queue
abbrev pub coming_send : SendCall → SendAt → ℕ → List SenderEntry
coming_send c (send.Locked (send_locked.Release send_release.Queued)) n =
    if c.to.number == n then entry_for c.caller c.message ∷ [] else []
coming_send c p n = []

abbrev pub coming_at : At → ℕ → List SenderEntry
coming_at (InSend c p) n = coming_send c p n
coming_at (InReceive c p) n = []
coming_at (InCreate c p) n = []
coming_at (InDestroy c p) n = []
coming_at (InSwitch c p) n = []
coming_at (Alone p) n = []
coming_at Resting n = []
coming_at Coming n = []
coming_at Nowhere n = []

-- it comes from the owner of the number's lock
abbrev pub coming_by : Option ℕ → (ℕ → Context) → ℕ → List SenderEntry
coming_by None contexts n = []
coming_by (Some i) contexts n = coming_at (contexts i).at n

abbrev pub entries_by : (ℕ → List SenderEntry) → (ℕ → Option ℕ) → (ℕ → Context) → ℕ → List SenderEntry
entries_by queue owner contexts n = queue n ++ coming_by (owner n) contexts n

-- those of them who wait for this thread
abbrev pub waiters_in : ThreadId → (ℕ → Seen) → List SenderEntry → List Waiting
waiters_in to s es = map waiting_of (filter (λ e. waits_for to e (s (number_of e)).word) es)

-- nobody waits for one that was destroyed
abbrev pub waiters : Board → ℕ → List Waiting
waiters b n =
    if is_dead (b.seen n).word then [] else waiters_in (id_at b n) b.seen (entries_by b.queue b.owner b.context n)

-- the state's lists are the ones that the board shows
abbrev pub ShowsLists : Board → KernelState → Type 0
ShowsLists b k = (n : ℕ) → (k.place n).waiting ≡ waiters b n

-- WHAT AN ENTRY'S BITS STAND ON

-- The low word of a message has 32 bits, as an entry of a queue has it.
abbrev pub IsMessage : Message → Type 0
IsMessage m = m.low < 2 ^ 32

abbrev pub FitsCall : Phase → Type 0
FitsCall (phase.Send to message zero joined) = IsMessage message
FitsCall (phase.Reply to message zero) = IsMessage message
FitsCall (phase.Receive from zero) = Unit {0}
FitsCall (phase.Create program priority) = Unit {0}
FitsCall (phase.Destroy who) = Unit {0}
FitsCall phase.End = Unit {0}

-- each message that a program gives is one
abbrev pub MessagesFit : Programs → Type 0
MessagesFit g = (p : Position) (r : Option Reply) (f : Phase) → g.next p r ≡ next.Phase f → FitsCall f

abbrev pub FitsSend : At → Type 0
FitsSend (InSend c p) = IsMessage c.message
FitsSend (InReceive c p) = Unit {0}
FitsSend (InCreate c p) = Unit {0}
FitsSend (InDestroy c p) = Unit {0}
FitsSend (InSwitch c p) = Unit {0}
FitsSend (Alone p) = Unit {0}
FitsSend Resting = Unit {0}
FitsSend Coming = Unit {0}
FitsSend Nowhere = Unit {0}

-- each message that is sent is one
abbrev pub MessagesHold : (ℕ → Context) → Type 0
MessagesHold contexts = (i : ℕ) → FitsSend (contexts i).at
