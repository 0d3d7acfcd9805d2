-- The facts of each location: what its step rests on. Those that all locations of a kind share come first.
use Rattle.std.specs.Prelude.{ℕ, Bool, true, false, None, List, [], ◌∷◌}
use Rattle.k_ids.specs.declared.threads.ThreadId.{ThreadId}
use Rattle.k_ids.specs.declared.calls.Phase.{Phase}
use Rattle.k_ids.specs.declared.calls.Phase.TheVariants as phase
use Rattle.k_ids.specs.declared.calls.Reply.{Reply}
use Rattle.k_ids.specs.declared.calls.Reply.TheVariants as reply
use Rattle.k_ids.specs.declared.state_word.State.{State}
use Rattle.k_ids.specs.declared.state_word.State.TheVariants as state
use Rattle.k_senders.specs.declared.entries.SenderEntry.{SenderEntry}
use Rattle.k_senders.specs.Entries.{message_of, number_of, sender_of}
use Rattle.k_ipc.specs.declared.send.Manner.{Manner}
use Rattle.k_ipc.specs.declared.send.Manner.TheVariants as manner
use Rattle.k_ipc.specs.declared.send.SendCall.{SendCall}
use Rattle.k_ipc.specs.declared.send.SendOutside.TheVariants.{LoadCaller, AcquireReceiver, CheckCaller, Ended}
use Rattle.k_ipc.specs.declared.send.SendLocked.TheVariants.{LoadReceiver, StoreMail, CommitPass, WakeReceiver, ReloadReceiver, AcquireReady, CommitWait, Release}
use Rattle.k_ipc.specs.declared.send.SendRelease.TheVariants as release
use Rattle.k_ipc.specs.declared.send.SendPushing.TheVariants.{PushReceiver}
use Rattle.k_ipc.specs.SendTable.{SendAt, Outside, Locked, Pushing, phase_by}
use Rattle.k_ipc.specs.declared.receive.ReceiveCall.{ReceiveCall}
use Rattle.k_ipc.specs.declared.receive.ReceiveOutside.TheVariants as outside
use Rattle.k_ipc.specs.declared.receive.ReceiveLocked.TheVariants as locked
use Rattle.k_ipc.specs.declared.receive.ReceiveRelease.TheVariants as returns
use Rattle.k_ipc.specs.declared.receive.ReceivePushing.TheVariants as pushing
use Rattle.k_ipc.specs.ReceiveTable.{ReceiveAt}
use Rattle.k_ipc.specs.ReceiveTable as receive
use Rattle.k_threads.specs.declared.create.CreateCall.{CreateCall}
use Rattle.k_threads.specs.declared.create.CreateOutside.TheVariants as create_outside
use Rattle.k_threads.specs.declared.create.CreateLocked.TheVariants as create_locked
use Rattle.k_threads.specs.declared.create.CreateRelease.TheVariants as create_release
use Rattle.k_threads.specs.CreateTable.{CreateAt}
use Rattle.k_threads.specs.CreateTable as create
use Rattle.k_threads.specs.declared.destroy.DestroyCall.{DestroyCall}
use Rattle.k_threads.specs.declared.destroy.DestroyOutside.TheVariants as destroy_outside
use Rattle.k_threads.specs.declared.destroy.DestroyLocked.TheVariants as destroy_locked
use Rattle.k_threads.specs.declared.destroy.DestroyRelease.TheVariants as destroy_release
use Rattle.k_threads.specs.declared.destroy.DestroyVictim.TheVariants as victim
use Rattle.k_threads.specs.declared.destroy.DestroyVisit.TheVariants as visit
use Rattle.k_threads.specs.declared.destroy.DestroyPushing.TheVariants as destroy_pushing
use Rattle.k_threads.specs.DestroyTable.{DestroyAt}
use Rattle.k_threads.specs.DestroyTable as destroy
use Rattle.k_caller.specs.declared.thread.ThreadLocation.{ThreadLocation}
use Rattle.k_caller.specs.declared.thread.ThreadLocation.TheVariants as location
use Rattle.k_switch.specs.declared.switch.SwitchCall.{SwitchCall}
use Rattle.k_switch.specs.Switches.{SwitchAt}
use Rattle.k_switch.specs.Switches as switch
use Rattle.k_board.specs.Boards.{At, Alone, InSend, InReceive, InCreate, InDestroy, InSwitch, Resting, Coming, Nowhere, Board}
use Rattle.k_board.specs.Words.{Programs}
use Rattle.k_board.specs.Facts.{Fact, Me, Free, Kept, Settling, Queued, Waits, Picks, OwnWaits, Rested, Died, Fresh, Called, Begun, Settled, Told, Remembers, Refused, Collects, HoldsThread, HoldsTable, HoldsReady, SendsItself, Differs, Apart, Accepting, Mailed, Passing, Busy, Loaded, Fitting, Plainly, Itself, NotZero, Picking, Closed, Reaches, Exhausts, Sends, Taken, Chosen, Unmade, Vacant, Arriving, Present, DestroysItself, Shows, Gone, Row, Rest, Emptied, Front, Waiting, Visited, Receives, Deaf, Never, AllSay}

-- KINDS

-- before the linearization point
abbrev pub undecided : ThreadId → Phase → List Fact → List Fact
undecided me p fs = Me me ∷ Fresh ∷ Begun p ∷ Free ∷ fs

-- the same, where the caller can't be destroyed
abbrev pub shielded : ThreadId → Phase → List Fact → List Fact
shielded me p fs = Me me ∷ Fresh ∷ Begun p ∷ Kept ∷ fs

-- and after it
abbrev pub with_reply : ThreadId → Reply → List Fact → List Fact
with_reply me r fs = Me me ∷ Called ∷ Settled ∷ Kept ∷ Told r ∷ fs

-- a sender whose message has passed
abbrev pub sender : Manner → ThreadId → List Fact → List Fact
sender manner.Plain me fs = Me me ∷ Called ∷ Settled ∷ Free ∷ Told reply.Sent ∷ fs
sender manner.Joined me fs = Me me ∷ Called ∷ Settled ∷ Waits ∷ OwnWaits ∷ fs
sender manner.Reply me fs = Me me ∷ Called ∷ Settled ∷ Picks ∷ fs

-- the caller's own word is settled under its own lock
abbrev pub settling : ThreadId → State → List Fact → List Fact
settling me s fs = Me me ∷ Called ∷ Settled ∷ Settling s ∷ fs

-- A SEND

abbrev pub send_phase : SendCall → Phase
send_phase c = phase_by c c.manner

abbrev pub facts_send : SendCall → SendAt → List Fact
facts_send c (Outside LoadCaller) = SendsItself c ∷ undecided c.caller (send_phase c) []
facts_send c (Outside AcquireReceiver) = Differs c.to ∷ undecided c.caller (send_phase c) []
facts_send c (Locked LoadReceiver) = Differs c.to ∷ HoldsThread c.to.number ∷ undecided c.caller (send_phase c) []
facts_send c (Locked (StoreMail w)) =
    Apart c.to.number ∷ Accepting c ∷ undecided c.caller (send_phase c) (Loaded c.to.number w ∷ Fitting c w ∷ [])
facts_send c (Locked (CommitPass w)) =
    Apart c.to.number ∷ Accepting c ∷ Mailed c ∷ undecided c.caller (send_phase c) (Loaded c.to.number w ∷ Fitting c w ∷ [])
facts_send c (Locked (WakeReceiver w)) = sender c.manner c.caller (Apart c.to.number ∷ Passing c ∷ Loaded c.to.number w ∷ [])
facts_send c (Locked ReloadReceiver) = sender c.manner c.caller (Apart c.to.number ∷ Passing c ∷ [])
facts_send c (Locked (AcquireReady priority)) = sender c.manner c.caller (HoldsThread c.to.number ∷ [])
facts_send c (Pushing (PushReceiver priority)) = sender c.manner c.caller (HoldsThread c.to.number ∷ HoldsReady ∷ [])
facts_send c (Locked (Release release.Passed)) = sender c.manner c.caller (HoldsThread c.to.number ∷ [])
facts_send c (Locked (Release release.Dead)) = HoldsThread c.to.number ∷ Died ∷ Me c.caller ∷ []
facts_send c (Locked (Release (release.Refused r))) = HoldsThread c.to.number ∷ Me c.caller ∷ Free ∷ Refused r ∷ []
facts_send c (Outside (CheckCaller r)) = Me c.caller ∷ Free ∷ Refused r ∷ []
facts_send c (Locked CommitWait) = Apart c.to.number ∷ Busy c ∷ undecided c.caller (send_phase c) []
facts_send c (Locked (Release release.Queued)) = Me c.caller ∷ Called ∷ Settled ∷ Queued c.to ∷ []
facts_send c (Outside (Ended w)) = Never ∷ []

-- A RECEIVE, AND A PICK

abbrev pub receive_phase : ReceiveCall → Phase
receive_phase c = phase.Receive c.from c.zero

abbrev pub got : SenderEntry → Reply
got e = reply.Got (sender_of e) (message_of e)

abbrev pub begins : Bool → ReceiveCall → List Fact
begins true c = Picking c ∷ Me c.caller ∷ Called ∷ Settled ∷ Picks ∷ []
begins false c = Plainly c ∷ undecided c.caller (receive_phase c) []

abbrev pub facts_receive : ReceiveCall → ReceiveAt → List Fact
facts_receive c (receive.Outside outside.LoadCaller) = Itself c ∷ undecided c.caller (receive_phase c) []
facts_receive c (receive.Outside outside.AcquireOwn) = begins c.picks c
facts_receive c (receive.Locked locked.LoadOwn) =
    Plainly c ∷ HoldsThread c.caller.number ∷ undecided c.caller (receive_phase c) []
facts_receive c (receive.Locked (locked.LoadSender e)) =
    Plainly c ∷ HoldsThread c.caller.number ∷ shielded c.caller (receive_phase c) (Reaches c e ∷ [])
facts_receive c (receive.Locked (locked.FreeSender e w)) =
    Plainly c ∷ HoldsThread c.caller.number ∷ Sends c e w ∷ shielded c.caller (receive_phase c) (Reaches c e ∷ [])
facts_receive c (receive.Locked (locked.AcquireReady e)) =
    HoldsThread c.caller.number ∷ with_reply c.caller (got e) (Taken c e ∷ [])
facts_receive c (receive.Pushing (pushing.LoadFreed e)) =
    HoldsThread c.caller.number ∷ with_reply c.caller (got e) (Taken c e ∷ HoldsReady ∷ [])
facts_receive c (receive.Pushing (pushing.PushFreed e w)) =
    HoldsThread c.caller.number ∷ with_reply c.caller (got e) (Taken c e ∷ HoldsReady ∷ [])
facts_receive c (receive.Locked (locked.Release (returns.Taken e))) =
    HoldsThread c.caller.number ∷ with_reply c.caller (got e) (Taken c e ∷ [])
facts_receive c (receive.Locked locked.CommitWait) =
    Plainly c ∷ HoldsThread c.caller.number ∷ shielded c.caller (receive_phase c) (NotZero c ∷ Exhausts c ∷ [])
facts_receive c (receive.Locked (locked.LoadPartner from)) =
    Closed c from ∷ settling c.caller (state.Receiving c.from) (Plainly c ∷ [])
facts_receive c (receive.Locked (locked.CommitGone from)) =
    settling c.caller (state.Receiving c.from) (Told reply.Gone ∷ Plainly c ∷ [])
facts_receive c (receive.Locked (locked.Release returns.Waits)) = settling c.caller (state.Receiving c.from) []
facts_receive c (receive.Locked (locked.Release returns.Gone)) =
    HoldsThread c.caller.number ∷ with_reply c.caller reply.Gone []
facts_receive c (receive.Locked (locked.Release returns.Nobody)) =
    HoldsThread c.caller.number ∷ with_reply c.caller reply.Nobody []
facts_receive c (receive.Locked (locked.Release returns.Dead)) = HoldsThread c.caller.number ∷ Died ∷ Me c.caller ∷ []
facts_receive c (receive.Locked locked.LoadPicking) =
    Picking c ∷ HoldsThread c.caller.number ∷ Me c.caller ∷ Called ∷ Settled ∷ Picks ∷ []
facts_receive c (receive.Locked (locked.LoadNext e)) = Picking c ∷ settling c.caller state.Picking (Reaches c e ∷ [])
facts_receive c (receive.Locked (locked.FreeNext e w)) =
    Picking c ∷ settling c.caller state.Picking (Sends c e w ∷ Reaches c e ∷ [])
facts_receive c (receive.Locked (locked.EndPick e w)) =
    Picking c ∷ settling c.caller state.Picking (Told (got e) ∷ Taken c e ∷ Apart (number_of e) ∷ [])
facts_receive c (receive.Locked locked.SettlePick) = Picking c ∷ settling c.caller state.Picking (Exhausts c ∷ [])
facts_receive c (receive.Locked (locked.Release returns.Delivered)) =
    HoldsThread c.caller.number ∷ Me c.caller ∷ Called ∷ Settled ∷ Waits ∷ OwnWaits ∷ []
facts_receive c (receive.Outside (outside.Ended w)) = Never ∷ []

-- A CREATE

abbrev pub create_phase : CreateCall → Phase
create_phase c = phase.Create c.program c.priority

abbrev pub facts_create : CreateCall → CreateAt → List Fact
facts_create c (create.Outside create_outside.AcquireTable) = undecided c.caller (create_phase c) []
facts_create c (create.Locked create_locked.LoadCaller) = HoldsTable ∷ undecided c.caller (create_phase c) []
facts_create c (create.Locked (create_locked.PlaceContext id)) =
    HoldsTable ∷ shielded c.caller (create_phase c) (Chosen id ∷ Unmade id ∷ Vacant id ∷ [])
facts_create c (create.Locked (create_locked.CommitCreate id)) =
    HoldsTable ∷ shielded c.caller (create_phase c) (Chosen id ∷ Unmade id ∷ Arriving c id ∷ [])
facts_create c (create.Locked (create_locked.AcquireReady id)) =
    HoldsTable ∷ with_reply c.caller (reply.Made id) (Present id ∷ Chosen id ∷ [])
facts_create c (create.PushCreated id) =
    HoldsTable ∷ with_reply c.caller (reply.Made id) (Present id ∷ Chosen id ∷ HoldsReady ∷ [])
facts_create c (create.Locked (create_locked.Release (create_release.Made id))) =
    HoldsTable ∷ with_reply c.caller (reply.Made id) (Present id ∷ Chosen id ∷ [])
facts_create c (create.Locked (create_locked.Release (create_release.Full alive worn))) =
    HoldsTable ∷ with_reply c.caller (reply.Full alive worn) []
facts_create c (create.Locked (create_locked.Release create_release.Dead)) = HoldsTable ∷ Died ∷ Me c.caller ∷ []
facts_create c (create.Outside (create_outside.Ended w)) = Never ∷ []

-- A DESTROY

abbrev pub destroy_phase : DestroyCall → Phase
destroy_phase c = phase.Destroy c.who

-- the victim is no more
abbrev pub killed : DestroyCall → List Fact → List Fact
killed c fs = Gone c.who ∷ HoldsTable ∷ with_reply c.caller reply.Killed fs

-- its context is removed, and this number is visited
abbrev pub visiting : DestroyCall → ℕ → List Fact → List Fact
visiting c visited fs = killed c (Vacant c.who ∷ Visited c visited ∷ HoldsThread visited ∷ fs)

abbrev pub facts_destroy : DestroyCall → DestroyAt → List Fact
facts_destroy c (destroy.Outside destroy_outside.LoadOwn) = DestroysItself c ∷ undecided c.caller (destroy_phase c) []
facts_destroy c (destroy.Outside destroy_outside.AcquireTable) = Differs c.who ∷ undecided c.caller (destroy_phase c) []
facts_destroy c (destroy.Locked destroy_locked.LoadCaller) =
    Differs c.who ∷ HoldsTable ∷ undecided c.caller (destroy_phase c) []
facts_destroy c (destroy.Locked destroy_locked.AcquireVictimLock) =
    Differs c.who ∷ HoldsTable ∷ shielded c.caller (destroy_phase c) []
facts_destroy c (destroy.Victim victim.LoadVictim) =
    Differs c.who ∷ HoldsTable ∷ HoldsThread c.who.number ∷ shielded c.caller (destroy_phase c) []
facts_destroy c (destroy.Victim (victim.CommitKill seen)) =
    Differs c.who ∷ HoldsTable ∷ HoldsThread c.who.number ∷ shielded c.caller (destroy_phase c) (Shows c.who seen ∷ [])
facts_destroy c (destroy.Victim (victim.LoadSender sender)) =
    killed c (HoldsThread c.who.number ∷ Row c.who ∷ Front c.who sender ∷ [])
facts_destroy c (destroy.Victim (victim.FreeSender sender seen)) =
    killed c (HoldsThread c.who.number ∷ Row c.who ∷ Front c.who sender ∷ Waiting c.who sender seen ∷ [])
facts_destroy c (destroy.Victim (victim.AcquireReadyForSender sender seen)) =
    killed c (HoldsThread c.who.number ∷ Rest c.who ∷ Front c.who sender ∷ [])
facts_destroy c (destroy.Pushing (destroy_pushing.PushSender sender seen)) =
    killed c (HoldsThread c.who.number ∷ Rest c.who ∷ Front c.who sender ∷ HoldsReady ∷ [])
facts_destroy c (destroy.Victim victim.ReleaseVictimLock) = killed c (HoldsThread c.who.number ∷ Emptied c.who ∷ [])
facts_destroy c (destroy.Locked destroy_locked.AcquireReadyForVictim) = killed c []
facts_destroy c destroy.UnlistVictim = killed c (HoldsReady ∷ [])
facts_destroy c (destroy.Locked destroy_locked.RemoveContext) = killed c []
facts_destroy c (destroy.Locked (destroy_locked.AcquireVisitedLock visited)) =
    killed c (Vacant c.who ∷ Visited c visited ∷ [])
facts_destroy c (destroy.Visit (visit.LoadVisited visited)) = visiting c visited []
facts_destroy c (destroy.Visit (visit.FreeVisited visited seen)) = visiting c visited (Receives c.who visited seen ∷ [])
facts_destroy c (destroy.Visit (visit.AcquireReadyForVisited visited seen)) = visiting c visited (Deaf c.who visited ∷ [])
facts_destroy c (destroy.Pushing (destroy_pushing.PushVisited visited seen)) =
    visiting c visited (Deaf c.who visited ∷ HoldsReady ∷ [])
facts_destroy c (destroy.Visit (visit.ReleaseVisitedLock visited)) = visiting c visited (Deaf c.who visited ∷ [])
facts_destroy c (destroy.Locked (destroy_locked.Release destroy_release.Killed)) = killed c (Vacant c.who ∷ [])
facts_destroy c (destroy.Victim (victim.ReleaseVictimLockAbsent found)) =
    HoldsTable ∷ HoldsThread c.who.number ∷ with_reply c.caller (reply.Absent found) []
facts_destroy c (destroy.Locked (destroy_locked.Release (destroy_release.Absent found))) =
    HoldsTable ∷ with_reply c.caller (reply.Absent found) []
facts_destroy c (destroy.Locked (destroy_locked.Release destroy_release.Dead)) = HoldsTable ∷ Died ∷ Me c.caller ∷ []
facts_destroy c (destroy.Outside (destroy_outside.Ended w)) = Never ∷ []

-- A THREAD OUTSIDE OF ANY SECTION, AND A SWITCH

abbrev pub facts_alone : ThreadLocation → List Fact
facts_alone (location.Between r) = Called ∷ Free ∷ Remembers r ∷ []
facts_alone (location.Work count) = Called ∷ Free ∷ Remembers None ∷ []
facts_alone location.FallAsleep = Called ∷ Settled ∷ Waits ∷ OwnWaits ∷ []
facts_alone location.Asleep = Called ∷ Settled ∷ Waits ∷ []
facts_alone location.LookAgain = Called ∷ Settled ∷ Waits ∷ []
facts_alone (location.LoadMail from) = Called ∷ Settled ∷ Free ∷ Collects from ∷ []
facts_alone location.CommitEnd = Fresh ∷ Begun phase.End ∷ Free ∷ []
facts_alone location.Ended = Called ∷ Settled ∷ Rested ∷ []
facts_alone location.Dead = Died ∷ []

abbrev pub facts_switch : SwitchCall → SwitchAt → List Fact
facts_switch c switch.AcquireReady = []
facts_switch c (switch.Locked p) = HoldsReady ∷ []
facts_switch c (switch.Returned s) = HoldsReady ∷ []
facts_switch c (switch.Finished s) = []

abbrev pub facts_of : At → List Fact
facts_of (Alone p) = facts_alone p
facts_of (InSend c p) = facts_send c p
facts_of (InReceive c p) = facts_receive c p
facts_of (InCreate c p) = facts_create c p
facts_of (InDestroy c p) = facts_destroy c p
facts_of (InSwitch c p) = facts_switch c p
facts_of Resting = []
facts_of Coming = []
facts_of Nowhere = []

-- Each context's facts hold.
abbrev pub PlacesHold : Programs → Board → Type 0
PlacesHold g b = (i : ℕ) → AllSay g b i (b.context i) (facts_of (b.context i).at)
