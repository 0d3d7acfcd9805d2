-- The caller's state word, as a section knows it at each of its locations: the caller runs before the section's own exchange, and
-- is what that made of it after.
use Rattle.std.specs.Prelude.{◌≡◌, Bool, true, false}
use Rattle.k_ids.specs.declared.threads.ThreadId.{ThreadId}
use Rattle.k_ids.specs.declared.state_word.State.TheVariants as state
use Rattle.k_ids.specs.declared.state_word.StateWord.{StateWord}
use Rattle.k_locks.specs.declared.steps.Went.{Went}
use Rattle.k_locks.specs.declared.steps.Went.TheVariants as went
use Rattle.k_locks.specs.Threads.{runs}
use Rattle.k_ipc.specs.declared.send.Manner.{Manner}
use Rattle.k_ipc.specs.declared.send.Manner.TheVariants as manner
use Rattle.k_ipc.specs.declared.send.SendCall.{SendCall}
use Rattle.k_ipc.specs.declared.send.SendOutside.TheVariants as send_outside
use Rattle.k_ipc.specs.declared.send.SendLocked.TheVariants as send_locked
use Rattle.k_ipc.specs.declared.send.SendRelease.{SendRelease}
use Rattle.k_ipc.specs.declared.send.SendRelease.TheVariants as send_release
use Rattle.k_ipc.specs.declared.receive.ReceiveCall.{ReceiveCall}
use Rattle.k_ipc.specs.declared.receive.ReceiveOutside.TheVariants as receive_outside
use Rattle.k_ipc.specs.declared.receive.ReceiveLocked.{ReceiveLocked}
use Rattle.k_ipc.specs.declared.receive.ReceiveLocked.TheVariants as receive_locked
use Rattle.k_ipc.specs.declared.receive.ReceiveRelease.{ReceiveRelease}
use Rattle.k_ipc.specs.declared.receive.ReceiveRelease.TheVariants as receive_release
use Rattle.k_ipc.specs.SendTable.{SendAt}
use Rattle.k_ipc.specs.SendTable as send
use Rattle.k_ipc.specs.ReceiveTable.{ReceiveAt}
use Rattle.k_ipc.specs.ReceiveTable as receive
use Rattle.k_caller.specs.Waits.{IsWordOf, is_waiting}

pub record IsRunning (me : ThreadId) (own : StateWord) : Type 0 where
  pub word : IsWordOf me own
  pub running : runs own.state ≡ true

-- it sends, receives or picks
pub record IsWaiting (me : ThreadId) (own : StateWord) : Type 0 where
  pub word : IsWordOf me own
  pub waiting : is_waiting own.state ≡ true

pub record IsPicking (me : ThreadId) (own : StateWord) : Type 0 where
  pub word : IsWordOf me own
  pub picking : own.state ≡ state.Picking

-- by how the section goes on
abbrev pub EndOwns : ThreadId → StateWord → Went → Type 0
EndOwns me own (went.Ends r) = IsRunning me own
EndOwns me own went.Waits = IsWaiting me own
EndOwns me own went.Picks = IsPicking me own
EndOwns me own went.CallerDead = Unit {0}
EndOwns me own went.On = Unit {0}
EndOwns me own went.Again = Unit {0}
EndOwns me own (went.Pushed priority) = Unit {0}

-- A SEND

abbrev pub PassedOwns : ThreadId → StateWord → Manner → Type 0
PassedOwns me own manner.Plain = IsRunning me own
PassedOwns me own manner.Joined = IsWaiting me own
PassedOwns me own manner.Reply = IsPicking me own

abbrev pub SendReleaseOwns : SendCall → StateWord → SendRelease → Type 0
SendReleaseOwns c own send_release.Passed = PassedOwns c.caller own c.manner
SendReleaseOwns c own send_release.Dead = Unit {0}
SendReleaseOwns c own (send_release.Refused r) = IsRunning c.caller own
SendReleaseOwns c own send_release.Queued = IsWaiting c.caller own

abbrev pub SendOwns : SendCall → StateWord → SendAt → Type 0
SendOwns c own (send.Outside send_outside.LoadCaller) = IsRunning c.caller own
SendOwns c own (send.Outside send_outside.AcquireReceiver) = IsRunning c.caller own
SendOwns c own (send.Outside (send_outside.CheckCaller r)) = IsRunning c.caller own
SendOwns c own (send.Outside (send_outside.Ended w)) = EndOwns c.caller own w
SendOwns c own (send.Locked send_locked.LoadReceiver) = IsRunning c.caller own
SendOwns c own (send.Locked (send_locked.StoreMail w)) = IsRunning c.caller own
SendOwns c own (send.Locked (send_locked.CommitPass w)) = IsRunning c.caller own
SendOwns c own (send.Locked (send_locked.WakeReceiver w)) = PassedOwns c.caller own c.manner
SendOwns c own (send.Locked send_locked.ReloadReceiver) = PassedOwns c.caller own c.manner
SendOwns c own (send.Locked (send_locked.AcquireReady priority)) = PassedOwns c.caller own c.manner
SendOwns c own (send.Locked send_locked.CommitWait) = IsRunning c.caller own
SendOwns c own (send.Locked (send_locked.Release r)) = SendReleaseOwns c own r
SendOwns c own (send.Pushing p) = PassedOwns c.caller own c.manner

-- A RECEIVE, AND A PICK

-- before it has taken a message, or waits
abbrev pub BeganOwns : ThreadId → StateWord → Bool → Type 0
BeganOwns me own true = IsPicking me own
BeganOwns me own false = IsRunning me own

abbrev pub ReceiveReleaseOwns : ReceiveCall → StateWord → ReceiveRelease → Type 0
ReceiveReleaseOwns c own (receive_release.Taken e) = IsRunning c.caller own
ReceiveReleaseOwns c own receive_release.Waits = IsWaiting c.caller own
ReceiveReleaseOwns c own receive_release.Delivered = IsWaiting c.caller own
ReceiveReleaseOwns c own receive_release.Gone = IsRunning c.caller own
ReceiveReleaseOwns c own receive_release.Nobody = IsRunning c.caller own
ReceiveReleaseOwns c own receive_release.Dead = Unit {0}

abbrev pub ReceiveLockedOwns : ReceiveCall → StateWord → ReceiveLocked → Type 0
ReceiveLockedOwns c own receive_locked.LoadOwn = IsRunning c.caller own
ReceiveLockedOwns c own (receive_locked.LoadSender e) = IsRunning c.caller own
ReceiveLockedOwns c own (receive_locked.FreeSender e w) = IsRunning c.caller own
ReceiveLockedOwns c own (receive_locked.AcquireReady e) = IsRunning c.caller own
ReceiveLockedOwns c own receive_locked.CommitWait = IsRunning c.caller own
ReceiveLockedOwns c own (receive_locked.LoadPartner from) = IsWaiting c.caller own
ReceiveLockedOwns c own (receive_locked.CommitGone from) = IsWaiting c.caller own
ReceiveLockedOwns c own receive_locked.LoadPicking = IsPicking c.caller own
ReceiveLockedOwns c own (receive_locked.LoadNext e) = IsPicking c.caller own
ReceiveLockedOwns c own (receive_locked.FreeNext e w) = IsPicking c.caller own
ReceiveLockedOwns c own (receive_locked.EndPick e w) = IsPicking c.caller own
ReceiveLockedOwns c own receive_locked.SettlePick = IsPicking c.caller own
ReceiveLockedOwns c own (receive_locked.Release r) = ReceiveReleaseOwns c own r

abbrev pub ReceiveOwns : ReceiveCall → StateWord → ReceiveAt → Type 0
ReceiveOwns c own (receive.Outside receive_outside.LoadCaller) = IsRunning c.caller own
ReceiveOwns c own (receive.Outside receive_outside.AcquireOwn) = BeganOwns c.caller own c.picks
ReceiveOwns c own (receive.Outside (receive_outside.Ended w)) = EndOwns c.caller own w
ReceiveOwns c own (receive.Locked p) = ReceiveLockedOwns c own p
ReceiveOwns c own (receive.Pushing p) = IsRunning c.caller own
