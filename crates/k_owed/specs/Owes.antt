-- How many steps a context still makes at most while no state word changes, location by location. Where it
-- stands
-- at an exchange this tells whether the word is the one that it expects: then the exchange is won, and the
-- word
-- changes.
use Rattle.std.specs.Prelude.{ℕ, ◌+◌, ◌-◌, ◌*◌, Bool, if◌then◌else◌, Option, Some, None, List}
use Rattle.k_locks.specs.Asks.{Ask}
use Rattle.k_locks.specs.Asks as asks
use Rattle.k_locks.specs.Shown.{is_dead}
use Rattle.k_script.specs.Plays.{Position}
use Rattle.k_senders.specs.declared.entries.SenderEntry.{SenderEntry}
use Rattle.k_senders.specs.Entries.{number_of}
use Rattle.k_ids.specs.declared.state_word.StateWord.{StateWord}
use Rattle.k_ipc.specs.Candidates.{admitted, onward}
use Rattle.k_ipc.specs.declared.send.Manner.{Manner}
use Rattle.k_ipc.specs.declared.send.Manner.TheVariants as manner
use Rattle.k_ipc.specs.declared.send.SendCall.{SendCall}
use Rattle.k_ipc.specs.declared.send.SendOutside.TheVariants as send_outside
use Rattle.k_ipc.specs.declared.send.SendLocked.TheVariants as send_locked
use Rattle.k_ipc.specs.declared.send.SendRelease.TheVariants as send_release
use Rattle.k_ipc.specs.declared.send.SendPushing.TheVariants as send_pushing
use Rattle.k_ipc.specs.SendTable.{SendAt}
use Rattle.k_ipc.specs.SendTable as send
use Rattle.k_ipc.specs.declared.receive.ReceiveCall.{ReceiveCall}
use Rattle.k_ipc.specs.declared.receive.ReceiveOutside.TheVariants as receive_outside
use Rattle.k_ipc.specs.declared.receive.ReceiveLocked.TheVariants as receive_locked
use Rattle.k_ipc.specs.declared.receive.ReceiveRelease.TheVariants as receive_release
use Rattle.k_ipc.specs.declared.receive.ReceivePushing.TheVariants as receive_pushing
use Rattle.k_ipc.specs.ReceiveTable.{ReceiveAt}
use Rattle.k_ipc.specs.ReceiveTable as receive
use Rattle.k_threads.specs.declared.create.CreateCall.{CreateCall}
use Rattle.k_threads.specs.declared.create.CreateOutside.TheVariants as create_outside
use Rattle.k_threads.specs.declared.create.CreateLocked.TheVariants as create_locked
use Rattle.k_threads.specs.declared.create.CreateRelease.TheVariants as create_release
use Rattle.k_threads.specs.CreateTable.{CreateAt}
use Rattle.k_threads.specs.CreateTable as create
use Rattle.k_threads.specs.declared.destroy.DestroyCall.{DestroyCall}
use Rattle.k_threads.specs.declared.destroy.DestroyOutside.TheVariants as destroy_outside
use Rattle.k_threads.specs.declared.destroy.DestroyLocked.TheVariants as destroy_locked
use Rattle.k_threads.specs.declared.destroy.DestroyRelease.TheVariants as destroy_release
use Rattle.k_threads.specs.declared.destroy.DestroyVictim.TheVariants as victim
use Rattle.k_threads.specs.declared.destroy.DestroyVisit.TheVariants as visit
use Rattle.k_threads.specs.declared.destroy.DestroyPushing.TheVariants as destroy_pushing
use Rattle.k_threads.specs.DestroyTable.{DestroyAt, to_visit}
use Rattle.k_threads.specs.DestroyTable as destroy
use Rattle.k_caller.specs.declared.thread.ThreadLocation.{ThreadLocation}
use Rattle.k_caller.specs.declared.thread.ThreadLocation.TheVariants as location
use Rattle.k_caller.specs.Waits as alone
use Rattle.k_switch.specs.declared.goal.Goal.{Goal}
use Rattle.k_switch.specs.declared.switch.SwitchCall.{SwitchCall}
use Rattle.k_switch.specs.declared.switch.SwitchLocked.TheVariants as switch_locked
use Rattle.k_switch.specs.Switches.{SwitchAt}
use Rattle.k_switch.specs.Switches as switch
use Rattle.k_board.specs.Boards.{At, Alone, InSend, InReceive, InCreate, InDestroy, InSwitch, Resting, Coming}
use Rattle.k_board.specs.Boards.{Nowhere, Context, Board, id_at}
use Rattle.k_sections.specs.Situations.{LoadedWord, is_there, loaded_of}

-- WHAT AN EXCHANGE EXPECTS

-- the word with which an exchange is won
abbrev pub expected : Ask → Option LoadedWord
expected (asks.Exchange number old new) = loaded_of number old
expected a = None

-- THE WORTH OF WHAT ISN'T A STEP OF ITS OWN

-- a thread in a ready list, or one that a switch has: steps of switches still come for it
abbrev pub entry_worth : ℕ
entry_worth = 6

-- a switch of a carrier that is still to begin
abbrev pub switch_worth : ℕ
switch_worth = 5

-- a push: an entry comes, and a switch may begin for it
abbrev pub push_worth : ℕ
push_worth = entry_worth + switch_worth

-- A THREAD OUTSIDE OF ANY SECTION. `rest` is what it owes between two calls, before the next one begins.

-- one that is about to fall asleep, and wakes again
abbrev pub owes_waiting : ℕ → ℕ
owes_waiting rest = 3 + rest

abbrev pub owes_alone : (rest : ℕ) (there : Bool) → ThreadLocation → ℕ
owes_alone rest there (location.Between last) = rest
owes_alone rest there (location.Work count) = count + rest
owes_alone rest there location.FallAsleep = if there then 1 else owes_waiting rest
owes_alone rest there location.Asleep = owes_waiting rest
owes_alone rest there location.LookAgain = 2 + rest
owes_alone rest there (location.LoadMail from) = 1 + rest
owes_alone rest there location.CommitEnd = 1
owes_alone rest there location.Ended = 0
owes_alone rest there location.Dead = 0

-- A SEND

-- a pick begins: it looks through a queue that is shorter than the table, and then the thread may wait
abbrev pub owes_pick : (size rest : ℕ) → ℕ
owes_pick size rest = size + 3 + owes_waiting rest

-- what comes once the message has passed
abbrev pub owes_passed : (size rest : ℕ) → Manner → ℕ
owes_passed size rest manner.Plain = rest
owes_passed size rest manner.Joined = owes_waiting rest
owes_passed size rest manner.Reply = owes_pick size rest

-- a caller that was destroyed finds that at its next look
abbrev pub owes_send : (size rest : ℕ) (there dead : Bool) → SendCall → SendAt → ℕ
owes_send size rest there dead c (send.Outside send_outside.LoadCaller) = 1
owes_send size rest there dead c (send.Outside send_outside.AcquireReceiver) = 5
owes_send size rest there dead c (send.Outside (send_outside.CheckCaller r)) = if dead then 1 else 1 + rest
owes_send size rest there dead c (send.Outside (send_outside.Ended w)) = 0
owes_send size rest there dead c (send.Locked send_locked.LoadReceiver) = 4
owes_send size rest there dead c (send.Locked (send_locked.StoreMail w)) = 3
owes_send size rest there dead c (send.Locked (send_locked.CommitPass w)) = if there then 1 else 2
owes_send size rest there dead c (send.Locked (send_locked.WakeReceiver w)) = if there then 1 else 3
owes_send size rest there dead c (send.Locked send_locked.ReloadReceiver) = 2
owes_send size rest there dead c (send.Locked (send_locked.AcquireReady priority)) =
    3 + push_worth + owes_passed size rest c.manner
owes_send size rest there dead c (send.Pushing (send_pushing.PushReceiver priority)) =
    2 + push_worth + owes_passed size rest c.manner
owes_send size rest there dead c (send.Locked send_locked.CommitWait) = if there then 1 else 2
owes_send size rest there dead c (send.Locked (send_locked.Release send_release.Passed)) =
    1 + owes_passed size rest c.manner
owes_send size rest there dead c (send.Locked (send_locked.Release send_release.Dead)) = 1
owes_send size rest there dead c (send.Locked (send_locked.Release (send_release.Refused r))) =
    if dead then 2 else 2 + rest
owes_send size rest there dead c (send.Locked (send_locked.Release send_release.Queued)) =
    1 + owes_waiting rest

-- A RECEIVE, AND A PICK

-- how many candidates are left, this one included
abbrev pub candidates : ReceiveCall → List SenderEntry → SenderEntry → ℕ
candidates c queue e = admitted c.from (onward (number_of e) queue)

abbrev pub owes_receive : (size rest : ℕ) (there : Bool) → ReceiveCall → List SenderEntry → ReceiveAt → ℕ
owes_receive size rest there c queue (receive.Outside receive_outside.LoadCaller) = 1
owes_receive size rest there c queue (receive.Outside receive_outside.AcquireOwn) =
    if c.picks then owes_pick size rest else size + 3
owes_receive size rest there c queue (receive.Outside (receive_outside.Ended w)) = 0
owes_receive size rest there c queue (receive.Locked receive_locked.LoadOwn) = 2 + admitted c.from queue
owes_receive size rest there c queue (receive.Locked (receive_locked.LoadSender e)) = 1 + candidates c queue e
owes_receive size rest there c queue (receive.Locked (receive_locked.FreeSender e w)) =
    if there then 1 else 2 + candidates c queue e
owes_receive size rest there c queue (receive.Locked (receive_locked.AcquireReady e)) = 4 + push_worth + rest
owes_receive size rest there c queue (receive.Pushing (receive_pushing.LoadFreed e)) = 3 + push_worth + rest
owes_receive size rest there c queue (receive.Pushing (receive_pushing.PushFreed e w)) = 2 + push_worth + rest
owes_receive size rest there c queue (receive.Locked receive_locked.CommitWait) = 1
owes_receive size rest there c queue (receive.Locked (receive_locked.LoadPartner from)) =
    2 + owes_waiting rest
owes_receive size rest there c queue (receive.Locked (receive_locked.CommitGone from)) = 1
owes_receive size rest there c queue (receive.Locked receive_locked.LoadPicking) =
    2 + admitted c.from queue + owes_waiting rest
owes_receive size rest there c queue (receive.Locked (receive_locked.LoadNext e)) = 1 + candidates c queue e
owes_receive size rest there c queue (receive.Locked (receive_locked.FreeNext e w)) =
    if there then 1 else 2 + candidates c queue e
owes_receive size rest there c queue (receive.Locked (receive_locked.EndPick e w)) = 1
owes_receive size rest there c queue (receive.Locked receive_locked.SettlePick) = 1
owes_receive size rest there c queue (receive.Locked (receive_locked.Release (receive_release.Taken e))) =
    1 + rest
owes_receive size rest there c queue (receive.Locked (receive_locked.Release receive_release.Waits)) =
    1 + owes_waiting rest
owes_receive size rest there c queue (receive.Locked (receive_locked.Release receive_release.Delivered)) =
    1 + owes_waiting rest
owes_receive size rest there c queue (receive.Locked (receive_locked.Release receive_release.Gone)) = 1 + rest
owes_receive size rest there c queue (receive.Locked (receive_locked.Release receive_release.Nobody)) =
    1 + rest
owes_receive size rest there c queue (receive.Locked (receive_locked.Release receive_release.Dead)) = 1

-- A CREATE

abbrev pub owes_create : (rest : ℕ) → CreateAt → ℕ
owes_create rest (create.Outside create_outside.AcquireTable) = 4
owes_create rest (create.Outside (create_outside.Ended w)) = 0
owes_create rest (create.Locked create_locked.LoadCaller) = 3
owes_create rest (create.Locked (create_locked.PlaceContext id)) = 2
owes_create rest (create.Locked (create_locked.CommitCreate id)) = 1
owes_create rest (create.Locked (create_locked.AcquireReady id)) = 3 + push_worth + rest
owes_create rest (create.PushCreated id) = 2 + push_worth + rest
owes_create rest (create.Locked (create_locked.Release (create_release.Made id))) = 1 + rest
owes_create rest (create.Locked (create_locked.Release (create_release.Full alive worn))) = 1 + rest
owes_create rest (create.Locked (create_locked.Release create_release.Dead)) = 1

-- A DESTROY

-- three steps for each number that it still visits, and the release of the table lock
abbrev pub owes_visits : (numbers rest : ℕ) → ℕ
owes_visits numbers rest = 3 * numbers + 1 + rest

abbrev pub owes_destroy : (rest : ℕ) (there : Bool) → DestroyCall → DestroyAt → ℕ
owes_destroy rest there c (destroy.Outside destroy_outside.LoadOwn) = 1
owes_destroy rest there c (destroy.Outside destroy_outside.AcquireTable) = 5
owes_destroy rest there c (destroy.Outside (destroy_outside.Ended w)) = 0
owes_destroy rest there c (destroy.Locked destroy_locked.LoadCaller) = 4
owes_destroy rest there c (destroy.Locked destroy_locked.AcquireVictimLock) = 3
owes_destroy rest there c (destroy.Victim victim.LoadVictim) = 2
owes_destroy rest there c (destroy.Victim (victim.CommitKill seen)) = if there then 1 else 3
owes_destroy rest there c (destroy.Victim (victim.LoadSender sender)) = 2
owes_destroy rest there c (destroy.Victim (victim.FreeSender sender seen)) = if there then 1 else 3
owes_destroy rest there c (destroy.Victim (victim.AcquireReadyForSender sender seen)) =
    6 + push_worth + owes_visits (c.count - 1) rest
owes_destroy rest there c (destroy.Pushing (destroy_pushing.PushSender sender seen)) =
    5 + push_worth + owes_visits (c.count - 1) rest
owes_destroy rest there c (destroy.Victim victim.ReleaseVictimLock) = 4 + owes_visits (c.count - 1) rest
owes_destroy rest there c (destroy.Locked destroy_locked.AcquireReadyForVictim) =
    3 + owes_visits (c.count - 1) rest
owes_destroy rest there c destroy.UnlistVictim = 2 + owes_visits (c.count - 1) rest
owes_destroy rest there c (destroy.Locked destroy_locked.RemoveContext) = 1 + owes_visits (c.count - 1) rest
owes_destroy rest there c (destroy.Locked (destroy_locked.AcquireVisitedLock visited)) =
    owes_visits (to_visit c visited) rest
owes_destroy rest there c (destroy.Visit (visit.LoadVisited visited)) = 3 * to_visit c visited + rest
owes_destroy rest there c (destroy.Visit (visit.FreeVisited visited seen)) =
    if there then 1 else owes_visits (to_visit c visited) rest
owes_destroy rest there c (destroy.Visit (visit.AcquireReadyForVisited visited seen)) =
    push_worth + owes_visits (to_visit c visited) rest
owes_destroy rest there c (destroy.Pushing (destroy_pushing.PushVisited visited seen)) =
    push_worth + 3 * to_visit c visited + rest
owes_destroy rest there c (destroy.Visit (visit.ReleaseVisitedLock visited)) =
    3 * to_visit c visited - 1 + rest
owes_destroy rest there c (destroy.Locked (destroy_locked.Release destroy_release.Killed)) = 1 + rest
owes_destroy rest there c (destroy.Victim (victim.ReleaseVictimLockAbsent found)) = 2 + rest
owes_destroy rest there c (destroy.Locked (destroy_locked.Release (destroy_release.Absent found))) = 1 + rest
owes_destroy rest there c (destroy.Locked (destroy_locked.Release destroy_release.Dead)) = 1

-- A SWITCH, with the threads that it has: its carrier's goal, and the one that it starts

abbrev pub one_for : {A : Type 0} → Option A → ℕ
one_for None = 0
one_for (Some a) = 1

abbrev pub owes_switch : SwitchCall → SwitchAt → ℕ
owes_switch c switch.AcquireReady = 2 + one_for c.goal + one_for c.start + entry_worth * (one_for c.goal +
    one_for c.start)
owes_switch c (switch.Locked (switch_locked.LoadGoal goal)) =
    2 + one_for c.start + entry_worth * (1 + one_for c.start)
owes_switch c (switch.Locked (switch_locked.LoadStart back number)) = 2 + entry_worth * (one_for back + 1)
owes_switch c (switch.Locked (switch_locked.ReleaseReady back started)) =
    1 + entry_worth * (one_for back + one_for started)
owes_switch c (switch.Returned s) = 1 + entry_worth * one_for s.goal
owes_switch c (switch.Finished s) = entry_worth * one_for s.goal

-- A CONTEXT

-- before the next call begins: some work, and then its section up to the point at which it decides
abbrev pub rest_of : (work : Position → ℕ) → Board → Context → ℕ
rest_of work b x = work x.position + b.size + 7

-- what context i owes at a location, where it has so much to do before the next call
abbrev pub owes_at : (rest : ℕ) → Board → ℕ → (own : StateWord) → At → ℕ
owes_at rest b i own (Alone p) =
    owes_alone rest (is_there b.seen (expected (alone.ask_of (id_at b i) own p))) p
owes_at rest b i own (InSend c p) =
    owes_send b.size rest (is_there b.seen (expected (send.ask_of c own p))) (is_dead (b.seen i).word) c p
owes_at rest b i own (InReceive c p) =
    owes_receive b.size rest (is_there b.seen (expected (receive.ask_of c own p))) c (b.queue i) p
owes_at rest b i own (InCreate c p) = owes_create rest p
owes_at rest b i own (InDestroy c p) =
    owes_destroy rest (is_there b.seen (expected (destroy.ask_of c own p))) c p
owes_at rest b i own (InSwitch c p) = owes_switch c p
owes_at rest b i own Resting = 0
owes_at rest b i own Coming = 0
owes_at rest b i own Nowhere = 0

-- what it owes if this is its context
abbrev pub owes_of : (work : Position → ℕ) → Board → ℕ → Context → ℕ
owes_of work b i x = owes_at (rest_of work b x) b i x.own x.at

abbrev pub owes : (work : Position → ℕ) → Board → ℕ → ℕ
owes work b i = owes_of work b i (b.context i)
