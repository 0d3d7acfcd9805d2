-- A section's step leaves its caller's word as the location after it says.
use Rattle.std.proofs.Common.{◌≡◌, ℕ, ◌≤◌, Bool, true, false, cond, refl, sym, ap, ◌∙◌, arith, Option, Some, None, IfSome, subst}
use Rattle.std.specs.Prelude.{if◌then◌else◌, not}
use Rattle.k_ids.specs.declared.threads.ThreadId.{ThreadId}
use Rattle.k_ids.specs.declared.state_word.Result4.TheVariants as result4
use Rattle.k_ids.specs.declared.state_word.State.{State}
use Rattle.k_ids.specs.declared.state_word.State.TheVariants as state
use Rattle.k_ids.specs.declared.state_word.StateWord.{StateWord}
use Rattle.k_ids.specs.StateWords.{IsPartner, is_live, partner_of, state_bits, state_word_of}
use Rattle.k_ids.proofs.StateSpelled.{live_agrees, state-read, state-whole}
use Rattle.k_senders.specs.declared.entries.SenderEntry.{SenderEntry}
use Rattle.k_locks.specs.Asks.{Response}
use Rattle.k_locks.specs.Asks as asks
use Rattle.k_locks.specs.Hands.{Hand}
use Rattle.k_locks.specs.Shown.{found_in, is_dead, is_present_in, shows}
use Rattle.k_locks.specs.declared.steps.Went.{Went}
use Rattle.k_locks.specs.declared.steps.Went.TheVariants as went
use Rattle.k_ids.specs.declared.calls.Reply.{Reply}
use Rattle.k_ids.specs.declared.calls.Reply.TheVariants as reply
use Rattle.k_model.specs.State.{takes_from}
use Rattle.k_ipc.specs.Words.{IsPickingOf, alive_or_dead}
use Rattle.k_locks.specs.Threads.{IsRunOf, runs}
use Rattle.k_ipc.specs.declared.send.Manner.{Manner}
use Rattle.k_ipc.specs.declared.send.Manner.TheVariants as manner
use Rattle.k_ipc.specs.declared.send.SendCall.{SendCall}
use Rattle.k_ipc.specs.declared.send.SendOutside.TheVariants as outside
use Rattle.k_ipc.specs.declared.send.SendLocked.{SendLocked}
use Rattle.k_ipc.specs.declared.send.SendLocked.TheVariants as locked
use Rattle.k_ipc.specs.declared.send.SendRelease.TheVariants as release
use Rattle.k_ipc.specs.SendTable.{SendAt, Outside, Locked, Pushing, after_receiver, is_joined, passed_end, passed_word, waiting_word}
use Rattle.k_ipc.specs.SendTable as send
use Rattle.k_ipc.specs.declared.send.SendPushing.TheVariants as pushing
use Rattle.k_ipc.specs.declared.receive.ReceiveCall.{ReceiveCall}
use Rattle.k_ipc.specs.declared.receive.ReceiveOutside.TheVariants as receive_outside
use Rattle.k_ipc.specs.declared.receive.ReceiveLocked.{ReceiveLocked}
use Rattle.k_ipc.specs.declared.receive.ReceiveLocked.TheVariants as receive_locked
use Rattle.k_ipc.specs.declared.receive.ReceivePushing.TheVariants as receive_pushing
use Rattle.k_ipc.specs.declared.receive.ReceiveRelease.{ReceiveRelease}
use Rattle.k_ipc.specs.declared.receive.ReceiveRelease.TheVariants as receive_release
use Rattle.k_ipc.specs.ReceiveTable.{ReceiveAt, after_wait, candidates_after, picking_by, released_end, stays_out, still_waits, try_next, try_sender}
use Rattle.k_ipc.specs.ReceiveTable as receive
use Rattle.k_ipc.specs.Candidates.{first_admitted}
use Rattle.k_ipc.specs.Words.{in_state, on_in}
use Rattle.k_threads.specs.declared.create.CreateCall.{CreateCall}
use Rattle.k_threads.specs.declared.create.CreateOutside.TheVariants as create_outside
use Rattle.k_threads.specs.declared.create.CreateLocked.TheVariants as create_locked
use Rattle.k_threads.specs.declared.create.CreateRelease.{CreateRelease}
use Rattle.k_threads.specs.declared.create.CreateRelease.TheVariants as create_release
use Rattle.k_threads.specs.CreateTable.{CreateAt}
use Rattle.k_threads.specs.CreateTable as create
use Rattle.k_threads.specs.declared.destroy.DestroyCall.{DestroyCall}
use Rattle.k_threads.specs.declared.destroy.DestroyOutside.TheVariants as destroy_outside
use Rattle.k_threads.specs.declared.destroy.DestroyLocked.TheVariants as destroy_locked
use Rattle.k_threads.specs.declared.destroy.DestroyRelease.{DestroyRelease}
use Rattle.k_threads.specs.declared.destroy.DestroyVictim.{DestroyVictim}
use Rattle.k_threads.specs.declared.destroy.DestroyVictim.TheVariants as destroy_victim
use Rattle.k_threads.specs.declared.destroy.DestroyVisit.{DestroyVisit}
use Rattle.k_threads.specs.declared.destroy.DestroyVisit.TheVariants as destroy_visit
use Rattle.k_threads.specs.declared.destroy.DestroyPushing.TheVariants as destroy_pushing
use Rattle.k_threads.specs.declared.destroy.DestroyRelease.TheVariants as destroy_release
use Rattle.k_threads.specs.DestroyTable.{DestroyAt}
use Rattle.k_threads.specs.DestroyTable as destroy
use Rattle.k_locks.specs.declared.steps.Answer.{Answer}
use Rattle.k_locks.specs.Steps.{is_again}
use Rattle.k_ipc.specs.declared.send.SendSection.{SendSection}
use Rattle.k_ipc.specs.declared.receive.ReceiveSection.{ReceiveSection}
use Rattle.k_threads.specs.declared.create.CreateSection.{CreateSection}
use Rattle.k_threads.specs.declared.destroy.DestroySection.{DestroySection}
use Rattle.k_caller.specs.Activities.{IsSoundCreate, IsSoundDestroy, IsSoundReceive, IsSoundSend}
use Rattle.k_caller.specs.Waits.{IsWordOf, is_waiting}
use Rattle.k_caller.specs.Owns.{BeganOwns, EndOwns, IsRunning, IsWaiting, IsPicking, PassedOwns, ReceiveLockedOwns, ReceiveOwns, ReceiveReleaseOwns, SendOwns}

-- what holds both ways holds of the choice
pub either : {A : Type 0} (P : A → Type 0) (b : Bool) (x y : A) → P x → P y → P (cond b x y)
either P true x y h k = h
either P false x y h k = k

-- A word of a thread with another state, in which it still goes on, is one.
pub word_in : (me : ThreadId) (own : StateWord) (b : Bool) (s : State) → IsPartner me → IsWordOf me own → is_live s ≡ true → IfSome (partner_of s) IsPartner → IsWordOf me (record own { on = b; state = s })
word_in me own b s id word live partner =
    let born : 1 ≤ own.version = omega (arith, word.version, id.born) in
    record {
      whole = record { version = word.whole.version; priority = word.whole.priority; partner = partner; agrees = live_agrees s (record own { on = b; state = s }) live born };
      version = word.version;
    }

ended_alive : (me : ThreadId) (own w : StateWord) (r : Reply) → IsRunning me own → EndOwns me own (alive_or_dead w r)
ended_alive me own w r running = either (EndOwns me own) (is_dead w) went.CallerDead (went.Ends r) tt running

passed : (me : ThreadId) (own : StateWord) (m : Manner) (to : ThreadId) → IsPartner me → IsPartner to → IsRunning me own → PassedOwns me (passed_word m to own) m
passed me own manner.Plain to id partner running = record { word = word_in me own own.on (state.Run result4.Sent) id running.word refl tt; running = refl }
passed me own manner.Joined to id partner running = record { word = word_in me own own.on (state.Receiving (Some to)) id running.word refl partner; waiting = refl }
passed me own manner.Reply to id partner running = record { word = word_in me own true state.Picking id running.word refl tt; picking = refl }

pub picking_waits : (me : ThreadId) (own : StateWord) → IsPicking me own → IsWaiting me own
picking_waits me own picks = record { word = picks.word; waiting = subst (λ (s : State). is_waiting s ≡ true) (sym picks.picking) refl }

passed_ends : (me : ThreadId) (own : StateWord) (m : Manner) → PassedOwns me own m → EndOwns me own (passed_end m)
passed_ends me own manner.Plain owns = owns
passed_ends me own manner.Joined owns = owns
passed_ends me own manner.Reply owns = owns

receiver_loaded : (c : SendCall) (own w : StateWord) → IsRunning c.caller own → SendOwns c own (Locked (after_receiver c w))
receiver_loaded c own w running =
    let P : SendLocked → Type 0 = λ p. SendOwns c own (Locked p) in
    let refused : SendLocked = locked.Release (release.Refused (reply.Absent (found_in c.to.number w))) in
    let busy : SendLocked = locked.Release (release.Refused (reply.Busy (found_in c.to.number w))) in
    let waits : SendLocked = if c.zero then busy else locked.CommitWait in
    let fits : Bool = takes_from (shows w.state) c.caller c.zero in
    either P (not (is_present_in w c.to)) refused (if fits then locked.StoreMail w else waits) running (either P fits (locked.StoreMail w) waits running (either P c.zero busy locked.CommitWait running running))

pub send_owned : (c : SendCall) (own : StateWord) (h : Hand) (p : SendAt) (r : Response) → IsPartner c.caller → IsPartner c.to → SendOwns c own p → SendOwns c (send.own_of c own p r) (send.leads c h p r)
send_owned c own h (Outside outside.LoadCaller) (asks.Word w) id to owns = ended_alive c.caller own w reply.Own owns
send_owned c own h (Outside (outside.CheckCaller r)) (asks.Word w) id to owns = ended_alive c.caller own w r owns
send_owned c own h (Locked locked.LoadReceiver) (asks.Word w) id to owns = receiver_loaded c own w owns
send_owned c own h (Locked (locked.CommitPass w)) asks.Won id to owns = passed c.caller own c.manner c.to id to owns
send_owned c own h (Locked (locked.CommitPass w)) (asks.Lost v) id to owns = tt
send_owned c own h (Locked (locked.WakeReceiver w)) asks.Won id to owns = either (λ p. SendOwns c own (Locked p)) w.on (locked.Release release.Passed) (locked.AcquireReady w.priority) owns owns
send_owned c own h (Locked locked.CommitWait) asks.Won id to owns = record { word = word_in c.caller own own.on (state.Sending c.to (is_joined c.manner)) id owns.word refl to; waiting = refl }
send_owned c own h (Locked locked.CommitWait) (asks.Lost v) id to owns = tt
send_owned c own h (Locked (locked.Release release.Passed)) asks.Released id to owns = passed_ends c.caller own c.manner owns
send_owned c own h (Locked (locked.Release release.Dead)) asks.Released id to owns = tt
send_owned c own h (Locked (locked.Release (release.Refused r))) asks.Released id to owns = owns
send_owned c own h (Locked (locked.Release release.Queued)) asks.Released id to owns = owns
send_owned c own h (Outside outside.AcquireReceiver) asks.Got id to owns = owns
send_owned c own h (Locked (locked.StoreMail w)) asks.Stored id to owns = owns
send_owned c own h (Locked (locked.WakeReceiver w)) (asks.Lost v) id to owns = owns
send_owned c own h (Locked locked.ReloadReceiver) (asks.Word w) id to owns = owns
send_owned c own h (Locked (locked.AcquireReady priority)) asks.Got id to owns = owns
send_owned c own h (Pushing (pushing.PushReceiver priority)) asks.Released id to owns = owns
send_owned c own h p r id to owns = owns

-- A RECEIVE, AND A PICK

waits_or_picks : (me : ThreadId) (own : StateWord) (picks : Bool) → BeganOwns me own picks → (P : ReceiveLocked → Type 0) → (picks ≡ true → IsPicking me own → P receive_locked.LoadPicking) → (picks ≡ false → IsRunning me own → P receive_locked.LoadOwn) → P (if picks then receive_locked.LoadPicking else receive_locked.LoadOwn)
waits_or_picks me own true owns P h k = h refl owns
waits_or_picks me own false owns P h k = k refl owns

-- without a candidate, or with one
tried : (c : ReceiveCall) (own : StateWord) (e : Option SenderEntry) → IsRunning c.caller own → ReceiveLockedOwns c own (try_sender c e)
tried c own (Some e) running = running
tried c own None running = either (λ p. ReceiveLockedOwns c own p) c.zero (receive_locked.Release receive_release.Nobody) receive_locked.CommitWait running running

tried_next : (c : ReceiveCall) (own : StateWord) (e : Option SenderEntry) → IsPicking c.caller own → ReceiveLockedOwns c own (try_next e)
tried_next c own (Some e) picks = picks
tried_next c own None picks = picks

picked_by : (c : ReceiveCall) (own : StateWord) (e : Option SenderEntry) (s : State) → IsPicking c.caller own → ReceiveLockedOwns c own (picking_by e s)
picked_by c own e state.Dead picks = tt
picked_by c own e state.Picking picks = tried_next c own e picks
picked_by c own e (state.Run r) picks = picking_waits c.caller own picks
picked_by c own e (state.Sending to joined) picks = picking_waits c.caller own picks
picked_by c own e (state.Receiving from) picks = picking_waits c.caller own picks
picked_by c own e state.Ended picks = picking_waits c.caller own picks

waited : (c : ReceiveCall) (own : StateWord) (from : Option ThreadId) → IsWaiting c.caller own → ReceiveLockedOwns c own (after_wait from)
waited c own None waits = waits
waited c own (Some from) waits = waits

released : (c : ReceiveCall) (own : StateWord) (r : ReceiveRelease) → ReceiveReleaseOwns c own r → EndOwns c.caller own (released_end r)
released c own (receive_release.Taken e) owns = owns
released c own receive_release.Waits owns = owns
released c own receive_release.Delivered owns = owns
released c own receive_release.Gone owns = owns
released c own receive_release.Nobody owns = owns
released c own receive_release.Dead owns = tt

pub receive_owned : (c : ReceiveCall) (own : StateWord) (h : Hand) (p : ReceiveAt) (r : Response) → IsPartner c.caller → IfSome c.from IsPartner → ReceiveOwns c own p → ReceiveOwns c (receive.own_of c own p r) (receive.leads c h p r)
receive_owned c own h (receive.Outside receive_outside.LoadCaller) (asks.Word w) id from owns = ended_alive c.caller own w reply.Own owns
receive_owned c own h (receive.Outside receive_outside.AcquireOwn) asks.Got id from owns = waits_or_picks c.caller own c.picks owns (λ p. ReceiveLockedOwns c own p) (λ e picks. picks) (λ e running. running)
receive_owned c own h (receive.Locked receive_locked.LoadOwn) (asks.Word w) id from owns = either (λ p. ReceiveLockedOwns c own p) (is_dead w) (receive_locked.Release receive_release.Dead) (try_sender c (first_admitted c.from h.queue.entries)) tt (tried c own (first_admitted c.from h.queue.entries) owns)
receive_owned c own h (receive.Locked (receive_locked.LoadSender e)) (asks.Word w) id from owns = either (λ p. ReceiveLockedOwns c own p) (still_waits c e w) (receive_locked.FreeSender e w) (try_sender c (candidates_after c h e)) owns (tried c own (candidates_after c h e) owns)
receive_owned c own h (receive.Locked (receive_locked.FreeSender e w)) asks.Won id from owns = either (λ p. ReceiveLockedOwns c own p) (stays_out w) (receive_locked.Release (receive_release.Taken e)) (receive_locked.AcquireReady e) owns owns
receive_owned c own h (receive.Locked (receive_locked.FreeSender e w)) (asks.Lost v) id from owns = owns
receive_owned c own h (receive.Locked (receive_locked.AcquireReady e)) asks.Got id from owns = owns
receive_owned c own h (receive.Pushing (receive_pushing.LoadFreed e)) (asks.Word w) id from owns = owns
receive_owned c own h (receive.Pushing (receive_pushing.PushFreed e w)) asks.Released id from owns = owns
receive_owned c own h (receive.Locked receive_locked.CommitWait) asks.Won id from owns = waited c (in_state (state.Receiving c.from) own) c.from (record { word = word_in c.caller own own.on (state.Receiving c.from) id owns.word refl from; waiting = refl })
receive_owned c own h (receive.Locked (receive_locked.LoadPartner f)) (asks.Word w) id from owns = either (λ p. ReceiveLockedOwns c own p) (is_present_in w f) (receive_locked.Release receive_release.Waits) (receive_locked.CommitGone f) owns owns
receive_owned c own h (receive.Locked (receive_locked.CommitGone f)) asks.Won id from owns = record { word = word_in c.caller own own.on (state.Run result4.Gone) id owns.word refl tt; running = refl }
receive_owned c own h (receive.Locked receive_locked.LoadPicking) (asks.Word w) id from owns = picked_by c own (first_admitted c.from h.queue.entries) w.state owns
receive_owned c own h (receive.Locked (receive_locked.LoadNext e)) (asks.Word w) id from owns = either (λ p. ReceiveLockedOwns c own p) (still_waits c e w) (receive_locked.FreeNext e w) (try_next (candidates_after c h e)) owns (tried_next c own (candidates_after c h e) owns)
receive_owned c own h (receive.Locked (receive_locked.FreeNext e w)) asks.Won id from owns = owns
receive_owned c own h (receive.Locked (receive_locked.FreeNext e w)) (asks.Lost v) id from owns = owns
receive_owned c own h (receive.Locked (receive_locked.EndPick e w)) asks.Won id from owns =
    let running : IsRunning c.caller (on_in (state.Run result4.Plain) own) = record { word = word_in c.caller own true (state.Run result4.Plain) id owns.word refl tt; running = refl } in
    either (λ p. ReceiveLockedOwns c (on_in (state.Run result4.Plain) own) p) (stays_out w) (receive_locked.Release (receive_release.Taken e)) (receive_locked.AcquireReady e) running running
receive_owned c own h (receive.Locked receive_locked.SettlePick) asks.Won id from owns = record { word = word_in c.caller own true (state.Receiving None) id owns.word refl tt; waiting = refl }
receive_owned c own h (receive.Locked (receive_locked.Release r)) asks.Released id from owns = released c own r owns
receive_owned c own h p r id from owns = owns

-- HOW A SECTION GOES ON, and its caller's word then

-- where it is pushed or goes on, nothing is said of the word
send_end : (c : SendCall) (own : StateWord) (p : SendAt) → SendOwns c own p → EndOwns c.caller own (send.end_at p)
send_end c own (Outside (outside.Ended w)) owns = owns
send_end c own p owns = tt

send_pushed : (c : SendCall) (own : StateWord) (e : Option ℕ) (p : SendAt) → SendOwns c own p → EndOwns c.caller own (send.went_at e p)
send_pushed c own (Some priority) p owns = tt
send_pushed c own None p owns = send_end c own p owns

pub send_goes : (c : SendCall) (own : StateWord) (h : Hand) (p : SendAt) (r : Response) → IsPartner c.caller → IsPartner c.to → SendOwns c own p → EndOwns c.caller (send.own_of c own p r) (send.went_of c h p r)
send_goes c own h p r id to owns = either (EndOwns c.caller (send.own_of c own p r)) (asks.is_again r) went.Again (send.went_at (send.pushed_at p) (send.leads c h p r)) tt (send_pushed c (send.own_of c own p r) (send.pushed_at p) (send.leads c h p r) (send_owned c own h p r id to owns))

receive_end : (c : ReceiveCall) (own : StateWord) (p : ReceiveAt) → ReceiveOwns c own p → EndOwns c.caller own (receive.end_at p)
receive_end c own (receive.Outside (receive_outside.Ended w)) owns = owns
receive_end c own p owns = tt

receive_pushed : (c : ReceiveCall) (own : StateWord) (e : Option ℕ) (p : ReceiveAt) → ReceiveOwns c own p → EndOwns c.caller own (receive.went_at e p)
receive_pushed c own (Some priority) p owns = tt
receive_pushed c own None p owns = receive_end c own p owns

pub receive_goes : (c : ReceiveCall) (own : StateWord) (h : Hand) (p : ReceiveAt) (r : Response) → IsPartner c.caller → IfSome c.from IsPartner → ReceiveOwns c own p → EndOwns c.caller (receive.own_of c own p r) (receive.went_of c h p r)
receive_goes c own h p r id from owns = either (EndOwns c.caller (receive.own_of c own p r)) (asks.is_again r) went.Again (receive.went_at (receive.pushed_at p) (receive.leads c h p r)) tt (receive_pushed c (receive.own_of c own p r) (receive.pushed_at p) (receive.leads c h p r) (receive_owned c own h p r id from owns))

-- A create and a destroy leave their caller's word as it is, and never leave the caller waiting.
abbrev IsOver : Went → Type 0
IsOver went.Waits = ⊥
IsOver went.Picks = ⊥
IsOver w = Unit {0}

over_running : (me : ThreadId) (own : StateWord) (w : Went) → IsRunning me own → IsOver w → EndOwns me own w
over_running me own went.On running over = tt
over_running me own went.Again running over = tt
over_running me own (went.Pushed priority) running over = tt
over_running me own (went.Ends r) running over = running
over_running me own went.CallerDead running over = tt
over_running me own went.Waits running over = absurd over
over_running me own went.Picks running over = absurd over

create_released : (r : CreateRelease) → IsOver (create.released_end r)
create_released (create_release.Made id) = tt
create_released (create_release.Full alive worn) = tt
create_released create_release.Dead = tt

create_over : (c : CreateCall) (h : Hand) (p : CreateAt) (r : Response) → create.is_open p ≡ true → IsOver (create.went_at (create.pushed_at c p) (create.leads c h p r))
create_over c h (create.Locked (create_locked.Release rel)) asks.Released going = create_released rel
create_over c h (create.Outside (create_outside.Ended w)) r going = absurd cc
create_over c h (create.Outside create_outside.AcquireTable) asks.Got going = tt
create_over c h (create.Locked create_locked.LoadCaller) (asks.Word w) going = tt
create_over c h (create.Locked (create_locked.PlaceContext id)) asks.Placed going = tt
create_over c h (create.Locked (create_locked.CommitCreate id)) asks.Won going = tt
create_over c h (create.Locked (create_locked.AcquireReady id)) asks.Got going = tt
create_over c h (create.PushCreated id) asks.Released going = tt
create_over c h p r going = tt

pub create_goes : (me : ThreadId) (own : StateWord) (c : CreateCall) (h : Hand) (p : CreateAt) (r : Response) → create.is_open p ≡ true → IsRunning me own → EndOwns me own (create.went_of c h p r)
create_goes me own c h p r going running = either (EndOwns me own) (asks.is_again r) went.Again (create.went_at (create.pushed_at c p) (create.leads c h p r)) tt (over_running me own (create.went_at (create.pushed_at c p) (create.leads c h p r)) running (create_over c h p r going))

destroy_released : (r : DestroyRelease) → IsOver (destroy.released_end r)
destroy_released destroy_release.Killed = tt
destroy_released (destroy_release.Absent found) = tt
destroy_released destroy_release.Dead = tt

victim_over : (c : DestroyCall) (h : Hand) (p : DestroyVictim) (r : Response) → IsOver (destroy.end_at (destroy.leads c h (destroy.Victim p) r))
victim_over c h destroy_victim.LoadVictim (asks.Word w) = tt
victim_over c h (destroy_victim.CommitKill seen) asks.Won = tt
victim_over c h (destroy_victim.CommitKill seen) (asks.Lost w) = tt
victim_over c h (destroy_victim.LoadSender sender) (asks.Word w) = tt
victim_over c h (destroy_victim.FreeSender sender seen) asks.Won = tt
victim_over c h (destroy_victim.FreeSender sender seen) (asks.Lost w) = tt
victim_over c h (destroy_victim.AcquireReadyForSender sender seen) asks.Got = tt
victim_over c h destroy_victim.ReleaseVictimLock asks.Released = tt
victim_over c h (destroy_victim.ReleaseVictimLockAbsent found) asks.Released = tt
victim_over c h p r = tt

visit_over : (c : DestroyCall) (h : Hand) (p : DestroyVisit) (r : Response) → IsOver (destroy.end_at (destroy.leads c h (destroy.Visit p) r))
visit_over c h (destroy_visit.LoadVisited visited) (asks.Word w) = tt
visit_over c h (destroy_visit.FreeVisited visited seen) asks.Won = tt
visit_over c h (destroy_visit.FreeVisited visited seen) (asks.Lost w) = tt
visit_over c h (destroy_visit.AcquireReadyForVisited visited seen) asks.Got = tt
visit_over c h (destroy_visit.ReleaseVisitedLock visited) asks.Released = tt
visit_over c h p r = tt

destroy_over : (c : DestroyCall) (h : Hand) (p : DestroyAt) (r : Response) → destroy.is_open p ≡ true → IsOver (destroy.went_at (destroy.pushed_at c p) (destroy.leads c h p r))
destroy_over c h (destroy.Locked (destroy_locked.Release rel)) asks.Released going = destroy_released rel
destroy_over c h (destroy.Outside destroy_outside.LoadOwn) (asks.Word w) going = either IsOver (is_dead w) went.CallerDead (went.Ends reply.Own) tt tt
destroy_over c h (destroy.Outside (destroy_outside.Ended w)) r going = absurd cc
destroy_over c h (destroy.Outside destroy_outside.AcquireTable) asks.Got going = tt
destroy_over c h (destroy.Locked destroy_locked.LoadCaller) (asks.Word w) going = tt
destroy_over c h (destroy.Locked destroy_locked.AcquireVictimLock) asks.Got going = tt
destroy_over c h (destroy.Locked destroy_locked.AcquireReadyForVictim) asks.Got going = tt
destroy_over c h (destroy.Locked destroy_locked.RemoveContext) asks.Removed going = tt
destroy_over c h (destroy.Locked (destroy_locked.AcquireVisitedLock visited)) asks.Got going = tt
destroy_over c h (destroy.Victim p) r going = victim_over c h p r
destroy_over c h (destroy.Visit p) r going = visit_over c h p r
destroy_over c h destroy.UnlistVictim asks.Released going = tt
destroy_over c h (destroy.Pushing (destroy_pushing.PushSender sender seen)) r going = tt
destroy_over c h (destroy.Pushing (destroy_pushing.PushVisited visited seen)) r going = tt
destroy_over c h p r going = tt

pub destroy_goes : (me : ThreadId) (own : StateWord) (c : DestroyCall) (h : Hand) (p : DestroyAt) (r : Response) → destroy.is_open p ≡ true → IsRunning me own → EndOwns me own (destroy.went_of c h p r)
destroy_goes me own c h p r going running = either (EndOwns me own) (asks.is_again r) went.Again (destroy.went_at (destroy.pushed_at c p) (destroy.leads c h p r)) tt (over_running me own (destroy.went_at (destroy.pushed_at c p) (destroy.leads c h p r)) running (destroy_over c h p r going))

-- BITS

pub running_bits : (me : ThreadId) (own : StateWord) → IsRunning me own → IsRunOf me (state_bits own)
running_bits me own running =
    let read : state_word_of (state_bits own) ≡ own = state-read own running.word.whole in
    record {
      spelled = state-whole own running.word.whole;
      version = ap (λ (w : StateWord). w.version) read ∙ running.word.version;
      running = ap (λ (w : StateWord). runs w.state) read ∙ running.running;
    }

pub picking_bits : (me : ThreadId) (own : StateWord) → IsPicking me own → IsPickingOf me (state_bits own)
picking_bits me own picks =
    let read : state_word_of (state_bits own) ≡ own = state-read own picks.word.whole in
    record {
      spelled = state-whole own picks.word.whole;
      version = ap (λ (w : StateWord). w.version) read ∙ picks.word.version;
      picking = ap (λ (w : StateWord). w.state) read ∙ picks.picking;
    }

pub running_read : (me : ThreadId) (own : StateWord) → IsRunning me own → state_word_of (state_bits own) ≡ own
running_read me own running = state-read own running.word.whole

pub picking_read : (me : ThreadId) (own : StateWord) → IsPicking me own → state_word_of (state_bits own) ≡ own
picking_read me own picks = state-read own picks.word.whole

-- SECTIONS, as contexts have them

pub ends_as : (me : ThreadId) (own now : StateWord) (w v : Went) → now ≡ own → v ≡ w → EndOwns me own w → EndOwns me now v
ends_as me own now w v same goes ends = subst (λ (o : StateWord). EndOwns me o v) (sym same) (subst (λ (x : Went). EndOwns me own x) (sym goes) ends)

kept_or_moved : {A : Type 0} (P : A → Type 0) (b : Bool) (x y : A) → b ≡ false → P y → P (cond b x y)
kept_or_moved P true x y e h = absurd cc
kept_or_moved P false x y e h = h

pub send_section_goes : (me : ThreadId) (s : SendSection) (a : Answer) → IsPartner me → IsSoundSend me s → is_again a ≡ false → EndOwns me (send.resumed s a).own (send.went_of s.call (send.hand_of s.location) (send.at_of s.location) (send.heard s a))
send_section_goes me s a id sound onward =
    let w : Went = send.went_of s.call (send.hand_of s.location) (send.at_of s.location) (send.heard s a) in
    let goes : EndOwns s.call.caller (send.own_of s.call s.own (send.at_of s.location) (send.heard s a)) w = send_goes s.call s.own (send.hand_of s.location) (send.at_of s.location) (send.heard s a) sound.sound.caller sound.sound.to sound.own in
    let mine : EndOwns me (send.moved s a).own w = subst (λ (id : ThreadId). EndOwns id (send.moved s a).own w) sound.caller goes in
    kept_or_moved (λ (t : SendSection). EndOwns me t.own w) (is_again a) s (send.moved s a) onward mine

pub receive_section_goes : (me : ThreadId) (s : ReceiveSection) (a : Answer) → IsPartner me → IsSoundReceive me s → is_again a ≡ false → EndOwns me (receive.resumed s a).own (receive.went_of s.call (receive.hand_of s.location) (receive.at_of s.location) (receive.heard s a))
receive_section_goes me s a id sound onward =
    let w : Went = receive.went_of s.call (receive.hand_of s.location) (receive.at_of s.location) (receive.heard s a) in
    let goes : EndOwns s.call.caller (receive.own_of s.call s.own (receive.at_of s.location) (receive.heard s a)) w = receive_goes s.call s.own (receive.hand_of s.location) (receive.at_of s.location) (receive.heard s a) sound.sound.caller sound.sound.from sound.own in
    let mine : EndOwns me (receive.moved s a).own w = subst (λ (id : ThreadId). EndOwns id (receive.moved s a).own w) sound.caller goes in
    kept_or_moved (λ (t : ReceiveSection). EndOwns me t.own w) (is_again a) s (receive.moved s a) onward mine

pub create_section_goes : (me : ThreadId) (s : CreateSection) (a : Answer) → IsPartner me → IsSoundCreate me s → create.is_open (create.at_of s.location) ≡ true → is_again a ≡ false → EndOwns me (create.resumed s a).own (create.went_of s.call (create.hand_of s.location) (create.at_of s.location) (create.heard s a))
create_section_goes me s a id sound going onward =
    let w : Went = create.went_of s.call (create.hand_of s.location) (create.at_of s.location) (create.heard s a) in
    let running : IsRunning me s.own = record { word = record { whole = sound.sound.own.whole; version = sound.sound.version ∙ ap (λ (i : ThreadId). i.version) sound.caller }; running = sound.sound.running } in
    let mine : EndOwns me (create.moved s a).own w = create_goes me s.own s.call (create.hand_of s.location) (create.at_of s.location) (create.heard s a) going running in
    kept_or_moved (λ (t : CreateSection). EndOwns me t.own w) (is_again a) s (create.moved s a) onward mine

pub destroy_section_goes : (me : ThreadId) (s : DestroySection) (a : Answer) → IsPartner me → IsSoundDestroy me s → destroy.is_open (destroy.at_of s.location) ≡ true → is_again a ≡ false → EndOwns me (destroy.resumed s a).own (destroy.went_of s.call (destroy.hand_of s.location) (destroy.at_of s.location) (destroy.heard s a))
destroy_section_goes me s a id sound going onward =
    let w : Went = destroy.went_of s.call (destroy.hand_of s.location) (destroy.at_of s.location) (destroy.heard s a) in
    let running : IsRunning me s.own = record { word = record { whole = sound.sound.own.whole; version = sound.sound.version ∙ ap (λ (i : ThreadId). i.version) sound.caller }; running = sound.sound.running } in
    let mine : EndOwns me (destroy.moved s a).own w = destroy_goes me s.own s.call (destroy.hand_of s.location) (destroy.at_of s.location) (destroy.heard s a) going running in
    kept_or_moved (λ (t : DestroySection). EndOwns me t.own w) (is_again a) s (destroy.moved s a) onward mine
