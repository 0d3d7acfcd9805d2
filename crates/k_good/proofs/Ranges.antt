-- Thread ids in words and locations stay in range, over any turn.
use Rattle.std.proofs.Common.{◌≡◌, ℕ, Bool, true, false, refl, sym, subst, Option, Some, None, inl, inr}
use Rattle.std.specs.Prelude.{IfSome, if◌then◌else◌}
use Rattle.k_ids.specs.declared.threads.ThreadId.{ThreadId}
use Rattle.k_ids.specs.declared.calls.Phase.{Phase}
use Rattle.k_ids.specs.declared.calls.Phase.TheVariants as phase
use Rattle.k_ids.specs.declared.state_word.Result4.TheVariants as result4
use Rattle.k_ids.specs.declared.state_word.State.{State}
use Rattle.k_ids.specs.declared.state_word.State.TheVariants as state
use Rattle.k_ids.specs.declared.state_word.StateWord.{StateWord}
use Rattle.k_locks.specs.declared.points.Point.{Point}
use Rattle.k_locks.specs.declared.steps.Went.{Went}
use Rattle.k_locks.specs.declared.steps.Went.TheVariants as went
use Rattle.k_locks.specs.Asks.{Ask, Response}
use Rattle.k_locks.specs.Asks as asks
use Rattle.k_ipc.specs.Words.{freed, is_joined_to}
use Rattle.k_ipc.specs.declared.send.Manner.{Manner}
use Rattle.k_ipc.specs.declared.send.Manner.TheVariants as manner
use Rattle.k_ipc.specs.declared.send.SendCall.{SendCall}
use Rattle.k_ipc.specs.declared.send.SendOutside.TheVariants as send_outside
use Rattle.k_ipc.specs.declared.send.SendLocked.TheVariants as send_locked
use Rattle.k_ipc.specs.declared.send.SendPushing.TheVariants as send_pushing
use Rattle.k_ipc.specs.declared.receive.ReceivePushing.TheVariants as receive_pushing
use Rattle.k_threads.specs.declared.destroy.DestroyPushing.TheVariants as destroy_pushing
use Rattle.k_locks.specs.Shown.{is_dead}
use Rattle.k_board.proofs.Cases.{if_cases}
use Rattle.std.proofs.Common.{eqb}
use Rattle.k_ipc.specs.SendTable.{SendAt, passed_word}
use Rattle.k_ipc.specs.SendTable as send
use Rattle.k_ipc.specs.declared.receive.ReceiveCall.{ReceiveCall}
use Rattle.k_ipc.specs.declared.receive.ReceiveOutside.TheVariants as receive_outside
use Rattle.k_ipc.specs.declared.receive.ReceiveLocked.TheVariants as receive_locked
use Rattle.k_ipc.specs.ReceiveTable.{ReceiveAt}
use Rattle.k_ipc.specs.ReceiveTable as receive
use Rattle.k_threads.specs.declared.create.CreateCall.{CreateCall}
use Rattle.k_threads.specs.declared.create.CreateOutside.TheVariants as create_outside
use Rattle.k_threads.specs.declared.create.CreateLocked.TheVariants as create_locked
use Rattle.k_threads.specs.CreateTable.{CreateAt}
use Rattle.k_threads.specs.CreateTable as create
use Rattle.k_threads.specs.declared.destroy.DestroyCall.{DestroyCall}
use Rattle.k_threads.specs.declared.destroy.DestroyOutside.TheVariants as destroy_outside
use Rattle.k_threads.specs.declared.destroy.DestroyLocked.TheVariants as destroy_locked
use Rattle.k_threads.specs.declared.destroy.DestroyVictim.TheVariants as victim
use Rattle.k_threads.specs.declared.destroy.DestroyVisit.TheVariants as visit
use Rattle.k_threads.specs.DestroyTable.{DestroyAt}
use Rattle.k_threads.specs.DestroyTable as destroy
use Rattle.k_script.specs.Plays.{IsInRange, Position}
use Rattle.k_caller.specs.Threads.{NamesIn}
use Rattle.k_caller.specs.declared.thread.ThreadLocation.{ThreadLocation}
use Rattle.k_caller.specs.declared.thread.ThreadLocation.TheVariants as location
use Rattle.k_caller.specs.Waits.{looked, worked}
use Rattle.k_caller.specs.Waits as alone
use Rattle.k_board.specs.Words.{Programs, noted}
use Rattle.k_board.specs.Boards.{Board, id_at}
use Rattle.k_board.specs.Steps.{Answers, after, begun_at, create_at, destroy_at, receive_at, send_at, wrote}
use Rattle.k_good.specs.Ranges.{FitsAlone, FitsAt, FitsState}
use Rattle.k_good.proofs.Words.{IsWritten, word_after}

-- LOCATIONS

after_fits : (size : ℕ) (me : ThreadId) (w : Went) → FitsAt size (after me w)
after_fits size me (went.Ends r) = tt
after_fits size me went.Waits = tt
after_fits size me went.Picks = tt
after_fits size me went.CallerDead = tt
after_fits size me went.On = tt
after_fits size me went.Again = tt
after_fits size me (went.Pushed priority) = tt

pub send_fits : (size : ℕ) (c : SendCall) (p : SendAt) → IsInRange size c.to → FitsAt size (send_at c p)
send_fits size c (send.Outside (send_outside.Ended w)) h = after_fits size c.caller w
send_fits size c (send.Outside send_outside.LoadCaller) h = h
send_fits size c (send.Outside send_outside.AcquireReceiver) h = h
send_fits size c (send.Outside (send_outside.CheckCaller r)) h = h
send_fits size c (send.Locked p) h = h
send_fits size c (send.Pushing p) h = h

pub receive_fits : (size : ℕ) (c : ReceiveCall) (p : ReceiveAt) → IfSome c.from (IsInRange size) → FitsAt size (receive_at c p)
receive_fits size c (receive.Outside (receive_outside.Ended w)) h = after_fits size c.caller w
receive_fits size c (receive.Outside receive_outside.LoadCaller) h = h
receive_fits size c (receive.Outside receive_outside.AcquireOwn) h = h
receive_fits size c (receive.Locked p) h = h
receive_fits size c (receive.Pushing p) h = h

pub create_fits : (size : ℕ) (c : CreateCall) (p : CreateAt) → FitsAt size (create_at c p)
create_fits size c (create.Outside (create_outside.Ended w)) = after_fits size c.caller w
create_fits size c (create.Outside create_outside.AcquireTable) = tt
create_fits size c (create.Locked p) = tt
create_fits size c (create.PushCreated id) = tt

pub destroy_fits : (size : ℕ) (c : DestroyCall) (p : DestroyAt) → IsInRange size c.who × (c.count ≡ size) → FitsAt size (destroy_at c p)
destroy_fits size c (destroy.Outside (destroy_outside.Ended w)) h = after_fits size c.caller w
destroy_fits size c (destroy.Outside destroy_outside.LoadOwn) h = h
destroy_fits size c (destroy.Outside destroy_outside.AcquireTable) h = h
destroy_fits size c (destroy.Locked p) h = h
destroy_fits size c (destroy.Victim p) h = h
destroy_fits size c (destroy.Visit p) h = h
destroy_fits size c destroy.UnlistVictim h = h
destroy_fits size c (destroy.Pushing p) h = h

pub begun_fits : (size : ℕ) (me : ThreadId) (f : Phase) → NamesIn size f → FitsAt size (begun_at size me f)
begun_fits size me (phase.Send to message wait joined) h = h
begun_fits size me (phase.Reply to message wait) h = h
begun_fits size me (phase.Receive from wait) h = h
begun_fits size me (phase.Create program priority) h = tt
begun_fits size me (phase.Destroy who) h = (h, refl)
begun_fits size me phase.End h = tt

looked_fits : (size : ℕ) (s : State) → FitsState size s → FitsAlone size (looked s)
looked_fits size state.Dead h = tt
looked_fits size (state.Run result4.Plain) h = tt
looked_fits size (state.Run result4.Sent) h = tt
looked_fits size (state.Run (result4.Delivered from)) h = h
looked_fits size (state.Run result4.Gone) h = tt
looked_fits size (state.Sending to joined) h = tt
looked_fits size (state.Receiving from) h = tt
looked_fits size state.Picking h = tt
looked_fits size state.Ended h = tt

-- WORDS

-- The word of an exchange names threads in range, if the word that it expects does.
abbrev pub FitsAsk : ℕ → Ask → Type 0
FitsAsk size (asks.Exchange n old new) = FitsState size old.state → FitsState size new.state
FitsAsk size a = Unit {0}

asked_fits : (size : ℕ) (b : Board) (a : Ask) (r : Response) (t : ℕ) (w : StateWord) → FitsAsk size a → FitsState size (b.seen t).word.state → IsWritten b a r t w → FitsState size w.state
asked_fits size b a r t w f h i = (subst (λ (q : Ask). FitsAsk size q) i.asked f) (subst (λ (u : StateWord). FitsState size u.state) i.was h)

pub words_fit : (size : ℕ) (g : Programs) (b : Board) (at : Position) (p : Option Point) (a : Ask) (r : Response) → Answers b a r → FitsAsk size a → ((t : ℕ) → FitsState size (b.seen t).word.state) → (t : ℕ) → FitsState size (wrote (noted g b.seen at p) a r t).word.state
words_fit size g b at p a r an f h t = elim (word_after g b at p a r an t) [
  | inl e ↦ subst (λ (u : StateWord). FitsState size u.state) (sym e) (h t)
  | inr i ↦ asked_fits size b a r t _ f (h t) i
]

passed_fits : (size : ℕ) (m : Manner) (to : ThreadId) (own : StateWord) → IsInRange size to → FitsState size (passed_word m to own).state
passed_fits size manner.Plain to own h = tt
passed_fits size manner.Joined to own h = h
passed_fits size manner.Reply to own h = tt

freed_fits : (size : ℕ) (me : ThreadId) (w : StateWord) → IsInRange size me → FitsState size (freed me w).state
freed_fits size me w h = by (is_joined_to w.state)
  where
    by : (a : Bool) → FitsState size (if a then record w { state = state.Receiving (Some me) } else record w { on = true; state = state.Run result4.Sent }).state
    by true = h
    by false = tt

pub send_asks : (size : ℕ) (c : SendCall) (own : StateWord) (p : SendAt) → IsInRange size c.caller → IsInRange size c.to → FitsAsk size (send.ask_of c own p)
send_asks size c own (send.Locked (send_locked.CommitPass w)) me to = λ h. passed_fits size c.manner c.to own to
send_asks size c own (send.Locked (send_locked.WakeReceiver w)) me to = λ h. me
send_asks size c own (send.Locked send_locked.CommitWait) me to = λ h. to
send_asks size c own (send.Locked send_locked.LoadReceiver) me to = tt
send_asks size c own (send.Locked (send_locked.StoreMail w)) me to = tt
send_asks size c own (send.Locked send_locked.ReloadReceiver) me to = tt
send_asks size c own (send.Locked (send_locked.AcquireReady priority)) me to = tt
send_asks size c own (send.Locked (send_locked.Release r)) me to = tt
send_asks size c own (send.Outside send_outside.LoadCaller) me to = tt
send_asks size c own (send.Outside send_outside.AcquireReceiver) me to = tt
send_asks size c own (send.Outside (send_outside.CheckCaller r)) me to = tt
send_asks size c own (send.Outside (send_outside.Ended w)) me to = tt
send_asks size c own (send.Pushing (send_pushing.PushReceiver priority)) me to = tt

pub receive_asks : (size : ℕ) (c : ReceiveCall) (own : StateWord) (p : ReceiveAt) → IsInRange size c.caller → IfSome c.from (IsInRange size) → FitsAsk size (receive.ask_of c own p)
receive_asks size c own (receive.Locked (receive_locked.FreeSender e w)) me from = λ h. freed_fits size c.caller w me
receive_asks size c own (receive.Locked (receive_locked.FreeNext e w)) me from = λ h. freed_fits size c.caller w me
receive_asks size c own (receive.Locked receive_locked.CommitWait) me from = λ h. from
receive_asks size c own (receive.Locked (receive_locked.CommitGone q)) me from = λ h. tt
receive_asks size c own (receive.Locked (receive_locked.EndPick e w)) me from = λ h. tt
receive_asks size c own (receive.Locked receive_locked.SettlePick) me from = λ h. tt
receive_asks size c own (receive.Locked receive_locked.LoadOwn) me from = tt
receive_asks size c own (receive.Locked (receive_locked.LoadSender e)) me from = tt
receive_asks size c own (receive.Locked (receive_locked.AcquireReady e)) me from = tt
receive_asks size c own (receive.Locked (receive_locked.LoadPartner q)) me from = tt
receive_asks size c own (receive.Locked receive_locked.LoadPicking) me from = tt
receive_asks size c own (receive.Locked (receive_locked.LoadNext e)) me from = tt
receive_asks size c own (receive.Locked (receive_locked.Release r)) me from = tt
receive_asks size c own (receive.Outside receive_outside.LoadCaller) me from = tt
receive_asks size c own (receive.Outside receive_outside.AcquireOwn) me from = tt
receive_asks size c own (receive.Outside (receive_outside.Ended w)) me from = tt
receive_asks size c own (receive.Pushing (receive_pushing.LoadFreed e)) me from = tt
receive_asks size c own (receive.Pushing (receive_pushing.PushFreed e w)) me from = tt

pub create_asks : (size : ℕ) (c : CreateCall) (own : StateWord) (p : CreateAt) → FitsAsk size (create.ask_of c own p)
create_asks size c own (create.Locked (create_locked.CommitCreate id)) = λ h. tt
create_asks size c own (create.Locked create_locked.LoadCaller) = tt
create_asks size c own (create.Locked (create_locked.PlaceContext id)) = tt
create_asks size c own (create.Locked (create_locked.AcquireReady id)) = tt
create_asks size c own (create.Locked (create_locked.Release r)) = tt
create_asks size c own (create.PushCreated id) = tt
create_asks size c own (create.Outside create_outside.AcquireTable) = tt
create_asks size c own (create.Outside (create_outside.Ended w)) = tt

pub destroy_asks : (size : ℕ) (c : DestroyCall) (own : StateWord) (p : DestroyAt) → FitsAsk size (destroy.ask_of c own p)
destroy_asks size c own (destroy.Victim (victim.CommitKill w)) = λ h. tt
destroy_asks size c own (destroy.Victim (victim.FreeSender n w)) = λ h. tt
destroy_asks size c own (destroy.Visit (visit.FreeVisited n w)) = λ h. tt
destroy_asks size c own (destroy.Victim victim.LoadVictim) = tt
destroy_asks size c own (destroy.Victim (victim.LoadSender n)) = tt
destroy_asks size c own (destroy.Victim (victim.AcquireReadyForSender n w)) = tt
destroy_asks size c own (destroy.Victim victim.ReleaseVictimLock) = tt
destroy_asks size c own (destroy.Victim (victim.ReleaseVictimLockAbsent f)) = tt
destroy_asks size c own (destroy.Visit (visit.LoadVisited n)) = tt
destroy_asks size c own (destroy.Visit (visit.AcquireReadyForVisited n w)) = tt
destroy_asks size c own (destroy.Visit (visit.ReleaseVisitedLock n)) = tt
destroy_asks size c own (destroy.Pushing (destroy_pushing.PushSender n w)) = tt
destroy_asks size c own (destroy.Pushing (destroy_pushing.PushVisited n w)) = tt
destroy_asks size c own destroy.UnlistVictim = tt
destroy_asks size c own (destroy.Outside destroy_outside.LoadOwn) = tt
destroy_asks size c own (destroy.Outside destroy_outside.AcquireTable) = tt
destroy_asks size c own (destroy.Outside (destroy_outside.Ended w)) = tt
destroy_asks size c own (destroy.Locked destroy_locked.LoadCaller) = tt
destroy_asks size c own (destroy.Locked destroy_locked.AcquireVictimLock) = tt
destroy_asks size c own (destroy.Locked destroy_locked.AcquireReadyForVictim) = tt
destroy_asks size c own (destroy.Locked destroy_locked.RemoveContext) = tt
destroy_asks size c own (destroy.Locked (destroy_locked.AcquireVisitedLock n)) = tt
destroy_asks size c own (destroy.Locked (destroy_locked.Release r)) = tt

pub alone_asks : (size : ℕ) (me : ThreadId) (own : StateWord) (p : ThreadLocation) → FitsAsk size (alone.ask_of me own p)
alone_asks size me own location.FallAsleep = λ h. h
alone_asks size me own location.CommitEnd = λ h. tt
alone_asks size me own location.LookAgain = tt
alone_asks size me own (location.LoadMail from) = tt
alone_asks size me own (location.Work count) = tt
alone_asks size me own (location.Between l) = tt
alone_asks size me own location.Asleep = tt
alone_asks size me own location.Ended = tt
alone_asks size me own location.Dead = tt

-- where a thread's own step leads
pub alone_fits : (size : ℕ) (b : Board) (i : ℕ) (own : StateWord) (p : ThreadLocation) (r : Response) → Answers b (alone.ask_of (id_at b i) own p) r → ((t : ℕ) → FitsState size (b.seen t).word.state) → FitsAlone size p → FitsAlone size (alone.leads p r)
alone_fits size b i own location.FallAsleep asks.Won an h f = tt
alone_fits size b i own location.FallAsleep (asks.Lost w) an h f = tt
alone_fits size b i own location.LookAgain (asks.Word w) an h f = looked_fits size w.state (subst (λ (u : StateWord). FitsState size u.state) an (h i))
alone_fits size b i own (location.LoadMail from) (asks.Mail m) an h f = tt
alone_fits size b i own (location.Work count) (asks.Word w) an h f = work_fits
  where
    work_fits : FitsAlone size (alone.leads (location.Work count) (asks.Word w))
    work_fits = if_cases (λ (p : ThreadLocation). FitsAlone size p) (is_dead w) location.Dead (worked count) (λ d. tt) (λ d. if_cases (λ (p : ThreadLocation). FitsAlone size p) (eqb count 1) (location.Between None) _ (λ q. tt) (λ q. tt))
alone_fits size b i own location.CommitEnd asks.Won an h f = tt
alone_fits size b i own location.CommitEnd (asks.Lost w) an h f = tt
alone_fits size b i own (location.Between l) (asks.Word w) an h f = tt
alone_fits size b i own location.Asleep (asks.Word w) an h f = tt
alone_fits size b i own location.Ended (asks.Word w) an h f = tt
alone_fits size b i own location.Dead (asks.Word w) an h f = tt
alone_fits size b i own p r an h f = absurd an
