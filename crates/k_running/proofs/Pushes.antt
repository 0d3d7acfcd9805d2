-- A push is told of a release that pushes alone: before it the location pushes a thread, and after it none.
use Rattle.std.proofs.Common.{◌≡◌, ℕ, Bool, true, false, refl, sym, ap, ◌∙◌, Option, Some, None}
use Rattle.std.specs.Prelude.{if◌then◌else◌}
use Rattle.k_ids.specs.declared.state_word.StateWord.{StateWord}
use Rattle.k_ids.specs.declared.threads.ThreadId.{ThreadId}
use Rattle.k_senders.specs.Entries.{sender_of}
use Rattle.k_locks.specs.Asks.{Response}
use Rattle.k_locks.specs.Asks as asks
use Rattle.k_locks.specs.Hands.{Hand}
use Rattle.k_locks.specs.Shown.{is_dead}
use Rattle.k_locks.specs.declared.locks.Lock.{Lock}
use Rattle.k_locks.specs.declared.locks.Lock.TheVariants as lock
use Rattle.k_locks.specs.declared.steps.Went.{Went}
use Rattle.k_locks.specs.declared.steps.Went.TheVariants as went
use Rattle.k_ipc.specs.declared.receive.ReceiveCall.{ReceiveCall}
use Rattle.k_ipc.specs.declared.receive.ReceiveLocked.TheVariants as receive_locked
use Rattle.k_ipc.specs.declared.receive.ReceiveOutside.TheVariants as receive_outside
use Rattle.k_ipc.specs.declared.receive.ReceivePushing.TheVariants as receive_pushing
use Rattle.k_ipc.specs.declared.receive.ReceiveRelease.TheVariants as receive_release
use Rattle.k_ipc.specs.declared.send.Manner.{Manner}
use Rattle.k_ipc.specs.declared.send.Manner.TheVariants as manner
use Rattle.k_ipc.specs.declared.send.SendCall.{SendCall}
use Rattle.k_ipc.specs.declared.send.SendLocked.TheVariants as send_locked
use Rattle.k_ipc.specs.declared.send.SendOutside.TheVariants as send_outside
use Rattle.k_ipc.specs.declared.send.SendPushing.TheVariants as send_pushing
use Rattle.k_ipc.specs.declared.send.SendRelease.TheVariants as send_release
use Rattle.k_ipc.specs.ReceiveTable.{ReceiveAt}
use Rattle.k_ipc.specs.ReceiveTable as receive
use Rattle.k_ipc.specs.SendTable.{SendAt}
use Rattle.k_ipc.specs.SendTable as send
use Rattle.k_threads.specs.declared.create.CreateCall.{CreateCall}
use Rattle.k_threads.specs.declared.create.CreateLocked.TheVariants as create_locked
use Rattle.k_threads.specs.declared.create.CreateOutside.TheVariants as create_outside
use Rattle.k_threads.specs.declared.create.CreateRelease.TheVariants as create_release
use Rattle.k_threads.specs.declared.destroy.DestroyCall.{DestroyCall}
use Rattle.k_threads.specs.declared.destroy.DestroyLocked.TheVariants as destroy_locked
use Rattle.k_threads.specs.declared.destroy.DestroyOutside.TheVariants as destroy_outside
use Rattle.k_threads.specs.declared.destroy.DestroyPushing.TheVariants as destroy_pushing
use Rattle.k_threads.specs.declared.destroy.DestroyRelease.TheVariants as destroy_release
use Rattle.k_threads.specs.declared.destroy.DestroyVictim.TheVariants as victim
use Rattle.k_threads.specs.declared.destroy.DestroyVisit.TheVariants as visit
use Rattle.k_threads.specs.CreateTable.{CreateAt}
use Rattle.k_threads.specs.CreateTable as create
use Rattle.k_threads.specs.DestroyTable.{DestroyAt}
use Rattle.k_threads.specs.DestroyTable as destroy
use Rattle.k_threads.specs.Words.{thread_at}
use Rattle.k_grants.specs.Views.{create_push, destroy_push, receive_push, send_push}

abbrev is_push : Went → Bool
is_push (went.Pushed q) = true
is_push went.On = false
is_push went.Again = false
is_push went.Waits = false
is_push (went.Ends r) = false
is_push went.CallerDead = false
is_push went.Picks = false

no_push : (again : Bool) (w : Went) (q : ℕ) → is_push w ≡ false → (if again then went.Again else w) ≡ went.Pushed q → ⊥
no_push true w q f e = absurd cc
no_push false w q f e = let no : false ≡ true = sym f ∙ ap is_push e in absurd cc

either : (b : Bool) (v w : Went) → is_push v ≡ false → is_push w ≡ false → is_push (if b then v else w) ≡ false
either true v w f g = f
either false v w f g = g

-- a location that pushes this thread, and one that pushes nobody
abbrev pub IsPut : (before after : Option ThreadId) → Type 0
IsPut before after = (who : ThreadId) × (before ≡ Some who) × (after ≡ None)

-- the response to a release
abbrev pub IsReleased : asks.Ask → Response → Type 0
IsReleased a r = (l : Lock) → a ≡ asks.Release l → r ≡ asks.Released

-- A SEND

passed_quiet : (m : Manner) → is_push (send.passed_end m) ≡ false
passed_quiet manner.Plain = refl
passed_quiet manner.Joined = refl
passed_quiet manner.Reply = refl

send_quiet : (c : SendCall) (h : Hand) (p : SendAt) (r : Response) → send.is_open p ≡ true →
    is_push (send.end_at (send.leads c h p r)) ≡ false
send_quiet c h (send.Outside send_outside.LoadCaller) (asks.Word w) o = either (is_dead w) _ _ refl refl
send_quiet c h (send.Outside send_outside.AcquireReceiver) asks.Got o = refl
send_quiet c h (send.Outside (send_outside.CheckCaller x)) (asks.Word w) o = either (is_dead w) _ _ refl refl
send_quiet c h (send.Outside (send_outside.Ended w)) r o = absurd cc
send_quiet c h (send.Locked send_locked.LoadReceiver) (asks.Word w) o = refl
send_quiet c h (send.Locked (send_locked.StoreMail w)) asks.Stored o = refl
send_quiet c h (send.Locked (send_locked.CommitPass w)) asks.Won o = refl
send_quiet c h (send.Locked (send_locked.CommitPass w)) (asks.Lost v) o = refl
send_quiet c h (send.Locked (send_locked.WakeReceiver w)) asks.Won o = refl
send_quiet c h (send.Locked (send_locked.WakeReceiver w)) (asks.Lost v) o = refl
send_quiet c h (send.Locked send_locked.ReloadReceiver) (asks.Word w) o = refl
send_quiet c h (send.Locked (send_locked.AcquireReady priority)) asks.Got o = refl
send_quiet c h (send.Locked send_locked.CommitWait) asks.Won o = refl
send_quiet c h (send.Locked send_locked.CommitWait) (asks.Lost v) o = refl
send_quiet c h (send.Locked (send_locked.Release send_release.Passed)) asks.Released o = passed_quiet c.manner
send_quiet c h (send.Locked (send_locked.Release send_release.Dead)) asks.Released o = refl
send_quiet c h (send.Locked (send_locked.Release (send_release.Refused x))) asks.Released o = refl
send_quiet c h (send.Locked (send_locked.Release send_release.Queued)) asks.Released o = refl
send_quiet c h (send.Pushing (send_pushing.PushReceiver priority)) asks.Released o = refl
send_quiet c h p r o = refl

pub send_puts : (c : SendCall) (h : Hand) (own : StateWord) (p : SendAt) (r : Response) (q : ℕ) → send.is_open p ≡ true →
    IsReleased (send.ask_of c own p) r → send.went_of c h p r ≡ went.Pushed q →
    IsPut (send_push c p) (send_push c (send.leads c h p r))
send_puts c h own (send.Pushing (send_pushing.PushReceiver priority)) r q o released e = (
  c.to,
  refl,
  ap (λ z. send_push c (send.leads c h (send.Pushing (send_pushing.PushReceiver priority)) z)) (released lock.Ready refl),
)
send_puts c h own p r q o released e =
    absurd (no_push (asks.is_again r) (send.end_at (send.leads c h p r)) q (send_quiet c h p r o) e)

-- A RECEIVE

released_quiet : (x : _) → is_push (receive.released_end x) ≡ false
released_quiet (receive_release.Taken e) = refl
released_quiet receive_release.Waits = refl
released_quiet receive_release.Delivered = refl
released_quiet receive_release.Gone = refl
released_quiet receive_release.Nobody = refl
released_quiet receive_release.Dead = refl

receive_quiet : (c : ReceiveCall) (h : Hand) (p : ReceiveAt) (r : Response) → receive.is_open p ≡ true →
    is_push (receive.end_at (receive.leads c h p r)) ≡ false
receive_quiet c h (receive.Outside receive_outside.LoadCaller) (asks.Word w) o = either (is_dead w) _ _ refl refl
receive_quiet c h (receive.Outside receive_outside.AcquireOwn) asks.Got o = refl
receive_quiet c h (receive.Outside (receive_outside.Ended w)) r o = absurd cc
receive_quiet c h (receive.Locked receive_locked.LoadOwn) (asks.Word w) o = refl
receive_quiet c h (receive.Locked (receive_locked.LoadSender e)) (asks.Word w) o = refl
receive_quiet c h (receive.Locked (receive_locked.FreeSender e w)) asks.Won o = refl
receive_quiet c h (receive.Locked (receive_locked.FreeSender e w)) (asks.Lost v) o = refl
receive_quiet c h (receive.Locked (receive_locked.AcquireReady e)) asks.Got o = refl
receive_quiet c h (receive.Pushing (receive_pushing.LoadFreed e)) (asks.Word w) o = refl
receive_quiet c h (receive.Pushing (receive_pushing.PushFreed e w)) asks.Released o = refl
receive_quiet c h (receive.Locked receive_locked.CommitWait) asks.Won o = refl
receive_quiet c h (receive.Locked (receive_locked.LoadPartner from)) (asks.Word w) o = refl
receive_quiet c h (receive.Locked (receive_locked.CommitGone from)) asks.Won o = refl
receive_quiet c h (receive.Locked receive_locked.LoadPicking) (asks.Word w) o = refl
receive_quiet c h (receive.Locked (receive_locked.LoadNext e)) (asks.Word w) o = refl
receive_quiet c h (receive.Locked (receive_locked.FreeNext e w)) asks.Won o = refl
receive_quiet c h (receive.Locked (receive_locked.FreeNext e w)) (asks.Lost v) o = refl
receive_quiet c h (receive.Locked (receive_locked.EndPick e w)) asks.Won o = refl
receive_quiet c h (receive.Locked receive_locked.SettlePick) asks.Won o = refl
receive_quiet c h (receive.Locked (receive_locked.Release x)) asks.Released o = released_quiet x
receive_quiet c h p r o = refl

pub receive_puts : (c : ReceiveCall) (h : Hand) (own : StateWord) (p : ReceiveAt) (r : Response) (q : ℕ) →
    receive.is_open p ≡ true → IsReleased (receive.ask_of c own p) r → receive.went_of c h p r ≡ went.Pushed q →
    IsPut (receive_push p) (receive_push (receive.leads c h p r))
receive_puts c h own (receive.Pushing (receive_pushing.PushFreed e w)) r q o released f = (
  sender_of e,
  refl,
  ap (λ z. receive_push (receive.leads c h (receive.Pushing (receive_pushing.PushFreed e w)) z)) (released lock.Ready refl),
)
receive_puts c h own p r q o released f =
    absurd (no_push (asks.is_again r) (receive.end_at (receive.leads c h p r)) q (receive_quiet c h p r o) f)

-- A CREATE

made_quiet : (x : _) → is_push (create.released_end x) ≡ false
made_quiet (create_release.Made id) = refl
made_quiet (create_release.Full alive worn) = refl
made_quiet create_release.Dead = refl

create_quiet : (c : CreateCall) (h : Hand) (p : CreateAt) (r : Response) → create.is_open p ≡ true →
    is_push (create.end_at (create.leads c h p r)) ≡ false
create_quiet c h (create.Outside create_outside.AcquireTable) asks.Got o = refl
create_quiet c h (create.Outside (create_outside.Ended w)) r o = absurd cc
create_quiet c h (create.Locked create_locked.LoadCaller) (asks.Word w) o = refl
create_quiet c h (create.Locked (create_locked.PlaceContext id)) asks.Placed o = refl
create_quiet c h (create.Locked (create_locked.CommitCreate id)) asks.Won o = refl
create_quiet c h (create.Locked (create_locked.AcquireReady id)) asks.Got o = refl
create_quiet c h (create.PushCreated id) asks.Released o = refl
create_quiet c h (create.Locked (create_locked.Release x)) asks.Released o = made_quiet x
create_quiet c h p r o = refl

pub create_puts : (c : CreateCall) (h : Hand) (own : StateWord) (p : CreateAt) (r : Response) (q : ℕ) → create.is_open p ≡ true →
    IsReleased (create.ask_of c own p) r → create.went_of c h p r ≡ went.Pushed q →
    IsPut (create_push p) (create_push (create.leads c h p r))
create_puts c h own (create.PushCreated id) r q o released e = (
  id,
  refl,
  ap (λ z. create_push (create.leads c h (create.PushCreated id) z)) (released lock.Ready refl),
)
create_puts c h own p r q o released e =
    absurd (no_push (asks.is_again r) (create.end_at (create.leads c h p r)) q (create_quiet c h p r o) e)

-- A DESTROY

killed_quiet : (x : _) → is_push (destroy.released_end x) ≡ false
killed_quiet destroy_release.Killed = refl
killed_quiet (destroy_release.Absent found) = refl
killed_quiet destroy_release.Dead = refl

destroy_quiet : (c : DestroyCall) (h : Hand) (p : DestroyAt) (r : Response) → destroy.is_open p ≡ true →
    is_push (destroy.end_at (destroy.leads c h p r)) ≡ false
destroy_quiet c h (destroy.Outside destroy_outside.LoadOwn) (asks.Word w) o = either (is_dead w) _ _ refl refl
destroy_quiet c h (destroy.Outside destroy_outside.AcquireTable) asks.Got o = refl
destroy_quiet c h (destroy.Outside (destroy_outside.Ended w)) r o = absurd cc
destroy_quiet c h (destroy.Locked destroy_locked.LoadCaller) (asks.Word w) o = refl
destroy_quiet c h (destroy.Locked destroy_locked.AcquireVictimLock) asks.Got o = refl
destroy_quiet c h (destroy.Locked destroy_locked.AcquireReadyForVictim) asks.Got o = refl
destroy_quiet c h (destroy.Locked destroy_locked.RemoveContext) asks.Removed o = refl
destroy_quiet c h (destroy.Locked (destroy_locked.AcquireVisitedLock n)) asks.Got o = refl
destroy_quiet c h (destroy.Locked (destroy_locked.Release x)) asks.Released o = killed_quiet x
destroy_quiet c h (destroy.Victim victim.LoadVictim) (asks.Word w) o = refl
destroy_quiet c h (destroy.Victim (victim.CommitKill seen)) asks.Won o = refl
destroy_quiet c h (destroy.Victim (victim.CommitKill seen)) (asks.Lost w) o = refl
destroy_quiet c h (destroy.Victim (victim.LoadSender n)) (asks.Word w) o = refl
destroy_quiet c h (destroy.Victim (victim.FreeSender n seen)) asks.Won o = refl
destroy_quiet c h (destroy.Victim (victim.FreeSender n seen)) (asks.Lost w) o = refl
destroy_quiet c h (destroy.Victim (victim.AcquireReadyForSender n seen)) asks.Got o = refl
destroy_quiet c h (destroy.Victim victim.ReleaseVictimLock) asks.Released o = refl
destroy_quiet c h (destroy.Victim (victim.ReleaseVictimLockAbsent found)) asks.Released o = refl
destroy_quiet c h (destroy.Visit (visit.LoadVisited n)) (asks.Word w) o = refl
destroy_quiet c h (destroy.Visit (visit.FreeVisited n seen)) asks.Won o = refl
destroy_quiet c h (destroy.Visit (visit.FreeVisited n seen)) (asks.Lost w) o = refl
destroy_quiet c h (destroy.Visit (visit.AcquireReadyForVisited n seen)) asks.Got o = refl
destroy_quiet c h (destroy.Visit (visit.ReleaseVisitedLock n)) asks.Released o = refl
destroy_quiet c h destroy.UnlistVictim asks.Released o = refl
destroy_quiet c h (destroy.Pushing (destroy_pushing.PushSender n seen)) asks.Released o = refl
destroy_quiet c h (destroy.Pushing (destroy_pushing.PushVisited n seen)) asks.Released o = refl
destroy_quiet c h p r o = refl

-- on to the next sender, who isn't freed yet
free_none : (o : Option ℕ) → destroy_push (destroy.Victim (destroy.free_number o)) ≡ None
free_none None = refl
free_none (Some n) = refl

pub destroy_puts : (c : DestroyCall) (h : Hand) (own : StateWord) (p : DestroyAt) (r : Response) (q : ℕ) →
    destroy.is_open p ≡ true → IsReleased (destroy.ask_of c own p) r → destroy.went_of c h p r ≡ went.Pushed q →
    IsPut (destroy_push p) (destroy_push (destroy.leads c h p r))
destroy_puts c h own (destroy.Pushing (destroy_pushing.PushSender n seen)) r q o released e = (
  thread_at n seen,
  refl,
  ap (λ z. destroy_push (destroy.leads c h (destroy.Pushing (destroy_pushing.PushSender n seen)) z)) (released lock.Ready refl)
      ∙ free_none _,
)
destroy_puts c h own (destroy.Pushing (destroy_pushing.PushVisited n seen)) r q o released e = (
  thread_at n seen,
  refl,
  ap (λ z. destroy_push (destroy.leads c h (destroy.Pushing (destroy_pushing.PushVisited n seen)) z)) (released lock.Ready refl),
)
destroy_puts c h own p r q o released e =
    absurd (no_push (asks.is_again r) (destroy.end_at (destroy.leads c h p r)) q (destroy_quiet c h p r o) e)
