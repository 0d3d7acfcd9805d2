-- The points of a thread's step name threads of the table.
use Rattle.std.proofs.Common.{◌≡◌, ℕ, ◌<◌, not, refl, sym, subst, Option, Some, None}
use Rattle.k_ids.specs.declared.calls.Outcome.TheVariants as outcome
use Rattle.k_ids.specs.declared.state_word.StateWord.{StateWord}
use Rattle.k_ids.specs.declared.threads.ThreadId.{ThreadId}
use Rattle.k_model.specs.State.{takes_from}
use Rattle.k_senders.specs.declared.entries.SenderEntry.{SenderEntry}
use Rattle.k_locks.specs.declared.points.Point.{Point}
use Rattle.k_locks.specs.declared.steps.Answer.{Answer}
use Rattle.k_locks.specs.Asks.{Response, response_of}
use Rattle.k_locks.specs.Asks as asks
use Rattle.k_locks.specs.Hands.{Hand}
use Rattle.k_locks.specs.Numbers.{ThreadNumbers, lowest_free}
use Rattle.k_locks.specs.Shown.{found_in, is_dead, is_present_in, shows}
use Rattle.k_ipc.specs.Candidates.{first_admitted}
use Rattle.k_ipc.specs.declared.send.SendCall.{SendCall}
use Rattle.k_ipc.specs.declared.send.SendLocked.TheVariants as send_locked
use Rattle.k_ipc.specs.declared.send.SendOutside.TheVariants as send_outside
use Rattle.k_ipc.specs.SendTable.{SendAt}
use Rattle.k_ipc.specs.SendTable as send
use Rattle.k_ipc.specs.declared.receive.ReceiveCall.{ReceiveCall}
use Rattle.k_ipc.specs.declared.receive.ReceiveLocked.TheVariants as receive_locked
use Rattle.k_ipc.specs.declared.receive.ReceiveOutside.TheVariants as receive_outside
use Rattle.k_ipc.specs.ReceiveTable.{ReceiveAt}
use Rattle.k_ipc.specs.ReceiveTable as receive
use Rattle.k_threads.specs.declared.create.CreateCall.{CreateCall}
use Rattle.k_threads.specs.declared.create.CreateLocation.{CreateLocation}
use Rattle.k_threads.specs.declared.create.CreateLocation.TheVariants as create_location
use Rattle.k_threads.specs.declared.create.CreateLocked.TheVariants as create_locked
use Rattle.k_threads.specs.CreateTable.{CreateAt}
use Rattle.k_threads.specs.CreateTable as create
use Rattle.k_threads.specs.declared.destroy.DestroyCall.{DestroyCall}
use Rattle.k_threads.specs.declared.destroy.DestroyLocation.{DestroyLocation}
use Rattle.k_threads.specs.declared.destroy.DestroyLocation.TheVariants as destroy_location
use Rattle.k_threads.specs.declared.destroy.DestroyLocked.TheVariants as destroy_locked
use Rattle.k_threads.specs.declared.destroy.DestroyOutside.TheVariants as destroy_outside
use Rattle.k_threads.specs.declared.destroy.DestroyVictim.TheVariants as victim
use Rattle.k_threads.specs.declared.destroy.DestroyVisit.TheVariants as visit
use Rattle.k_threads.specs.DestroyTable.{DestroyAt}
use Rattle.k_threads.specs.DestroyTable as destroy
use Rattle.k_caller.specs.declared.activity.Activity.{Activity}
use Rattle.k_caller.specs.declared.activity.Activity.TheVariants as activity
use Rattle.k_caller.specs.declared.thread.ThreadLocation.{ThreadLocation}
use Rattle.k_caller.specs.declared.thread.ThreadLocation.TheVariants as location
use Rattle.k_caller.specs.Activities.{asked_activity, points_at}
use Rattle.k_caller.specs.Waits as alone
use Rattle.k_board.proofs.Cases.{if_cases}
use Rattle.k_places.specs.Fits.{IsMadeWithin}
use Rattle.k_turns.specs.Spelled.{ask_in}
use Rattle.k_within.specs.Asks.{IsAskWithin}

-- whose event it is, and which thread is made
abbrev pub IsPointWithin : ℕ → Option Point → Type 0
IsPointWithin size None = Unit {0}
IsPointWithin size (Some p) = (p.who.number < size) × IsMadeWithin size p.outcome

module _ (size : ℕ) where
  abbrev Fits : Option Point → Type 0
  Fits p = IsPointWithin size p

  refused : (c : SendCall) (w : StateWord) → c.caller.number < size → Fits (send.refusal_of c w)
  refused c w m =
      if_cases Fits (not (is_present_in w c.to)) (Some
      (send.point_of c (outcome.Absent (found_in c.to.number w)))) _ (λ e. (m, tt))
      (λ e. if_cases Fits (takes_from (shows w.state) c.caller c.zero) None _ (λ q. tt)
      (λ q. if_cases Fits c.zero (Some (send.point_of c (outcome.Busy (found_in c.to.number w)))) None
      (λ z. (m, tt)) (λ z. tt)))

  send_points : (c : SendCall) (w : StateWord) (h : Hand) (p : SendAt) (r : Response) →
      c.caller.number < size →
      Fits (send.points c w h p r)
  send_points c w h (send.Outside send_outside.LoadCaller) (asks.Word v) m =
      if_cases Fits (is_dead v) None (Some (send.point_of c outcome.Own)) (λ e. tt) (λ e. (m, tt))
  send_points c w h (send.Locked send_locked.LoadReceiver) (asks.Word v) m =
      if_cases Fits (is_dead w) None (send.refusal_of c v) (λ e. tt) (λ e. refused c v m)
  send_points c w h (send.Locked (send_locked.CommitPass v)) asks.Won m = (m, tt)
  send_points c w h (send.Locked send_locked.CommitWait) asks.Won m = (m, tt)
  send_points c w h p r m = tt

  nobody : (c : ReceiveCall) (o : Option SenderEntry) → c.caller.number < size →
      Fits (receive.nobody_left c o)
  nobody c (Some e) m = tt
  nobody c None m =
      if_cases Fits c.zero (Some (receive.point_by c (receive.act_of c) outcome.Nobody)) None (λ e. (m, tt))
      (λ e. tt)

  receive_points : (c : ReceiveCall) (w : StateWord) (h : Hand) (p : ReceiveAt) (r : Response) →
      c.caller.number < size →
      Fits (receive.points c w h p r)
  receive_points c w h (receive.Outside receive_outside.LoadCaller) (asks.Word v) m =
      if_cases Fits (is_dead v) None (Some (receive.point_by c (receive.act_of c) outcome.Own)) (λ e. tt)
      (λ e. (m, tt))
  receive_points c w h (receive.Locked receive_locked.LoadOwn) (asks.Word v) m =
      if_cases Fits (is_dead v) None (receive.nobody_left c (first_admitted c.from h.queue.entries)) (λ e. tt)
      (λ e. nobody c (first_admitted c.from h.queue.entries) m)
  receive_points c w h (receive.Locked (receive_locked.LoadSender d)) (asks.Word v) m =
      if_cases Fits (receive.still_waits c d v) None
      (receive.nobody_left c (receive.candidates_after c h d)) (λ e. tt)
      (λ e. nobody c (receive.candidates_after c h d) m)
  receive_points c w h (receive.Locked (receive_locked.FreeSender d v)) asks.Won m = (m, tt)
  receive_points c w h (receive.Locked receive_locked.CommitWait) asks.Won m = (m, tt)
  receive_points c w h (receive.Locked (receive_locked.LoadPartner from)) (asks.Word v) m =
      if_cases Fits (is_present_in v from) None _ (λ e. tt) (λ e. (m, tt))
  receive_points c w h (receive.Locked (receive_locked.FreeNext d v)) asks.Won m = (m, tt)
  receive_points c w h (receive.Locked receive_locked.SettlePick) asks.Won m = (m, tt)
  receive_points c w h p r m = tt

  full : (c : CreateCall) (numbers : ThreadNumbers) (o : Option ℕ) → c.caller.number < size →
      Fits (create.full_point c numbers o)
  full c numbers None m = (m, tt)
  full c numbers (Some n) m = tt

  create_points : (c : CreateCall) (own w : StateWord) (h : Hand) (p : CreateAt) (r : Response) →
      c.caller.number < size →
      IsAskWithin size (create.ask_of c own p) → Fits (create.points c w h p r)
  create_points c own w h (create.Locked create_locked.LoadCaller) (asks.Word v) m a =
      if_cases Fits (is_dead v) None (create.full_point c h.numbers (lowest_free h.numbers)) (λ e. tt)
      (λ e. full c h.numbers (lowest_free h.numbers) m)
  create_points c own w h (create.Locked (create_locked.CommitCreate id)) asks.Won m a = (m, a)
  create_points c own w h p r m a = tt

  destroy_points : (c : DestroyCall) (own w : StateWord) (h : Hand) (p : DestroyAt) (r : Response) →
      c.caller.number < size →
      IsAskWithin size (destroy.ask_of c own p) → Fits (destroy.points c w h p r)
  destroy_points c own w h (destroy.Outside destroy_outside.LoadOwn) (asks.Word v) m a =
      if_cases Fits (is_dead v) None (Some (destroy.point_of c outcome.Own)) (λ e. tt) (λ e. (m, tt))
  destroy_points c own w h (destroy.Victim victim.LoadVictim) (asks.Word v) m a =
      if_cases Fits (is_present_in v c.who) None (Some
      (destroy.point_of c (outcome.Absent (found_in c.who.number v))))
      (λ e. tt) (λ e. (m, tt))
  destroy_points c own w h (destroy.Victim (victim.CommitKill v)) asks.Won m a = (m, tt)
  destroy_points c own w h (destroy.Victim (victim.FreeSender n v)) asks.Won m a = (a, tt)
  destroy_points c own w h (destroy.Visit (visit.FreeVisited n v)) asks.Won m a = (a, tt)
  destroy_points c own w h p r m a = tt

  alone_points : (me : ThreadId) (p : ThreadLocation) (r : Response) → me.number < size →
      Fits (alone.points me p r)
  alone_points me location.CommitEnd asks.Won m = (m, tt)
  alone_points me p r m = tt

-- ONCE IT IS ASKED a section stands where it stood

create_asked : (l : CreateLocation) → create.at_of (create.asked_location l) ≡ create.at_of l
create_asked (create_location.Outside p) = refl
create_asked (create_location.Locked create_locked.LoadCaller numbers) = refl
create_asked (create_location.Locked (create_locked.PlaceContext id) numbers) = refl
create_asked (create_location.Locked (create_locked.CommitCreate id) numbers) = refl
create_asked (create_location.Locked (create_locked.AcquireReady id) numbers) = refl
create_asked (create_location.Locked (create_locked.Release r) numbers) = refl
create_asked (create_location.PushCreated id numbers lists) = refl
create_asked (create_location.ListsReturned id numbers) = refl
create_asked (create_location.NumbersReturned r) = refl

destroy_asked : (l : DestroyLocation) → destroy.at_of (destroy.asked_location l) ≡ destroy.at_of l
destroy_asked (destroy_location.Outside p) = refl
destroy_asked (destroy_location.Locked (destroy_locked.Release r) numbers) = refl
destroy_asked (destroy_location.Locked p numbers) = refl
destroy_asked (destroy_location.Victim victim.ReleaseVictimLock numbers queue) = refl
destroy_asked (destroy_location.Victim (victim.ReleaseVictimLockAbsent found) numbers queue) = refl
destroy_asked (destroy_location.Victim p numbers queue) = refl
destroy_asked (destroy_location.Visit (visit.ReleaseVisitedLock n) numbers queue) = refl
destroy_asked (destroy_location.Visit p numbers queue) = refl
destroy_asked (destroy_location.UnlistVictim numbers lists) = refl
destroy_asked (destroy_location.Pushing p numbers queue lists) = refl
destroy_asked (destroy_location.Returned r) = refl

-- the call that it is about is of this thread
abbrev pub CallsAs : ThreadId → Activity → Type 0
CallsAs me (activity.Alone p) = Unit {0}
CallsAs me (activity.Send s) = s.call.caller ≡ me
CallsAs me (activity.Receive s) = s.call.caller ≡ me
CallsAs me (activity.Create s) = s.call.caller ≡ me
CallsAs me (activity.Destroy s) = s.call.caller ≡ me

mine : (size : ℕ) (me caller : ThreadId) → caller ≡ me → me.number < size → caller.number < size
mine size me caller e m = subst (λ (id : ThreadId). id.number < size) (sym e) m

pub thread_points : (size : ℕ) (me : ThreadId) (own : StateWord) (a : Activity) (w : StateWord)
    (ans : Answer) →
    me.number < size → CallsAs me a → IsAskWithin size (ask_in me own a) →
    IsPointWithin size (points_at me own (asked_activity a) w ans)
thread_points size me own (activity.Alone p) w ans m calls is =
    alone_points size me p (response_of ans (alone.ask_of me own p)) m
thread_points size me own (activity.Send s) w ans m calls is =
    send_points size s.call w (send.hand_of (send.asked s).location) (send.at_of (send.asked s).location)
    (send.heard (send.asked s) ans) (mine size me s.call.caller calls m)
thread_points size me own (activity.Receive s) w ans m calls is =
    receive_points size s.call w (receive.hand_of (receive.asked s).location)
    (receive.at_of (receive.asked s).location)
    (receive.heard (receive.asked s) ans) (mine size me s.call.caller calls m)
thread_points size me own (activity.Create s) w ans m calls is =
    create_points size s.call s.own w (create.hand_of (create.asked s).location)
    (create.at_of (create.asked s).location)
    (create.heard (create.asked s) ans) (mine size me s.call.caller calls m)
    (subst (λ (p : CreateAt). IsAskWithin size (create.ask_of s.call s.own p))
    (sym (create_asked s.location)) is)
thread_points size me own (activity.Destroy s) w ans m calls is =
    destroy_points size s.call s.own w (destroy.hand_of (destroy.asked s).location)
    (destroy.at_of (destroy.asked s).location)
    (destroy.heard (destroy.asked s) ans) (mine size me s.call.caller calls m)
    (subst (λ (p : DestroyAt). IsAskWithin size (destroy.ask_of s.call s.own p))
    (sym (destroy_asked s.location)) is)
