-- A push that is told of a thread's step, and what the thread is about before and after it.
use Rattle.std.proofs.Common.{◌≡◌, ℕ, Bool, true, false, refl, sym, ap, ◌∙◌, Option, Some, None}
use Rattle.std.specs.Prelude.{if◌then◌else◌}
use Rattle.k_ids.specs.declared.threads.ThreadId.{ThreadId}
use Rattle.k_locks.specs.Asks.{Ask, Response, response_of, step_for}
use Rattle.k_locks.specs.Asks as asks
use Rattle.k_locks.specs.Hands.{Hand, hand_with}
use Rattle.k_locks.specs.Steps.{is_again}
use Rattle.k_locks.specs.declared.steps.Answer.{Answer}
use Rattle.k_locks.specs.declared.steps.Went.{Went}
use Rattle.k_locks.specs.declared.steps.Went.TheVariants as went
use Rattle.k_ipc.specs.declared.receive.ReceiveSection.{ReceiveSection}
use Rattle.k_ipc.specs.declared.send.SendSection.{SendSection}
use Rattle.k_ipc.specs.declared.send.SendLocation.{SendLocation}
use Rattle.k_ipc.specs.declared.send.SendLocation.TheVariants as send_location
use Rattle.k_ipc.specs.declared.send.SendOutside.TheVariants as send_outside
use Rattle.k_ipc.specs.declared.receive.ReceiveLocation.{ReceiveLocation}
use Rattle.k_ipc.specs.declared.receive.ReceiveLocation.TheVariants as receive_location
use Rattle.k_ipc.specs.declared.receive.ReceiveOutside.TheVariants as receive_outside
use Rattle.k_ipc.specs.ReceiveTable as receive
use Rattle.k_ipc.specs.SendTable as send
use Rattle.k_ipc.proofs.ReceiveLaws as receive_laws
use Rattle.k_ipc.proofs.SendLaws as send_laws
use Rattle.k_threads.specs.declared.create.CreateSection.{CreateSection}
use Rattle.k_threads.specs.declared.create.CreateLocation.{CreateLocation}
use Rattle.k_threads.specs.declared.create.CreateLocation.TheVariants as create_location
use Rattle.k_threads.specs.declared.destroy.DestroySection.{DestroySection}
use Rattle.k_threads.specs.declared.destroy.DestroyLocation.{DestroyLocation}
use Rattle.k_threads.specs.declared.destroy.DestroyLocation.TheVariants as destroy_location
use Rattle.k_threads.specs.declared.create.CreateLocked.TheVariants as create_locked
use Rattle.k_threads.specs.declared.destroy.DestroyLocked.TheVariants as destroy_locked
use Rattle.k_threads.specs.declared.destroy.DestroyVictim.TheVariants as victim
use Rattle.k_threads.specs.declared.destroy.DestroyVisit.TheVariants as visit
use Rattle.k_threads.specs.CreateTable as create
use Rattle.k_threads.specs.DestroyTable as destroy
use Rattle.k_caller.specs.declared.activity.Activity.{Activity}
use Rattle.k_caller.specs.declared.activity.Activity.TheVariants as activity
use Rattle.k_caller.specs.declared.ran.Ran.{Ran}
use Rattle.k_caller.specs.declared.ran.Ran.TheVariants as ran
use Rattle.k_caller.specs.declared.thread.ThreadLocation.{ThreadLocation}
use Rattle.k_caller.specs.declared.thread.ThreadLocation.TheVariants as location
use Rattle.k_caller.specs.Activities as activities
use Rattle.k_caller.specs.Threads.{ThreadSeen, asked, moved, ran_of, resumed, step_of}
use Rattle.k_caller.specs.Waits as alone
use Rattle.k_places.specs.Answers.{answer_in}
use Rattle.k_places.specs.Contexts.{at_in}
use Rattle.k_places.specs.Memory.{Memory}
use Rattle.k_grants.specs.Views.{create_push, destroy_push, look_at, receive_push, send_push}
use Rattle.k_running.proofs.Pushes.{IsPut, IsReleased, create_puts, destroy_puts, receive_puts, send_puts}

-- what comes of a release
released : (m : Memory) (a : Ask) (h : Hand) → IsReleased a (response_of (answer_in m (step_for a h)) a)
released m (asks.Release l) h k e = refl
released m (asks.Load n) h k e = absurd cc
released m (asks.LoadMail n) h k e = absurd cc
released m (asks.Post n message) h k e = absurd cc
released m (asks.Exchange n old new) h k e = absurd cc
released m (asks.Acquire l) h k e = absurd cc
released m (asks.Place id program priority) h k e = absurd cc
released m (asks.Remove id) h k e = absurd cc

-- A PUSH is told only where the section says so

after_pushes : (serial : ℕ) (w : Went) (q : ℕ) → activities.ran_after serial w ≡ ran.Pushed q → w ≡ went.Pushed q
after_pushes serial (went.Pushed p) q e = cc
after_pushes serial went.On q e = absurd cc
after_pushes serial went.Again q e = absurd cc
after_pushes serial went.Waits q e = absurd cc
after_pushes serial (went.Ends r) q e = absurd cc
after_pushes serial went.CallerDead q e = absurd cc
after_pushes serial went.Picks q e = absurd cc

alone_pushes : (serial : ℕ) (p : ThreadLocation) (q : ℕ) → alone.ran_to serial p ≡ ran.Pushed q → ⊥
alone_pushes serial (location.Between (Some r)) q e = absurd cc
alone_pushes serial (location.Between None) q e = absurd cc
alone_pushes serial location.FallAsleep q e = absurd cc
alone_pushes serial location.LookAgain q e = absurd cc
alone_pushes serial (location.LoadMail from) q e = absurd cc
alone_pushes serial (location.Work count) q e = absurd cc
alone_pushes serial location.CommitEnd q e = absurd cc
alone_pushes serial location.Asleep q e = absurd cc
alone_pushes serial location.Ended q e = absurd cc
alone_pushes serial location.Dead q e = absurd cc

-- it isn't asked for the same step again
not_again : (b : Bool) (r : Ran) (q : ℕ) → (if b then ran.Again else r) ≡ ran.Pushed q → (b ≡ false) × (r ≡ ran.Pushed q)
not_again true r q e = absurd cc
not_again false r q e = (refl, e)

-- WHERE A STEP CAN BE ASKED FOR, the section is open

send_opens : (l : SendLocation) → send.can_ask l ≡ true → send.is_open (send.at_of l) ≡ true
send_opens (send_location.Outside send_outside.LoadCaller) e = refl
send_opens (send_location.Outside send_outside.AcquireReceiver) e = refl
send_opens (send_location.Outside (send_outside.CheckCaller r)) e = refl
send_opens (send_location.Outside (send_outside.Ended w)) e = absurd cc
send_opens (send_location.Locked p queue) e = refl
send_opens (send_location.Pushing p queue lists) e = refl
send_opens (send_location.ListsReturned p queue) e = absurd cc
send_opens (send_location.QueueReturned r) e = absurd cc

receive_opens : (l : ReceiveLocation) → receive.can_ask l ≡ true → receive.is_open (receive.at_of l) ≡ true
receive_opens (receive_location.Outside receive_outside.LoadCaller) e = refl
receive_opens (receive_location.Outside receive_outside.AcquireOwn) e = refl
receive_opens (receive_location.Outside (receive_outside.Ended w)) e = absurd cc
receive_opens (receive_location.Locked p queue) e = refl
receive_opens (receive_location.Pushing p queue lists) e = refl
receive_opens (receive_location.ListsReturned x w queue) e = absurd cc
receive_opens (receive_location.QueueReturned r) e = absurd cc

create_opens : (l : CreateLocation) → create.can_ask l ≡ true → create.is_open (create.at_of l) ≡ true
create_opens (create_location.Outside p) e = e
create_opens (create_location.Locked p numbers) e = refl
create_opens (create_location.PushCreated id numbers lists) e = refl
create_opens (create_location.ListsReturned id numbers) e = absurd cc
create_opens (create_location.NumbersReturned r) e = absurd cc

destroy_opens : (l : DestroyLocation) → destroy.can_ask l ≡ true → destroy.is_open (destroy.at_of l) ≡ true
destroy_opens (destroy_location.Outside p) e = e
destroy_opens (destroy_location.Locked p numbers) e = refl
destroy_opens (destroy_location.Victim p numbers queue) e = refl
destroy_opens (destroy_location.Visit p numbers queue) e = refl
destroy_opens (destroy_location.UnlistVictim numbers lists) e = refl
destroy_opens (destroy_location.Pushing p numbers queue lists) e = refl
destroy_opens (destroy_location.Returned r) e = absurd cc

-- A LOCATION once it was asked for its step, and with what is in hand

create_with : (h : Hand) (p : create.CreateAt) → create.at_of (create.location_with h p) ≡ p
create_with h (create.Outside p) = refl
create_with h (create.Locked p) = refl
create_with h (create.PushCreated id) = refl

create_asked : (l : CreateLocation) → create.at_of (create.asked_location l) ≡ create.at_of l
create_asked (create_location.Outside p) = refl
create_asked (create_location.Locked create_locked.LoadCaller numbers) = refl
create_asked (create_location.Locked (create_locked.PlaceContext id) numbers) = refl
create_asked (create_location.Locked (create_locked.CommitCreate id) numbers) = refl
create_asked (create_location.Locked (create_locked.AcquireReady id) numbers) = refl
create_asked (create_location.Locked (create_locked.Release r) numbers) = refl
create_asked (create_location.PushCreated id numbers lists) = refl
create_asked (create_location.ListsReturned id numbers) = refl
create_asked (create_location.NumbersReturned r) = refl

destroy_with : (h : Hand) (p : destroy.DestroyAt) → destroy.at_of (destroy.location_with h p) ≡ p
destroy_with h (destroy.Outside p) = refl
destroy_with h (destroy.Locked p) = refl
destroy_with h (destroy.Victim p) = refl
destroy_with h (destroy.Visit p) = refl
destroy_with h destroy.UnlistVictim = refl
destroy_with h (destroy.Pushing p) = refl

destroy_asked : (l : DestroyLocation) → destroy.at_of (destroy.asked_location l) ≡ destroy.at_of l
destroy_asked (destroy_location.Outside p) = refl
destroy_asked (destroy_location.Locked (destroy_locked.Release r) numbers) = refl
destroy_asked (destroy_location.Locked p numbers) = refl
destroy_asked (destroy_location.Victim victim.ReleaseVictimLock numbers queue) = refl
destroy_asked (destroy_location.Victim (victim.ReleaseVictimLockAbsent found) numbers queue) = refl
destroy_asked (destroy_location.Victim p numbers queue) = refl
destroy_asked (destroy_location.Visit (visit.ReleaseVisitedLock n) numbers queue) = refl
destroy_asked (destroy_location.Visit p numbers queue) = refl
destroy_asked (destroy_location.UnlistVictim numbers lists) = refl
destroy_asked (destroy_location.Pushing p numbers queue lists) = refl
destroy_asked (destroy_location.Returned r) = refl

-- THE THREAD before its step, and after it

abbrev Push : Activity → Option ThreadId
Push a = (look_at (at_in a)).push

module _ (m : Memory) (t : ThreadSeen) where
  abbrev A : Answer
  A = answer_in m (step_of t)

  module _ (s : SendSection) (e : t.activity ≡ activity.Send s) (up : send.can_ask s.location ≡ true) where
    abbrev X : Answer
    X = answer_in m (send.step_of s)

    abbrev P : send.SendAt
    P = send.at_of s.location

    abbrev L : SendLocation
    L = send.asked_location s.location

    send_pushes_on : (q : ℕ) → is_again X ≡ false →
        send.went_of s.call (send.hand_of L) (send.at_of L) (response_of X (send.ask_of s.call s.own (send.at_of L))) ≡
        went.Pushed q → IsPut (send_push s.call P) (Push (activities.activity_after t.id t.own (activity.Send (send.asked s)) X))
    send_pushes_on q na told =
        let at = send_laws.asked_at s.location in
        let put = send_puts s.call (send.hand_of L) s.own P (response_of X (send.ask_of s.call s.own P)) q
        (send_opens s.location up) (released m (send.ask_of s.call s.own P)
        (send.hand_after s.call (send.hand_of s.location) P asks.Released))
        (sym (λ d. send.went_of s.call (send.hand_of L) (at d) (response_of X (send.ask_of s.call s.own (at d)))) ∙ told) in (
          put.0,
          put.1,
          (λ d. Push (activities.after_went t.id (if na d then send.asked s else send.moved (send.asked s) X).own
              (activity.Send (if na d then send.asked s else send.moved (send.asked s) X)) (told d)))
              ∙ ap (send_push s.call) (send_laws.at_with
              (hand_with X (send.hand_after s.call (send.hand_of L) (send.at_of L) (response_of X (send.ask_of s.call s.own (send.at_of L)))))
              (send.leads s.call (send.hand_of L) (send.at_of L) (response_of X (send.ask_of s.call s.own (send.at_of L)))))
              ∙ (λ d. send_push s.call (send.leads s.call (send.hand_of L) (at d)
              (response_of X (send.ask_of s.call s.own (at d)))))
              ∙ put.2,
        )

  module _ (s : ReceiveSection) (e : t.activity ≡ activity.Receive s) (up : receive.can_ask s.location ≡ true) where
    abbrev RX : Answer
    RX = answer_in m (receive.step_of s)

    abbrev RP : receive.ReceiveAt
    RP = receive.at_of s.location

    abbrev RL : ReceiveLocation
    RL = receive.asked_location s.location

    receive_pushes_on : (q : ℕ) → is_again RX ≡ false →
        receive.went_of s.call (receive.hand_of RL) (receive.at_of RL)
        (response_of RX (receive.ask_of s.call s.own (receive.at_of RL))) ≡ went.Pushed q →
        IsPut (receive_push RP) (Push (activities.activity_after t.id t.own (activity.Receive (receive.asked s)) RX))
    receive_pushes_on q na told =
        let at = receive_laws.asked_at s.location in
        let put = receive_puts s.call (receive.hand_of RL) s.own RP (response_of RX (receive.ask_of s.call s.own RP)) q
        (receive_opens s.location up) (released m (receive.ask_of s.call s.own RP)
        (receive.hand_after s.call (receive.hand_of s.location) RP asks.Released))
        (sym (λ d. receive.went_of s.call (receive.hand_of RL) (at d)
        (response_of RX (receive.ask_of s.call s.own (at d)))) ∙ told) in (
          put.0,
          put.1,
          (λ d. Push (activities.after_went t.id (if na d then receive.asked s else receive.moved (receive.asked s) RX).own
              (activity.Receive (if na d then receive.asked s else receive.moved (receive.asked s) RX)) (told d)))
              ∙ ap receive_push (receive_laws.at_with
              (hand_with RX (receive.hand_after s.call (receive.hand_of RL) (receive.at_of RL) (response_of RX (receive.ask_of s.call s.own (receive.at_of RL)))))
              (receive.leads s.call (receive.hand_of RL) (receive.at_of RL) (response_of RX (receive.ask_of s.call s.own (receive.at_of RL)))))
              ∙ (λ d. receive_push (receive.leads s.call (receive.hand_of RL) (at d)
              (response_of RX (receive.ask_of s.call s.own (at d)))))
              ∙ put.2,
        )

  module _ (s : CreateSection) (e : t.activity ≡ activity.Create s) (up : create.can_ask s.location ≡ true) where
    abbrev CX : Answer
    CX = answer_in m (create.step_of s)

    abbrev CP : create.CreateAt
    CP = create.at_of s.location

    abbrev CL : CreateLocation
    CL = create.asked_location s.location

    create_pushes_on : (q : ℕ) → is_again CX ≡ false →
        create.went_of s.call (create.hand_of CL) (create.at_of CL)
        (response_of CX (create.ask_of s.call s.own (create.at_of CL))) ≡ went.Pushed q →
        IsPut (create_push CP) (Push (activities.activity_after t.id t.own (activity.Create (create.asked s)) CX))
    create_pushes_on q na told =
        let at = create_asked s.location in
        let put = create_puts s.call (create.hand_of CL) s.own CP (response_of CX (create.ask_of s.call s.own CP)) q
        (create_opens s.location up) (released m (create.ask_of s.call s.own CP)
        (create.hand_after s.call (create.hand_of s.location) CP asks.Released))
        (sym (λ d. create.went_of s.call (create.hand_of CL) (at d)
        (response_of CX (create.ask_of s.call s.own (at d)))) ∙ told) in (
          put.0,
          put.1,
          (λ d. Push (activities.after_went t.id (if na d then create.asked s else create.moved (create.asked s) CX).own
              (activity.Create (if na d then create.asked s else create.moved (create.asked s) CX)) (told d)))
              ∙ ap create_push (create_with
              (hand_with CX (create.hand_after s.call (create.hand_of CL) (create.at_of CL) (response_of CX (create.ask_of s.call s.own (create.at_of CL)))))
              (create.leads s.call (create.hand_of CL) (create.at_of CL) (response_of CX (create.ask_of s.call s.own (create.at_of CL)))))
              ∙ (λ d. create_push (create.leads s.call (create.hand_of CL) (at d)
              (response_of CX (create.ask_of s.call s.own (at d)))))
              ∙ put.2,
        )

  module _ (s : DestroySection) (e : t.activity ≡ activity.Destroy s) (up : destroy.can_ask s.location ≡ true) where
    abbrev DX : Answer
    DX = answer_in m (destroy.step_of s)

    abbrev DP : destroy.DestroyAt
    DP = destroy.at_of s.location

    abbrev DL : DestroyLocation
    DL = destroy.asked_location s.location

    destroy_pushes_on : (q : ℕ) → is_again DX ≡ false →
        destroy.went_of s.call (destroy.hand_of DL) (destroy.at_of DL)
        (response_of DX (destroy.ask_of s.call s.own (destroy.at_of DL))) ≡ went.Pushed q →
        IsPut (destroy_push DP) (Push (activities.activity_after t.id t.own (activity.Destroy (destroy.asked s)) DX))
    destroy_pushes_on q na told =
        let at = destroy_asked s.location in
        let put = destroy_puts s.call (destroy.hand_of DL) s.own DP (response_of DX (destroy.ask_of s.call s.own DP)) q
        (destroy_opens s.location up) (released m (destroy.ask_of s.call s.own DP)
        (destroy.hand_after s.call (destroy.hand_of s.location) DP asks.Released))
        (sym (λ d. destroy.went_of s.call (destroy.hand_of DL) (at d)
        (response_of DX (destroy.ask_of s.call s.own (at d)))) ∙ told) in (
          put.0,
          put.1,
          (λ d. Push (activities.after_went t.id (if na d then destroy.asked s else destroy.moved (destroy.asked s) DX).own
              (activity.Destroy (if na d then destroy.asked s else destroy.moved (destroy.asked s) DX)) (told d)))
              ∙ ap destroy_push (destroy_with
              (hand_with DX (destroy.hand_after s.call (destroy.hand_of DL) (destroy.at_of DL) (response_of DX (destroy.ask_of s.call s.own (destroy.at_of DL)))))
              (destroy.leads s.call (destroy.hand_of DL) (destroy.at_of DL) (response_of DX (destroy.ask_of s.call s.own (destroy.at_of DL)))))
              ∙ (λ d. destroy_push (destroy.leads s.call (destroy.hand_of DL) (at d)
              (response_of DX (destroy.ask_of s.call s.own (at d)))))
              ∙ put.2,
        )

  -- BY WHAT THE THREAD IS ABOUT

  abbrev Goal : Activity → Type 0
  Goal a = IsPut (Push a) (Push (activities.activity_after t.id t.own (activities.asked_activity a)
      (answer_in m (activities.step_at t.id t.own a))))

  abbrev Runs : Activity → ℕ → Type 0
  Runs a q = activities.ran_at t.serial t.id t.own (activities.asked_activity a)
      (answer_in m (activities.step_at t.id t.own a)) ≡ ran.Pushed q

  abbrev Made : Activity → Type 0
  Made a = is_again (answer_in m (activities.step_at t.id t.own a)) ≡ false

  goes : (a : Activity) → t.activity ≡ a → activities.can_ask a ≡ true → Made a → (q : ℕ) → Runs a q → Goal a
  goes (activity.Alone p) e o n q r = absurd (alone_pushes t.serial _ q r)
  goes (activity.Send s) e o n q r = send_pushes_on s e o q n (after_pushes t.serial _ q r)
  goes (activity.Receive s) e o n q r = receive_pushes_on s e o q n (after_pushes t.serial _ q r)
  goes (activity.Create s) e o n q r = create_pushes_on s e o q n (after_pushes t.serial _ q r)
  goes (activity.Destroy s) e o n q r = destroy_pushes_on s e o q n (after_pushes t.serial _ q r)

  -- its push is over with the step of which it is told
  pub push_told : activities.can_ask t.activity ≡ true → (q : ℕ) → ran_of (asked t) A ≡ ran.Pushed q →
      IsPut (Push t.activity) (Push (resumed (asked t) A).activity)
  push_told up q told =
      let told_so = not_again (is_again A) _ q told in
      let h = goes t.activity refl up told_so.0 q told_so.1 in
      (h.0, h.1, (λ d. Push (if told_so.0 d then asked t else moved (asked t) A).activity) ∙ h.2)
