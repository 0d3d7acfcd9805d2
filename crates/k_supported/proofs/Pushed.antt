-- A push is told only where a location pushes a thread.
use Rattle.std.proofs.Common.{◌≡◌, ℕ, Bool, true, false, refl, sym, ap, ◌∙◌, Option, arith}
use Rattle.std.specs.Prelude.{if◌then◌else◌}
use Rattle.std.proofs.lemmas.Bool.{false≢true}
use Rattle.std.proofs.lemmas.Grind.{common_steps}
use Rattle.k_ids.specs.declared.state_word.StateWord.{StateWord}
use Rattle.k_locks.specs.Asks.{Response}
use Rattle.k_locks.specs.Hands.{Hand}
use Rattle.k_locks.specs.declared.steps.Went.{Went}
use Rattle.k_locks.specs.declared.steps.Went.TheVariants as went
use Rattle.k_ipc.specs.declared.receive.ReceiveCall.{ReceiveCall}
use Rattle.k_ipc.specs.declared.send.SendCall.{SendCall}
use Rattle.k_ipc.specs.declared.send.SendPushing.TheVariants as send_pushing
use Rattle.k_ipc.specs.ReceiveTable.{ReceiveAt}
use Rattle.k_ipc.specs.ReceiveTable as receive
use Rattle.k_ipc.specs.SendTable.{SendAt}
use Rattle.k_ipc.specs.SendTable as send
use Rattle.k_threads.specs.declared.create.CreateCall.{CreateCall}
use Rattle.k_threads.specs.declared.destroy.DestroyCall.{DestroyCall}
use Rattle.k_threads.specs.CreateTable.{CreateAt}
use Rattle.k_threads.specs.CreateTable as create
use Rattle.k_threads.specs.DestroyTable.{DestroyAt}
use Rattle.k_threads.specs.DestroyTable as destroy
use Rattle.k_ids.specs.declared.threads.ThreadId.{ThreadId}
use Rattle.k_locks.specs.Steps.{is_again}
use Rattle.k_locks.specs.declared.steps.Answer.{Answer}
use Rattle.k_ipc.specs.declared.send.SendLocation.{SendLocation}
use Rattle.k_ipc.specs.declared.receive.ReceiveLocation.{ReceiveLocation}
use Rattle.k_ipc.proofs.ReceiveLaws as receive_laws
use Rattle.k_ipc.proofs.SendLaws as send_laws
use Rattle.k_threads.specs.declared.create.CreateLocation.{CreateLocation}
use Rattle.k_threads.specs.declared.create.CreateLocation.TheVariants as create_location
use Rattle.k_threads.specs.declared.create.CreateLocked.TheVariants as create_locked
use Rattle.k_threads.specs.declared.destroy.DestroyLocation.{DestroyLocation}
use Rattle.k_threads.specs.declared.destroy.DestroyLocation.TheVariants as destroy_location
use Rattle.k_threads.specs.declared.destroy.DestroyLocked.TheVariants as destroy_locked
use Rattle.k_threads.specs.declared.destroy.DestroyVictim.TheVariants as victim
use Rattle.k_threads.specs.declared.destroy.DestroyVisit.TheVariants as visit
use Rattle.k_caller.specs.declared.activity.Activity.{Activity}
use Rattle.k_caller.specs.declared.activity.Activity.TheVariants as activity
use Rattle.k_caller.specs.declared.ran.Ran.{Ran}
use Rattle.k_caller.specs.declared.ran.Ran.TheVariants as ran
use Rattle.k_caller.specs.declared.thread.ThreadLocation.{ThreadLocation}
use Rattle.k_caller.specs.Activities as activities
use Rattle.k_caller.specs.Threads.{ThreadSeen, asked, ran_of}
use Rattle.k_caller.specs.Waits as alone
use Rattle.k_switch.specs.declared.goal.Goal.{Goal}
use Rattle.k_places.specs.Contexts.{at_in}
use Rattle.k_moves.specs.Told.{above_by}
use Rattle.k_owed.specs.Owed.{is_some_push, pushes_at}

send_pushes : (c : SendCall) (h : Hand) (p : SendAt) (r : Response) (q : ℕ) → send.is_open p ≡ true →
    send.went_of c h p r ≡ went.Pushed q → is_some_push (send.pushed_at p) ≡ true
send_pushes c h (send.Pushing (send_pushing.PushReceiver priority)) r q o e = refl
send_pushes c h (send.Outside p) r q o e = grind (arith, common_steps, o, e)
send_pushes c h (send.Locked p) r q o e = grind (arith, common_steps, o, e)

create_pushes : (c : CreateCall) (h : Hand) (p : CreateAt) (r : Response) (q : ℕ) → create.is_open p ≡ true →
    create.went_of c h p r ≡ went.Pushed q → is_some_push (create.pushed_at c p) ≡ true
create_pushes c h (create.PushCreated id) r q o e = refl
create_pushes c h (create.Outside p) r q o e = grind (arith, common_steps, o, e)
create_pushes c h (create.Locked p) r q o e = grind (arith, common_steps, o, e)

receive_pushes : (c : ReceiveCall) (h : Hand) (p : ReceiveAt) (r : Response) (q : ℕ) → receive.is_open p ≡ true →
    receive.went_of c h p r ≡ went.Pushed q → is_some_push (receive.pushed_at p) ≡ true
receive_pushes c h (receive.Pushing p) r q o f = grind (arith, common_steps, o, f)
receive_pushes c h (receive.Outside p) r q o f = grind (arith, common_steps, o, f)
receive_pushes c h (receive.Locked p) r q o f = grind (arith, common_steps, o, f)

destroy_pushes : (c : DestroyCall) (h : Hand) (p : DestroyAt) (r : Response) (q : ℕ) → destroy.is_open p ≡ true →
    destroy.went_of c h p r ≡ went.Pushed q → is_some_push (destroy.pushed_at c p) ≡ true
destroy_pushes c h (destroy.Pushing p) r q o e = grind (arith, common_steps, o, e)
destroy_pushes c h (destroy.Outside p) r q o e = grind (arith, common_steps, o, e)
destroy_pushes c h (destroy.Locked p) r q o e = grind (arith, common_steps, o, e)
destroy_pushes c h (destroy.Victim p) r q o e = grind (arith, common_steps, o, e)
destroy_pushes c h (destroy.Visit p) r q o e = grind (arith, common_steps, o, e)
destroy_pushes c h destroy.UnlistVictim r q o e = grind (arith, common_steps, o, e)

-- WHERE A STEP CAN BE ASKED FOR, the section is open

send_opens : (l : SendLocation) → send.can_ask l ≡ true → send.is_open (send.at_of l) ≡ true
send_opens l e = grind (arith, common_steps, e)

receive_opens : (l : ReceiveLocation) → receive.can_ask l ≡ true → receive.is_open (receive.at_of l) ≡ true
receive_opens l e = grind (arith, common_steps, e)

create_opens : (l : CreateLocation) → create.can_ask l ≡ true → create.is_open (create.at_of l) ≡ true
create_opens l e = grind (arith, common_steps, e)

destroy_opens : (l : DestroyLocation) → destroy.can_ask l ≡ true → destroy.is_open (destroy.at_of l) ≡ true
destroy_opens l e = grind (arith, common_steps, e)

create_asked : (l : CreateLocation) → create.at_of (create.asked_location l) ≡ create.at_of l
create_asked (create_location.Outside p) = refl
create_asked (create_location.Locked create_locked.LoadCaller numbers) = refl
create_asked (create_location.Locked (create_locked.PlaceContext id) numbers) = refl
create_asked (create_location.Locked (create_locked.CommitCreate id) numbers) = refl
create_asked (create_location.Locked (create_locked.AcquireReady id) numbers) = refl
create_asked (create_location.Locked (create_locked.Release r) numbers) = refl
create_asked (create_location.PushCreated id numbers lists) = refl
create_asked (create_location.ListsReturned id numbers) = refl
create_asked (create_location.NumbersReturned r) = refl

destroy_asked : (l : DestroyLocation) → destroy.at_of (destroy.asked_location l) ≡ destroy.at_of l
destroy_asked (destroy_location.Outside p) = refl
destroy_asked (destroy_location.Locked (destroy_locked.Release r) numbers) = refl
destroy_asked (destroy_location.Locked p numbers) = refl
destroy_asked (destroy_location.Victim victim.ReleaseVictimLock numbers queue) = refl
destroy_asked (destroy_location.Victim (victim.ReleaseVictimLockAbsent found) numbers queue) = refl
destroy_asked (destroy_location.Victim p numbers queue) = refl
destroy_asked (destroy_location.Visit (visit.ReleaseVisitedLock n) numbers queue) = refl
destroy_asked (destroy_location.Visit p numbers queue) = refl
destroy_asked (destroy_location.UnlistVictim numbers lists) = refl
destroy_asked (destroy_location.Pushing p numbers queue lists) = refl
destroy_asked (destroy_location.Returned r) = refl

-- A THREAD

after_pushes : (serial : ℕ) (w : Went) (q : ℕ) → activities.ran_after serial w ≡ ran.Pushed q → w ≡ went.Pushed q
after_pushes serial (went.Pushed p) q e = cc
after_pushes serial went.On q e = absurd cc
after_pushes serial went.Again q e = absurd cc
after_pushes serial went.Waits q e = absurd cc
after_pushes serial (went.Ends r) q e = absurd cc
after_pushes serial went.CallerDead q e = absurd cc
after_pushes serial went.Picks q e = absurd cc

alone_pushes : (serial : ℕ) (p : ThreadLocation) (q : ℕ) → alone.ran_to serial p ≡ ran.Pushed q → ⊥
alone_pushes serial p q e = grind (arith, common_steps, e)

module _ (serial : ℕ) (me : ThreadId) (own : StateWord) (x : Answer) (q : ℕ) where
  thread_pushes : (a : Activity) → activities.can_ask a ≡ true →
      activities.ran_at serial me own (activities.asked_activity a) x ≡ ran.Pushed q → pushes_at (at_in a) ≡ true
  thread_pushes (activity.Alone p) can e = absurd (alone_pushes serial _ q e)
  thread_pushes (activity.Send s) can e =
      let same = send_laws.asked_at s.location in
      ap (λ p. is_some_push (send.pushed_at p)) (sym same)
      ∙ send_pushes s.call (send.hand_of (send.asked_location s.location)) (send.at_of (send.asked_location s.location)) _ q
      (ap send.is_open same ∙ send_opens s.location can) (after_pushes serial _ q e)
  thread_pushes (activity.Receive s) can e =
      let same = receive_laws.asked_at s.location in
      ap (λ p. is_some_push (receive.pushed_at p)) (sym same)
      ∙ receive_pushes s.call (receive.hand_of (receive.asked_location s.location))
      (receive.at_of (receive.asked_location s.location)) _ q (ap receive.is_open same ∙ receive_opens s.location can)
      (after_pushes serial _ q e)
  thread_pushes (activity.Create s) can e =
      let same = create_asked s.location in
      ap (λ p. is_some_push (create.pushed_at s.call p)) (sym same)
      ∙ create_pushes s.call (create.hand_of (create.asked_location s.location))
      (create.at_of (create.asked_location s.location)) _ q (ap create.is_open same ∙ create_opens s.location can)
      (after_pushes serial _ q e)
  thread_pushes (activity.Destroy s) can e =
      let same = destroy_asked s.location in
      ap (λ p. is_some_push (destroy.pushed_at s.call p)) (sym same)
      ∙ destroy_pushes s.call (destroy.hand_of (destroy.asked_location s.location))
      (destroy.at_of (destroy.asked_location s.location)) _ q (ap destroy.is_open same ∙ destroy_opens s.location can)
      (after_pushes serial _ q e)

  again_pushes : (b : Bool) (r : Ran) → (if b then ran.Again else r) ≡ ran.Pushed q → r ≡ ran.Pushed q
  again_pushes true r e = absurd cc
  again_pushes false r e = e

-- who is above the goal was pushed
above_pushed : (goal : Option Goal) (r : Ran) → above_by goal r ≡ true → (q : ℕ) × (r ≡ ran.Pushed q)
above_pushed goal (ran.Pushed q) e = (q, refl)
above_pushed goal ran.On e = absurd (false≢true e)
above_pushed goal ran.Again e = absurd (false≢true e)
above_pushed goal (ran.Replied serial reply) e = absurd (false≢true e)
above_pushed goal ran.Left e = absurd (false≢true e)
above_pushed goal ran.Dead e = absurd (false≢true e)

pub above_there : (t : ThreadSeen) (x : Answer) (goal : Option Goal) → activities.can_ask t.activity ≡ true →
    above_by goal (ran_of (asked t) x) ≡ true → pushes_at (at_in t.activity) ≡ true
above_there t x goal can e =
    let p = above_pushed goal (ran_of (asked t) x) e in
    thread_pushes t.serial t.id t.own x p.0 t.activity can (again_pushes t.serial t.id t.own x p.0 (is_again x) _ p.1)
