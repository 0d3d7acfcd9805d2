-- What comes of a carrier's move can be told to it.
use Rattle.std.proofs.Common.{◌≡◌, ℕ, true, refl, sym, subst, Option, Some, None, IfSome}
use Rattle.std.proofs.lemmas.Bool.{false≢true}
use Rattle.std.specs.Prelude.{option_map}
use Rattle.k_ids.specs.declared.state_word.StateWord.{StateWord}
use Rattle.k_ids.specs.declared.threads.ThreadId.{ThreadId}
use Rattle.k_ids.specs.StateWords.{IsStateSpelling, state_word_of}
use Rattle.k_locks.specs.declared.locks.WordName.TheVariants as word
use Rattle.k_locks.specs.declared.steps.Answer.{Answer}
use Rattle.k_locks.specs.declared.steps.Answer.TheVariants as answer
use Rattle.k_locks.specs.Asks.{Ask, step_for}
use Rattle.k_locks.specs.Asks as asks
use Rattle.k_locks.specs.Hands.{Hand, nothing}
use Rattle.k_locks.specs.Steps.{is_again, suits}
use Rattle.k_script.specs.Script.{Script}
use Rattle.k_ipc.specs.SendTable as send
use Rattle.k_ipc.specs.ReceiveTable as receive
use Rattle.k_ipc.proofs.SendLaws as send_laws
use Rattle.k_ipc.proofs.ReceiveLaws as receive_laws
use Rattle.k_threads.specs.declared.create.CreateLocation.{CreateLocation}
use Rattle.k_threads.specs.declared.create.CreateLocation.TheVariants as create_location
use Rattle.k_threads.specs.declared.create.CreateLocked.TheVariants as create_locked
use Rattle.k_threads.specs.CreateTable as create
use Rattle.k_threads.specs.declared.destroy.DestroyLocation.{DestroyLocation}
use Rattle.k_threads.specs.declared.destroy.DestroyLocation.TheVariants as destroy_location
use Rattle.k_threads.specs.declared.destroy.DestroyLocked.TheVariants as destroy_locked
use Rattle.k_threads.specs.declared.destroy.DestroyVictim.TheVariants as victim
use Rattle.k_threads.specs.declared.destroy.DestroyVisit.TheVariants as visit
use Rattle.k_threads.specs.DestroyTable as destroy
use Rattle.k_switch.specs.declared.carrier_context.CarrierContext.{CarrierContext}
use Rattle.k_switch.specs.declared.switch.Switch.{Switch}
use Rattle.k_switch.specs.declared.switch.SwitchCall.{SwitchCall}
use Rattle.k_switch.specs.declared.switch.SwitchLocation.{SwitchLocation}
use Rattle.k_switch.specs.declared.switch.SwitchLocation.TheVariants as switch_location
use Rattle.k_switch.specs.declared.switch.SwitchLocked.TheVariants as switch_locked
use Rattle.k_switch.specs.Carriers as own
use Rattle.k_switch.specs.Switches as switch
use Rattle.k_caller.specs.declared.activity.Activity.{Activity}
use Rattle.k_caller.specs.declared.activity.Activity.TheVariants as activity
use Rattle.k_caller.specs.declared.ran.Ran.TheVariants as ran
use Rattle.k_caller.specs.declared.thread.ThreadLocation.{ThreadLocation}
use Rattle.k_caller.specs.Activities as about
use Rattle.k_caller.specs.Activities.{IsFitAt, TellsIn, asked_activity, ran_at, step_at}
use Rattle.k_caller.specs.Threads.{ThreadSeen}
use Rattle.k_caller.specs.Threads as threads
use Rattle.k_caller.specs.Waits as alone
use Rattle.k_caller.proofs.Owned.{either}
use Rattle.k_world.specs.Worlds.{World, word_at}
use Rattle.k_board.specs.Boards.{Board}
use Rattle.k_places.specs.Shows.{ShowsBoard}
use Rattle.k_turns.specs.Spelled.{ask_in}
use Rattle.k_conditions.proofs.Answered.{EachAnswer, answer_in, each_answer}
use Rattle.k_conditions.proofs.Fits.{AloneFine, CreateFine, DestroyFine, IsFitAlone, ReceiveFine, SendFine}
use Rattle.k_conditions.proofs.Fits.{alone_fine, create_fine, destroy_fine, receive_fine, send_fine}
use Rattle.k_conditions.proofs.Inside.{IsInside}
use Rattle.k_conditions.proofs.Knows.{Knows}

-- A SECTION THAT WAS ASKED stands where it stood

pub create_asked_at : (l : CreateLocation) → create.at_of (create.asked_location l) ≡ create.at_of l
create_asked_at (create_location.Outside p) = refl
create_asked_at (create_location.Locked create_locked.LoadCaller numbers) = refl
create_asked_at (create_location.Locked (create_locked.PlaceContext id) numbers) = refl
create_asked_at (create_location.Locked (create_locked.CommitCreate id) numbers) = refl
create_asked_at (create_location.Locked (create_locked.AcquireReady id) numbers) = refl
create_asked_at (create_location.Locked (create_locked.Release r) numbers) = refl
create_asked_at (create_location.PushCreated id numbers lists) = refl
create_asked_at (create_location.ListsReturned id numbers) = refl
create_asked_at (create_location.NumbersReturned r) = refl

pub destroy_asked_at : (l : DestroyLocation) → destroy.at_of (destroy.asked_location l) ≡ destroy.at_of l
destroy_asked_at (destroy_location.Outside p) = refl
destroy_asked_at (destroy_location.Locked destroy_locked.LoadCaller numbers) = refl
destroy_asked_at (destroy_location.Locked destroy_locked.AcquireVictimLock numbers) = refl
destroy_asked_at (destroy_location.Locked destroy_locked.AcquireReadyForVictim numbers) = refl
destroy_asked_at (destroy_location.Locked destroy_locked.RemoveContext numbers) = refl
destroy_asked_at (destroy_location.Locked (destroy_locked.AcquireVisitedLock visited) numbers) = refl
destroy_asked_at (destroy_location.Locked (destroy_locked.Release r) numbers) = refl
destroy_asked_at (destroy_location.Victim victim.LoadVictim numbers q) = refl
destroy_asked_at (destroy_location.Victim (victim.CommitKill seen) numbers q) = refl
destroy_asked_at (destroy_location.Victim (victim.LoadSender sender) numbers q) = refl
destroy_asked_at (destroy_location.Victim (victim.FreeSender sender seen) numbers q) = refl
destroy_asked_at (destroy_location.Victim (victim.AcquireReadyForSender sender seen) numbers q) = refl
destroy_asked_at (destroy_location.Victim victim.ReleaseVictimLock numbers q) = refl
destroy_asked_at (destroy_location.Victim (victim.ReleaseVictimLockAbsent found) numbers q) = refl
destroy_asked_at (destroy_location.Visit (visit.LoadVisited visited) numbers q) = refl
destroy_asked_at (destroy_location.Visit (visit.FreeVisited visited seen) numbers q) = refl
destroy_asked_at (destroy_location.Visit (visit.AcquireReadyForVisited visited seen) numbers q) = refl
destroy_asked_at (destroy_location.Visit (visit.ReleaseVisitedLock visited) numbers q) = refl
destroy_asked_at (destroy_location.UnlistVictim numbers lists) = refl
destroy_asked_at (destroy_location.Pushing p numbers q lists) = refl
destroy_asked_at (destroy_location.Returned r) = refl

switch_asked_ask : (c : SwitchCall) (l : SwitchLocation) →
    switch.ask_of c (switch.at_of (switch.asked_location c l)) ≡ switch.ask_of c (switch.at_of l)
switch_asked_ask c switch_location.AcquireReady = refl
switch_asked_ask c (switch_location.Locked (switch_locked.LoadGoal goal) lists) = refl
switch_asked_ask c (switch_location.Locked (switch_locked.LoadStart back n) lists) = refl
switch_asked_ask c (switch_location.Locked (switch_locked.ReleaseReady back started) lists) = refl
switch_asked_ask c (switch_location.ListsReturned s) = refl
switch_asked_ask c (switch_location.Finished s) = refl

-- WHAT FITS A THREAD that was asked

record ActivityFine (table serial : ℕ) (me : ThreadId) (own : StateWord) (x : Answer) (a : Activity) : Type 0
  where
    pub suiting : suits (step_at me own a) x ≡ true
    pub fit : IsFitAt me own a x
    pub tells : TellsIn table (ran_at serial me own a x)

alone_fit : (me : ThreadId) (own : StateWord) (p : ThreadLocation) (x : Answer) → IsFitAlone me own p x →
    IsFitAt me own (activity.Alone p) x
alone_fit me own p (answer.Told t) fit = fit
alone_fit me own p (answer.Got g) fit = absurd fit

module _ (script : Script) (w : World) (b : Board) (sh : ShowsBoard script w b) (spelled : (n : ℕ) →
    IsStateSpelling (word_at w (word.State n)))
    (same : (n : ℕ) → (b.seen n).word ≡ state_word_of (word_at w (word.State n))) (table : ℕ) where
  activity_fine : (serial : ℕ) (me : ThreadId) (own : StateWord) (a : Activity) → about.can_ask a ≡ true →
      Knows b table me a → IsInside b.size (ask_in me own a) →
      ActivityFine table serial me own (answer_in w (step_at me own a)) (asked_activity a)
  activity_fine serial me own (activity.Alone p) can knows is =
      let x = answer_in w (step_for (alone.ask_of me own p) nothing) in
      let fine : AloneFine table serial me own x p =
      each_answer script w b sh (λ y. AloneFine table serial me own y p) (alone.ask_of me own p) nothing
      is
      (alone_fine w b spelled same table serial me own p can knows) in
      record { suiting = fine.suiting; fit = alone_fit me own p x fine.fit; tells = fine.tells }
  activity_fine serial me own (activity.Send s) can knows is =
      let p = send.at_of s.location in
      let g = send.hand_after s.call (send.hand_of s.location) p asks.Released in
      let x = answer_in w (step_for (send.ask_of s.call s.own p) g) in
      let here : SendFine table serial s.call s.own x p =
      each_answer script w b sh (λ y. SendFine table serial s.call s.own y p) (send.ask_of s.call s.own p)
      g is
      (send_fine w b spelled same table serial s.call s.own p knows) in
      let fine = subst (SendFine table serial s.call s.own x) (sym (send_laws.asked_at s.location)) here in
      record {
        suiting = fine.suiting _;
        fit = fine.fit;
        tells = fine.tells (send.hand_of (send.asked s).location);
      }
  activity_fine serial me own (activity.Receive s) can knows is =
      let p = receive.at_of s.location in
      let g = receive.hand_after s.call (receive.hand_of s.location) p asks.Released in
      let x = answer_in w (step_for (receive.ask_of s.call s.own p) g) in
      let here : ReceiveFine table serial s.call s.own x p =
      each_answer script w b sh (λ y. ReceiveFine table serial s.call s.own y p)
      (receive.ask_of s.call s.own p) g is
      (receive_fine w b spelled same table serial s.call s.own p knows) in
      let fine = subst (ReceiveFine table serial s.call s.own x) (sym (receive_laws.asked_at s.location))
      here in
      record {
        suiting = fine.suiting _;
        fit = fine.fit;
        tells = fine.tells (receive.hand_of (receive.asked s).location);
      }
  activity_fine serial me own (activity.Create s) can knows is =
      let p = create.at_of s.location in
      let g = create.hand_after s.call (create.hand_of s.location) p asks.Released in
      let x = answer_in w (step_for (create.ask_of s.call s.own p) g) in
      let here : CreateFine table serial s.call s.own x p =
      each_answer script w b sh (λ y. CreateFine table serial s.call s.own y p)
      (create.ask_of s.call s.own p) g is
      (create_fine w b spelled same table serial s.call s.own p knows) in
      let fine = subst (CreateFine table serial s.call s.own x) (sym (create_asked_at s.location)) here in
      record {
        suiting = fine.suiting _;
        fit = fine.fit;
        tells = fine.tells (create.hand_of (create.asked s).location);
      }
  activity_fine serial me own (activity.Destroy s) can knows is =
      let p = destroy.at_of s.location in
      let g = destroy.hand_after s.call (destroy.hand_of s.location) p asks.Released in
      let x = answer_in w (step_for (destroy.ask_of s.call s.own p) g) in
      let here : DestroyFine table serial s.call s.own x p =
      each_answer script w b sh (λ y. DestroyFine table serial s.call s.own y p)
      (destroy.ask_of s.call s.own p) g is
      (destroy_fine w b spelled same table serial s.call s.own p knows) in
      let fine = subst (DestroyFine table serial s.call s.own x) (sym (destroy_asked_at s.location)) here in
      record {
        suiting = fine.suiting _;
        fit = fine.fit;
        tells = fine.tells (destroy.hand_of (destroy.asked s).location);
      }

  -- of a thread
  pub thread_fine : (t : ThreadSeen) → script.table ≡ table → about.can_ask t.activity ≡ true →
      Knows b table t.id t.activity → IsInside b.size (ask_in t.id t.own t.activity) →
      (suits (threads.step_of (threads.asked t)) (answer_in w (threads.step_of t)) ≡ true) × threads.IsFit
      script (threads.asked t) (answer_in w (threads.step_of t))
  thread_fine t size can knows is =
      let x = answer_in w (threads.step_of t) in
      let fine = activity_fine t.serial t.id t.own t.activity can knows is in (
        fine.suiting,
        record {
          told = fine.fit;
          tells = subst (λ n. TellsIn n (threads.ran_of (threads.asked t) x)) (sym size)
              (either (TellsIn table) (is_again x) ran.Again
              (ran_at t.serial t.id t.own (asked_activity t.activity) x) tt fine.tells);
        },
      )

  -- WHAT FITS A SWITCH that was asked

  record SwitchFine (x : Answer) (a : Ask) : Type 0 where
    pub suiting : (g : Hand) → suits (step_for a g) x ≡ true
    pub fit : switch.IsFit x

  each_switch : (c : SwitchCall) (p : switch.SwitchAt) →
      EachAnswer w b (switch.ask_of c p) (λ x. SwitchFine x (switch.ask_of c p))
  each_switch c switch.AcquireReady =
      (record { suiting = λ g. refl; fit = tt }, λ owner e. record { suiting = λ g. refl; fit = tt })
  each_switch c (switch.Locked (switch_locked.LoadGoal goal)) =
      record { suiting = λ g. refl; fit = spelled goal.id.number }
  each_switch c (switch.Locked (switch_locked.LoadStart back n)) =
      record { suiting = λ g. refl; fit = spelled n }
  each_switch c (switch.Locked (switch_locked.ReleaseReady back started)) =
      record { suiting = λ g. refl; fit = tt }
  each_switch c (switch.Returned s) = record { suiting = λ g. refl; fit = tt }
  each_switch c (switch.Finished s) = record { suiting = λ g. refl; fit = spelled 0 }

  pub switch_fine : (k : CarrierContext) → own.can_ask k ≡ true →
      IfSome k.switch (λ s. IsInside b.size (switch.ask_of s.call (switch.at_of s.location))) →
      (suits (own.step_of (own.asked k)) (answer_in w (own.step_of k)) ≡ true) × own.IsFit (own.asked k)
      (answer_in w (own.step_of k))
  switch_fine k can is = by k.switch can is
    where
      by : (o : Option Switch) → own.can_ask_in o ≡ true →
          IfSome o (λ s. IsInside b.size (switch.ask_of s.call (switch.at_of s.location))) →
          (suits (own.step_in (option_map switch.asked o)) (answer_in w (own.step_in o)) ≡ true) ×
          switch.IsFit (answer_in w (own.step_in o))
      by None can is = absurd (false≢true can)
      by (Some s) can is =
          let p = switch.at_of s.location in
          let g = switch.hand_after s.call (switch.hand_of s.location) p asks.Released in
          let x = answer_in w (step_for (switch.ask_of s.call p) g) in
          let here : SwitchFine x (switch.ask_of s.call p) =
          each_answer script w b sh (λ y. SwitchFine y (switch.ask_of s.call p)) (switch.ask_of s.call p)
          g is (each_switch s.call p) in
          let fine = subst (SwitchFine x) (sym (switch_asked_ask s.call s.location)) here in
          (fine.suiting _, here.fit)
