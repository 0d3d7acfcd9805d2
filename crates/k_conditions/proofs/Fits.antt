-- What comes of a step fits where its context stands: it is an answer that the step can have, a loaded word has a spelling, and a
-- reply names threads of the table.
use Rattle.std.proofs.Common.{◌≡◌, ◌≤◌, ℕ, Bool, true, false, refl, sym, ap, ◌∙◌, subst, Some, None}
use Rattle.std.proofs.lemmas.Bool.{cond_both, false≢true}
use Rattle.std.specs.Prelude.{◌-◌, ◌==◌, if◌then◌else◌}
use Rattle.k_ids.specs.declared.calls.Reply.{Reply}
use Rattle.k_ids.specs.declared.calls.Reply.TheVariants as reply
use Rattle.k_ids.specs.declared.state_word.Result4.{Result4}
use Rattle.k_ids.specs.declared.state_word.Result4.TheVariants as result4
use Rattle.k_ids.specs.declared.state_word.State.{State}
use Rattle.k_ids.specs.declared.state_word.State.TheVariants as state
use Rattle.k_ids.specs.declared.state_word.StateWord.{StateWord}
use Rattle.k_ids.specs.declared.threads.ThreadId.{ThreadId}
use Rattle.k_ids.specs.StateWords.{IsStateSpelling, state_word_of}
use Rattle.k_senders.specs.Entries.{sender_of}
use Rattle.k_locks.specs.declared.locks.WordName.TheVariants as word
use Rattle.k_locks.specs.declared.steps.Answer.{Answer}
use Rattle.k_locks.specs.declared.steps.Answer.TheVariants as answer
use Rattle.k_locks.specs.declared.steps.Went.{Went}
use Rattle.k_locks.specs.declared.steps.Went.TheVariants as went
use Rattle.k_locks.specs.Asks.{response_of, step_for}
use Rattle.k_locks.specs.Hands.{Hand, nothing}
use Rattle.k_locks.specs.Shown.{is_dead}
use Rattle.k_locks.specs.Steps.{suits}
use Rattle.k_locks.specs.Threads.{IsThread}
use Rattle.k_script.specs.Plays.{IsInRange, TellsInRange}
use Rattle.k_ipc.specs.declared.send.Manner.{Manner}
use Rattle.k_ipc.specs.declared.send.Manner.TheVariants as manner
use Rattle.k_ipc.specs.declared.send.SendCall.{SendCall}
use Rattle.k_ipc.specs.declared.send.SendLocked.TheVariants as send_locked
use Rattle.k_ipc.specs.declared.send.SendOutside.TheVariants as send_outside
use Rattle.k_ipc.specs.declared.send.SendPushing.TheVariants as send_pushing
use Rattle.k_ipc.specs.declared.send.SendRelease.TheVariants as send_release
use Rattle.k_ipc.specs.SendTable as send
use Rattle.k_ipc.specs.declared.receive.ReceiveCall.{ReceiveCall}
use Rattle.k_ipc.specs.declared.receive.ReceiveLocked.TheVariants as receive_locked
use Rattle.k_ipc.specs.declared.receive.ReceiveOutside.TheVariants as receive_outside
use Rattle.k_ipc.specs.declared.receive.ReceivePushing.TheVariants as receive_pushing
use Rattle.k_ipc.specs.declared.receive.ReceiveRelease.TheVariants as receive_release
use Rattle.k_ipc.specs.ReceiveTable as receive
use Rattle.k_threads.specs.declared.create.CreateCall.{CreateCall}
use Rattle.k_threads.specs.declared.create.CreateLocked.TheVariants as create_locked
use Rattle.k_threads.specs.declared.create.CreateOutside.TheVariants as create_outside
use Rattle.k_threads.specs.declared.create.CreateRelease.TheVariants as create_release
use Rattle.k_threads.specs.CreateTable as create
use Rattle.k_threads.specs.declared.destroy.DestroyCall.{DestroyCall}
use Rattle.k_threads.specs.declared.destroy.DestroyLocked.TheVariants as destroy_locked
use Rattle.k_threads.specs.declared.destroy.DestroyOutside.TheVariants as destroy_outside
use Rattle.k_threads.specs.declared.destroy.DestroyPushing.TheVariants as destroy_pushing
use Rattle.k_threads.specs.declared.destroy.DestroyRelease.TheVariants as destroy_release
use Rattle.k_threads.specs.declared.destroy.DestroyVictim.TheVariants as victim
use Rattle.k_threads.specs.declared.destroy.DestroyVisit.TheVariants as visit
use Rattle.k_threads.specs.DestroyTable as destroy
use Rattle.k_caller.specs.Activities.{TellsIn, ran_after}
use Rattle.k_caller.specs.Waits.{IsWordOf, can_ask, has_way, is_waiting}
use Rattle.k_caller.specs.Waits as alone
use Rattle.k_caller.specs.declared.thread.ThreadLocation.{ThreadLocation}
use Rattle.k_caller.specs.declared.thread.ThreadLocation.TheVariants as location
use Rattle.k_caller.proofs.Owned.{either}
use Rattle.k_world.specs.Worlds.{World, word_at}
use Rattle.k_board.specs.Boards.{Board}
use Rattle.k_conditions.proofs.Answered.{EachAnswer}

-- WHAT THE BOARD SAYS of the words that a location loads, and of the reply that it is about to give

abbrev pub KnowsAlone : Board → ℕ → ThreadId → ThreadLocation → Type 0
KnowsAlone b table me location.LookAgain =
    (has_way (b.seen me.number).word.state ≡ true) × ((b.seen me.number).word.version ≡ me.version)
KnowsAlone b table me (location.LoadMail from) = IsInRange table from
KnowsAlone b table me p = Unit {0}

abbrev pub KnowsSend : Board → ℕ → SendCall → send.SendAt → Type 0
KnowsSend b table c (send.Locked send_locked.ReloadReceiver) = 1 ≤ (b.seen c.to.number).word.version
KnowsSend b table c (send.Outside (send_outside.CheckCaller r)) =
    is_dead (b.seen c.caller.number).word ≡ false → TellsInRange table (Some r)
KnowsSend b table c (send.Outside (send_outside.Ended w)) = ⊥
KnowsSend b table c p = Unit {0}

abbrev pub KnowsReceive : ℕ → receive.ReceiveAt → Type 0
KnowsReceive table (receive.Locked (receive_locked.Release (receive_release.Taken e))) =
    IsInRange table (sender_of e)
KnowsReceive table (receive.Outside (receive_outside.Ended w)) = ⊥
KnowsReceive table p = Unit {0}

abbrev pub KnowsCreate : ℕ → create.CreateAt → Type 0
KnowsCreate table (create.Locked (create_locked.Release (create_release.Made id))) = IsInRange table id
KnowsCreate table (create.Outside (create_outside.Ended w)) = ⊥
KnowsCreate table p = Unit {0}

abbrev pub KnowsDestroy : Board → destroy.DestroyAt → Type 0
KnowsDestroy b (destroy.Victim (victim.LoadSender sender)) = 1 ≤ (b.seen sender).word.version
KnowsDestroy b (destroy.Outside (destroy_outside.Ended w)) = ⊥
KnowsDestroy b p = Unit {0}

-- WHAT FITS, by the location

pub record SendFine (table serial : ℕ) (c : SendCall) (own : StateWord) (x : Answer) (p : send.SendAt) : Type
    0 where
  pub suiting : (g : Hand) → suits (step_for (send.ask_of c own p) g) x ≡ true
  pub fit : send.IsFit p x
  pub tells : (h : Hand) → TellsIn table
      (ran_after serial (send.went_of c h p (response_of x (send.ask_of c own p))))

pub record ReceiveFine (table serial : ℕ) (c : ReceiveCall) (own : StateWord) (x : Answer)
    (p : receive.ReceiveAt) : Type 0 where
  pub suiting : (g : Hand) → suits (step_for (receive.ask_of c own p) g) x ≡ true
  pub fit : receive.IsFit p x
  pub tells : (h : Hand) → TellsIn table
      (ran_after serial (receive.went_of c h p (response_of x (receive.ask_of c own p))))

pub record CreateFine (table serial : ℕ) (c : CreateCall) (own : StateWord) (x : Answer)
    (p : create.CreateAt) : Type 0 where
  pub suiting : (g : Hand) → suits (step_for (create.ask_of c own p) g) x ≡ true
  pub fit : create.IsFit p x
  pub tells : (h : Hand) → TellsIn table
      (ran_after serial (create.went_of c h p (response_of x (create.ask_of c own p))))

pub record DestroyFine (table serial : ℕ) (c : DestroyCall) (own : StateWord) (x : Answer)
    (p : destroy.DestroyAt) : Type 0 where
  pub suiting : (g : Hand) → suits (step_for (destroy.ask_of c own p) g) x ≡ true
  pub fit : destroy.IsFit p x
  pub tells : (h : Hand) → TellsIn table
      (ran_after serial (destroy.went_of c h p (response_of x (destroy.ask_of c own p))))

abbrev pub IsFitAlone : ThreadId → StateWord → ThreadLocation → Answer → Type 0
IsFitAlone me own p (answer.Told t) = alone.IsAnswer me own p t
IsFitAlone me own p (answer.Got g) = ⊥

pub record AloneFine (table serial : ℕ) (me : ThreadId) (own : StateWord) (x : Answer)
    (p : ThreadLocation) : Type 0 where
  pub suiting : suits (step_for (alone.ask_of me own p) nothing) x ≡ true
  pub fit : IsFitAlone me own p x
  pub tells : TellsIn table (alone.ran_of serial p (response_of x (alone.ask_of me own p)))

module _ (w : World) (b : Board) (spelled : (n : ℕ) → IsStateSpelling (word_at w (word.State n)))
    (same : (n : ℕ) → (b.seen n).word ≡ state_word_of (word_at w (word.State n))) (table serial : ℕ) where
  abbrev Found : ℕ → StateWord
  Found n = state_word_of (word_at w (word.State n))

  found_thread : (n : ℕ) → 1 ≤ (b.seen n).word.version → IsThread (Found n)
  found_thread n some = record {
    whole = (spelled n).whole;
    born = subst (λ (v : StateWord). 1 ≤ v.version)
        (same n) some;
  }

  -- whether the caller is still there
  alive_tells : (v : StateWord) (r : Reply) → (is_dead v ≡ false → TellsInRange table (Some r)) →
      TellsIn table (ran_after serial (if is_dead v then went.CallerDead else went.Ends r))
  alive_tells v r told = cond_both (is_dead v) went.CallerDead (went.Ends r)
      (λ (e : Went). TellsIn table (ran_after serial e)) (λ e. tt) (λ e. told e)

  -- A SEND

  passed_tells : (m : Manner) → TellsIn table (ran_after serial (send.passed_end m))
  passed_tells manner.Plain = tt
  passed_tells manner.Joined = tt
  passed_tells manner.Reply = tt

  pub send_fine : (c : SendCall) (own : StateWord) (p : send.SendAt) → KnowsSend b table c p →
      EachAnswer w b (send.ask_of c own p) (λ x. SendFine table serial c own x p)
  send_fine c own (send.Outside send_outside.LoadCaller) knows =
      record {
        suiting = λ g. refl;
        fit = spelled c.caller.number;
        tells = λ h. alive_tells (Found c.caller.number) reply.Own (λ e. tt);
      }
  send_fine c own (send.Outside send_outside.AcquireReceiver) knows = (
    record { suiting = λ g. refl; fit = tt; tells = λ h. tt },
    λ owner e. record {
      suiting = λ g. refl;
      fit = tt;
      tells = λ h. tt;
    },
  )
  send_fine c own (send.Outside (send_outside.CheckCaller r)) knows = record {
    suiting = λ g. refl;
    fit = spelled c.caller.number;
    tells = λ h. alive_tells (Found c.caller.number) r (λ e. knows (ap is_dead (same c.caller.number) ∙ e));
  }
  send_fine c own (send.Outside (send_outside.Ended v)) knows = absurd knows
  send_fine c own (send.Locked send_locked.LoadReceiver) knows =
      record { suiting = λ g. refl; fit = spelled c.to.number; tells = λ h. tt }
  send_fine c own (send.Locked (send_locked.StoreMail v)) knows =
      record { suiting = λ g. refl; fit = tt; tells = λ h. tt }
  send_fine c own (send.Locked (send_locked.CommitPass v)) knows = (
    record { suiting = λ g. refl; fit = tt; tells = λ h. tt },
    λ bits. record {
      suiting = λ g. refl;
      fit = tt;
      tells = λ h. tt;
    },
  )
  send_fine c own (send.Locked (send_locked.WakeReceiver v)) knows = (
    record { suiting = λ g. refl; fit = tt; tells = λ h. tt },
    λ bits. record {
      suiting = λ g. refl;
      fit = tt;
      tells = λ h. tt;
    },
  )
  send_fine c own (send.Locked send_locked.ReloadReceiver) knows =
      record {
        suiting = λ g. refl;
        fit = (spelled c.to.number, found_thread c.to.number knows);
        tells = λ h. tt;
      }
  send_fine c own (send.Locked (send_locked.AcquireReady priority)) knows = (
    record { suiting = λ g. refl; fit = tt; tells = λ h. tt },
    λ owner e. record {
      suiting = λ g. refl;
      fit = tt;
      tells = λ h. tt;
    },
  )
  send_fine c own (send.Locked send_locked.CommitWait) knows = (
    record { suiting = λ g. refl; fit = tt; tells = λ h. tt },
    λ bits. record {
      suiting = λ g. refl;
      fit = tt;
      tells = λ h. tt;
    },
  )
  send_fine c own (send.Locked (send_locked.Release send_release.Passed)) knows =
      record { suiting = λ g. refl; fit = tt; tells = λ h. passed_tells c.manner }
  send_fine c own (send.Locked (send_locked.Release send_release.Dead)) knows =
      record { suiting = λ g. refl; fit = tt; tells = λ h. tt }
  send_fine c own (send.Locked (send_locked.Release (send_release.Refused r))) knows =
      record { suiting = λ g. refl; fit = tt; tells = λ h. tt }
  send_fine c own (send.Locked (send_locked.Release send_release.Queued)) knows =
      record { suiting = λ g. refl; fit = tt; tells = λ h. tt }
  send_fine c own (send.Pushing (send_pushing.PushReceiver priority)) knows =
      record { suiting = λ g. refl; fit = tt; tells = λ h. tt }

  -- A RECEIVE

  pub receive_fine : (c : ReceiveCall) (own : StateWord) (p : receive.ReceiveAt) → KnowsReceive table p →
      EachAnswer w b (receive.ask_of c own p) (λ x. ReceiveFine table serial c own x p)
  receive_fine c own (receive.Outside receive_outside.LoadCaller) knows =
      record {
        suiting = λ g. refl;
        fit = spelled c.caller.number;
        tells = λ h. alive_tells (Found c.caller.number) reply.Own (λ e. tt);
      }
  receive_fine c own (receive.Outside receive_outside.AcquireOwn) knows = (
    record { suiting = λ g. refl; fit = tt; tells = λ h. tt },
    λ owner e. record {
      suiting = λ g. refl;
      fit = tt;
      tells = λ h. tt;
    },
  )
  receive_fine c own (receive.Outside (receive_outside.Ended v)) knows = absurd knows
  receive_fine c own (receive.Locked receive_locked.LoadOwn) knows =
      record { suiting = λ g. refl; fit = spelled _; tells = λ h. tt }
  receive_fine c own (receive.Locked (receive_locked.LoadSender e)) knows =
      record { suiting = λ g. refl; fit = spelled _; tells = λ h. tt }
  receive_fine c own (receive.Locked (receive_locked.FreeSender e v)) knows = (
    record { suiting = λ g. refl; fit = tt; tells = λ h. tt },
    λ bits. record {
      suiting = λ g. refl;
      fit = tt;
      tells = λ h. tt;
    },
  )
  receive_fine c own (receive.Locked (receive_locked.AcquireReady e)) knows = (
    record { suiting = λ g. refl; fit = tt; tells = λ h. tt },
    λ owner q. record {
      suiting = λ g. refl;
      fit = tt;
      tells = λ h. tt;
    },
  )
  receive_fine c own (receive.Locked receive_locked.CommitWait) knows = (
    record { suiting = λ g. refl; fit = tt; tells = λ h. tt },
    λ bits. record {
      suiting = λ g. refl;
      fit = tt;
      tells = λ h. tt;
    },
  )
  receive_fine c own (receive.Locked (receive_locked.LoadPartner from)) knows =
      record { suiting = λ g. refl; fit = spelled _; tells = λ h. tt }
  receive_fine c own (receive.Locked (receive_locked.CommitGone from)) knows = (
    record { suiting = λ g. refl; fit = tt; tells = λ h. tt },
    λ bits. record {
      suiting = λ g. refl;
      fit = tt;
      tells = λ h. tt;
    },
  )
  receive_fine c own (receive.Locked receive_locked.LoadPicking) knows =
      record { suiting = λ g. refl; fit = spelled _; tells = λ h. tt }
  receive_fine c own (receive.Locked (receive_locked.LoadNext e)) knows =
      record { suiting = λ g. refl; fit = spelled _; tells = λ h. tt }
  receive_fine c own (receive.Locked (receive_locked.FreeNext e v)) knows = (
    record { suiting = λ g. refl; fit = tt; tells = λ h. tt },
    λ bits. record {
      suiting = λ g. refl;
      fit = tt;
      tells = λ h. tt;
    },
  )
  receive_fine c own (receive.Locked (receive_locked.EndPick e v)) knows = (
    record { suiting = λ g. refl; fit = tt; tells = λ h. tt },
    λ bits. record {
      suiting = λ g. refl;
      fit = tt;
      tells = λ h. tt;
    },
  )
  receive_fine c own (receive.Locked receive_locked.SettlePick) knows = (
    record { suiting = λ g. refl; fit = tt; tells = λ h. tt },
    λ bits. record {
      suiting = λ g. refl;
      fit = tt;
      tells = λ h. tt;
    },
  )
  receive_fine c own (receive.Locked (receive_locked.Release (receive_release.Taken e))) knows =
      record { suiting = λ g. refl; fit = tt; tells = λ h. knows }
  receive_fine c own (receive.Locked (receive_locked.Release receive_release.Waits)) knows =
      record { suiting = λ g. refl; fit = tt; tells = λ h. tt }
  receive_fine c own (receive.Locked (receive_locked.Release receive_release.Delivered)) knows =
      record { suiting = λ g. refl; fit = tt; tells = λ h. tt }
  receive_fine c own (receive.Locked (receive_locked.Release receive_release.Gone)) knows =
      record { suiting = λ g. refl; fit = tt; tells = λ h. tt }
  receive_fine c own (receive.Locked (receive_locked.Release receive_release.Nobody)) knows =
      record { suiting = λ g. refl; fit = tt; tells = λ h. tt }
  receive_fine c own (receive.Locked (receive_locked.Release receive_release.Dead)) knows =
      record { suiting = λ g. refl; fit = tt; tells = λ h. tt }
  receive_fine c own (receive.Pushing (receive_pushing.LoadFreed e)) knows =
      record { suiting = λ g. refl; fit = spelled _; tells = λ h. tt }
  receive_fine c own (receive.Pushing (receive_pushing.PushFreed e v)) knows =
      record { suiting = λ g. refl; fit = tt; tells = λ h. pushed (receive.is_pushed e v) }
    where
      pushed : (t : Bool) → TellsIn table
          (ran_after serial (receive.went_at (if t then Some v.priority else None)
          (receive.Locked (receive_locked.Release (receive_release.Taken e)))))
      pushed true = tt
      pushed false = tt

  -- A CREATE

  pub create_fine : (c : CreateCall) (own : StateWord) (p : create.CreateAt) → KnowsCreate table p →
      EachAnswer w b (create.ask_of c own p) (λ x. CreateFine table serial c own x p)
  create_fine c own (create.Outside create_outside.AcquireTable) knows = (
    record { suiting = λ g. refl; fit = tt; tells = λ h. tt },
    λ owner e. record {
      suiting = λ g. refl;
      fit = tt;
      tells = λ h. tt;
    },
  )
  create_fine c own (create.Outside (create_outside.Ended v)) knows = absurd knows
  create_fine c own (create.Locked create_locked.LoadCaller) knows =
      record { suiting = λ g. refl; fit = spelled c.caller.number; tells = λ h. tt }
  create_fine c own (create.Locked (create_locked.PlaceContext id)) knows =
      record { suiting = λ g. refl; fit = tt; tells = λ h. tt }
  create_fine c own (create.Locked (create_locked.CommitCreate id)) knows = (
    record { suiting = λ g. refl; fit = tt; tells = λ h. tt },
    λ bits. record {
      suiting = λ g. refl;
      fit = tt;
      tells = λ h. tt;
    },
  )
  create_fine c own (create.Locked (create_locked.AcquireReady id)) knows = (
    record { suiting = λ g. refl; fit = tt; tells = λ h. tt },
    λ owner e. record {
      suiting = λ g. refl;
      fit = tt;
      tells = λ h. tt;
    },
  )
  create_fine c own (create.Locked (create_locked.Release (create_release.Made id))) knows =
      record { suiting = λ g. refl; fit = tt; tells = λ h. knows }
  create_fine c own (create.Locked (create_locked.Release (create_release.Full alive worn))) knows =
      record { suiting = λ g. refl; fit = tt; tells = λ h. tt }
  create_fine c own (create.Locked (create_locked.Release create_release.Dead)) knows =
      record { suiting = λ g. refl; fit = tt; tells = λ h. tt }
  create_fine c own (create.PushCreated id) knows = record { suiting = λ g. refl; fit = tt; tells = λ h. tt }

  -- A DESTROY

  pub destroy_fine : (c : DestroyCall) (own : StateWord) (p : destroy.DestroyAt) → KnowsDestroy b p →
      EachAnswer w b (destroy.ask_of c own p) (λ x. DestroyFine table serial c own x p)
  destroy_fine c own (destroy.Outside destroy_outside.LoadOwn) knows =
      record {
        suiting = λ g. refl;
        fit = spelled c.caller.number;
        tells = λ h. alive_tells (Found c.caller.number) reply.Own (λ e. tt);
      }
  destroy_fine c own (destroy.Outside destroy_outside.AcquireTable) knows = (
    record { suiting = λ g. refl; fit = tt; tells = λ h. tt },
    λ owner e. record {
      suiting = λ g. refl;
      fit = tt;
      tells = λ h. tt;
    },
  )
  destroy_fine c own (destroy.Outside (destroy_outside.Ended v)) knows = absurd knows
  destroy_fine c own (destroy.Locked destroy_locked.LoadCaller) knows =
      record { suiting = λ g. refl; fit = spelled c.caller.number; tells = λ h. tt }
  destroy_fine c own (destroy.Locked destroy_locked.AcquireVictimLock) knows = (
    record { suiting = λ g. refl; fit = tt; tells = λ h. tt },
    λ owner e. record {
      suiting = λ g. refl;
      fit = tt;
      tells = λ h. tt;
    },
  )
  destroy_fine c own (destroy.Locked destroy_locked.AcquireReadyForVictim) knows = (
    record { suiting = λ g. refl; fit = tt; tells = λ h. tt },
    λ owner e. record {
      suiting = λ g. refl;
      fit = tt;
      tells = λ h. tt;
    },
  )
  destroy_fine c own (destroy.Locked destroy_locked.RemoveContext) knows = (
    record { suiting = λ g. refl; fit = tt; tells = λ h. tt },
    record { suiting = λ g. refl; fit = tt; tells = λ h. tt },
    λ carrier. record { suiting = λ g. refl; fit = tt; tells = λ h. tt },
  )
  destroy_fine c own (destroy.Locked (destroy_locked.AcquireVisitedLock visited)) knows = (
    record { suiting = λ g. refl; fit = tt; tells = λ h. tt },
    λ owner e. record {
      suiting = λ g. refl;
      fit = tt;
      tells = λ h. tt;
    },
  )
  destroy_fine c own (destroy.Locked (destroy_locked.Release destroy_release.Killed)) knows =
      record { suiting = λ g. refl; fit = tt; tells = λ h. tt }
  destroy_fine c own (destroy.Locked (destroy_locked.Release (destroy_release.Absent found))) knows =
      record { suiting = λ g. refl; fit = tt; tells = λ h. tt }
  destroy_fine c own (destroy.Locked (destroy_locked.Release destroy_release.Dead)) knows =
      record { suiting = λ g. refl; fit = tt; tells = λ h. tt }
  destroy_fine c own (destroy.Victim victim.LoadVictim) knows =
      record { suiting = λ g. refl; fit = spelled c.who.number; tells = λ h. tt }
  destroy_fine c own (destroy.Victim (victim.CommitKill v)) knows = (
    record { suiting = λ g. refl; fit = tt; tells = λ h. tt },
    λ bits. record {
      suiting = λ g. refl;
      fit = tt;
      tells = λ h. tt;
    },
  )
  destroy_fine c own (destroy.Victim (victim.LoadSender sender)) knows =
      record {
        suiting = λ g. refl;
        fit = (spelled sender, (found_thread sender knows).born);
        tells = λ h. tt;
      }
  destroy_fine c own (destroy.Victim (victim.FreeSender sender v)) knows = (
    record { suiting = λ g. refl; fit = tt; tells = λ h. tt },
    λ bits. record {
      suiting = λ g. refl;
      fit = tt;
      tells = λ h. tt;
    },
  )
  destroy_fine c own (destroy.Victim (victim.AcquireReadyForSender sender v)) knows = (
    record { suiting = λ g. refl; fit = tt; tells = λ h. tt },
    λ owner e. record {
      suiting = λ g. refl;
      fit = tt;
      tells = λ h. tt;
    },
  )
  destroy_fine c own (destroy.Victim victim.ReleaseVictimLock) knows =
      record { suiting = λ g. refl; fit = tt; tells = λ h. tt }
  destroy_fine c own (destroy.Victim (victim.ReleaseVictimLockAbsent found)) knows =
      record { suiting = λ g. refl; fit = tt; tells = λ h. tt }
  destroy_fine c own (destroy.Visit (visit.LoadVisited visited)) knows =
      record { suiting = λ g. refl; fit = spelled visited; tells = λ h. tt }
  destroy_fine c own (destroy.Visit (visit.FreeVisited visited v)) knows = (
    record { suiting = λ g. refl; fit = tt; tells = λ h. tt },
    λ bits. record {
      suiting = λ g. refl;
      fit = tt;
      tells = λ h. tt;
    },
  )
  destroy_fine c own (destroy.Visit (visit.AcquireReadyForVisited visited v)) knows = (
    record { suiting = λ g. refl; fit = tt; tells = λ h. tt },
    λ owner e. record {
      suiting = λ g. refl;
      fit = tt;
      tells = λ h. tt;
    },
  )
  destroy_fine c own (destroy.Visit (visit.ReleaseVisitedLock visited)) knows =
      record { suiting = λ g. refl; fit = tt; tells = λ h. tt }
  destroy_fine c own destroy.UnlistVictim knows = record { suiting = λ g. refl; fit = tt; tells = λ h. tt }
  destroy_fine c own (destroy.Pushing (destroy_pushing.PushSender sender v)) knows =
      record { suiting = λ g. refl; fit = tt; tells = λ h. tt }
  destroy_fine c own (destroy.Pushing (destroy_pushing.PushVisited visited v)) knows =
      record { suiting = λ g. refl; fit = tt; tells = λ h. tt }

  -- OUTSIDE OF ANY SECTION

  looked_run_tells : (r : Result4) → TellsIn table (alone.ran_to serial (alone.looked_run r))
  looked_run_tells result4.Sent = tt
  looked_run_tells (result4.Delivered from) = tt
  looked_run_tells result4.Gone = tt
  looked_run_tells result4.Plain = tt

  looked_tells : (s : State) → TellsIn table (alone.ran_to serial (alone.looked s))
  looked_tells state.Dead = tt
  looked_tells (state.Run r) = looked_run_tells r
  looked_tells (state.Sending to joined) = tt
  looked_tells (state.Receiving from) = tt
  looked_tells state.Picking = tt
  looked_tells state.Ended = tt

  pub alone_fine : (me : ThreadId) (own : StateWord) (p : ThreadLocation) → can_ask p ≡ true →
      KnowsAlone b table me p → EachAnswer w b (alone.ask_of me own p)
      (λ x. AloneFine table serial me own x p)
  alone_fine me own location.FallAsleep can knows = (
    record { suiting = refl; fit = record { suiting = refl; spelled = tt; fit = tt }; tells = tt },
    λ bits. record { suiting = refl; fit = record { suiting = refl; spelled = tt; fit = tt }; tells = tt },
  )
  alone_fine me own location.LookAgain can knows = record {
    suiting = refl;
    fit = record {
      suiting = refl;
      spelled = spelled me.number;
      fit = (
        ap (λ (v : StateWord). has_way v.state) (sym (same me.number)) ∙ knows.0,
        λ alive. record {
          whole = (spelled me.number).whole;
          version = ap (λ (v : StateWord). v.version)
              (sym (same me.number)) ∙ knows.1;
        },
      );
    };
    tells = looked_tells (Found me.number).state;
  }
  alone_fine me own (location.LoadMail from) can knows =
      record { suiting = refl; fit = record { suiting = refl; spelled = tt; fit = tt }; tells = knows }
  alone_fine me own (location.Work count) can knows =
      record {
        suiting = refl;
        fit = record { suiting = refl; spelled = spelled me.number; fit = tt };
        tells = worked;
      }
    where
      worked : TellsIn table (alone.ran_to serial (if is_dead (Found me.number) then location.Dead else
          alone.worked count))
      worked = either (λ (q : ThreadLocation). TellsIn table (alone.ran_to serial q))
          (is_dead (Found me.number)) location.Dead (alone.worked count) tt
          (either (λ (q : ThreadLocation). TellsIn table (alone.ran_to serial q)) (count == 1)
          (location.Between None) (location.Work (count - 1)) tt tt)
  alone_fine me own location.CommitEnd can knows = (
    record { suiting = refl; fit = record { suiting = refl; spelled = tt; fit = tt }; tells = tt },
    λ bits. record { suiting = refl; fit = record { suiting = refl; spelled = tt; fit = tt }; tells = tt },
  )
  alone_fine me own (location.Between last) can knows = absurd (false≢true can)
  alone_fine me own location.Asleep can knows = absurd (false≢true can)
  alone_fine me own location.Ended can knows = absurd (false≢true can)
  alone_fine me own location.Dead can knows = absurd (false≢true can)
