-- What a location's exchange makes of who receives from whom, and of who is there: who begins to receive from one thread, and who
-- is
-- killed.
use Rattle.std.proofs.Common.{◌≡◌, ◌≢◌, ◌⊎◌, ℕ, Bool, true, false, refl, sym, ap, ◌∙◌, subst, arith, Option, Some, None, inl, inr}
use Rattle.std.specs.Prelude.{if◌then◌else◌}
use Rattle.std.proofs.lemmas.Bool.{and_parts}
use Rattle.std.proofs.lemmas.Bool.Decides.{nat_tests}
use Rattle.k_ids.specs.declared.threads.ThreadId.{ThreadId}
use Rattle.k_ids.specs.declared.state_word.Result4.TheVariants as result4
use Rattle.k_ids.specs.declared.state_word.State.TheVariants as state
use Rattle.k_ids.specs.declared.state_word.StateWord.{StateWord}
use Rattle.k_model.specs.State.{same_id}
use Rattle.std.proofs.Common.{◌-◌}
use Rattle.k_senders.specs.declared.entries.SenderEntry.{SenderEntry}
use Rattle.k_senders.specs.Entries.{number_of}
use Rattle.k_locks.specs.Asks.{Ask}
use Rattle.k_locks.specs.Asks as asks
use Rattle.k_locks.specs.Hands.{Hand}
use Rattle.k_locks.specs.Shown.{is_dead, is_present_in}
use Rattle.k_ipc.specs.Words.{freed, in_state, is_joined_to, on_in, sends_to}
use Rattle.k_ipc.specs.declared.send.Manner.{Manner}
use Rattle.k_ipc.specs.declared.send.Manner.TheVariants as manner
use Rattle.k_ipc.specs.declared.send.SendCall.{SendCall}
use Rattle.k_ipc.specs.declared.send.SendOutside.TheVariants as send_outside
use Rattle.k_ipc.specs.declared.send.SendLocked.TheVariants as send_locked
use Rattle.k_ipc.specs.declared.send.SendPushing.TheVariants as send_pushing
use Rattle.k_ipc.specs.SendTable.{SendAt, delivered_word, passed_word, waiting_word}
use Rattle.k_ipc.specs.SendTable as send
use Rattle.k_ipc.specs.declared.receive.ReceiveCall.{ReceiveCall}
use Rattle.k_ipc.specs.declared.receive.ReceiveOutside.TheVariants as receive_outside
use Rattle.k_ipc.specs.declared.receive.ReceiveLocked.TheVariants as receive_locked
use Rattle.k_ipc.specs.declared.receive.ReceivePushing.TheVariants as receive_pushing
use Rattle.k_ipc.specs.ReceiveTable.{ReceiveAt, after_wait, still_waits}
use Rattle.k_ipc.specs.ReceiveTable as receive
use Rattle.k_threads.specs.declared.create.CreateCall.{CreateCall}
use Rattle.k_threads.specs.declared.create.CreateOutside.TheVariants as create_outside
use Rattle.k_threads.specs.declared.create.CreateLocked.TheVariants as create_locked
use Rattle.k_threads.specs.CreateTable.{CreateAt}
use Rattle.k_threads.specs.CreateTable as create
use Rattle.k_threads.specs.declared.destroy.DestroyCall.{DestroyCall}
use Rattle.k_threads.specs.declared.destroy.DestroyOutside.TheVariants as destroy_outside
use Rattle.k_threads.specs.declared.destroy.DestroyLocked.TheVariants as destroy_locked
use Rattle.k_threads.specs.declared.destroy.DestroyVictim.TheVariants as victim
use Rattle.k_threads.specs.declared.destroy.DestroyVisit.TheVariants as visit
use Rattle.k_threads.specs.declared.destroy.DestroyPushing.TheVariants as destroy_pushing
use Rattle.k_threads.specs.DestroyTable.{DestroyAt, free_first}
use Rattle.k_threads.specs.DestroyTable as destroy
use Rattle.k_threads.specs.Words.{dead_word, freed_word}
use Rattle.k_caller.specs.declared.thread.ThreadLocation.{ThreadLocation}
use Rattle.k_caller.specs.declared.thread.ThreadLocation.TheVariants as location
use Rattle.k_caller.specs.Waits as alone
use Rattle.k_board.specs.Words.{Programs}
use Rattle.k_board.specs.Boards.{At, InDestroy, InReceive, Board, Context, id_at}
use Rattle.k_board.specs.Facts.{AllSay, IsRun}
use Rattle.k_board.specs.Places.{facts_destroy, facts_receive, facts_send}
use Rattle.k_board.specs.Steps.{destroy_at, receive_at}
use Rattle.k_board.proofs.ReceivePlaces.{sends_is}
use Rattle.k_good.specs.Outward.{SendsOutward}
use Rattle.k_partners.specs.Partners.{IsThere, Looks, is_ahead}
use Rattle.k_partners.proofs.Ahead.{first_ahead}

-- How the thread of number n came to receive from one thread: it did so before; or its joined message is that one's, which is
-- there; or
-- its receive was decided, and is about to look.
pub data Came (b : Board) (i : ℕ) (next : At) (n : ℕ) (old : StateWord) (from : ThreadId) : Type 0 where
  waited : old.state ≡ state.Receiving (Some from) → Came b i next n old from
  went_to : IsThere b from → from.number ≢ n → Came b i next n old from
  decided : n ≡ i → same_id from (id_at b i) ≡ false → Looks from next → Came b i next n old from

-- a destroy has killed the thread, and has visited no number yet
pub record Killed (next : At) (id : ThreadId) : Type 0 where
  pub call : DestroyCall
  pub location : DestroyAt
  pub stands : next ≡ InDestroy call location
  pub victim : call.who ≡ id
  pub ahead : (t : ℕ) → is_ahead location t ≡ true

abbrev pub Begins : Board → ℕ → At → ℕ → StateWord → StateWord → Type 0
Begins b i next n old new = (from : ThreadId) → new.state ≡ state.Receiving (Some from) → Came b i next n old from

abbrev pub Stays : At → ℕ → StateWord → StateWord → Type 0
Stays next n old new =
    (id : ThreadId) → id.number ≡ n → is_present_in old id ≡ true → (is_present_in new id ≡ true) ⊎ Killed next id

-- what an exchange makes of both, where it is won
abbrev pub Exchanged : Board → ℕ → At → Ask → Type 0
Exchanged b i next (asks.Exchange n old new) = (b.seen n).word ≡ old → Begins b i next n old new × Stays next n old new
Exchanged b i next a = Unit {0}

-- WORDS

present_stays : (v w : StateWord) (id : ThreadId) → w.version ≡ v.version → is_dead w ≡ false → is_present_in v id ≡ true →
    is_present_in w id ≡ true
present_stays v w id e d h = grind (arith, nat_tests)

dead_absent : (version : ℕ) (id : ThreadId) → is_present_in (dead_word version) id ≡ true → ⊥
dead_absent version id h = grind (arith, nat_tests)

here_is : (b : Board) (me : ThreadId) (i : ℕ) → (me.number ≡ i) × (me.version ≡ (b.seen i).word.version) →
    is_dead (b.seen i).word ≡ false → IsThere b me
here_is b me i m d = grind (arith, nat_tests)

pub run_alive : (w own : StateWord) → IsRun own → w ≡ own → is_dead w ≡ false
run_alive w own r e = grind (arith, r.state)

picks_alive : (w own : StateWord) → w ≡ own → own.state ≡ state.Picking → is_dead w ≡ false
picks_alive w own e p = grind arith

-- two ids of a number that a word shows are the same
one_id : (w : StateWord) (a d : ThreadId) → a.number ≡ d.number → is_present_in w a ≡ true → is_present_in w d ≡ true → a ≡ d
one_id w a d n p q = λ k. record { number = n k; version = v k }
  where
    v : a.version ≡ d.version
    v = grind (arith, nat_tests)

module _ (b : Board) (i : ℕ) (next : At) where
  -- a word of the same version that runs, picks, sends or is over
  rests : (n : ℕ) (old new : StateWord) → ((from : ThreadId) → new.state ≡ state.Receiving (Some from) → ⊥) →
      new.version ≡ old.version → is_dead new ≡ false → Begins b i next n old new × Stays next n old new
  rests n old new none v d = (λ from e. absurd (none from e), λ id at p. inl (present_stays old new id v d p))

  passes : (c : SendCall) (own : StateWord) (m : Manner) → c.to.number ≢ c.caller.number → IsThere b c.to →
      Begins b i next c.caller.number own (passed_word m c.to own) × Stays next c.caller.number own (passed_word m c.to own)
  passes c own manner.Plain ne th = rests c.caller.number own (passed_word manner.Plain c.to own) (λ from e. cc) refl refl
  passes c own manner.Reply ne th = rests c.caller.number own (passed_word manner.Reply c.to own) (λ from e. cc) refl refl
  passes c own manner.Joined ne th = (
    λ from e. let q : c.to ≡ from = cc in went_to (subst (IsThere b) q th)
        (subst (λ (f : ThreadId). f.number ≢ c.caller.number) q ne),
    λ id at p. inl (present_stays own (passed_word manner.Joined c.to own) id refl refl p),
  )

  -- a sender's message is taken
  frees : (n : ℕ) (me : ThreadId) (w : StateWord) → me.number ≢ n → IsThere b me →
      Begins b i next n w (freed me w) × Stays next n w (freed me w)
  frees n me w ne th = by (is_joined_to w.state)
    where
      new : Bool → StateWord
      new a = if a then record w { state = state.Receiving (Some me) } else record w { on = true; state = state.Run result4.Sent }

      by : (a : Bool) → Begins b i next n w (new a) × Stays next n w (new a)
      by true = (
        λ from e. let q : me ≡ from = cc in went_to (subst (IsThere b) q th) (subst (λ (f : ThreadId). f.number ≢ n) q ne),
        λ id at p. inl (present_stays w (new true) id refl refl p),
      )
      by false = rests n w (new false) (λ from e. cc) refl refl

-- LOCATIONS

module _ (g : Programs) (b : Board) (i : ℕ) (x : Context) where
  pub send_exchanged : (next : At) (c : SendCall) (p : SendAt) → AllSay g b i x (facts_send c p) →
      Exchanged b i next (send.ask_of c x.own p)
  send_exchanged next c (send.Locked (send_locked.CommitPass w)) f =
      λ was. passes b i next c x.own c.manner (λ e. f.0 (e ∙ f.1.1.1.0.0)) f.1.0.1.0
  send_exchanged next c (send.Locked (send_locked.WakeReceiver w)) f =
      λ was. rests b i next c.to.number w (delivered_word c w) (λ from e. cc) refl refl
  send_exchanged next c (send.Locked send_locked.CommitWait) f =
      λ was. rests b i next c.caller.number x.own (waiting_word c x.own) (λ from e. cc) refl refl
  send_exchanged next c (send.Locked send_locked.LoadReceiver) f = tt
  send_exchanged next c (send.Locked (send_locked.StoreMail w)) f = tt
  send_exchanged next c (send.Locked send_locked.ReloadReceiver) f = tt
  send_exchanged next c (send.Locked (send_locked.AcquireReady priority)) f = tt
  send_exchanged next c (send.Locked (send_locked.Release r)) f = tt
  send_exchanged next c (send.Outside send_outside.LoadCaller) f = tt
  send_exchanged next c (send.Outside send_outside.AcquireReceiver) f = tt
  send_exchanged next c (send.Outside (send_outside.CheckCaller r)) f = tt
  send_exchanged next c (send.Outside (send_outside.Ended w)) f = tt
  send_exchanged next c (send.Pushing (send_pushing.PushReceiver priority)) f = tt

  -- the sender whose message is taken isn't the receiver
  sender_apart : SendsOutward b.seen → (c : ReceiveCall) (e : SenderEntry) (w : StateWord) → still_waits c e w ≡ true →
      (b.seen (number_of e)).word ≡ w → c.caller.number ≢ number_of e
  sender_apart out c e w st was =
      let sends = sends_is c.caller w.state (and_parts _ (sends_to c.caller w.state) st).1 in
      out (number_of e) c.caller sends.joined (ap (λ (u : StateWord). u.state) was ∙ sends.is)

  pub receive_exchanged : SendsOutward b.seen → (h : Hand) (c : ReceiveCall) (p : ReceiveAt) →
      AllSay g b i x (facts_receive c p) → Exchanged b i (receive_at c (receive.leads c h p asks.Won)) (receive.ask_of c x.own p)
  receive_exchanged out h c (receive.Locked (receive_locked.FreeSender e w)) f =
      λ was. frees b i _ (number_of e) c.caller w (sender_apart out c e w f.1.1.0 was)
      (here_is b c.caller i f.1.1.1.0 (run_alive _ x.own f.1.1.1.1.1.1.0.0 f.1.1.1.1.1.1.0.1))
  receive_exchanged out h c (receive.Locked (receive_locked.FreeNext e w)) f =
      λ was. frees b i _ (number_of e) c.caller w (sender_apart out c e w f.1.1.1.1.1.0 was)
      (here_is b c.caller i f.1.0 (picks_alive _ x.own f.1.1.1.1.0.1 f.1.1.1.1.0.2))
  receive_exchanged out h c (receive.Locked receive_locked.CommitWait) f =
      λ was. (
        λ from e. begins from cc,
        λ id at p. inl (present_stays x.own
            (in_state (state.Receiving c.from) x.own) id refl refl p),
      )
    where
      begins : (from : ThreadId) → c.from ≡ Some from →
          Came b i (receive_at c (receive.leads c h
          (receive.Locked receive_locked.CommitWait) asks.Won)) c.caller.number x.own from
      begins from q =
          decided f.1.1.0.0 (apart from q) (subst (λ (o : Option ThreadId).
          Looks from (InReceive c (receive.Locked (after_wait o)))) (sym q) refl)
        where
          apart : (from : ThreadId) → c.from ≡ Some from → same_id from (id_at b i) ≡ false
          apart from q = grind (arith, nat_tests, q, f.0.1, f.1.1.0)
  receive_exchanged out h c (receive.Locked (receive_locked.CommitGone q)) f =
      λ was. rests b i _ c.caller.number x.own (in_state (state.Run result4.Gone) x.own) (λ from e. cc) refl refl
  receive_exchanged out h c (receive.Locked (receive_locked.EndPick e w)) f =
      λ was. rests b i _ c.caller.number x.own (on_in (state.Run result4.Plain) x.own) (λ from e. cc) refl refl
  receive_exchanged out h c (receive.Locked receive_locked.SettlePick) f =
      λ was. rests b i _ c.caller.number x.own (on_in (state.Receiving None) x.own) (λ from e. cc) refl refl
  receive_exchanged out h c (receive.Locked receive_locked.LoadOwn) f = tt
  receive_exchanged out h c (receive.Locked (receive_locked.LoadSender e)) f = tt
  receive_exchanged out h c (receive.Locked (receive_locked.AcquireReady e)) f = tt
  receive_exchanged out h c (receive.Locked (receive_locked.LoadPartner q)) f = tt
  receive_exchanged out h c (receive.Locked receive_locked.LoadPicking) f = tt
  receive_exchanged out h c (receive.Locked (receive_locked.LoadNext e)) f = tt
  receive_exchanged out h c (receive.Locked (receive_locked.Release r)) f = tt
  receive_exchanged out h c (receive.Outside receive_outside.LoadCaller) f = tt
  receive_exchanged out h c (receive.Outside receive_outside.AcquireOwn) f = tt
  receive_exchanged out h c (receive.Outside (receive_outside.Ended w)) f = tt
  receive_exchanged out h c (receive.Pushing (receive_pushing.LoadFreed e)) f = tt
  receive_exchanged out h c (receive.Pushing (receive_pushing.PushFreed e w)) f = tt

  pub create_exchanged : (next : At) (c : CreateCall) (p : CreateAt) → Exchanged b i next (create.ask_of c x.own p)
  create_exchanged next c (create.Locked (create_locked.CommitCreate id)) =
      λ was. (λ from e. absurd cc, λ d at p. absurd (dead_absent (id.version - 1) d p))
  create_exchanged next c (create.Locked create_locked.LoadCaller) = tt
  create_exchanged next c (create.Locked (create_locked.PlaceContext id)) = tt
  create_exchanged next c (create.Locked (create_locked.AcquireReady id)) = tt
  create_exchanged next c (create.Locked (create_locked.Release r)) = tt
  create_exchanged next c (create.PushCreated id) = tt
  create_exchanged next c (create.Outside create_outside.AcquireTable) = tt
  create_exchanged next c (create.Outside (create_outside.Ended w)) = tt

  pub destroy_exchanged : (h : Hand) (c : DestroyCall) (p : DestroyAt) → AllSay g b i x (facts_destroy c p) →
      Exchanged b i (destroy_at c (destroy.leads c h p asks.Won)) (destroy.ask_of c x.own p)
  destroy_exchanged h c (destroy.Victim (victim.CommitKill w)) f = λ was. (
    λ from e. absurd cc,
    λ id at p. inr record {
      call = c;
      location = destroy.Victim (free_first h.queue.entries);
      stands = refl;
      victim = sym (one_id w id c.who at p f.1.1.1.1.1.1.1.0);
      ahead = λ t. first_ahead h.queue.entries t;
    },
  )
  destroy_exchanged h c (destroy.Victim (victim.FreeSender n w)) f =
      λ was. rests b i _ n w (freed_word w) (λ from e. cc) refl refl
  destroy_exchanged h c (destroy.Visit (visit.FreeVisited n w)) f = λ was. rests b i _ n w (freed_word w) (λ from e. cc) refl refl
  destroy_exchanged h c (destroy.Victim victim.LoadVictim) f = tt
  destroy_exchanged h c (destroy.Victim (victim.LoadSender n)) f = tt
  destroy_exchanged h c (destroy.Victim (victim.AcquireReadyForSender n w)) f = tt
  destroy_exchanged h c (destroy.Victim victim.ReleaseVictimLock) f = tt
  destroy_exchanged h c (destroy.Victim (victim.ReleaseVictimLockAbsent q)) f = tt
  destroy_exchanged h c (destroy.Visit (visit.LoadVisited n)) f = tt
  destroy_exchanged h c (destroy.Visit (visit.AcquireReadyForVisited n w)) f = tt
  destroy_exchanged h c (destroy.Visit (visit.ReleaseVisitedLock n)) f = tt
  destroy_exchanged h c (destroy.Pushing (destroy_pushing.PushSender n w)) f = tt
  destroy_exchanged h c (destroy.Pushing (destroy_pushing.PushVisited n w)) f = tt
  destroy_exchanged h c destroy.UnlistVictim f = tt
  destroy_exchanged h c (destroy.Outside destroy_outside.LoadOwn) f = tt
  destroy_exchanged h c (destroy.Outside destroy_outside.AcquireTable) f = tt
  destroy_exchanged h c (destroy.Outside (destroy_outside.Ended w)) f = tt
  destroy_exchanged h c (destroy.Locked destroy_locked.LoadCaller) f = tt
  destroy_exchanged h c (destroy.Locked destroy_locked.AcquireVictimLock) f = tt
  destroy_exchanged h c (destroy.Locked destroy_locked.AcquireReadyForVictim) f = tt
  destroy_exchanged h c (destroy.Locked destroy_locked.RemoveContext) f = tt
  destroy_exchanged h c (destroy.Locked (destroy_locked.AcquireVisitedLock n)) f = tt
  destroy_exchanged h c (destroy.Locked (destroy_locked.Release r)) f = tt

  pub alone_exchanged : (next : At) (me : ThreadId) (p : ThreadLocation) → Exchanged b i next (alone.ask_of me x.own p)
  alone_exchanged next me location.FallAsleep = λ was. (λ from e. waited e, λ id at p. inl p)
  alone_exchanged next me location.CommitEnd =
      λ was. rests b i next me.number x.own (alone.ended_word x.own) (λ from e. cc) refl refl
  alone_exchanged next me location.LookAgain = tt
  alone_exchanged next me (location.LoadMail from) = tt
  alone_exchanged next me (location.Work count) = tt
  alone_exchanged next me (location.Between l) = tt
  alone_exchanged next me location.Asleep = tt
  alone_exchanged next me location.Ended = tt
  alone_exchanged next me location.Dead = tt
