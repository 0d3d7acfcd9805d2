-- The locations of a send.
use Rattle.std.proofs.Common.{◌≡◌, ◌≢◌, ℕ, Bool, true, false, cond, refl, sym, ap, ◌∙◌, subst, Option, Some, None, arith, not, inl, inr, ◌⊎◌}
use Rattle.std.proofs.lemmas.Bool.Decides.{nat_tests}
use Rattle.k_ids.specs.declared.threads.ThreadId.{ThreadId}
use Rattle.k_ids.specs.declared.threads.Message.{Message}
use Rattle.k_ids.specs.declared.calls.Reply.{Reply}
use Rattle.k_ids.specs.declared.calls.Reply.TheVariants as reply
use Rattle.k_ids.specs.declared.calls.Outcome.TheVariants as outcome
use Rattle.k_ids.specs.declared.state_word.Result4.TheVariants as result4
use Rattle.k_ids.specs.declared.state_word.State.{State}
use Rattle.k_ids.specs.declared.state_word.State.TheVariants as state
use Rattle.k_ids.specs.declared.state_word.StateWord.{StateWord}
use Rattle.k_model.specs.Maps.{upd}
use Rattle.k_model.specs.State.{takes_from}
use Rattle.k_model.proofs.Maps.{upd_same, upd_other}
use Rattle.k_senders.specs.Queue.{stands}
use Rattle.k_locks.specs.declared.points.Point.{Point}
use Rattle.k_locks.specs.declared.steps.Went.{Went}
use Rattle.k_locks.specs.declared.steps.Went.TheVariants as went
use Rattle.k_locks.specs.Shown.{is_dead, is_present_in, found_in, shows}
use Rattle.k_locks.specs.Asks.{Response}
use Rattle.k_locks.specs.Asks as asks
use Rattle.k_ipc.specs.declared.send.Manner.{Manner}
use Rattle.k_ipc.specs.declared.send.Manner.TheVariants as manner
use Rattle.k_ipc.specs.declared.send.SendCall.{SendCall}
use Rattle.k_ipc.specs.declared.send.SendOutside.TheVariants.{LoadCaller, AcquireReceiver, CheckCaller}
use Rattle.k_ipc.specs.declared.send.SendLocked.{SendLocked}
use Rattle.k_ipc.specs.declared.send.SendLocked.TheVariants.{LoadReceiver, StoreMail, CommitPass, WakeReceiver, ReloadReceiver, AcquireReady, CommitWait, Release}
use Rattle.k_ipc.specs.declared.send.SendRelease.TheVariants as release
use Rattle.k_ipc.specs.declared.send.SendPushing.TheVariants.{PushReceiver}
use Rattle.k_ipc.specs.SendTable.{SendAt, Outside, Locked, Pushing, delivered_word, waiting_word, point_of}
use Rattle.k_ipc.specs.Words.{in_state, on_in}
use Rattle.k_caller.specs.Waits.{is_waiting}
use Rattle.k_board.specs.Words.{Seen, Programs, called, answered, noted, here}
use Rattle.k_board.specs.Boards.{Board, Context, InSend, hand_of}
use Rattle.k_board.specs.Facts.{AllSay, IsOr, IsRun, Fits, WaitsBy, is_open, may_wait}
use Rattle.k_board.specs.Places.{facts_of, facts_send}
use Rattle.k_board.specs.Moves.{Change, same, calls, passes, delivers, posts, PlaceStep}
use Rattle.k_board.specs.Steps.{send_board, send_context, after, with_word}
use Rattle.k_board.proofs.Cases.{if_cases, changed_one, changed_written, changed_passed, passed_me, passed_other, acquired, released, kept_queue, kept_lock, kept_free}

-- A word that takes a message is open; and one that runs or was destroyed doesn't wait.
pub open_of : (c : SendCall) (w : StateWord) → Fits c w → is_open w.state ≡ true
open_of c w h = by (λ s. s) w.state h.1
  where
    by : (State → State) → (s : State) → takes_from (shows s) c.caller c.zero ≡ true → is_open s ≡ true
    by f state.Dead q = grind arith
    by f (state.Run r) q = grind arith
    by f (state.Sending to joined) q = grind arith
    by f (state.Receiving from) q = refl
    by f state.Picking q = refl
    by f state.Ended q = grind arith

-- whom a word that begins to wait waits for
waits_to : (c : SendCall) (own : StateWord) (to : ThreadId) (joined : Bool) → (waiting_word c own).state ≡ state.Sending to joined → to ≡ c.to
waits_to c own to joined q = grind arith

pub run_idle : (own w : StateWord) → IsRun own → IsOr w own → is_waiting w.state ≡ false
run_idle own w run h = grind (arith, run.state)

module _ (g : Programs) (b : Board) (x : Context) (c : SendCall) where
  abbrev pub Fine : SendAt → Response → Type 0
  Fine p f = PlaceStep g b c.caller.number (send_context x c p f (hand_of b (b.queue c.to.number))) (send_board g b c.caller.number x c p f)

  abbrev pub Sound : SendAt → Type 0
  Sound p = AllSay g b c.caller.number x (facts_send c p)

  -- a section that has read or taken a lock, and whose location is this now
  abbrev Led : Option Point → SendLocked → Type 0
  Led e p = PlaceStep g b c.caller.number (record x { at = InSend c (Locked p) }) (record b { seen = noted g b.seen x.position e; context = upd b.context c.caller.number (record x { at = InSend c (Locked p) }) })

  -- The caller's call is answered while its word stays.
  pub refuses : (r : Reply) → IsRun x.own → (b.seen c.caller.number).word ≡ x.own → (t : ℕ) → Change b c.caller.number t (upd b.seen c.caller.number (called (b.seen c.caller.number) (Some r) x.position) t)
  refuses r run own =
      changed_one (λ t v. Change b c.caller.number t v) b.seen c.caller.number (called (b.seen c.caller.number) (Some r) x.position)
      (calls (b.seen c.caller.number).word (Some r) x.position (grind (arith, run.state)) record { version = refl; alive = grind (arith, run.state); any = λ e. grind (arith, run.state); one = λ from e. grind (arith, run.state); sends = λ to joined e. absurd (grind (arith, run.state)) }) (λ t. same t)

  pub ok_acquire : Sound (Outside AcquireReceiver) → b.owner c.to.number ≡ None → Fine (Outside AcquireReceiver) asks.Got
  ok_acquire h free = record {
    changes = λ t. same t;
    others = λ k ne. record { owner = acquired b.owner c.to.number c.caller.number k free; table = λ o. o; ready = λ o. o; queue = λ t o. refl; numbers = λ o. refl };
    facts = (h.0, (upd_same b.owner c.to.number (Some c.caller.number), h.1));
  }

  pub ok_acquire_owned : (o : ℕ) → Sound (Outside AcquireReceiver) → Fine (Outside AcquireReceiver) (asks.Owned o)
  ok_acquire_owned o h = record { changes = λ t. same t; others = λ k ne. record { owner = λ t o. o; table = λ o. o; ready = λ o. o; queue = λ t o. refl; numbers = λ o. refl }; facts = h }

  pub ok_self : (w : StateWord) → (b.seen c.caller.number).word ≡ w → Sound (Outside LoadCaller) → Fine (Outside LoadCaller) (asks.Word w)
  ok_self w is h = go (is_dead w) refl
    where
      go : (dead : Bool) → is_dead w ≡ dead → PlaceStep g b c.caller.number (record x { at = after c.caller (cond dead went.CallerDead (went.Ends reply.Own)) }) (record b { seen = noted g b.seen x.position (cond dead None (Some (point_of c outcome.Own))); context = upd b.context c.caller.number (record x { at = after c.caller (cond dead went.CallerDead (went.Ends reply.Own)) }) })
      go true d = record { changes = λ t. same t; others = λ k ne. record { owner = λ t o. o; table = λ o. o; ready = λ o. o; queue = λ t o. refl; numbers = λ o. refl }; facts = (grind arith, tt) }
      go false d =
          let own : (b.seen c.caller.number).word ≡ x.own = grind arith in
          record { changes = refuses reply.Own h.1.1.1.1.0.0 own; others = λ k ne. record { owner = λ t o. o; table = λ o. o; ready = λ o. o; queue = λ t o. refl; numbers = λ o. refl }; facts = rw (upd_same b.seen c.caller.number (called (b.seen c.caller.number) (Some reply.Own) x.position)) (h.1.1.0, (h.1.1.1.1.0, ((h.1.1.1.0.0, here), tt))) }

  pub ok_load : (w : StateWord) → (b.seen c.to.number).word ≡ w → Sound (Locked LoadReceiver) → Fine (Locked LoadReceiver) (asks.Word w)
  ok_load w is h = go (is_present_in w c.to) (takes_from (shows w.state) c.caller c.zero) c.zero (is_dead (b.seen c.caller.number).word) refl refl refl refl
    where
      alive : is_dead (b.seen c.caller.number).word ≡ false → (b.seen c.caller.number).word ≡ x.own
      alive d = grind arith

      apart : is_present_in w c.to ≡ true → c.to.number ≢ c.caller.number
      apart p e = grind (arith, nat_tests)

      go : (present takes_ zero_ dead : Bool) → is_present_in w c.to ≡ present → takes_from (shows w.state) c.caller c.zero ≡ takes_ → c.zero ≡ zero_ → is_dead (b.seen c.caller.number).word ≡ dead →
          Led (cond dead None (cond (not present) (Some (point_of c (outcome.Absent (found_in c.to.number w)))) (cond takes_ None (cond zero_ (Some (point_of c (outcome.Busy (found_in c.to.number w)))) None))))
          (cond (not present) (Release (release.Refused (reply.Absent (found_in c.to.number w)))) (cond takes_ (StoreMail w) (cond zero_ (Release (release.Refused (reply.Busy (found_in c.to.number w)))) CommitWait)))
      go false tk z true p q s d = record { changes = λ t. same t; others = λ k ne. record { owner = λ t o. o; table = λ o. o; ready = λ o. o; queue = λ t o. refl; numbers = λ o. refl }; facts = (h.1.0, (h.1.1.0, (h.1.1.1.1.1.0, (inl d, tt)))) }
      go false tk z false p q s d = record { changes = refuses _ h.1.1.1.1.1.0.0 (alive d); others = λ k ne. record { owner = λ t o. o; table = λ o. o; ready = λ o. o; queue = λ t o. refl; numbers = λ o. refl }; facts = rw (upd_same b.seen c.caller.number (called (b.seen c.caller.number) (Some (reply.Absent (found_in c.to.number w))) x.position)) (h.1.0, (h.1.1.0, (h.1.1.1.1.1.0, (inr (h.1.1.1.0, refl, refl), tt)))) }
      go true true z true p q s d = record { changes = λ t. same t; others = λ k ne. record { owner = λ t o. o; table = λ o. o; ready = λ o. o; queue = λ t o. refl; numbers = λ o. refl }; facts = (apart p, ((h.1.0, (grind arith, grind arith)), (h.1.1.0, (h.1.1.1.0, (h.1.1.1.1.0, (h.1.1.1.1.1.0, ((h.1.0, open_of c w (p, q), inl is), ((p, q), tt)))))))) }
      go true true z false p q s d = record { changes = λ t. same t; others = λ k ne. record { owner = λ t o. o; table = λ o. o; ready = λ o. o; queue = λ t o. refl; numbers = λ o. refl }; facts = (apart p, ((h.1.0, (grind arith, grind arith)), (h.1.1.0, (h.1.1.1.0, (h.1.1.1.1.0, (h.1.1.1.1.1.0, ((h.1.0, open_of c w (p, q), inl is), ((p, q), tt)))))))) }
      go true false true true p q s d = record { changes = λ t. same t; others = λ k ne. record { owner = λ t o. o; table = λ o. o; ready = λ o. o; queue = λ t o. refl; numbers = λ o. refl }; facts = (h.1.0, (h.1.1.0, (h.1.1.1.1.1.0, (inl d, tt)))) }
      go true false true false p q s d = record { changes = refuses _ h.1.1.1.1.1.0.0 (alive d); others = λ k ne. record { owner = λ t o. o; table = λ o. o; ready = λ o. o; queue = λ t o. refl; numbers = λ o. refl }; facts = rw (upd_same b.seen c.caller.number (called (b.seen c.caller.number) (Some (reply.Busy (found_in c.to.number w))) x.position)) (h.1.0, (h.1.1.0, (h.1.1.1.1.1.0, (inr (h.1.1.1.0, refl, refl), tt)))) }
      go true false false true p q s d = record { changes = λ t. same t; others = λ k ne. record { owner = λ t o. o; table = λ o. o; ready = λ o. o; queue = λ t o. refl; numbers = λ o. refl }; facts = (apart p, ((h.1.0, grind arith, grind arith, s, refl, h.1.1.1.1.0.0), h.1.1)) }
      go true false false false p q s d = record { changes = λ t. same t; others = λ k ne. record { owner = λ t o. o; table = λ o. o; ready = λ o. o; queue = λ t o. refl; numbers = λ o. refl }; facts = (apart p, ((h.1.0, grind arith, grind arith, s, refl, h.1.1.1.1.0.0), h.1.1)) }

  pub ok_store : (w : StateWord) → Sound (Locked (StoreMail w)) → Fine (Locked (StoreMail w)) asks.Stored
  ok_store w h =
      let n = c.to.number in
      let v : Seen = record (b.seen n) { mail = c.message } in
      let me = upd_other b.seen n v c.caller.number (λ e. h.0 (sym e)) in
      let it = upd_same b.seen n v in
      record {
        changes = changed_one (λ t v. Change b c.caller.number t v) b.seen n _ (posts n c.message h.1.0.0 (open_of c (b.seen n).word h.1.0.1)) (λ t. same t);
        others = λ k ne. record { owner = λ t o. o; table = λ o. o; ready = λ o. o; queue = λ t o. refl; numbers = λ o. refl };
        facts = rw (it, me) (h.0, (h.1.0, ((h.1.0.0, refl), h.1.1)));
      }

  pub ok_pass_lost : (w v : StateWord) → (b.seen c.caller.number).word ≢ x.own → Sound (Locked (CommitPass w)) → Fine (Locked (CommitPass w)) (asks.Lost v)
  ok_pass_lost w v lost h = record { changes = λ t. same t; others = λ k ne. record { owner = λ t o. o; table = λ o. o; ready = λ o. o; queue = λ t o. refl; numbers = λ o. refl }; facts = (h.1.0.0, (killed_of h.1.1.1.1.1.1.0.1 lost, (h.1.1.1.0, tt))) }
    where
      killed_of : IsOr (b.seen c.caller.number).word x.own → (b.seen c.caller.number).word ≢ x.own → is_dead (b.seen c.caller.number).word ≡ true
      killed_of (inl e) n = absurd (n e)
      killed_of (inr d) n = d

  pub ok_wait_lost : (v : StateWord) → (b.seen c.caller.number).word ≢ x.own → Sound (Locked CommitWait) → Fine (Locked CommitWait) (asks.Lost v)
  ok_wait_lost v lost h = record { changes = λ t. same t; others = λ k ne. record { owner = λ t o. o; table = λ o. o; ready = λ o. o; queue = λ t o. refl; numbers = λ o. refl }; facts = (h.1.0.0, (killed_of h.1.1.1.1.1.0.1 lost, (h.1.1.0, tt))) }
    where
      killed_of : IsOr (b.seen c.caller.number).word x.own → (b.seen c.caller.number).word ≢ x.own → is_dead (b.seen c.caller.number).word ≡ true
      killed_of (inl e) n = absurd (n e)
      killed_of (inr d) n = d

  -- The caller has no entry in the queue that it joins: that is the part on queues.
  pub ok_wait : stands c.caller.number (b.queue c.to.number) ≡ false → (b.seen c.caller.number).word ≡ x.own → Sound (Locked CommitWait) → Fine (Locked CommitWait) asks.Won
  ok_wait none won h =
      let i = c.caller.number in
      let v : Seen = called (b.seen i) None x.position in
      let at = written b.seen i v (waiting_word c x.own) in
      let own = h.1.1.1.1.1.0.0 in
      record {
        changes = changed_written (λ t v. Change b i t v) b.seen i v (waiting_word c x.own)
            (calls (waiting_word c x.own) None x.position (grind (arith, own.state)) record { version = ap (λ (u : StateWord). u.version) (sym won); alive = refl; any = λ e. absurd cc; one = λ from e. absurd cc; sends = λ to joined e. let is : to ≡ c.to = waits_to c x.own to joined e in (subst (λ (u : ThreadId). b.owner u.number ≡ Some i) (sym is) h.1.0.0, subst (λ (u : ThreadId). is_present_in (b.seen u.number).word u ≡ true) (sym is) h.1.0.1, subst (λ (u : ThreadId). u.number ≢ i) (sym is) h.0) }) (λ t. same t);
        others = λ k ne. record { owner = λ t o. o; table = λ o. o; ready = λ o. o; queue = λ t o. refl; numbers = λ o. refl };
        facts = rw at ((h.1.1.0.0, h.1.1.0.1 ∙ ap (λ (u : StateWord). u.version) won), (h.1.1.1.0, (refl, ((h.1.0.0, refl, own.on, inl refl, (_, refl), none), tt))));
      }
    where
      written : (s : ℕ → Seen) (i : ℕ) (v : Seen) (w : StateWord) → upd (upd s i v) i (with_word (upd s i v i) w) i ≡ with_word v w
      written s i v w = upd_same (upd s i v) i _ ∙ ap (λ (u : Seen). with_word u w) (upd_same s i v)

  pub ok_release_dead : Sound (Locked (Release release.Dead)) → Fine (Locked (Release release.Dead)) asks.Released
  ok_release_dead h = record { changes = λ t. same t; others = λ k ne. record { owner = released b.owner c.to.number c.caller.number k h.0 ne; table = λ o. o; ready = λ o. o; queue = λ t o. refl; numbers = λ o. refl }; facts = (h.1.0, tt) }

  pub ok_release_refused : (r : Reply) → Sound (Locked (Release (release.Refused r))) → Fine (Locked (Release (release.Refused r))) asks.Released
  ok_release_refused r h = record { changes = λ t. same t; others = λ k ne. record { owner = released b.owner c.to.number c.caller.number k h.0 ne; table = λ o. o; ready = λ o. o; queue = λ t o. refl; numbers = λ o. refl }; facts = h.1 }

  pub ok_release_queued : Sound (Locked (Release release.Queued)) → Fine (Locked (Release release.Queued)) asks.Released
  ok_release_queued h = record { changes = λ t. same t; others = λ k ne. record { owner = released b.owner c.to.number c.caller.number k h.1.1.1.0.0 ne; table = λ o. o; ready = λ o. o; queue = kept_queue b.owner b.queue c.to.number c.caller.number k _ h.1.1.1.0.0 ne; numbers = λ o. refl }; facts = (h.1.0, (h.1.1.0, (waits h.1.1.1.0.3 h.1.1.1.0.4, (h.1.1.1.0.1, tt)))) }
    where
      waits : IsOr (b.seen c.caller.number).word x.own → ((joined : Bool) × (x.own.state ≡ state.Sending c.to joined)) → WaitsBy (b.seen c.caller.number)
      waits (inl e) q = inr (inl (ap (λ (u : StateWord). may_wait u.state) e ∙ ap may_wait q.1))
      waits (inr d) q = inl d

  pub ok_check : (r : Reply) (w : StateWord) → (b.seen c.caller.number).word ≡ w → Sound (Outside (CheckCaller r)) → Fine (Outside (CheckCaller r)) (asks.Word w)
  ok_check r w is h = record {
    changes = λ t. same t;
    others = λ k ne. record { owner = λ t o. o; table = λ o. o; ready = λ o. o; queue = λ t o. refl; numbers = λ o. refl };
    facts = if_cases (λ (v : Went). AllSay g (send_board g b c.caller.number x c (Outside (CheckCaller r)) (asks.Word w)) c.caller.number (send_context x c (Outside (CheckCaller r)) (asks.Word w) (hand_of b (b.queue c.to.number))) (facts_of (after c.caller v))) (is_dead w) went.CallerDead (went.Ends r) (λ d. (grind arith, tt)) (λ d. ends h.1.1.0 d);
  }
    where
      ends : ((is_dead (b.seen c.caller.number).word ≡ true) ⊎ ((x.serial ≡ (b.seen c.caller.number).last) × (x.position ≡ (b.seen c.caller.number).position) × ((b.seen c.caller.number).told ≡ Some r))) → is_dead w ≡ false → AllSay g b c.caller.number x (facts_of (after c.caller (went.Ends r)))
      ends (inl d) a = absurd (grind arith)
      ends (inr q) a = (q.0, (h.1.0, ((run_idle x.own _ h.1.0.0 h.1.0.1, rw (q.1, q.2) here), tt)))

-- LOCATIONS AT WHICH THE MANNER TELLS WHAT COMES

abbrev pub call_of : ThreadId → ThreadId → Message → Bool → Manner → SendCall
call_of caller to message zero m = record { caller = caller; to = to; message = message; zero = zero; manner = m }

module _ (g : Programs) (b : Board) (x : Context) (caller to : ThreadId) (message : Message) (zero : Bool) where
  pass_plain : (w : StateWord) → (b.seen to.number).told ≡ None → (b.seen caller.number).word ≡ x.own → Sound g b x (call_of caller to message zero manner.Plain) (Locked (CommitPass w)) → Fine g b x (call_of caller to message zero manner.Plain) (Locked (CommitPass w)) asks.Won
  pass_plain w none won h =
      let i = caller.number in
      let c = call_of caller to message zero manner.Plain in
      let v : Seen = called (b.seen i) (Some reply.Sent) x.position in
      let new = in_state (state.Run result4.Sent) x.own in
      let r = reply.Got caller message in
      let free = h.1.1.1.1.1.1.0 in
      let at_me = passed_me b.seen i to.number v (λ (u : Seen). answered u r) new h.0 in
      let at_to = passed_other b.seen i to.number v (λ (u : Seen). answered u r) new h.0 in
      let opens = open_of c (b.seen to.number).word h.1.0.1 in
      record {
        changes = changed_passed (λ t v. Change b i t v) b.seen i to.number v (λ (u : Seen). answered u r) new h.0
            (calls new (Some reply.Sent) x.position (grind (arith, free.0.state)) record { version = ap (λ (u : StateWord). u.version) (sym won); alive = refl; any = λ e. absurd cc; one = λ from e. absurd cc; sends = λ other joined e. absurd cc })
            (passes to.number r h.1.0.0 opens none) (λ t. same t);
        others = λ k ne. record { owner = λ t o. o; table = λ o. o; ready = λ o. o; queue = λ t o. refl; numbers = λ o. refl };
        facts = rw (at_me, at_to) ((h.1.1.1.0.0, h.1.1.1.0.1 ∙ ap (λ (u : StateWord). u.version) won), (h.1.1.1.1.0, (refl, ((record { result = result4.Sent; state = refl; on = free.0.on }, inl refl), (refl, (h.0, ((h.1.0.0, opens, h.1.1.0.1, refl, h.1.0.1.0), (h.1.1.1.1.1.1.1.0, tt))))))));
      }

  pass_joined : (w : StateWord) → (b.seen to.number).told ≡ None → (b.seen caller.number).word ≡ x.own → Sound g b x (call_of caller to message zero manner.Joined) (Locked (CommitPass w)) → Fine g b x (call_of caller to message zero manner.Joined) (Locked (CommitPass w)) asks.Won
  pass_joined w none won h =
      let i = caller.number in
      let c = call_of caller to message zero manner.Joined in
      let v : Seen = called (b.seen i) None x.position in
      let new = in_state (state.Receiving (Some to)) x.own in
      let r = reply.Got caller message in
      let free = h.1.1.1.1.1.1.0 in
      let at_me = passed_me b.seen i to.number v (λ (u : Seen). answered u r) new h.0 in
      let at_to = passed_other b.seen i to.number v (λ (u : Seen). answered u r) new h.0 in
      let opens = open_of c (b.seen to.number).word h.1.0.1 in
      record {
        changes = changed_passed (λ t v. Change b i t v) b.seen i to.number v (λ (u : Seen). answered u r) new h.0
            (calls new None x.position (grind (arith, free.0.state)) record { version = ap (λ (u : StateWord). u.version) (sym won); alive = refl; any = λ e. absurd cc; one = λ from e. grind (arith, h.1.0.1.0, opens); sends = λ other joined e. absurd cc })
            (passes to.number r h.1.0.0 opens none) (λ t. same t);
        others = λ k ne. record { owner = λ t o. o; table = λ o. o; ready = λ o. o; queue = λ t o. refl; numbers = λ o. refl };
        facts = rw (at_me, at_to) ((h.1.1.1.0.0, h.1.1.1.0.1 ∙ ap (λ (u : StateWord). u.version) won), (h.1.1.1.1.0, (refl, (inr (inl refl), (refl, (h.0, ((h.1.0.0, opens, h.1.1.0.1, refl, h.1.0.1.0), (h.1.1.1.1.1.1.1.0, tt))))))));
      }

  pass_reply : (w : StateWord) → (b.seen to.number).told ≡ None → (b.seen caller.number).word ≡ x.own → Sound g b x (call_of caller to message zero manner.Reply) (Locked (CommitPass w)) → Fine g b x (call_of caller to message zero manner.Reply) (Locked (CommitPass w)) asks.Won
  pass_reply w none won h =
      let i = caller.number in
      let c = call_of caller to message zero manner.Reply in
      let v : Seen = called (b.seen i) None x.position in
      let new = on_in state.Picking x.own in
      let r = reply.Got caller message in
      let free = h.1.1.1.1.1.1.0 in
      let at_me = passed_me b.seen i to.number v (λ (u : Seen). answered u r) new h.0 in
      let at_to = passed_other b.seen i to.number v (λ (u : Seen). answered u r) new h.0 in
      let opens = open_of c (b.seen to.number).word h.1.0.1 in
      record {
        changes = changed_passed (λ t v. Change b i t v) b.seen i to.number v (λ (u : Seen). answered u r) new h.0
            (calls new None x.position (grind (arith, free.0.state)) record { version = ap (λ (u : StateWord). u.version) (sym won); alive = refl; any = λ e. absurd cc; one = λ from e. absurd cc; sends = λ other joined e. absurd cc })
            (passes to.number r h.1.0.0 opens none) (λ t. same t);
        others = λ k ne. record { owner = λ t o. o; table = λ o. o; ready = λ o. o; queue = λ t o. refl; numbers = λ o. refl };
        facts = rw (at_me, at_to) ((h.1.1.1.0.0, h.1.1.1.0.1 ∙ ap (λ (u : StateWord). u.version) won), (h.1.1.1.1.0, (refl, ((refl, refl, inl (inl refl)), (h.0, ((h.1.0.0, opens, h.1.1.0.1, refl, h.1.0.1.0), (h.1.1.1.1.1.1.1.0, tt)))))));
      }

  pub ok_pass : (m : Manner) (w : StateWord) → (b.seen to.number).told ≡ None → (b.seen caller.number).word ≡ x.own → Sound g b x (call_of caller to message zero m) (Locked (CommitPass w)) → Fine g b x (call_of caller to message zero m) (Locked (CommitPass w)) asks.Won
  ok_pass manner.Plain w none won h = pass_plain w none won h
  ok_pass manner.Joined w none won h = pass_joined w none won h
  ok_pass manner.Reply w none won h = pass_reply w none won h

  wake_plain : (w : StateWord) → (b.seen to.number).word ≡ w → Sound g b x (call_of caller to message zero manner.Plain) (Locked (WakeReceiver w)) → Fine g b x (call_of caller to message zero manner.Plain) (Locked (WakeReceiver w)) asks.Won
  wake_plain w won h =
      let i = caller.number in
      let c = call_of caller to message zero manner.Plain in
      let passing = h.1.1.1.1.1.1.0 in
      let u : Seen = with_word (b.seen to.number) (delivered_word c w) in
      let at_me = upd_other b.seen to.number u i (λ e. h.1.1.1.1.1.0 (sym e)) in
      record {
        changes = changed_one (λ t v. Change b i t v) b.seen to.number u (subst (λ (y : StateWord). Change b i to.number (with_word (b.seen to.number) (delivered_word c y))) won (delivers to.number caller passing.0 passing.1 (passing.3 ∙ ap (λ (k : Message). Some (reply.Got caller k)) (sym passing.2)))) (λ t. same t);
        others = λ k ne. record { owner = λ t o. o; table = λ o. o; ready = λ o. o; queue = λ t o. refl; numbers = λ o. refl };
        facts = if_cases (λ p. AllSay g (send_board g b i x c (Locked (WakeReceiver w)) asks.Won) i (send_context x c (Locked (WakeReceiver w)) asks.Won (hand_of b (b.queue to.number))) (facts_send c (Locked p))) w.on (Release release.Passed) (AcquireReady w.priority)
            (λ o. rw at_me (h.0, (h.1.0, (h.1.1.0, (h.1.1.1.0, (h.1.1.1.1.0, (passing.0, tt)))))))
            (λ o. rw at_me (h.0, (h.1.0, (h.1.1.0, (h.1.1.1.0, (h.1.1.1.1.0, (passing.0, tt)))))));
      }

  wake_joined : (w : StateWord) → (b.seen to.number).word ≡ w → Sound g b x (call_of caller to message zero manner.Joined) (Locked (WakeReceiver w)) → Fine g b x (call_of caller to message zero manner.Joined) (Locked (WakeReceiver w)) asks.Won
  wake_joined w won h =
      let i = caller.number in
      let c = call_of caller to message zero manner.Joined in
      let passing = h.1.1.1.1.1.1.0 in
      let u : Seen = with_word (b.seen to.number) (delivered_word c w) in
      let at_me = upd_other b.seen to.number u i (λ e. h.1.1.1.1.1.0 (sym e)) in
      record {
        changes = changed_one (λ t v. Change b i t v) b.seen to.number u (subst (λ (y : StateWord). Change b i to.number (with_word (b.seen to.number) (delivered_word c y))) won (delivers to.number caller passing.0 passing.1 (passing.3 ∙ ap (λ (k : Message). Some (reply.Got caller k)) (sym passing.2)))) (λ t. same t);
        others = λ k ne. record { owner = λ t o. o; table = λ o. o; ready = λ o. o; queue = λ t o. refl; numbers = λ o. refl };
        facts = if_cases (λ p. AllSay g (send_board g b i x c (Locked (WakeReceiver w)) asks.Won) i (send_context x c (Locked (WakeReceiver w)) asks.Won (hand_of b (b.queue to.number))) (facts_send c (Locked p))) w.on (Release release.Passed) (AcquireReady w.priority)
            (λ o. rw at_me (h.0, (h.1.0, (h.1.1.0, (h.1.1.1.0, (h.1.1.1.1.0, (passing.0, tt)))))))
            (λ o. rw at_me (h.0, (h.1.0, (h.1.1.0, (h.1.1.1.0, (h.1.1.1.1.0, (passing.0, tt)))))));
      }

  wake_reply : (w : StateWord) → (b.seen to.number).word ≡ w → Sound g b x (call_of caller to message zero manner.Reply) (Locked (WakeReceiver w)) → Fine g b x (call_of caller to message zero manner.Reply) (Locked (WakeReceiver w)) asks.Won
  wake_reply w won h =
      let i = caller.number in
      let c = call_of caller to message zero manner.Reply in
      let passing = h.1.1.1.1.1.0 in
      let u : Seen = with_word (b.seen to.number) (delivered_word c w) in
      let at_me = upd_other b.seen to.number u i (λ e. h.1.1.1.1.0 (sym e)) in
      record {
        changes = changed_one (λ t v. Change b i t v) b.seen to.number u (subst (λ (y : StateWord). Change b i to.number (with_word (b.seen to.number) (delivered_word c y))) won (delivers to.number caller passing.0 passing.1 (passing.3 ∙ ap (λ (k : Message). Some (reply.Got caller k)) (sym passing.2)))) (λ t. same t);
        others = λ k ne. record { owner = λ t o. o; table = λ o. o; ready = λ o. o; queue = λ t o. refl; numbers = λ o. refl };
        facts = if_cases (λ p. AllSay g (send_board g b i x c (Locked (WakeReceiver w)) asks.Won) i (send_context x c (Locked (WakeReceiver w)) asks.Won (hand_of b (b.queue to.number))) (facts_send c (Locked p))) w.on (Release release.Passed) (AcquireReady w.priority)
            (λ o. rw at_me (h.0, (h.1.0, (h.1.1.0, (h.1.1.1.0, (passing.0, tt))))))
            (λ o. rw at_me (h.0, (h.1.0, (h.1.1.0, (h.1.1.1.0, (passing.0, tt))))));
      }

  pub ok_wake : (m : Manner) (w : StateWord) → (b.seen to.number).word ≡ w → Sound g b x (call_of caller to message zero m) (Locked (WakeReceiver w)) → Fine g b x (call_of caller to message zero m) (Locked (WakeReceiver w)) (asks.Won)
  ok_wake manner.Plain w won h = wake_plain w won h
  ok_wake manner.Joined w won h = wake_joined w won h
  ok_wake manner.Reply w won h = wake_reply w won h

  pub ok_wake_lost : (m : Manner) (w v : StateWord) → Sound g b x (call_of caller to message zero m) (Locked (WakeReceiver w)) → Fine g b x (call_of caller to message zero m) (Locked (WakeReceiver w)) (asks.Lost v)
  ok_wake_lost manner.Plain w v h = record { changes = λ t. same t; others = λ k ne. record { owner = λ t o. o; table = λ o. o; ready = λ o. o; queue = λ t o. refl; numbers = λ o. refl }; facts = (h.0, (h.1.0, (h.1.1.0, (h.1.1.1.0, (h.1.1.1.1.0, (h.1.1.1.1.1.0, (h.1.1.1.1.1.1.0, tt))))))) }
  ok_wake_lost manner.Joined w v h = record { changes = λ t. same t; others = λ k ne. record { owner = λ t o. o; table = λ o. o; ready = λ o. o; queue = λ t o. refl; numbers = λ o. refl }; facts = (h.0, (h.1.0, (h.1.1.0, (h.1.1.1.0, (h.1.1.1.1.0, (h.1.1.1.1.1.0, (h.1.1.1.1.1.1.0, tt))))))) }
  ok_wake_lost manner.Reply w v h = record { changes = λ t. same t; others = λ k ne. record { owner = λ t o. o; table = λ o. o; ready = λ o. o; queue = λ t o. refl; numbers = λ o. refl }; facts = (h.0, (h.1.0, (h.1.1.0, (h.1.1.1.0, (h.1.1.1.1.0, (h.1.1.1.1.1.0, tt)))))) }

  pub ok_reload : (m : Manner) (w : StateWord) → (b.seen to.number).word ≡ w → Sound g b x (call_of caller to message zero m) (Locked ReloadReceiver) → Fine g b x (call_of caller to message zero m) (Locked ReloadReceiver) (asks.Word w)
  ok_reload manner.Plain w is h = record { changes = λ t. same t; others = λ k ne. record { owner = λ t o. o; table = λ o. o; ready = λ o. o; queue = λ t o. refl; numbers = λ o. refl }; facts = (h.0, (h.1.0, (h.1.1.0, (h.1.1.1.0, (h.1.1.1.1.0, (h.1.1.1.1.1.0, (h.1.1.1.1.1.1.0, ((h.1.1.1.1.1.1.0.0, subst (λ (y : StateWord). is_open y.state ≡ true) is h.1.1.1.1.1.1.0.1, inl is), tt)))))))) }
  ok_reload manner.Joined w is h = record { changes = λ t. same t; others = λ k ne. record { owner = λ t o. o; table = λ o. o; ready = λ o. o; queue = λ t o. refl; numbers = λ o. refl }; facts = (h.0, (h.1.0, (h.1.1.0, (h.1.1.1.0, (h.1.1.1.1.0, (h.1.1.1.1.1.0, (h.1.1.1.1.1.1.0, ((h.1.1.1.1.1.1.0.0, subst (λ (y : StateWord). is_open y.state ≡ true) is h.1.1.1.1.1.1.0.1, inl is), tt)))))))) }
  ok_reload manner.Reply w is h = record { changes = λ t. same t; others = λ k ne. record { owner = λ t o. o; table = λ o. o; ready = λ o. o; queue = λ t o. refl; numbers = λ o. refl }; facts = (h.0, (h.1.0, (h.1.1.0, (h.1.1.1.0, (h.1.1.1.1.0, (h.1.1.1.1.1.0, ((h.1.1.1.1.1.0.0, subst (λ (y : StateWord). is_open y.state ≡ true) is h.1.1.1.1.1.0.1, inl is), tt))))))) }

  pub ok_ready : (m : Manner) (priority : ℕ) → b.ready ≡ None → Sound g b x (call_of caller to message zero m) (Locked (AcquireReady priority)) → Fine g b x (call_of caller to message zero m) (Locked (AcquireReady priority)) (asks.Got)
  ok_ready manner.Plain priority free h = record { changes = λ t. same t; others = λ k ne. record { owner = λ t o. o; table = λ o. o; ready = kept_free (Some caller.number) free; queue = λ t o. refl; numbers = λ o. refl }; facts = (h.0, (h.1.0, (h.1.1.0, (h.1.1.1.0, (h.1.1.1.1.0, (h.1.1.1.1.1.0, (refl, tt))))))) }
  ok_ready manner.Joined priority free h = record { changes = λ t. same t; others = λ k ne. record { owner = λ t o. o; table = λ o. o; ready = kept_free (Some caller.number) free; queue = λ t o. refl; numbers = λ o. refl }; facts = (h.0, (h.1.0, (h.1.1.0, (h.1.1.1.0, (h.1.1.1.1.0, (h.1.1.1.1.1.0, (refl, tt))))))) }
  ok_ready manner.Reply priority free h = record { changes = λ t. same t; others = λ k ne. record { owner = λ t o. o; table = λ o. o; ready = kept_free (Some caller.number) free; queue = λ t o. refl; numbers = λ o. refl }; facts = (h.0, (h.1.0, (h.1.1.0, (h.1.1.1.0, (h.1.1.1.1.0, (refl, tt)))))) }

  pub ok_ready_owned : (m : Manner) (priority o : ℕ) → Sound g b x (call_of caller to message zero m) (Locked (AcquireReady priority)) → Fine g b x (call_of caller to message zero m) (Locked (AcquireReady priority)) (asks.Owned o)
  ok_ready_owned manner.Plain priority o h = record { changes = λ t. same t; others = λ k ne. record { owner = λ t o. o; table = λ o. o; ready = λ o. o; queue = λ t o. refl; numbers = λ o. refl }; facts = h }
  ok_ready_owned manner.Joined priority o h = record { changes = λ t. same t; others = λ k ne. record { owner = λ t o. o; table = λ o. o; ready = λ o. o; queue = λ t o. refl; numbers = λ o. refl }; facts = h }
  ok_ready_owned manner.Reply priority o h = record { changes = λ t. same t; others = λ k ne. record { owner = λ t o. o; table = λ o. o; ready = λ o. o; queue = λ t o. refl; numbers = λ o. refl }; facts = h }

  pub ok_push : (m : Manner) (priority : ℕ) → Sound g b x (call_of caller to message zero m) (Pushing (PushReceiver priority)) → Fine g b x (call_of caller to message zero m) (Pushing (PushReceiver priority)) (asks.Released)
  ok_push manner.Plain priority h = record { changes = λ t. same t; others = λ k ne. record { owner = λ t o. o; table = λ o. o; ready = kept_lock ne None h.1.1.1.1.1.1.0; queue = λ t o. refl; numbers = λ o. refl }; facts = (h.0, (h.1.0, (h.1.1.0, (h.1.1.1.0, (h.1.1.1.1.0, (h.1.1.1.1.1.0, tt)))))) }
  ok_push manner.Joined priority h = record { changes = λ t. same t; others = λ k ne. record { owner = λ t o. o; table = λ o. o; ready = kept_lock ne None h.1.1.1.1.1.1.0; queue = λ t o. refl; numbers = λ o. refl }; facts = (h.0, (h.1.0, (h.1.1.0, (h.1.1.1.0, (h.1.1.1.1.0, (h.1.1.1.1.1.0, tt)))))) }
  ok_push manner.Reply priority h = record { changes = λ t. same t; others = λ k ne. record { owner = λ t o. o; table = λ o. o; ready = kept_lock ne None h.1.1.1.1.1.0; queue = λ t o. refl; numbers = λ o. refl }; facts = (h.0, (h.1.0, (h.1.1.0, (h.1.1.1.0, (h.1.1.1.1.0, tt))))) }

  pub ok_release_passed : (m : Manner) → Sound g b x (call_of caller to message zero m) (Locked (Release release.Passed)) → Fine g b x (call_of caller to message zero m) (Locked (Release release.Passed)) (asks.Released)
  ok_release_passed manner.Plain h = record { changes = λ t. same t; others = λ k ne. record { owner = released b.owner to.number caller.number k h.1.1.1.1.1.0 ne; table = λ o. o; ready = λ o. o; queue = λ t o. refl; numbers = λ o. refl }; facts = (h.1.0, (h.1.1.1.0, ((run_idle x.own _ h.1.1.1.0.0 h.1.1.1.0.1, rw (h.1.1.0, h.1.1.1.1.0) here), tt))) }
  ok_release_passed manner.Joined h = record { changes = λ t. same t; others = λ k ne. record { owner = released b.owner to.number caller.number k h.1.1.1.1.1.0 ne; table = λ o. o; ready = λ o. o; queue = λ t o. refl; numbers = λ o. refl }; facts = (h.1.0, (h.1.1.0, (h.1.1.1.0, (h.1.1.1.1.0, tt)))) }
  ok_release_passed manner.Reply h = record { changes = λ t. same t; others = λ k ne. record { owner = released b.owner to.number caller.number k h.1.1.1.1.0 ne; table = λ o. o; ready = λ o. o; queue = λ t o. refl; numbers = λ o. refl }; facts = (refl, (h.0, (h.1.0, (h.1.1.0, (h.1.1.1.0, tt))))) }
