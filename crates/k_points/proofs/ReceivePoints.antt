-- Each step of a receive and of a pick decides its point, or leaves what the board shows.
use Rattle.std.proofs.Common.{◌≡◌, ◌≢◌, ℕ, Bool, true, false, cond, refl, sym, ap}
use Rattle.std.proofs.Common.{◌∙◌, subst, Option, Some, None, arith, not, eqb}
use Rattle.std.proofs.lemmas.Bool.{and_parts, eq-eqb, eqb-true, ne_eqb}
use Rattle.k_ids.specs.declared.threads.ThreadId.{ThreadId}
use Rattle.k_ids.specs.declared.threads.Status.TheVariants as status
use Rattle.k_ids.specs.declared.calls.Act.{Act}
use Rattle.k_ids.specs.declared.calls.Act.TheVariants as act
use Rattle.k_ids.specs.declared.calls.Phase.TheVariants as phase
use Rattle.k_ids.specs.declared.calls.Reply.TheVariants as reply
use Rattle.k_ids.specs.declared.calls.Outcome.{Outcome}
use Rattle.k_ids.specs.declared.calls.Outcome.TheVariants as outcome
use Rattle.k_ids.specs.declared.state_word.Result4.TheVariants as result4
use Rattle.k_ids.specs.declared.state_word.State.{State}
use Rattle.k_ids.specs.declared.state_word.State.TheVariants as state
use Rattle.k_ids.specs.declared.state_word.StateWord.{StateWord}
use Rattle.k_model.specs.Answered.{IsAnswered}
use Rattle.k_model.specs.Maps.{upd}
use Rattle.k_model.specs.State.{KernelState}
use Rattle.k_model.specs.Step.{is_own, match_at}
use Rattle.k_model.proofs.Maps.{upd_other, upd_same, upd_tells}
use Rattle.k_senders.specs.declared.entries.SenderEntry.{SenderEntry}
use Rattle.k_senders.specs.Entries.{message_of, number_of, sender_of}
use Rattle.k_locks.specs.declared.points.Point.{Point}
use Rattle.k_locks.specs.declared.steps.Went.TheVariants as went
use Rattle.k_locks.specs.Asks.{Response}
use Rattle.k_locks.specs.Asks as asks
use Rattle.k_locks.specs.Shown.{is_dead, is_dead_state, is_present_in}
use Rattle.k_ipc.specs.Candidates.{first_admitted}
use Rattle.k_ipc.specs.Words.{freed, in_state, is_joined_to, on_in, sends_to}
use Rattle.k_ipc.specs.declared.receive.ReceiveCall.{ReceiveCall}
use Rattle.k_ipc.specs.declared.receive.ReceiveOutside.TheVariants as outside
use Rattle.k_ipc.specs.declared.receive.ReceiveLocked.{ReceiveLocked}
use Rattle.k_ipc.specs.declared.receive.ReceiveLocked.TheVariants as locked
use Rattle.k_ipc.specs.declared.receive.ReceiveRelease.{ReceiveRelease}
use Rattle.k_ipc.specs.declared.receive.ReceiveRelease.TheVariants as returns
use Rattle.k_ipc.specs.declared.receive.ReceivePushing.TheVariants as pushing
use Rattle.k_ipc.specs.ReceiveTable.{ReceiveAt, act_of, after_free, after_wait, candidates_after, nobody_left}
use Rattle.k_ipc.specs.ReceiveTable.{picking_by, point_by, released_end, stays_out, still_waits, try_next, try_sender}
use Rattle.k_ipc.specs.ReceiveTable as receive
use Rattle.k_board.specs.Words.{Begins, Programs, Seen, act_noted, answered, called, noted, tells}
use Rattle.k_board.specs.Boards.{Board, Context, InReceive, hand_of}
use Rattle.k_board.specs.Facts.{AllSay, IsRun, is_open}
use Rattle.k_board.specs.Places.{PlacesHold, facts_receive, receive_phase}
use Rattle.k_board.specs.Steps.{Answers, after, receive_board, receive_context, with_word, write}
use Rattle.k_board.specs.Turns.{excepted_by, excepts, is_number}
use Rattle.k_board.proofs.Cases.{if_cases}
use Rattle.k_board.proofs.ReceivePlaces.{SendsTo, sends_is}
use Rattle.k_board.proofs.Scan.{none_end, none_left}
use Rattle.k_points.specs.Points.{Decided, Goes, Lists}
use Rattle.k_points.specs.Shown.{Tells, line, line_answered, line_status, shown, shown_by}
use Rattle.k_points.proofs.Calls.{now_line}
use Rattle.k_points.proofs.Cases.{by_number}
use Rattle.k_points.proofs.Gones.{gone_row, present_is}
use Rattle.k_points.proofs.Quiet.{acquired_still, released_still, settled_still, still}
use Rattle.k_points.proofs.ReceiveRows.{nobody_row, own_row, pick_act, pick_took_row}
use Rattle.k_points.proofs.ReceiveRows.{pick_waits_row, plain_act, took_row, took_seen, waits_row}
use Rattle.k_points.proofs.SendPoints.{alive_own}
use Rattle.k_points.proofs.Status.{excepted_same, unanswered_by, unexcepted}
use Rattle.k_points.proofs.Waiters.{IsFirst, first_found, none_found}

run_alive : (w own : StateWord) → w ≡ own → IsRun own → is_dead w ≡ false
run_alive w own e r = ap is_dead e ∙ ap is_dead_state r.state

picking_alive : (w own : StateWord) → w ≡ own → own.state ≡ state.Picking → is_dead w ≡ false
picking_alive w own e s = ap is_dead e ∙ ap is_dead_state s

module _ (g : Programs) (b : Board) (k : KernelState) (ok : PlacesHold g b) (sh : Tells k (shown b)) (an : IsAnswered k)
    (c : ReceiveCall) (li : Lists b k c.caller.number) where
  abbrev x : Context
  x = b.context c.caller.number

  abbrev Here : ReceiveAt → Type 0
  Here p = (b.context c.caller.number).at ≡ InReceive c p

  abbrev Sound : ReceiveAt → Type 0
  Sound p = AllSay g b c.caller.number (b.context c.caller.number) (facts_receive c p)

  abbrev Step : ReceiveAt → Response → Type 0
  Step p r =
      Goes g b k (receive.points c (b.seen c.caller.number).word (hand_of b (b.queue c.caller.number)) p r)
      (receive_board g b c.caller.number (b.context c.caller.number) c p r)

  abbrev next : ReceiveLocked → Context
  next q = record (b.context c.caller.number) { at = InReceive c (receive.Locked q) }

  abbrev ended : Bool → Context
  ended dead = record (b.context c.caller.number) { at = after c.caller (cond dead went.CallerDead (went.Ends reply.Own)) }

  -- a section that has read, and whose location is this now
  abbrev Led : Option Point → ReceiveLocked → Type 0
  Led o q =
      Goes g b k o (record b {
        seen = noted g b.seen (b.context c.caller.number).position o;
        context = upd b.context c.caller.number (next q);
      })

  -- the section's context alone changes
  quiet : (p : ReceiveAt) (x' : Context) → Here p → excepts x'.at ≡ excepts (InReceive c p) → (n : ℕ) →
      line k n ≡ shown_by (excepted_by (b.owner n) (upd b.context c.caller.number x') n) (b.seen n)
  quiet p x' at e n = sh n ∙ sym (still b c.caller.number x' (e ∙ sym (ap excepts at)) n)

  released : (p : ReceiveAt) (x' : Context) → Here p → b.owner c.caller.number ≡ Some c.caller.number → excepts x'.at ≡ None →
      excepts (InReceive c p) ≡ None → (n : ℕ) →
      line k n ≡ shown_by (excepted_by (upd b.owner c.caller.number None n) (upd b.context c.caller.number x') n) (b.seen n)
  released p x' at o e old n = sh n ∙ sym (released_still b c.caller.number x' c.caller.number o e (ap excepts at ∙ old) n)

  -- Who is excepted stays, where the section's old and new locations except nobody.
  alike : (p : ReceiveAt) (x' : Context) → Here p → excepts (InReceive c p) ≡ None → excepts x'.at ≡ None → (j : ℕ) →
      excepted_by (b.owner j) (upd b.context c.caller.number x') j ≡ excepted_by (b.owner j) b.context j
  alike p x' at old new j =
      excepted_same (b.owner j) b.context c.caller.number x' j
      (ap (λ (o : Option ℕ). is_number o j) (new ∙ sym (ap excepts at ∙ old)))

  -- the caller isn't excepted while its section has its lock, and excepts nobody
  free_me : (p : ReceiveAt) → Here p → excepts (InReceive c p) ≡ None → b.owner c.caller.number ≡ Some c.caller.number →
      excepted_by (b.owner c.caller.number) b.context c.caller.number ≡ false
  free_me p at old o =
      ap (λ (q : Option ℕ). excepted_by q b.context c.caller.number) o
      ∙ ap (λ (q : Option ℕ). is_number q c.caller.number) (ap excepts at ∙ old)

  -- A call is decided as one.
  plainly : (o : Outcome) (b' : Board) → c.picks ≡ false →
      Decided g b k (point_by c (act.Call (phase.Receive c.from c.zero)) o) b' → Decided g b k (point_by c (act_of c) o) b'
  plainly o b' e d = subst (λ (a : Act). Decided g b k (point_by c a o) b') (sym (plain_act c e)) d

  picking : (o : Outcome) (b' : Board) → c.picks ≡ true → Decided g b k (point_by c act.Pick o) b' →
      Decided g b k (point_by c (act_of c) o) b'
  picking o b' e d = subst (λ (a : Act). Decided g b k (point_by c a o) b') (sym (pick_act c e)) d

  -- WITHOUT A CANDIDATE

  chosen : (p : ReceiveAt) → Here p → excepts (InReceive c p) ≡ None → (c.picks ≡ false) × (is_own c.from c.caller ≡ false) →
      (b.seen c.caller.number).word ≡ (b.context c.caller.number).own → IsRun (b.context c.caller.number).own →
      c.caller.version ≡ (b.seen c.caller.number).word.version →
      Begins g (b.seen c.caller.number).position (b.seen c.caller.number).told (receive_phase c)
      (b.context c.caller.number).position →
      (o : Option SenderEntry) → (o ≡ None → match_at k c.caller c.from ≡ None) →
      Goes g b k (nobody_left c o) (record b {
        seen = noted g b.seen (b.context c.caller.number).position (nobody_left c o);
        context = upd b.context c.caller.number (record (b.context c.caller.number) {
          at =
              InReceive c (receive.Locked (try_sender c o));
        });
      })
  chosen p at ex plain own run v plays (Some e) lists = quiet p _ at (sym ex)
  chosen p at ex plain own run v plays None lists = go c.zero refl
    where
      go : (z : Bool) → c.zero ≡ z →
          Goes g b k (cond z (Some (point_by c (act_of c) outcome.Nobody)) None)
          (record b {
            seen = noted g b.seen (b.context c.caller.number).position
                (cond z (Some (point_by c (act_of c) outcome.Nobody)) None);
            context = upd b.context c.caller.number (next (cond z (locked.Release returns.Nobody) locked.CommitWait));
          })
      go true z =
          plainly outcome.Nobody _ plain.0 (nobody_row g b k sh an c (b.context c.caller.number).own own run v
          (b.context c.caller.number).position plays _ plain.1 z (lists refl)
          (alike p (next (locked.Release returns.Nobody)) at ex refl)
          (λ j. ap (λ (a : Act). act_noted g b.seen c.caller (b.context c.caller.number).position a outcome.Nobody j)
          (plain_act c plain.0)))
      go false z = quiet p _ at (sym ex)

  loads : (w : StateWord) → (b.seen c.caller.number).word ≡ w → Here (receive.Locked locked.LoadOwn) →
      Sound (receive.Locked locked.LoadOwn) → Step (receive.Locked locked.LoadOwn) (asks.Word w)
  loads w is at h = go (is_dead w) refl
    where
      go : (dead : Bool) → is_dead w ≡ dead →
          Led (cond dead None (nobody_left c (first_admitted c.from (b.queue c.caller.number))))
          (cond dead (locked.Release returns.Dead) (try_sender c (first_admitted c.from (b.queue c.caller.number))))
      go true d = quiet (receive.Locked locked.LoadOwn) (next (locked.Release returns.Dead)) at refl
      go false d =
          chosen (receive.Locked locked.LoadOwn) at refl h.0 (alive_own _ _ h.1.1.1.1.1.0.1
          (ap is_dead is ∙ d)) h.1.1.1.1.1.0.0 h.1.1.0.1 h.1.1.1.1.0.1 (first_admitted c.from (b.queue c.caller.number))
          (λ q. none_found b k c h.1.1.0.1 (li.own c _ at h.1.0 (ap is_dead is ∙ d))
          (none_left c b.seen (b.queue c.caller.number) q))

  senders : (e : SenderEntry) (w : StateWord) → (b.seen (number_of e)).word ≡ w → Here (receive.Locked (locked.LoadSender e)) →
      Sound (receive.Locked (locked.LoadSender e)) → Step (receive.Locked (locked.LoadSender e)) (asks.Word w)
  senders e w is at h = go (still_waits c e w) refl
    where
      go : (waits_ : Bool) → still_waits c e w ≡ waits_ →
          Led (cond waits_ None (nobody_left c (candidates_after c (hand_of b (b.queue c.caller.number)) e)))
          (cond waits_ (locked.FreeSender e w) (try_sender c (candidates_after c (hand_of b (b.queue c.caller.number)) e)))
      go true s = quiet (receive.Locked (locked.LoadSender e)) (next (locked.FreeSender e w)) at refl
      go false s =
          let kept = h.1.1.1.1.1.0 in
          let reaches = h.1.1.1.1.1.1.0 in
          chosen (receive.Locked (locked.LoadSender e)) at refl h.0 kept.1 kept.0 h.1.1.0.1 h.1.1.1.1.0.1
          (candidates_after c (hand_of b (b.queue c.caller.number)) e)
          (λ q. none_found b k c h.1.1.0.1 (li.own c _ at h.1.0 (run_alive _ _ kept.1 kept.0))
          (none_end c b.seen (b.queue c.caller.number) e reaches.2 (λ _. ap (still_waits c e) is ∙ s) reaches.4 q))

  -- OTHER LOCATIONS OF A RECEIVE

  selfs : (w : StateWord) → (b.seen c.caller.number).word ≡ w → Here (receive.Outside outside.LoadCaller) →
      Sound (receive.Outside outside.LoadCaller) → Step (receive.Outside outside.LoadCaller) (asks.Word w)
  selfs w is at h = go (is_dead w) refl
    where
      go : (dead : Bool) → is_dead w ≡ dead →
          Goes g b k (cond dead None (Some (point_by c (act_of c) outcome.Own)))
          (record b {
            seen = noted g b.seen (b.context c.caller.number).position
                (cond dead None (Some (point_by c (act_of c) outcome.Own)));
            context = upd b.context c.caller.number (ended dead);
          })
      go true d = quiet (receive.Outside outside.LoadCaller) (ended true) at refl
      go false d =
          plainly outcome.Own _ h.0.0 (own_row g b k sh an c (b.context c.caller.number).own
          (alive_own _ _ h.1.1.1.1.0.1 (ap is_dead is ∙ d)) h.1.1.1.1.0.0 h.1.0.1
          (b.context c.caller.number).position h.1.1.1.0.1 _ h.0.1
          (alike (receive.Outside outside.LoadCaller) (ended false) at refl refl)
          (λ j. ap (λ (a : Act). act_noted g b.seen c.caller (b.context c.caller.number).position a outcome.Own j)
          (plain_act c h.0.0)))

  waits : Here (receive.Locked locked.CommitWait) → Sound (receive.Locked locked.CommitWait) →
      Step (receive.Locked locked.CommitWait) asks.Won
  waits at h =
      let kept = h.1.1.1.1.1.0 in
      plainly outcome.Waits _ h.0.0 (waits_row g b k sh an c (b.context c.caller.number).own kept.1 kept.0 h.1.1.0.1
      (b.context c.caller.number).position h.1.1.1.1.0.1 _ h.0.1 h.1.1.1.1.1.1.0
      (none_found b k c h.1.1.0.1 (li.own c _ at h.1.0 (run_alive _ _ kept.1 kept.0)) h.1.1.1.1.1.1.1.0.2)
      (free_me (receive.Locked locked.CommitWait) at refl h.1.0)
      (alike (receive.Locked locked.CommitWait) _ at refl (after_none c.from))
      (λ j. ap (λ (a : Act). write (act_noted g b.seen c.caller
      (b.context c.caller.number).position a outcome.Waits) c.caller.number
      (in_state (state.Receiving c.from) (b.context c.caller.number).own) j) (plain_act c h.0.0)))
    where
      after_none : (f : Option ThreadId) → excepts (InReceive c (receive.Locked (after_wait f))) ≡ None
      after_none None = refl
      after_none (Some s) = refl

  partners : (f : ThreadId) (w : StateWord) → (b.seen f.number).word ≡ w → Here (receive.Locked (locked.LoadPartner f)) →
      Sound (receive.Locked (locked.LoadPartner f)) → Step (receive.Locked (locked.LoadPartner f)) (asks.Word w)
  partners f w is at h = go (is_present_in w f) refl
    where
      mine : b.owner c.caller.number ≡ Some c.caller.number
      mine = h.1.1.1.1.0.0

      state_is : (b.seen c.caller.number).word.state ≡ state.Receiving (Some f)
      state_is =
          ap (λ (u : StateWord). u.state) h.1.1.1.1.0.1 ∙ h.1.1.1.1.0.2 ∙ ap (λ (o : Option ThreadId). state.Receiving o) h.0

      me_line : line_answered (line_status (shown b) c.caller.number status.Run) c.caller.number reply.Gone c.caller.number ≡
          shown_by true (answered (b.seen c.caller.number) reply.Gone)
      me_line = grind (arith, upd_tells, state_is)

      gone_line : (j : ℕ) →
          line_answered (line_status (shown b) c.caller.number status.Run) c.caller.number reply.Gone j ≡
          shown_by (excepted_by (b.owner j) (upd b.context c.caller.number (next (locked.CommitGone f))) j)
          (upd b.seen c.caller.number (answered (b.seen c.caller.number) reply.Gone) j)
      gone_line =
          by_number (λ j. line_answered (line_status (shown b) c.caller.number status.Run) c.caller.number reply.Gone j ≡
          shown_by (excepted_by (b.owner j) (upd b.context c.caller.number (next (locked.CommitGone f))) j)
          (upd b.seen c.caller.number (answered (b.seen c.caller.number) reply.Gone) j)) c.caller.number
          (let e : excepted_by (b.owner c.caller.number) (upd b.context c.caller.number
          (next (locked.CommitGone f))) c.caller.number ≡ true =
          rw (mine, upd_same b.context c.caller.number (next (locked.CommitGone f)))
          (eq-eqb c.caller.number c.caller.number refl) in
          me_line ∙ (λ d. shown_by (sym e d)
          (sym (upd_same b.seen c.caller.number (answered (b.seen c.caller.number) reply.Gone)) d)))
          (λ j ne. let e : excepted_by (b.owner j) (upd b.context c.caller.number (next (locked.CommitGone f))) j ≡
          excepted_by (b.owner j) b.context j = excepted_same (b.owner j) b.context c.caller.number
          (next (locked.CommitGone f)) j (ne_eqb c.caller.number j (λ q. ne (sym q))
          ∙ sym (ap (λ (o : Option ℕ). is_number o j) (ap excepts at))) in
          upd_other (line_status (shown b) c.caller.number status.Run) c.caller.number _ j ne
          ∙ upd_other (shown b) c.caller.number _ j ne ∙ (λ d.
          shown_by (sym e d) (sym (upd_other b.seen c.caller.number (answered (b.seen c.caller.number) reply.Gone) j ne) d)))

      go : (present : Bool) → is_present_in w f ≡ present →
          Led (cond present None (Some (point_by c act.Gone outcome.Freed)))
          (cond present (locked.Release returns.Waits) (locked.CommitGone f))
      go true p = quiet (receive.Locked (locked.LoadPartner f)) (next (locked.Release returns.Waits)) at refl
      go false p =
          gone_row b k sh g an c.caller (status.Receiving (Some f)) _ (sym h.1.0.1)
          (rw (free_me (receive.Locked (locked.LoadPartner f)) at refl mine, state_is) refl) refl refl
          (ap not (present_is b k sh f ∙ ap (λ (u : StateWord). is_present_in u f) is ∙ p))
          (ap (λ (u : Seen). u.position) (upd_same b.seen c.caller.number
          (answered (b.seen c.caller.number) reply.Gone))) gone_line

  gone_shown : (v : Seen) (own : StateWord) → v.word ≡ own → (f : Option ThreadId) → own.state ≡ state.Receiving f →
      shown_by false (with_word v (in_state (state.Run result4.Gone) own)) ≡ shown_by true v
  gone_shown v own e f q =
      let s : v.word.state ≡ state.Receiving f = ap (λ (u : StateWord). u.state) e
      ∙ q in rw s (λ d. record (shown_by false (with_word v (in_state (state.Run result4.Gone) own))) {
        version =
            (sym e d).version;
      })

  ended_shown : (v : Seen) (own : StateWord) → v.word ≡ own → own.state ≡ state.Picking →
      shown_by false (with_word v (on_in (state.Run result4.Plain) own)) ≡ shown_by true v
  ended_shown v own e q =
      let s : v.word.state ≡ state.Picking = ap (λ (u : StateWord). u.state) e
      ∙ q in rw s (λ d. record (shown_by false (with_word v (on_in (state.Run result4.Plain) own))) {
        version =
            (sym e d).version;
      })

  free_none : (e : SenderEntry) (w : StateWord) → excepts (InReceive c (receive.Locked (after_free e w))) ≡ None
  free_none e w =
      if_cases (λ q. excepts (InReceive c (receive.Locked q)) ≡ None) (stays_out w) (locked.Release (returns.Taken e))
      (locked.AcquireReady e) (λ _. refl) (λ _. refl)

  next_none : (o : Option SenderEntry) → excepts (InReceive c (receive.Locked (try_next o))) ≡ None
  next_none None = refl
  next_none (Some e) = refl

  picking_none : (o : Option SenderEntry) (s : State) → excepts (InReceive c (receive.Locked (picking_by o s))) ≡ None
  picking_none o state.Dead = refl
  picking_none o (state.Run r) = refl
  picking_none o (state.Sending to joined) = refl
  picking_none o (state.Receiving f) = refl
  picking_none o state.Picking = next_none o
  picking_none o state.Ended = refl

  ends_none : (r : ReceiveRelease) → excepts (after c.caller (released_end r)) ≡ None
  ends_none (returns.Taken e) = refl
  ends_none returns.Waits = refl
  ends_none returns.Delivered = refl
  ends_none returns.Gone = refl
  ends_none returns.Nobody = refl
  ends_none returns.Dead = refl

  -- A WAITING MESSAGE IS TAKEN

  module _ (e : SenderEntry) (w : StateWord) (won : (b.seen (number_of e)).word ≡ w)
      (waits_still : still_waits c e w ≡ true)
      (idle : (to : ThreadId) (joined : Bool) → (b.seen c.caller.number).word.state ≡ state.Sending to joined → ⊥) where
    both : (eqb w.version (sender_of e).version ≡ true) × (sends_to c.caller w.state ≡ true)
    both = and_parts (eqb w.version (sender_of e).version) (sends_to c.caller w.state) waits_still

    sends : SendsTo c.caller w.state
    sends = sends_is c.caller w.state both.1

    state_is : (b.seen (number_of e)).word.state ≡ state.Sending c.caller sends.joined
    state_is = ap (λ (u : StateWord). u.state) won ∙ sends.is

    sender_apart : number_of e ≢ c.caller.number
    sender_apart q = idle c.caller sends.joined (ap (λ (n : ℕ). (b.seen n).word.state) (sym q) ∙ state_is)

    sender_version : w.version ≡ (sender_of e).version
    sender_version = eqb-true w.version (sender_of e).version both.0

    sender_free : excepted_by (b.owner (number_of e)) b.context (number_of e) ≡ false
    sender_free = unexcepted g b ok (number_of e) (ap is_open state_is)

    sender_none : (b.seen (number_of e)).told ≡ None
    sender_none = unanswered_by k (shown b) sh an (number_of e) (rw (sender_free, state_is) refl)

    -- what is written, with the caller's number noted as v
    written_is : (v : Seen) (j : ℕ) →
        write (cond (is_joined_to (upd b.seen c.caller.number v (number_of e)).word.state) (upd b.seen c.caller.number v)
        (tells (upd b.seen c.caller.number v) (sender_of e) reply.Sent)) (number_of e) (freed c.caller w) j ≡
        took_seen b c.caller (sender_of e) (message_of e) w v (now_line b c.caller) (is_joined_to w.state) j
    written_is v j =
        ap (λ (d : Bool). write (cond d (upd b.seen c.caller.number v)
        (tells (upd b.seen c.caller.number v) (sender_of e) reply.Sent)) (number_of e) (freed c.caller w) j)
        (ap (λ (u : Seen). is_joined_to u.word.state) (upd_other b.seen c.caller.number v (number_of e) sender_apart)
        ∙ ap (λ (u : StateWord). is_joined_to u.state) won)

  run_sends_not : (own : StateWord) → (b.seen c.caller.number).word ≡ own → IsRun own → (to : ThreadId) (joined : Bool) →
      (b.seen c.caller.number).word.state ≡ state.Sending to joined → ⊥
  run_sends_not own is run to joined q =
      let s : state.Run run.result ≡ state.Sending to joined = sym run.state ∙ ap (λ (u : StateWord). u.state) (sym is) ∙ q in cc

  picking_sends_not : (own : StateWord) → (b.seen c.caller.number).word ≡ own → own.state ≡ state.Picking →
      (to : ThreadId) (joined : Bool) → (b.seen c.caller.number).word.state ≡ state.Sending to joined → ⊥
  picking_sends_not own is pick to joined q =
      let s : state.Picking ≡ state.Sending to joined = sym pick ∙ ap (λ (u : StateWord). u.state) (sym is) ∙ q in cc

  takes : (e : SenderEntry) (w : StateWord) → (b.seen (number_of e)).word ≡ w → Here (receive.Locked (locked.FreeSender e w)) →
      Sound (receive.Locked (locked.FreeSender e w)) → Step (receive.Locked (locked.FreeSender e w)) asks.Won
  takes e w won at h =
      let kept = h.1.1.1.1.1.1.0 in
      let reaches = h.1.1.1.1.1.1.1.0 in
      let idle = run_sends_not (b.context c.caller.number).own kept.1 kept.0 in
      plainly (outcome.Took (sender_of e) (message_of e)) _ h.0.0
      (took_row g b k sh an c (b.context c.caller.number).own kept.1 kept.0 h.1.1.1.0.1
      (b.context c.caller.number).position h.1.1.1.1.1.0.1 _ h.0.1 e w
      (first_found b k c h.1.1.1.0.1 (li.own c _ at h.1.0 (run_alive _ _ kept.1 kept.0)) e reaches.2 reaches.3
      (ap (still_waits c e) won ∙ h.1.1.0) reaches.4)
      (sender_apart e w won h.1.1.0 idle) won (sender_version e w won h.1.1.0 idle) (sender_none e w won h.1.1.0 idle)
      (sender_free e w won h.1.1.0 idle)
      (alike (receive.Locked (locked.FreeSender e w)) _ at refl (free_none e w))
      (λ j. ap (λ (a : Act). write (act_noted g b.seen c.caller (b.context c.caller.number).position a
      (outcome.Took (sender_of e) (message_of e))) (number_of e) (freed c.caller w) j) (plain_act c h.0.0)
      ∙ written_is e w won h.1.1.0 idle (called (b.seen c.caller.number) (Some (reply.Got (sender_of e) (message_of e)))
      (b.context c.caller.number).position) j))

  pick_takes : (e : SenderEntry) (w : StateWord) → (b.seen (number_of e)).word ≡ w → Here (receive.Locked (locked.FreeNext e w)) →
      Sound (receive.Locked (locked.FreeNext e w)) → Step (receive.Locked (locked.FreeNext e w)) asks.Won
  pick_takes e w won at h =
      let own = h.1.1.1.1.0 in
      let reaches = h.1.1.1.1.1.1.0 in
      let picks : c.picks ≡ true = ap (λ (d : ReceiveCall). d.picks) h.0 in
      let idle = picking_sends_not (b.context c.caller.number).own own.1 own.2 in
      let next : Context = receive_context (b.context c.caller.number) c (receive.Locked (locked.FreeNext e w)) asks.Won
      (hand_of b (b.queue c.caller.number)) in
      picking (outcome.Took (sender_of e) (message_of e)) _ picks
      (pick_took_row g b k sh an c (ap (λ (u : StateWord). u.state) own.1 ∙ own.2) h.1.0.1
      (free_me (receive.Locked (locked.FreeNext e w)) at refl own.0) _ e w
      (subst (λ (f : Option ThreadId). IsFirst k c.caller f e) (ap (λ (d : ReceiveCall). d.from) h.0)
      (first_found b k c h.1.0.1 (li.own c _ at own.0 (picking_alive _ _ own.1 own.2)) e reaches.2 reaches.3
      (ap (still_waits c e) won ∙ h.1.1.1.1.1.0) reaches.4))
      (sender_apart e w won h.1.1.1.1.1.0 idle) won (sender_version e w won h.1.1.1.1.1.0 idle)
      (sender_none e w won h.1.1.1.1.1.0 idle) (sender_free e w won h.1.1.1.1.1.0 idle)
      (rw (own.0, upd_same b.context c.caller.number next) (eq-eqb c.caller.number c.caller.number refl))
      (λ j ne. excepted_same (b.owner j) b.context c.caller.number next j
      (ne_eqb c.caller.number j (λ q. ne (sym q)) ∙ sym (ap (λ (o : Option ℕ). is_number o j) (ap excepts at))))
      (λ j. ap (λ (a : Act). write (act_noted g b.seen c.caller (b.context c.caller.number).position a
      (outcome.Took (sender_of e) (message_of e))) (number_of e) (freed c.caller w) j) (pick_act c picks)
      ∙ written_is e w won h.1.1.1.1.1.0 idle (answered (b.seen c.caller.number) (reply.Got (sender_of e) (message_of e))) j))

  pick_waits : Here (receive.Locked locked.SettlePick) → Sound (receive.Locked locked.SettlePick) →
      Step (receive.Locked locked.SettlePick) asks.Won
  pick_waits at h =
      let own = h.1.1.1.1.0 in
      let picks : c.picks ≡ true = ap (λ (d : ReceiveCall). d.picks) h.0 in
      picking outcome.Waits _ picks (pick_waits_row g b k sh an c (ap (λ (u : StateWord). u.state) own.1 ∙ own.2) h.1.0.1
      (free_me (receive.Locked locked.SettlePick) at refl own.0) _
      (subst (λ (f : Option ThreadId). match_at k c.caller f ≡ None) (ap (λ (d : ReceiveCall). d.from) h.0)
      (none_found b k c h.1.0.1 (li.own c _ at own.0 (picking_alive _ _ own.1 own.2)) h.1.1.1.1.1.0.2))
      (alike (receive.Locked locked.SettlePick) _ at refl refl) (on_in (state.Receiving None) (b.context c.caller.number).own)
      (ap (λ (u : StateWord). u.version) (sym own.1)) refl
      (λ j. ap (λ (a : Act). write (act_noted g b.seen c.caller
      (b.context c.caller.number).position a outcome.Waits) c.caller.number
      (on_in (state.Receiving None) (b.context c.caller.number).own) j) (pick_act c picks)))

  begins_free : (picks : Bool) → excepts (InReceive c (receive.Locked (cond picks locked.LoadPicking locked.LoadOwn))) ≡ None
  begins_free true = refl
  begins_free false = refl

  never_lost : {A : Type 0} (v own : StateWord) → (b.seen c.caller.number).word ≡ own →
      ((b.seen c.caller.number).word ≡ v) × (v ≢ own) → A
  never_lost v own w a = absurd (a.1 (sym a.0 ∙ w))

  release_points : (r : ReceiveRelease) → Here (receive.Locked (locked.Release r)) → Sound (receive.Locked (locked.Release r)) →
      Step (receive.Locked (locked.Release r)) asks.Released
  release_points (returns.Taken e) at h = released (receive.Locked (locked.Release (returns.Taken e))) _ at h.0 refl refl
  release_points returns.Waits at h = released (receive.Locked (locked.Release returns.Waits)) _ at h.1.1.1.0.0 refl refl
  release_points returns.Delivered at h = released (receive.Locked (locked.Release returns.Delivered)) _ at h.0 refl refl
  release_points returns.Gone at h = released (receive.Locked (locked.Release returns.Gone)) _ at h.0 refl refl
  release_points returns.Nobody at h = released (receive.Locked (locked.Release returns.Nobody)) _ at h.0 refl refl
  release_points returns.Dead at h = released (receive.Locked (locked.Release returns.Dead)) _ at h.0 refl refl

  -- every location, with every response that the board gives
  pub receive_points : (p : ReceiveAt) (r : Response) → Here p →
      Answers b (receive.ask_of c (b.context c.caller.number).own p) r → Sound p → Step p r
  receive_points (receive.Outside outside.LoadCaller) (asks.Word w) at a h = selfs w a at h
  receive_points (receive.Outside outside.AcquireOwn) asks.Got at a h =
      λ n. sh n ∙ sym (acquired_still b c.caller.number _ c.caller.number a (begins_free c.picks) (ap excepts at) n)
  receive_points (receive.Outside outside.AcquireOwn) (asks.Owned o) at a h = quiet (receive.Outside outside.AcquireOwn) _ at refl
  receive_points (receive.Locked locked.LoadOwn) (asks.Word w) at a h = loads w a at h
  receive_points (receive.Locked (locked.LoadSender e)) (asks.Word w) at a h = senders e w a at h
  receive_points (receive.Locked (locked.FreeSender e w)) asks.Won at a h = takes e w a at h
  receive_points (receive.Locked (locked.FreeSender e w)) (asks.Lost v) at a h =
      quiet (receive.Locked (locked.FreeSender e w)) _ at refl
  receive_points (receive.Locked (locked.AcquireReady e)) asks.Got at a h =
      quiet (receive.Locked (locked.AcquireReady e)) _ at refl
  receive_points (receive.Locked (locked.AcquireReady e)) (asks.Owned o) at a h =
      quiet (receive.Locked (locked.AcquireReady e)) _ at refl
  receive_points (receive.Pushing (pushing.LoadFreed e)) (asks.Word w) at a h =
      quiet (receive.Pushing (pushing.LoadFreed e)) _ at refl
  receive_points (receive.Pushing (pushing.PushFreed e w)) asks.Released at a h =
      quiet (receive.Pushing (pushing.PushFreed e w)) _ at refl
  receive_points (receive.Locked locked.CommitWait) asks.Won at a h = waits at h
  receive_points (receive.Locked locked.CommitWait) (asks.Lost v) at a h =
      never_lost v (b.context c.caller.number).own h.1.1.1.1.1.0.1 a
  receive_points (receive.Locked (locked.LoadPartner f)) (asks.Word w) at a h = partners f w a at h
  receive_points (receive.Locked (locked.CommitGone f)) asks.Won at a h =
      let own = h.1.1.1.0 in λ n. sh n
      ∙ sym (settled_still b c.caller.number _ c.caller.number _ own.0 refl (ap excepts at)
      (gone_shown (b.seen c.caller.number) (b.context c.caller.number).own own.1 c.from own.2) n)
  receive_points (receive.Locked (locked.CommitGone f)) (asks.Lost v) at a h =
      never_lost v (b.context c.caller.number).own h.1.1.1.0.1 a
  receive_points (receive.Locked locked.LoadPicking) (asks.Word w) at a h =
      quiet (receive.Locked locked.LoadPicking) _ at (picking_none (first_admitted c.from (b.queue c.caller.number)) w.state)
  receive_points (receive.Locked (locked.LoadNext e)) (asks.Word w) at a h =
      quiet (receive.Locked (locked.LoadNext e)) _ at (if_cases (λ q. excepts (InReceive c (receive.Locked q)) ≡ None)
      (still_waits c e w) (locked.FreeNext e w) (try_next (candidates_after c (hand_of b (b.queue c.caller.number)) e))
      (λ _. refl) (λ _. next_none (candidates_after c (hand_of b (b.queue c.caller.number)) e)))
  receive_points (receive.Locked (locked.FreeNext e w)) asks.Won at a h = pick_takes e w a at h
  receive_points (receive.Locked (locked.FreeNext e w)) (asks.Lost v) at a h =
      quiet (receive.Locked (locked.FreeNext e w)) _ at refl
  receive_points (receive.Locked (locked.EndPick e w)) asks.Won at a h =
      let own = h.1.1.1.1.0 in λ n. sh n
      ∙ sym (settled_still b c.caller.number _ c.caller.number _ own.0 (free_none e w) (ap excepts at)
      (ended_shown (b.seen c.caller.number) (b.context c.caller.number).own own.1 own.2) n)
  receive_points (receive.Locked (locked.EndPick e w)) (asks.Lost v) at a h =
      never_lost v (b.context c.caller.number).own h.1.1.1.1.0.1 a
  receive_points (receive.Locked locked.SettlePick) asks.Won at a h = pick_waits at h
  receive_points (receive.Locked locked.SettlePick) (asks.Lost v) at a h =
      never_lost v (b.context c.caller.number).own h.1.1.1.1.0.1 a
  receive_points (receive.Locked (locked.Release r)) asks.Released at a h = release_points r at h
  receive_points (receive.Outside (outside.Ended w)) r at a h = absurd h.0
  receive_points p r at a h = absurd a
