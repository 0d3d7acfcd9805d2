-- The deciding steps of a receive and a pick: nobody is there, a waiting message is taken, it waits, or its partner is gone.
use Rattle.std.proofs.Common.{◌≡◌, ◌≢◌, ℕ, Bool, true, false, cond, refl, sym, ap, ◌∙◌, Option, Some, None, List, arith}
use Rattle.std.specs.Prelude.{position, slice_index_or}
use Rattle.k_ids.specs.declared.threads.ThreadId.{ThreadId}
use Rattle.k_ids.specs.declared.threads.Message.{Message}
use Rattle.k_ids.specs.declared.threads.Status.TheVariants as status
use Rattle.k_ids.specs.declared.calls.Act.TheVariants as act
use Rattle.k_ids.specs.declared.calls.Phase.TheVariants as phase
use Rattle.k_ids.specs.declared.calls.Reply.{Reply}
use Rattle.k_ids.specs.declared.calls.Reply.TheVariants as reply
use Rattle.k_ids.specs.declared.calls.Outcome.TheVariants as outcome
use Rattle.k_ids.specs.declared.state_word.Result4.TheVariants as result4
use Rattle.k_ids.specs.declared.state_word.State.TheVariants as state
use Rattle.k_ids.specs.declared.state_word.StateWord.{StateWord}
use Rattle.k_model.specs.Answered.{IsAnswered}
use Rattle.k_model.specs.Maps.{upd}
use Rattle.k_model.specs.State.{KernelState, Waiting, admits, with_status}
use Rattle.k_model.specs.Step.{entry_at, is_own, match_at, no_one, status_after, taken}
use Rattle.k_model.proofs.Maps.{upd_other, upd_same, upd_tells}
use Rattle.k_senders.specs.declared.entries.SenderEntry.{SenderEntry}
use Rattle.k_senders.specs.Entries.{message_of, number_of, sender_of}
use Rattle.k_ipc.specs.Words.{in_state, is_joined_to, on_in}
use Rattle.k_ipc.specs.declared.receive.ReceiveCall.{ReceiveCall}
use Rattle.k_ipc.specs.ReceiveTable.{act_of, point_by}
use Rattle.k_script.specs.Plays.{Position}
use Rattle.k_board.specs.Words.{Begins, Programs, Seen, answered, called, tells}
use Rattle.k_board.specs.Boards.{Board}
use Rattle.k_board.specs.Facts.{IsRun}
use Rattle.k_board.specs.Steps.{write}
use Rattle.k_board.specs.Turns.{excepted_by}
use Rattle.k_points.specs.Points.{Decided}
use Rattle.k_points.specs.Shown.{Line, Tells, line_answered, line_sent, line_status, shown, shown_by}
use Rattle.k_points.proofs.Calls.{answers, decides, now, now_line, now_me, now_tells, serial_of, waits}
use Rattle.k_points.proofs.Cases.{by_number, by_numbers}
use Rattle.k_points.proofs.Lines.{tells_status, tells_taken}
use Rattle.k_points.proofs.Rows.{may_pick, pick_is, receive_is, receive_nobody, receive_own}
use Rattle.k_points.proofs.Rows.{receive_takes, receive_waits, stepped, waiting_now, waiting_run}
use Rattle.k_points.proofs.Status.{unanswered_by}
use Rattle.k_points.proofs.Waiters.{IsFirst}

-- the first match depends on the receiver's list alone
match_same : (k l : KernelState) (me : ThreadId) (from : Option ThreadId) →
    (l.place me.number).waiting ≡ (k.place me.number).waiting → match_at l me from ≡ match_at k me from
match_same k l me from h = ap (λ (ws : List Waiting). position (λ w. admits from w.0) ws) h

entry_same : (k l : KernelState) (n at : ℕ) → (l.place n).waiting ≡ (k.place n).waiting → entry_at l n at ≡ entry_at k n at
entry_same k l n at h = ap (λ (ws : List Waiting). slice_index_or ws at no_one) h

-- THE LINES OF A MESSAGE THAT IS TAKEN: the receiver's number becomes v, and the sender goes on

module _ (b : Board) (me from : ThreadId) (message : Message) (w : StateWord) (v : Seen) (f1 : ℕ → Line) where
  abbrev pub took_seen : Bool → ℕ → Seen
  took_seen joined =
      write (cond joined (upd b.seen me.number v) (tells (upd b.seen me.number v) from reply.Sent)) from.number
      (cond joined (in_state (state.Receiving (Some me)) w) (on_in (state.Run result4.Sent) w))

  abbrev took_line : Bool → ℕ → Line
  took_line joined = line_sent (line_answered f1 me.number (reply.Got from message)) from.number (status_after joined me)

  took_lines : (joined : Bool) → from.number ≢ me.number → (b.seen from.number).word ≡ w → (e : ℕ → Bool) →
      e from.number ≡ false → line_answered f1 me.number (reply.Got from message) me.number ≡ shown_by (e me.number) v →
      f1 from.number ≡ shown b from.number → ((j : ℕ) → j ≢ me.number → j ≢ from.number → f1 j ≡ shown_by (e j) (b.seen j)) →
      (j : ℕ) → took_line joined j ≡ shown_by (e j) (took_seen joined j)
  took_lines true ne won e es mine s others =
      by_numbers (λ j. took_line true j ≡ shown_by (e j) (took_seen true j)) me.number from.number
      (grind (arith, upd_tells)) (grind (arith, upd_tells)) (λ j na nc. grind (arith, upd_tells, others j na nc))
  took_lines false ne won e es mine s others =
      by_numbers (λ j. took_line false j ≡ shown_by (e j) (took_seen false j)) me.number from.number
      (grind (arith, upd_tells)) (grind (arith, upd_tells)) (λ j na nc. grind (arith, upd_tells, others j na nc))

  took_position : (joined : Bool) → from.number ≢ me.number → (took_seen joined me.number).position ≡ v.position
  took_position true ne = grind (arith, upd_tells)
  took_position false ne = grind (arith, upd_tells)

  module _ (k1 : KernelState) (t1 : Tells k1 f1) (serial at : ℕ) (entry : entry_at k1 me.number at ≡ (from, message))
      (ne : from.number ≢ me.number) (mv : (f1 me.number).version ≡ me.version) (ms : (f1 me.number).serial ≡ serial)
      (mn : (f1 me.number).told ≡ None) (s : f1 from.number ≡ shown b from.number) (won : (b.seen from.number).word ≡ w)
      (sv : w.version ≡ from.version) (sn : (shown b from.number).told ≡ None) (b' : Board) where
    pub taken_shows : excepted_by (b'.owner from.number) b'.context from.number ≡ false →
        line_answered f1 me.number (reply.Got from message) me.number ≡
        shown_by (excepted_by (b'.owner me.number) b'.context me.number) v →
        ((j : ℕ) → j ≢ me.number → j ≢ from.number → f1 j ≡ shown_by (excepted_by (b'.owner j) b'.context j) (b.seen j)) →
        ((j : ℕ) → b'.seen j ≡ took_seen (is_joined_to w.state) j) → Tells (taken k1 me serial at) (shown b')
    taken_shows es mine others seen j =
        tells_taken k1 f1 me serial at (from, message) entry ne mv ms mn
        (ap (λ (l : Line). l.version) s ∙ ap (λ (u : StateWord). u.version) won ∙ sv) (ap (λ (l : Line). l.told) s ∙ sn) t1 j
        ∙ ap (λ (d : Bool). took_line d j) (ap (λ (l : Line). l.joined) s ∙ ap (λ (u : StateWord). is_joined_to u.state) won)
        ∙ took_lines (is_joined_to w.state) ne won (λ i. excepted_by (b'.owner i) b'.context i) es mine s others j
        ∙ ap (shown_by (excepted_by (b'.owner j) b'.context j)) (sym (seen j))

-- THE ROWS OF A RECEIVE

-- a receive that is no pick is a call; a pick goes on with a reply
pub plain_act : (c : ReceiveCall) → c.picks ≡ false → act_of c ≡ act.Call (phase.Receive c.from c.zero)
plain_act c e = rw e refl

pub pick_act : (c : ReceiveCall) → c.picks ≡ true → act_of c ≡ act.Pick
pick_act c e = rw e refl

module _ (g : Programs) (b : Board) (k : KernelState) (sh : Tells k (shown b)) (an : IsAnswered k) (c : ReceiveCall)
    (own : StateWord) (is : (b.seen c.caller.number).word ≡ own) (run : IsRun own)
    (v : c.caller.version ≡ (b.seen c.caller.number).word.version) (at : Position)
    (plays : Begins g (b.seen c.caller.number).position (b.seen c.caller.number).told (phase.Receive c.from c.zero) at)
    (b' : Board) where
  abbrev me : ThreadId
  me = c.caller

  abbrev serial : ℕ
  serial = serial_of b c.caller

  abbrev k1 : KernelState
  k1 = now b k c.caller

  abbrev after : SenderEntry → Seen
  after e = called (b.seen c.caller.number) (Some (reply.Got (sender_of e) (message_of e))) at

  abbrev Replied : Reply → Type 0
  Replied r = (j : ℕ) → b'.seen j ≡ upd b.seen c.caller.number (called (b.seen c.caller.number) (Some r) at) j

  -- who is excepted stays
  abbrev Alike : Type 0
  Alike = (j : ℕ) → excepted_by (b'.owner j) b'.context j ≡ excepted_by (b.owner j) b.context j

  pub own_row : is_own c.from c.caller ≡ true → Alike → Replied reply.Own →
      Decided g b k (point_by c (act.Call (phase.Receive c.from c.zero)) outcome.Own) b'
  own_row s ex seen =
      answers b k sh an me own is run v g (phase.Receive c.from c.zero) at plays b' ex outcome.Own reply.Own
      (receive_is k me serial c.from c.zero ∙ receive_own k1 me serial c.from c.zero s) seen

  module _ (other : is_own c.from c.caller ≡ false) where
    pub nobody_row : c.zero ≡ true → match_at k c.caller c.from ≡ None → Alike → Replied reply.Nobody →
        Decided g b k (point_by c (act.Call (phase.Receive c.from c.zero)) outcome.Nobody) b'
    nobody_row z none ex seen =
        answers b k sh an me own is run v g (phase.Receive c.from c.zero) at plays b' ex outcome.Nobody reply.Nobody
        (receive_is k me serial c.from c.zero ∙ receive_nobody k1 me serial c.from c.zero other
        (match_same k k1 me c.from (waiting_now k me serial me.number) ∙ none) z) seen

    pub waits_row : c.zero ≡ false → match_at k c.caller c.from ≡ None →
        excepted_by (b.owner c.caller.number) b.context c.caller.number ≡ false → Alike →
        ((j : ℕ) → b'.seen j ≡ write (upd b.seen c.caller.number (called (b.seen c.caller.number) None at)) c.caller.number
        (in_state (state.Receiving c.from) own) j) →
        Decided g b k (point_by c (act.Call (phase.Receive c.from c.zero)) outcome.Waits) b'
    waits_row z none mine ex seen =
        waits b k sh an me own is run v g (phase.Receive c.from c.zero) at plays b' ex outcome.Waits
        (with_status k1 me.number (status.Receiving c.from)) (in_state (state.Receiving c.from) own)
        (status.Receiving c.from) false
        (receive_is k me serial c.from c.zero ∙ receive_waits k1 me serial c.from c.zero other
        (match_same k k1 me c.from (waiting_now k me serial me.number) ∙ none) z)
        (ap (λ (u : StateWord). u.version) (sym is)) (rw mine refl) refl
        (tells_status k1 (now_line b me) me.number (status.Receiving c.from)
        (now_tells b k sh an me own is run v (phase.Receive c.from c.zero))) seen

    pub took_row : (e : SenderEntry) (w : StateWord) → IsFirst k c.caller c.from e → number_of e ≢ c.caller.number →
        (b.seen (number_of e)).word ≡ w → w.version ≡ (sender_of e).version → (b.seen (number_of e)).told ≡ None →
        excepted_by (b.owner (number_of e)) b.context (number_of e) ≡ false → Alike →
        ((j : ℕ) → b'.seen j ≡ took_seen b c.caller (sender_of e) (message_of e) w
        (called (b.seen c.caller.number) (Some (reply.Got (sender_of e) (message_of e))) at) (now_line b c.caller)
        (is_joined_to w.state) j) →
        Decided g b k (point_by c (act.Call (phase.Receive c.from c.zero)) (outcome.Took (sender_of e) (message_of e))) b'
    took_row e w first ne won sv sn es ex seen =
        decides b k sh an me own is run v g (phase.Receive c.from c.zero) at plays b' (outcome.Took (sender_of e) (message_of e))
        (taken k1 me serial first.at)
        (receive_is k me serial c.from c.zero ∙ receive_takes k1 me serial c.from c.zero first.at other
        (match_same k k1 me c.from (waiting_now k me serial me.number) ∙ first.first)
        ∙ ap (λ (u : Waiting). (taken k1 me serial first.at, outcome.Took u.0 u.1)) entry_is)
        (ap (λ (u : Seen). u.position) (seen me.number) ∙ took_position b me (sender_of e) (message_of e) w (after e)
        (now_line b me) (is_joined_to w.state) ne)
        (taken_shows b me (sender_of e) (message_of e) w (after e) (now_line b me) k1
        (now_tells b k sh an me own is run v (phase.Receive c.from c.zero)) serial first.at entry_is ne
        (ap (λ (l : Line). l.version) line_is ∙ sym v) (ap (λ (l : Line). l.serial) line_is)
        (ap (λ (l : Line). l.told) line_is) (upd_other (shown b) me.number _ (number_of e) ne) won sv sn b'
        (ex (number_of e) ∙ es)
        (me_line ∙ ap (λ (d : Bool). shown_by d (after e)) (sym (ex me.number)))
        (λ j na nc. upd_other (shown b) me.number _ j na ∙ ap (λ (d : Bool). shown_by d (b.seen j)) (sym (ex j))) seen)
      where
        entry_is : entry_at k1 me.number first.at ≡ (sender_of e, message_of e)
        entry_is = entry_same k k1 me.number first.at (waiting_now k me serial me.number) ∙ first.entry

        line_is : now_line b me me.number ≡ record (shown b me.number) { serial = serial_of b me; told = None }
        line_is = now_me b k sh an me own is run v

        me_line : line_answered (now_line b me) me.number (reply.Got (sender_of e) (message_of e)) me.number ≡
            shown_by (excepted_by (b.owner me.number) b.context me.number) (after e)
        me_line = grind (arith, upd_tells)

-- THE ROWS OF A PICK

module _ (g : Programs) (b : Board) (k : KernelState) (sh : Tells k (shown b)) (an : IsAnswered k) (c : ReceiveCall)
    (is : (b.seen c.caller.number).word.state ≡ state.Picking)
    (v : c.caller.version ≡ (b.seen c.caller.number).word.version)
    (free : excepted_by (b.owner c.caller.number) b.context c.caller.number ≡ false) (b' : Board) where
  abbrev us : ThreadId
  us = c.caller

  abbrev last : ℕ
  last = (b.seen c.caller.number).last

  abbrev replied : SenderEntry → Seen
  replied e = answered (b.seen c.caller.number) (reply.Got (sender_of e) (message_of e))

  abbrev k2 : KernelState
  k2 = with_status k c.caller.number status.Run

  abbrev f2 : ℕ → Line
  f2 = line_status (shown b) c.caller.number status.Run

  pub pick_waits_row : match_at k c.caller None ≡ None →
      ((j : ℕ) → excepted_by (b'.owner j) b'.context j ≡ excepted_by (b.owner j) b.context j) → (w : StateWord) →
      w.version ≡ (b.seen c.caller.number).word.version → w.state ≡ state.Receiving None →
      ((j : ℕ) → b'.seen j ≡ write b.seen c.caller.number w j) → Decided g b k (point_by c act.Pick outcome.Waits) b'
  pick_waits_row none ex w wv ws seen =
      record {
        new = with_status k2 us.number (status.Receiving None);
        step =
            stepped k _ _ outcome.Waits (may_pick k (shown b) us last sh (sym v) (rw (free, is) refl) refl)
            (pick_is k us last ∙ receive_waits k2 us last None false refl
            (match_same k k2 us None (waiting_run k us.number us.number) ∙ none) refl);
        plays = ap (λ (u : Seen). u.position) (seen us.number ∙ upd_same b.seen us.number _);
        lines =
            λ j. tells_status k2 f2 us.number (status.Receiving None) (tells_status k (shown b) us.number status.Run sh) j
            ∙ line_is j ∙ (λ d. shown_by (sym (ex j) d) (sym (seen j) d));
      }
    where
      line_is : (j : ℕ) →
          line_status f2 us.number (status.Receiving None) j ≡
          shown_by (excepted_by (b.owner j) b.context j) (write b.seen us.number w j)
      line_is =
          by_number (λ j. line_status f2 us.number (status.Receiving None) j ≡
          shown_by (excepted_by (b.owner j) b.context j) (write b.seen us.number w j)) us.number (grind (arith, upd_tells))
          (λ j ne. grind (arith, upd_tells))

  -- from now on the caller counts as running, by where its section stands
  pub pick_took_row : (e : SenderEntry) (w : StateWord) → IsFirst k c.caller None e → number_of e ≢ c.caller.number →
      (b.seen (number_of e)).word ≡ w → w.version ≡ (sender_of e).version → (b.seen (number_of e)).told ≡ None →
      excepted_by (b.owner (number_of e)) b.context (number_of e) ≡ false →
      excepted_by (b'.owner c.caller.number) b'.context c.caller.number ≡ true →
      ((j : ℕ) → j ≢ c.caller.number → excepted_by (b'.owner j) b'.context j ≡ excepted_by (b.owner j) b.context j) →
      ((j : ℕ) → b'.seen j ≡ took_seen b c.caller (sender_of e) (message_of e) w
      (answered (b.seen c.caller.number) (reply.Got (sender_of e) (message_of e)))
      (line_status (shown b) c.caller.number status.Run) (is_joined_to w.state) j) →
      Decided g b k (point_by c act.Pick (outcome.Took (sender_of e) (message_of e))) b'
  pick_took_row e w first ne won sv sn es em eo seen =
      record {
        new = taken k2 us last first.at;
        step =
            stepped k _ _ (outcome.Took (sender_of e) (message_of e))
            (may_pick k (shown b) us last sh (sym v) (rw (free, is) refl) refl)
            (pick_is k us last ∙ receive_takes k2 us last None false first.at refl
            (match_same k k2 us None (waiting_run k us.number us.number) ∙ first.first)
            ∙ ap (λ (u : Waiting). (taken k2 us last first.at, outcome.Took u.0 u.1)) entry_is);
        plays =
            ap (λ (u : Seen). u.position) (seen us.number)
            ∙ took_position b us (sender_of e) (message_of e) w (replied e) f2 (is_joined_to w.state) ne;
        lines =
            taken_shows b us (sender_of e) (message_of e) w (replied e) f2 k2
            (tells_status k (shown b) us.number status.Run sh) last first.at entry_is ne
            (ap (λ (l : Line). l.version) line_is ∙ sym v) (ap (λ (l : Line). l.serial) line_is)
            (ap (λ (l : Line). l.told) line_is ∙ unanswered_by k (shown b) sh an us.number (rw (free, is) refl))
            (upd_other (shown b) us.number _ (number_of e) ne) won sv sn b'
            (eo (number_of e) ne ∙ es) (me_line ∙ ap (λ (d : Bool). shown_by d (replied e)) (sym em))
            (λ j na nc. upd_other (shown b) us.number _ j na ∙ ap (λ (d : Bool). shown_by d (b.seen j)) (sym (eo j na))) seen;
      }
    where
      entry_is : entry_at k2 us.number first.at ≡ (sender_of e, message_of e)
      entry_is = entry_same k k2 us.number first.at (waiting_run k us.number us.number) ∙ first.entry

      line_is : f2 us.number ≡ record (shown b us.number) { status = status.Run; joined = false }
      line_is = upd_same (shown b) us.number _

      me_line : line_answered f2 us.number (reply.Got (sender_of e) (message_of e)) us.number ≡ shown_by true (replied e)
      me_line = grind (arith, upd_tells)
