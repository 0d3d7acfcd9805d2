-- The deciding steps of a send: it is refused, waits, or its message passes.
use Rattle.std.proofs.Common.{◌≡◌, ◌≢◌, ℕ, Bool, true, false, refl, sym, ap, ◌∙◌, Option, Some, None, arith, not, eqb}
use Rattle.std.proofs.lemmas.Bool.{and_parts, eqb-true, ne_eqb}
use Rattle.std.proofs.lemmas.Bool.Decides.{nat_tests}
use Rattle.k_ids.specs.declared.threads.Found.{Found}
use Rattle.k_ids.specs.declared.threads.ThreadId.{ThreadId}
use Rattle.k_ids.specs.declared.threads.Status.{Status}
use Rattle.k_ids.specs.declared.threads.Status.TheVariants as status
use Rattle.k_ids.specs.declared.calls.Act.TheVariants as act
use Rattle.k_ids.specs.declared.calls.Reply.{Reply}
use Rattle.k_ids.specs.declared.calls.Reply.TheVariants as reply
use Rattle.k_ids.specs.declared.calls.Outcome.TheVariants as outcome
use Rattle.k_ids.specs.declared.state_word.State.{State}
use Rattle.k_ids.specs.declared.state_word.State.TheVariants as state
use Rattle.k_ids.specs.declared.state_word.StateWord.{StateWord}
use Rattle.k_model.specs.Answered.{IsAnswered}
use Rattle.k_model.specs.Answered.{is_waiting as is_waiting_status}
use Rattle.k_model.specs.Maps.{upd}
use Rattle.k_model.specs.State.{KernelState, is_present, same_id, takes_from}
use Rattle.k_model.specs.State.{answered as answered_in}
use Rattle.k_model.specs.Step.{acted, passed, queued, send}
use Rattle.k_model.specs.Step.{called as called_in}
use Rattle.k_model.proofs.Maps.{upd_other, upd_tells}
use Rattle.k_locks.specs.Shown.{found_in, is_dead, is_present_in, shows}
use Rattle.k_ipc.specs.declared.send.Manner.{Manner}
use Rattle.k_ipc.specs.declared.send.Manner.TheVariants as manner
use Rattle.k_ipc.specs.declared.send.SendCall.{SendCall}
use Rattle.k_ipc.specs.SendTable.{is_joined, passed_word, phase_by, point_of, waiting_word}
use Rattle.k_script.specs.Plays.{Position}
use Rattle.k_board.specs.Words.{Begins, Programs, Seen, called, calls, passes_to, sent_reply, tells}
use Rattle.k_board.specs.Boards.{Board}
use Rattle.k_board.specs.Facts.{IsRun, is_open}
use Rattle.k_board.specs.Steps.{write}
use Rattle.k_board.specs.Turns.{excepted_by}
use Rattle.k_points.specs.Points.{Decided}
use Rattle.k_points.specs.Shown.{Line, Tells, line_passed, shown, shown_by}
use Rattle.k_points.proofs.Calls.{answers, decides, now, now_line, now_me, now_tells}
use Rattle.k_points.proofs.Calls.{found_now, present_now, serial_of, status_now, waits}
use Rattle.k_points.proofs.Cases.{by_numbers}
use Rattle.k_points.proofs.Lines.{tells_passed, tells_queued}
use Rattle.k_points.proofs.Rows.{reply_is, send_absent, send_busy, send_is, send_own, send_passes, send_waits}
use Rattle.k_points.proofs.Status.{unanswered_by}

pub same_turn : (a c : ThreadId) → same_id a c ≡ true → same_id c a ≡ true
same_turn a c h = grind (arith, nat_tests)

pub same_swap : (a c : ThreadId) → same_id a c ≡ false → same_id c a ≡ false
same_swap a c h = grind (arith, nat_tests)

-- one that isn't the thread that the caller's number has, isn't the caller
pub differs_is : (me to : ThreadId) (version : ℕ) → me.version ≡ version →
    same_id to (record { number = me.number; version = version }) ≡ false → same_id me to ≡ false
differs_is me to version v d = same_swap to me (ap (λ (n : ℕ). same_id to (record { number = me.number; version = n })) v ∙ d)

pub apart_is : (me to : ThreadId) → to.number ≢ me.number → same_id me to ≡ false
apart_is me to ne = rw (ne_eqb me.number to.number (λ q. ne (sym q))) refl

pub open_waits : (s : State) → is_open s ≡ true → is_waiting_status (shows s) ≡ true
open_waits state.Dead h = absurd (grind arith)
open_waits (state.Run r) h = absurd (grind arith)
open_waits (state.Sending to joined) h = refl
open_waits (state.Receiving from) h = refl
open_waits state.Picking h = refl
open_waits state.Ended h = absurd (grind arith)

-- the caller's status once its message has passed, and the reply to its call
abbrev pub passed_status : Manner → ThreadId → Status
passed_status manner.Plain to = status.Run
passed_status manner.Joined to = status.Receiving (Some to)
passed_status manner.Reply to = status.Picking

abbrev pub passed_reply : Manner → Option Reply
passed_reply manner.Plain = Some reply.Sent
passed_reply manner.Joined = None
passed_reply manner.Reply = None

-- a call and a reply are sends of the specification
pub row_is : (k : KernelState) (c : SendCall) (serial : ℕ) (m : Manner) →
    acted k c.caller serial (act.Call (phase_by c m)) ≡ send (called_in k c.caller serial) c.caller serial c.to c.message c.zero
    (is_joined m) (passed_status m c.to)
row_is k c serial manner.Plain = send_is k c.caller serial c.to c.message c.zero false
row_is k c serial manner.Joined = send_is k c.caller serial c.to c.message c.zero true
row_is k c serial manner.Reply = reply_is k c.caller serial c.to c.message c.zero

-- what the ledger has of them once the message has passed
pub noted_is : (s : ℕ → Seen) (c : SendCall) (at : Position) (m : Manner) →
    passes_to (calls s c.caller at (sent_reply (phase_by c m))) c.caller (phase_by c m) ≡
    tells (calls s c.caller at (passed_reply m)) c.to (reply.Got c.caller c.message)
noted_is s c at manner.Plain = refl
noted_is s c at manner.Joined = refl
noted_is s c at manner.Reply = refl

-- THE LINES OF A MESSAGE THAT PASSES

module _ (b : Board) (me to : ThreadId) (own : StateWord) (at : Position) (r : Reply) (ne : to.number ≢ me.number)
    (is : (b.seen me.number).word ≡ own) (run : IsRun own) (takes : is_open (b.seen to.number).word.state ≡ true) where
  abbrev passed_seen : Manner → ℕ → Seen
  passed_seen m = write (tells (calls b.seen me at (passed_reply m)) to r) me.number (passed_word m to own)

  pub passed_line : (m : Manner) (e : ℕ → Bool) → e me.number ≡ false → e to.number ≡ true →
      ((j : ℕ) → j ≢ me.number → j ≢ to.number → e j ≡ excepted_by (b.owner j) b.context j) → (j : ℕ) →
      line_passed (now_line b me) me.number to.number r (passed_status m to) j ≡ shown_by (e j) (passed_seen m j)
  passed_line manner.Plain e em et eo =
      by_numbers (λ j. line_passed (now_line b me) me.number to.number r (passed_status manner.Plain to) j ≡
      shown_by (e j) (passed_seen manner.Plain j)) me.number to.number (grind (arith, upd_tells)) (grind (arith, upd_tells))
      (λ j na nc. grind (arith, upd_tells, eo j na nc))
  passed_line manner.Joined e em et eo =
      by_numbers (λ j. line_passed (now_line b me) me.number to.number r (passed_status manner.Joined to) j ≡
      shown_by (e j) (passed_seen manner.Joined j)) me.number to.number (grind (arith, upd_tells)) (grind (arith, upd_tells))
      (λ j na nc. grind (arith, upd_tells, eo j na nc))
  passed_line manner.Reply e em et eo =
      by_numbers (λ j. line_passed (now_line b me) me.number to.number r (passed_status manner.Reply to) j ≡
      shown_by (e j) (passed_seen manner.Reply j)) me.number to.number (grind (arith, upd_tells)) (grind (arith, upd_tells))
      (λ j na nc. grind (arith, upd_tells, eo j na nc))

-- THE ROWS

module _ (g : Programs) (b : Board) (k : KernelState) (sh : Tells k (shown b)) (an : IsAnswered k) (c : SendCall)
    (own : StateWord) (is : (b.seen c.caller.number).word ≡ own) (run : IsRun own)
    (v : c.caller.version ≡ (b.seen c.caller.number).word.version) (at : Position)
    (plays : Begins g (b.seen c.caller.number).position (b.seen c.caller.number).told (phase_by c c.manner) at)
    (b' : Board) where
  abbrev me : ThreadId
  me = c.caller

  abbrev Refused : Reply → Type 0
  Refused r = (j : ℕ) → b'.seen j ≡ upd b.seen c.caller.number (called (b.seen c.caller.number) (Some r) at) j

  -- who is excepted stays
  abbrev Alike : Type 0
  Alike = (j : ℕ) → excepted_by (b'.owner j) b'.context j ≡ excepted_by (b.owner j) b.context j

  pub own_row : same_id c.to c.caller ≡ true → Alike → Refused reply.Own → Decided g b k (point_of c outcome.Own) b'
  own_row s ex seen =
      answers b k sh an me own is run v g (phase_by c c.manner) at plays b' ex outcome.Own reply.Own
      (row_is k c (serial_of b me) c.manner ∙ send_own (now b k me) me (serial_of b me) c.to c.message c.zero (is_joined c.manner)
      (passed_status c.manner c.to) (same_turn c.to me s)) seen

  module _ (diff : same_id c.caller c.to ≡ false) (free : excepted_by (b.owner c.to.number) b.context c.to.number ≡ false) where
    pub absent_row : (w : StateWord) → (b.seen c.to.number).word ≡ w → is_present_in w c.to ≡ false → Alike →
        Refused (reply.Absent (found_in c.to.number w)) → Decided g b k (point_of c (outcome.Absent (found_in c.to.number w))) b'
    absent_row w at_w gone ex seen =
        answers b k sh an me own is run v g (phase_by c c.manner) at plays b' ex (outcome.Absent (found_in c.to.number w))
        (reply.Absent (found_in c.to.number w))
        (row_is k c (serial_of b me) c.manner
        ∙ send_absent (now b k me) me (serial_of b me) c.to c.message c.zero (is_joined c.manner)
        (passed_status c.manner c.to) diff (present_now b k sh an me own is run v (phase_by c c.manner) c.to
        ∙ ap (λ (u : StateWord). is_present_in u c.to) at_w ∙ gone)
        ∙ ap (λ (f : Found). (answered_in (now b k me) me (serial_of b me) (reply.Absent f), outcome.Absent f))
        (found_now b k sh an me own is run v (phase_by c c.manner) c.to.number free ∙ ap (found_in c.to.number) at_w)) seen

    takes_now : (w : StateWord) → (b.seen c.to.number).word ≡ w → (t : Bool) → takes_from (shows w.state) c.caller c.zero ≡ t →
        takes_from ((now b k me).place c.to.number).status c.caller c.zero ≡ t
    takes_now w at_w t h =
        ap (λ (s : Status). takes_from s c.caller c.zero) (status_now b k sh an me own is run v
        (phase_by c c.manner) c.to.number free)
        ∙ ap (λ (u : StateWord). takes_from (shows u.state) c.caller c.zero) at_w ∙ h

    there_now : (w : StateWord) → (b.seen c.to.number).word ≡ w → is_present_in w c.to ≡ true →
        is_present (now b k me) c.to ≡ true
    there_now w at_w here =
        present_now b k sh an me own is run v (phase_by c c.manner) c.to ∙ ap (λ (u : StateWord). is_present_in u c.to) at_w
        ∙ here

    pub busy_row : (w : StateWord) → (b.seen c.to.number).word ≡ w → is_present_in w c.to ≡ true →
        takes_from (shows w.state) c.caller c.zero ≡ false → c.zero ≡ true → Alike →
        Refused (reply.Busy (found_in c.to.number w)) → Decided g b k (point_of c (outcome.Busy (found_in c.to.number w))) b'
    busy_row w at_w here t z ex seen =
        answers b k sh an me own is run v g (phase_by c c.manner) at plays b' ex (outcome.Busy (found_in c.to.number w))
        (reply.Busy (found_in c.to.number w))
        (row_is k c (serial_of b me) c.manner
        ∙ send_busy (now b k me) me (serial_of b me) c.to c.message c.zero (is_joined c.manner) (passed_status c.manner c.to) diff
        (there_now w at_w here) (takes_now w at_w false t) z
        ∙ ap (λ (f : Found). (answered_in (now b k me) me (serial_of b me) (reply.Busy f), outcome.Busy f))
        (found_now b k sh an me own is run v (phase_by c c.manner) c.to.number free ∙ ap (found_in c.to.number) at_w)) seen

    pub waits_row : is_present_in (b.seen c.to.number).word c.to ≡ true →
        takes_from (shows (b.seen c.to.number).word.state) c.caller c.zero ≡ false → c.zero ≡ false →
        excepted_by (b.owner c.caller.number) b.context c.caller.number ≡ false → Alike →
        ((j : ℕ) → b'.seen j ≡ write (upd b.seen c.caller.number (called (b.seen c.caller.number) None at)) c.caller.number
        (waiting_word c own) j) →
        Decided g b k (point_of c outcome.Waits) b'
    waits_row here t z mine ex seen =
        waits b k sh an me own is run v g (phase_by c c.manner) at plays b' ex outcome.Waits
        (queued (now b k me) me c.to c.message (is_joined c.manner)) (waiting_word c own) (status.Sending c.to)
        (is_joined c.manner)
        (row_is k c (serial_of b me) c.manner ∙ send_waits (now b k me) me (serial_of b me) c.to c.message c.zero
        (is_joined c.manner) (passed_status c.manner c.to) diff (there_now (b.seen c.to.number).word refl here)
        (takes_now (b.seen c.to.number).word refl false t) z)
        (ap (λ (u : StateWord). u.version) (sym is)) (rw mine refl) refl
        (tells_queued (now b k me) (now_line b me) me c.to c.message (is_joined c.manner)
        (now_tells b k sh an me own is run v (phase_by c c.manner))) seen

    -- the message passes: from now on the receiver counts as running, by where the caller's section stands
    pub passes_row : c.to.number ≢ c.caller.number → is_present_in (b.seen c.to.number).word c.to ≡ true →
        takes_from (shows (b.seen c.to.number).word.state) c.caller c.zero ≡ true →
        is_open (b.seen c.to.number).word.state ≡ true →
        excepted_by (b'.owner c.caller.number) b'.context c.caller.number ≡ false →
        excepted_by (b'.owner c.to.number) b'.context c.to.number ≡ true →
        ((j : ℕ) → j ≢ c.caller.number → j ≢ c.to.number → excepted_by (b'.owner j) b'.context j ≡
        excepted_by (b.owner j) b.context j) →
        ((j : ℕ) → b'.seen j ≡ write (tells (calls b.seen c.caller at (passed_reply c.manner)) c.to
        (reply.Got c.caller c.message)) c.caller.number (passed_word c.manner c.to own) j) →
        Decided g b k (point_of c outcome.Passed) b'
    passes_row ne here t o em et eo seen =
        decides b k sh an me own is run v g (phase_by c c.manner) at plays b' outcome.Passed
        (passed (now b k me) me (serial_of b me) c.to c.message (passed_status c.manner c.to))
        (row_is k c (serial_of b me) c.manner ∙ send_passes (now b k me) me (serial_of b me) c.to c.message c.zero
        (is_joined c.manner) (passed_status c.manner c.to) diff (there_now (b.seen c.to.number).word refl here)
        (takes_now (b.seen c.to.number).word refl true t))
        (ap (λ (u : Seen). u.position) (seen me.number) ∙ position_is)
        (λ j. tells_passed (now b k me) (now_line b me) me (serial_of b me) c.to c.message
        (passed_status c.manner c.to) ne to_version to_none (ap (λ (l : Line). l.version) me_line ∙ sym v)
        (ap (λ (l : Line). l.serial) me_line) (ap (λ (l : Line). l.told) me_line)
        (now_tells b k sh an me own is run v (phase_by c c.manner)) j
        ∙ passed_line b me c.to own at (reply.Got me c.message) ne is run o c.manner
        (λ j. excepted_by (b'.owner j) b'.context j) em et eo j
        ∙ ap (shown_by (excepted_by (b'.owner j) b'.context j)) (sym (seen j)))
      where
        me_line : now_line b me me.number ≡ record (shown b me.number) { serial = serial_of b me; told = None }
        me_line = now_me b k sh an me own is run v

        to_line : now_line b me c.to.number ≡ shown b c.to.number
        to_line = upd_other (shown b) me.number _ c.to.number ne

        to_version : (now_line b me c.to.number).version ≡ c.to.version
        to_version =
            ap (λ (l : Line). l.version) to_line
            ∙ eqb-true _ _ (and_parts (eqb (b.seen c.to.number).word.version c.to.version)
            (not (is_dead (b.seen c.to.number).word)) here).0

        to_none : (now_line b me c.to.number).told ≡ None
        to_none =
            ap (λ (l : Line). l.told) to_line
            ∙ unanswered_by k (shown b) sh an c.to.number (rw free (open_waits (b.seen c.to.number).word.state o))

        position_is : (write (tells (calls b.seen c.caller at (passed_reply c.manner)) c.to
            (reply.Got c.caller c.message)) c.caller.number (passed_word c.manner c.to own) me.number).position ≡ at
        position_is = grind (arith, upd_tells)
