-- A call that is decided: it may be made, and what its caller's number shows once it has taken its serial. The calls that are
-- answered at once, and those that wait.
use Rattle.std.proofs.Common.{◌≡◌, ℕ, ◌+◌, Bool, true, false, refl, sym, ap, ◌∙◌, subst, Some, None, arith, eqb, ◌&&◌, not}
use Rattle.k_ids.specs.declared.threads.ThreadId.{ThreadId}
use Rattle.k_ids.specs.declared.threads.Status.{Status}
use Rattle.k_ids.specs.declared.threads.Status.TheVariants as status
use Rattle.k_ids.specs.declared.calls.Act.TheVariants as act
use Rattle.k_ids.specs.declared.calls.Outcome.{Outcome}
use Rattle.k_ids.specs.declared.calls.Phase.{Phase}
use Rattle.k_ids.specs.declared.calls.Reply.{Reply}
use Rattle.k_ids.specs.declared.state_word.State.TheVariants as state
use Rattle.k_ids.specs.declared.state_word.StateWord.{StateWord}
use Rattle.k_model.specs.Answered.{IsAnswered}
use Rattle.k_model.specs.Maps.{upd}
use Rattle.k_model.specs.State.{KernelState, found_of, is_present}
use Rattle.k_model.specs.State.{answered as answered_in, is_dead as is_dead_status}
use Rattle.k_model.specs.Step.{acted, may_act}
use Rattle.k_model.specs.Step.{called as called_in}
use Rattle.k_model.proofs.Answered.{unanswered_next}
use Rattle.k_model.proofs.Maps.{upd_cases, upd_same, upd_tells}
use Rattle.k_locks.specs.Shown.{found_in, is_present_in, shows}
use Rattle.k_ipc.specs.Words.{is_joined_to}
use Rattle.k_script.specs.Plays.{Position}
use Rattle.k_board.specs.Words.{Begins, Programs, called}
use Rattle.k_board.specs.Boards.{Board}
use Rattle.k_board.specs.Facts.{IsRun, is_open}
use Rattle.k_board.specs.Steps.{with_word, write}
use Rattle.k_board.specs.Turns.{excepted_by}
use Rattle.k_points.specs.Points.{Decided}
use Rattle.k_points.specs.Shown.{Line, Tells, line_answered, line_called, shown, shown_by, status_by}
use Rattle.k_points.proofs.Cases.{by_number}
use Rattle.k_points.proofs.Lines.{tells_answered, tells_called}
use Rattle.k_points.proofs.Rows.{may_call, stepped}
use Rattle.k_points.proofs.Status.{closed_status, dead_by}

-- the serial of the call, the state in which its caller has taken it, and the lines of that state
abbrev pub serial_of : Board → ThreadId → ℕ
serial_of b me = (b.seen me.number).last + 1

abbrev pub now : Board → KernelState → ThreadId → KernelState
now b k me = called_in k me (serial_of b me)

abbrev pub now_line : Board → ThreadId → ℕ → Line
now_line b me = line_called (shown b) me.number (serial_of b me)

pub run_closed : (own : StateWord) → IsRun own → is_open own.state ≡ false
run_closed own r = ap is_open r.state

pub run_shown : (e : Bool) (w own : StateWord) → w ≡ own → IsRun own → status_by e w.state ≡ status.Run
run_shown e w own eq r =
    let s : w.state ≡ state.Run r.result = ap (λ (u : StateWord). u.state) eq
    ∙ r.state in rw s (closed_status e (state.Run r.result) refl)

-- the caller, whose word runs
module _ (b : Board) (k : KernelState) (sh : Tells k (shown b)) (an : IsAnswered k) (me : ThreadId) (own : StateWord)
    (is : (b.seen me.number).word ≡ own) (run : IsRun own) (v : me.version ≡ (b.seen me.number).word.version) where
  pub can_call : (p : Phase) → may_act k me (serial_of b me) (act.Call p) ≡ true
  can_call p = may_call k (shown b) me (serial_of b me) p sh (sym v) (run_shown _ _ own is run) refl

  pub now_tells : (p : Phase) → Tells (now b k me) (now_line b me)
  now_tells p = tells_called k (shown b) me (serial_of b me) (sym v) (unanswered_next k me (serial_of b me) p an (can_call p)) sh

  pub now_me : now_line b me me.number ≡ record (shown b me.number) { serial = serial_of b me; told = None }
  now_me = upd_same (shown b) me.number _

  -- what the state shows of a number, once the call has its serial
  pub version_now : (p : Phase) (t : ℕ) → ((now b k me).place t).version ≡ (b.seen t).word.version
  version_now p t =
      ap (λ (l : Line). l.version) (now_tells p t)
      ∙ upd_cases (λ (l : Line). l.version ≡ (b.seen t).word.version) (shown b) me.number _ t
      (λ e. ap (λ (i : ℕ). (b.seen i).word.version) (sym e)) (λ _. refl)

  pub status_is : (p : Phase) (t : ℕ) →
      ((now b k me).place t).status ≡ status_by (excepted_by (b.owner t) b.context t) (b.seen t).word.state
  status_is p t =
      ap (λ (l : Line). l.status) (now_tells p t)
      ∙ upd_cases (λ (l : Line). l.status ≡ status_by (excepted_by (b.owner t) b.context t) (b.seen t).word.state)
      (shown b) me.number _ t (λ q. ap (λ (i : ℕ). status_by (excepted_by (b.owner i) b.context i) (b.seen i).word.state) (sym q))
      (λ _. refl)

  pub status_now : (p : Phase) (t : ℕ) → excepted_by (b.owner t) b.context t ≡ false →
      ((now b k me).place t).status ≡ shows (b.seen t).word.state
  status_now p t e = status_is p t ∙ rw e refl

  pub found_now : (p : Phase) (t : ℕ) → excepted_by (b.owner t) b.context t ≡ false →
      found_of (now b k me) t ≡ found_in t (b.seen t).word
  found_now p t e = λ d. record { id = record { number = t; version = version_now p t d }; status = status_now p t e d }

  pub present_now : (p : Phase) (id : ThreadId) → is_present (now b k me) id ≡ is_present_in (b.seen id.number).word id
  present_now p id =
      (λ d. eqb (version_now p id.number d) id.version && not (is_dead_status (status_is p id.number d)))
      ∙ ap (λ (q : Bool). eqb (b.seen id.number).word.version id.version && not q)
      (dead_by (excepted_by (b.owner id.number) b.context id.number) (b.seen id.number).word.state)

  -- THE CALL IS DECIDED: by any row of the specification, and a board that shows what the row leaves
  module _ (g : Programs) (p : Phase) (at : Position)
      (plays : Begins g (b.seen me.number).position (b.seen me.number).told p at) (b' : Board) where
    pub decides : (o : Outcome) (new : KernelState) → acted k me (serial_of b me) (act.Call p) ≡ (new, o) →
        (b'.seen me.number).position ≡ at → Tells new (shown b') →
        Decided g b k (record { who = me; act = act.Call p; outcome = o }) b'
    decides o new row pos t = record {
      new = new;
      step = stepped k _ new o (can_call p) row;
      plays = subst (Begins g (b.seen me.number).position (b.seen me.number).told p) (sym pos) plays;
      lines = t;
    }

    module _ (ex : (j : ℕ) → excepted_by (b'.owner j) b'.context j ≡ excepted_by (b.owner j) b.context j) where
      -- it is answered, while its caller's word stays
      pub answers : (o : Outcome) (r : Reply) →
          acted k me (serial_of b me) (act.Call p) ≡ (answered_in (now b k me) me (serial_of b me) r, o) →
          ((j : ℕ) → b'.seen j ≡ upd b.seen me.number (called (b.seen me.number) (Some r) at) j) →
          Decided g b k (record { who = me; act = act.Call p; outcome = o }) b'
      answers o r row seen =
          decides o (answered_in (now b k me) me (serial_of b me) r) row
          (ap (λ u. u.position) (seen me.number ∙ upd_same b.seen me.number _))
          (λ j. tells_answered (now b k me) (now_line b me) me (serial_of b me) r (ap (λ (l : Line). l.version) now_me ∙ sym v)
          (ap (λ (l : Line). l.serial) now_me) (ap (λ (l : Line). l.told) now_me) (now_tells p) j ∙ line_is j
          ∙ (λ d. shown_by (sym (ex j) d) (sym (seen j) d)))
        where
          line_is : (j : ℕ) →
              line_answered (now_line b me) me.number r j ≡ shown_by (excepted_by (b.owner j) b.context j)
              (upd b.seen me.number (called (b.seen me.number) (Some r) at) j)
          line_is =
              by_number (λ j. line_answered (now_line b me) me.number r j ≡
              shown_by (excepted_by (b.owner j) b.context j) (upd b.seen me.number
              (called (b.seen me.number) (Some r) at) j)) me.number (grind (arith, upd_tells))
              (λ j ne. grind (arith, upd_tells))

      -- it waits, or ends the program: its caller's word becomes this one, and it has no reply
      pub waits : (o : Outcome) (new : KernelState) (w : StateWord) (s : Status) (joined : Bool) →
          acted k me (serial_of b me) (act.Call p) ≡ (new, o) → w.version ≡ (b.seen me.number).word.version →
          status_by (excepted_by (b.owner me.number) b.context me.number) w.state ≡ s → is_joined_to w.state ≡ joined →
          Tells new (upd (now_line b me) me.number (record (now_line b me me.number) { status = s; joined = joined })) →
          ((j : ℕ) → b'.seen j ≡ write (upd b.seen me.number (called (b.seen me.number) None at)) me.number w j) →
          Decided g b k (record { who = me; act = act.Call p; outcome = o }) b'
      waits o new w s joined row wv ws wj t seen =
          decides o new row (ap (λ u. u.position) (seen me.number
          ∙ upd_same (upd b.seen me.number (called (b.seen me.number) None at)) me.number _
          ∙ ap (λ u. with_word u w) (upd_same b.seen me.number (called (b.seen me.number) None at))))
          (λ j. t j ∙ line_is wv ws wj j ∙ (λ d. shown_by (sym (ex j) d) (sym (seen j) d)))
        where
          line_is : w.version ≡ (b.seen me.number).word.version →
              status_by (excepted_by (b.owner me.number) b.context me.number) w.state ≡ s → is_joined_to w.state ≡ joined →
              (j : ℕ) →
              upd (now_line b me) me.number (record (now_line b me me.number) { status = s; joined = joined }) j ≡
              shown_by (excepted_by (b.owner j) b.context j) (write
              (upd b.seen me.number (called (b.seen me.number) None at)) me.number w j)
          line_is wv ws wj =
              by_number (λ j. upd (now_line b me) me.number (record (now_line b me me.number) { status = s; joined = joined }) j ≡
              shown_by (excepted_by (b.owner j) b.context j) (write
              (upd b.seen me.number (called (b.seen me.number) None at)) me.number w j)) me.number (grind (arith, upd_tells))
              (λ j ne. grind (arith, upd_tells))
