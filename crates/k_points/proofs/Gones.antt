-- One that waits for a thread that isn't there is freed: the event may be made, and the board shows what it leaves.
use Rattle.std.proofs.Common.{◌≡◌, ℕ, Bool, true, false, refl, ap, ◌∙◌, eqb, ◌&&◌, not, None}
use Rattle.k_ids.specs.declared.threads.ThreadId.{ThreadId}
use Rattle.k_ids.specs.declared.threads.Status.{Status}
use Rattle.k_ids.specs.declared.threads.Status.TheVariants as status
use Rattle.k_ids.specs.declared.calls.Act.TheVariants as act
use Rattle.k_ids.specs.declared.calls.Outcome.TheVariants as outcome
use Rattle.k_ids.specs.declared.calls.Reply.TheVariants as reply
use Rattle.k_model.specs.Answered.{IsAnswered}
use Rattle.k_model.specs.Answered.{is_waiting as is_waiting_status}
use Rattle.k_model.specs.State.{KernelState, is_present, waits_for_absent, with_status}
use Rattle.k_model.specs.State.{answered as answered_in, is_dead as is_dead_status}
use Rattle.k_locks.specs.Shown.{is_present_in}
use Rattle.k_board.specs.Words.{Programs}
use Rattle.k_board.specs.Boards.{Board}
use Rattle.k_board.specs.Turns.{excepted_by}
use Rattle.k_points.specs.Points.{Decided}
use Rattle.k_points.specs.Shown.{Tells, line_answered, line_status, shown, status_by}
use Rattle.k_points.proofs.Lines.{tells_gone}
use Rattle.k_points.proofs.Rows.{gone_is, may_gone, present_by, stepped}
use Rattle.k_points.proofs.Status.{dead_by, unanswered_by}

module _ (b : Board) (k : KernelState) (sh : Tells k (shown b)) where
  -- a thread is present in the state as its number's word says, whoever is excepted
  pub present_is : (id : ThreadId) → is_present k id ≡ is_present_in (b.seen id.number).word id
  present_is id =
      present_by k (shown b) id sh
      ∙ ap (λ (q : Bool). eqb (b.seen id.number).word.version id.version && not q)
      (dead_by (excepted_by (b.owner id.number) b.context id.number) (b.seen id.number).word.state)

  pub gone_row : (g : Programs) (an : IsAnswered k) (id : ThreadId) (st : Status) (b' : Board) →
      (b.seen id.number).word.version ≡ id.version →
      status_by (excepted_by (b.owner id.number) b.context id.number) (b.seen id.number).word.state ≡ st →
      is_dead_status st ≡ false → is_waiting_status st ≡ true → waits_for_absent k st ≡ true →
      (b'.seen id.number).position ≡ (b.seen id.number).position →
      ((j : ℕ) → line_answered (line_status (shown b) id.number status.Run) id.number reply.Gone j ≡ shown b' j) →
      Decided g b k (record { who = id; act = act.Gone; outcome = outcome.Freed }) b'
  gone_row g an id st b' v is alive waits absent position lines =
      let none : (shown b id.number).told ≡ None = unanswered_by k (shown b) sh an id.number (ap is_waiting_status is ∙ waits) in
      record {
        new = answered_in (with_status k id.number status.Run) id (b.seen id.number).last reply.Gone;
        step =
            stepped k _ _ outcome.Freed (may_gone k (shown b) id (b.seen id.number).last sh v (ap is_dead_status is ∙ alive)
            (ap (waits_for_absent k) is ∙ absent) refl) (gone_is k id (b.seen id.number).last);
        plays = position;
        lines = λ j. tells_gone k (shown b) id (b.seen id.number).last v refl none sh j ∙ lines j;
      }
