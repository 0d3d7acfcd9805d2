-- The turns of a thread outside of any section, of a call that begins, and of a switch: the end of a program is an event of the
-- specification, and all else shows the same.
use Rattle.std.proofs.Common.{◌≡◌, ℕ, true, false, refl, sym, ap, ◌∙◌, subst, []}
use Rattle.k_ids.specs.declared.threads.Status.TheVariants as status
use Rattle.k_ids.specs.declared.calls.Outcome.TheVariants as outcome
use Rattle.k_ids.specs.declared.calls.Phase.TheVariants as phase
use Rattle.k_ids.specs.declared.state_word.State.TheVariants as state
use Rattle.k_ids.specs.declared.state_word.StateWord.{StateWord}
use Rattle.k_model.specs.Answered.{IsAnswered}
use Rattle.k_model.specs.State.{KernelState, with_status}
use Rattle.k_locks.specs.Asks.{Response}
use Rattle.k_locks.specs.Asks as asks
use Rattle.k_caller.specs.declared.thread.ThreadLocation.{ThreadLocation}
use Rattle.k_caller.specs.declared.thread.ThreadLocation.TheVariants as location
use Rattle.k_caller.specs.Waits.{ask_of, can_ask, ended_word, off_word, points}
use Rattle.k_switch.specs.declared.switch.SwitchCall.{SwitchCall}
use Rattle.k_switch.specs.declared.switch.SwitchLocked.TheVariants as switch_locked
use Rattle.k_switch.specs.Switches.{SwitchAt}
use Rattle.k_switch.specs.Switches as switch
use Rattle.k_board.specs.Words.{Programs}
use Rattle.k_board.specs.Boards.{Alone, At, Board, Context, InSwitch, hand_of, id_at}
use Rattle.k_board.specs.Facts.{AllSay}
use Rattle.k_board.specs.Places.{facts_alone, facts_of}
use Rattle.k_board.specs.Steps.{Answers, alone_board, alone_context, placed, switch_board, switch_context, with_word}
use Rattle.k_board.specs.Turns.{excepted_by, excepts}
use Rattle.k_good.specs.Good.{IsGood}
use Rattle.k_points.specs.Shown.{Shows, Tells, shown, shown_by}
use Rattle.k_points.specs.Points.{Goes}
use Rattle.k_points.proofs.Calls.{now, now_line, now_tells, serial_of, waits}
use Rattle.k_points.proofs.Exceptions.{Owns, SameExceptions, excepted_still, moved_same, owned_still, quiet}
use Rattle.k_points.proofs.Lines.{tells_status}
use Rattle.k_points.proofs.Quiet.{same_still}
use Rattle.k_points.proofs.Rows.{end_is}
use Rattle.k_points.proofs.Status.{closed_status}

module _ (g : Programs) (b : Board) (k : KernelState) (sh : Shows b k) where
  -- one context moves, and nothing else is seen to change
  pub placed_points : (i : ℕ) (x : Context) → excepts x.at ≡ excepts (b.context i).at → Tells k (shown (placed b i x))
  placed_points i x e =
      quiet k b (placed b i x) sh.lines (λ n. excepted_still b.context _ (moved_same b.context i x e) (b.owner n) n) (λ n. refl)

  module _ (good : IsGood g b) (an : IsAnswered k) (i : ℕ) where
    abbrev x : Context
    x = b.context i

    abbrev New : ThreadLocation → Response → Board
    New p r = alone_board g b i (b.context i) p r

    same_exceptions : (p : ThreadLocation) (r : Response) → (b.context i).at ≡ Alone p → SameExceptions b (New p r)
    same_exceptions p r at n =
        excepted_still b.context _ (moved_same b.context i (alone_context x p r) (sym (ap excepts at))) (b.owner n) n

    quiet_by : (p : ThreadLocation) (r : Response) → (b.context i).at ≡ Alone p → ((n : ℕ) → (New p r).seen n ≡ b.seen n) →
        Tells k (shown (New p r))
    quiet_by p r at is = quiet k b (New p r) sh.lines (same_exceptions p r at) is

    ended : (b.context i).at ≡ Alone location.CommitEnd → (b.seen i).word ≡ x.own →
        AllSay g b i x (facts_alone location.CommitEnd) →
        Goes g b k (points (id_at b i) location.CommitEnd asks.Won) (New location.CommitEnd asks.Won)
    ended at won h =
        let me = id_at b i in
        waits b k sh.lines an me x.own won h.1.1.0.0 refl g phase.End x.position h.1.0.1 (New location.CommitEnd asks.Won)
        (same_exceptions location.CommitEnd asks.Won at) outcome.Ended (with_status (now b k me) i status.Ended)
        (ended_word x.own) status.Ended false
        (end_is k me (serial_of b me)) (ap (λ (u : StateWord). u.version) (sym won))
        (closed_status (excepted_by (b.owner i) b.context i) state.Ended refl) refl
        (tells_status (now b k me) (now_line b me) i status.Ended
        (now_tells b k sh.lines an me x.own won h.1.1.0.0 refl phase.End)) (λ j. refl)

    asleep : (b.context i).at ≡ Alone location.FallAsleep → (b.seen i).word ≡ x.own →
        Tells k (shown (New location.FallAsleep asks.Won))
    asleep at won n =
        sh.lines n
        ∙ sym (same_still b i (alone_context x location.FallAsleep asks.Won) i (with_word (b.seen i) (off_word x.own))
        (sym (ap excepts at)) (λ d. ap (λ (u : StateWord). shown_by d (with_word (b.seen i) (off_word u))) (sym won)) n)

    goes : (p : ThreadLocation) (r : Response) → can_ask p ≡ true → (b.context i).at ≡ Alone p →
        Answers b (ask_of (id_at b i) x.own p) r → AllSay g b i x (facts_alone p) → Goes g b k (points (id_at b i) p r) (New p r)
    goes location.FallAsleep asks.Won can at ans h = asleep at ans
    goes location.FallAsleep (asks.Lost w) can at ans h = quiet_by location.FallAsleep (asks.Lost w) at (λ n. refl)
    goes location.LookAgain (asks.Word w) can at ans h = quiet_by location.LookAgain (asks.Word w) at (λ n. refl)
    goes (location.LoadMail from) (asks.Mail m) can at ans h = quiet_by (location.LoadMail from) (asks.Mail m) at (λ n. refl)
    goes (location.Work count) (asks.Word w) can at ans h = quiet_by (location.Work count) (asks.Word w) at (λ n. refl)
    goes location.CommitEnd asks.Won can at ans h = ended at ans h
    goes location.CommitEnd (asks.Lost w) can at ans h = quiet_by location.CommitEnd (asks.Lost w) at (λ n. refl)
    goes (location.Between l) r can at ans h = absurd cc
    goes location.Asleep r can at ans h = absurd cc
    goes location.Ended r can at ans h = absurd cc
    goes location.Dead r can at ans h = absurd cc
    goes p r can at ans h = absurd ans

-- A turn of a thread outside of any section is one event of the specification where it has a point, and shows the same where it
-- has none.
pub alone_points : (g : Programs) (b : Board) (k : KernelState) → IsGood g b → Shows b k → IsAnswered k →
    (i : ℕ) (p : ThreadLocation) (r : Response) → (b.context i).at ≡ Alone p → can_ask p ≡ true →
    Answers b (ask_of (id_at b i) (b.context i).own p) r →
    Goes g b k (points (id_at b i) p r) (alone_board g b i (b.context i) p r)
alone_points g b k good sh an i p r at can ans =
    goes g b k sh good an i p r can at ans (subst (λ (q : At). AllSay g b i (b.context i) (facts_of q)) at (good.places i))

-- A switch shows the same: it takes and releases the ready lock alone.
pub switch_points : (g : Programs) (b : Board) (k : KernelState) → Shows b k →
    (i : ℕ) (c : SwitchCall) (p : SwitchAt) (r : Response) → (b.context i).at ≡ InSwitch c p →
    Tells k (shown (switch_board b i (b.context i) c p r))
switch_points g b k sh i c p r at =
    quiet k b (switch_board b i (b.context i) c p r) sh.lines
    (owned_still b.context _ (moved_same b.context i (switch_context (b.context i) c p r (hand_of b [])) (sym (ap excepts at))) i
    (ap excepts at) b.owner (switch.ask_of c p) r (owns p r)) (λ n. refl)
  where
    owns : (p : SwitchAt) (r : Response) → Owns b.owner i (switch.ask_of c p) r
    owns switch.AcquireReady r = tt
    owns (switch.Locked (switch_locked.LoadGoal goal)) r = tt
    owns (switch.Locked (switch_locked.LoadStart back number)) r = tt
    owns (switch.Locked (switch_locked.ReleaseReady back started)) r = tt
    owns (switch.Returned s) r = tt
    owns (switch.Finished s) r = tt
