-- What holds of a board holds after any turn.
use Rattle.std.proofs.Common.{◌≡◌, ℕ, refl, sym, ap, ◌∙◌, subst, arith, List, [], ◌∷◌, ◌++◌, Option, Some, None}
use Rattle.std.proofs.lemmas.List.{append-nil}
use Rattle.k_ids.specs.declared.calls.Act.{Act}
use Rattle.k_ids.specs.declared.calls.Act.TheVariants as act
use Rattle.k_ids.specs.declared.histories.Entry.{Entry}
use Rattle.k_ids.specs.declared.calls.Phase.{Phase}
use Rattle.k_ids.specs.declared.calls.Phase.TheVariants as phase
use Rattle.k_ids.specs.declared.threads.ThreadId.{ThreadId}
use Rattle.k_model.specs.Answered.{reply_to}
use Rattle.k_model.specs.State.{KernelState}
use Rattle.k_model.proofs.Sound.{acts_alive}
use Rattle.k_positions.proofs.Histories.{step_gives}
use Rattle.k_locks.specs.Points.{entry_with}
use Rattle.k_locks.specs.declared.points.Point.{Point}
use Rattle.k_script.specs.Limits.{IsScript}
use Rattle.k_script.specs.Script.{Script}
use Rattle.k_script.specs.Plays.{Position}
use Rattle.k_board.specs.Words.{Programs, Seen, noted}
use Rattle.k_board.specs.Boards.{Board, id_at}
use Rattle.k_board.specs.Steps.{wrote}
use Rattle.k_locks.specs.Asks.{Ask, Response}
use Rattle.k_ipc.specs.SendTable as send
use Rattle.k_ipc.specs.ReceiveTable as receive
use Rattle.k_threads.specs.CreateTable as create
use Rattle.k_threads.specs.DestroyTable as destroy
use Rattle.k_caller.specs.Waits as alone
use Rattle.k_board.specs.Turns.{Turn, sends, receives, creates, destroys, goes_alone, begins}
use Rattle.k_board.specs.Turns.{turns_to_work, wakes, switches, begins_switch, ends_switch}
use Rattle.k_good.specs.Good.{QueuesTell}
use Rattle.k_good.specs.Ranges.{NamesFit}
use Rattle.k_queues.proofs.Proper.{proper_keeps}
use Rattle.k_queues.proofs.Turns.{queues_tell}
use Rattle.k_queues.specs.Queues.{CallsUnanswered}
use Rattle.k_partners.proofs.Partners.{partners_keep}
use Rattle.k_points.specs.Points as points
use Rattle.k_points.specs.Points.{Grows, lasts, turn_point}
use Rattle.k_points.specs.Shown.{Line}
use Rattle.k_points.proofs.Status.{waits_unanswered}
use Rattle.k_points.proofs.Turns.{turn_size}
use Rattle.k_legal.specs.Runs.{entries_of}
use Rattle.k_legal.specs.Waiting.{FitsCall, MessagesFit}
use Rattle.k_legal.proofs.Messages.{messages_keep}
use Rattle.k_legal.proofs.Sums.{turn_followed}
use Rattle.k_plays.specs.Ledgers.{AreLedgers, IsGiven, IsTold}
use Rattle.k_plays.specs.Scripts.{ranged_programs}
use Rattle.k_plays.proofs.Writes.{step_keeps, writes_keep}
use Rattle.k_plays.proofs.Tables.{ranged_are, ranged_fit, ranged_words}
use Rattle.k_plays.specs.Messages.{SendsWords}
use Rattle.k_invariant.specs.Invariant.{BoardHolds, GoesOn}

-- A call that sends two words of 32 bits has a message that fits.

call_fits : (f : Phase) → SendsWords f → FitsCall f
call_fits (phase.Send to message zero joined) h = omega (arith, h.low)
call_fits (phase.Reply to message zero) h = omega (arith, h.low)
call_fits (phase.Receive from zero) h = tt
call_fits (phase.Create program priority) h = tt
call_fits (phase.Destroy victim) h = tt
call_fits phase.End h = tt

pub messages_fit : (script : Script) → MessagesFit (ranged_programs script)
messages_fit script p r f e = call_fits f (ranged_words script p r f e)

module _ (script : Script) (limits : IsScript script) (b : Board) (es : List Entry) (k : KernelState)
    (h : BoardHolds script b es k) where
  abbrev G : Programs
  G = ranged_programs script

  pub unanswered : CallsUnanswered b
  unanswered = waits_unanswered b k h.followed.shown.shows.lines h.followed.shown.answered

  pub tells : (i : ℕ) → QueuesTell b i
  tells i = queues_tell G b h.proper.good h.proper.within h.proper.queues i unanswered

  -- the ledger has the reply to the last call of a thread that is there
  pub told_by : (who : ThreadId) → (k.place who.number).version ≡ who.version → IsTold k b.seen who
  told_by who v = sym (ap (λ (l : Line). l.told) (h.followed.shown.shows.lines who.number))
      ∙ ap (λ (w : ℕ). reply_to k.replies (record { number = who.number; version = w }) (k.place who.number).serial) v

  given_by : (who : ThreadId) (a : Act) (at : Position) → (k.place who.number).version ≡ who.version →
      points.IsPlayed G (b.seen who.number) at a → IsGiven G k b.seen who a at
  given_by who (act.Call f) at v d = (told_by who v, d)
  given_by who act.Gone at v d = tt
  given_by who act.Pick at v d = tt

  -- nothing is written, and there is no point
  idle : (b' : Board) (new : KernelState) → new ≡ k → b'.seen ≡ b.seen → AreLedgers script (es ++ []) new b'.seen
  idle b' new is same =
      subst (λ (s : ℕ → Seen). AreLedgers script (es ++ []) new s) (sym same)
      (subst (λ (l : List Entry). AreLedgers script l new b.seen) (sym (append-nil es))
      (subst (λ (q : KernelState). AreLedgers script es q b.seen) (sym is) h.ledgers))

  -- A step with this point, in which the context has this position, leaves these ledgers.
  played_after : (b' : Board) (at : Position) (a : Ask) (r : Response) (new : KernelState) (p : Option Point)
      → Grows G b k p new b' → b'.seen ≡ wrote (noted G b.seen at p) a r → AreLedgers script (es ++ entries_of b p) new b'.seen
  played_after b' at a r new None is same =
      subst (λ (s : ℕ → Seen). AreLedgers script (es ++ []) new s) (sym same)
      (subst (λ (l : List Entry). AreLedgers script l new (wrote b.seen a r)) (sym (append-nil es))
      (subst (λ (q : KernelState). AreLedgers script es q (wrote b.seen a r)) (sym is)
      (writes_keep script es k b.seen a r h.ledgers)))
  played_after b' at a r new (Some p) grows same =
      let e = (entry_with (lasts b) p).event in
      let gives = step_gives k new e p.outcome grows.0 in
      let place : (b'.seen p.who.number).position ≡ (wrote (noted G b.seen at (Some p)) a r p.who.number).position =
      ap (λ (s : ℕ → Seen). (s p.who.number).position) same in
      let version = (acts_alive k p.who e.serial p.act gives.0).0 in
      let given = given_by p.who p.act (b'.seen p.who.number).position version grows.1 in
      subst (λ (s : ℕ → Seen). AreLedgers script (es ++ entry_with (lasts b) p ∷ []) new s) (sym same)
      (step_keeps script G es k new b.seen (lasts b) p at a r limits (ranged_are script) h.ledgers
      (record { made = grows.0; given = subst (IsGiven G k b.seen p.who p.act) place given }))

  abbrev LedgersAfter : (i : ℕ) (b' : Board) → Turn G b i b' → Type 0
  LedgersAfter i b' t = (new : KernelState) → Grows G b k (turn_point G b i b' t) new b'
      → AreLedgers script (es ++ entries_of b (turn_point G b i b' t)) new b'.seen

  -- a turn that is no step of a section has no point, and leaves the ledgers as they are
  turn_ledgers : (i : ℕ) (b' : Board) (t : Turn G b i b') → LedgersAfter i b' t
  turn_ledgers i _ (sends c p r at an) new is =
      played_after _ (b.context i).position (send.ask_of c (b.context i).own p) r new _ is refl
  turn_ledgers i _ (receives c p r at an) new is =
      played_after _ (b.context i).position (receive.ask_of c (b.context i).own p) r new _ is refl
  turn_ledgers i _ (creates c p r at an) new is =
      played_after _ (b.context i).position (create.ask_of c (b.context i).own p) r new _ is refl
  turn_ledgers i _ (destroys c p r at an) new is =
      played_after _ (b.context i).position (destroy.ask_of c (b.context i).own p) r new _ is refl
  turn_ledgers i _ (goes_alone p r at can an) new is =
      played_after _ (b.context i).position (alone.ask_of (id_at b i) (b.context i).own p) r new _ is refl
  turn_ledgers i b' (begins l f at e) new is = idle b' new is refl
  turn_ledgers i b' (turns_to_work l count at e) new is = idle b' new is refl
  turn_ledgers i b' (wakes at) new is = idle b' new is refl
  turn_ledgers i b' (switches c p r at going an) new is = idle b' new is refl
  turn_ledgers i b' (begins_switch c at) new is = idle b' new is refl
  turn_ledgers i b' (ends_switch c s at) new is = idle b' new is refl

  pub goes_on : (i : ℕ) (b' : Board) → (t : Turn G b i b') → GoesOn script b es k (turn_point G b i b' t) b'
  goes_on i b' t =
      let f = turn_followed G b k h.proper.good h.proper.within h.messages h.proper.queues.size h.followed i (tells i) b' t in
      record {
        new = f.new;
        history = f.history;
        holds = record {
          size = turn_size G b i b' t ∙ h.size;
          proper = proper_keeps G b b' i h.proper (subst (NamesFit G) (sym h.size) (ranged_fit script)) unanswered t;
          partners = partners_keep G b i h.proper.good h.proper.within (tells i) h.partners b' t;
          messages = messages_keep G b i b' (messages_fit script) h.messages t;
          followed = f.followed;
          ledgers = turn_ledgers i b' t f.new f.history;
        };
      }
