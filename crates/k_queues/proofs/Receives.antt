-- Of which kind each step of a receive or a pick is.
use Rattle.std.proofs.Common.{◌≡◌, ℕ, Bool, true, false, refl, sym, ap, ◌∙◌, subst, Option, Some, None, eqb, List}
use Rattle.std.specs.Prelude.{if◌then◌else◌}
use Rattle.std.proofs.lemmas.Bool.{and_parts, eqb-true}
use Rattle.k_ids.specs.declared.threads.ThreadId.{ThreadId}
use Rattle.k_ids.specs.declared.calls.Act.TheVariants as act
use Rattle.k_ids.specs.declared.calls.Phase.TheVariants as phase
use Rattle.k_ids.specs.declared.state_word.Result4.TheVariants as result4
use Rattle.k_ids.specs.declared.state_word.State.{State}
use Rattle.k_ids.specs.declared.state_word.State.TheVariants as state
use Rattle.k_ids.specs.declared.state_word.StateWord.{StateWord}
use Rattle.k_model.specs.Maps.{upd}
use Rattle.k_model.proofs.Maps.{upd_same, upd_other}
use Rattle.k_senders.specs.declared.entries.SenderEntry.{SenderEntry}
use Rattle.k_senders.specs.Entries.{number_of, sender_of}
use Rattle.k_senders.specs.Queue.{entry_of, without}
use Rattle.k_locks.specs.declared.points.Point.{Point}
use Rattle.k_locks.specs.Asks.{Response}
use Rattle.k_locks.specs.Asks as asks
use Rattle.k_locks.specs.Shown.{is_dead, is_dead_state, is_present_in}
use Rattle.k_ipc.specs.declared.receive.ReceiveCall.{ReceiveCall}
use Rattle.k_ipc.specs.declared.receive.ReceiveOutside.TheVariants.{LoadCaller, AcquireOwn, Ended}
use Rattle.k_ipc.specs.declared.receive.ReceiveLocked.{ReceiveLocked}
use Rattle.k_ipc.specs.declared.receive.ReceiveLocked.TheVariants.{LoadOwn, LoadSender, FreeSender, AcquireReady}
use Rattle.k_ipc.specs.declared.receive.ReceiveLocked.TheVariants.{CommitWait, LoadPartner, CommitGone, LoadPicking}
use Rattle.k_ipc.specs.declared.receive.ReceiveLocked.TheVariants.{LoadNext, FreeNext, EndPick, SettlePick, Release}
use Rattle.k_ipc.specs.declared.receive.ReceiveRelease.TheVariants as release
use Rattle.k_ipc.specs.declared.receive.ReceivePushing.TheVariants.{LoadFreed, PushFreed}
use Rattle.k_ipc.specs.ReceiveTable.{ReceiveAt, Outside, Locked, Pushing, after_free, after_wait, candidates_after}
use Rattle.k_ipc.specs.ReceiveTable.{nobody_left, none_left, picking_by, still_waits, stays_out, try_next, try_sender}
use Rattle.k_ipc.specs.ReceiveTable as receive
use Rattle.k_ipc.specs.Candidates.{first_admitted}
use Rattle.k_ipc.specs.Words.{freed, is_joined_to, sends_to}
use Rattle.k_board.specs.Words.{Programs, Seen, noted}
use Rattle.k_board.specs.Boards.{InReceive, Board, Context, hand_of, id_at}
use Rattle.k_board.specs.Facts.{AllSay, waits_for}
use Rattle.k_board.specs.Places.{facts_receive}
use Rattle.k_board.specs.Steps.{Answers, receive_board, receive_context, receive_queues, wrote}
use Rattle.k_board.proofs.Cases.{if_cases}
use Rattle.k_queues.specs.Tasks.{Comes, Idle, TakesOut, task_at, task_receive}
use Rattle.k_queues.proofs.Entries.{sends_state}
use Rattle.k_queues.proofs.Lists.{lists_after, wait_noted}
use Rattle.k_queues.proofs.StepKinds.{IsPlain, Move, stays, takes, takes_out}
use Rattle.k_queues.proofs.Quiet.{SameWait}
use Rattle.k_queues.proofs.Words.{IsQuietAsk, after_idle, calm_alive, calm_silent, calm_wait, is_calm, lost_won}
use Rattle.k_queues.proofs.Words.{plain_if, plain_none, sides, task_mine, unwritten_word, words_quiet, written_word}

-- WHERE AN ANSWER LEADS

sender_idle : (c : ReceiveCall) (o : Option SenderEntry) → task_receive (Locked (try_sender c o)) ≡ Idle
sender_idle c (Some e) = refl
sender_idle c None =
    if_cases (λ (p : ReceiveLocked). task_receive (Locked p) ≡ Idle) c.zero (Release release.Nobody) CommitWait (λ e. refl)
    (λ e. refl)

next_idle : (o : Option SenderEntry) → task_receive (Locked (try_next o)) ≡ Idle
next_idle (Some e) = refl
next_idle None = refl

wait_idle : (o : Option ThreadId) → task_receive (Locked (after_wait o)) ≡ Idle
wait_idle (Some e) = refl
wait_idle None = refl

picking_idle : (o : Option SenderEntry) (s : State) → task_receive (Locked (picking_by o s)) ≡ Idle
picking_idle o state.Dead = refl
picking_idle o state.Picking = next_idle o
picking_idle o (state.Run result) = refl
picking_idle o (state.Sending to joined) = refl
picking_idle o (state.Receiving from) = refl
picking_idle o state.Ended = refl

free_takes : (e : SenderEntry) (w : StateWord) → task_receive (Locked (after_free e w)) ≡ TakesOut e
free_takes e w =
    if_cases (λ (p : ReceiveLocked). task_receive (Locked p) ≡ TakesOut e) (stays_out w) (Release (release.Taken e))
    (AcquireReady e) (λ q. refl) (λ q. refl)

-- the word of a sender whose message was taken
freed_version : (me : ThreadId) (w : StateWord) → (freed me w).version ≡ w.version
freed_version me w = by (is_joined_to w.state)
  where
    by : (a : Bool) →
        (if a then record w { state = state.Receiving (Some me) } else record w {
          on = true;
          state = state.Run result4.Sent;
        }).version ≡ w.version
    by true = refl
    by false = refl

freed_calm : (me : ThreadId) (w : StateWord) → is_calm (freed me w).state ≡ true
freed_calm me w = by (is_joined_to w.state)
  where
    by : (a : Bool) →
        is_calm (if a then record w { state = state.Receiving (Some me) } else record w {
          on = true;
          state = state.Run result4.Sent;
        }).state ≡ true
    by true = refl
    by false = refl

sending_alive : (to : ThreadId) (w : StateWord) → sends_to to w.state ≡ true → is_dead w ≡ false
sending_alive to w y = let s = sends_state to w.state y in subst (λ (u : State). is_dead_state u ≡ false) (sym s.1) refl

module _ (g : Programs) (b : Board) (i : ℕ) (c : ReceiveCall) where
  abbrev point_at : ReceiveAt → Response → Option Point
  point_at p r = receive.points c (b.seen i).word (hand_of b (b.queue i)) p r

  abbrev Kept : ReceiveAt → Response → Type 0
  Kept p r = Move b (receive_board g b i (b.context i) c p r) i (point_at p r)

  abbrev moved : ReceiveAt → Response → Context
  moved p r = receive_context (b.context i) c p r (hand_of b (b.queue i))

  -- a step that changes neither queues nor who waits
  quiet : (p : ReceiveAt) (r : Response) → (b.context i).at ≡ InReceive c p →
      Answers b (receive.ask_of c (b.context i).own p) r → ((to : ThreadId) → task_receive p ≡ Comes to → ⊥) →
      (r ≡ asks.Won → IsQuietAsk (receive.ask_of c (b.context i).own p)) →
      ((t : ℕ) → receive_queues c p r b.queue t ≡ b.queue t) → task_at (moved p r).at ≡ task_receive p →
      IsPlain (point_at p r) → Kept p r
  quiet p r at an none q same k pl =
      let b' = receive_board g b i (b.context i) c p r in
      stays (sides b b' i (moved p r) (λ n. refl)) (task_mine b b' i (moved p r) (λ n. refl) ∙ k ∙ sym (ap task_at at))
      (λ to e. none to (sym (ap task_at at) ∙ e)) same
      (words_quiet g b (b.context i).position (point_at p r) (receive.ask_of c (b.context i).own p) r an q) pl

  -- the message of an entry is taken
  takes_now : (p : ReceiveAt) (e : SenderEntry) (w : StateWord) → (b.context i).at ≡ InReceive c p →
      receive.ask_of c (b.context i).own p ≡ asks.Exchange (number_of e) w (freed c.caller w) → task_receive p ≡ Idle →
      task_at (moved p asks.Won).at ≡ TakesOut e → ((t : ℕ) → receive_queues c p asks.Won b.queue t ≡ b.queue t) →
      (b.seen (number_of e)).word ≡ w → c.caller ≡ id_at b i → b.owner i ≡ Some i → entry_of (number_of e) (b.queue i) ≡ Some e →
      still_waits c e w ≡ true →
      ((f : ℕ → List SenderEntry) → lists_after (point_at p asks.Won) f ≡ upd f i (without (number_of e) (f i))) →
      Kept p asks.Won
  takes_now p e w at asked idle now same won me owner stands waits after =
      takes e (sides b b' i x (λ n. refl)) (ap task_at at ∙ idle) (task_mine b b' i x (λ n. refl) ∙ now) owner same stands
      (subst (λ (id : ThreadId). sends_to id (b.seen (number_of e)).word.state ≡ true) me sends)
      (ap (λ (u : StateWord). u.version) won ∙ eqb-true w.version (sender_of e).version
      (and_parts (eqb w.version (sender_of e).version) (sends_to c.caller w.state) waits).0)
      (λ n ne. subst (λ (a : asks.Ask). SameWait (b.seen n).word (asks_wrote a n).word) (sym asked)
      (unwritten_word g b (b.context i).position point (number_of e) w (freed c.caller w) n ne))
      (ap (λ (u : StateWord). u.version) new ∙ freed_version c.caller w ∙ ap (λ (u : StateWord). u.version) (sym won))
      (ap is_dead new ∙ calm_alive (freed c.caller w).state (freed_calm c.caller w)
      ∙ sym (sending_alive c.caller (b.seen (number_of e)).word sends))
      (λ r. ap (λ (u : StateWord). sends_to r u.state) new ∙ calm_silent (freed c.caller w).state r (freed_calm c.caller w))
      after
    where
      b' : Board
      b' = receive_board g b i (b.context i) c p asks.Won

      x : Context
      x = moved p asks.Won

      point : Option Point
      point = receive.points c (b.seen i).word (hand_of b (b.queue i)) p asks.Won

      asks_wrote : asks.Ask → ℕ → Seen
      asks_wrote a = wrote (noted g b.seen (b.context i).position point) a asks.Won

      sends : sends_to c.caller (b.seen (number_of e)).word.state ≡ true
      sends =
          ap (λ (u : StateWord). sends_to c.caller u.state) won
          ∙ (and_parts (eqb w.version (sender_of e).version) (sends_to c.caller w.state) waits).1

      new : (b'.seen (number_of e)).word ≡ freed c.caller w
      new =
          ap (λ (a : asks.Ask). (asks_wrote a (number_of e)).word) asked
          ∙ written_word g b (b.context i).position point (number_of e) w (freed c.caller w)

  -- the entry leaves the queue
  leaves_now : (e : SenderEntry) → (b.context i).at ≡ InReceive c (Locked (Release (release.Taken e))) → c.caller ≡ id_at b i →
      entry_of (number_of e) (b.queue i) ≡ Some e → still_waits c e (b.seen (number_of e)).word ≡ false →
      Kept (Locked (Release (release.Taken e))) asks.Released
  leaves_now e at me stands gone =
      takes_out e (sides b b' i x (λ n. refl))
      (words_quiet g b (b.context i).position point (receive.ask_of c (b.context i).own
      (Locked (Release (release.Taken e)))) asks.Released tt (λ z. tt))
      (ap task_at at) (task_mine b b' i x (λ n. refl))
      (ap (λ (n : ℕ). upd b.queue n (without (number_of e) (b.queue n)) i) number
      ∙ upd_same b.queue i (without (number_of e) (b.queue i)))
      (λ t ne. upd_other b.queue c.caller.number (without (number_of e) (b.queue c.caller.number)) t (λ z. ne (z ∙ number)))
      stands (subst (λ (id : ThreadId). waits_for id e (b.seen (number_of e)).word ≡ false) me gone) plain_none
    where
      p : ReceiveAt
      p = Locked (Release (release.Taken e))

      b' : Board
      b' = receive_board g b i (b.context i) c (Locked (Release (release.Taken e))) asks.Released

      x : Context
      x = moved (Locked (Release (release.Taken e))) asks.Released

      point : Option Point
      point = receive.points c (b.seen i).word (hand_of b (b.queue i)) (Locked (Release (release.Taken e))) asks.Released

      number : c.caller.number ≡ i
      number = ap (λ (id : ThreadId). id.number) me

  me_is : (c.caller.number ≡ i) × (c.caller.version ≡ (b.seen i).word.version) → c.caller ≡ id_at b i
  me_is f = λ d. record { number = f.0 d; version = f.1 d }

  nobody_plain : (o : Option SenderEntry) → IsPlain (nobody_left c o)
  nobody_plain (Some e) f = refl
  nobody_plain None f = plain_if c.zero _ None (λ k. refl) plain_none f

  wait_plain : (picks : Bool) (f : ℕ → List SenderEntry) →
      wait_noted f c.caller (if picks then act.Pick else act.Call (phase.Receive c.from c.zero)) ≡ f
  wait_plain true f = refl
  wait_plain false f = refl

  took_after : (e : SenderEntry) → c.caller ≡ id_at b i → (f : ℕ → List SenderEntry) →
      upd f c.caller.number (without (number_of e) (f c.caller.number)) ≡ upd f i (without (number_of e) (f i))
  took_after e me f = ap (λ (id : ThreadId). upd f id.number (without (number_of e) (f id.number))) me

  pub receive_moves : (p : ReceiveAt) (r : Response) → (b.context i).at ≡ InReceive c p →
      Answers b (receive.ask_of c (b.context i).own p) r → AllSay g b i (b.context i) (facts_receive c p) → Kept p r
  receive_moves (Outside LoadCaller) (asks.Word w) at an f =
      quiet (Outside LoadCaller) (asks.Word w) at an (λ to e. cc) (λ z. tt) (λ t. refl) (after_idle c.caller _)
      (plain_if (is_dead w) None _ plain_none (λ k. refl))
  receive_moves (Outside AcquireOwn) asks.Got at an f =
      quiet (Outside AcquireOwn) asks.Got at an (λ to e. cc) (λ z. tt) (λ t. refl)
      (if_cases (λ (p : ReceiveLocked). task_receive (Locked p) ≡ Idle) c.picks LoadPicking LoadOwn (λ e. refl)
      (λ e. refl)) plain_none
  receive_moves (Outside AcquireOwn) (asks.Owned o) at an f =
      quiet (Outside AcquireOwn) (asks.Owned o) at an (λ to e. cc) (λ z. tt) (λ t. refl) refl plain_none
  receive_moves (Locked LoadOwn) (asks.Word w) at an f =
      quiet (Locked LoadOwn) (asks.Word w) at an (λ to e. cc) (λ z. tt) (λ t. refl)
      (if_cases (λ (p : ReceiveLocked). task_receive (Locked p) ≡ Idle) (is_dead w) (Release release.Dead) _ (λ e. refl)
      (λ e. sender_idle c (first_admitted c.from (b.queue i))))
      (plain_if (is_dead w) None _ plain_none (nobody_plain (first_admitted c.from (b.queue i))))
  receive_moves (Locked (LoadSender e)) (asks.Word w) at an f =
      quiet (Locked (LoadSender e)) (asks.Word w) at an (λ to e. cc) (λ z. tt) (λ t. refl)
      (if_cases (λ (p : ReceiveLocked). task_receive (Locked p) ≡ Idle) (still_waits c e w) (FreeSender e w) _ (λ q. refl)
      (λ q. sender_idle c (candidates_after c (hand_of b (b.queue i)) e)))
      (plain_if (still_waits c e w) None _ plain_none (nobody_plain (candidates_after c (hand_of b (b.queue i)) e)))
  receive_moves (Locked (FreeSender e w)) asks.Won at an f =
      takes_now (Locked (FreeSender e w)) e w at refl refl (free_takes e w) (λ t. refl) an
      (me_is f.1.1.1.0) f.1.1.1.1.1.1.1.0.1 f.1.1.1.1.1.1.1.0.2 f.1.1.0 (took_after e (me_is f.1.1.1.0))
  receive_moves (Locked (FreeSender e w)) (asks.Lost v) at an f =
      quiet (Locked (FreeSender e w)) (asks.Lost v) at an (λ to e. cc) (λ z. absurd (lost_won z)) (λ t. refl) refl plain_none
  receive_moves (Locked (AcquireReady e)) asks.Got at an f =
      quiet (Locked (AcquireReady e)) asks.Got at an (λ to e. cc) (λ z. tt) (λ t. refl) refl plain_none
  receive_moves (Locked (AcquireReady e)) (asks.Owned o) at an f =
      quiet (Locked (AcquireReady e)) (asks.Owned o) at an (λ to e. cc) (λ z. tt) (λ t. refl) refl plain_none
  receive_moves (Pushing (LoadFreed e)) (asks.Word w) at an f =
      quiet (Pushing (LoadFreed e)) (asks.Word w) at an (λ to e. cc) (λ z. tt) (λ t. refl) refl plain_none
  receive_moves (Pushing (PushFreed e w)) asks.Released at an f =
      quiet (Pushing (PushFreed e w)) asks.Released at an (λ to e. cc) (λ z. tt) (λ t. refl) refl plain_none
  receive_moves (Locked CommitWait) asks.Won at an f =
      quiet (Locked CommitWait) asks.Won at an (λ to e. cc)
      (λ z. calm_wait (b.context i).own _ refl (ap is_calm f.1.1.1.1.1.0.0.state) refl) (λ t. refl) (wait_idle c.from)
      (wait_plain c.picks)
  receive_moves (Locked CommitWait) (asks.Lost v) at an f =
      quiet (Locked CommitWait) (asks.Lost v) at an (λ to e. cc) (λ z. absurd (lost_won z)) (λ t. refl) refl plain_none
  receive_moves (Locked (LoadPartner from)) (asks.Word w) at an f =
      quiet (Locked (LoadPartner from)) (asks.Word w) at an (λ to e. cc) (λ z. tt) (λ t. refl)
      (if_cases (λ (p : ReceiveLocked). task_receive (Locked p) ≡ Idle) (is_present_in w from) (Release release.Waits)
      (CommitGone from) (λ q. refl) (λ q. refl)) (plain_if (is_present_in w from) None _ plain_none (λ k. refl))
  receive_moves (Locked (CommitGone from)) asks.Won at an f =
      quiet (Locked (CommitGone from)) asks.Won at an (λ to e. cc)
      (λ z. calm_wait (b.context i).own _ refl (ap is_calm f.1.1.1.0.2) refl) (λ t. refl) refl plain_none
  receive_moves (Locked (CommitGone from)) (asks.Lost v) at an f =
      quiet (Locked (CommitGone from)) (asks.Lost v) at an (λ to e. cc) (λ z. absurd (lost_won z)) (λ t. refl) refl plain_none
  receive_moves (Locked LoadPicking) (asks.Word w) at an f =
      quiet (Locked LoadPicking) (asks.Word w) at an (λ to e. cc) (λ z. tt) (λ t. refl)
      (picking_idle (first_admitted c.from (b.queue i)) w.state) plain_none
  receive_moves (Locked (LoadNext e)) (asks.Word w) at an f =
      quiet (Locked (LoadNext e)) (asks.Word w) at an (λ to e. cc) (λ z. tt) (λ t. refl)
      (if_cases (λ (p : ReceiveLocked). task_receive (Locked p) ≡ Idle) (still_waits c e w) (FreeNext e w) _ (λ q. refl)
      (λ q. next_idle (candidates_after c (hand_of b (b.queue i)) e))) plain_none
  receive_moves (Locked (FreeNext e w)) asks.Won at an f =
      takes_now (Locked (FreeNext e w)) e w at refl refl refl (λ t. refl) an
      (me_is f.1.0) f.1.1.1.1.1.1.0.1 f.1.1.1.1.1.1.0.2 f.1.1.1.1.1.0 (took_after e (me_is f.1.0))
  receive_moves (Locked (FreeNext e w)) (asks.Lost v) at an f =
      quiet (Locked (FreeNext e w)) (asks.Lost v) at an (λ to e. cc) (λ z. absurd (lost_won z)) (λ t. refl) refl plain_none
  receive_moves (Locked (EndPick e w)) asks.Won at an f =
      quiet (Locked (EndPick e w)) asks.Won at an (λ to e. cc)
      (λ z. calm_wait (b.context i).own _ refl (ap is_calm f.1.1.1.1.0.2) refl) (λ t. refl) (free_takes e w) plain_none
  receive_moves (Locked (EndPick e w)) (asks.Lost v) at an f =
      quiet (Locked (EndPick e w)) (asks.Lost v) at an (λ to e. cc) (λ z. absurd (lost_won z)) (λ t. refl) refl plain_none
  receive_moves (Locked SettlePick) asks.Won at an f =
      quiet (Locked SettlePick) asks.Won at an (λ to e. cc)
      (λ z. calm_wait (b.context i).own _ refl (ap is_calm f.1.1.1.1.0.2) refl) (λ t. refl) refl (wait_plain c.picks)
  receive_moves (Locked SettlePick) (asks.Lost v) at an f =
      quiet (Locked SettlePick) (asks.Lost v) at an (λ to e. cc) (λ z. absurd (lost_won z)) (λ t. refl) refl plain_none
  receive_moves (Locked (Release (release.Taken e))) asks.Released at an f =
      leaves_now e at (me_is f.1.0) f.1.1.1.1.1.1.0.2 f.1.1.1.1.1.1.0.3
  receive_moves (Locked (Release release.Waits)) asks.Released at an f =
      quiet (Locked (Release release.Waits)) asks.Released at an (λ to e. cc) (λ z. tt) (λ t. refl) refl plain_none
  receive_moves (Locked (Release release.Delivered)) asks.Released at an f =
      quiet (Locked (Release release.Delivered)) asks.Released at an (λ to e. cc) (λ z. tt) (λ t. refl) refl plain_none
  receive_moves (Locked (Release release.Gone)) asks.Released at an f =
      quiet (Locked (Release release.Gone)) asks.Released at an (λ to e. cc) (λ z. tt) (λ t. refl) refl plain_none
  receive_moves (Locked (Release release.Nobody)) asks.Released at an f =
      quiet (Locked (Release release.Nobody)) asks.Released at an (λ to e. cc) (λ z. tt) (λ t. refl) refl plain_none
  receive_moves (Locked (Release release.Dead)) asks.Released at an f =
      quiet (Locked (Release release.Dead)) asks.Released at an (λ to e. cc) (λ z. tt) (λ t. refl) refl plain_none
  receive_moves (Outside (Ended w)) r at an f = absurd f.0
  receive_moves p r at an f = absurd an
