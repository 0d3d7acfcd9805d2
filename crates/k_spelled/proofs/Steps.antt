-- What a context's next step writes or expects has a spelling, wherever it stands.
use Rattle.std.proofs.Common.{◌≡◌, ℕ, ◌≤◌, true, refl, sym, ap, ◌∙◌, subst}
use Rattle.k_ids.specs.declared.threads.ThreadId.{ThreadId}
use Rattle.k_script.specs.Plays.{IsInRange}
use Rattle.k_switch.specs.declared.switch.SwitchCall.{SwitchCall}
use Rattle.k_switch.specs.declared.switch.SwitchLocked.TheVariants.{LoadGoal, LoadStart, ReleaseReady}
use Rattle.k_switch.specs.Switches.{SwitchAt}
use Rattle.k_switch.specs.Switches as switch
use Rattle.k_board.specs.Words.{Programs}
use Rattle.k_board.specs.Boards.{Alone, At, Board, Coming, InCreate, InDestroy, InReceive, InSend, InSwitch}
use Rattle.k_board.specs.Boards.{Nowhere, Resting}
use Rattle.k_board.specs.Boards.{id_at}
use Rattle.k_board.specs.Facts.{AllSay}
use Rattle.k_board.specs.Places.{PlacesHold, facts_of}
use Rattle.k_good.specs.Ranges.{FitsAt, IsWithin, is_threads}
use Rattle.k_good.proofs.RangesKeep.{receive_caller, send_caller}
use Rattle.k_legal.specs.Waiting.{FitsSend, MessagesHold}
use Rattle.k_turns.specs.Spelled.{IsSpelled}
use Rattle.k_spelled.specs.Asks.{ask_on}
use Rattle.k_spelled.specs.Words.{SpelledAt, WordsHold}
use Rattle.k_spelled.proofs.Alones.{alone_spelled}
use Rattle.k_spelled.proofs.Creates.{create_spelled}
use Rattle.k_spelled.proofs.Destroys.{destroy_spelled}
use Rattle.k_spelled.proofs.Receives.{receive_spelled}
use Rattle.k_spelled.proofs.Sends.{send_spelled}

-- a switch writes no word, and its lock is the ready lock
pub switch_spelled : (size : ℕ) (c : SwitchCall) (p : SwitchAt) → IsSpelled size (switch.ask_of c p)
switch_spelled size c switch.AcquireReady = tt
switch_spelled size c (switch.Locked (LoadGoal goal)) = tt
switch_spelled size c (switch.Locked (LoadStart back number)) = tt
switch_spelled size c (switch.Locked (ReleaseReady back start)) = tt
switch_spelled size c (switch.Returned s) = tt
switch_spelled size c (switch.Finished s) = tt

module _ (g : Programs) (b : Board) (places : PlacesHold g b) (within : IsWithin b) (few : b.size ≤ 64)
    (messages : MessagesHold b.context) (h : WordsHold b) where
  pub facts_at : (i : ℕ) (p : At) → (b.context i).at ≡ p → AllSay g b i (b.context i) (facts_of p)
  facts_at i p e = subst (λ (q : At). AllSay g b i (b.context i) (facts_of q)) e (places i)

  pub target_at : (i : ℕ) (p : At) → (b.context i).at ≡ p → FitsAt b.size p
  target_at i p e = subst (λ (q : At). FitsAt b.size q) e (within.targets i)

  pub known_at : (i : ℕ) (p : At) → (b.context i).at ≡ p → SpelledAt p
  known_at i p e = subst (λ (q : At). SpelledAt q) e (h.contexts i).loaded

  -- the thread of a context is of the table
  pub thread_at : (i : ℕ) (p : At) → (b.context i).at ≡ p → is_threads p ≡ true → IsInRange b.size (id_at b i)
  thread_at i p e t = within.threads i (ap is_threads e ∙ t)

  caller_at : (i : ℕ) (me : ThreadId) → IsInRange b.size (id_at b i) →
      (me.number ≡ i) × (me.version ≡ (b.seen i).word.version) → IsInRange b.size me
  caller_at i me r m =
      subst (λ (id : ThreadId). IsInRange b.size id)
      (λ d. record { number = sym m.0 d; version = sym m.1 d }) r

  pub spelled_at : (i : ℕ) (p : At) → (b.context i).at ≡ p →
      IsSpelled b.size (ask_on (id_at b i) (b.context i).own p)
  spelled_at i (Alone p) e =
      alone_spelled g b i (b.context i) (h.contexts i).own (id_at b i) p (facts_at i (Alone p) e)
  spelled_at i (InSend c p) e =
      let facts = facts_at i (InSend c p) e in
      let me = caller_at i c.caller (thread_at i (InSend c p) e refl)
      (send_caller g b i (b.context i) c p facts) in
      send_spelled g b i (b.context i) few (h.contexts i).own c p me (target_at i (InSend c p) e)
      (subst (λ (q : At). FitsSend q) e (messages i)) (known_at i (InSend c p) e) facts
  spelled_at i (InReceive c p) e =
      let facts = facts_at i (InReceive c p) e in
      let me = caller_at i c.caller (thread_at i (InReceive c p) e refl)
      (receive_caller g b i (b.context i) c p facts) in
      receive_spelled g b i (b.context i) few (h.contexts i).own c p me (target_at i (InReceive c p) e)
      (known_at i (InReceive c p) e) facts
  spelled_at i (InCreate c p) e =
      create_spelled g b i (b.context i) within.count h.words c p (known_at i (InCreate c p) e)
      (facts_at i (InCreate c p) e)
  spelled_at i (InDestroy c p) e =
      destroy_spelled g b i (b.context i) few c (b.context i).own p (target_at i (InDestroy c p) e)
      (known_at i (InDestroy c p) e) (facts_at i (InDestroy c p) e)
  spelled_at i (InSwitch c p) e = switch_spelled b.size c p
  spelled_at i Resting e = tt
  spelled_at i Coming e = tt
  spelled_at i Nowhere e = tt
