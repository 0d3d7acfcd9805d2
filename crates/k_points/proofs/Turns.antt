-- Any turn decides its point, or shows the same lines.
use Rattle.std.proofs.Common.{◌≡◌, ℕ, refl, sym, ap, ◌∙◌, subst, length}
use Rattle.k_model.specs.Answered.{IsAnswered}
use Rattle.k_model.specs.State.{KernelState}
use Rattle.k_locks.specs.Asks.{Response}
use Rattle.k_ipc.specs.declared.send.SendCall.{SendCall}
use Rattle.k_ipc.specs.SendTable.{SendAt}
use Rattle.k_ipc.specs.SendTable as send
use Rattle.k_ipc.specs.declared.receive.ReceiveCall.{ReceiveCall}
use Rattle.k_ipc.specs.ReceiveTable.{ReceiveAt}
use Rattle.k_ipc.specs.ReceiveTable as receive
use Rattle.k_board.specs.Words.{Programs}
use Rattle.k_board.specs.Boards.{At, Board, InReceive, InSend, hand_of, id_at}
use Rattle.k_board.specs.Facts.{AllSay}
use Rattle.k_board.specs.Places.{PlacesHold, facts_of}
use Rattle.k_board.specs.Steps.{Answers, receive_board, send_board}
use Rattle.k_board.specs.Turns.{Turn, excepts, sends, receives, creates, destroys, goes_alone}
use Rattle.k_board.specs.Turns.{begins, turns_to_work, wakes, switches, begins_switch, ends_switch}
use Rattle.k_board.proofs.Goes.{receive_me, send_me}
use Rattle.k_good.specs.Good.{IsGood}
use Rattle.k_points.specs.Points.{Goes, Lists, Moves, turn_point}
use Rattle.k_points.specs.Shown.{IsShown, Tells, shown}
use Rattle.k_points.proofs.AlonePoints.{alone_points, placed_points, switch_points}
use Rattle.k_points.proofs.CreatePoints.{create_points}
use Rattle.k_points.proofs.DestroyPoints.{destroy_points}
use Rattle.k_points.proofs.Exceptions.{begun_none}
use Rattle.k_points.proofs.ReceivePoints.{receive_points}
use Rattle.k_points.proofs.SendPoints.{send_points}
use Rattle.k_points.proofs.Sums.{moves}

module _ (g : Programs) (b : Board) (k : KernelState) (ok : PlacesHold g b) (sh : Tells k (shown b)) (an : IsAnswered k) where
  facts_at : (i : ℕ) (p : At) → (b.context i).at ≡ p → AllSay g b i (b.context i) (facts_of p)
  facts_at i p at = subst (λ (q : At). AllSay g b i (b.context i) (facts_of q)) at (ok i)

  send_turn : (i : ℕ) (c : SendCall) (p : SendAt) (r : Response) → (b.context i).at ≡ InSend c p →
      Answers b (send.ask_of c (b.context i).own p) r →
      Goes g b k (send.points c (b.seen i).word (hand_of b (b.queue c.to.number)) p r) (send_board g b i (b.context i) c p r)
  send_turn i c p r at a =
      subst (λ (n : ℕ). (b.context n).at ≡ InSend c p → Answers b (send.ask_of c (b.context n).own p) r →
      Goes g b k (send.points c (b.seen n).word (hand_of b (b.queue c.to.number)) p r) (send_board g b n (b.context n) c p r))
      (send_me g b i (b.context i) c p (facts_at i (InSend c p) at))
      (λ here a. send_points g b k ok sh an c p r here a (facts_at c.caller.number (InSend c p) here)) at a

  receive_turn : (i : ℕ) (c : ReceiveCall) (p : ReceiveAt) (r : Response) → Lists b k i → (b.context i).at ≡ InReceive c p →
      Answers b (receive.ask_of c (b.context i).own p) r →
      Goes g b k (receive.points c (b.seen i).word (hand_of b (b.queue i)) p r) (receive_board g b i (b.context i) c p r)
  receive_turn i c p r li at a =
      subst (λ (n : ℕ). Lists b k n → (b.context n).at ≡ InReceive c p → Answers b (receive.ask_of c (b.context n).own p) r →
      Goes g b k (receive.points c (b.seen n).word (hand_of b (b.queue n)) p r) (receive_board g b n (b.context n) c p r))
      (receive_me g b i (b.context i) c p (facts_at i (InReceive c p) at))
      (λ li here a. receive_points g b k ok sh an c li p r here a (facts_at c.caller.number (InReceive c p) here)) li at a

-- no turn changes the size
pub turn_size : (g : Programs) (b : Board) (i : ℕ) (b' : Board) → Turn g b i b' → b'.size ≡ b.size
turn_size g b i _ (sends c p r at an) = refl
turn_size g b i _ (receives c p r at an) = refl
turn_size g b i _ (creates c p r at an) = refl
turn_size g b i _ (destroys c p r at an) = refl
turn_size g b i _ (goes_alone p r at can an) = refl
turn_size g b i _ (begins l f at e) = refl
turn_size g b i _ (turns_to_work l n at e) = refl
turn_size g b i _ (wakes at) = refl
turn_size g b i _ (switches c p r at going an) = refl
turn_size g b i _ (begins_switch c at) = refl
turn_size g b i _ (ends_switch c s at) = refl

module _ (g : Programs) (b : Board) (k : KernelState) (good : IsGood g b) (count : length b.numbers.versions ≡ b.size)
    (is : IsShown b k) (i : ℕ) (li : Lists b k i) where
  pub turn_goes : (b' : Board) (t : Turn g b i b') → Goes g b k (turn_point g b i b' t) b'
  turn_goes _ (sends c p r at an) = send_turn g b k good.places is.shows.lines is.answered i c p r at an
  turn_goes _ (receives c p r at an) = receive_turn g b k good.places is.shows.lines is.answered i c p r li at an
  turn_goes _ (creates c p r at an) = create_points g b k good count is.shows is.answered i c p r at an
  turn_goes _ (destroys c p r at an) = destroy_points g b k good is.shows is.answered i c p r at an
  turn_goes _ (goes_alone p r at can an) = alone_points g b k good is.shows is.answered i p r at can an
  turn_goes _ (begins l f at e) = placed_points g b k is.shows i _ (begun_none b.size (id_at b i) f ∙ sym (ap excepts at))
  turn_goes _ (turns_to_work l n at e) = placed_points g b k is.shows i _ (sym (ap excepts at))
  turn_goes _ (wakes at) = placed_points g b k is.shows i _ (sym (ap excepts at))
  turn_goes _ (switches c p r at going an) = switch_points g b k is.shows i c p r at
  turn_goes _ (begins_switch c at) = placed_points g b k is.shows i _ (sym (ap excepts at))
  turn_goes _ (ends_switch c s at) = placed_points g b k is.shows i _ (sym (ap excepts at))

  pub turn_moves : (b' : Board) (t : Turn g b i b') → Moves g b k (turn_point g b i b' t) b'
  turn_moves b' t = moves g b b' k (turn_point g b i b' t) (turn_size g b i b' t) is (turn_goes b' t)
