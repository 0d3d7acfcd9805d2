-- Any turn is followed by the one-step kernel, lists and all.
use Rattle.std.proofs.Common.{◌≡◌, ℕ, ◌≤◌, ◌<◌, ◌^◌, false, refl, sym, ap, ◌∙◌, subst, List, [], ◌++◌, Option, Some, None, arith}
use Rattle.std.proofs.lemmas.List.{append-nil}
use Rattle.k_ids.specs.declared.calls.Outcome.{Outcome}
use Rattle.k_model.specs.Sound.{IsListed}
use Rattle.k_model.specs.State.{KernelState}
use Rattle.k_model.proofs.Listed.{acted-listed}
use Rattle.k_senders.specs.declared.entries.SenderEntry.{SenderEntry}
use Rattle.k_locks.specs.Asks.{Response}
use Rattle.k_locks.specs.Shown.{is_dead}
use Rattle.k_locks.specs.declared.points.Point.{Point}
use Rattle.k_ipc.specs.declared.send.SendCall.{SendCall}
use Rattle.k_ipc.specs.SendTable.{SendAt}
use Rattle.k_ipc.specs.SendTable as send
use Rattle.k_ipc.specs.declared.receive.ReceiveCall.{ReceiveCall}
use Rattle.k_ipc.specs.ReceiveTable.{ReceiveAt}
use Rattle.k_ipc.specs.ReceiveTable as receive
use Rattle.k_threads.specs.declared.create.CreateCall.{CreateCall}
use Rattle.k_threads.specs.CreateTable.{CreateAt}
use Rattle.k_threads.specs.CreateTable as create
use Rattle.k_threads.specs.declared.destroy.DestroyCall.{DestroyCall}
use Rattle.k_threads.specs.DestroyTable.{DestroyAt}
use Rattle.k_threads.specs.DestroyTable as destroy
use Rattle.k_script.specs.Plays.{IsInRange}
use Rattle.k_board.specs.Words.{Programs}
use Rattle.k_board.specs.Boards.{At, Board, InCreate, InDestroy, InReceive, InSend, hand_of, id_at}
use Rattle.k_board.specs.Facts.{AllSay}
use Rattle.k_board.specs.Places.{facts_of}
use Rattle.k_board.specs.Steps.{Answers, create_board, destroy_board, destroy_number, receive_board, send_board}
use Rattle.k_board.specs.Turns.{Turn, sends, receives, creates, destroys, goes_alone, begins}
use Rattle.k_board.specs.Turns.{turns_to_work, wakes, switches, begins_switch, ends_switch}
use Rattle.k_board.proofs.Goes.{create_me, destroy_me, receive_me, send_me}
use Rattle.k_good.specs.Good.{IsGood, QueuesTell}
use Rattle.k_good.specs.Ranges.{FitsAt, IsWithin}
use Rattle.k_points.specs.Points.{Grows, Lists, turn_point, waiting_shown}
use Rattle.k_points.proofs.Sums.{made_of}
use Rattle.k_points.proofs.Turns.{turn_moves}
use Rattle.k_legal.specs.Waiting.{MessagesHold, ShowsLists, coming_at, coming_by, waiters, waiters_in}
use Rattle.k_legal.specs.Follows.{Follows, IsFollowed}
use Rattle.k_legal.proofs.DestroyLists.{destroy_waits}
use Rattle.k_legal.proofs.Entries.{living_waiters}
use Rattle.k_legal.proofs.ListRows.{lists_by, shows_after}
use Rattle.k_legal.proofs.ReceiveLists.{receive_lists}
use Rattle.k_legal.proofs.SendLists.{send_lists}
use Rattle.k_legal.proofs.TableLists.{alone_waits, begun_comes, create_waits, known_by, placed_waits, switch_waits}

-- the lists that the points of a receive read
lists_serve : (b : Board) (k : KernelState) (i : ℕ) → ShowsLists b k → Lists b k i
lists_serve b k i sh = record { own = own }
  where
    own : (c : ReceiveCall) (p : ReceiveAt) → (b.context i).at ≡ InReceive c p → b.owner i ≡ Some i →
        is_dead (b.seen i).word ≡ false → (k.place i).waiting ≡ waiting_shown b i
    own c p at o alive =
        let nobody : coming_by (b.owner i) b.context i ≡ [] =
        ap (λ (q : Option ℕ). coming_by q b.context i) o ∙ ap (λ (a : At). coming_at a i) at in
        sh i ∙ living_waiters b i alive ∙ ap (waiters_in (id_at b i) b.seen)
        (ap (λ (es : List SenderEntry). b.queue i ++ es) nobody ∙ append-nil _)

module _ (g : Programs) (b : Board) (k : KernelState) (good : IsGood g b) (within : IsWithin b)
    (messages : MessagesHold b.context) (few : b.size ≤ 64) (is : IsFollowed b k) (i : ℕ) (tell : QueuesTell b i) where
  facts_at : (j : ℕ) (p : At) → (b.context j).at ≡ p → AllSay g b j (b.context j) (facts_of p)
  facts_at j p at = subst (λ (q : At). AllSay g b j (b.context j) (facts_of q)) at (good.places j)

  inside : (n s : ℕ) → n < s → s ≤ 64 → n < 64
  inside n s l f = omega arith

  small : (m : ℕ) → m ≤ 1048575 → m < 2 ^ 20
  small m l = omega arith

  victim : (c : DestroyCall) (p : DestroyAt) → (b.context i).at ≡ InDestroy c p → IsInRange b.size c.who
  victim c p at = (subst (FitsAt b.size) at (within.targets i)).0

  send_waits : (c : SendCall) (p : SendAt) (r : Response) → (b.context i).at ≡ InSend c p →
      Answers b (send.ask_of c (b.context i).own p) r → (n : ℕ) →
      lists_by (send.points c (b.seen i).word (hand_of b (b.queue c.to.number)) p r) (waiters b) n ≡
      waiters (send_board g b i (b.context i) c p r) n
  send_waits c p r at a n =
      subst (λ (j : ℕ). QueuesTell b j → (b.context j).at ≡ InSend c p → Answers b (send.ask_of c (b.context j).own p) r →
      lists_by (send.points c (b.seen j).word (hand_of b (b.queue c.to.number)) p r) (waiters b) n ≡
      waiters (send_board g b j (b.context j) c p r) n) (send_me g b i (b.context i) c p (facts_at i (InSend c p) at))
      (λ tell here a. send_lists g b c good within messages few tell p r here a
      (facts_at c.caller.number (InSend c p) here) n) tell at a

  receive_waits : (c : ReceiveCall) (p : ReceiveAt) (r : Response) → (b.context i).at ≡ InReceive c p →
      Answers b (receive.ask_of c (b.context i).own p) r → (n : ℕ) →
      lists_by (receive.points c (b.seen i).word (hand_of b (b.queue i)) p r) (waiters b) n ≡
      waiters (receive_board g b i (b.context i) c p r) n
  receive_waits c p r at a n =
      subst (λ (j : ℕ). (b.context j).at ≡ InReceive c p → Answers b (receive.ask_of c (b.context j).own p) r →
      lists_by (receive.points c (b.seen j).word (hand_of b (b.queue j)) p r) (waiters b) n ≡
      waiters (receive_board g b j (b.context j) c p r) n)
      (receive_me g b i (b.context i) c p (facts_at i (InReceive c p) at))
      (λ here a. receive_lists g b c p r here a (facts_at c.caller.number (InReceive c p) here) n) at a

  creates_waits : (c : CreateCall) (p : CreateAt) (r : Response) → (b.context i).at ≡ InCreate c p →
      Answers b (create.ask_of c (b.context i).own p) r → (n : ℕ) →
      lists_by (create.points c (b.seen i).word (hand_of b []) p r) (waiters b) n ≡
      waiters (create_board g b i (b.context i) c p r) n
  creates_waits c p r at a n =
      subst (λ (j : ℕ). (b.context j).at ≡ InCreate c p → Answers b (create.ask_of c (b.context j).own p) r →
      lists_by (create.points c (b.seen j).word (hand_of b []) p r) (waiters b) n ≡
      waiters (create_board g b j (b.context j) c p r) n) (create_me g b i (b.context i) c p (facts_at i (InCreate c p) at))
      (λ here a. create_waits g b c (known_by b k is.shown.shows.lines is.listed) p r here a
      (facts_at c.caller.number (InCreate c p) here) n) at a

  destroys_waits : (c : DestroyCall) (p : DestroyAt) (r : Response) → (b.context i).at ≡ InDestroy c p →
      Answers b (destroy.ask_of c (b.context i).own p) r → (n : ℕ) →
      lists_by (destroy.points c (b.seen i).word (hand_of b (b.queue (destroy_number c p))) p r) (waiters b) n ≡
      waiters (destroy_board g b i (b.context i) c p r) n
  destroys_waits c p r at a n =
      let who = victim c p at in
      subst (λ (j : ℕ). (b.context j).at ≡ InDestroy c p → Answers b (destroy.ask_of c (b.context j).own p) r →
      lists_by (destroy.points c (b.seen j).word (hand_of b (b.queue (destroy_number c p))) p r) (waiters b) n ≡
      waiters (destroy_board g b j (b.context j) c p r) n)
      (destroy_me g b i (b.context i) c p (facts_at i (InDestroy c p) at))
      (λ here a. destroy_waits g b c (inside c.who.number b.size who.number few) (small c.who.version who.last) p r here a
      (facts_at c.caller.number (InDestroy c p) here) n) at a

  comes_at : (p : At) → (b.context i).at ≡ p → ((n : ℕ) → coming_at p n ≡ []) → (n : ℕ) → coming_at (b.context i).at n ≡ []
  comes_at p at h n = ap (λ (q : At). coming_at q n) at ∙ h n

  turn_waits : (b' : Board) (t : Turn g b i b') (n : ℕ) → lists_by (turn_point g b i b' t) (waiters b) n ≡ waiters b' n
  turn_waits _ (sends c p r at an) n = send_waits c p r at an n
  turn_waits _ (receives c p r at an) n = receive_waits c p r at an n
  turn_waits _ (creates c p r at an) n = creates_waits c p r at an n
  turn_waits _ (destroys c p r at an) n = destroys_waits c p r at an n
  turn_waits _ (goes_alone p r at can an) n = alone_waits g b i p r at can an (facts_at i _ at) n
  turn_waits _ (begins l f at e) n = placed_waits g b i _ (begun_comes b.size (id_at b i) f) (comes_at _ at (λ m. refl)) n
  turn_waits _ (turns_to_work l count at e) n = placed_waits g b i _ (λ m. refl) (comes_at _ at (λ m. refl)) n
  turn_waits _ (wakes at) n = placed_waits g b i _ (λ m. refl) (comes_at _ at (λ m. refl)) n
  turn_waits _ (switches c p r at going an) n = switch_waits g b i c p r at n
  turn_waits _ (begins_switch c at) n = placed_waits g b i _ (λ m. refl) (comes_at _ at (λ m. refl)) n
  turn_waits _ (ends_switch c s at) n = placed_waits g b i _ (λ m. refl) (comes_at _ at (λ m. refl)) n

  listed_after : (b' : Board) (p : Option Point) (new : KernelState) → Grows g b k p new b' → IsListed new
  listed_after b' None new h = subst IsListed (sym h) is.listed
  listed_after b' (Some p) new h =
      let m = made_of k _ new p.outcome h.0 in
      subst IsListed (ap (λ (r : KernelState × Outcome). r.0) m.1) (acted-listed k p.who _ p.act m.0 is.shown.sound is.listed)

  pub turn_followed : (b' : Board) (t : Turn g b i b') → Follows g b k (turn_point g b i b' t) b'
  turn_followed b' t =
      let m = turn_moves g b k good within.count is.shown i (lists_serve b k i is.lists) b' t in
      record {
        new = m.new;
        followed = record {
          shown = m.shown;
          lists = shows_after g b b' k m.new (turn_point g b i b' t) is.shown.sound is.lists m.history (turn_waits b' t);
          listed = listed_after b' (turn_point g b i b' t) m.new m.history;
        };
        history = m.history;
      }
