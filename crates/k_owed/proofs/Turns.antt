-- Each turn that makes its step, and has no point, lowers what is owed.
use Rattle.std.proofs.Common.{◌≡◌, ◌≢◌, ℕ, ◌+◌, ◌<◌, ◌≤◌, Bool, true, false, refl, sym, ap, ◌∙◌, subst, arith}
use Rattle.std.proofs.Common.{Option, Some, None, [], length, inl, inr}
use Rattle.std.proofs.lemmas.Bool.{false≢true}
use Rattle.k_ids.specs.declared.calls.Phase.{Phase}
use Rattle.k_ids.specs.declared.calls.Reply.{Reply}
use Rattle.k_model.proofs.Maps.{upd_same}
use Rattle.k_links.proofs.Linked.{standing_entry}
use Rattle.k_senders.specs.declared.entries.SenderEntry.{SenderEntry}
use Rattle.k_senders.specs.Entries.{number_of}
use Rattle.k_senders.specs.Queue.{entry_of, stands}
use Rattle.k_locks.specs.Asks.{Response}
use Rattle.k_locks.specs.Asks as asks
use Rattle.k_locks.proofs.Responses.{made_by}
use Rattle.k_script.specs.Plays.{IsInRange, Position}
use Rattle.k_script.specs.declared.registers.Next.TheVariants as next
use Rattle.k_ipc.specs.declared.send.SendCall.{SendCall}
use Rattle.k_ipc.specs.SendTable.{SendAt}
use Rattle.k_ipc.specs.SendTable as send
use Rattle.k_ipc.specs.declared.receive.ReceiveCall.{ReceiveCall}
use Rattle.k_ipc.specs.ReceiveTable.{ReceiveAt}
use Rattle.k_ipc.specs.ReceiveTable as receive
use Rattle.k_threads.specs.declared.create.CreateCall.{CreateCall}
use Rattle.k_threads.specs.CreateTable.{CreateAt}
use Rattle.k_threads.specs.CreateTable as create
use Rattle.k_threads.specs.declared.destroy.DestroyCall.{DestroyCall}
use Rattle.k_threads.specs.DestroyTable.{DestroyAt}
use Rattle.k_threads.specs.DestroyTable as destroy
use Rattle.k_caller.specs.declared.thread.ThreadLocation.{ThreadLocation}
use Rattle.k_caller.specs.declared.thread.ThreadLocation.TheVariants as location
use Rattle.k_caller.specs.Waits.{can_ask}
use Rattle.k_caller.specs.Waits as alone
use Rattle.k_switch.specs.declared.switch.SwitchCall.{SwitchCall}
use Rattle.k_switch.specs.Switches.{SwitchAt}
use Rattle.k_switch.specs.Switches as switch
use Rattle.k_board.specs.Words.{Programs}
use Rattle.k_board.specs.Boards.{At, Alone, InSend, InReceive, InCreate, InDestroy, InSwitch, Context, Board}
use Rattle.k_board.specs.Boards.{hand_of, id_at}
use Rattle.k_board.specs.Facts.{AllSay}
use Rattle.k_board.specs.Places.{facts_of}
use Rattle.k_board.specs.Steps.{Answers, alone_board, alone_context, begun, begun_at, create_board}
use Rattle.k_board.specs.Steps.{create_context}
use Rattle.k_board.specs.Steps.{create_contexts, destroy_board, destroy_contexts, destroy_context}
use Rattle.k_board.specs.Steps.{destroy_number, placed, receive_board, receive_context, send_board}
use Rattle.k_board.specs.Steps.{send_context}
use Rattle.k_board.specs.Steps.{switch_board, switch_context, working}
use Rattle.k_board.specs.Turns.{Turn, begins, begins_switch, creates, destroys, ends_switch, goes_alone}
use Rattle.k_board.specs.Turns.{is_going}
use Rattle.k_board.specs.Turns.{receives, sends, switches, turns_to_work, wakes}
use Rattle.k_good.specs.Good.{IsGood}
use Rattle.k_good.specs.Ranges.{FitsAt, is_threads}
use Rattle.k_good.proofs.Owners.{suits_is}
use Rattle.k_grants.specs.Granted.{is_again}
use Rattle.k_points.specs.Points.{turn_point}
use Rattle.k_queues.specs.Queues.{IsProper}
use Rattle.k_queues.proofs.Entries.{of_number}
use Rattle.k_sections.proofs.Short.{short_queue}
use Rattle.k_owed.specs.Works.{CountsWork}
use Rattle.k_owed.specs.Owed.{HasStepsLeft, pushes_at}
use Rattle.k_owed.proofs.Alone.{create_leaves, destroy_keeps, destroy_leaves, one_moves, receive_keeps}
use Rattle.k_owed.proofs.Alone.{send_keeps}
use Rattle.k_owed.proofs.AloneOwes.{alone_owes, begins_owes, wakes_owes, works_owes}
use Rattle.k_owed.proofs.CreateOwes.{create_owes}
use Rattle.k_owed.proofs.DestroyOwes.{destroy_owes}
use Rattle.k_owed.proofs.Lowers.{FallsFor, LeavesAlone, Lowers, Spends, Takes, lowers_takes, spent, stepped}
use Rattle.k_owed.proofs.Lowers.{unwritten}
use Rattle.k_owed.proofs.ReceiveOwes.{receive_owes}
use Rattle.k_owed.proofs.SendOwes.{send_owes}
use Rattle.k_owed.proofs.SwitchOwes.{switch_owes}

module _ (g : Programs) (work : Position → ℕ) (b : Board) (proper : IsProper g b) (i count : ℕ)
    (inside : i < count) where
  abbrev x : Context
  x = b.context i

  abbrev good : IsGood g b
  good = proper.good

  facts_at : (p : At) → x.at ≡ p → AllSay g b i x (facts_of p)
  facts_at p at = subst (λ (q : At). AllSay g b i x (facts_of q)) at (good.places i)

  -- where context i alone is changed, and no queue
  pub placed_alone : (y : Context) → LeavesAlone b i (placed b i y)
  placed_alone y = record {
    size = refl;
    contexts = λ j ne. one_moves b.context i y j ne;
    queues =
        λ j ne mine. refl;
  }

  own_short : is_threads x.at ≡ true → length (b.queue i) < b.size
  own_short t = short_queue b.size i (b.queue i) (proper.within.threads i t).number (proper.queues.once i)
      entered
    where
      entered : (n : ℕ) → stands n (b.queue i) ≡ true → (n < b.size) × (n ≢ i)
      entered n s = go (entry_of n (b.queue i)) refl
        where
          go : (o : Option SenderEntry) → entry_of n (b.queue i) ≡ o → (n < b.size) × (n ≢ i)
          go None e = absurd (standing_entry number_of n (b.queue i) s e)
          go (Some e) q =
              let is = proper.queues.senders i n e q in
              let same = of_number n (b.queue i) e q in
              (subst (λ (k : ℕ). k < b.size) same is.sender.number, λ d. is.apart (same ∙ d))

  -- THE KINDS OF TURNS

  sends_lowers : (c : SendCall) (p : SendAt) (r : Response) → x.at ≡ InSend c p →
      Answers b (send.ask_of c x.own p) r →
      send.points c (b.seen i).word (hand_of b (b.queue c.to.number)) p r ≡ None → asks.is_again r ≡ false →
      FallsFor work b (send_board g b i x c p r) count (pushes_at (InSend c p))
  sends_lowers c p r at an silent made =
      let f = facts_at (InSend c p) at in
      let ask = send.ask_of c x.own p in
      let b' = send_board g b i x c p r in
      let y = send_context x c p r (hand_of b (b.queue c.to.number)) in
      let point = send.points c (b.seen i).word (hand_of b (b.queue c.to.number)) p r in
      let P : Response → Type 0 = λ q. Answers b ask q →
      send.points c (b.seen i).word (hand_of b (b.queue c.to.number)) p q ≡ None →
      Spends work b i (InSend c p) (send_board g b i x c p q) (send_context x c p q
      (hand_of b (b.queue c.to.number))) q in
      spent g work b good i b'
      (record {
        size = refl;
        contexts = λ j ne. one_moves b.context i y j ne;
        queues =
            send_keeps g b i c p r f;
      }) count y
      (InSend c p) r inside (upd_same b.context i y) at (unwritten g b x.position point ask r an)
      (made_by ask r P (suits_is b ask r an) made (send_owes g work b i c p f) an silent)

  receives_lowers : (c : ReceiveCall) (p : ReceiveAt) (r : Response) → x.at ≡ InReceive c p →
      Answers b (receive.ask_of c x.own p) r → receive.points c (b.seen i).word (hand_of b (b.queue i)) p r
      ≡ None →
      asks.is_again r ≡ false → FallsFor work b (receive_board g b i x c p r) count
      (pushes_at (InReceive c p))
  receives_lowers c p r at an silent made =
      let f = facts_at (InReceive c p) at in
      let ask = receive.ask_of c x.own p in
      let b' = receive_board g b i x c p r in
      let y = receive_context x c p r (hand_of b (b.queue i)) in
      let point = receive.points c (b.seen i).word (hand_of b (b.queue i)) p r in
      let P : Response → Type 0 = λ q. Answers b ask q →
      receive.points c (b.seen i).word (hand_of b (b.queue i)) p q ≡ None →
      Spends work b i (InReceive c p) (receive_board g b i x c p q) (receive_context x c p q
      (hand_of b (b.queue i))) q in
      spent g work b good i b'
      (record {
        size = refl;
        contexts = λ j ne. one_moves b.context i y j ne;
        queues =
            receive_keeps g b i c p r f;
      }) count y
      (InReceive c p) r inside (upd_same b.context i y) at (unwritten g b x.position point ask r an)
      (made_by ask r P (suits_is b ask r an) made
      (receive_owes g work b i c (proper.queues.once i) (own_short (ap is_threads at)) p f) an silent)

  creates_lowers : (c : CreateCall) (p : CreateAt) (r : Response) → x.at ≡ InCreate c p →
      Answers b (create.ask_of c x.own p) r → create.points c (b.seen i).word (hand_of b []) p r ≡ None →
      asks.is_again r ≡ false → FallsFor work b (create_board g b i x c p r) count (pushes_at (InCreate c p))
  creates_lowers c p r at an silent made =
      let f = facts_at (InCreate c p) at in
      let ask = create.ask_of c x.own p in
      let b' = create_board g b i x c p r in
      let y = create_context x c p r (hand_of b []) in
      let point = create.points c (b.seen i).word (hand_of b []) p r in
      let P : Response → Type 0 = λ q. Answers b ask q → create.points c (b.seen i).word (hand_of b []) p q
      ≡ None →
      Spends work b i (InCreate c p) (create_board g b i x c p q) (create_context x c p q (hand_of b [])) q in
      spent g work b good i b'
      (record { size = refl; contexts = create_leaves g b i c p r y silent; queues = λ j ne mine. refl })
      count y
      (InCreate c p) r inside (upd_same (create_contexts g c p r b.context) i y) at (unwritten g b
      x.position point ask r an)
      (made_by ask r P (suits_is b ask r an) made (create_owes g work b i c p f) an silent)

  destroys_lowers : (c : DestroyCall) (p : DestroyAt) (r : Response) → x.at ≡ InDestroy c p →
      Answers b (destroy.ask_of c x.own p) r →
      destroy.points c (b.seen i).word (hand_of b (b.queue (destroy_number c p))) p r ≡ None →
      asks.is_again r ≡ false → FallsFor work b (destroy_board g b i x c p r) count
      (pushes_at (InDestroy c p))
  destroys_lowers c p r at an silent made =
      let f = facts_at (InDestroy c p) at in
      let ask = destroy.ask_of c x.own p in
      let hand = hand_of b (b.queue (destroy_number c p)) in
      let b' = destroy_board g b i x c p r in
      let y = destroy_context x c p r hand in
      let point = destroy.points c (b.seen i).word hand p r in
      let P : Response → Type 0 = λ q. Answers b ask q → destroy.points c (b.seen i).word hand p q ≡ None →
      Spends work b i (InDestroy c p) (destroy_board g b i x c p q) (destroy_context x c p q hand) q in
      let fits = subst (λ (q : At). FitsAt b.size q) at (proper.within.targets i) in
      let lies : c.who.number < c.count = subst (λ (n : ℕ). c.who.number < n) (sym fits.1) fits.0.number in
      spent g work b good i b'
      (record {
        size = refl;
        contexts = destroy_leaves g b i c p r y;
        queues =
            destroy_keeps g b i c p r f silent;
      }) count y
      (InDestroy c p) r inside (upd_same (destroy_contexts c p r b.context) i y) at (unwritten g b
      x.position point ask r an)
      (made_by ask r P (suits_is b ask r an) made (destroy_owes g work b i c lies p f) an silent)

  alone_lowers : HasStepsLeft b i → (p : ThreadLocation) (r : Response) → x.at ≡ Alone p → can_ask p ≡ true →
      Answers b (alone.ask_of (id_at b i) x.own p) r → alone.points (id_at b i) p r ≡ None →
      asks.is_again r ≡ false →
      FallsFor work b (alone_board g b i x p r) count (pushes_at (Alone p))
  alone_lowers left p r at can an silent made =
      let f = facts_at (Alone p) at in
      let ask = alone.ask_of (id_at b i) x.own p in
      let y = alone_context x p r in
      let P : Response → Type 0 = λ q. Answers b ask q → alone.points (id_at b i) p q ≡ None →
      Spends work b i (Alone p) (alone_board g b i x p q) (alone_context x p q) q in
      spent g work b good i (alone_board g b i x p r)
      (record { size = refl; contexts = λ j ne. one_moves b.context i y j ne; queues = λ j ne mine. refl })
      count y
      (Alone p) r inside (upd_same b.context i y) at (unwritten g b x.position (alone.points (id_at b i) p
      r) ask r an)
      (made_by ask r P (suits_is b ask r an) made (alone_owes g work b i left p at can f) an silent)

  -- where the context moves, and nothing else
  pub placed_lowers : (y : Context) (p : At) → x.at ≡ p → Lowers work b i p (placed b i y) y →
      FallsFor work b (placed b i y) count (pushes_at p)
  placed_lowers y p at l =
      stepped g work b good i (placed b i y) (placed_alone y) count y p inside (upd_same b.context i y) at
      (λ t. refl)
      (lowers_takes work b i p (placed b i y) y l)

  by_at : (b' : Board) (p : At) → x.at ≡ p → FallsFor work b b' count (pushes_at p) →
      FallsFor work b b' count (pushes_at x.at)
  by_at b' p at h = subst (λ (q : At). FallsFor work b b' count (pushes_at q)) (sym at) h

  pub thread_turn : CountsWork g work → HasStepsLeft b i → is_threads x.at ≡ true →
      (b' : Board) (t : Turn g b i b') →
      turn_point g b i b' t ≡ None → is_again g b i b' t ≡ false → FallsFor work b b' count (pushes_at x.at)
  thread_turn counts left thread _ (sends c p r at an) silent made =
      by_at (send_board g b i x c p r) (InSend c p) at (sends_lowers c p r at an silent made)
  thread_turn counts left thread _ (receives c p r at an) silent made =
      by_at (receive_board g b i x c p r) (InReceive c p) at (receives_lowers c p r at an silent made)
  thread_turn counts left thread _ (creates c p r at an) silent made =
      by_at (create_board g b i x c p r) (InCreate c p) at (creates_lowers c p r at an silent made)
  thread_turn counts left thread _ (destroys c p r at an) silent made =
      by_at (destroy_board g b i x c p r) (InDestroy c p) at (destroys_lowers c p r at an silent made)
  thread_turn counts left thread _ (goes_alone p r at can an) silent made =
      by_at (alone_board g b i x p r) (Alone p) at (alone_lowers left p r at can an silent made)
  thread_turn counts left thread _ (begins l f at e) silent made =
      let y = begun g x l (begun_at b.size (id_at b i) f) in
      by_at (placed b i y) (Alone (location.Between l)) at
      (placed_lowers y (Alone (location.Between l)) at (begins_owes g work b i l f))
  thread_turn counts left thread _ (turns_to_work l count' at e) silent made =
      let y = working g x l count' in
      by_at (placed b i y) (Alone (location.Between l)) at
      (placed_lowers y (Alone (location.Between l)) at (works_owes g work b i counts l count' e))
  thread_turn counts left thread _ (wakes at) silent made =
      let y = record x { at = Alone location.LookAgain } in
      by_at (placed b i y) (Alone location.Asleep) at (placed_lowers y (Alone location.Asleep) at
      (wakes_owes g work b i))
  thread_turn counts left thread _ (switches c p r at going an) silent made =
      absurd (false≢true (sym (ap is_threads at) ∙ thread))
  thread_turn counts left thread _ (begins_switch c at) silent made =
      absurd (false≢true (sym (ap is_threads at) ∙ thread))
  thread_turn counts left thread _ (ends_switch c s at) silent made =
      absurd (false≢true (sym (ap is_threads at) ∙ thread))

  pub switch_turn : (c : SwitchCall) (p : SwitchAt) (r : Response) → x.at ≡ InSwitch c p → is_going p ≡ true →
      Answers b (switch.ask_of c p) r → asks.is_again r ≡ false → FallsFor work b (switch_board b i x c p r)
      count false
  switch_turn c p r at going an made =
      let ask = switch.ask_of c p in
      let y = switch_context x c p r (hand_of b []) in
      let P : Response → Type 0 = λ q.
      Takes work b i (InSwitch c p) (switch_board b i x c p q) (switch_context x c p q (hand_of b [])) in
      stepped g work b good i (switch_board b i x c p r)
      (record { size = refl; contexts = λ j ne. one_moves b.context i y j ne; queues = λ j ne mine. refl })
      count y
      (InSwitch c p) inside (upd_same b.context i y) at (λ t. refl)
      (made_by ask r P (suits_is b ask r an) made (switch_owes work b i c p going))
