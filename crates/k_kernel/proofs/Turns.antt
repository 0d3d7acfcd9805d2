-- A turn of programs is one of others that differ in what comes next alone, with the same point, where both give the same next.
use Rattle.std.proofs.Common.{◌≡◌, ℕ, refl, sym, ap, ◌∙◌, subst, Option, []}
use Rattle.k_ids.specs.declared.calls.Reply.{Reply}
use Rattle.k_locks.specs.Asks.{Response}
use Rattle.k_locks.specs.declared.points.Point.{Point}
use Rattle.k_script.specs.declared.registers.Next.{Next}
use Rattle.k_script.specs.Plays.{Position}
use Rattle.k_ipc.specs.declared.send.SendCall.{SendCall}
use Rattle.k_ipc.specs.SendTable.{SendAt}
use Rattle.k_ipc.specs.SendTable as send
use Rattle.k_ipc.specs.declared.receive.ReceiveCall.{ReceiveCall}
use Rattle.k_ipc.specs.ReceiveTable.{ReceiveAt}
use Rattle.k_ipc.specs.ReceiveTable as receive
use Rattle.k_threads.specs.declared.create.CreateCall.{CreateCall}
use Rattle.k_threads.specs.CreateTable.{CreateAt}
use Rattle.k_threads.specs.CreateTable as create
use Rattle.k_threads.specs.declared.destroy.DestroyCall.{DestroyCall}
use Rattle.k_threads.specs.DestroyTable.{DestroyAt}
use Rattle.k_threads.specs.DestroyTable as destroy
use Rattle.k_caller.specs.declared.thread.ThreadLocation.{ThreadLocation}
use Rattle.k_caller.specs.declared.thread.ThreadLocation.TheVariants as location
use Rattle.k_caller.specs.Waits as alone
use Rattle.k_board.specs.Words.{Programs, Seen}
use Rattle.k_board.specs.Boards.{Alone, Board, Context, hand_of, id_at}
use Rattle.k_board.specs.Steps.{alone_board, create_board, create_context, destroy_board}
use Rattle.k_board.specs.Steps.{destroy_number, receive_board, send_board, wrote}
use Rattle.k_model.specs.Maps.{upd}
use Rattle.k_board.specs.Turns.{Turn, sends, receives, creates, destroys, goes_alone, begins}
use Rattle.k_board.specs.Turns.{turns_to_work, wakes, switches, begins_switch, ends_switch}
use Rattle.k_points.specs.Points.{turn_point}
use Rattle.k_kernel.proofs.Programs.{contexts_same, noted_same}

module _ (Own : Programs) (gives : Position → Option Reply → Next) (b : Board) (i : ℕ) where
  abbrev Other : Programs
  Other = record Own { next = gives }

  send_same : (x : Context) (c : SendCall) (p : SendAt) (r : Response) → send_board Own b i x c p r ≡ send_board Other b i x c p r
  send_same x c p r =
      ap (λ (s : ℕ → Seen). record (send_board Other b i x c p r) { seen = wrote s (send.ask_of c x.own p) r })
      (noted_same Own gives b.seen x.position (send.points c (b.seen i).word (hand_of b (b.queue c.to.number)) p r))

  receive_same : (x : Context) (c : ReceiveCall) (p : ReceiveAt) (r : Response) →
      receive_board Own b i x c p r ≡ receive_board Other b i x c p r
  receive_same x c p r =
      ap (λ (s : ℕ → Seen). record (receive_board Other b i x c p r) { seen = wrote s (receive.ask_of c x.own p) r })
      (noted_same Own gives b.seen x.position (receive.points c (b.seen i).word (hand_of b (b.queue i)) p r))

  create_same : (x : Context) (c : CreateCall) (p : CreateAt) (r : Response) →
      create_board Own b i x c p r ≡ create_board Other b i x c p r
  create_same x c p r =
      ap (λ (s : ℕ → Seen). record (create_board Own b i x c p r) { seen = wrote s (create.ask_of c x.own p) r })
      (noted_same Own gives b.seen x.position (create.points c (b.seen i).word (hand_of b []) p r))
      ∙ ap (λ (s : ℕ → Context). record (create_board Other b i x c p r) {
        context =
            upd s i (create_context x c p r (hand_of b []));
      }) (contexts_same Own gives c p r b.context)

  destroy_same : (x : Context) (c : DestroyCall) (p : DestroyAt) (r : Response) →
      destroy_board Own b i x c p r ≡ destroy_board Other b i x c p r
  destroy_same x c p r =
      ap (λ (s : ℕ → Seen). record (destroy_board Other b i x c p r) { seen = wrote s (destroy.ask_of c x.own p) r })
      (noted_same Own gives b.seen x.position (destroy.points c (b.seen i).word (hand_of b (b.queue (destroy_number c p))) p r))

  alone_same : (x : Context) (p : ThreadLocation) (r : Response) → alone_board Own b i x p r ≡ alone_board Other b i x p r
  alone_same x p r =
      ap (λ (s : ℕ → Seen). record (alone_board Other b i x p r) { seen = wrote s (alone.ask_of (id_at b i) x.own p) r })
      (noted_same Own gives b.seen x.position (alone.points (id_at b i) p r))

  -- a turn to this board with this point
  pub record OtherTurn (b' : Board) (p : Option Point) : Type 0 where
    pub turn : Turn Other b i b'
    pub point : turn_point Other b i b' turn ≡ p

  -- both give the same to a thread between two calls
  abbrev pub AgreeHere : Type 0
  AgreeHere =
      (l : Option Reply) → (b.context i).at ≡ Alone (location.Between l) →
      Other.next (b.context i).position l ≡ Own.next (b.context i).position l

  pub other_turn : AgreeHere → (b' : Board) → (t : Turn Own b i b') → OtherTurn b' (turn_point Own b i b' t)
  other_turn same _ (sends c p r at an) =
      subst (λ (d : Board). OtherTurn d (send.points c (b.seen i).word (hand_of b (b.queue c.to.number)) p r))
      (sym (send_same (b.context i) c p r))
      (record { turn = sends c p r at an; point = refl })
  other_turn same _ (receives c p r at an) =
      subst (λ (d : Board). OtherTurn d (receive.points c (b.seen i).word (hand_of b (b.queue i)) p r))
      (sym (receive_same (b.context i) c p r))
      (record { turn = receives c p r at an; point = refl })
  other_turn same _ (creates c p r at an) =
      subst (λ (d : Board). OtherTurn d (create.points c (b.seen i).word (hand_of b []) p r))
      (sym (create_same (b.context i) c p r))
      (record { turn = creates c p r at an; point = refl })
  other_turn same _ (destroys c p r at an) =
      subst (λ (d : Board). OtherTurn d (destroy.points c (b.seen i).word (hand_of b (b.queue (destroy_number c p))) p r))
      (sym (destroy_same (b.context i) c p r))
      (record { turn = destroys c p r at an; point = refl })
  other_turn same _ (goes_alone p r at can an) =
      subst (λ (d : Board). OtherTurn d (alone.points (id_at b i) p r)) (sym (alone_same (b.context i) p r))
      (record { turn = goes_alone p r at can an; point = refl })
  other_turn same _ (begins l f at e) = record { turn = begins l f at (same l at ∙ e); point = refl }
  other_turn same _ (turns_to_work l count at e) = record { turn = turns_to_work l count at (same l at ∙ e); point = refl }
  other_turn same _ (wakes at) = record { turn = wakes at; point = refl }
  other_turn same _ (switches c p r at going an) = record { turn = switches c p r at going an; point = refl }
  other_turn same _ (begins_switch c at) = record { turn = begins_switch c at; point = refl }
  other_turn same _ (ends_switch c s at) = record { turn = ends_switch c s at; point = refl }
