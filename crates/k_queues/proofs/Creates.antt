-- Of which kind each step of a create is.
use Rattle.std.proofs.Common.{◌≡◌, ℕ, refl, sym, ap, ◌∙◌, Option, None, [], ◌-◌, Some}
use Rattle.k_ids.specs.declared.threads.ThreadId.{ThreadId}
use Rattle.k_ids.specs.declared.state_word.StateWord.{StateWord}
use Rattle.k_model.specs.Maps.{upd}
use Rattle.k_locks.specs.declared.points.Point.{Point}
use Rattle.k_locks.specs.Asks.{Response}
use Rattle.k_locks.specs.Asks as asks
use Rattle.k_locks.specs.Numbers.{lowest_free}
use Rattle.k_locks.specs.Shown.{is_dead}
use Rattle.k_threads.specs.declared.create.CreateCall.{CreateCall}
use Rattle.k_threads.specs.declared.create.CreateOutside.TheVariants.{AcquireTable, Ended}
use Rattle.k_threads.specs.declared.create.CreateLocked.TheVariants.{LoadCaller, PlaceContext}
use Rattle.k_threads.specs.declared.create.CreateLocked.TheVariants.{CommitCreate, AcquireReady, Release}
use Rattle.k_threads.specs.CreateTable.{CreateAt, Outside, Locked, PushCreated, full_point}
use Rattle.k_threads.specs.CreateTable as create
use Rattle.k_threads.specs.Words.{created_word, dead_word}
use Rattle.k_ipc.specs.Words.{sends_to}
use Rattle.k_caller.specs.declared.thread.ThreadLocation.TheVariants as location
use Rattle.k_board.specs.Words.{Programs}
use Rattle.k_board.specs.Boards.{Alone, InCreate, Coming, Board, Context, hand_of}
use Rattle.k_board.specs.Facts.{AllSay}
use Rattle.k_board.specs.Places.{facts_create}
use Rattle.k_board.specs.Steps.{Answers, create_at, create_board, create_context, new_context}
use Rattle.k_queues.specs.Tasks.{Idle, task_at, task_of}
use Rattle.k_queues.proofs.StepKinds.{IsPlain, Move, OthersStay, makes, stays}
use Rattle.k_queues.proofs.Moves.{idle_comes}
use Rattle.k_queues.proofs.Words.{IsQuietAsk, after_idle, lost_won, both_mine, both_sides, plain_if}
use Rattle.k_queues.proofs.Words.{plain_none, sides, task_mine, unwritten_word, words_quiet, written_word}

-- a create has nothing to do in queues
create_idle : (c : CreateCall) (p : CreateAt) → task_at (create_at c p) ≡ Idle
create_idle c (Outside (Ended w)) = after_idle c.caller w
create_idle c (Outside AcquireTable) = refl
create_idle c (Locked p) = refl
create_idle c (PushCreated id) = refl

module _ (g : Programs) (b : Board) (i : ℕ) (c : CreateCall) where
  abbrev point_at : CreateAt → Response → Option Point
  point_at p r = create.points c (b.seen i).word (hand_of b []) p r

  abbrev Kept : CreateAt → Response → Type 0
  Kept p r = Move b (create_board g b i (b.context i) c p r) i (point_at p r)

  abbrev moved : CreateAt → Response → Context
  moved p r = create_context (b.context i) c p r (hand_of b [])

  module _ (p : CreateAt) (r : Response) (at : (b.context i).at ≡ InCreate c p) where
    abbrev B : Board
    B = create_board g b i (b.context i) c p r

    idle : task_at (moved p r).at ≡ Idle
    idle = create_idle c (create.leads c (hand_of b []) p r)

    quiet : Answers b (create.ask_of c (b.context i).own p) r →
        (r ≡ asks.Won → IsQuietAsk (create.ask_of c (b.context i).own p)) → OthersStay b B i → task_of B i ≡ Idle →
        IsPlain (point_at p r) → Kept p r
    quiet an q others mine pl =
        let was = ap task_at at in
        stays others (mine ∙ sym was) (λ to e. idle_comes (sym was ∙ e)) (λ t. refl)
        (words_quiet g b (b.context i).position (point_at p r) (create.ask_of c (b.context i).own p) r an q) pl

    alone : Answers b (create.ask_of c (b.context i).own p) r →
        (r ≡ asks.Won → IsQuietAsk (create.ask_of c (b.context i).own p)) →
        ((n : ℕ) → B.context n ≡ upd b.context i (moved p r) n) → IsPlain (point_at p r) → Kept p r
    alone an q one pl = quiet an q (sides b B i (moved p r) one) (task_mine b B i (moved p r) one ∙ idle) pl

    both : Answers b (create.ask_of c (b.context i).own p) r →
        (r ≡ asks.Won → IsQuietAsk (create.ask_of c (b.context i).own p)) → (m : ℕ) (y : Context) →
        ((n : ℕ) → B.context n ≡ upd (upd b.context m y) i (moved p r) n) → task_at y.at ≡ Idle → task_of b m ≡ Idle →
        IsPlain (point_at p r) → Kept p r
    both an q m y two now was pl =
        quiet an q (both_sides b B i (moved p r) m y two now was) (both_mine b B i (moved p r) m y two ∙ idle) pl

  makes_now : (id : ThreadId) → (b.context i).at ≡ InCreate c (Locked (CommitCreate id)) →
      AllSay g b i (b.context i) (facts_create c (Locked (CommitCreate id))) → Kept (Locked (CommitCreate id)) asks.Won
  makes_now id at f =
      makes id.number
      (both_sides b b' i x id.number y (λ n. refl) refl (ap (λ (z : Context). task_at z.at) f.1.1.1.1.1.1.1.0.1))
      (ap task_at at) (both_mine b b' i x id.number y (λ n. refl)) f.0 (λ t. refl)
      (λ n ne. unwritten_word g b (b.context i).position point id.number (dead_word (id.version - 1))
      (created_word id.version c.priority) n ne)
      (ap is_dead f.1.1.1.1.1.1.0.1) (ap is_dead new) (λ r. ap (λ (w : StateWord). sends_to r w.state) new) (λ k. refl)
    where
      b' : Board
      b' = create_board g b i (b.context i) c (Locked (CommitCreate id)) asks.Won

      x : Context
      x = moved (Locked (CommitCreate id)) asks.Won

      y : Context
      y = new_context g c id (Alone (location.Between None))

      point : Option Point
      point = point_at (Locked (CommitCreate id)) asks.Won

      new : (b'.seen id.number).word ≡ created_word id.version c.priority
      new =
          written_word g b (b.context i).position point id.number (dead_word (id.version - 1))
          (created_word id.version c.priority)

  full_plain : (o : Option ℕ) → IsPlain (full_point c b.numbers o)
  full_plain (Some n) f = refl
  full_plain None f = refl

  pub create_moves : (p : CreateAt) (r : Response) → (b.context i).at ≡ InCreate c p →
      Answers b (create.ask_of c (b.context i).own p) r → AllSay g b i (b.context i) (facts_create c p) → Kept p r
  create_moves (Outside AcquireTable) asks.Got at an f =
      alone (Outside AcquireTable) asks.Got at an (λ z. tt) (λ n. refl) plain_none
  create_moves (Outside AcquireTable) (asks.Owned o) at an f =
      alone (Outside AcquireTable) (asks.Owned o) at an (λ z. tt) (λ n. refl) plain_none
  create_moves (Locked LoadCaller) (asks.Word w) at an f =
      alone (Locked LoadCaller) (asks.Word w) at an (λ z. tt) (λ n. refl)
      (plain_if (is_dead w) None _ plain_none (full_plain (lowest_free b.numbers)))
  create_moves (Locked (PlaceContext id)) asks.Placed at an f =
      both (Locked (PlaceContext id)) asks.Placed at an (λ z. tt) id.number (new_context g c id Coming) (λ n. refl) refl
      (ap task_at f.1.1.1.1.1.1.1.0.1) plain_none
  create_moves (Locked (CommitCreate id)) asks.Won at an f = makes_now id at f
  create_moves (Locked (CommitCreate id)) (asks.Lost v) at an f =
      alone (Locked (CommitCreate id)) (asks.Lost v) at an (λ z. absurd (lost_won z)) (λ n. refl) plain_none
  create_moves (Locked (AcquireReady id)) asks.Got at an f =
      alone (Locked (AcquireReady id)) asks.Got at an (λ z. tt) (λ n. refl) plain_none
  create_moves (Locked (AcquireReady id)) (asks.Owned o) at an f =
      alone (Locked (AcquireReady id)) (asks.Owned o) at an (λ z. tt) (λ n. refl) plain_none
  create_moves (PushCreated id) asks.Released at an f =
      alone (PushCreated id) asks.Released at an (λ z. tt) (λ n. refl) plain_none
  create_moves (Locked (Release q)) asks.Released at an f =
      alone (Locked (Release q)) asks.Released at an (λ z. tt) (λ n. refl) plain_none
  create_moves (Outside (Ended w)) r at an f = absurd f.0
  create_moves p r at an f = absurd an
