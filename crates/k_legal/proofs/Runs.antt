-- A lawful board stays lawful over any turn, and the history of a run is legal.
use Rattle.std.proofs.Common.{◌≡◌, ℕ, ◌≤◌, ◌<◌, false, not, refl, sym, ◌∙◌, subst, List, ◌++◌, Option, Some, None, arith}
use Rattle.std.specs.Prelude.{nat_lt}
use Rattle.std.proofs.lemmas.Bool.Decides.{nat_tests}
use Rattle.std.proofs.lemmas.List.{append-nil}
use Rattle.k_ids.specs.declared.histories.Entry.{Entry}
use Rattle.k_model.specs.History.{IsReplay, opened}
use Rattle.k_model.specs.State.{KernelState}
use Rattle.k_model.proofs.Replays.{replay_push}
use Rattle.k_locks.specs.Points.{entry_with}
use Rattle.k_locks.specs.Shown.{is_dead}
use Rattle.k_locks.specs.declared.points.Point.{Point}
use Rattle.k_board.specs.Words.{Programs}
use Rattle.k_board.specs.Boards.{Board}
use Rattle.k_board.specs.Turns.{Turn}
use Rattle.k_good.specs.Good.{QueuesTell}
use Rattle.k_good.specs.Ranges.{NamesFit}
use Rattle.k_good.proofs.Goods.{good_keeps, good_start, supports}
use Rattle.k_good.proofs.RangesKeep.{within_keeps}
use Rattle.k_good.proofs.RangesStart.{within_starts}
use Rattle.k_points.specs.Points.{Grows, lasts, turn_point}
use Rattle.k_points.proofs.Status.{waits_unanswered}
use Rattle.k_points.proofs.Turns.{turn_size}
use Rattle.k_points.specs.Starts.{IsFirstBoard}
use Rattle.k_legal.specs.Runs.{GoesOn, IsLawful, QueuesServe, Run, entries_of, stays, turns}
use Rattle.k_legal.specs.Waiting.{MessagesFit}
use Rattle.k_legal.proofs.Messages.{messages_keep}
use Rattle.k_legal.proofs.Starts.{first_followed}
use Rattle.k_legal.proofs.Sums.{turn_followed}

-- The history answers what k_good asks of calls that wait.
queues_tell : (g : Programs) (b : Board) (k : KernelState) (i : ℕ) → IsLawful g b k → QueuesServe b i → QueuesTell b i
queues_tell g b k i is q = record {
  once = q.once;
  unanswered = waits_unanswered b k is.followed.shown.shows.lines is.followed.shown.answered;
  fresh = q.fresh;
  row = q.row;
}

pub lawful_keeps : (g : Programs) (b : Board) (k : KernelState) (i : ℕ) (b' : Board) → NamesFit g b.size → MessagesFit g →
    IsLawful g b k → QueuesServe b i → (t : Turn g b i b') → GoesOn g b k (turn_point g b i b' t) b'
lawful_keeps g b k i b' names fit is q t =
    let tell = queues_tell g b k i is q in
    let f = turn_followed g b k is.good is.within is.messages is.small is.followed i tell b' t in
    record {
      new = f.new;
      lawful = record {
        good = good_keeps g b b' i is.good tell t;
        within = within_keeps g b is.good.places is.within names i b' (supports g b i is.good tell) t;
        messages = messages_keep g b i b' fit is.messages t;
        small = subst (λ (s : ℕ). s ≤ 64) (sym (turn_size g b i b' t)) is.small;
        followed = f.followed;
      };
      history = f.history;
    }

pub first_lawful : (g : Programs) (b : Board) (threads : ℕ) → IsFirstBoard g b threads → b.size ≤ 64 →
    IsLawful g b (opened b.numbers.versions threads)
first_lawful g b threads h small =
    let f = first_followed g b threads h.booted h.free h.empty h.agree h.count h.few h.who h.unused in
    record {
      good = good_start g b h.booted h.free h.agree;
      within = within_starts g b h.booted h.count (λ n alive. inside n (h.who n) alive);
      messages = f.1;
      small = small;
      followed = f.0;
    }
  where
    inside : (n : ℕ) → is_dead (b.seen n).word ≡ not (nat_lt n threads) → is_dead (b.seen n).word ≡ false → n < b.size
    inside n w alive = grind (arith, nat_tests, h.few)

-- RUNS

pub grown_replay : (g : Programs) (m b' : Board) (old k new : KernelState) (es : List Entry) (p : Option Point) →
    IsReplay old es k → Grows g m k p new b' → IsReplay old (es ++ entries_of m p) new
grown_replay g m b' old k new es None r is =
    subst (λ (fs : List Entry). IsReplay old fs new) (sym (append-nil es)) (subst (IsReplay old es) (sym is) r)
grown_replay g m b' old k new es (Some p) r h = replay_push old k new es (entry_with (lasts m) p) r h.0

-- a run from a lawful board ends on one, of the same size, and its history is legal
record Legal (g : Programs) (b : Board) (old : KernelState) (es : List Entry) (b' : Board) : Type 0 where
  state : KernelState
  replay : IsReplay old es state
  lawful : IsLawful g b' state
  size : b'.size ≡ b.size

run_legal : (g : Programs) (b : Board) (old : KernelState) → NamesFit g b.size → MessagesFit g → IsLawful g b old →
    ((es : List Entry) (m : Board) → Run g b es m → (i : ℕ) → QueuesServe m i) → (es : List Entry) (b' : Board) → Run g b es b' →
    Legal g b old es b'
run_legal g b old names fit is serve _ _ stays = record { state = old; replay = refl; lawful = is; size = refl }
run_legal g b old names fit is serve _ _ (turns es m i b' run t) =
    let l = run_legal g b old names fit is serve es m run in
    let n = lawful_keeps g m l.state i b' (subst (NamesFit g) (sym l.size) names) fit l.lawful (serve es m run i) t in
    record {
      state = n.new;
      replay = grown_replay g m b' old l.state n.new es (turn_point g m i b' t) l.replay n.history;
      lawful = n.lawful;
      size = turn_size g m i b' t ∙ l.size;
    }

pub runs_are_legal : (g : Programs) (b : Board) (threads : ℕ) → IsFirstBoard g b threads → b.size ≤ 64 → NamesFit g b.size →
    MessagesFit g → ((es : List Entry) (m : Board) → Run g b es m → (i : ℕ) → QueuesServe m i) → (es : List Entry) (b' : Board) →
    Run g b es b' → (k : KernelState) × IsReplay (opened b.numbers.versions threads) es k × IsLawful g b' k
runs_are_legal g b threads h small names fit serve es b' run =
    let l = run_legal g b (opened b.numbers.versions threads) names fit (first_lawful g b threads h small) serve es b' run in
    (l.state, l.replay, l.lawful)
