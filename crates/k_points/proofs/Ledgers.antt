-- The ledgers after a turn are what its point makes of them.
use Rattle.std.proofs.Common.{◌≡◌, ℕ, refl, sym, ap, ◌∙◌, Option, []}
use Rattle.k_model.specs.Maps.{upd}
use Rattle.k_model.proofs.Maps.{upd_cases}
use Rattle.k_locks.specs.Asks.{Ask, Response}
use Rattle.k_locks.specs.Asks as asks
use Rattle.k_locks.specs.declared.points.Point.{Point}
use Rattle.k_ipc.specs.SendTable as send
use Rattle.k_ipc.specs.ReceiveTable as receive
use Rattle.k_threads.specs.CreateTable as create
use Rattle.k_threads.specs.DestroyTable as destroy
use Rattle.k_caller.specs.Waits as alone
use Rattle.k_board.specs.Words.{Programs, Seen, noted}
use Rattle.k_board.specs.Boards.{Board, hand_of, id_at}
use Rattle.k_board.specs.Steps.{destroy_number, with_word, wrote}
use Rattle.k_board.specs.Turns.{Turn, begins, begins_switch, creates, destroys, ends_switch}
use Rattle.k_board.specs.Turns.{goes_alone, receives, sends, switches, turns_to_work, wakes}
use Rattle.k_points.specs.Points.{SameLedger, turn_point}

same_ledger : (v : Seen) → SameLedger v v
same_ledger v = record { last = refl; told = refl; position = refl }

-- a word or a mail is written, and no ledger
written_ledger : (s : ℕ → Seen) (m : ℕ) (v : Seen) → SameLedger (s m) v → (n : ℕ) → SameLedger (s n) (upd s m v n)
written_ledger s m v l n =
    upd_cases (SameLedger (s n)) s m v n
    (λ e. record {
      last = l.last ∙ ap (λ (j : ℕ). (s j).last) (sym e);
      told = l.told ∙ ap (λ (j : ℕ). (s j).told) (sym e);
      position = l.position ∙ ap (λ (j : ℕ). (s j).position) (sym e);
    })
    (λ _. same_ledger (s n))

wrote_ledger : (s : ℕ → Seen) (a : Ask) (r : Response) (n : ℕ) → SameLedger (s n) (wrote s a r n)
wrote_ledger s (asks.Post m message) asks.Stored n =
    written_ledger s m (record (s m) { mail = message }) (record { last = refl; told = refl; position = refl }) n
wrote_ledger s (asks.Exchange m old new) asks.Won n =
    written_ledger s m (with_word (s m) new) (record { last = refl; told = refl; position = refl }) n
wrote_ledger s a r n = same_ledger (s n)

abbrev Noted : Programs → Board → ℕ → Option Point → ℕ → Seen
Noted g b i p = noted g b.seen (b.context i).position p

pub turn_noted : (g : Programs) (b : Board) (i : ℕ) (b' : Board) (t : Turn g b i b') (n : ℕ) →
    SameLedger (noted g b.seen (b.context i).position (turn_point g b i b' t) n) (b'.seen n)
turn_noted g b i _ (sends c p r at an) n =
    wrote_ledger (Noted g b i (send.points c (b.seen i).word (hand_of b (b.queue c.to.number)) p r))
    (send.ask_of c (b.context i).own p) r n
turn_noted g b i _ (receives c p r at an) n =
    wrote_ledger (Noted g b i (receive.points c (b.seen i).word (hand_of b (b.queue i)) p r))
    (receive.ask_of c (b.context i).own p) r n
turn_noted g b i _ (creates c p r at an) n =
    wrote_ledger (Noted g b i (create.points c (b.seen i).word (hand_of b []) p r)) (create.ask_of c (b.context i).own p) r n
turn_noted g b i _ (destroys c p r at an) n =
    wrote_ledger (Noted g b i (destroy.points c (b.seen i).word (hand_of b (b.queue (destroy_number c p))) p r))
    (destroy.ask_of c (b.context i).own p) r n
turn_noted g b i _ (goes_alone p r at can an) n =
    wrote_ledger (Noted g b i (alone.points (id_at b i) p r)) (alone.ask_of (id_at b i) (b.context i).own p) r n
turn_noted g b i _ (begins l f at e) n = same_ledger (b.seen n)
turn_noted g b i _ (turns_to_work l count at e) n = same_ledger (b.seen n)
turn_noted g b i _ (wakes at) n = same_ledger (b.seen n)
turn_noted g b i _ (switches c p r at going an) n = same_ledger (b.seen n)
turn_noted g b i _ (begins_switch c at) n = same_ledger (b.seen n)
turn_noted g b i _ (ends_switch c s at) n = same_ledger (b.seen n)
