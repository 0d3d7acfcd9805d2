-- A good board stays good after any turn; and the board at the start is good.
use Rattle.std.proofs.Common.{◌≡◌, ℕ, Bool, true, sym, ap, ◌∙◌, arith, None}
use Rattle.k_ids.specs.declared.threads.ThreadId.{ThreadId}
use Rattle.k_ids.specs.declared.state_word.State.TheVariants as state
use Rattle.k_ids.specs.declared.state_word.StateWord.{StateWord}
use Rattle.k_locks.specs.declared.locks.Lock.{Lock}
use Rattle.k_locks.specs.Shown.{is_dead}
use Rattle.k_board.specs.Words.{Programs}
use Rattle.k_board.specs.Boards.{Board, owner_of}
use Rattle.k_board.specs.Boots.{Booted, has_thread, has_none, has_carrier}
use Rattle.k_board.specs.Turns.{Supports, Turn}
use Rattle.k_board.proofs.Booting.{boots}
use Rattle.k_board.proofs.Turning.{turn_keeps}
use Rattle.k_good.specs.Good.{IsGood, NumbersAgree, QueuesTell}
use Rattle.k_good.proofs.LockTurns.{locks_keep}
use Rattle.k_good.proofs.NumbersKeep.{numbers_keep, unused_is}
use Rattle.k_good.proofs.Outward.{none_of_its_own, outward_keep}
use Rattle.k_good.proofs.Starts.{locks_start}

pub supports : (g : Programs) (b : Board) (i : ℕ) → IsGood g b → QueuesTell b i → Supports b i
supports g b i h q = record {
  once = q.once;
  unanswered = q.unanswered;
  fresh = q.fresh;
  row = q.row;
  alone = λ c w at won. none_of_its_own c.who b.seen (b.queue c.who.number) h.outward (q.row c w at won);
  unused = λ c n at idle e. unused_is g b h.places h.locks h.numbers i n c at e;
}

pub good_keeps : (g : Programs) (b b' : Board) (i : ℕ) → IsGood g b → QueuesTell b i → Turn g b i b' → IsGood g b'
good_keeps g b b' i h q t =
    let s = supports g b i h q in
    record {
      places = turn_keeps g b h.places i b' s t;
      locks = locks_keep g b h.places h.locks i b' t;
      numbers = numbers_keep g b h.places h.locks h.numbers i b' s t;
      outward = outward_keep g b b' i h.places h.outward s t;
    }

dead_unsent : (w : StateWord) (to : ThreadId) (joined : Bool) → is_dead w ≡ true → w.state ≡ state.Sending to joined → ⊥
dead_unsent w to joined d e = grind arith

run_sends : (to : ThreadId) (joined : Bool) {w : StateWord} (v : StateWord) → w ≡ v → (v.state ≡ state.Sending to joined → ⊥) → w.state ≡ state.Sending to joined → ⊥
run_sends to joined v e n q = n (ap (λ (u : StateWord). u.state) (sym e) ∙ q)

unsent_at : (g : Programs) (b : Board) (n : ℕ) (to : ThreadId) (joined : Bool) → Booted g b n → (b.seen n).word.state ≡ state.Sending to joined → ⊥
unsent_at g b n to joined (has_thread program priority t) q = run_sends to joined _ t.word (λ z. cc) q
unsent_at g b n to joined (has_none d e) q = dead_unsent (b.seen n).word to joined d q
unsent_at g b n to joined (has_carrier d e) q = dead_unsent (b.seen n).word to joined d q

pub good_start : (g : Programs) (b : Board) → ((n : ℕ) → Booted g b n) → ((l : Lock) → owner_of b l ≡ None) → NumbersAgree b.seen b.numbers b.context → IsGood g b
good_start g b h free n = record {
  places = boots g b h;
  locks = locks_start g b h free;
  numbers = record { whole = n.whole; spelled = n.spelled; version = λ t m. n.version t; present = λ t m k. n.present t; vacant = λ t m d k. n.vacant t m d };
  outward = λ t to joined q. absurd (unsent_at g b t to joined (h t) q);
}
