-- The board on which the kernel begins is within its ranges.
use Rattle.std.proofs.Common.{◌≡◌, ℕ, ◌≤◌, ◌<◌, true, false, sym, ap, ◌∙◌, subst, arith}
use Rattle.std.specs.Prelude.{length}
use Rattle.k_ids.specs.declared.state_word.StateWord.{StateWord}
use Rattle.k_ids.specs.declared.state_word.State.{State}
use Rattle.k_ids.specs.declared.state_word.State.TheVariants as state
use Rattle.k_locks.specs.Shown.{is_dead, is_dead_state}
use Rattle.k_script.specs.Plays.{IsInRange}
use Rattle.k_board.specs.Words.{Programs}
use Rattle.k_board.specs.Boards.{At, Board, Context, id_at}
use Rattle.k_board.specs.Boots.{Booted, has_thread, has_none, has_carrier}
use Rattle.k_good.specs.Ranges.{FitsAt, FitsState, IsWithin, is_threads}

true_false : true ≡ false → ⊥
true_false e = cc

dead_fits : (size : ℕ) (s : State) → is_dead_state s ≡ true → FitsState size s
dead_fits size state.Dead e = tt
dead_fits size (state.Run r) e = absurd cc
dead_fits size (state.Sending to joined) e = absurd cc
dead_fits size (state.Receiving from) e = absurd cc
dead_fits size state.Picking e = absurd cc
dead_fits size state.Ended e = absurd cc

pub within_starts : (g : Programs) (b : Board) → ((n : ℕ) → Booted g b n) → length b.numbers.versions ≡ b.size → ((n : ℕ) → is_dead (b.seen n).word ≡ false → n < b.size) → IsWithin b
within_starts g b h count few = record { count = count; words = λ t. words t (h t); threads = λ t. thread t (h t); targets = λ t. target t (h t) }
  where
    words : (t : ℕ) → Booted g b t → FitsState b.size (b.seen t).word.state
    words t (has_thread program priority at) = subst (λ (w : StateWord). FitsState b.size w.state) (sym at.word) tt
    words t (has_none d e) = dead_fits b.size (b.seen t).word.state d
    words t (has_carrier d e) = dead_fits b.size (b.seen t).word.state d

    thread : (t : ℕ) → Booted g b t → is_threads (b.context t).at ≡ true → IsInRange b.size (id_at b t)
    thread t (has_thread program priority at) q = record {
      number = few t (ap is_dead at.word);
      first = subst (λ (w : StateWord). 1 ≤ w.version) (sym at.word) (omega arith);
      last = subst (λ (w : StateWord). w.version ≤ 1048575) (sym at.word) (omega arith);
    }
    thread t (has_none d e) q = absurd (true_false (sym q ∙ ap is_threads e))
    thread t (has_carrier d e) q = absurd (true_false (sym q ∙ ap is_threads e))

    target : (t : ℕ) → Booted g b t → FitsAt b.size (b.context t).at
    target t (has_thread program priority at) = subst (λ (x : Context). FitsAt b.size x.at) (sym at.context) tt
    target t (has_none d e) = subst (λ (p : At). FitsAt b.size p) (sym e) tt
    target t (has_carrier d e) = subst (λ (p : At). FitsAt b.size p) (sym e) tt
