-- A thread outside of any section: what it writes has a spelling, and so has its own word after its step.
use Rattle.std.proofs.Common.{◌≡◌, ℕ, true, ap, subst}
use Rattle.k_ids.specs.declared.state_word.StateWord.{StateWord}
use Rattle.k_ids.specs.declared.threads.ThreadId.{ThreadId}
use Rattle.k_ids.specs.StateWords.{IsStateWord, is_live}
use Rattle.k_locks.specs.Asks.{Response}
use Rattle.k_locks.specs.Asks as asks
use Rattle.k_caller.specs.declared.thread.ThreadLocation.{ThreadLocation}
use Rattle.k_caller.specs.declared.thread.ThreadLocation.TheVariants.{CommitEnd, FallAsleep, LookAgain}
use Rattle.k_caller.specs.Waits as alone
use Rattle.k_board.specs.Words.{Programs}
use Rattle.k_board.specs.Boards.{Board, Context}
use Rattle.k_board.specs.Facts.{AllSay}
use Rattle.k_board.specs.Places.{facts_alone}
use Rattle.k_board.specs.Steps.{Answers}
use Rattle.k_turns.specs.Spelled.{IsSpelled}
use Rattle.k_spelled.proofs.Spellings.{ended_spelled, off_spelled}

module _ (g : Programs) (b : Board) (i : ℕ) (x : Context) (own : IsStateWord x.own) where
  pub alone_spelled : (me : ThreadId) (p : ThreadLocation) → AllSay g b i x (facts_alone p) →
      IsSpelled b.size (alone.ask_of me x.own p)
  alone_spelled me FallAsleep h = (own, off_spelled x.own own)
  alone_spelled me CommitEnd h =
      let live : is_live x.own.state ≡ true = ap is_live h.1.1.0.0.state in
      (own, ended_spelled x.own own live)
  alone_spelled me p h = tt

-- its own word is one that it wrote, one that it loaded, or as before
pub alone_own : (b : Board) (me : ThreadId) (own : StateWord) (p : ThreadLocation) (r : Response) →
    Answers b (alone.ask_of me own p) r → ((t : ℕ) → IsStateWord (b.seen t).word) → IsStateWord own →
    IsSpelled b.size (alone.ask_of me own p) → IsStateWord (alone.own_of own p r)
alone_own b me own FallAsleep asks.Won an words h s = s.1
alone_own b me own LookAgain (asks.Word w) an words h s = subst IsStateWord an (words me.number)
alone_own b me own CommitEnd asks.Won an words h s = s.1
alone_own b me own p r an words h s = h
