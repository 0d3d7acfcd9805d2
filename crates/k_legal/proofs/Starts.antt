-- The board on which the kernel begins shows the opening state, lists and all.
use Rattle.std.proofs.Common.{◌≡◌, ℕ, ◌≤◌, Bool, true, false, cond, not, refl, sym, ap, ◌∙◌, List, [], ◌++◌, length, Option, None}
use Rattle.std.specs.Prelude.{nat_lt}
use Rattle.std.proofs.lemmas.Bool.{cond_both}
use Rattle.k_model.specs.History.{opened, opening_place}
use Rattle.k_model.specs.State.{Place, Waiting}
use Rattle.k_model.proofs.Listed.{opened-listed}
use Rattle.k_senders.specs.declared.entries.SenderEntry.{SenderEntry}
use Rattle.k_locks.specs.declared.locks.Lock.{Lock}
use Rattle.k_locks.specs.declared.locks.Lock.TheVariants as lock
use Rattle.k_locks.specs.Shown.{is_dead}
use Rattle.k_board.specs.Words.{Programs}
use Rattle.k_board.specs.Boards.{Board, id_at, owner_of}
use Rattle.k_board.specs.Boots.{Booted}
use Rattle.k_good.specs.Good.{NumbersAgree}
use Rattle.k_points.proofs.Starts.{first_shows}
use Rattle.k_legal.specs.Follows.{IsFollowed}
use Rattle.k_legal.specs.Waiting.{MessagesHold, coming_by, waiters, waiters_in}
use Rattle.k_legal.proofs.Messages.{messages_start}

opening_empty : (vs : List ℕ) (n t : ℕ) → (opening_place vs n t).waiting ≡ []
opening_empty vs n t =
    cond_both (not (nat_lt t (length vs))) _ _ (λ (p : Place). p.waiting ≡ []) (λ _. refl)
    (λ _. cond_both (nat_lt t n) _ _ (λ (p : Place). p.waiting ≡ []) (λ _. refl) (λ _. refl))

nobody : (dead : Bool) (ws : List Waiting) → ws ≡ [] → cond dead [] ws ≡ []
nobody true ws e = refl
nobody false ws e = e

nobody_waits : (b : Board) (n : ℕ) → b.owner n ≡ None → b.queue n ≡ [] → waiters b n ≡ []
nobody_waits b n o q =
    nobody (is_dead (b.seen n).word) _ (ap (waiters_in (id_at b n) b.seen)
    (ap (λ (a : Option ℕ). b.queue n ++ coming_by a b.context n) o ∙ ap (λ (es : List SenderEntry). es ++ []) q))

pub first_followed : (g : Programs) (b : Board) (threads : ℕ) → ((n : ℕ) → Booted g b n) → ((l : Lock) → owner_of b l ≡ None) →
    ((n : ℕ) → b.queue n ≡ []) → NumbersAgree b.seen b.numbers b.context → length b.numbers.versions ≡ b.size → threads ≤ b.size →
    ((n : ℕ) → is_dead (b.seen n).word ≡ not (nat_lt n threads)) →
    ((n : ℕ) → is_dead (b.seen n).word ≡ true → ((b.seen n).last ≡ 0) × ((b.seen n).told ≡ None)) →
    IsFollowed b (opened b.numbers.versions threads) × MessagesHold b.context
first_followed g b threads booted free empty agree count few who unused = (
  record {
    shown = first_shows g b threads booted free agree count few who unused;
    lists = λ n. opening_empty b.numbers.versions threads n ∙ sym (nobody_waits b n (free (lock.Thread n)) (empty n));
    listed = opened-listed b.numbers.versions threads;
  },
  messages_start g b booted,
)
