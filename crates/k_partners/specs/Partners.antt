-- Who receives from whom. Whoever waits to receive from one thread waits for another; and that one is
-- there, or the wait is about to end.
use Rattle.std.specs.Prelude.{◌≡◌, ◌⊎◌, ℕ, nat_le, Bool, true, false, Some}
use Rattle.k_ids.specs.declared.threads.ThreadId.{ThreadId}
use Rattle.k_ids.specs.declared.state_word.State.TheVariants as state
use Rattle.k_model.specs.State.{same_id}
use Rattle.k_locks.specs.Shown.{is_present_in}
use Rattle.k_ipc.specs.declared.receive.ReceiveLocked.TheVariants as locked
use Rattle.k_ipc.specs.ReceiveTable as receive
use Rattle.k_threads.specs.declared.destroy.DestroyCall.{DestroyCall}
use Rattle.k_threads.specs.declared.destroy.DestroyLocked.TheVariants as destroy_locked
use Rattle.k_threads.specs.declared.destroy.DestroyPushing.TheVariants as destroy_pushing
use Rattle.k_threads.specs.DestroyTable.{DestroyAt}
use Rattle.k_threads.specs.DestroyTable as destroy
use Rattle.k_board.specs.Boards.{At, InDestroy, InReceive, Board, id_at}
use Rattle.k_good.specs.Numbers.{is_left}

-- the thread of number t waits to receive from this thread alone
abbrev pub ReceivesFrom : Board → ℕ → ThreadId → Type 0
ReceivesFrom b t from = (b.seen t).word.state ≡ state.Receiving (Some from)

abbrev pub IsThere : Board → ThreadId → Type 0
IsThere b id = is_present_in (b.seen id.number).word id ≡ true

-- A receive from this thread alone is about to look whether the thread is there; or it found that it isn't, and is about to end
-- for that.
abbrev pub Looks : ThreadId → At → Type 0
Looks from (InReceive c (receive.Locked (locked.LoadPartner id))) = id ≡ from
Looks from (InReceive c (receive.Locked (locked.CommitGone id))) = id ≡ from
Looks from p = ⊥

-- whether a destroy has killed its victim, and hasn't yet left this number behind among those that it visits
abbrev pub is_ahead : DestroyAt → ℕ → Bool
is_ahead (destroy.Locked (destroy_locked.AcquireVisitedLock visited)) t = nat_le visited t
is_ahead (destroy.Visit p) t = nat_le (destroy.visited_at p) t
is_ahead (destroy.Pushing (destroy_pushing.PushVisited visited seen)) t = nat_le visited t
is_ahead p t = is_left p

-- This thread was killed by the destroy that owns the table lock, which is still to visit number t.
pub record Frees (b : Board) (from : ThreadId) (t : ℕ) : Type 0 where
  pub by : ℕ
  pub call : DestroyCall
  pub location : DestroyAt
  pub owns : b.table ≡ Some by
  pub stands : (b.context by).at ≡ InDestroy call location
  pub victim : call.who ≡ from
  pub ahead : is_ahead location t ≡ true

pub record PartnersHold (b : Board) : Type 0 where
  pub other : (t : ℕ) (from : ThreadId) → ReceivesFrom b t from → same_id from (id_at b t) ≡ false
  pub there : (t : ℕ) (from : ThreadId) → ReceivesFrom b t from → IsThere b from ⊎ (Looks from (b.context t).at ⊎ Frees b from t)
