-- Where a switch has found nobody to run, nobody runs and no start is to come, all rest on the board.
use Rattle.std.proofs.Common.{◌≡◌, ℕ, true, false, not, refl, sym, ap, ◌∙◌, arith, Option, Some, None, inl, inr}
use Rattle.std.proofs.lemmas.Bool.{false≢true}
use Rattle.k_locks.specs.declared.locks.Lock.TheVariants as lock
use Rattle.k_locks.specs.Locks.{Holds}
use Rattle.k_locks.specs.Shown.{is_dead}
use Rattle.k_ipc.specs.SendTable as send
use Rattle.k_ipc.specs.ReceiveTable as receive
use Rattle.k_threads.specs.CreateTable as create
use Rattle.k_threads.specs.DestroyTable as destroy
use Rattle.k_caller.specs.declared.thread.ThreadLocation.TheVariants as location
use Rattle.k_switch.specs.Switches as switch
use Rattle.k_board.specs.Boards.{At, Alone, InSend, InReceive, InCreate, InDestroy, InSwitch, Resting, Coming, Nowhere, Board}
use Rattle.k_good.specs.Locks.{locks_at}
use Rattle.k_tokens.specs.World.{Asleep, Ended, Threads, World, holds_any, is_idle}
use Rattle.k_tokens.specs.Claims.{AtRest, NothingToCome}
use Rattle.k_tokens.proofs.Claimed.{idle_rests}
use Rattle.k_grants.specs.Views.{look_at, threads_of}
use Rattle.k_invariant.specs.Invariant.{AllRest}
use Rattle.k_paired.specs.Pairs.{IsPair}
use Rattle.k_board.specs.Words.{Programs}

-- A context that owns a thread's lock holds a lock in the world too.
owns_any : (p : At) (t : ℕ) → Holds (lock.Thread t) (locks_at p) → holds_any (look_at p).locks ≡ true
owns_any (Alone p) t h = cc
owns_any (InSend c (send.Outside p)) t h = cc
owns_any (InSend c (send.Locked p)) t h = refl
owns_any (InSend c (send.Pushing p)) t h = refl
owns_any (InReceive c (receive.Outside p)) t h = cc
owns_any (InReceive c (receive.Locked p)) t h = refl
owns_any (InReceive c (receive.Pushing p)) t h = refl
owns_any (InCreate c (create.Outside p)) t h = cc
owns_any (InCreate c (create.Locked p)) t h = refl
owns_any (InCreate c (create.PushCreated id)) t h = refl
owns_any (InDestroy c (destroy.Outside p)) t h = cc
owns_any (InDestroy c (destroy.Locked p)) t h = refl
owns_any (InDestroy c (destroy.Victim p)) t h = refl
owns_any (InDestroy c (destroy.Visit p)) t h = refl
owns_any (InDestroy c destroy.UnlistVictim) t h = refl
owns_any (InDestroy c (destroy.Pushing p)) t h = refl
owns_any (InSwitch c switch.AcquireReady) t h = cc
owns_any (InSwitch c (switch.Locked p)) t h = cc
owns_any (InSwitch c (switch.Returned s)) t h = cc
owns_any (InSwitch c (switch.Finished s)) t h = cc
owns_any Resting t h = cc
owns_any Coming t h = cc
owns_any Nowhere t h = cc

pub asleep_at : (p : At) → (look_at p).condition ≡ Asleep → p ≡ Alone location.Asleep
asleep_at (Alone location.Asleep) e = refl
asleep_at (Alone location.Ended) e = cc
asleep_at (Alone location.Dead) e = cc
asleep_at (Alone p) e = cc
asleep_at (InSend c p) e = cc
asleep_at (InReceive c p) e = cc
asleep_at (InCreate c p) e = cc
asleep_at (InDestroy c p) e = cc
asleep_at (InSwitch c p) e = cc
asleep_at Resting e = cc
asleep_at Coming e = cc
asleep_at Nowhere e = cc

ended_at : (p : At) → (look_at p).condition ≡ Ended → p ≡ Alone location.Ended
ended_at (Alone location.Asleep) e = cc
ended_at (Alone location.Ended) e = refl
ended_at (Alone location.Dead) e = cc
ended_at (Alone p) e = cc
ended_at (InSend c p) e = cc
ended_at (InReceive c p) e = cc
ended_at (InCreate c p) e = cc
ended_at (InDestroy c p) e = cc
ended_at (InSwitch c p) e = cc
ended_at Resting e = cc
ended_at Coming e = cc
ended_at Nowhere e = cc

module _ (g : Programs) (b : Board) (w : World) (h : IsPair g b w) (rest : AtRest w) where
  by_threads : {A : Type 0} (f : Threads → A) → f w.threads ≡ f (threads_of w.threads.priority b)
  by_threads f = ap f h.alike.agrees.threads

  unlocked : (n : ℕ) → holds_any (look_at (b.context n).at).locks ≡ false
  unlocked n = sym (by_threads (λ (x : Threads). holds_any (x.locks n))) ∙ rest.free n

  no_table : (o : Option ℕ) → w.threads.table ≡ o → o ≡ None
  no_table None e = refl
  no_table (Some t) e =
      let is = ((h.world.1).threads.table_is t e).0 in
      absurd (false≢true (sym (rest.free t) ∙ grind (arith, is)))

  unowned : (t : ℕ) (o : Option ℕ) → b.owner t ≡ o → o ≡ None
  unowned t None e = refl
  unowned t (Some n) e =
      absurd (false≢true (sym (unlocked n) ∙ owns_any (b.context n).at t (h.good.locks.held (lock.Thread t) n e)))

  present : (t : ℕ) → is_dead (b.seen t).word ≡ false → w.threads.present t ≡ true
  present t alive = by_threads (λ (x : Threads). x.present t) ∙ ap not alive

  condition : (t : ℕ) → w.threads.condition t ≡ (look_at (b.context t).at).condition
  condition t = by_threads (λ (x : Threads). x.condition t)

  pub all_rest : AllRest b
  all_rest = record {
    table = sym (by_threads (λ (x : Threads). x.table)) ∙ no_table w.threads.table refl;
    owner = λ t. unowned t (b.owner t) refl;
    off = λ t alive. sym (by_threads (λ (x : Threads). x.on t)) ∙ rest.off t (present t alive);
    places = λ t alive. elim (rest.at_rest t (present t alive)) [
      | inl a ↦ inl (asleep_at (b.context t).at (sym (condition t) ∙ a))
      | inr e ↦ inr (ended_at (b.context t).at (sym (condition t) ∙ e))
    ];
  }

pub idle_all_rest : (g : Programs) (b : Board) (w : World) (c : ℕ) → IsPair g b w → is_idle (w.own c) ≡ true → w.running ≡ 0 →
    NothingToCome w → AllRest b
idle_all_rest g b w c h idle sum none = all_rest g b w h (idle_rests w c h.world idle sum none)
