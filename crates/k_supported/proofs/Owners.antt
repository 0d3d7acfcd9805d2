-- Who owns a lock on the board holds it in the world; and a context asks for locks that rank above those that it holds.
use Rattle.std.proofs.Common.{◌≡◌, ℕ, ◌<◌, Bool, true, false, cond, nat_lt, refl, sym, ap, ◌∙◌, subst, Option, Some, None, List}
use Rattle.std.proofs.Common.{[], ◌∷◌, arith}
use Rattle.std.proofs.lemmas.Bool.{false≢true}
use Rattle.std.proofs.lemmas.Bool.Decides.{nat_tests}
use Rattle.k_locks.specs.declared.locks.Lock.{Lock}
use Rattle.k_locks.specs.declared.locks.Lock.TheVariants as lock
use Rattle.k_locks.specs.Asks.{Ask, want_for, want_of}
use Rattle.k_locks.specs.Asks as asks
use Rattle.k_locks.specs.Locks.{Holds, rank_of}
use Rattle.k_locks.specs.Tables.{IsAbove}
use Rattle.k_switch.specs.declared.switch.SwitchCall.{SwitchCall}
use Rattle.k_switch.specs.Switches.{SwitchAt}
use Rattle.k_switch.specs.Switches as switch
use Rattle.k_ipc.specs.ReceiveTable as receive
use Rattle.k_ipc.specs.SendTable as send
use Rattle.k_threads.specs.CreateTable as create
use Rattle.k_threads.specs.DestroyTable as destroy
use Rattle.k_board.specs.Words.{Programs}
use Rattle.k_board.specs.Boards.{Alone, At, Board, Coming, InCreate, InDestroy, InReceive, InSend, InSwitch, Nowhere, Resting}
use Rattle.k_board.specs.Boards.{owner_of}
use Rattle.k_good.specs.Locks.{locks_at}
use Rattle.k_good.specs.Ranges.{is_threads}
use Rattle.k_good.proofs.Owners.{Named}
use Rattle.k_sections.specs.Situations.{want_at}
use Rattle.k_sections.specs.Stepping.{board_after}
use Rattle.k_sections.proofs.Answered.{owned_held}
use Rattle.k_sections.proofs.LockSteps.{LockStep, lock_step}
use Rattle.k_sections.proofs.Tables.{ThreadTables}
use Rattle.k_sections.proofs.Wanted.{no_context}
use Rattle.k_tokens.specs.World.{ContextName, HeldLocks, OfCarrier, OfThread, Threads, World, holds, no_locks}
use Rattle.k_grants.specs.Views.{look_at, name_by, name_of}
use Rattle.k_paired.specs.Pairs.{IsPair}
use Rattle.k_switching.specs.Claims.{IsAsked}
use Rattle.k_work.specs.Near.{IsHeldAbove, rank_by}
use Rattle.k_supported.proofs.Ranks.{IsAboveAll, has_lock, helped, holds_is, rank_above}

-- WHAT A LOCATION IS ABOUT

-- locks by rank
abbrev three : Bool → Option ℕ → Bool → List (Option Lock)
three table None ready = cond table (Some lock.Table) None ∷ None ∷ cond ready (Some lock.Ready) None ∷ []
three table (Some n) ready = cond table (Some lock.Table) None ∷ Some (lock.Thread n) ∷ cond ready (Some lock.Ready) None ∷ []

abbrev held_three : Bool → Option ℕ → Bool → HeldLocks
held_three table thread ready = record { table = table; thread = thread; ready = ready }

-- what a thread's location holds, and what it says that it holds
record AreLocks (p : At) : Type 0 where
  table : Bool
  thread : Option ℕ
  ready : Bool
  list : locks_at p ≡ three table thread ready
  look : (look_at p).locks ≡ held_three table thread ready

locks : (p : At) (t : Bool) (n : Option ℕ) (r : Bool) → locks_at p ≡ three t n r → (look_at p).locks ≡ held_three t n r →
    AreLocks p
locks p t n r e f = record { table = t; thread = n; ready = r; list = e; look = f }

threads_locks : (p : At) → is_threads p ≡ true → AreLocks p
threads_locks (Alone p) e = locks (Alone p) false None false refl refl
threads_locks (InSend c (send.Outside p)) e = locks (InSend c (send.Outside p)) false None false refl refl
threads_locks (InSend c (send.Locked p)) e = locks (InSend c (send.Locked p)) false (Some c.to.number) false refl refl
threads_locks (InSend c (send.Pushing p)) e = locks (InSend c (send.Pushing p)) false (Some c.to.number) true refl refl
threads_locks (InReceive c (receive.Outside p)) e = locks (InReceive c (receive.Outside p)) false None false refl refl
threads_locks (InReceive c (receive.Locked p)) e =
    locks (InReceive c (receive.Locked p)) false (Some c.caller.number) false refl refl
threads_locks (InReceive c (receive.Pushing p)) e =
    locks (InReceive c (receive.Pushing p)) false (Some c.caller.number) true refl refl
threads_locks (InCreate c (create.Outside p)) e = locks (InCreate c (create.Outside p)) false None false refl refl
threads_locks (InCreate c (create.Locked p)) e = locks (InCreate c (create.Locked p)) true None false refl refl
threads_locks (InCreate c (create.PushCreated id)) e = locks (InCreate c (create.PushCreated id)) true None true refl refl
threads_locks (InDestroy c (destroy.Outside p)) e = locks (InDestroy c (destroy.Outside p)) false None false refl refl
threads_locks (InDestroy c (destroy.Locked p)) e = locks (InDestroy c (destroy.Locked p)) true None false refl refl
threads_locks (InDestroy c (destroy.Victim p)) e =
    locks (InDestroy c (destroy.Victim p)) true (Some c.who.number) false refl refl
threads_locks (InDestroy c (destroy.Visit p)) e =
    locks (InDestroy c (destroy.Visit p)) true (Some (destroy.visited_at p)) false refl refl
threads_locks (InDestroy c destroy.UnlistVictim) e = locks (InDestroy c destroy.UnlistVictim) true None true refl refl
threads_locks (InDestroy c (destroy.Pushing p)) e =
    locks (InDestroy c (destroy.Pushing p)) true (Some (destroy.queue_at c p)) true refl refl
threads_locks (InSwitch c p) e = absurd (false≢true e)
threads_locks Resting e = absurd (false≢true e)
threads_locks Coming e = absurd (false≢true e)
threads_locks Nowhere e = absurd (false≢true e)

-- FROM THE ONE TO THE OTHER

none_held : (m : Lock) → Holds m (None ∷ None ∷ None ∷ []) → ⊥
none_held (lock.Thread n) e = absurd cc
none_held lock.Table e = absurd cc
none_held lock.Ready e = absurd cc

to_list : (t : Bool) (n : Option ℕ) (r : Bool) (m : Lock) → has_lock (held_three t n r) (Some m) ≡ true → Holds m (three t n r)
to_list true None r lock.Table e = refl
to_list true (Some k) r lock.Table e = refl
to_list false n r lock.Table e = absurd (false≢true e)
to_list t None true lock.Ready e = refl
to_list t (Some k) true lock.Ready e = refl
to_list t n false lock.Ready e = absurd (false≢true e)
to_list t None r (lock.Thread n) e = absurd (false≢true e)
to_list t (Some k) r (lock.Thread n) e =
    let q : k ≡ n = grind (arith, nat_tests, e) in ap (λ z. Some (Some (lock.Thread z))) q

from_list : (t : Bool) (n : Option ℕ) (r : Bool) (m : Lock) → Holds m (three t n r) → has_lock (held_three t n r) (Some m) ≡ true
from_list true n r lock.Table e = refl
from_list false None r lock.Table e = absurd cc
from_list false (Some k) r lock.Table e = absurd cc
from_list t n true lock.Ready e = refl
from_list t None false lock.Ready e = absurd cc
from_list t (Some k) false lock.Ready e = absurd cc
from_list t None r (lock.Thread n) e = absurd cc
from_list t (Some k) r (lock.Thread n) e = let q : k ≡ n = cc in grind (arith, nat_tests, q)

nothing : (m : Lock) → has_lock no_locks (Some m) ≡ true → ⊥
nothing (lock.Thread n) e = false≢true e
nothing lock.Table e = false≢true e
nothing lock.Ready e = false≢true e

-- what a location says that it holds it holds
says_held : (p : At) (m : Lock) → has_lock (look_at p).locks (Some m) ≡ true → Holds m (locks_at p)
says_held p m e = by p (is_threads p) refl e
  where
    threads : (q : At) → is_threads q ≡ true → has_lock (look_at q).locks (Some m) ≡ true → Holds m (locks_at q)
    threads q is has =
        let l = threads_locks q is in
        subst (Holds m) (sym l.list)
        (to_list l.table l.thread l.ready m (ap (λ (x : HeldLocks). has_lock x (Some m)) (sym l.look) ∙ has))

    by : (q : At) (t : Bool) → is_threads q ≡ t → has_lock (look_at q).locks (Some m) ≡ true → Holds m (locks_at q)
    by q true is has = threads q is has
    by (InSwitch c s) false is has = absurd (nothing m has)
    by Resting false is has = absurd (nothing m has)
    by Coming false is has = absurd (nothing m has)
    by Nowhere false is has = absurd (nothing m has)
    by (Alone s) false is has = absurd (nothing m has)
    by (InSend c s) false is has = absurd (false≢true (sym is))
    by (InReceive c s) false is has = absurd (false≢true (sym is))
    by (InCreate c s) false is has = absurd (false≢true (sym is))
    by (InDestroy c s) false is has = absurd (false≢true (sym is))

ready_alone : (m : Lock) → (m ≡ lock.Ready → ⊥) → Holds m (None ∷ None ∷ Some lock.Ready ∷ []) → ⊥
ready_alone (lock.Thread n) ne e = absurd cc
ready_alone lock.Table ne e = absurd cc
ready_alone lock.Ready ne e = ne refl

-- who holds a lock that isn't the ready lock is a thread's context
held_threads : (p : At) (m : Lock) → (m ≡ lock.Ready → ⊥) → Holds m (locks_at p) → is_threads p ≡ true
held_threads (Alone p) m ne h = refl
held_threads (InSend c p) m ne h = refl
held_threads (InReceive c p) m ne h = refl
held_threads (InCreate c p) m ne h = refl
held_threads (InDestroy c p) m ne h = refl
held_threads (InSwitch c switch.AcquireReady) m ne h = absurd (none_held m h)
held_threads (InSwitch c (switch.Locked p)) m ne h = absurd (ready_alone m ne h)
held_threads (InSwitch c (switch.Returned s)) m ne h = absurd (ready_alone m ne h)
held_threads (InSwitch c (switch.Finished s)) m ne h = absurd (none_held m h)
held_threads Resting m ne h = absurd (none_held m h)
held_threads Coming m ne h = absurd (none_held m h)
held_threads Nowhere m ne h = absurd (none_held m h)

same_wanted : (k l : Lock) → Some (want_for k) ≡ Some (want_for l) → k ≡ l
same_wanted lock.Table lock.Table e = refl
same_wanted (lock.Thread m) (lock.Thread n) e = let q : m ≡ n = cc in ap (λ z. lock.Thread z) q
same_wanted lock.Ready lock.Ready e = refl
same_wanted lock.Table (lock.Thread n) e = absurd cc
same_wanted lock.Table lock.Ready e = absurd cc
same_wanted (lock.Thread m) lock.Table e = absurd cc
same_wanted (lock.Thread m) lock.Ready e = absurd cc
same_wanted lock.Ready lock.Table e = absurd cc
same_wanted lock.Ready (lock.Thread n) e = absurd cc

-- WHO HOLDS A LOCK in the world

module _ (g : Programs) (b : Board) (w : World) (pair : IsPair g b w) where
  named : Named b
  named = pair.good.locks

  locks_are : (t : ℕ) → w.threads.locks t ≡ (look_at (b.context t).at).locks
  locks_are t = ap (λ (x : Threads). x.locks t) pair.alike.agrees.threads

  inside_name : (n : ℕ) → n < b.size → name_of b.size n ≡ OfThread n
  inside_name n low = rw (let l : nat_lt n b.size ≡ true = grind (arith, nat_tests, low) in l) refl

  thread_holds : (l : Lock) (owner : ℕ) → (l ≡ lock.Ready → ⊥) → owner_of b l ≡ Some owner →
      holds w (name_of b.size owner) (Some l) ≡ true
  thread_holds l owner ne e =
      ap (λ x. holds w x (Some l)) (inside_name owner (pair.within.threads owner is).number) ∙ holds_is w owner (Some l)
      ∙ ap (λ x. has_lock x (Some l)) (locks_are owner ∙ held.look)
      ∙ from_list held.table held.thread held.ready l (subst (Holds l) held.list there)
    where
      there : Holds l (locks_at (b.context owner).at)
      there = owned_held b named l owner e

      is : is_threads (b.context owner).at ≡ true
      is = held_threads (b.context owner).at l ne there

      held : AreLocks (b.context owner).at
      held = threads_locks (b.context owner).at is

  ready_holds : (x : ContextName) → w.ready_owner ≡ Some x → holds w x (Some lock.Ready) ≡ true
  ready_holds (OfThread t) e = pair.world.1.ready.thread_is t e
  ready_holds (OfCarrier d) e = pair.world.1.ready.own_is d e

  pub owner_holds : (l : Lock) (owner : ℕ) → owner_of b l ≡ Some owner → holds w (name_of b.size owner) (Some l) ≡ true
  owner_holds lock.Ready owner e =
      ready_holds (name_of b.size owner) (pair.alike.agrees.ready ∙ ap (name_by b.size) e)
  owner_holds lock.Table owner e = thread_holds lock.Table owner (λ z. cc) e
  owner_holds (lock.Thread n) owner e = thread_holds (lock.Thread n) owner (λ z. cc) e

  -- WHAT IS ASKED FOR

  no_switch : Board → ℕ → SwitchCall
  no_switch _ _ = record { goal = None; counted = false; slice_ended = false; start = None }

  module _ (tables : ThreadTables) (c i : ℕ) (asked : IsAsked w c (OfThread i)) where
    -- a lock that the context asks for ranks above all that it holds
    wanted_above : (l : Lock) → want_at (b.context i).own (b.context i).at ≡ Some (want_for l) → IsAboveAll (w.threads.locks i) l
    wanted_above l wants m has = by step.ask (sym step.wants ∙ wants) step.above
      where
        step : LockStep b (board_after g no_switch b i (b.context i).at) i (b.context i).at
        step = lock_step b named i tables g no_switch (b.context i).at refl

        held : Holds m (locks_at (b.context i).at)
        held = says_held (b.context i).at m (ap (λ x. has_lock x (Some m)) (sym (locks_are i)) ∙ has)

        by : (a : Ask) → want_of a ≡ Some (want_for l) → IsAbove a (locks_at (b.context i).at) → rank_of m < rank_of l
        by (asks.Acquire k) e above =
            subst (λ x. rank_of m < rank_of x) (same_wanted k l e) (above (rank_of m) m held)
        by (asks.Remove id) e above = absurd (no_context l (sym e))
        by (asks.Load n) e above = absurd cc
        by (asks.LoadMail n) e above = absurd cc
        by (asks.Post n message) e above = absurd cc
        by (asks.Exchange n old new) e above = absurd cc
        by (asks.Release k) e above = absurd cc
        by (asks.Place id program priority) e above = absurd cc

    pub lock_held_up : (l : Lock) (owner : ℕ) → want_at (b.context i).own (b.context i).at ≡ Some (want_for l) →
        owner_of b l ≡ Some owner → IsHeldAbove w c (record { context = name_of b.size owner; lock = Some l })
    lock_held_up l owner wants e = record {
      held = owner_holds l owner e;
      above = λ help f held. (let h = helped w c i asked help f held in
          subst (λ r. r < rank_by (holds w (name_of b.size owner) (Some lock.Table)) (Some l)) (sym h.rank)
          (rank_above (holds w (name_of b.size owner) (Some lock.Table)) (w.threads.locks i) l (wanted_above l wants) help.lock
          h.has));
    }
