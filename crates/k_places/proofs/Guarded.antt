-- What locks guard, after a step: at home, or in the hand of the context that holds the lock.
use Rattle.std.proofs.Common.{◌≡◌, ◌≢◌, ℕ, ◌==◌, Bool, true, false, cond, refl, sym, ap, ◌∙◌}
use Rattle.std.proofs.Common.{subst, Option, Some, None, List, [], ◌∷◌, arith, inl, inr}
use Rattle.std.specs.Prelude.{if◌then◌else◌}
use Rattle.k_ids.specs.declared.context_word.ContextWord.TheVariants.{Empty, Clean}
use Rattle.k_ids.specs.declared.lock_word.LockWord.TheVariants as locked
use Rattle.k_ids.specs.ContextWords.{context_bits}
use Rattle.k_ids.specs.LockWords.{lock_bits, lock_word_of}
use Rattle.k_locks.specs.declared.goods.Goods.{Goods}
use Rattle.k_locks.specs.declared.goods.Goods.TheVariants as goods
use Rattle.k_locks.specs.declared.locks.Lock.{Lock}
use Rattle.k_locks.specs.declared.locks.Lock.TheVariants as lock
use Rattle.k_locks.specs.declared.steps.Answer.TheVariants as answered
use Rattle.k_locks.specs.Asks.{Ask, Response, response_of, step_for}
use Rattle.k_locks.specs.Asks as asks
use Rattle.k_locks.specs.Hands.{Hand, goods_for, no_lists, no_numbers, no_queue}
use Rattle.k_locks.specs.Locks.{Holds}
use Rattle.k_locks.specs.Numbers.{ThreadNumbers}
use Rattle.k_locks.specs.Places.{IsLock, lock_number}
use Rattle.k_locks.specs.Steps.{not_acquired, word_of}
use Rattle.k_ready.specs.Lists.{Ready}
use Rattle.k_senders.specs.Queue.{Queue}
use Rattle.k_model.specs.Maps.{upd}
use Rattle.k_model.proofs.Maps.{upd_same, upd_other}
use Rattle.k_script.specs.Script.{Script}
use Rattle.k_ipc.specs.SendTable as send
use Rattle.k_ipc.specs.ReceiveTable as receive
use Rattle.k_threads.specs.CreateTable as create
use Rattle.k_threads.specs.DestroyTable as destroy
use Rattle.k_switch.specs.Switches as switch
use Rattle.k_world.specs.Worlds.{Slot, Guarded, Away}
use Rattle.k_board.specs.Boards.{At, Alone, InSend, InReceive, InCreate, InDestroy}
use Rattle.k_board.specs.Boards.{InSwitch, Resting, Coming, Nowhere, Board, owner_of}
use Rattle.k_good.specs.Locks.{LocksHold, locks_at, owner_by}
use Rattle.k_good.proofs.Owners.{IsSet, Moves, same_lock}
use Rattle.k_places.specs.Contexts.{goods_on, held_on}
use Rattle.k_places.specs.Memory.{Memory, Same, Home, Place, filling_by, home_filled, word_in}
use Rattle.k_places.specs.Shows.{IsLockOf}
use Rattle.k_places.proofs.Goes.{Returns}
use Rattle.k_places.proofs.Words.{is_lock, response_in}

-- LOCKS OF A LOCATION, by rank

abbrev pub locks_by : Bool → Option ℕ → Bool → List (Option Lock)
locks_by table None ready = cond table (Some lock.Table) None ∷ None ∷ cond ready (Some lock.Ready) None ∷ []
locks_by table (Some n) ready = cond table (Some lock.Table) None ∷ Some (lock.Thread n) ∷ cond ready (Some lock.Ready) None ∷ []

pub record AreRanked (ls : List (Option Lock)) : Type 0 where
  pub table : Bool
  pub thread : Option ℕ
  pub ready : Bool
  pub is : ls ≡ locks_by table thread ready

ranked : (t : Bool) (n : Option ℕ) (r : Bool) → AreRanked (locks_by t n r)
ranked t n r = record { table = t; thread = n; ready = r; is = refl }

pub ranked_at : (p : At) → AreRanked (locks_at p)
ranked_at (Alone p) = ranked false None false
ranked_at Resting = ranked false None false
ranked_at Coming = ranked false None false
ranked_at Nowhere = ranked false None false
ranked_at (InSend c (send.Outside p)) = ranked false None false
ranked_at (InSend c (send.Locked p)) = ranked false (Some c.to.number) false
ranked_at (InSend c (send.Pushing p)) = ranked false (Some c.to.number) true
ranked_at (InReceive c (receive.Outside p)) = ranked false None false
ranked_at (InReceive c (receive.Locked p)) = ranked false (Some c.caller.number) false
ranked_at (InReceive c (receive.Pushing p)) = ranked false (Some c.caller.number) true
ranked_at (InCreate c (create.Outside p)) = ranked false None false
ranked_at (InCreate c (create.Locked p)) = ranked true None false
ranked_at (InCreate c (create.PushCreated id)) = ranked true None true
ranked_at (InDestroy c (destroy.Outside p)) = ranked false None false
ranked_at (InDestroy c (destroy.Locked p)) = ranked true None false
ranked_at (InDestroy c (destroy.Victim p)) = ranked true (Some c.who.number) false
ranked_at (InDestroy c (destroy.Visit p)) = ranked true (Some (destroy.visited_at p)) false
ranked_at (InDestroy c destroy.UnlistVictim) = ranked true None true
ranked_at (InDestroy c (destroy.Pushing p)) = ranked true (Some (destroy.queue_at c p)) true
ranked_at (InSwitch c switch.AcquireReady) = ranked false None false
ranked_at (InSwitch c (switch.Locked p)) = ranked false None true
ranked_at (InSwitch c (switch.Returned s)) = ranked false None true
ranked_at (InSwitch c (switch.Finished s)) = ranked false None false

-- WHAT OTHERS HAVE IN HAND

module _ (b b' : Board) where
  abbrev AreKept : List (Option Lock) → Type 0
  AreKept ls = (l : Lock) → Holds l ls → goods_on b' l ≡ goods_on b l

  numbers_is : {x y : ThreadNumbers} → goods.Numbers x ≡ goods.Numbers y → x ≡ y
  numbers_is e = cc

  queue_is : {x y : Queue} → goods.Senders x ≡ goods.Senders y → x ≡ y
  queue_is e = cc

  lists_is : {x y : Ready} → goods.Ready x ≡ goods.Ready y → x ≡ y
  lists_is e = cc

  held_by : (t : Bool) (n : Option ℕ) (r : Bool) → AreKept (locks_by t n r) →
      held_on b' (locks_by t n r) ≡ held_on b (locks_by t n r)
  held_by false None false k = refl
  held_by true None false k = λ d. record { numbers = numbers_is (k lock.Table refl) d; queue = no_queue; lists = no_lists }
  held_by false None true k = λ d. record { numbers = no_numbers; queue = no_queue; lists = lists_is (k lock.Ready refl) d }
  held_by true None true k =
      λ d. record { numbers = numbers_is (k lock.Table refl) d; queue = no_queue; lists = lists_is (k lock.Ready refl) d }
  held_by false (Some n) false k =
      λ d. record { numbers = no_numbers; queue = queue_is (k (lock.Thread n) refl) d; lists = no_lists }
  held_by true (Some n) false k =
      λ d. record { numbers = numbers_is (k lock.Table refl) d; queue = queue_is (k (lock.Thread n) refl) d; lists = no_lists }
  held_by false (Some n) true k =
      λ d. record { numbers = no_numbers; queue = queue_is (k (lock.Thread n) refl) d; lists = lists_is (k lock.Ready refl) d }
  held_by true (Some n) true k =
      λ d. record {
        numbers = numbers_is (k lock.Table refl) d;
        queue = queue_is (k (lock.Thread n) refl) d;
        lists = lists_is (k lock.Ready refl) d;
      }

  pub held_same : (ls : List (Option Lock)) → AreRanked ls → AreKept ls → held_on b' ls ≡ held_on b ls
  held_same ls r k = ap (held_on b') r.is ∙ held_by r.table r.thread r.ready (subst AreKept r.is k) ∙ ap (held_on b) (sym r.is)

owner_is : (b : Board) (l : Lock) → owner_by b.owner b.table b.ready l ≡ owner_of b l
owner_is b (lock.Thread n) = refl
owner_is b lock.Table = refl
owner_is b lock.Ready = refl

-- a lock that one context's location holds isn't held by another's
pub held_apart : (b : Board) → LocksHold b.owner b.table b.ready b.context → (i j : ℕ) → j ≢ i → (l : Lock) →
    Holds l (locks_at (b.context j).at) → Holds l (locks_at (b.context i).at) → ⊥
held_apart b h i j ne l q z = ne (some_is (sym (h.named l j q) ∙ h.named l i z))
  where
    some_is : {x y : ℕ} → Some x ≡ Some y → x ≡ y
    some_is e = cc

-- nor one that is free
pub free_apart : (b : Board) → LocksHold b.owner b.table b.ready b.context → (i : ℕ) (l : Lock) → owner_of b l ≡ None →
    Holds l (locks_at (b.context i).at) → ⊥
free_apart b h i l e q = none_some (sym e ∙ sym (owner_is b l) ∙ h.named l i q)
  where
    none_some : {x : ℕ} → None ≡ Some x → ⊥
    none_some z = cc

-- WHAT IS AT HOME

lock_apart : (l k : Lock) → IsLock l → IsLock k → l ≢ k → lock_number l ≢ lock_number k
lock_apart (lock.Thread n) (lock.Thread m) i j ne = λ q. ne (ap (λ z. lock.Thread z) q)
lock_apart (lock.Thread n) lock.Table i j ne = λ q. absurd (omega (arith, q, i))
lock_apart (lock.Thread n) lock.Ready i j ne = λ q. absurd (omega (arith, q, i))
lock_apart lock.Table (lock.Thread m) i j ne = λ q. absurd (omega (arith, q, j))
lock_apart lock.Table lock.Table i j ne = λ q. ne refl
lock_apart lock.Table lock.Ready i j ne = λ q. absurd (omega (arith, q))
lock_apart lock.Ready (lock.Thread m) i j ne = λ q. absurd (omega (arith, q, j))
lock_apart lock.Ready lock.Table i j ne = λ q. absurd (omega (arith, q))
lock_apart lock.Ready lock.Ready i j ne = λ q. ne refl

-- what lies at the homes of free locks
abbrev pub AreHome : ℕ → (ℕ → Slot) → Board → Type 0
AreHome size home b = (l : Lock) → IsLockOf size l → owner_of b l ≡ None → home (lock_number l) ≡ Guarded (goods_on b l)

-- a lock that is got or released is one that there is
abbrev pub IsOn : Ask → Type 0
IsOn (asks.Acquire l) = IsLock l
IsOn (asks.Release l) = IsLock l
IsOn a = Unit {0}

module _ (script : Script) (m : Memory) (b b' : Board) (i : ℕ) (h : Hand) (size : ℕ) (homes : AreHome size m.home b)
    (kept : (l : Lock) → owner_of b l ≡ None → goods_on b' l ≡ goods_on b l) where
  abbrev HomeAfter : Ask → ℕ → Slot
  HomeAfter a = home_filled (filling_by script (step_for a h) (word_in m (word_of (step_for a h)))) m.home

  -- owners and homes are as they were
  homes_same : (f : ℕ → Slot) → f ≡ m.home → ((l : Lock) → owner_of b' l ≡ owner_of b l) → AreHome size f b'
  homes_same f e o l il q =
      let free : owner_of b l ≡ None = sym (o l) ∙ q in ap (λ (z : ℕ → Slot). z (lock_number l)) e ∙ homes l il free
      ∙ ap Guarded (sym (kept l free))

  homes_got : (n : Lock) → IsLock n → IsSet b b' n (Some i) → AreHome size (upd m.home (lock_number n) Away) b'
  homes_got n j s l il q = elim (same_lock l n) [
    | inl e ↦ absurd (none_some (sym q ∙ ap (owner_of b') e ∙ s.this))
    | inr ne ↦
        let free : owner_of b l ≡ None = sym (s.others l ne) ∙ q in
        upd_other m.home (lock_number n) Away (lock_number l) (lock_apart l n (is_lock size l il) j ne) ∙ homes l il free
        ∙ ap Guarded (sym (kept l free))
  ]
    where
      none_some : {x : ℕ} → None ≡ Some x → ⊥
      none_some z = cc

  homes_released : (n : Lock) → IsLock n → IsSet b b' n None → goods_for n h ≡ goods_on b' n →
      AreHome size (upd m.home (lock_number n) (Guarded (goods_for n h))) b'
  homes_released n j s back l il q = elim (same_lock l n) [
    | inl e ↦
        subst (λ (k : Lock). upd m.home (lock_number n) (Guarded (goods_for n h)) (lock_number k) ≡ Guarded (goods_on b' k))
        (sym e) (upd_same m.home (lock_number n) _ ∙ ap Guarded back)
    | inr ne ↦
        let free : owner_of b l ≡ None = sym (s.others l ne) ∙ q in
        upd_other m.home (lock_number n) _ (lock_number l) (lock_apart l n (is_lock size l il) j ne) ∙ homes l il free
        ∙ ap Guarded (sym (kept l free))
  ]

  placed_home : (t : Bool) (n : ℕ) (x : Slot) → home_filled (if t then Place n x else Same) m.home ≡ m.home
  placed_home true n x = refl
  placed_home false n x = refl

  homes_acquired : (n : Lock) (g : Goods) → IsLock n → (t : Bool) →
      Moves b b' i (asks.Acquire n) (response_of (if t then answered.Got g else answered.Told
      (not_acquired (lock_word_of (m.lock (lock_number n))))) (asks.Acquire n)) →
      AreHome size (home_filled (if t then Home n Away else Same) m.home) b'
  homes_acquired n g j true o = homes_got n j o
  homes_acquired n g j false o = by (lock_word_of (m.lock (lock_number n))) o
    where
      by : (w : _) → Moves b b' i (asks.Acquire n) (response_of (answered.Told (not_acquired w)) (asks.Acquire n)) →
          AreHome size m.home b'
      by (locked.Owned k) o = homes_same m.home refl o
      by locked.Free o = homes_same m.home refl o

  pub homes_after : (a : Ask) (g : Goods) → IsOn a → Returns a h b' → Moves b b' i a (response_in m a h g) →
      AreHome size (HomeAfter a) b'
  homes_after (asks.Acquire l) g on ret o = homes_acquired l g on (m.lock (lock_number l) == lock_bits locked.Free) o
  homes_after (asks.Release l) g on ret o = homes_released l on o ret
  homes_after (asks.Load n) g on ret o = homes_same m.home refl o
  homes_after (asks.LoadMail n) g on ret o = homes_same m.home refl o
  homes_after (asks.Post n message) g on ret o = homes_same m.home refl o
  homes_after (asks.Exchange n old new) g on ret o = homes_same m.home refl o
  homes_after (asks.Place id program priority) g on ret o =
      homes_same _ (placed_home (m.context id.number == context_bits Empty) id.number _) o
  homes_after (asks.Remove id) g on ret o =
      homes_same _ (placed_home (m.context id.number == context_bits (Clean id.version)) id.number _) o
