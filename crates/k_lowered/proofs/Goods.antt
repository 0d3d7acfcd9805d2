-- What a lock guards in a raw world is what the board has that the world shows.
use Rattle.std.proofs.Common.{◌≡◌, ℕ, ◌<◌, Bool, true, false, refl, sym, ap, ◌∙◌, subst, arith, Option, Some, None, List}
use Rattle.k_locks.specs.declared.goods.Goods.TheVariants as goods
use Rattle.k_locks.specs.declared.locks.Lock.{Lock}
use Rattle.k_locks.specs.declared.locks.Lock.TheVariants as lock
use Rattle.k_locks.specs.Hands.{goods_for, nothing, with_goods}
use Rattle.k_locks.specs.Locks.{Holds}
use Rattle.k_ready.specs.Lists.{Ready}
use Rattle.k_senders.specs.Queue.{Queue}
use Rattle.k_script.specs.Limits.{IsScript}
use Rattle.k_script.specs.Script.{Script}
use Rattle.k_context.specs.Contexts.{ContextSeen}
use Rattle.k_world.specs.Worlds.{World}
use Rattle.k_board.specs.Boards.{Board, owner_of}
use Rattle.k_good.specs.Locks.{LocksHold, locks_at, owner_by}
use Rattle.k_places.specs.Contexts.{ShowsContext, goods_on, held_on}
use Rattle.k_places.specs.Memory.{Memory, memory_of}
use Rattle.k_places.specs.Shows.{IsLockOf, Shows}
use Rattle.k_places.proofs.Guarded.{AreRanked, locks_by, ranked_at}
use Rattle.k_places.proofs.Words.{is_lock}
use Rattle.k_conditions.proofs.Others.{none_held}
use Rattle.k_aligned.specs.Aligned.{found_in}
use Rattle.k_lowered.specs.Shown.{at_home, guarded, guarded_by, in_hand, owner_on}

owner_is : (b : Board) (l : Lock) → owner_by b.owner b.table b.ready l ≡ owner_of b l
owner_is b (lock.Thread n) = refl
owner_is b lock.Table = refl
owner_is b lock.Ready = refl

home_goods : (b : Board) (l : Lock) → goods_for l (with_goods (goods_on b l) nothing) ≡ goods_on b l
home_goods b (lock.Thread n) = refl
home_goods b lock.Table = refl
home_goods b lock.Ready = refl

-- of the locks that a location holds, what each guards is in hand
held_goods : (b : Board) (t : Bool) (n : Option ℕ) (r : Bool) (l : Lock) → Holds l (locks_by t n r) →
    goods_for l (held_on b (locks_by t n r)) ≡ goods_on b l
held_goods b true None r lock.Table h = refl
held_goods b true (Some m) r lock.Table h = refl
held_goods b false None r lock.Table h = absurd cc
held_goods b false (Some m) r lock.Table h = absurd cc
held_goods b t None r (lock.Thread k) h = absurd cc
held_goods b t (Some m) r (lock.Thread k) h =
    let e : m ≡ k = cc in ap (λ z. goods.Senders (record { entries = b.queue z; room = b.size })) e
held_goods b t None true lock.Ready h = refl
held_goods b t (Some m) true lock.Ready h = refl
held_goods b t None false lock.Ready h = absurd cc
held_goods b t (Some m) false lock.Ready h = absurd cc

ranked_goods : (b : Board) (ls : List (Option Lock)) → AreRanked ls → (l : Lock) → Holds l ls →
    goods_for l (held_on b ls) ≡ goods_on b l
ranked_goods b ls r l h =
    ap (λ x. goods_for l (held_on b x)) r.is ∙ held_goods b r.table r.thread r.ready l (subst (Holds l) r.is h)

module _ (script : Script) (limits : IsScript script) (w : World) (b : Board) (sh : Shows script (memory_of w) b)
    (locks : LocksHold b.owner b.table b.ready b.context) where
  abbrev M : Memory
  M = memory_of w

  held_there : (l : Lock) (i : ℕ) (o : Option ContextSeen) → found_in w i ≡ o → Holds l (locks_at (b.context i).at) →
      goods_for l (in_hand (found_in w i)) ≡ goods_on b l
  held_there l i None e h =
      let at = subst (λ (o : Option ContextSeen). ShowsContext (b.seen i).word i o (b.context i)) e (sh.contexts i) in
      absurd (none_held l (subst (λ p. Holds l (locks_at p)) at h))
  held_there l i (Some v) e h =
      ap (λ o. goods_for l (in_hand o)) e ∙ ap (goods_for l) (sh.goods.hands i v e)
      ∙ ranked_goods b (locks_at (b.context i).at) (ranked_at (b.context i).at) l h

  by_owner : (l : Lock) → IsLockOf b.size l → (o : Option ℕ) → owner_of b l ≡ o →
      goods_for l (guarded_by w l o) ≡ goods_on b l
  by_owner l fits None e = ap (λ s. goods_for l (at_home s)) (sh.goods.homes l fits e) ∙ home_goods b l
  by_owner l fits (Some i) e = held_there l i (found_in w i) refl (locks.held l i (owner_is b l ∙ e))

  pub owner_same : (l : Lock) → IsLockOf b.size l → owner_on w l ≡ owner_of b l
  owner_same l fits = sym (sh.owners l (is_lock b.size l fits)) ∙ owner_is b l

  pub guarded_same : (l : Lock) → IsLockOf b.size l → goods_for l (guarded w l) ≡ goods_on b l
  guarded_same l fits = by_owner l fits (owner_on w l) (sym (owner_same l fits))

  queue_is : {x y : Queue} → goods.Senders x ≡ goods.Senders y → x ≡ y
  queue_is e = cc

  lists_is : {x y : Ready} → goods.Ready x ≡ goods.Ready y → x ≡ y
  lists_is e = cc

  pub queue_same : (i : ℕ) → i < b.size → (guarded w (lock.Thread i)).queue.entries ≡ b.queue i
  queue_same i low =
      ap (λ (q : Queue). q.entries) (queue_is (guarded_same (lock.Thread i)
      ((let t = limits.table.1 in let s = sh.size in omega (arith, low, t, s)), low)))

  pub lists_same : (guarded w lock.Ready).lists ≡ b.lists
  lists_same = lists_is (guarded_same lock.Ready tt)
