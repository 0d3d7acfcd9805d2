-- What a context asks for ranks above what it holds, and above what it is helped for.
use Rattle.std.proofs.Common.{◌≡◌, ℕ, ◌<◌, Bool, true, false, refl, sym, ap, ◌∙◌, Option, Some, None, arith}
use Rattle.std.specs.Prelude.{is_some, ◌||◌}
use Rattle.std.proofs.lemmas.Bool.{false≢true}
use Rattle.std.proofs.lemmas.Bool.Decides.{nat_tests}
use Rattle.k_locks.specs.declared.locks.Lock.{Lock}
use Rattle.k_locks.specs.declared.locks.Lock.TheVariants as lock
use Rattle.k_locks.specs.Locks.{rank_of}
use Rattle.k_tokens.specs.World.{ContextName, HeldLocks, Help, OfThread, World, holds, holds_any, is_lock_of}
use Rattle.k_switching.specs.Claims.{IsAsked}
use Rattle.k_switching.specs.Rules.{is_helped}
use Rattle.k_switching.proofs.Rules.{kept_by, same_context-true}
use Rattle.k_work.specs.Near.{rank_by}
use Rattle.k_work.specs.Near as near

-- BY THE LOCKS ALONE

-- of these locks it is one; or, where none is named, there is any
abbrev pub has_lock : HeldLocks → Option Lock → Bool
has_lock held None = holds_any held
has_lock held (Some lock.Table) = held.table
has_lock held (Some (lock.Thread number)) = is_lock_of number held.thread
has_lock held (Some lock.Ready) = held.ready

pub holds_is : (w : World) (t : ℕ) (o : Option Lock) → holds w (OfThread t) o ≡ has_lock (w.threads.locks t) o
holds_is w t None = refl
holds_is w t (Some lock.Table) = refl
holds_is w t (Some (lock.Thread number)) = refl
holds_is w t (Some lock.Ready) = refl

lock_itself : (n : ℕ) → is_lock_of n (Some n) ≡ true
lock_itself n = grind (arith, nat_tests)

-- this lock ranks above all of these
abbrev pub IsAboveAll : HeldLocks → Lock → Type 0
IsAboveAll held l = (m : Lock) → has_lock held (Some m) ≡ true → rank_of m < rank_of l

one_above : (s t : Bool) (m l : Lock) → rank_of m < rank_of l → rank_by s (Some m) < rank_by t (Some l)
one_above s t lock.Table lock.Table less = absurd (omega (arith, less))
one_above s t lock.Table (lock.Thread n) less = omega arith
one_above s t lock.Table lock.Ready less = omega arith
one_above s t (lock.Thread k) lock.Table less = absurd (omega (arith, less))
one_above s t (lock.Thread k) (lock.Thread n) less = absurd (omega (arith, less))
one_above s t (lock.Thread k) lock.Ready less = omega arith
one_above s t lock.Ready lock.Table less = absurd (omega (arith, less))
one_above s t lock.Ready (lock.Thread n) less = absurd (omega (arith, less))
one_above s t lock.Ready lock.Ready less = absurd (omega (arith, less))

-- Of a context that is helped since it is to be removed: the table lock ranks below, and so does any other.
any_above : (t : Bool) (held : HeldLocks) (l : Lock) → IsAboveAll held l → (table : Bool) → held.table ≡ table → (ready : Bool) →
    held.ready ≡ ready → (thread : Option ℕ) → held.thread ≡ thread → holds_any held ≡ true →
    rank_by table None < rank_by t (Some l)
any_above t held lock.Table above true a ready b thread c any = absurd (let z = above lock.Table a in omega (arith, z))
any_above t held (lock.Thread n) above true a ready b thread c any = omega arith
any_above t held lock.Ready above true a ready b thread c any = omega arith
any_above t held lock.Table above false a true b thread c any = absurd (let z = above lock.Ready b in omega (arith, z))
any_above t held lock.Table above false a false b (Some n) c any =
    absurd (let z = above (lock.Thread n) (ap (is_lock_of n) c ∙ lock_itself n) in omega (arith, z))
any_above t held lock.Table above false a false b None c any =
    absurd (let free : holds_any held ≡ false = λ d. (a d || b d) || is_some (c d) in false≢true (sym free ∙ any))
any_above t held (lock.Thread n) above false a ready b thread c any = omega arith
any_above t held lock.Ready above false a ready b thread c any = omega arith

pub rank_above : (t : Bool) (held : HeldLocks) (l : Lock) → IsAboveAll held l → (o : Option Lock) → has_lock held o ≡ true →
    rank_by held.table o < rank_by t (Some l)
rank_above t held l above (Some m) has = one_above held.table t m l (above m has)
rank_above t held l above None has = any_above t held l above held.table refl held.ready refl held.thread refl has

-- OF A CONTEXT IN HAND

module _ (w : World) (c i : ℕ) (asked : IsAsked w c (OfThread i)) where
  -- where the carrier helps, this is whom it helps
  pub record IsHelped (help : Help) : Type 0 where
    pub rank : near.rank_of w help ≡ rank_by (w.threads.locks i).table help.lock
    pub has : has_lock (w.threads.locks i) help.lock ≡ true

  pub helped : (help : Help) → (w.carrier c).help ≡ Some help → holds w help.context help.lock ≡ true → IsHelped help
  helped help e held = record {
    rank = ap (λ (x : ContextName). rank_by (holds w x (Some lock.Table)) help.lock) same;
    has = sym (holds_is w i help.lock) ∙ ap (λ (x : ContextName). holds w x help.lock) (sym same) ∙ held;
  }
    where
      same : help.context ≡ OfThread i
      same =
          same_context-true help.context (OfThread i) (ap (λ (o : Option Help). is_helped o (OfThread i)) (sym e)
          ∙ (kept_by w c (OfThread i) asked.kept).helped (ap is_some e))
