-- A removal: the context is clean, or it holds a lock, while no other carrier has a context in hand.
use Rattle.std.proofs.Common.{◌≡◌, ℕ, ◌<◌, Bool, true, false, refl, sym, ap, ◌∙◌, subst, Option, Some, None, arith}
use Rattle.std.proofs.Common.{inl, inr}
use Rattle.std.specs.Prelude.{if◌then◌else◌}
use Rattle.std.proofs.lemmas.Bool.{false≢true}
use Rattle.std.proofs.lemmas.Bool.Decides.{eqb_tells}
use Rattle.k_ids.specs.declared.context_word.ContextWord.TheVariants.{Clean, Holds}
use Rattle.k_locks.specs.declared.locks.Lock.{Lock}
use Rattle.k_locks.specs.declared.locks.Lock.TheVariants as lock
use Rattle.k_locks.specs.Locks as locks
use Rattle.k_threads.specs.declared.destroy.DestroyCall.{DestroyCall}
use Rattle.k_threads.specs.declared.destroy.DestroyLocked.TheVariants as destroy_locked
use Rattle.k_threads.specs.DestroyTable as destroy
use Rattle.k_board.specs.Words.{Programs}
use Rattle.k_board.specs.Boards.{At, Board, InDestroy}
use Rattle.k_good.specs.Locks.{locks_at}
use Rattle.k_sections.proofs.Answered.{held_owned}
use Rattle.k_tokens.specs.World.{Condition, HeldLocks, OfThread, Threads, World, holds_any, is_absent}
use Rattle.k_tokens.specs.Good.{IsVictim}
use Rattle.k_tokens.specs.Views.{by_owner}
use Rattle.k_grants.specs.Views.{Look, look_at, looks_of}
use Rattle.k_paired.specs.Pairs.{IsPair}
use Rattle.k_switching.specs.Claims.{IsAsked}
use Rattle.k_switching.specs.Rules.{slot_word, thread_word, word_of}
use Rattle.k_whole.specs.Whole.{HasVictims}
use Rattle.k_work.specs.Near.{IsAlone, IsHeldAbove, rank_by}
use Rattle.k_supported.specs.Supported.{IsRemovable}
use Rattle.k_supported.proofs.Ranks.{has_lock, helped}

-- who holds the table lock alone is helped for that, or since it is to be removed itself
table_below : (held : HeldLocks) → held ≡ record { table = true; thread = None; ready = false } → (o : Option Lock) →
    has_lock held o ≡ true → rank_by held.table o < 1
table_below held e None has = subst (λ (x : HeldLocks). rank_by x.table None < 1) (sym e) (omega arith)
table_below held e (Some lock.Table) has = omega arith
table_below held e (Some (lock.Thread n)) has =
    absurd (false≢true (ap (λ (x : HeldLocks). has_lock x (Some (lock.Thread n))) (sym e) ∙ has))
table_below held e (Some lock.Ready) has =
    absurd (false≢true (ap (λ (x : HeldLocks). has_lock x (Some lock.Ready)) (sym e) ∙ has))

module _ (g : Programs) (b : Board) (w : World) (pair : IsPair g b w) (victims : HasVictims w) (c i : ℕ) (call : DestroyCall)
    (asked : IsAsked w c (OfThread i))
    (at : (b.context i).at ≡ InDestroy call (destroy.Locked destroy_locked.RemoveContext)) where
  abbrev n : ℕ
  n = call.who.number

  mine : w.threads.locks i ≡ record { table = true; thread = None; ready = false }
  mine = ap (λ (x : Threads). x.locks i) pair.alike.agrees.threads ∙ ap (λ (p : At). (look_at p).locks) at

  owns : b.table ≡ Some i
  owns = held_owned b pair.good.locks lock.Table i (subst (λ (p : At). locks.Holds lock.Table (locks_at p)) (sym at) refl)

  table : w.threads.table ≡ Some i
  table = ap (λ (x : Threads). x.table) pair.alike.agrees.threads ∙ owns

  victim : w.threads.victim ≡ Some call.who
  victim =
      ap (λ (x : Threads). x.victim) pair.alike.agrees.threads
      ∙ ap (by_owner None (λ (l : Look). l.victim) (looks_of b)) owns ∙ ap (λ (p : At). (look_at p).victim) at

  killed : IsVictim w.threads call.who
  killed = pair.world.1.threads.victim call.who victim

  -- the victim isn't the one that destroys it
  apart : n ≡ i → ⊥
  apart e =
      let here = (pair.world.1.threads.table_is i table).1 in
      let gone = killed.1 in
      false≢true (sym (ap w.threads.present (sym e) ∙ gone) ∙ here)

  without_table : (w.threads.locks n).table ≡ false
  without_table = by (w.threads.locks n).table refl
    where
      by : (q : Bool) → (w.threads.locks n).table ≡ q → q ≡ false
      by false e = refl
      by true e = absurd (apart (one (sym (pair.world.1.threads.table n e) ∙ table)))
        where
          one : Some n ≡ Some i → n ≡ i
          one z = cc

  module _ (alone : IsAlone w c) where
    -- the context is in no hand
    in_no_hand : w.held n ≡ None
    in_no_hand = by (w.held n) refl
      where
        one : Some (OfThread n) ≡ Some (OfThread i) → n ≡ i
        one z = cc

        by : (o : Option ℕ) → w.held n ≡ o → o ≡ None
        by None e = refl
        by (Some d) e = elim (eqb_tells d c) [
          | inl same ↦ absurd (apart (one (sym (hand d e) ∙ ap (λ k. (w.carrier k).hand) same.1 ∙ asked.hand)))
          | inr other ↦ absurd (let z : None ≡ Some (OfThread n) = sym (alone d other.1) ∙ hand d e in cc)
        ]
          where
            hand : (k : ℕ) → w.held n ≡ Some k → (w.carrier k).hand ≡ Some (OfThread n)
            hand k q = pair.world.1.hands.thread_is k n q

    word_is : word_of w (OfThread n) ≡ (if holds_any (w.threads.locks n) then Holds call.who.version else Clean call.who.version)
    word_is =
        there (w.threads.condition n) (victims call.who victim)
        ∙ ap (λ (o : Option ℕ). slot_word o (holds_any (w.threads.locks n)) (w.threads.made n)) in_no_hand
        ∙ ap (λ v. slot_word None (holds_any (w.threads.locks n)) v) killed.3
      where
        there : (k : Condition) → is_absent k ≡ false →
            thread_word k (w.held n) (holds_any (w.threads.locks n)) (w.threads.made n) ≡
            slot_word (w.held n) (holds_any (w.threads.locks n)) (w.threads.made n)
        there k e = rw e refl

    held_above : holds_any (w.threads.locks n) ≡ true → IsHeldAbove w c (record { context = OfThread n; lock = None })
    held_above has = record {
      held = has;
      above = λ help e held. (let h = helped w c i asked help e held in
          subst (λ r. r < rank_by (w.threads.locks n).table None) (sym h.rank)
          (subst (λ t. rank_by (w.threads.locks i).table help.lock < rank_by t None) (sym without_table)
          (table_below (w.threads.locks i) mine help.lock h.has)));
    }

    pub removal_held_up : IsRemovable w c call.who
    removal_held_up = by (holds_any (w.threads.locks n)) refl
      where
        by : (q : Bool) → holds_any (w.threads.locks n) ≡ q → IsRemovable w c call.who
        by false e = inl (word_is ∙ rw e refl)
        by true e = inr (word_is ∙ rw e refl, held_above e)
