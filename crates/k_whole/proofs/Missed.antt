-- With one carrier no context but the one that steps is in a hand, so a removal never misses.
use Rattle.std.proofs.Common.{◌≡◌, ◌≢◌, ℕ, ◌<◌, refl, sym, ap, ◌∙◌, subst, arith, Option, Some, None}
use Rattle.std.proofs.lemmas.Bool.{false≢true}
use Rattle.k_locks.specs.declared.locks.Lock.TheVariants as lock
use Rattle.k_threads.specs.declared.destroy.DestroyCall.{DestroyCall}
use Rattle.k_threads.specs.declared.destroy.DestroyLocked.TheVariants as destroy_locked
use Rattle.k_threads.specs.DestroyTable as destroy
use Rattle.k_locks.specs.Locks.{Holds}
use Rattle.k_board.specs.Words.{Programs}
use Rattle.k_board.specs.Boards.{At, Board, InDestroy}
use Rattle.k_good.specs.Locks.{locks_at}
use Rattle.k_tokens.specs.World.{OfThread, Threads, World}
use Rattle.k_tokens.specs.Views.{by_owner}
use Rattle.k_switching.specs.Claims.{IsAsked}
use Rattle.k_grants.specs.Granted.{IsFreeToRemove}
use Rattle.k_grants.specs.Views.{Look, look_at, looks_of}
use Rattle.k_paired.specs.Pairs.{IsPair}
use Rattle.k_whole.specs.Whole.{HandsWithin}
use Rattle.k_whole.proofs.Hands.{hand_within}

same_context : {i t : ℕ} → Some (OfThread i) ≡ Some (OfThread t) → i ≡ t
same_context e = cc

module _ (g : Programs) (b : Board) (w : World) (h : IsPair g b w) (hands : HandsWithin w) (single : w.carriers ≡ 1) (c i : ℕ)
    (a : IsAsked w c (OfThread i)) where
  pub in_no_hand : (t : ℕ) → t ≢ i → w.held t ≡ None
  in_no_hand t n = go (w.held t) refl
    where
      go : (o : Option ℕ) → w.held t ≡ o → o ≡ None
      go None e = refl
      go (Some d) e =
          let other = (h.world.1).hands.thread_is d t e in
          let x : c < w.carriers = hand_within w c (OfThread i) hands a.hand in
          let y : d < w.carriers = hand_within w d (OfThread t) hands other in
          let same : c ≡ d = omega (arith, x, y, single) in
          absurd (n (sym (same_context (sym a.hand ∙ ap (λ (m : ℕ). (w.carrier m).hand) same ∙ other))))

  -- nobody removes itself
  other : (d : DestroyCall) → (b.context i).at ≡ InDestroy d (destroy.Locked destroy_locked.RemoveContext) → d.who.number ≢ i
  other d at e =
      false≢true (sym ((h.world.1).threads.victim d.who victim).1 ∙ ap w.threads.present e
      ∙ ((h.world.1).threads.table_is i owner).1)
    where
      held : Holds lock.Table (locks_at (b.context i).at)
      held = subst (λ (p : At). Holds lock.Table (locks_at p)) (sym at) refl

      table : b.table ≡ Some i
      table = h.good.locks.named lock.Table i held

      owner : w.threads.table ≡ Some i
      owner = ap (λ (x : Threads). x.table) h.alike.agrees.threads ∙ table

      victim : w.threads.victim ≡ Some d.who
      victim = ap (λ (x : Threads). x.victim) h.alike.agrees.threads
          ∙ ap (λ (o : Option ℕ). by_owner None (λ (l : Look). l.victim) (looks_of b) o) table
          ∙ ap (λ (p : At). (look_at p).victim) at

  pub is_free : (b' : Board) → IsFreeToRemove b w i b'
  is_free b' d at gone = in_no_hand d.who.number (other d at)
