-- A carrier that makes a step of a thread's context is asked for it in the view too; and so it is after the turn with which the
-- thread's call begins.
use Rattle.std.proofs.Common.{◌≡◌, ℕ, false, not, refl, sym, ap, ◌∙◌, Option, Some, None}
use Rattle.std.specs.Prelude.{◌&&◌, ◌||◌}
use Rattle.k_locks.specs.declared.locks.Lock.{Lock}
use Rattle.k_locks.specs.declared.locks.Lock.TheVariants as lock
use Rattle.k_caller.specs.Threads.{ThreadSeen}
use Rattle.k_context.specs.Contexts.{Thread}
use Rattle.k_carrier.specs.Asked.{Run, ask_of}
use Rattle.k_carrier.specs.Seen.{CarrierSeen, HandSeen}
use Rattle.k_tokens.specs.World.{Help, HeldLocks, OfThread, World, holds, holds_any, is_lock_of, names, owner_of}
use Rattle.k_tokens.specs.World as tokens
use Rattle.k_tokens.specs.Maps.{id_at}
use Rattle.k_switching.specs.Claims.{IsAsked}
use Rattle.k_switching.specs.Rules.{gives, is_helped, is_in_the_way, is_released, is_stopped, same_context}
use Rattle.k_grants.specs.Views.{name_by, name_of}
use Rattle.k_moves.specs.Views.{ShowsThread, carrier_view, number_in}
use Rattle.k_moves.proofs.Gives.{HasAsked, run_asks}
use Rattle.k_moves.proofs.Names.{name_inside}
use Rattle.k_moves.proofs.Rules.{gives_same}

-- it has the context in hand, and no rule gives it back
pub is_asked : (v : World) (k : CarrierSeen) (c n : ℕ) (t : ThreadSeen) → k.number ≡ c → v.carrier c ≡ carrier_view k →
    ask_of k ≡ Run (record { context = n; value = Thread t }) → ShowsThread v.threads k.table n t → IsAsked v c (OfThread n)
is_asked v k c n t number viewed asks shows = record {
  hand = ap (λ (x : tokens.Carrier). x.hand) viewed ∙ ap (λ o. name_by k.table (number_in o)) at.hand ∙ ap Some name;
  kept =
      ap (λ (x : tokens.Carrier). gives v c x (OfThread n)) viewed
      ∙ (λ d. gives v (sym number d) (carrier_view k) (sym name d))
      ∙ gives_same v k h shows ∙ at.gives;
}
  where
    h : HandSeen
    h = record { context = n; value = Thread t }

    at : HasAsked k h false
    at = run_asks k h asks

    name : name_of k.table n ≡ OfThread n
    name = name_inside k.table n shows.inside

-- THE RULES speak of a thread's context by its locks and by whose it is

module _ (w v : World) (n : ℕ) (locks : w.threads.locks n ≡ v.threads.locks n) (made : w.threads.made n ≡ v.threads.made n) where
  holds_alike : (l : Option Lock) → holds w (OfThread n) l ≡ holds v (OfThread n) l
  holds_alike None = ap holds_any locks
  holds_alike (Some lock.Table) = ap (λ (x : HeldLocks). x.table) locks
  holds_alike (Some (lock.Thread m)) = ap (λ (x : HeldLocks). is_lock_of m x.thread) locks
  holds_alike (Some lock.Ready) = ap (λ (x : HeldLocks). x.ready) locks

  released_alike : (p : Option Help) → is_released w p (OfThread n) ≡ is_released v p (OfThread n)
  released_alike None = refl
  released_alike (Some p) = λ d. same_context p.context (OfThread n) && not (holds_alike p.lock d)

  gives_alike : (c : ℕ) (k : tokens.Carrier) → gives w c k (OfThread n) ≡ gives v c k (OfThread n)
  gives_alike c k =
      λ d. k.putting || (false || (released_alike k.help d || (is_in_the_way k (OfThread n)
      || ((not (names k.goal (id_at n (made d))) && not (is_helped k.help (OfThread n))) || is_stopped c k (OfThread n)))))

  pub asked_still : (c : ℕ) → w.carrier c ≡ v.carrier c → IsAsked w c (OfThread n) → IsAsked v c (OfThread n)
  asked_still c same asked = record {
    hand = ap (λ (x : tokens.Carrier). x.hand) (sym same) ∙ asked.hand;
    kept =
        sym (gives_alike c (v.carrier c)) ∙ ap (λ (x : tokens.Carrier). gives w c x (OfThread n)) (sym same) ∙ asked.kept;
  }
