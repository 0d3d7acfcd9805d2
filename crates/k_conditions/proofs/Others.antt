-- Whom a carrier has to help isn't its own context: that holds the ready lock alone, and while it does, the carrier makes
-- no step of another context that waits for it.
use Rattle.std.proofs.Common.{◌≡◌, ◌≢◌, ℕ, ◌+◌, Bool, true, false, not, refl, sym, ap, ◌∙◌, subst, inl, inr, Option, Some, None}
use Rattle.std.proofs.lemmas.Bool.Decides.{eqb_tells}
use Rattle.std.proofs.lemmas.Bool.{false≢true}
use Rattle.std.specs.Prelude.{◌&&◌, is_some}
use Rattle.k_model.specs.State.{KernelState}
use Rattle.k_locks.specs.declared.locks.Lock.{Lock}
use Rattle.k_locks.specs.declared.locks.Lock.TheVariants as lock
use Rattle.k_locks.specs.Locks.{Holds}
use Rattle.k_script.specs.Script.{Script}
use Rattle.k_switch.specs.declared.switch.SwitchLocked.TheVariants as locked
use Rattle.k_switch.specs.Switches as switch
use Rattle.k_threads.specs.Goods.{no_lock}
use Rattle.k_world.specs.Worlds.{World}
use Rattle.k_board.specs.Boards.{Alone, At, Board, Coming, InCreate, InDestroy, InReceive, InSend, InSwitch, Nowhere}
use Rattle.k_board.specs.Boards.{Resting, owner_of}
use Rattle.k_good.specs.Locks.{locks_at, owner_by}
use Rattle.k_tokens.specs.Good.{Parts}
use Rattle.k_tokens.specs.World.{ContextName, Help, OfCarrier, OfThread, OwnContext, Stage, has_switch, holds, holds_ready}
use Rattle.k_tokens.specs.World as tokens
use Rattle.k_switching.specs.Claims.{IsAsked}
use Rattle.k_switching.specs.Rules.{is_helped, is_released, same_context}
use Rattle.k_switching.proofs.Rules.{is_run, kept_by}
use Rattle.k_stages.specs.Stages.{IsOwn}
use Rattle.k_handling.specs.Handling.{IsKernel}

pub none_held : (l : Lock) → Holds l no_lock → ⊥
none_held lock.Table e = absurd cc
none_held (lock.Thread n) e = absurd cc
none_held lock.Ready e = absurd cc

owner_is : (b : Board) (l : Lock) → owner_by b.owner b.table b.ready l ≡ owner_of b l
owner_is b (lock.Thread n) = refl
owner_is b lock.Table = refl
owner_is b lock.Ready = refl

-- a carrier's own context that holds a lock holds the ready lock
pub own_holds : (l : Lock) (p : At) (own : OwnContext) → IsOwn p own → Holds l (locks_at p) →
    holds_ready own.stage ≡ true
own_holds l (InSwitch c switch.AcquireReady) own is held = absurd (none_held l held)
own_holds l (InSwitch c (switch.Locked (locked.LoadGoal goal))) own is held = ap holds_ready is.1
own_holds l (InSwitch c (switch.Locked (locked.LoadStart back n))) own is held = ap holds_ready is.1
own_holds l (InSwitch c (switch.Locked (locked.ReleaseReady back started))) own is held = ap holds_ready is.1
own_holds l (InSwitch c (switch.Returned s)) own is held = absurd is
own_holds l (InSwitch c (switch.Finished s)) own is held = absurd (none_held l held)
own_holds l Resting own is held = absurd (none_held l held)
own_holds l Nowhere own is held = absurd (none_held l held)
own_holds l (Alone p) own is held = absurd is
own_holds l (InSend c p) own is held = absurd is
own_holds l (InReceive c p) own is held = absurd is
own_holds l (InCreate c p) own is held = absurd is
own_holds l (InDestroy c p) own is held = absurd is
own_holds l Coming own is held = absurd is

pub holding_switches : (s : Stage) → holds_ready s ≡ true → has_switch s ≡ true
holding_switches tokens.NoSwitch e = absurd (false≢true e)
holding_switches tokens.AcquireReady e = refl
holding_switches tokens.LoadGoal e = refl
holding_switches tokens.LoadStart e = refl
holding_switches tokens.ReleaseReady e = refl
holding_switches tokens.Finished e = refl

both_kept : (a b : Bool) → a ≡ true → (a && not b) ≡ false → b ≡ true
both_kept true true e f = refl
both_kept true false e f = absurd (false≢true (sym f))
both_kept false b e f = absurd (false≢true e)

module _ (script : Script) (w : World) (b : Board) (view : tokens.World) (state : KernelState)
    (h : IsKernel script w b view state) (c : ℕ) where
  parts : Parts view h.whole.pair.world.0
  parts = h.whole.pair.world.1

  own_ready : (l : Lock) → owner_of b l ≡ Some (b.size + c) → holds_ready (view.own c).stage ≡ true
  own_ready l e = own_holds l (b.context (b.size + c)).at (view.own c) (h.whole.pair.alike.stages c)
      (h.whole.pair.good.locks.held l (b.size + c) (owner_is b l ∙ e))

  switches : holds_ready (view.own c).stage ≡ true → (view.carrier c).switching ≡ true
  switches e = (parts.carriers c).switch_own (holding_switches (view.own c).stage e)

  -- while it makes a step of a thread's context
  pub thread_owner : (t : ℕ) (l : Lock) → IsAsked view c (OfThread t) → owner_of b l ≢ Some (b.size + c)
  thread_owner t l a e =
      let mine = own_ready l e in
      let run = is_run view h.whole.pair.world.0 h.whole.pair.world.1 c t a.hand a.kept in
      let theirs : view.ready_owner ≡ Some (OfThread t) = parts.ready.thread t (run.helped (switches mine)) in
      let z : OfThread t ≡ OfCarrier c = let y : Some (OfThread t) ≡ Some (OfCarrier c) = sym theirs
      ∙ parts.ready.own c mine in cc in cc

  -- while it makes a step of a carrier's context that doesn't hold the lock
  pub carrier_owner : (d : ℕ) (l : Lock) → IsAsked view c (OfCarrier d) →
      (Holds l (locks_at (b.context (b.size + d)).at) → ⊥) → owner_of b l ≢ Some (b.size + c)
  carrier_owner d l a free e = elim (eqb_tells d c) [
    | inl same ↦ free (subst (λ n. Holds l (locks_at (b.context (b.size + n)).at)) (sym same.1)
        (h.whole.pair.good.locks.held l (b.size + c) (owner_is b l ∙ e)))
    | inr other ↦ by (view.carrier c).help refl other.1
  ]
    where
      mine : holds_ready (view.own c).stage ≡ true
      mine = own_ready l e

      by : (o : Option Help) → (view.carrier c).help ≡ o → d ≢ c → ⊥
      by None q ne = let z : false ≡ true = ap is_some (sym q) ∙ (parts.carriers c).foreign d a.hand ne in cc
      by (Some p) q ne =
          let kept = kept_by view c (OfCarrier d) a.kept in
          let helped : same_context p.context (OfCarrier d) ≡ true =
          ap (λ (o : Option Help). is_helped o (OfCarrier d)) (sym q) ∙ kept.helped (ap is_some q) in
          let unreleased : (same_context p.context (OfCarrier d) && not (holds view (OfCarrier d) p.lock)) ≡
          false =
          ap (λ (o : Option Help). is_released view o (OfCarrier d)) (sym q) ∙ kept.kept in
          let still : holds view (OfCarrier d) p.lock ≡ true =
          both_kept (same_context p.context (OfCarrier d)) (holds view (OfCarrier d) p.lock) helped
          unreleased in
          let ready : p.lock ≡ Some lock.Ready = (parts.carriers c).switch_help p (switches mine) q in
          let theirs : view.ready_owner ≡ Some (OfCarrier d) =
          parts.ready.own d (ap (holds view (OfCarrier d)) (sym ready) ∙ still) in
          let y : Some (OfCarrier d) ≡ Some (OfCarrier c) = sym theirs ∙ parts.ready.own c mine in
          let z : d ≡ c = cc in ne z
