-- A context in a carrier's hand that no rule gives back has a turn.
use Rattle.std.proofs.Common.{◌≡◌, ℕ, ◌+◌, Bool, if◌then◌else◌, true, false, refl, sym, ap, ◌∙◌, arith, inl, inr}
use Rattle.std.proofs.lemmas.Bool.{false≢true}
use Rattle.k_ipc.specs.declared.send.SendOutside.TheVariants as send_outside
use Rattle.k_ipc.specs.SendTable as send
use Rattle.k_ipc.specs.declared.receive.ReceiveOutside.TheVariants as receive_outside
use Rattle.k_ipc.specs.ReceiveTable as receive
use Rattle.k_threads.specs.declared.create.CreateOutside.TheVariants as create_outside
use Rattle.k_threads.specs.CreateTable as create
use Rattle.k_threads.specs.declared.destroy.DestroyOutside.TheVariants as destroy_outside
use Rattle.k_threads.specs.DestroyTable as destroy
use Rattle.k_caller.specs.declared.thread.ThreadLocation.TheVariants as location
use Rattle.k_switch.specs.declared.switch.SwitchCall.{SwitchCall}
use Rattle.k_switch.specs.Switches as switch
use Rattle.k_board.specs.Words.{Programs}
use Rattle.k_board.specs.Boards.{At, Alone, InSend, InReceive, InCreate, InDestroy, InSwitch, Resting, Coming, Nowhere, Board}
use Rattle.k_board.specs.Facts.{AllSay}
use Rattle.k_board.specs.Places.{facts_of}
use Rattle.k_tokens.specs.Grants.{IsRun}
use Rattle.k_tokens.specs.World.{Absent, Awake, ContextName, OfCarrier, OfThread, OwnContext, Threads, World, is_open, thread_of}
use Rattle.k_switching.specs.Claims.{IsAsked}
use Rattle.k_switching.proofs.Rules.{has_step, is_run}
use Rattle.k_grants.specs.Views.{look_at, threads_of}
use Rattle.k_stages.specs.Stages.{IsOwn}
use Rattle.k_sections.specs.Stepping.{IsStill, board_after}
use Rattle.k_sections.specs.Stepping as still
use Rattle.k_sections.proofs.Turned.{step_turns}
use Rattle.k_paired.specs.Pairs.{IsPair}
use Rattle.k_whole.specs.Next.{HasStep, has_next, number_of}

module _ (g : Programs) (b : Board) (i : ℕ) where
  -- an awake context that isn't a new thread's has a next step
  awake_next : (p : At) → AllSay g b i (b.context i) (facts_of p) → (look_at p).condition ≡ Awake → (p ≡ Coming → ⊥) →
      has_next p ≡ true
  awake_next (Alone (location.Between last)) f e n = refl
  awake_next (Alone location.FallAsleep) f e n = refl
  awake_next (Alone location.LookAgain) f e n = refl
  awake_next (Alone (location.LoadMail from)) f e n = refl
  awake_next (Alone (location.Work count)) f e n = refl
  awake_next (Alone location.CommitEnd) f e n = refl
  awake_next (Alone location.Asleep) f e n = cc
  awake_next (Alone location.Ended) f e n = cc
  awake_next (Alone location.Dead) f e n = cc
  awake_next (InSend c (send.Outside (send_outside.Ended w))) f e n = absurd f.0
  awake_next (InSend c (send.Outside send_outside.LoadCaller)) f e n = refl
  awake_next (InSend c (send.Outside send_outside.AcquireReceiver)) f e n = refl
  awake_next (InSend c (send.Outside (send_outside.CheckCaller r))) f e n = refl
  awake_next (InSend c (send.Locked p)) f e n = refl
  awake_next (InSend c (send.Pushing p)) f e n = refl
  awake_next (InReceive c (receive.Outside (receive_outside.Ended w))) f e n = absurd f.0
  awake_next (InReceive c (receive.Outside receive_outside.LoadCaller)) f e n = refl
  awake_next (InReceive c (receive.Outside receive_outside.AcquireOwn)) f e n = refl
  awake_next (InReceive c (receive.Locked p)) f e n = refl
  awake_next (InReceive c (receive.Pushing p)) f e n = refl
  awake_next (InCreate c (create.Outside (create_outside.Ended w))) f e n = absurd f.0
  awake_next (InCreate c (create.Outside create_outside.AcquireTable)) f e n = refl
  awake_next (InCreate c (create.Locked p)) f e n = refl
  awake_next (InCreate c (create.PushCreated id)) f e n = refl
  awake_next (InDestroy c (destroy.Outside (destroy_outside.Ended w))) f e n = absurd f.0
  awake_next (InDestroy c (destroy.Outside destroy_outside.LoadOwn)) f e n = refl
  awake_next (InDestroy c (destroy.Outside destroy_outside.AcquireTable)) f e n = refl
  awake_next (InDestroy c (destroy.Locked p)) f e n = refl
  awake_next (InDestroy c (destroy.Victim p)) f e n = refl
  awake_next (InDestroy c (destroy.Visit p)) f e n = refl
  awake_next (InDestroy c destroy.UnlistVictim) f e n = refl
  awake_next (InDestroy c (destroy.Pushing p)) f e n = refl
  awake_next (InSwitch c p) f e n = cc
  awake_next Resting f e n = cc
  awake_next Coming f e n = absurd (n refl)
  awake_next Nowhere f e n = cc

-- a switch that isn't finished has a next step
open_next : (p : At) (own : OwnContext) → IsOwn p own → is_open own.stage ≡ true → has_next p ≡ true
open_next (InSwitch c switch.AcquireReady) own h e = refl
open_next (InSwitch c (switch.Locked p)) own h e = refl
open_next (InSwitch c (switch.Returned s)) own h e = refl
open_next (InSwitch c (switch.Finished s)) own h e = absurd (false≢true (sym (ap is_open h.0) ∙ e))
open_next Resting own h e = absurd (false≢true (sym (ap is_open h) ∙ e))
open_next Nowhere own h e = absurd (false≢true (sym (ap is_open h) ∙ e))
open_next (Alone p) own h e = absurd h
open_next (InSend c p) own h e = absurd h
open_next (InReceive c p) own h e = absurd h
open_next (InCreate c p) own h e = absurd h
open_next (InDestroy c p) own h e = absurd h
open_next Coming own h e = absurd h

next_is_not_still : (p : At) → has_next p ≡ true → IsStill p → ⊥
next_is_not_still _ e still.is_coming = absurd (false≢true e)
next_is_not_still _ e still.is_nowhere = absurd (false≢true e)
next_is_not_still _ e still.has_ended = absurd (false≢true e)
next_is_not_still _ e still.has_died = absurd (false≢true e)

module _ (g : Programs) (b : Board) (w : World) (h : IsPair g b w) (c : ℕ) where
  by_threads : {A : Type 0} (f : Threads → A) → f w.threads ≡ f (threads_of w.threads.priority b)
  by_threads f = ap f h.alike.agrees.threads

  -- whom a carrier runs isn't a thread that is still to be made
  not_coming : (i : ℕ) → IsAsked w c (OfThread i) → (b.context i).at ≡ Coming → ⊥
  not_coming i a at = go (w.threads.present i) refl
    where
      run : IsRun w c i h.world.0
      run = is_run w h.world.0 h.world.1 c i a.hand a.kept

      next : w.threads.made i ≡ w.threads.version i + 1
      next =
          by_threads (λ (x : Threads). x.made i) ∙ ap (λ (p : At). next_by p) at
          ∙ ap (λ (v : ℕ). v + 1) (sym (by_threads (λ (x : Threads). x.version i)))
        where
          next_by : At → ℕ
          next_by p = if (look_at p).is_coming then (b.seen i).word.version + 1 else (b.seen i).word.version

      go : (p : Bool) → w.threads.present i ≡ p → ⊥
      go true e = let same = ((h.world.1).threads.here i e).1 in omega (arith, same, next)
      go false e = elim ((h.world.1).threads.stays i e (λ (q : w.threads.condition i ≡ Absent). different (sym run.awake ∙ q))) [
        | inl v ↦ let same = ((h.world.1).threads.victim (thread_of w.threads i) v).3 in omega (arith, same, next)
        | inr m ↦ run.old m
      ]
        where
          different : Awake ≡ Absent → ⊥
          different q = cc

  pub asked_next : (x : ContextName) → IsAsked w c x → has_next (b.context (number_of b x)).at ≡ true
  asked_next (OfThread i) a =
      awake_next g b i (b.context i).at (h.good.places i) (sym (by_threads (λ (x : Threads). x.condition i))
      ∙ has_step w c (OfThread i) h.world a)
      (not_coming i a)
  asked_next (OfCarrier d) a =
      open_next (b.context (b.size + d)).at (w.own d) (h.alike.stages d) (has_step w c (OfCarrier d) h.world a)

  pub asked_step : (calls : Board → ℕ → SwitchCall) (x : ContextName) → IsAsked w c x → HasStep g calls b (number_of b x)
  asked_step calls x a =
      let e = asked_next x a in
      record {
        next = e;
        turn = elim (step_turns g b h.good.locks (number_of b x) calls) [
          | inl t ↦ t
          | inr s ↦ absurd (next_is_not_still _ e s)
        ];
      }
