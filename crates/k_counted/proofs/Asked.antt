-- What the context in a carrier's hand is asked for; and what the board has where it places the context of a new
-- thread, or removes one.
use Rattle.std.proofs.Common.{◌≡◌, ◌≢◌, ℕ, ◌-◌, ◌==◌, true, false, refl, sym, ap, ◌∙◌, subst, arith, Option, Some, None}
use Rattle.std.proofs.lemmas.Bool.{eq-eqb}
use Rattle.k_ids.specs.declared.calls.Phase.TheVariants as phase
use Rattle.k_ids.specs.declared.state_word.StateWord.{StateWord}
use Rattle.k_ids.specs.declared.threads.ThreadId.{ThreadId}
use Rattle.k_ids.specs.ContextWords.{IsVersion}
use Rattle.k_locks.specs.Asks.{Ask, step_for}
use Rattle.k_locks.specs.Asks as asks
use Rattle.k_locks.specs.Hands.{Hand, nothing}
use Rattle.k_locks.specs.Shown.{is_dead}
use Rattle.k_script.specs.declared.registers.Next.{Next}
use Rattle.k_script.specs.declared.registers.Next.TheVariants as next
use Rattle.k_script.specs.Script.{Script}
use Rattle.k_script.specs.Plays.{next_of, went_on}
use Rattle.k_ipc.specs.declared.send.SendSection.{SendSection}
use Rattle.k_ipc.specs.declared.receive.ReceiveSection.{ReceiveSection}
use Rattle.k_ipc.specs.SendTable as send
use Rattle.k_ipc.specs.ReceiveTable as receive
use Rattle.k_threads.specs.declared.create.CreateSection.{CreateSection}
use Rattle.k_threads.specs.declared.create.CreateLocation.{CreateLocation}
use Rattle.k_threads.specs.declared.create.CreateLocation.TheVariants as create_location
use Rattle.k_threads.specs.declared.create.CreateLocked.TheVariants as create_locked
use Rattle.k_threads.specs.CreateTable as create
use Rattle.k_threads.specs.declared.destroy.DestroySection.{DestroySection}
use Rattle.k_threads.specs.declared.destroy.DestroyLocation.{DestroyLocation}
use Rattle.k_threads.specs.declared.destroy.DestroyLocation.TheVariants as destroy_location
use Rattle.k_threads.specs.declared.destroy.DestroyLocked.TheVariants as destroy_locked
use Rattle.k_threads.specs.declared.destroy.DestroyReturned.{DestroyReturned}
use Rattle.k_threads.specs.declared.destroy.DestroyReturned.TheVariants as returned
use Rattle.k_threads.specs.DestroyTable as destroy
use Rattle.k_threads.specs.Words.{dead_word}
use Rattle.k_caller.specs.declared.activity.Activity.{Activity}
use Rattle.k_caller.specs.declared.activity.Activity.TheVariants as activity
use Rattle.k_caller.specs.declared.thread.ThreadLocation.{ThreadLocation}
use Rattle.k_caller.specs.declared.thread.ThreadLocation.TheVariants as location
use Rattle.k_caller.specs.Activities.{IsSoundAt, step_at}
use Rattle.k_caller.specs.Threads.{ThreadSeen, begun_at, begun_next}
use Rattle.k_caller.specs.Threads as threads
use Rattle.k_caller.specs.Waits as alone
use Rattle.k_switch.specs.declared.carrier_context.CarrierContext.{CarrierContext}
use Rattle.k_switch.specs.declared.switch.Switch.{Switch}
use Rattle.k_switch.specs.Switches as switch
use Rattle.k_switch.specs.Carriers as carriers
use Rattle.k_context.specs.Contexts.{Carrier, ContextSeen, Thread, step_of}
use Rattle.k_board.specs.Boards.{At, Board, Context, InCreate, InDestroy, Nowhere}
use Rattle.k_board.specs.Facts.{AllSay, IsRun}
use Rattle.k_board.specs.Places.{facts_of}
use Rattle.k_places.specs.Contexts.{IsShown, at_in, programs_of}
use Rattle.k_turns.proofs.AloneSteps.{usual as alone_usual}
use Rattle.k_turns.proofs.Comes.{needs_met}
use Rattle.k_turns.proofs.CreateSteps.{IsPlain as IsPlainCreate, usual as create_usual}
use Rattle.k_turns.proofs.DestroySteps.{IsPlain as IsPlainDestroy, usual as destroy_usual}
use Rattle.k_turns.proofs.ReceiveSteps.{usual as receive_usual}
use Rattle.k_turns.proofs.SendSteps.{usual as send_usual}
use Rattle.k_places.proofs.Steps.{IsUsual}
use Rattle.k_places.proofs.Threads.{at_made}
use Rattle.k_joint.proofs.SwitchSteps.{usual as switch_usual}

-- The number has no context, and its last thread had the version before this one.
pub record IsPlacing (b : Board) (id : ThreadId) : Type 0 where
  pub unmade : (b.seen id.number).word ≡ dead_word (id.version - 1)
  pub vacant : (b.context id.number).at ≡ Nowhere
  pub version : IsVersion id.version

-- The number's word has this version, and the number is another's.
pub record IsRemoving (b : Board) (i : ℕ) (id : ThreadId) : Type 0 where
  pub shown : (b.seen id.number).word.version ≡ id.version
  pub apart : id.number ≢ i
  pub version : IsVersion id.version

abbrev pub Permits : Board → ℕ → Ask → Type 0
Permits b i (asks.Place id program priority) = IsPlacing b id
Permits b i (asks.Remove id) = IsRemoving b i id
Permits b i a = Unit {0}

pub record IsAsked (b : Board) (i : ℕ) (v : ContextSeen) : Type 0 where
  pub ask : Ask
  pub hand : Hand
  pub step : step_of v ≡ step_for ask hand
  pub permits : Permits b i ask

-- a step that is on no context
usual_permits : (b : Board) (i : ℕ) (a : Ask) → IsUsual a → Permits b i a
usual_permits b i (asks.Load n) u = tt
usual_permits b i (asks.LoadMail n) u = tt
usual_permits b i (asks.Post n message) u = tt
usual_permits b i (asks.Exchange n old new) u = tt
usual_permits b i (asks.Acquire l) u = tt
usual_permits b i (asks.Release l) u = tt
usual_permits b i (asks.Place id program priority) u = absurd u
usual_permits b i (asks.Remove id) u = absurd u

module _ (b : Board) (i : ℕ) where
  usual_asked : (v : ContextSeen) (a : Ask) (h : Hand) → step_of v ≡ step_for a h → IsUsual a → IsAsked b i v
  usual_asked v a h e u = record { ask = a; hand = h; step = e; permits = usual_permits b i a u }

  alone_asked : (t : ThreadSeen) (p : ThreadLocation) → t.activity ≡ activity.Alone p → IsAsked b i (Thread t)
  alone_asked t p e =
      usual_asked (Thread t) (alone.ask_of t.id t.own p) nothing (ap (step_at t.id t.own) e) (alone_usual t.id t.own p)

  send_asked : (t : ThreadSeen) (s : SendSection) → t.activity ≡ activity.Send s → IsAsked b i (Thread t)
  send_asked t s e =
      usual_asked (Thread t) (send.ask_of s.call s.own (send.at_of s.location))
      (send.hand_after s.call (send.hand_of s.location) (send.at_of s.location) asks.Released) (ap (step_at t.id t.own) e)
      (send_usual s.call s.own (send.at_of s.location))

  receive_asked : (t : ThreadSeen) (s : ReceiveSection) → t.activity ≡ activity.Receive s → IsAsked b i (Thread t)
  receive_asked t s e =
      usual_asked (Thread t) (receive.ask_of s.call s.own (receive.at_of s.location))
      (receive.hand_after s.call (receive.hand_of s.location) (receive.at_of s.location) asks.Released)
      (ap (step_at t.id t.own) e) (receive_usual s.call s.own (receive.at_of s.location))

  create_asked : (t : ThreadSeen) (s : CreateSection) → t.activity ≡ activity.Create s → Permits b i
      (create.ask_of s.call s.own (create.at_of s.location)) → IsAsked b i (Thread t)
  create_asked t s e h = record {
    ask = create.ask_of s.call s.own (create.at_of s.location);
    hand = create.hand_after s.call (create.hand_of s.location) (create.at_of s.location) asks.Released;
    step = ap (step_at t.id t.own) e;
    permits = h;
  }

  plain_create : (s : CreateSection) → IsPlainCreate (create.at_of s.location) →
      Permits b i (create.ask_of s.call s.own (create.at_of s.location))
  plain_create s p =
      usual_permits b i (create.ask_of s.call s.own (create.at_of s.location))
      (create_usual s.call s.own (create.at_of s.location) p)

  destroy_asked : (t : ThreadSeen) (s : DestroySection) → t.activity ≡ activity.Destroy s → Permits b i
      (destroy.ask_of s.call s.own (destroy.at_of s.location)) → IsAsked b i (Thread t)
  destroy_asked t s e h = record {
    ask = destroy.ask_of s.call s.own (destroy.at_of s.location);
    hand = destroy.hand_after s.call (destroy.hand_of s.location) (destroy.at_of s.location) asks.Released;
    step = ap (step_at t.id t.own) e;
    permits = h;
  }

  plain_destroy : (s : DestroySection) → IsPlainDestroy (destroy.at_of s.location) →
      Permits b i (destroy.ask_of s.call s.own (destroy.at_of s.location))
  plain_destroy s p =
      usual_permits b i (destroy.ask_of s.call s.own (destroy.at_of s.location))
      (destroy_usual s.call s.own (destroy.at_of s.location) p)

  -- its next call has begun
  first_asked : (table : ℕ) (t : ThreadSeen) (n : Next) → IsAsked b i (Thread (begun_next table t n))
  first_asked table t (next.Work count) = alone_asked _ (location.Work count) refl
  first_asked table t (next.Phase (phase.Send to message zero joined)) = send_asked _ _ refl
  first_asked table t (next.Phase (phase.Reply to message zero)) = send_asked _ _ refl
  first_asked table t (next.Phase (phase.Receive from zero)) = receive_asked _ _ refl
  first_asked table t (next.Phase (phase.Create program priority)) = create_asked _ _ refl tt
  first_asked table t (next.Phase (phase.Destroy who)) =
      let s = destroy.destroy_of (record { caller = t.id; who = who; count = table }) t.own in
      destroy_asked _ s refl (plain_destroy s tt)
  first_asked table t (next.Phase phase.End) = alone_asked _ location.CommitEnd refl

-- a destroy that was asked for its release stands at no removal
returned_plain : (q : DestroyReturned) → IsPlainDestroy (destroy.returned_at q)
returned_plain (returned.Numbers r) = tt
returned_plain (returned.VictimLock numbers) = tt
returned_plain (returned.VictimLockAbsent found numbers) = tt
returned_plain (returned.VisitedLock visited numbers) = tt
returned_plain (returned.Unlisted numbers) = tt
returned_plain (returned.Pushed p numbers queue) = tt

-- WHERE IT STANDS

run_alive : (w own : StateWord) → w ≡ own → IsRun own → is_dead w ≡ true → ⊥
run_alive w own e run dead =
    let no : true ≡ false = sym dead ∙ ap (λ (z : StateWord). is_dead z) e ∙ alive in absurd cc
  where
    alive : is_dead own ≡ false
    alive = grind (arith, run.state)

module _ (script : Script) (b : Board) (i : ℕ)
    (facts : AllSay (programs_of script) b i (b.context i) (facts_of (b.context i).at)) where
  abbrev Stands : At → Type 0
  Stands p = (b.context i).at ≡ p

  facts_at : (p : At) → Stands p → AllSay (programs_of script) b i (b.context i) (facts_of p)
  facts_at p e = subst (λ (q : At). AllSay (programs_of script) b i (b.context i) (facts_of q)) e facts

  create_located : (s : CreateSection) → create.IsSound s → (l : CreateLocation) → s.location ≡ l →
      Stands (InCreate s.call (create.at_of l)) → Permits b i (create.ask_of s.call s.own (create.at_of l))
  create_located s sound (create_location.Locked (create_locked.PlaceContext id) numbers) el at =
      let next = subst create.IsSoundLocation el sound.located in
      let need = needs_met script b i (b.context i) (InCreate s.call (create.Locked (create_locked.PlaceContext id)))
      (facts_at (InCreate s.call (create.Locked (create_locked.PlaceContext id))) at) in
      record {
        unmade = need.0;
        vacant = need.1;
        version = record { born = omega (arith, next.next); small = next.version };
      }
  create_located s sound (create_location.Locked (create_locked.CommitCreate id) numbers) el at = tt
  create_located s sound l el at =
      subst (λ (z : CreateLocation). Permits b i (create.ask_of s.call s.own (create.at_of z))) el
      (plain_create b i s (subst (λ (z : CreateLocation). IsPlainCreate (create.at_of z)) (sym el) tt))

  destroy_located : (s : DestroySection) → destroy.IsSound s → (l : DestroyLocation) → s.location ≡ l →
      Stands (InDestroy s.call (destroy.at_of l)) → Permits b i (destroy.ask_of s.call s.own (destroy.at_of l))
  destroy_located s sound (destroy_location.Locked destroy_locked.RemoveContext numbers) el at =
      let f = facts_at (InDestroy s.call (destroy.Locked destroy_locked.RemoveContext)) at in
      let who = sound.call.victim in
      record {
        shown = f.0.2;
        apart = λ q. run_alive (b.seen i).word (b.context i).own f.1.1.1.1.1.0.1 f.1.1.1.1.1.0.0
            (ap (λ z. is_dead (b.seen z).word) (sym q) ∙ f.0.1);
        version = record { born = who.born; small = who.version };
      }
  destroy_located s sound (destroy_location.Returned q) el at =
      subst (λ (z : DestroyLocation). Permits b i (destroy.ask_of s.call s.own (destroy.at_of z))) el
      (plain_destroy b i s (subst (λ (z : DestroyLocation). IsPlainDestroy (destroy.at_of z)) (sym el) (returned_plain q)))
  destroy_located s sound l el at =
      subst (λ (z : DestroyLocation). Permits b i (destroy.ask_of s.call s.own (destroy.at_of z))) el
      (plain_destroy b i s (subst (λ (z : DestroyLocation). IsPlainDestroy (destroy.at_of z)) (sym el) tt))

  -- a thread that is made, as the board has it
  pub thread_asked : (t : ThreadSeen) → IsShown (b.seen i).word i t (b.context i) → (b.seen i).word.version ≡ t.id.version →
      threads.IsSound script (threads.begun script t) → IsAsked b i (Thread (threads.begun script t))
  thread_asked t shown made sound = by t.activity refl
    where
      ver : ((b.seen i).word.version == t.id.version) ≡ true
      ver = eq-eqb (b.seen i).word.version t.id.version made

      at : Stands (at_in t.activity)
      at = ap (λ (z : Context). z.at) shown.context ∙ at_made (b.seen i).word t ver

      same : (a : Activity) → t.activity ≡ a → begun_at script t a ≡ t → threads.begun script t ≡ t
      same a e s = ap (begun_at script t) e ∙ s

      doing : (a : Activity) → t.activity ≡ a → begun_at script t a ≡ t → IsSoundAt t.id t.own a
      doing a e s =
          subst (IsSoundAt t.id t.own) e (subst (λ (z : ThreadSeen). IsSoundAt z.id z.own z.activity) (same a e s) sound.doing)

      as_it_is : (a : Activity) → t.activity ≡ a → begun_at script t a ≡ t → IsAsked b i (Thread t) →
          IsAsked b i (Thread (threads.begun script t))
      as_it_is a e s h = subst (λ (z : ThreadSeen). IsAsked b i (Thread z)) (sym (same a e s)) h

      by : (a : Activity) → t.activity ≡ a → IsAsked b i (Thread (threads.begun script t))
      by (activity.Alone (location.Between last)) e =
          subst (λ (z : ThreadSeen). IsAsked b i (Thread z)) (sym (ap (begun_at script t) e))
          (first_asked b i script.table (record t { position = went_on t.position last })
          (next_of script.version t.position last))
      by (activity.Send s) e = as_it_is (activity.Send s) e refl (send_asked b i t s e)
      by (activity.Receive s) e = as_it_is (activity.Receive s) e refl (receive_asked b i t s e)
      by (activity.Create s) e =
          as_it_is (activity.Create s) e refl (create_asked b i t s e
          (create_located s (doing (activity.Create s) e refl).sound s.location refl (at ∙ ap at_in e)))
      by (activity.Destroy s) e =
          as_it_is (activity.Destroy s) e refl (destroy_asked b i t s e
          (destroy_located s (doing (activity.Destroy s) e refl).sound s.location refl (at ∙ ap at_in e)))
      by (activity.Alone location.FallAsleep) e = as_it_is _ e refl (alone_asked b i t location.FallAsleep e)
      by (activity.Alone location.LookAgain) e = as_it_is _ e refl (alone_asked b i t location.LookAgain e)
      by (activity.Alone (location.LoadMail from)) e = as_it_is _ e refl (alone_asked b i t (location.LoadMail from) e)
      by (activity.Alone (location.Work count)) e = as_it_is _ e refl (alone_asked b i t (location.Work count) e)
      by (activity.Alone location.CommitEnd) e = as_it_is _ e refl (alone_asked b i t location.CommitEnd e)
      by (activity.Alone location.Asleep) e = as_it_is _ e refl (alone_asked b i t location.Asleep e)
      by (activity.Alone location.Ended) e = as_it_is _ e refl (alone_asked b i t location.Ended e)
      by (activity.Alone location.Dead) e = as_it_is _ e refl (alone_asked b i t location.Dead e)

  pub carrier_asked : (k : CarrierContext) → IsAsked b i (Carrier k)
  carrier_asked k = by k.switch refl
    where
      by : (o : Option Switch) → k.switch ≡ o → IsAsked b i (Carrier k)
      by None e = usual_asked b i (Carrier k) (asks.Load 0) nothing (ap carriers.step_in e) tt
      by (Some s) e =
          usual_asked b i (Carrier k) (switch.ask_of s.call (switch.at_of s.location))
          (switch.hand_after s.call (switch.hand_of s.location) (switch.at_of s.location) asks.Released)
          (ap carriers.step_in e) (switch_usual s.call (switch.at_of s.location))
