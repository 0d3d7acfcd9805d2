-- A carrier that is settled, and a switch that is over.
use Rattle.std.proofs.Common.{◌≡◌, ℕ, ◌+◌, ◌<◌, Bool, true, false, not, refl, sym, ap, ◌∙◌, subst, Option, Some, None, length}
use Rattle.std.proofs.Common.{arith}
use Rattle.std.specs.Prelude.{◌&&◌, if◌then◌else◌, is_none, is_some}
use Rattle.std.proofs.lemmas.Bool.{false≢true}
use Rattle.k_script.specs.Script.{Script}
use Rattle.k_switch.specs.declared.goal.Goal.{Goal}
use Rattle.k_switch.specs.declared.goal.Switched.{Switched}
use Rattle.k_switch.specs.declared.switch.Switch.{Switch}
use Rattle.k_switch.specs.declared.switch.SwitchLocation.{SwitchLocation}
use Rattle.k_switch.specs.declared.switch.SwitchLocation.TheVariants as location
use Rattle.k_switch.specs.Carriers.{switched_in}
use Rattle.k_switch.specs.Switches.{at_of, switched_at}
use Rattle.k_context.specs.Contexts.{Carrier, ContextSeen, Thread, switched_of}
use Rattle.k_carrier.specs.Flags.{is_settled}
use Rattle.k_carrier.specs.Seen.{CarrierSeen, HandSeen}
use Rattle.k_carrier.specs.Starts.{has_start}
use Rattle.k_world.specs.Worlds.{World, carrier_at}
use Rattle.k_tokens.specs.Good.{CarrierFacts, counted_in}
use Rattle.k_tokens.specs.World.{OwnContext, Stage, has_switch, is_open}
use Rattle.k_tokens.specs.World as tokens
use Rattle.k_moves.specs.Views.{ShowsAt, ShowsContext, ShowsOwn, carrier_view, goal_in, stage_of}
use Rattle.k_aligned.specs.Aligned.{found_in}
use Rattle.k_handling.specs.Handling.{IsKernel}
use Rattle.k_handling.proofs.Words.{shown}
use Rattle.k_running.specs.Running.{KernelHolds}
use Rattle.k_ending.specs.Ending.{IsFreshIn}

-- WHO IS SETTLED, flag by flag

pub record IsSettled (k : CarrierSeen) : Type 0 where
  pub goal : k.goal ≡ None
  pub free : k.hand ≡ None
  pub calm : k.switching ≡ false
  pub uncounted : k.counted ≡ false
  pub unstarted : has_start k.starts ≡ false

pub settled : (k : CarrierSeen) → is_settled k ≡ true → IsSettled k
settled k e = let f = by k.goal k.hand k.switching k.counted (has_start k.starts) e in record {
  goal = f.0;
  free = f.1;
  calm = f.2;
  uncounted = f.3;
  unstarted = f.4;
}
  where
    by : (g : Option Goal) (h : Option HandSeen) (s t u : Bool) →
        (is_none g && not (is_some h) && not s && not t && not u) ≡ true →
        (g ≡ None) × (h ≡ None) × (s ≡ false) × (t ≡ false) × (u ≡ false)
    by None None false false false z = (refl, refl, refl, refl, refl)
    by None None false false true z = absurd (false≢true z)
    by None None false true u z = absurd (false≢true z)
    by None None true t u z = absurd (false≢true z)
    by None (Some h) s t u z = absurd (false≢true z)
    by (Some g) h s t u z = absurd (false≢true z)

-- A SWITCH THAT IS OVER, as the view has it

pub record IsOver (own : OwnContext) (s : Switched) : Type 0 where
  pub stage : own.stage ≡ tokens.Finished
  pub goal : own.goal ≡ goal_in s.goal
  pub counted : own.counted ≡ is_some s.goal
  pub idle : own.idle ≡ s.idle

over_at : (l : SwitchLocation) (own : OwnContext) (s : Switched) → own.stage ≡ stage_of (at_of l) → ShowsAt own (at_of l) →
    switched_at l ≡ Some s → IsOver own s
over_at location.AcquireReady own s stage at e = absurd cc
over_at (location.Locked p lists) own s stage at e = absurd cc
over_at (location.ListsReturned o) own s stage at e = absurd cc
over_at (location.Finished o) own s stage at e =
    let same : o ≡ s = cc in
    subst (IsOver own) same (record { stage = stage; goal = at.0; counted = at.1; idle = at.2 })

over_in : (o : Option Switch) (own : OwnContext) (s : Switched) → ShowsOwn o own → switched_in o ≡ Some s → IsOver own s
over_in None own s h e = absurd cc
over_in (Some x) own s h e = over_at x.location own s h.stage h.at e

pub over_shown : (view : tokens.World) (size c : ℕ) (v : ContextSeen) (s : Switched) → ShowsContext view size (size + c) v →
    switched_of v ≡ Some s → IsOver (view.own c) s
over_shown view size c (Thread t) s h e = absurd cc
over_shown view size c (Carrier x) s h e =
    let own : size + c ≡ size + x.carrier = h.0 in
    let same : x.carrier ≡ c = omega (arith, own) in
    subst (λ n. IsOver (view.own n) s) same (over_in x.switch (view.own x.carrier) s h.1 e)

pub open_switch : (s : Stage) → has_switch s ≡ false → is_open s ≡ false
open_switch tokens.NoSwitch e = refl
open_switch tokens.AcquireReady e = absurd cc
open_switch tokens.LoadGoal e = absurd cc
open_switch tokens.LoadStart e = absurd cc
open_switch tokens.ReleaseReady e = absurd cc
open_switch tokens.Finished e = refl

-- A CARRIER OF THE KERNEL

module _ (script : Script) (w : World) (h : KernelHolds script w) where
  pub kernel_of : IsKernel script w h.board h.view h.state
  kernel_of = record { aligned = h.aligned; helps = h.helps; whole = h.whole; serials = h.serials }

  pub viewed : (c : ℕ) → c < length w.carriers → h.view.carrier c ≡ carrier_view (carrier_at w c)
  viewed c low = (h.aligned.carriers c low).viewed

  pub facts : (c : ℕ) → CarrierFacts h.view.threads.condition h.view.threads.made c (h.view.carrier c) (h.view.own c)
  facts c = h.whole.pair.world.1.carriers c

  pub over : (c : ℕ) (v : ContextSeen) (s : Switched) → found_in w (script.table + c) ≡ Some v → switched_of v ≡ Some s →
      IsOver (h.view.own c) s
  over c v s found e =
      over_shown h.view script.table c v s
      (shown script w h.board h.view h.state kernel_of (script.table + c) v found) e

  -- who isn't switching has no switch
  pub no_switch : (c : ℕ) → c < length w.carriers → (carrier_at w c).switching ≡ false → has_switch (h.view.own c).stage ≡ false
  no_switch c low calm = by (has_switch (h.view.own c).stage) refl
    where
      by : (t : Bool) → has_switch (h.view.own c).stage ≡ t → has_switch (h.view.own c).stage ≡ false
      by false e = e
      by true e =
          absurd (false≢true (sym calm ∙ ap (λ (k : tokens.Carrier). k.switching) (sym (viewed c low)) ∙ (facts c).switch_own e))

  pub settled_uncounted : (c : ℕ) → c < length w.carriers → IsSettled (carrier_at w c) →
      counted_in h.view.own h.view.carrier c ≡ false
  settled_uncounted c low s =
      ap (λ (t : Bool). if t then (h.view.own c).counted else (h.view.carrier c).counted) (no_switch c low s.calm)
      ∙ ap (λ (k : tokens.Carrier). k.counted) (viewed c low) ∙ s.uncounted

  pub settled_fresh : (c : ℕ) → c < length w.carriers → is_settled (carrier_at w c) ≡ true → IsFreshIn script w c
  settled_fresh c low e v s found is none =
      absurd (false≢true (sym (no_switch c low (settled (carrier_at w c) e).calm)
      ∙ ap has_switch (over c v s found is).stage))
