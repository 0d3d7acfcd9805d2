-- The requester of a mark that stands, where it rests: it asks for what the mark is for. So it neither sleeps nor is its
-- switch over.
use Rattle.std.proofs.Common.{◌≡◌, ℕ, true, false, refl, sym, ap, ◌∙◌, subst, Option, Some, None, arith}
use Rattle.std.proofs.lemmas.Grind.{common_steps}
use Rattle.k_locks.specs.Asks.{Want, want_of}
use Rattle.k_caller.specs.declared.activity.Activity.{Activity}
use Rattle.k_caller.specs.declared.activity.Activity.TheVariants as activity
use Rattle.k_caller.specs.Activities as about
use Rattle.k_caller.specs.Threads.{ThreadSeen}
use Rattle.k_script.specs.Script.{Script}
use Rattle.k_switch.specs.declared.carrier_context.CarrierContext.{CarrierContext}
use Rattle.k_switch.specs.declared.switch.Switch.{Switch}
use Rattle.k_switch.specs.declared.switch.SwitchLocation.{SwitchLocation}
use Rattle.k_switch.specs.declared.switch.SwitchLocation.TheVariants as switch_location
use Rattle.k_switch.specs.Carriers.{switched_in}
use Rattle.k_switch.specs.Switches as switch
use Rattle.k_context.specs.declared.owner.Owner.{Owner}
use Rattle.k_context.specs.Contexts.{Carrier, ContextSeen, Thread, has_switch, owner_of, switched_of, woken}
use Rattle.k_world.specs.Worlds.{World}
use Rattle.k_board.specs.Boards.{Board}
use Rattle.k_places.specs.Contexts.{ShowsContext}
use Rattle.k_aligned.specs.Aligned.{found_in}
use Rattle.k_sections.specs.Situations.{kept_want, want_at}
use Rattle.k_turns.specs.Spelled.{ask_at, ask_in, ask_of_switch}
use Rattle.k_waits.specs.Waits.{IsWaitingFor}
use Rattle.k_waits.specs.Words.{number_of}
use Rattle.k_waits.proofs.Asking.{wants_shown}

module _ (script : Script) (w : World) (k : ℕ) (o : Owner) (m : IsWaitingFor script w k o) (v : ContextSeen)
    (f : found_in w (number_of script.table o) ≡ Some v) (of : owner_of v ≡ o) where
  abbrev R : ℕ
  R = number_of script.table o

  abbrev B : Board
  B = m.situation.board

  there : m.situation.removed R ≡ None
  there = by (m.situation.removed R) refl
    where
      by : (r : Option (Option Want)) → m.situation.removed R ≡ r → r ≡ None
      by None q = refl
      by (Some want) q = absurd ((m.gone want q).absent v f of)

  -- it asks for what the mark is for
  pub requester_asks : want_of (ask_at v) ≡ Some m.mark.want
  requester_asks =
      sym (wants_shown (B.seen R).word R v (B.context R)
      (subst (λ (c : Option ContextSeen). ShowsContext (B.seen R).word R c (B.context R)) f (m.shows.shows.contexts R)))
      ∙ ap (λ r. kept_want r (want_at (B.context R).own (B.context R).at)) (sym there) ∙ m.sound.1.asks

-- WHO ASKS FOR SOMETHING

asleep_not : (t : ThreadSeen) (a : Activity) (want : Want) → want_of (ask_in t.id t.own a) ≡ Some want → about.is_asleep a ≡ false
asleep_not t (activity.Alone p) want e = absurd (grind (arith, common_steps, e))
asleep_not t (activity.Send q) want e = refl
asleep_not t (activity.Receive q) want e = refl
asleep_not t (activity.Create q) want e = refl
asleep_not t (activity.Destroy q) want e = refl

pub woken_same : (v : ContextSeen) (want : Want) → want_of (ask_at v) ≡ Some want → woken v ≡ v
woken_same (Carrier z) want e = refl
woken_same (Thread t) want e = rw (asleep_not t t.activity want e) refl

switch_there : (o : Option Switch) (want : Want) → want_of (ask_of_switch o) ≡ Some want → (q : Switch) × (o ≡ Some q)
switch_there None want e = absurd cc
switch_there (Some q) want e = (q, refl)

pub has_switch_then : (z : CarrierContext) (want : Want) → want_of (ask_at (Carrier z)) ≡ Some want → has_switch
    (Carrier z) ≡ true
has_switch_then z want e = let q = switch_there z.switch want e in rw q.1 refl

located : (q : Switch) (l : SwitchLocation) (want : Want) → want_of (switch.ask_of q.call (switch.at_of l)) ≡ Some want →
    switch.switched_at l ≡ None
located q (switch_location.Finished d) want e = absurd cc
located q switch_location.AcquireReady want e = refl
located q (switch_location.Locked p lists) want e = refl
located q (switch_location.ListsReturned d) want e = refl

unfinished : (o : Option Switch) (want : Want) → want_of (ask_of_switch o) ≡ Some want → switched_in o ≡ None
unfinished None want e = refl
unfinished (Some q) want e = located q q.location want e

pub not_switched : (v : ContextSeen) (want : Want) → want_of (ask_at v) ≡ Some want → switched_of v ≡ None
not_switched (Thread t) want e = refl
not_switched (Carrier z) want e = unfinished z.switch want e
