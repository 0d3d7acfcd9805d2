-- What a step of a switch makes of the world.
use Rattle.std.specs.Prelude.{◌≡◌, ◌≢◌, ◌<◌, ℕ, true, not, Option, Some, None, length}
use Rattle.k_ids.specs.declared.state_word.StateWord.{StateWord}
use Rattle.k_model.specs.Maps.{upd}
use Rattle.k_ready.specs.Lists.{Ready, list_of}
use Rattle.k_locks.specs.Shown.{is_dead}
use Rattle.k_locks.specs.declared.steps.Answer.{Answer}
use Rattle.k_script.specs.Script.{Script}
use Rattle.k_switch.specs.declared.goal.Goal.{Goal}
use Rattle.k_switch.specs.declared.switch.SwitchCall.{SwitchCall}
use Rattle.k_switch.specs.declared.switch.SwitchLocation.{SwitchLocation}
use Rattle.k_context.specs.Contexts.{ContextSeen, Carrier, asked, begun, resumed}
use Rattle.k_carrier.specs.Seen.{CarrierSeen}
use Rattle.k_tokens.specs.World.{ContextName, Threads, World}
use Rattle.k_moves.specs.Views.{ShowsContext, carrier_view}

-- the own context of carrier `d`, with this switch
abbrev pub in_switch : (d serial done : ℕ) → SwitchCall → SwitchLocation → ContextSeen
in_switch d serial done c l = Carrier (record {
  carrier = d;
  serial = serial;
  done = done;
  switch = Some (record { call = c; location = l });
})

-- a context after its step, with this answer
abbrev pub stepped : Script → ContextSeen → Answer → ContextSeen
stepped script v a = resumed (asked (begun script v)) a

-- a number's state word, as the world's threads have it
pub record ShowsWord (threads : Threads) (n : ℕ) (w : StateWord) : Type 0 where
  pub version : threads.version n ≡ w.version
  pub present : threads.present n ≡ not (is_dead w)
  pub on : threads.on n ≡ w.on
  pub priority : threads.present n ≡ true → threads.priority n ≡ w.priority

-- the ready lists, as the world has them
pub record HasLists (r : Ready) (w : World) : Type 0 where
  pub lists : w.lists ≡ list_of r.lists
  pub whole : length r.lists ≡ 64
  pub running : w.running ≡ r.running

-- of a priority that has a list
abbrev pub IsListable : Option Goal → Type 0
IsListable None = Unit {0}
IsListable (Some g) = g.priority < 64

-- The carrier, once `k`, is `k'`; the context of number `n` is `v` now; the ready lock is this owner's, and the ready lists
-- that were `r` are `r'`. All else is as it was.
pub record IsStepped (w w' : World) (k k' : CarrierSeen) (n : ℕ) (v : ContextSeen) (ready : Option ContextName) (r r' : Ready)
    : Type 0 where
  pub carrier : w'.carrier ≡ upd w.carrier k.number (carrier_view k')
  pub threads : w'.threads ≡ w.threads
  pub held : w'.held ≡ w.held
  pub held_own : w'.held_own ≡ w.held_own
  pub here : ShowsContext w' k.table n v
  pub others : (i : ℕ) (u : ContextSeen) → i ≢ n → ShowsContext w k.table i u → ShowsContext w' k.table i u
  pub owner : w'.ready_owner ≡ ready
  pub lists : HasLists r w → HasLists r' w'
  pub unmade : w'.unmade ≡ w.unmade
  pub carriers : w'.carriers ≡ w.carriers
