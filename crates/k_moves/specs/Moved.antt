-- What a carrier's move that is no step of a section makes of the world: a look at a context, a take and a give of one.
use Rattle.std.specs.Prelude.{◌≡◌, ◌≢◌, ◌≤◌, ◌<◌, ℕ, ◌==◌, Bool, false, not, Option, Some, None, List, length}
use Rattle.k_ids.specs.declared.context_word.ContextWord.{ContextWord}
use Rattle.k_ids.specs.declared.context_word.ContextWord.TheVariants as word
use Rattle.k_model.specs.Maps.{upd}
use Rattle.k_switch.specs.declared.goal.Goal.{Goal}
use Rattle.k_context.specs.Contexts.{ContextSeen}
use Rattle.k_carrier.specs.declared.carrier.Target.{Target}
use Rattle.k_carrier.specs.declared.carrier.Target.TheVariants as target
use Rattle.k_carrier.specs.Seen.{CarrierSeen}
use Rattle.k_carrier.specs.Starts.{is_due}
use Rattle.k_tokens.specs.World.{ContextName, OfThread, OfCarrier, World}
use Rattle.k_grants.specs.Views.{name_of}
use Rattle.k_moves.specs.Views.{ShowsContext, carrier_view}

-- a thread of a table of this size
abbrev pub IsGoalGiven : ℕ → Option Goal → Type 0
IsGoalGiven size None = Unit {0}
IsGoalGiven size (Some g) = (g.id.number < size) × (1 ≤ g.id.version)

-- A carrier as it is given: its goal is a thread of the table, and 64 numbers may be started.
pub record IsGiven (k : CarrierSeen) : Type 0 where
  pub goal : IsGoalGiven k.table k.goal
  pub starts : length k.starts ≡ 64

-- Another carrier has the context of the goal's number in hand, and it is another thread's: the goal was destroyed, and its
-- number has a later thread.
abbrev pub is_replaced : Target → ContextWord → Bool
is_replaced (target.GoalOf g) (word.Taken carrier version) = not (version == g.id.version)
is_replaced (target.GoalOf g) word.Empty = false
is_replaced (target.GoalOf g) (word.Clean version) = false
is_replaced (target.GoalOf g) (word.Holds version) = false
is_replaced (target.Helped context) w = false
is_replaced target.Own w = false

-- the carrier has this context in hand, of this number
abbrev pub IsInHand : CarrierSeen → ℕ → ContextSeen → Type 0
IsInHand k n v = k.hand ≡ Some (record { context = n; value = v })

-- in whose hand the contexts of threads are, and those of carriers, once this is so of one
abbrev pub held_with : ContextName → Option ℕ → (ℕ → Option ℕ) → ℕ → Option ℕ
held_with (OfThread t) hand held = upd held t hand
held_with (OfCarrier d) hand held = held

abbrev pub own_with : ContextName → Option ℕ → (ℕ → Option ℕ) → ℕ → Option ℕ
own_with (OfThread t) hand held = held
own_with (OfCarrier d) hand held = upd held d hand

-- The carrier, once `k`, is `k'`; and the context of number `n` is `v` now, and in this hand. All else is as it was.
pub record IsMoved (w w' : World) (k k' : CarrierSeen) (n : ℕ) (v : ContextSeen) (hand : Option ℕ) : Type 0 where
  pub carrier : w'.carrier ≡ upd w.carrier k.number (carrier_view k')
  pub held : w'.held ≡ held_with (name_of k.table n) hand w.held
  pub held_own : w'.held_own ≡ own_with (name_of k.table n) hand w.held_own
  pub here : ShowsContext w' k.table n v
  pub others : (i : ℕ) (u : ContextSeen) → i ≢ n → ShowsContext w k.table i u → ShowsContext w' k.table i u
  pub lists : w'.lists ≡ w.lists
  pub running : w'.running ≡ w.running
  pub ready : w'.ready_owner ≡ w.ready_owner
  pub unmade : w'.unmade ≡ w.unmade
  pub carriers : w'.carriers ≡ w.carriers

-- The start of a number's first thread came to the carrier, which is `k` now: nothing else changed but which starts haven't
-- come.
pub record IsStarted (w w' : World) (k : CarrierSeen) (unstarted : List Bool) : Type 0 where
  pub world : w' ≡ record w { unmade = is_due unstarted; carrier = upd w.carrier k.number (carrier_view k) }
