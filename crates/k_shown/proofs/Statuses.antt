-- Statuses that differ, and what equal ones have in common.
use Rattle.std.proofs.Common.{◌≡◌, true, refl, Option, Some, None}
use Rattle.std.proofs.lemmas.Bool.{eq-eqb}
use Rattle.std.proofs.lemmas.Option.{none-some}
use Rattle.k_ids.specs.declared.threads.ThreadId.{ThreadId}
use Rattle.k_ids.specs.declared.threads.Status.TheVariants as status
use Rattle.k_model.specs.State.{same_id}

pub run_sends : (id : ThreadId) → status.Run ≡ status.Sending id → ⊥
run_sends id e = cc

pub run_waits : (id : ThreadId) → status.Run ≡ status.Receiving (Some id) → ⊥
run_waits id e = cc

pub dead_sends : (id : ThreadId) → status.Dead ≡ status.Sending id → ⊥
dead_sends id e = cc

pub dead_waits : (id : ThreadId) → status.Dead ≡ status.Receiving (Some id) → ⊥
dead_waits id e = cc

pub picking_sends : (id : ThreadId) → status.Picking ≡ status.Sending id → ⊥
picking_sends id e = cc

pub sends_waits : (to id : ThreadId) → status.Sending to ≡ status.Receiving (Some id) → ⊥
sends_waits to id e = cc

pub sends_one : (a b : ThreadId) → status.Sending a ≡ status.Sending b → a ≡ b
sends_one a b e = cc

pub receives_runs : (from : Option ThreadId) → status.Receiving from ≡ status.Run → ⊥
receives_runs from e = cc

pub receives_sends : (from : Option ThreadId) (id : ThreadId) → status.Receiving from ≡ status.Sending id → ⊥
receives_sends from id e = cc

pub receives_one : (from : Option ThreadId) (id : ThreadId) → status.Receiving from ≡ status.Receiving (Some id) → from ≡ Some id
receives_one from id e = cc

pub any_waits : (id : ThreadId) → status.Receiving None ≡ status.Receiving (Some id) → ⊥
any_waits id e = none-some id (receives_one None id e)

pub any_sends : (id : ThreadId) → status.Receiving None ≡ status.Sending id → ⊥
any_sends id e = receives_sends None id e

-- an id is its own
pub same_self : (id : ThreadId) → same_id id id ≡ true
same_self id = rw (eq-eqb id.number id.number refl, eq-eqb id.version id.version refl) refl
