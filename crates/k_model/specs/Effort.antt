-- How much is still to come of a state, where each number has a limit of calls.
use Rattle.std.specs.Prelude.{ℕ, suc, ◌+◌, ◌-◌, ◌*◌, Option, Some, None}
use Rattle.k_ids.specs.declared.threads.Status.{Status}
use Rattle.k_ids.specs.declared.threads.Status.TheVariants as status
use Rattle.k_ids.specs.declared.calls.Phase.{Phase}
use Rattle.k_ids.specs.declared.calls.Phase.TheVariants as phase
use Rattle.k_ids.specs.declared.calls.Act.{Act}
use Rattle.k_ids.specs.declared.calls.Act.TheVariants as act
use Rattle.k_model.specs.Maps.{lowest}
use Rattle.k_model.specs.State.{KernelState, Place}
use Rattle.k_model.specs.Step.{is_free}

-- one for a thread from which an event may come that isn't a call
abbrev pub wait_of : Status → ℕ
wait_of status.Dead = 0
wait_of status.Run = 0
wait_of (status.Sending to) = 1
wait_of (status.Receiving None) = 0
wait_of (status.Receiving (Some from)) = 1
wait_of status.Picking = 1
wait_of status.Ended = 0

-- two for each call that a thread may still make: the call, and the event that may follow
abbrev pub effort_at : ℕ → Place → ℕ
effort_at limit p = 2 * (limit - p.serial) + wait_of p.status

abbrev pub effort_below : (ℕ → ℕ) → (ℕ → Place) → ℕ → ℕ
effort_below limit place (suc n) = effort_below limit place n + effort_at (limit n) (place n)
effort_below limit place n = 0

abbrev pub effort : (ℕ → ℕ) → KernelState → ℕ
effort limit k = effort_below limit k.place k.size

-- Where no number has a limit, it is the number of threads from which an event may come that isn't a call.
abbrev pub unlimited : ℕ → ℕ
unlimited number = 0

abbrev pub waits : KernelState → ℕ
waits k = effort unlimited k

-- what a create may add: the calls of the new thread
abbrev pub added_at : (ℕ → ℕ) → Option ℕ → ℕ
added_at limit None = 0
added_at limit (Some number) = 2 * limit number

abbrev pub added_call : (ℕ → ℕ) → KernelState → Phase → ℕ
added_call limit k (phase.Send to message zero joined) = 0
added_call limit k (phase.Reply to message zero) = 0
added_call limit k (phase.Receive from zero) = 0
added_call limit k (phase.Create program priority) = added_at limit (lowest (λ n. is_free (k.place n)) k.size)
added_call limit k (phase.Destroy who) = 0
added_call limit k phase.End = 0

abbrev pub added : (ℕ → ℕ) → KernelState → Act → ℕ
added limit k (act.Call phase) = added_call limit k phase
added limit k act.Gone = 0
added limit k act.Pick = 0
