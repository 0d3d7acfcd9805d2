-- Which threads a line names.
use Rattle.std.specs.Prelude.{ℕ, nat_lt, Bool, List, [], ◌∷◌, ◌++◌, Some, None}
use Rattle.std.specs.List.{list_all}
use Rattle.k_ids.specs.declared.threads.ThreadId.{ThreadId}
use Rattle.k_ids.specs.declared.threads.Status.{Status}
use Rattle.k_ids.specs.declared.threads.Status.TheVariants as status
use Rattle.k_ids.specs.declared.threads.Found.{Found}
use Rattle.k_ids.specs.declared.calls.Phase.{Phase}
use Rattle.k_ids.specs.declared.calls.Phase.TheVariants as phase
use Rattle.k_ids.specs.declared.calls.Act.{Act}
use Rattle.k_ids.specs.declared.calls.Act.TheVariants as act
use Rattle.k_ids.specs.declared.calls.Outcome.{Outcome}
use Rattle.k_ids.specs.declared.calls.Outcome.TheVariants as outcome
use Rattle.k_ids.specs.declared.histories.Entry.{Entry}

abbrev pub status_threads : Status → List ThreadId
status_threads (status.Sending to) = to ∷ []
status_threads (status.Receiving (Some from)) = from ∷ []
status_threads (status.Receiving None) = []
status_threads status.Dead = []
status_threads status.Run = []
status_threads status.Picking = []
status_threads status.Ended = []

abbrev pub found_threads : Found → List ThreadId
found_threads found = found.id ∷ status_threads found.status

abbrev pub phase_threads : Phase → List ThreadId
phase_threads (phase.Send to message zero joined) = to ∷ []
phase_threads (phase.Receive (Some from) zero) = from ∷ []
phase_threads (phase.Receive None zero) = []
phase_threads (phase.Create program priority) = []
phase_threads (phase.Destroy who) = who ∷ []
phase_threads (phase.Reply to message zero) = to ∷ []
phase_threads phase.End = []

abbrev pub act_threads : Act → List ThreadId
act_threads (act.Call phase) = phase_threads phase
act_threads act.Gone = []
act_threads act.Pick = []

abbrev pub outcome_threads : Outcome → List ThreadId
outcome_threads outcome.Passed = []
outcome_threads outcome.Waits = []
outcome_threads (outcome.Took from message) = from ∷ []
outcome_threads (outcome.Made id) = id ∷ []
outcome_threads outcome.Killed = []
outcome_threads (outcome.Absent found) = found_threads found
outcome_threads (outcome.Busy found) = found_threads found
outcome_threads outcome.Nobody = []
outcome_threads outcome.Own = []
outcome_threads (outcome.Full alive worn) = []
outcome_threads outcome.Ended = []
outcome_threads outcome.Freed = []

-- all threads that the line of an entry names
abbrev pub entry_threads : Entry → List ThreadId
entry_threads e = e.event.who ∷ (act_threads e.event.act ++ outcome_threads e.outcome)

-- whether all of them have numbers of a table of this size
abbrev pub all_inside : ℕ → List ThreadId → Bool
all_inside size ids = list_all (λ id. nat_lt id.number size) ids
