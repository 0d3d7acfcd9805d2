-- What a linearization point makes of the lists of those who wait to send: `f` has of each number the entries of those who wait
-- for its thread, in the order in which they came.
use Rattle.std.specs.Prelude.{ℕ, ◌==◌, not, if◌then◌else◌, Option, Some, None, List, [], ◌∷◌, ◌++◌}
use Rattle.std.specs.List.{filter}
use Rattle.k_ids.specs.declared.threads.ThreadId.{ThreadId}
use Rattle.k_ids.specs.declared.threads.Message.{Message}
use Rattle.k_ids.specs.declared.calls.Phase.TheVariants as phase
use Rattle.k_ids.specs.declared.calls.Act.{Act}
use Rattle.k_ids.specs.declared.calls.Act.TheVariants as act
use Rattle.k_ids.specs.declared.calls.Outcome.{Outcome}
use Rattle.k_ids.specs.declared.calls.Outcome.TheVariants as outcome
use Rattle.k_model.specs.Maps.{upd}
use Rattle.k_model.specs.State.{same_id}
use Rattle.k_senders.specs.declared.entries.SenderEntry.{SenderEntry}
use Rattle.k_senders.specs.Entries.{entry_for, sender_of}
use Rattle.k_senders.specs.Queue.{without}
use Rattle.k_locks.specs.declared.points.Point.{Point}

-- who begins to wait comes last
abbrev pub queued : (ℕ → List SenderEntry) → ThreadId → ThreadId → Message → ℕ → List SenderEntry
queued f me to message = upd f to.number (f to.number ++ entry_for me message ∷ [])

-- the same by the call: a send and a reply alone may wait to send
abbrev pub wait_noted : (ℕ → List SenderEntry) → ThreadId → Act → ℕ → List SenderEntry
wait_noted f me (act.Call (phase.Send to message zero joined)) = queued f me to message
wait_noted f me (act.Call (phase.Reply to message zero)) = queued f me to message
wait_noted f me a = f

-- a list without a thread that is destroyed
abbrev pub left : ThreadId → List SenderEntry → List SenderEntry
left who es = filter (λ e. not (same_id (sender_of e) who)) es

-- nobody waits for a thread that is destroyed, and it waits for none
abbrev pub kill_noted : (ℕ → List SenderEntry) → Act → ℕ → List SenderEntry
kill_noted f (act.Call (phase.Destroy who)) = λ t. if t == who.number then [] else left who (f t)
kill_noted f a = f

-- whose message is taken waits no more
abbrev pub outcome_noted : (ℕ → List SenderEntry) → ThreadId → Act → Outcome → ℕ → List SenderEntry
outcome_noted f me a outcome.Waits = wait_noted f me a
outcome_noted f me a (outcome.Took from message) = upd f me.number (without from.number (f me.number))
outcome_noted f me a outcome.Killed = kill_noted f a
outcome_noted f me a o = f

-- all lists after a point, or as they were
abbrev pub lists_after : Option Point → (ℕ → List SenderEntry) → ℕ → List SenderEntry
lists_after None f = f
lists_after (Some p) f = outcome_noted f p.who p.act p.outcome
