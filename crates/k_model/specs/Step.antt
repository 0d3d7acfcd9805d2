-- What each event makes of a state: the meaning of every call, one definition a call. In each the first line that
-- applies gives the result.
use Rattle.std.specs.Prelude.{ℕ, ◌+◌, Bool, true, false, ◌&&◌, not, ◌==◌, if◌then◌else◌, [], ◌∷◌, ◌++◌, position, remove, slice_index_or, nat_lt, Option, Some, None, Result, Ok, Err}
use Rattle.std.specs.List.{filter}
use Rattle.k_ids.specs.declared.threads.ThreadId.{ThreadId}
use Rattle.k_ids.specs.declared.threads.Message.{Message}
use Rattle.k_ids.specs.declared.calls.Phase.{Phase}
use Rattle.k_ids.specs.declared.calls.Phase.TheVariants as phase
use Rattle.k_ids.specs.declared.threads.Status.{Status}
use Rattle.k_ids.specs.declared.threads.Status.TheVariants as status
use Rattle.k_ids.specs.declared.calls.Reply.TheVariants as reply
use Rattle.k_ids.specs.declared.calls.Act.{Act}
use Rattle.k_ids.specs.declared.calls.Act.TheVariants as act
use Rattle.k_ids.specs.declared.histories.Event.{Event}
use Rattle.k_ids.specs.declared.calls.Outcome.{Outcome}
use Rattle.k_ids.specs.declared.calls.Outcome.TheVariants as outcome
use Rattle.k_ids.specs.declared.histories.Unlawful.{Unlawful}
use Rattle.k_model.specs.Maps.{lowest, count}
use Rattle.k_model.specs.State.{KernelState, Place, Waiting, with_place, with_status, answered, id_of, found_of, same_id, is_dead, is_run, is_picking, is_present, admits, takes_from, waits_for_absent}

-- A call takes the next serial of its thread.
abbrev pub called : KernelState → ThreadId → ℕ → KernelState
called k me serial = with_place k me.number (record (k.place me.number) { serial = serial })

-- SEND

-- the status of a sender once its message has passed: a joined send goes on to wait for its partner's answer
abbrev pub status_after : Bool → ThreadId → Status
status_after true partner = status.Receiving (Some partner)
status_after false partner = status.Run

-- A sender's message has passed, and this is its status now. If it runs on, its call has the reply Sent; else none yet.
abbrev pub sent : KernelState → ThreadId → ℕ → Status → KernelState
sent k who serial after =
    if is_run after then answered (with_status k who.number after) who serial reply.Sent
    else with_status k who.number after

-- The message passes at once: the receiver runs, and its last call has the reply Got.
unfoldable pub passed : KernelState → ThreadId → ℕ → ThreadId → Message → Status → KernelState
passed k me serial to message after =
    sent (answered (with_status k to.number status.Run) to (k.place to.number).serial (reply.Got me message)) me serial after

-- The caller waits, last in its partner's list.
unfoldable pub queued : KernelState → ThreadId → ThreadId → Message → Bool → KernelState
queued k me to message joined =
    let sending = with_place k me.number (record (k.place me.number) { status = status.Sending to; joined = joined }) in
    with_place sending to.number (record (sending.place to.number) { waiting = (sending.place to.number).waiting ++ (me, message) ∷ [] })

unfoldable pub send : KernelState → ThreadId → ℕ → ThreadId → Message → Bool → Bool → Status → KernelState × Outcome
send k me serial to message zero joined after =
    if same_id me to then (answered k me serial reply.Own, outcome.Own)
    else (if not (is_present k to) then (answered k me serial (reply.Absent (found_of k to.number)), outcome.Absent (found_of k to.number))
    else (if takes_from (k.place to.number).status me zero then (passed k me serial to message after, outcome.Passed)
    else (if zero then (answered k me serial (reply.Busy (found_of k to.number)), outcome.Busy (found_of k to.number))
    else (queued k me to message joined, outcome.Waits))))

-- RECEIVE

abbrev pub is_own : Option ThreadId → ThreadId → Bool
is_own None me = false
is_own (Some from) me = same_id from me

-- where in its list the first sender stands that the receiver wants
abbrev pub match_at : KernelState → ThreadId → Option ThreadId → Option ℕ
match_at k me from = position (λ w. admits from w.0) (k.place me.number).waiting

abbrev pub no_one : Waiting
no_one = (record { number = 0; version = 0 }, record { low = 0; high = 0 })

abbrev pub entry_at : KernelState → ℕ → ℕ → Waiting
entry_at k number at = slice_index_or (k.place number).waiting at no_one

-- The entry at that place leaves the number's list.
abbrev pub without : KernelState → ℕ → ℕ → KernelState
without k number at = with_place k number (record (k.place number) { waiting = remove (k.place number).waiting at })

-- The caller gets a waiting message, and its sender goes on.
unfoldable pub taken : KernelState → ThreadId → ℕ → ℕ → KernelState
taken k me serial at =
    let w = entry_at k me.number at in
    let sender = k.place w.0.number in
    sent (answered (without k me.number at) me serial (reply.Got w.0 w.1)) w.0 sender.serial (status_after sender.joined me)

unfoldable pub received : KernelState → ThreadId → ℕ → Option ThreadId → Bool → Option ℕ → KernelState × Outcome
received k me serial from zero (Some at) = (taken k me serial at, outcome.Took (entry_at k me.number at).0 (entry_at k me.number at).1)
received k me serial from zero None =
    if zero then (answered k me serial reply.Nobody, outcome.Nobody)
    else (with_status k me.number (status.Receiving from), outcome.Waits)

unfoldable pub receive : KernelState → ThreadId → ℕ → Option ThreadId → Bool → KernelState × Outcome
receive k me serial from zero =
    if is_own from me then (answered k me serial reply.Own, outcome.Own)
    else received k me serial from zero (match_at k me from)

-- CREATE

-- the last version that a number can have
abbrev pub last_version : ℕ
last_version = 1048575

-- whether a new thread may get the number
abbrev pub is_free : Place → Bool
is_free p = is_dead p.status && nat_lt p.version last_version

-- how many numbers have a thread
abbrev pub alive : KernelState → ℕ
alive k = count (λ n. not (is_dead (k.place n).status)) k.size

-- how many numbers have none, and can have no more
abbrev pub worn : KernelState → ℕ
worn k = count (λ n. is_dead (k.place n).status && ((k.place n).version == last_version)) k.size

-- The number gets a new thread, of the next version, that runs and has made no call.
abbrev pub renewed : KernelState → ℕ → KernelState
renewed k number = with_place k number (record (k.place number) { version = (k.place number).version + 1; status = status.Run; joined = false; serial = 0 })

unfoldable pub created : KernelState → ThreadId → ℕ → Option ℕ → KernelState × Outcome
created k me serial (Some number) =
    let new = renewed k number in
    (answered new me serial (reply.Made (id_of new number)), outcome.Made (id_of new number))
created k me serial None = (answered k me serial (reply.Full (alive k) (worn k)), outcome.Full (alive k) (worn k))

-- The lowest free number of the table is taken.
unfoldable pub create : KernelState → ThreadId → ℕ → KernelState × Outcome
create k me serial = created k me serial (lowest (λ n. is_free (k.place n)) k.size)

-- DESTROY

-- The thread leaves a list, and every list.
abbrev pub left_by : ThreadId → Place → Place
left_by who p = record p { waiting = filter (λ w. not (same_id w.0 who)) p.waiting }

abbrev pub left_everywhere : KernelState → ThreadId → KernelState
left_everywhere k who = record k { place = λ n. left_by who (k.place n) }

-- The thread is dead, nobody waits in its list, and it waits in none.
unfoldable pub killed : KernelState → ThreadId → KernelState
killed k who =
    let left = left_everywhere k who in
    with_place left who.number (record (left.place who.number) { status = status.Dead; joined = false; waiting = [] })

unfoldable pub destroy : KernelState → ThreadId → ℕ → ThreadId → KernelState × Outcome
destroy k me serial victim =
    if same_id me victim then (answered k me serial reply.Own, outcome.Own)
    else (if not (is_present k victim) then (answered k me serial (reply.Absent (found_of k victim.number)), outcome.Absent (found_of k victim.number))
    else (answered (killed k victim) me serial reply.Killed, outcome.Killed))

-- ALL CALLS, from a state in which the caller has taken its serial

unfoldable pub made : KernelState → ThreadId → ℕ → Phase → KernelState × Outcome
made k me serial (phase.Send to message zero joined) = send k me serial to message zero joined (status_after joined to)
-- A reply is a send after which the caller picks. One that has to wait is a plain send.
made k me serial (phase.Reply to message zero) = send k me serial to message zero false status.Picking
made k me serial (phase.Receive from zero) = receive k me serial from zero
made k me serial (phase.Create program priority) = create k me serial
made k me serial (phase.Destroy who) = destroy k me serial who
made k me serial phase.End = (with_status k me.number status.Ended, outcome.Ended)

-- ALL EVENTS

-- The other events go on with the thread's last call. Gone: it waits for a thread that isn't present, and runs again.
-- Pick: it runs, and receives from any, without a new serial.
unfoldable pub acted : KernelState → ThreadId → ℕ → Act → KernelState × Outcome
acted k who serial (act.Call phase) = made (called k who serial) who serial phase
acted k who serial act.Gone = (answered (with_status k who.number status.Run) who serial reply.Gone, outcome.Freed)
acted k who serial act.Pick = receive (with_status k who.number status.Run) who serial None false

-- whether an event may be made in a state
abbrev pub may_act : KernelState → ThreadId → ℕ → Act → Bool
may_act k who serial (act.Call phase) =
    is_present k who && is_run (k.place who.number).status && (serial == (k.place who.number).serial + 1)
may_act k who serial act.Gone =
    is_present k who && waits_for_absent k (k.place who.number).status && (serial == (k.place who.number).serial)
may_act k who serial act.Pick =
    is_present k who && is_picking (k.place who.number).status && (serial == (k.place who.number).serial)

abbrev pub is_enabled : KernelState → Event → Bool
is_enabled k event = may_act k event.who event.serial event.act

abbrev pub outcome_of : KernelState → Event → KernelState × Outcome
outcome_of k event = acted k event.who event.serial event.act

-- The step: an event that may not be made changes nothing, and shows what stands at its caller's number.
unfoldable pub step : KernelState → Event → Result (KernelState × Outcome) Unlawful
step k event =
    if is_enabled k event then Ok (outcome_of k event)
    else Err (record { found = found_of k event.who.number; serial = (k.place event.who.number).serial })
