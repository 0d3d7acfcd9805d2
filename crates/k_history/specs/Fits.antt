-- The entries that have a line of their own: their numbers are in range, and what isn't printed is what it must be.
use Rattle.std.specs.Prelude.{ℕ, ◌≡◌, ◌≤◌, true, List, Some, None}
use Rattle.k_ids.specs.declared.threads.ThreadId.{ThreadId}
use Rattle.k_ids.specs.declared.threads.Message.{Message}
use Rattle.k_ids.specs.declared.threads.Status.{Status}
use Rattle.k_ids.specs.declared.threads.Status.TheVariants as status
use Rattle.k_ids.specs.declared.threads.Found.{Found}
use Rattle.k_ids.specs.declared.calls.Phase.{Phase}
use Rattle.k_ids.specs.declared.calls.Phase.TheVariants as phase
use Rattle.k_ids.specs.declared.calls.Act.{Act}
use Rattle.k_ids.specs.declared.calls.Act.TheVariants as act
use Rattle.k_ids.specs.declared.calls.Outcome.{Outcome}
use Rattle.k_ids.specs.declared.calls.Outcome.TheVariants as outcome
use Rattle.k_ids.specs.declared.histories.Entry.{Entry}
use Rattle.k_text.specs.Texts.{entry_words, is_printed, joined}

-- A thread's number is 0 to 63, and its version from this one (0 or 1) to 1,048,575.
pub record FitsId (least : ℕ) (id : ThreadId) : Type 0 where
  pub number : id.number ≤ 63
  pub first : least ≤ id.version
  pub last : id.version ≤ 1048575

pub record FitsMessage (m : Message) : Type 0 where
  pub low : m.low ≤ 4294967295
  pub high : m.high ≤ 4294967295

abbrev pub FitsStatus : Status → Type 0
FitsStatus status.Dead = Unit {0}
FitsStatus status.Run = Unit {0}
FitsStatus (status.Sending to) = FitsId 1 to
FitsStatus (status.Receiving (Some from)) = FitsId 1 from
FitsStatus (status.Receiving None) = Unit {0}
FitsStatus status.Picking = Unit {0}
FitsStatus status.Ended = Unit {0}

-- A number that never had a thread shows version 0.
pub record FitsFound (found : Found) : Type 0 where
  pub id : FitsId 0 found.id
  pub status : FitsStatus found.status

abbrev pub FitsPhase : Phase → Type 0
FitsPhase (phase.Send to message zero joined) = FitsId 1 to × FitsMessage message
FitsPhase (phase.Receive (Some from) zero) = FitsId 1 from
FitsPhase (phase.Receive None zero) = Unit {0}
FitsPhase (phase.Create program priority) = (program ≤ 254) × (priority ≤ 63)
FitsPhase (phase.Destroy who) = FitsId 1 who
FitsPhase (phase.Reply to message zero) = FitsId 1 to × FitsMessage message
FitsPhase phase.End = Unit {0}

abbrev pub FitsAct : Act → Type 0
FitsAct (act.Call phase) = FitsPhase phase
FitsAct act.Gone = Unit {0}
FitsAct act.Pick = Unit {0}

abbrev pub FitsOutcome : Outcome → Type 0
FitsOutcome outcome.Passed = Unit {0}
FitsOutcome outcome.Waits = Unit {0}
FitsOutcome (outcome.Took from message) = FitsId 1 from × FitsMessage message
FitsOutcome (outcome.Made id) = FitsId 1 id
FitsOutcome outcome.Killed = Unit {0}
FitsOutcome (outcome.Absent found) = FitsFound found
FitsOutcome (outcome.Busy found) = FitsFound found
FitsOutcome outcome.Nobody = Unit {0}
FitsOutcome outcome.Own = Unit {0}
FitsOutcome (outcome.Full alive worn) = (alive ≤ 64) × (worn ≤ 64)
FitsOutcome outcome.Ended = Unit {0}
FitsOutcome outcome.Freed = Unit {0}

-- An end has its own outcome, and a gone too: neither is printed. Any other event has an outcome that is printed.
abbrev pub FitsTogether : Act → Outcome → Type 0
FitsTogether (act.Call phase.End) o = o ≡ outcome.Ended
FitsTogether act.Gone o = o ≡ outcome.Freed
FitsTogether a o = is_printed o ≡ true

pub record FitsEntry (e : Entry) : Type 0 where
  pub who : FitsId 1 e.event.who
  pub serial : e.event.serial ≤ 4294967295
  pub act : FitsAct e.event.act
  pub outcome : FitsOutcome e.outcome
  pub together : FitsTogether e.event.act e.outcome

-- The line, without its line feed, spells the entry.
pub record Spells (line : List ℕ) (e : Entry) : Type 0 where
  pub text : line ≡ joined (entry_words e)
  pub fits : FitsEntry e
