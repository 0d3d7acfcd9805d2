-- The words of a run: how ids, statuses, calls, outcomes and replies are printed. A line is its words, with one space
-- between two words and a line feed at the end. Numbers are decimal, without leading zeros.
use Rattle.std.specs.Prelude.{ℕ, Bool, true, false, if◌then◌else◌, List, [], ◌∷◌, ◌++◌, codes, decimal, Some, None}
use Rattle.std.specs.List.{flat_map}
use Rattle.k_ids.specs.declared.threads.ThreadId.{ThreadId}
use Rattle.k_ids.specs.declared.threads.Message.{Message}
use Rattle.k_ids.specs.declared.threads.Status.{Status}
use Rattle.k_ids.specs.declared.threads.Status.TheVariants as status
use Rattle.k_ids.specs.declared.threads.Found.{Found}
use Rattle.k_ids.specs.declared.calls.Phase.{Phase}
use Rattle.k_ids.specs.declared.calls.Phase.TheVariants as phase
use Rattle.k_ids.specs.declared.calls.Reply.{Reply}
use Rattle.k_ids.specs.declared.calls.Reply.TheVariants as reply
use Rattle.k_ids.specs.declared.calls.Act.{Act}
use Rattle.k_ids.specs.declared.calls.Act.TheVariants as act
use Rattle.k_ids.specs.declared.calls.Outcome.{Outcome}
use Rattle.k_ids.specs.declared.calls.Outcome.TheVariants as outcome
use Rattle.k_ids.specs.declared.histories.Entry.{Entry}
use Rattle.k_ids.specs.declared.histories.ReplyLine.{ReplyLine}

abbrev pub Word : Type 0
Word = List ℕ

-- LINES

-- each word behind a space
abbrev pub spaced : List Word → List ℕ
spaced words = flat_map (λ (word : Word). codes " " ++ word) words

abbrev pub joined : List Word → List ℕ
joined [] = []
joined (first ∷ words) = first ++ spaced words

abbrev pub line_text : List Word → List ℕ
line_text words = joined words ++ codes "\n"

-- THREADS: a number and a version, as 3.1

abbrev pub id_word : ThreadId → Word
id_word id = decimal id.number ++ codes "." ++ decimal id.version

-- the low word first
abbrev pub message_words : Message → List Word
message_words m = decimal m.low ∷ decimal m.high ∷ []

abbrev pub status_words : Status → List Word
status_words status.Dead = codes "dead" ∷ []
status_words status.Run = codes "run" ∷ []
status_words (status.Sending to) = codes "sending" ∷ id_word to ∷ []
status_words (status.Receiving (Some from)) = codes "receiving" ∷ id_word from ∷ []
status_words (status.Receiving None) = codes "receiving" ∷ codes "any" ∷ []
status_words status.Picking = codes "picking" ∷ []
status_words status.Ended = codes "ended" ∷ []

abbrev pub found_words : Found → List Word
found_words found = id_word found.id ∷ status_words found.status

-- CALLS

-- the word behind a call whose timeout is zero
abbrev pub now_words : Bool → List Word
now_words true = codes "now" ∷ []
now_words false = []

abbrev pub send_word : Bool → Word
send_word joined = if joined then codes "call" else codes "send"

abbrev pub phase_words : Phase → List Word
phase_words (phase.Send to message zero joined) = send_word joined ∷ id_word to ∷ (message_words message ++ now_words zero)
phase_words (phase.Receive (Some from) zero) = codes "receive" ∷ id_word from ∷ now_words zero
phase_words (phase.Receive None zero) = codes "wait" ∷ now_words zero
phase_words (phase.Create program priority) = codes "create" ∷ decimal program ∷ decimal priority ∷ []
phase_words (phase.Destroy who) = codes "destroy" ∷ id_word who ∷ []
phase_words (phase.Reply to message zero) = codes "reply" ∷ id_word to ∷ (message_words message ++ now_words zero)
phase_words phase.End = codes "end" ∷ []

abbrev pub act_words : Act → List Word
act_words (act.Call phase) = phase_words phase
act_words act.Gone = codes "gone" ∷ []
act_words act.Pick = codes "pick" ∷ []

abbrev pub full_words : ℕ → ℕ → List Word
full_words alive worn = codes "full" ∷ codes "alive" ∷ decimal alive ∷ codes "worn" ∷ decimal worn ∷ []

-- An end and a gone have one outcome each, which isn't printed.
abbrev pub outcome_words : Outcome → List Word
outcome_words outcome.Passed = codes "passed" ∷ []
outcome_words outcome.Waits = codes "waits" ∷ []
outcome_words (outcome.Took from message) = codes "took" ∷ id_word from ∷ message_words message
outcome_words (outcome.Made id) = codes "made" ∷ id_word id ∷ []
outcome_words outcome.Killed = codes "killed" ∷ []
outcome_words (outcome.Absent found) = codes "absent" ∷ found_words found
outcome_words (outcome.Busy found) = codes "busy" ∷ found_words found
outcome_words outcome.Nobody = codes "nobody" ∷ []
outcome_words outcome.Own = codes "own" ∷ []
outcome_words (outcome.Full alive worn) = full_words alive worn
outcome_words outcome.Ended = []
outcome_words outcome.Freed = []

abbrev pub is_printed : Outcome → Bool
is_printed outcome.Ended = false
is_printed outcome.Freed = false
is_printed o = true

abbrev pub result_words : Outcome → List Word
result_words o = if is_printed o then codes "->" ∷ outcome_words o else []

-- A line of the history: who, its serial, what it does, and what comes of it.
abbrev pub entry_words : Entry → List Word
entry_words e = id_word e.event.who ∷ decimal e.event.serial ∷ (act_words e.event.act ++ result_words e.outcome)

abbrev pub entry_text : Entry → List ℕ
entry_text e = line_text (entry_words e)

-- REPLIES

abbrev pub reply_words : Reply → List Word
reply_words reply.Sent = codes "sent" ∷ []
reply_words (reply.Got from message) = codes "got" ∷ id_word from ∷ message_words message
reply_words (reply.Made id) = codes "made" ∷ id_word id ∷ []
reply_words reply.Killed = codes "killed" ∷ []
reply_words (reply.Absent found) = codes "absent" ∷ found_words found
reply_words (reply.Busy found) = codes "busy" ∷ found_words found
reply_words reply.Nobody = codes "nobody" ∷ []
reply_words reply.Own = codes "own" ∷ []
reply_words (reply.Full alive worn) = full_words alive worn
reply_words reply.Gone = codes "gone" ∷ []

abbrev pub reply_line_text : ReplyLine → List ℕ
reply_line_text r = line_text (codes "reply" ∷ id_word r.id ∷ decimal r.serial ∷ reply_words r.reply)

-- THE END: what a number shows then

abbrev pub final_text : Found → List ℕ
final_text found = line_text (codes "end" ∷ found_words found)
