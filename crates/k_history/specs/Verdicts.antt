-- WHAT A CHECK SAYS: the lines are a legal, playing, finished history of the script; or this is the first line at fault, and
-- why; or no line is at fault, and the history isn't finished.
use Rattle.std.specs.Prelude.{ℕ, ◌+◌, ◌≡◌, ◌≢◌, List, [], ◌∷◌, ◌++◌, length, codes, decimal, Some, is_some, true, Ok, Err}
use Rattle.k_ids.specs.declared.threads.ThreadId.{ThreadId}
use Rattle.k_ids.specs.declared.threads.Found.{Found}
use Rattle.k_ids.specs.declared.calls.Phase.{Phase}
use Rattle.k_ids.specs.declared.calls.Act.{Act}
use Rattle.k_ids.specs.declared.calls.Act.TheVariants as act
use Rattle.k_ids.specs.declared.calls.Outcome.{Outcome}
use Rattle.k_ids.specs.declared.histories.Entry.{Entry}
use Rattle.k_model.specs.State.{KernelState}
use Rattle.k_model.specs.Step.{step}
use Rattle.k_model.specs.History.{IsLowestActive, calls_of}
use Rattle.k_script.specs.Script.{Script}
use Rattle.k_text.specs.Texts.{Word, id_word, found_words, outcome_words, line_text}
use Rattle.k_script.specs.Plays.{IsHistory, Position, Runs, phase_next, program_of, reply_before, start_of}
use Rattle.k_room.specs.Histories.{Follows}
use Rattle.k_history.specs.declared.verdict.Verdict.{Verdict}
use Rattle.k_history.specs.declared.verdict.Verdict.TheVariants as verdict
use Rattle.k_lines.specs.Words.{lines_of}
use Rattle.k_history.specs.Lines.{Tells, TellAll}

-- The call that a thread's program gives next, behind this history.
pub record IsDue (script : Script) (front : List Entry) (k : KernelState) (who : ThreadId) (phase : Phase) : Type 0 where
  pub program : ℕ
  pub named : program_of script front who ≡ Some program
  pub position : Position
  pub next : ℕ  -- the call's serial
  pub runs : Runs script.version (reply_before k who) (start_of script program who) 1 (calls_of who front) position next
  pub going : is_some position.left ≡ true  -- the program isn't over
  pub is : phase ≡ phase_next script.version position (reply_before k who next)

-- Only a call has to be that of a program.
abbrev pub IsDueAct : Script → List Entry → KernelState → ThreadId → Act → Type 0
IsDueAct script front k who (act.Call phase) = IsDue script front k who phase
IsDueAct script front k who act.Gone = Unit {0}
IsDueAct script front k who act.Pick = Unit {0}

-- THE REASONS, of which each is given only where those before it don't hold

-- No entry, or one that names a number which the table doesn't have.
abbrev pub IsUnreadable : Script → List ℕ → Type 0
IsUnreadable script line = (e : Entry) → Tells script.table line e → ⊥

-- The event may not be made.
pub record IsIllegal (script : Script) (k : KernelState) (line : List ℕ) (found : Found) (serial : ℕ) : Type 0 where
  pub entry : Entry
  pub tells : Tells script.table line entry
  pub shown : step k entry.event ≡ Err (record { found = found; serial = serial })

-- It may be made, but is a call that its thread's program doesn't give.
pub record IsStrange (script : Script) (front : List Entry) (k : KernelState) (line : List ℕ) : Type 0 where
  pub entry : Entry
  pub tells : Tells script.table line entry
  pub after : KernelState × Outcome
  pub made : step k entry.event ≡ Ok after
  pub other : IsDueAct script front k entry.event.who entry.event.act → ⊥

-- It is made, but has this outcome, and not the one that the line says.
pub record IsDifferent (script : Script) (front : List Entry) (k : KernelState) (line : List ℕ) (outcome : Outcome) : Type 0 where
  pub entry : Entry
  pub tells : Tells script.table line entry
  pub after : KernelState
  pub made : step k entry.event ≡ Ok (after, outcome)
  pub due : IsDueAct script front k entry.event.who entry.event.act
  pub other : entry.outcome ≢ outcome

-- Lines count from 1 where they can't be read, and from 0 else.
abbrev pub IsFault : Script → List Entry → KernelState → List ℕ → Verdict → Type 0
IsFault script front k line (verdict.Unreadable number) = (number ≡ length front + 1) × IsUnreadable script line
IsFault script front k line (verdict.Illegal index found serial) = (index ≡ length front) × IsIllegal script k line found serial
IsFault script front k line (verdict.Strange index) = (index ≡ length front) × IsStrange script front k line
IsFault script front k line (verdict.Differs index outcome) = (index ≡ length front) × IsDifferent script front k line outcome
IsFault script front k line (verdict.Legal events) = ⊥
IsFault script front k line (verdict.Unfinished who) = ⊥

-- The first line at fault: those before it tell a legal, playing history, and it doesn't go on.
pub record IsFirstFault (script : Script) (bytes : List ℕ) (v : Verdict) : Type 0 where
  pub before : List (List ℕ)
  pub line : List ℕ
  pub behind : List (List ℕ)
  pub lines : lines_of bytes ≡ before ++ line ∷ behind
  pub front : List Entry
  pub tell : TellAll script.table before front
  pub state : KernelState
  pub follows : Follows script front state
  pub fault : IsFault script front state line v

-- All lines tell a legal, playing, finished history, of so many events.
pub record IsLegal (script : Script) (bytes : List ℕ) (events : ℕ) : Type 0 where
  pub entries : List Entry
  pub tell : TellAll script.table (lines_of bytes) entries
  pub count : events ≡ length entries
  pub end : KernelState
  pub history : IsHistory script entries end

-- All lines tell a legal, playing history, behind which more is to come, of this thread first.
pub record IsUnfinished (script : Script) (bytes : List ℕ) (who : ThreadId) : Type 0 where
  pub entries : List Entry
  pub tell : TellAll script.table (lines_of bytes) entries
  pub end : KernelState
  pub follows : Follows script entries end
  pub lowest : IsLowestActive end who

abbrev pub IsVerdict : Script → List ℕ → Verdict → Type 0
IsVerdict script bytes (verdict.Legal events) = IsLegal script bytes events
IsVerdict script bytes (verdict.Unfinished who) = IsUnfinished script bytes who
IsVerdict script bytes (verdict.Unreadable number) = IsFirstFault script bytes (verdict.Unreadable number)
IsVerdict script bytes (verdict.Illegal index found serial) = IsFirstFault script bytes (verdict.Illegal index found serial)
IsVerdict script bytes (verdict.Strange index) = IsFirstFault script bytes (verdict.Strange index)
IsVerdict script bytes (verdict.Differs index outcome) = IsFirstFault script bytes (verdict.Differs index outcome)

-- HOW A VERDICT IS PRINTED

abbrev pub verdict_words : Verdict → List Word
verdict_words (verdict.Legal events) = codes "legal" ∷ decimal events ∷ []
verdict_words (verdict.Unreadable line) = codes "unreadable" ∷ decimal line ∷ []
verdict_words (verdict.Illegal index found serial) = codes "illegal" ∷ decimal index ∷ codes "found" ∷ (found_words found ++ codes "serial" ∷ decimal serial ∷ [])
verdict_words (verdict.Strange index) = codes "strange" ∷ decimal index ∷ []
verdict_words (verdict.Differs index outcome) = codes "differs" ∷ decimal index ∷ outcome_words outcome
verdict_words (verdict.Unfinished who) = codes "unfinished" ∷ id_word who ∷ []

abbrev pub verdict_text : Verdict → List ℕ
verdict_text v = line_text (verdict_words v)
