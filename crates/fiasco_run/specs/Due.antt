-- What a call comes to, and from what. `given` is the bytes that the source had left, where it tells them.
use Rattle.std.specs.Prelude.{◌≡◌, ◌≤◌, ◌<◌, ℕ, List, length, Option, Some, None, IfSome}
use Rattle.k_outside.specs.Outside.{Rose}
use Rattle.k_input.specs.Taken.{most_bytes}
use Rattle.k_input.specs.Division.{script_part, history_part, IsInputLarge}
use Rattle.k_script.specs.Big.{big_of}
use Rattle.k_script.specs.Script.{Script}
use Rattle.k_reader.specs.declared.fault.ScriptFault.{ScriptFault}
use Rattle.k_reader.specs.declared.fault.ScriptFault.TheVariants as fault
use Rattle.k_replay.specs.Reports.{IsRun}
use Rattle.k_dispatch.specs.declared.dispatch.RunEnd.{RunEnd}
use Rattle.k_dispatch.specs.Outcome.{IsOutcome}
use Rattle.k_report.specs.Report.{report_text}
use Rattle.k_history.specs.declared.verdict.Verdict.{Verdict}
use Rattle.k_history.specs.declared.verdict.Verdict.TheVariants as verdict
use Rattle.k_history.specs.Verdicts.{IsVerdict, verdict_text}
use Rattle.fiasco_run.specs.declared.call.Call.{Call}
use Rattle.fiasco_run.specs.declared.call.Call.TheVariants as call
use Rattle.fiasco_run.specs.declared.exit.Exit.{Exit}
use Rattle.fiasco_run.specs.declared.exit.Exit.TheVariants as exit
use Rattle.fiasco_run.specs.declared.due.Due.{Due}
use Rattle.fiasco_run.specs.declared.due.Due.TheVariants as due
use Rattle.fiasco_run.specs.Exits.{exit_text}
use Rattle.k_reader.specs.Refused.{script_fault}
use Rattle.fiasco_run.specs.Scripts.{IsScriptOf}
use Rattle.fiasco_run.specs.Reported.{reported, summary_text}

-- The bytes that the source had left, where it tells them, are these.
abbrev pub IsGiven : Option (List ℕ) → List ℕ → Type 0
IsGiven given bytes = IfSome given (λ left. left ≡ bytes)

-- RUN. Done: the bytes are a text of the script, which is within the limits, and this is what the run of its schedule leaves. So the
-- history is a legal, playing, finished one of the script, and the replies, by number, version and serial, and the final statuses
-- are those of its replay.
pub record IsRunOfBytes (bytes : List ℕ) (script : Script) (end : RunEnd) : Type 0 where
  pub small : length bytes ≤ most_bytes
  pub spelled : IsScriptOf bytes script
  pub outcome : IsOutcome script end
  pub replayed : IsRun script end.history.items end.replies.items end.finals.items

-- This is a run of the script that the bytes of the source spell: of some bytes, which are the source's if it tells them.
pub record IsRunOfSource (given : Option (List ℕ)) (script : Script) (end : RunEnd) : Type 0 where
  pub bytes : List ℕ
  pub is_given : IsGiven given bytes
  pub run : IsRunOfBytes bytes script end

-- The bytes are not too many, and this is why they are not run.
pub record IsRunFault (given : Option (List ℕ)) (f : ScriptFault) : Type 0 where
  pub bytes : List ℕ
  pub is_given : IsGiven given bytes
  pub small : length bytes ≤ most_bytes
  pub refused : script_fault bytes ≡ Some f

-- Why no run is made of the source's bytes: they are too many, or they have this fault.
abbrev pub IsRunRefusal : Option (List ℕ) → ScriptFault → Type 0
IsRunRefusal given fault.TooLarge = IfSome given (λ bytes. most_bytes < length bytes)
IsRunRefusal given (fault.Line line reason) = IsRunFault given (fault.Line line reason)
IsRunRefusal given (fault.TooLong steps) = IsRunFault given (fault.TooLong steps)
IsRunRefusal given fault.NoMemory = ⊥

-- The status has its cause, if `run` comes to a status: a refusal, or a fault of the source. Want of memory is free.
abbrev pub IsRunStatus : Option (List ℕ) → ℕ → ℕ → Exit → Type 0
IsRunStatus given before now exit.Done = ⊥
IsRunStatus given before now (exit.Refused f) = IsRunRefusal given f
IsRunStatus given before now exit.Usage = ⊥
IsRunStatus given before now exit.ReadFault = Rose before now
IsRunStatus given before now exit.WriteFault = ⊥
IsRunStatus given before now exit.NoMemory = Unit {0}
IsRunStatus given before now (exit.Illegal v) = ⊥

-- CHECK. The bytes before the line `--` are a text of a script within the limits, and this is the verdict on the lines behind
-- it.
pub record IsVerdictOnBytes (bytes : List ℕ) (v : Verdict) : Type 0 where
  pub small : ¬ IsInputLarge bytes
  pub script : Script
  pub spelled : IsScriptOf (script_part bytes) script
  pub judged : IsVerdict script (history_part bytes) v

-- This is the verdict on the source's bytes: on some bytes, which are the source's if it tells them.
pub record IsVerdictOnSource (given : Option (List ℕ)) (v : Verdict) : Type 0 where
  pub bytes : List ℕ
  pub is_given : IsGiven given bytes
  pub verdict : IsVerdictOnBytes bytes v

-- The input is not too large, and this is why what stands before the line `--` is no script within the limits.
pub record IsCheckFault (given : Option (List ℕ)) (f : ScriptFault) : Type 0 where
  pub bytes : List ℕ
  pub is_given : IsGiven given bytes
  pub small : ¬ IsInputLarge bytes
  pub refused : script_fault (script_part bytes) ≡ Some f

-- Why no history is judged of the source's bytes: they are too many, or their script has this fault.
abbrev pub IsCheckRefusal : Option (List ℕ) → ScriptFault → Type 0
IsCheckRefusal given fault.TooLarge = IfSome given IsInputLarge
IsCheckRefusal given (fault.Line line reason) = IsCheckFault given (fault.Line line reason)
IsCheckRefusal given (fault.TooLong steps) = IsCheckFault given (fault.TooLong steps)
IsCheckRefusal given fault.NoMemory = ⊥

-- The verdict is that the history is legal.
abbrev pub SaysLegal : Verdict → Type 0
SaysLegal (verdict.Legal events) = Unit {0}
SaysLegal (verdict.Unreadable line) = ⊥
SaysLegal (verdict.Illegal index found serial) = ⊥
SaysLegal (verdict.Strange index) = ⊥
SaysLegal (verdict.Differs index outcome) = ⊥
SaysLegal (verdict.Unfinished who) = ⊥

-- The status has its cause, if `check` comes to a status: a refusal, a fault of the source, a verdict other than legal. Want of
-- memory is free.
abbrev pub IsCheckStatus : Option (List ℕ) → ℕ → ℕ → Exit → Type 0
IsCheckStatus given before now exit.Done = ⊥
IsCheckStatus given before now (exit.Refused f) = IsCheckRefusal given f
IsCheckStatus given before now exit.Usage = ⊥
IsCheckStatus given before now exit.ReadFault = Rose before now
IsCheckStatus given before now exit.WriteFault = ⊥
IsCheckStatus given before now exit.NoMemory = Unit {0}
IsCheckStatus given before now (exit.Illegal v) = (¬ SaysLegal v) × IsVerdictOnSource given v

-- BIG. Done: this is what the run of the generator's script of this number leaves.
pub record IsBigRun (number : ℕ) (end : RunEnd) : Type 0 where
  pub outcome : IsOutcome (big_of number) end
  pub replayed : IsRun (big_of number) end.history.items end.replies.items end.finals.items

-- WHAT IS DUE. The call that the words ask for comes to this, by the bytes and the source's counts of faults before and now.
abbrev pub ComesTo : Option Call → Option (List ℕ) → ℕ → ℕ → Due → Type 0
ComesTo None given before now (due.Report ran) = ⊥
ComesTo None given before now (due.Legal events) = ⊥
ComesTo None given before now (due.Summary number end) = ⊥
ComesTo None given before now (due.Status e) = e ≡ exit.Usage
ComesTo (Some call.Run) given before now (due.Report ran) = IsRunOfSource given ran.script ran.end
ComesTo (Some call.Run) given before now (due.Legal events) = ⊥
ComesTo (Some call.Run) given before now (due.Summary number end) = ⊥
ComesTo (Some call.Run) given before now (due.Status e) = IsRunStatus given before now e
ComesTo (Some call.Check) given before now (due.Report ran) = ⊥
ComesTo (Some call.Check) given before now (due.Legal events) = IsVerdictOnSource given (verdict.Legal events)
ComesTo (Some call.Check) given before now (due.Summary number end) = ⊥
ComesTo (Some call.Check) given before now (due.Status e) = IsCheckStatus given before now e
ComesTo (Some (call.Big n)) given before now (due.Report ran) = ⊥
ComesTo (Some (call.Big n)) given before now (due.Legal events) = ⊥
ComesTo (Some (call.Big n)) given before now (due.Summary number end) = (number ≡ n) × IsBigRun n end
ComesTo (Some (call.Big n)) given before now (due.Status e) = e ≡ exit.NoMemory

-- The status of a call that comes to this, if all of its text is put.
abbrev pub exit_of : Due → Exit
exit_of (due.Report ran) = exit.Done
exit_of (due.Legal events) = exit.Done
exit_of (due.Summary number end) = exit.Done
exit_of (due.Status e) = e

-- The text of what a call comes to.
abbrev pub text_of : Due → List ℕ
text_of (due.Report ran) = report_text ran.script.show_steps (reported ran.end)
text_of (due.Legal events) = verdict_text (verdict.Legal events)
text_of (due.Summary number end) = summary_text number (reported end)
text_of (due.Status e) = exit_text e
