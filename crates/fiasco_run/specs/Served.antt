-- What the top call answers, and what it takes and puts.
use Rattle.std.specs.Prelude.{◌≡◌, ◌≤◌, ◌<◌, ◌⊎◌, ℕ, ◌+◌, List, [], length, Option, Some, None, IfSome}
use Rattle.k_outside.specs.Outside.{Appends, AppendsFront, Rose}
use Rattle.k_input.specs.Taken.{IsPartTaken, IsTooMuch, most_bytes}
use Rattle.k_input.specs.Division.{script_part, history_part, most_input, IsInputLarge, IsInputTooLarge}
use Rattle.k_script.specs.Script.{Script}
use Rattle.k_reader.specs.declared.fault.ScriptFault.{ScriptFault}
use Rattle.k_reader.specs.declared.fault.ScriptFault.TheVariants as fault
use Rattle.k_history.specs.declared.verdict.Verdict.{Verdict}
use Rattle.k_history.specs.declared.verdict.Verdict.TheVariants as verdict
use Rattle.k_history.specs.Verdicts.{IsVerdict}
use Rattle.fiasco_run.specs.declared.call.Call.{Call}
use Rattle.fiasco_run.specs.declared.call.Call.TheVariants as call
use Rattle.fiasco_run.specs.declared.exit.Exit.{Exit}
use Rattle.fiasco_run.specs.declared.exit.Exit.TheVariants as exit
use Rattle.fiasco_run.specs.declared.due.Due.{Due}
use Rattle.k_reader.specs.Refused.{script_fault}
use Rattle.fiasco_run.specs.Scripts.{IsScriptOf}
use Rattle.fiasco_run.specs.Due.{ComesTo, exit_of, text_of}
use Rattle.fiasco_run.specs.Exits.{exit_text}

-- What a source was before a call and is after it: the bytes that are left, if it tells them, and its count of faults.
pub record SourceUse : Type 0 where
  pub given : Option (List ℕ)  -- left before
  pub left : Option (List ℕ)  -- left after
  pub before : ℕ  -- faults before
  pub now : ℕ  -- faults after

-- What a sink was before a call and is after it: the bytes that it holds, if it tells them, and its count of faults.
pub record SinkUse : Type 0 where
  pub held : Option (List ℕ)  -- held before
  pub holds : Option (List ℕ)  -- held after
  pub before : ℕ  -- faults before
  pub now : ℕ  -- faults after

-- HOW MUCH OF THE SOURCE is taken: nothing where the words ask for no call, or for one that reads nothing; all of it where the
-- bytes were read; where they are too many, up to the first byte that makes it certain, or to the end where none does; and
-- otherwise a front.

-- All of the source was taken.
abbrev pub TakesAll : Option (List ℕ) → Option (List ℕ) → Type 0
TakesAll given left = IfSome given (λ _. left ≡ Some [])

-- What a call takes that reads bytes: at most so many, and this much if they are too many.
pub record Reads : Type 1 where
  pub most : ℕ
  pub IsLarge : Option (List ℕ) → Option (List ℕ) → Type 0

-- `run` and `check`: up to the byte that makes it certain that there are too many.
abbrev pub run_reads : Reads
run_reads = record { most = most_bytes + 1; IsLarge = IsTooMuch }

abbrev pub check_reads : Reads
check_reads = record { most = most_input + 1; IsLarge = IsInputTooLarge }

-- What is taken if the input is refused for this fault.
abbrev pub TakesRefused : Reads → ScriptFault → Option (List ℕ) → Option (List ℕ) → Type 0
TakesRefused r fault.TooLarge given left = r.IsLarge given left
TakesRefused r (fault.Line line reason) given left = TakesAll given left
TakesRefused r (fault.TooLong steps) given left = TakesAll given left
TakesRefused r fault.NoMemory given left = IsPartTaken r.most given left

-- What is taken if the call comes to this status.
abbrev pub TakesStatus : Reads → Exit → Option (List ℕ) → Option (List ℕ) → Type 0
TakesStatus r exit.Done given left = TakesAll given left
TakesStatus r (exit.Refused f) given left = TakesRefused r f given left
TakesStatus r exit.Usage given left = left ≡ given
TakesStatus r exit.ReadFault given left = IsPartTaken r.most given left
TakesStatus r exit.WriteFault given left = IsPartTaken r.most given left
TakesStatus r exit.NoMemory given left = IsPartTaken r.most given left
TakesStatus r (exit.Illegal v) given left = TakesAll given left

-- What is taken if this is what is due.
abbrev pub TakesFor : Option Call → Due → Option (List ℕ) → Option (List ℕ) → Type 0
TakesFor None d given left = left ≡ given
TakesFor (Some call.Run) d given left = TakesStatus run_reads (exit_of d) given left
TakesFor (Some call.Check) d given left = TakesStatus check_reads (exit_of d) given left
TakesFor (Some (call.Big number)) d given left = left ≡ given

-- WHAT IS PUT: the text that is due, the status is that of what is due, and the sink never failed; or a front of that text, and
-- the sink failed.
abbrev pub IsPutText : Exit → Exit → List ℕ → Option (List ℕ) → Option (List ℕ) → ℕ → ℕ → Type 0
IsPutText result status text held holds before now =
    ((result ≡ status) × Appends held holds text × (now ≡ before))
    ⊎ ((result ≡ exit.WriteFault) × AppendsFront held holds text × Rose before now)

-- The text of what the call comes to was put, or a front of it and the sink failed.
abbrev pub IsPut : Exit → Due → Option (List ℕ) → Option (List ℕ) → ℕ → ℕ → Type 0
IsPut result d held holds before now = IsPutText result (exit_of d) (text_of d) held holds before now

-- The source never failed, unless a fault of it is what is due.
abbrev pub IsCalm : Due → ℕ → ℕ → Type 0
IsCalm d before now = (exit_of d ≡ exit.ReadFault) ⊎ (now ≡ before)

-- THE WHOLE CALL: what is due has its cause, so much of the source was taken, this was put, and no fault is passed over.
pub record IsServed (asked : Option Call) (result : Exit) (source : SourceUse) (sink : SinkUse) : Type 0 where
  pub what : Due
  pub cause : ComesTo asked source.given source.before source.now what
  pub takes : TakesFor asked what source.given source.left
  pub put : IsPut result what sink.held sink.holds sink.before sink.now
  pub calm : IsCalm what source.before source.now

-- No call is served: the text of a status was put, or after a fault a front of it, and the source wasn't asked.
pub record IsPutAlone (result status : Exit) (source : SourceUse) (sink : SinkUse) : Type 0 where
  pub put : IsPutText result status (exit_text status) sink.held sink.holds sink.before sink.now
  pub untouched : source.left ≡ source.given
  pub calm : source.now ≡ source.before

-- THE STATUS THAT BYTES CALL FOR

-- The status of a run of bytes that have this fault, or none.
abbrev pub run_status : Option ScriptFault → Exit
run_status None = exit.Done
run_status (Some f) = exit.Refused f

-- The status that `run` has for these bytes.
abbrev pub IsRunExit : List ℕ → Exit → Type 0
IsRunExit bytes e = ((most_bytes < length bytes) × (e ≡ exit.Refused fault.TooLarge)) ⊎ ((length bytes ≤ most_bytes) × (e ≡ run_status (script_fault bytes)))

-- The status of this verdict.
abbrev pub verdict_status : Verdict → Exit
verdict_status (verdict.Legal events) = exit.Done
verdict_status (verdict.Unreadable line) = exit.Illegal (verdict.Unreadable line)
verdict_status (verdict.Illegal index found serial) = exit.Illegal (verdict.Illegal index found serial)
verdict_status (verdict.Strange index) = exit.Illegal (verdict.Strange index)
verdict_status (verdict.Differs index outcome) = exit.Illegal (verdict.Differs index outcome)
verdict_status (verdict.Unfinished who) = exit.Illegal (verdict.Unfinished who)

-- The status is that of the verdict on the history behind the line `--`.
pub record IsVerdictExit (bytes : List ℕ) (e : Exit) : Type 0 where
  pub script : Script
  pub spelled : IsScriptOf (script_part bytes) script
  pub verdict : Verdict
  pub judged : IsVerdict script (history_part bytes) verdict
  pub status : e ≡ verdict_status verdict

-- The status that `check` has for these bytes, if their script has this fault, or none.
abbrev pub IsPartExit : Option ScriptFault → List ℕ → Exit → Type 0
IsPartExit None bytes e = IsVerdictExit bytes e
IsPartExit (Some f) bytes e = e ≡ exit.Refused f

-- The status that `check` has for these bytes.
abbrev pub IsCheckExit : List ℕ → Exit → Type 0
IsCheckExit bytes e = (IsInputLarge bytes × (e ≡ exit.Refused fault.TooLarge)) ⊎ ((¬ IsInputLarge bytes) × IsPartExit (script_fault (script_part bytes)) bytes e)

-- The one status that these bytes call for. The script of `big` is always one that is run.
abbrev pub IsExit : Call → List ℕ → Exit → Type 0
IsExit call.Run bytes e = IsRunExit bytes e
IsExit call.Check bytes e = IsCheckExit bytes e
IsExit (call.Big number) bytes e = e ≡ exit.Done

-- EXACTLY WHERE: the status is the one that the bytes call for, unless there was no memory, or the source or the sink failed.
abbrev pub IsOrFault : Exit → (Exit → Type 0) → Type 0 → Type 0 → Type 0
IsOrFault exit.Done P read write = P exit.Done
IsOrFault (exit.Refused f) P read write = P (exit.Refused f)
IsOrFault exit.Usage P read write = ⊥
IsOrFault exit.ReadFault P read write = read
IsOrFault exit.WriteFault P read write = write
IsOrFault exit.NoMemory P read write = Unit {0}
IsOrFault (exit.Illegal v) P read write = P (exit.Illegal v)

-- The call asked for has the status that the bytes call for, or there was no memory or the outside failed.
abbrev pub IsExact : Option Call → Exit → Option (List ℕ) → Type 0 → Type 0 → Type 0
IsExact None e given read write = (e ≡ exit.Usage) ⊎ ((e ≡ exit.WriteFault) × write)
IsExact (Some call.Run) e given read write = IfSome given (λ bytes. IsOrFault e (IsExit call.Run bytes) read write)
IsExact (Some call.Check) e given read write = IfSome given (λ bytes. IsOrFault e (IsExit call.Check bytes) read write)
IsExact (Some (call.Big number)) e given read write = IsOrFault e (IsExit (call.Big number) []) ⊥ write
