-- What the program promises where it is done.
use Rattle.std.specs.Prelude.{◌≡◌, ◌⊎◌, ℕ, List, Option, Some}
use Rattle.k_outside.specs.Outside.{Appends, Rose}
use Rattle.k_script.specs.Script.{Script}
use Rattle.k_dispatch.specs.declared.dispatch.RunEnd.{RunEnd}
use Rattle.k_report.specs.Report.{report_text}
use Rattle.k_history.specs.declared.verdict.Verdict.TheVariants as verdict
use Rattle.k_history.specs.Verdicts.{verdict_text}
use Rattle.fiasco_run.specs.declared.call.Call.{Call}
use Rattle.fiasco_run.specs.declared.call.Call.TheVariants as call
use Rattle.fiasco_run.specs.declared.exit.Exit.{Exit}
use Rattle.fiasco_run.specs.declared.exit.Exit.TheVariants as exit
use Rattle.fiasco_run.specs.Calls.{call_of}
use Rattle.fiasco_run.specs.Due.{IsBigRun, IsRunOfSource, IsVerdictOnSource}
use Rattle.fiasco_run.specs.Reported.{reported, summary_text}
use Rattle.fiasco_run.specs.Served.{IsExact, IsPutAlone, IsServed, SinkUse, SourceUse}

-- `run`: the source's bytes spell the script; this is the outcome of the run of its schedule, whose history is a legal, playing,
-- finished one of the script, with the replies of its replay and its final statuses; and exactly the outcome's report was put, with
-- the steps of each call where the script asks for them.
pub record ReportsRun (given held holds : Option (List ℕ)) : Type 0 where
  pub script : Script
  pub outcome : RunEnd
  pub run : IsRunOfSource given script outcome
  pub put : Appends held holds (report_text script.show_steps (reported outcome))

-- `check`: the source's bytes are a script and a history that is a legal, playing, finished one of it, and the number of its
-- events was put.
pub record ReportsLegal (given held holds : Option (List ℕ)) : Type 0 where
  pub events : ℕ
  pub legal : IsVerdictOnSource given (verdict.Legal events)
  pub put : Appends held holds (verdict_text (verdict.Legal events))

-- `big N`: this is the outcome of the run of the generator's script of the number N, and a line with the number was put, and the
-- totals of the outcome.
pub record ReportsBig (number : ℕ) (held holds : Option (List ℕ)) : Type 0 where
  pub outcome : RunEnd
  pub run : IsBigRun number outcome
  pub put : Appends held holds (summary_text number (reported outcome))

-- ALL THAT IS SAID of a call: what `run`, `check` and `big N` say where they are done, the whole call, the one status that it may
-- have, and that it is done only where neither the source nor the sink failed.
pub record IsAnswered (asked : Option Call) (result : Exit) (source : SourceUse) (sink : SinkUse) : Type 0 where
  pub run : asked ≡ Some call.Run → result ≡ exit.Done → ReportsRun source.given sink.held sink.holds
  pub check : asked ≡ Some call.Check → result ≡ exit.Done → ReportsLegal source.given sink.held sink.holds
  pub big : (number : ℕ) → asked ≡ Some (call.Big number) → result ≡ exit.Done → ReportsBig number sink.held sink.holds
  pub served : IsServed asked result source sink
  pub exact : IsExact asked result source.given (Rose source.before source.now) (Rose sink.before sink.now)
  pub done : result ≡ exit.Done → (source.now ≡ source.before) × (sink.now ≡ sink.before)

-- The words are answered as a call, or there was no memory for them.
abbrev pub IsAnsweredOrShort : (words : List (List ℕ)) (result : Exit) (source : SourceUse) (sink : SinkUse) → Type 0
IsAnsweredOrShort words result source sink =
    IsAnswered (call_of words) result source sink ⊎ IsPutAlone result exit.NoMemory source sink
