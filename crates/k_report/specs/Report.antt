-- The report of a run, in six parts.
use Rattle.std.specs.Prelude.{ℕ, Bool, true, false, List, [], ◌∷◌, ◌++◌, codes, decimal, length}
use Rattle.std.specs.List.{count_by, flat_map}
use Rattle.k_ids.specs.declared.threads.Found.{Found}
use Rattle.k_ids.specs.declared.histories.Entry.{Entry}
use Rattle.k_ids.specs.declared.histories.ReplyLine.{ReplyLine}
use Rattle.k_carrier.specs.declared.marks.Link.{Link}
use Rattle.k_carrier.specs.declared.marks.StepMark.{StepMark}
use Rattle.k_carrier.specs.declared.marks.WaitMark.{WaitMark}
use Rattle.k_text.specs.Texts.{entry_text, final_text, line_text, reply_line_text}
use Rattle.k_calls.specs.declared.lines.CallLine.{CallLine}
use Rattle.k_calls.specs.Calls.{is_helped}
use Rattle.k_calls.specs.Texts.{call_text}
use Rattle.k_report.specs.Waits.{waits_text}

-- what a run leaves
pub record Reported : Type 0 where
  pub history : List Entry
  pub replies : List ReplyLine
  pub steps : List StepMark
  pub calls : List CallLine
  pub waits : List WaitMark
  pub links : List Link
  pub finals : List Found
  pub made : ℕ  -- how many atomic steps

-- a title's line, and a line for each item
abbrev pub titled : {T : Type 0} → List ℕ → (T → List ℕ) → List T → List ℕ
titled title text items = title ++ flat_map text items

-- the calls, only where they are to be shown
abbrev pub calls_text : Bool → List CallLine → List ℕ
calls_text true calls = titled (codes "calls\n") call_text calls
calls_text false calls = []

-- the totals: of events, of atomic steps, and of steps that were made for another one than their owner
abbrev pub total_text : ℕ → ℕ → ℕ → List ℕ
total_text events steps helped = line_text (codes "total" ∷ codes "events" ∷ decimal events ∷ codes "steps" ∷ decimal steps ∷ codes "helped" ∷ decimal helped ∷ [])

abbrev pub report_text : Bool → Reported → List ℕ
report_text show r =
    titled (codes "history\n") entry_text r.history
    ++ (titled (codes "replies\n") reply_line_text r.replies
    ++ (calls_text show r.calls
    ++ ((codes "waits\n" ++ waits_text r.waits r.links)
    ++ (flat_map final_text r.finals
    ++ total_text (length r.history) r.made (count_by is_helped r.steps)))))
