-- What is put of a run.
use Rattle.std.specs.Prelude.{ℕ, List, [], ◌∷◌, ◌++◌, codes, decimal, length}
use Rattle.std.specs.List.{count_by}
use Rattle.k_calls.specs.Calls.{is_helped}
use Rattle.k_dispatch.specs.declared.dispatch.RunEnd.{RunEnd}
use Rattle.k_report.specs.declared.reports.RunParts.{RunParts}
use Rattle.k_report.specs.Report.{Reported, total_text}
use Rattle.k_text.specs.Texts.{line_text}

-- the parts of the report
abbrev pub reported : RunEnd → Reported
reported end = record {
  history = end.history.items;
  replies = end.replies.items;
  steps = end.steps.items;
  calls = end.calls.items;
  waits = end.waits.items;
  links = end.links.items;
  finals = end.finals.items;
  made = end.made;
}

-- the same as what is put has them
abbrev pub parts_in : RunParts → Reported
parts_in parts = record {
  history = parts.history.now;
  replies = parts.replies.now;
  steps = parts.steps.now;
  calls = parts.calls.now;
  waits = parts.waits.now;
  links = parts.links.now;
  finals = parts.finals.now;
  made = parts.made;
}

-- the number of a large script
abbrev pub big_text : ℕ → List ℕ
big_text number = line_text (codes "big" ∷ decimal number ∷ [])

-- and behind it the totals of its run
abbrev pub summary_text : ℕ → Reported → List ℕ
summary_text number r = big_text number ++ total_text (length r.history) r.made (count_by is_helped r.steps)
