-- The totals of a run, as a line.
use Rattle.std.specs.Prelude.{ℕ, List}
use Rattle.k_report.specs.declared.totals.Totals.{Totals}
use Rattle.k_report.specs.Report.{total_text}

abbrev pub totals_text : Totals → List ℕ
totals_text t = total_text t.events t.steps t.helped
