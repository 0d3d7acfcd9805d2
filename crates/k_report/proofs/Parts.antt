-- The parts of a report, and what is still to be put behind each.
use Rattle.std.proofs.Common.{ℕ, Bool, List, ◌++◌, Option, length}
use Rattle.std.specs.Prelude.{codes}
use Rattle.std.specs.List.{count_by, flat_map}
use Rattle.k_outside.specs.Outside.{Appends}
use Rattle.k_text.specs.Texts.{entry_text, final_text, reply_line_text}
use Rattle.k_calls.specs.Calls.{is_helped}
use Rattle.k_report.specs.Report.{Reported, calls_text, report_text, titled, total_text}
use Rattle.k_report.specs.Waits.{waits_text}
use Rattle.k_report.proofs.Putting.{StillToPut, still_begun, still_put}

abbrev pub from_totals : Reported → List ℕ
from_totals r = total_text (length r.history) r.made (count_by is_helped r.steps)

abbrev pub from_finals : Reported → List ℕ
from_finals r = flat_map final_text r.finals ++ from_totals r

abbrev pub waits_part : Reported → List ℕ
waits_part r = codes "waits\n" ++ waits_text r.waits r.links

abbrev pub from_waits : Reported → List ℕ
from_waits r = waits_part r ++ from_finals r

abbrev pub from_calls : Bool → Reported → List ℕ
from_calls show r = calls_text show r.calls ++ from_waits r

abbrev pub replies_part : Reported → List ℕ
replies_part r = titled (codes "replies\n") reply_line_text r.replies

abbrev pub from_replies : Bool → Reported → List ℕ
from_replies show r = replies_part r ++ from_calls show r

abbrev pub history_part : Reported → List ℕ
history_part r = titled (codes "history\n") entry_text r.history

-- so much of the report is still to be put
abbrev pub Still : Option (List ℕ) → Option (List ℕ) → Bool → Reported → List ℕ → Type 0
Still a b show r rest = StillToPut a b (report_text show r) rest

pub begun : (a : Option (List ℕ)) (show : Bool) (r : Reported) → Still a a show r (history_part r ++ from_replies show r)
begun a show r = still_begun a (report_text show r)

pub history_put : (a b : Option (List ℕ)) (show : Bool) (r : Reported) → Appends a b (history_part r) → Still a b show r (from_replies show r)
history_put a b show r p = still_put a a b (report_text show r) (history_part r) (from_replies show r) (begun a show r) p

pub replies_put : (a b c : Option (List ℕ)) (show : Bool) (r : Reported) → Still a b show r (from_replies show r) → Appends b c (replies_part r) → Still a c show r (from_calls show r)
replies_put a b c show r s p = still_put a b c (report_text show r) (replies_part r) (from_calls show r) s p

pub calls_put : (a b c : Option (List ℕ)) (show : Bool) (r : Reported) → Still a b show r (from_calls show r) → Appends b c (calls_text show r.calls) → Still a c show r (from_waits r)
calls_put a b c show r s p = still_put a b c (report_text show r) (calls_text show r.calls) (from_waits r) s p

pub waits_put : (a b c : Option (List ℕ)) (show : Bool) (r : Reported) → Still a b show r (from_waits r) → Appends b c (waits_part r) → Still a c show r (from_finals r)
waits_put a b c show r s p = still_put a b c (report_text show r) (waits_part r) (from_finals r) s p

pub finals_put : (a b c : Option (List ℕ)) (show : Bool) (r : Reported) → Still a b show r (from_finals r) → Appends b c (flat_map final_text r.finals) → Still a c show r (from_totals r)
finals_put a b c show r s p = still_put a b c (report_text show r) (flat_map final_text r.finals) (from_totals r) s p
