-- What the top call says, read off from what is due.
use Rattle.std.proofs.Common.{◌≡◌, ℕ, List, [], Option, Some, None, refl, sym, ap, ◌∙◌, subst, inl, inr}
use Rattle.k_outside.specs.Outside.{Appends, Rose}
use Rattle.k_reader.specs.declared.fault.ScriptFault.{ScriptFault}
use Rattle.k_reader.specs.declared.fault.ScriptFault.TheVariants as fault
use Rattle.k_history.specs.declared.verdict.Verdict.{Verdict}
use Rattle.k_history.specs.declared.verdict.Verdict.TheVariants as verdict
use Rattle.fiasco_run.specs.declared.call.Call.{Call}
use Rattle.fiasco_run.specs.declared.call.Call.TheVariants as call
use Rattle.fiasco_run.specs.declared.exit.Exit.{Exit}
use Rattle.fiasco_run.specs.declared.exit.Exit.TheVariants as exit
use Rattle.fiasco_run.specs.declared.due.Due.{Due}
use Rattle.fiasco_run.specs.declared.due.Due.TheVariants as due
use Rattle.fiasco_run.specs.Due.{IsCheckFault, IsCheckStatus, ComesTo, IsVerdictOnSource, SaysLegal, IsRunFault, IsRunStatus, exit_of}
use Rattle.fiasco_run.specs.Served.{IsExact, IsExit, IsOrFault, IsPut, run_status, verdict_status}
use Rattle.fiasco_run.specs.Headline.{ReportsBig, ReportsLegal, ReportsRun}
use Rattle.fiasco_run.specs.Reported.{reported, summary_text}
use Rattle.fiasco_run.proofs.Accepted.{judged_in, run_of}

-- DONE

pub reports_run : (d : Due) (r : Exit) (given held holds : Option (List ℕ)) (a b before now : ℕ) → ComesTo (Some call.Run) given a b d → IsPut r d held holds before now → r ≡ exit.Done → ReportsRun given held holds
reports_run (due.Report ran) r given held holds a b before now h (inl p) e = record { script = ran.script; outcome = ran.end; run = h; put = p.1 }
reports_run (due.Report ran) r given held holds a b before now h (inr p) e = let no : exit.Done ≡ exit.WriteFault = sym e ∙ p.0 in absurd cc
reports_run (due.Legal n) r given held holds a b before now h p e = absurd h
reports_run (due.Summary n end) r given held holds a b before now h p e = absurd h
reports_run (due.Status s) r given held holds a b before now h (inl p) e = absurd (subst (IsRunStatus given a b) (sym p.0 ∙ e) h)
reports_run (due.Status s) r given held holds a b before now h (inr p) e = let no : exit.Done ≡ exit.WriteFault = sym e ∙ p.0 in absurd cc

pub reports_legal : (d : Due) (r : Exit) (given held holds : Option (List ℕ)) (a b before now : ℕ) → ComesTo (Some call.Check) given a b d → IsPut r d held holds before now → r ≡ exit.Done → ReportsLegal given held holds
reports_legal (due.Report ran) r given held holds a b before now h p e = absurd h
reports_legal (due.Summary n end) r given held holds a b before now h p e = absurd h
reports_legal (due.Legal n) r given held holds a b before now h (inl p) e = record { events = n; legal = h; put = p.1 }
reports_legal (due.Legal n) r given held holds a b before now h (inr p) e = let no : exit.Done ≡ exit.WriteFault = sym e ∙ p.0 in absurd cc
reports_legal (due.Status s) r given held holds a b before now h (inl p) e = absurd (subst (IsCheckStatus given a b) (sym p.0 ∙ e) h)
reports_legal (due.Status s) r given held holds a b before now h (inr p) e = let no : exit.Done ≡ exit.WriteFault = sym e ∙ p.0 in absurd cc

pub reports_big : (n : ℕ) (d : Due) (r : Exit) (given held holds : Option (List ℕ)) (a b before now : ℕ) → ComesTo (Some (call.Big n)) given a b d → IsPut r d held holds before now → r ≡ exit.Done → ReportsBig n held holds
reports_big n (due.Report ran) r given held holds a b before now h p e = absurd h
reports_big n (due.Legal m) r given held holds a b before now h p e = absurd h
reports_big n (due.Summary m end) r given held holds a b before now h (inl p) e = record { outcome = end; run = h.1; put = subst (λ (k : ℕ). Appends held holds (summary_text k (reported end))) h.0 p.1 }
reports_big n (due.Summary m end) r given held holds a b before now h (inr p) e = let no : exit.Done ≡ exit.WriteFault = sym e ∙ p.0 in absurd cc
reports_big n (due.Status s) r given held holds a b before now h (inl p) e = let no : exit.Done ≡ exit.NoMemory = sym e ∙ p.0 ∙ h in absurd cc
reports_big n (due.Status s) r given held holds a b before now h (inr p) e = let no : exit.Done ≡ exit.WriteFault = sym e ∙ p.0 in absurd cc

-- EXACTLY WHERE

run_refused : (bytes : List ℕ) (f : ScriptFault) → IsRunFault (Some bytes) f → IsExit call.Run bytes (exit.Refused f)
run_refused bytes f h = rw h.is_given (inr (h.small, ap run_status (sym h.refused)))

run_exit : (s : Exit) (bytes : List ℕ) (a b : ℕ) (write : Type 0) → IsRunStatus (Some bytes) a b s → IsOrFault s (IsExit call.Run bytes) (Rose a b) write
run_exit exit.Done bytes a b write h = absurd h
run_exit (exit.Refused fault.TooLarge) bytes a b write h = inl (h, refl)
run_exit (exit.Refused (fault.Line line w)) bytes a b write h = run_refused bytes (fault.Line line w) h
run_exit (exit.Refused (fault.TooLong n)) bytes a b write h = run_refused bytes (fault.TooLong n) h
run_exit (exit.Refused fault.NoMemory) bytes a b write h = absurd h
run_exit exit.Usage bytes a b write h = absurd h
run_exit exit.ReadFault bytes a b write h = h
run_exit exit.WriteFault bytes a b write h = absurd h
run_exit exit.NoMemory bytes a b write h = tt
run_exit (exit.Illegal v) bytes a b write h = absurd h

check_refused : (bytes : List ℕ) (f : ScriptFault) → IsCheckFault (Some bytes) f → IsExit call.Check bytes (exit.Refused f)
check_refused bytes f h = rw h.is_given (inr (h.small, rw h.refused refl))

judged : (bytes : List ℕ) (v : Verdict) (e : Exit) → IsVerdictOnSource (Some bytes) v → e ≡ verdict_status v → IsExit call.Check bytes e
judged bytes v e h s = rw h.is_given (inr (h.verdict.small, rw (judged_in h.bytes v h.verdict) (record { script = h.verdict.script; spelled = h.verdict.spelled; verdict = v; judged = h.verdict.judged; status = s })))

not_legal : (v : Verdict) → ¬ SaysLegal v → exit.Illegal v ≡ verdict_status v
not_legal (verdict.Legal n) h = absurd (h tt)
not_legal (verdict.Unreadable line) h = refl
not_legal (verdict.Illegal index found serial) h = refl
not_legal (verdict.Strange index) h = refl
not_legal (verdict.Differs index outcome) h = refl
not_legal (verdict.Unfinished who) h = refl

check_exit : (s : Exit) (bytes : List ℕ) (a b : ℕ) (write : Type 0) → IsCheckStatus (Some bytes) a b s → IsOrFault s (IsExit call.Check bytes) (Rose a b) write
check_exit exit.Done bytes a b write h = absurd h
check_exit (exit.Refused fault.TooLarge) bytes a b write h = inl (h, refl)
check_exit (exit.Refused (fault.Line line w)) bytes a b write h = check_refused bytes (fault.Line line w) h
check_exit (exit.Refused (fault.TooLong n)) bytes a b write h = check_refused bytes (fault.TooLong n) h
check_exit (exit.Refused fault.NoMemory) bytes a b write h = absurd h
check_exit exit.Usage bytes a b write h = absurd h
check_exit exit.ReadFault bytes a b write h = h
check_exit exit.WriteFault bytes a b write h = absurd h
check_exit exit.NoMemory bytes a b write h = tt
check_exit (exit.Illegal v) bytes a b write h = judged bytes v (exit.Illegal v) h.1 (not_legal v h.0)

run_due : (d : Due) (bytes : List ℕ) (a b : ℕ) (write : Type 0) → ComesTo (Some call.Run) (Some bytes) a b d → IsOrFault (exit_of d) (IsExit call.Run bytes) (Rose a b) write
run_due (due.Report ran) bytes a b write h = rw h.is_given (inr (h.run.small, rw (run_of h.bytes _ _ h.run) refl))
run_due (due.Legal n) bytes a b write h = absurd h
run_due (due.Summary n end) bytes a b write h = absurd h
run_due (due.Status s) bytes a b write h = run_exit s bytes a b write h

check_due : (d : Due) (bytes : List ℕ) (a b : ℕ) (write : Type 0) → ComesTo (Some call.Check) (Some bytes) a b d → IsOrFault (exit_of d) (IsExit call.Check bytes) (Rose a b) write
check_due (due.Report ran) bytes a b write h = absurd h
check_due (due.Legal n) bytes a b write h = judged bytes (verdict.Legal n) exit.Done h refl
check_due (due.Summary n end) bytes a b write h = absurd h
check_due (due.Status s) bytes a b write h = check_exit s bytes a b write h

big_due : (n : ℕ) (d : Due) (given : Option (List ℕ)) (a b : ℕ) (write : Type 0) → ComesTo (Some (call.Big n)) given a b d → IsOrFault (exit_of d) (IsExit (call.Big n) []) ⊥ write
big_due n (due.Report ran) given a b write h = absurd h
big_due n (due.Legal m) given a b write h = absurd h
big_due n (due.Summary m end) given a b write h = refl
big_due n (due.Status s) given a b write h = rw h tt

run_exact : (d : Due) (r : Exit) (given held holds : Option (List ℕ)) (a b before now : ℕ) → ComesTo (Some call.Run) given a b d → IsPut r d held holds before now → IsExact (Some call.Run) r given (Rose a b) (Rose before now)
run_exact d r None held holds a b before now h p = tt
run_exact d r (Some bytes) held holds a b before now h (inl p) = rw p.0 (run_due d bytes a b (Rose before now) h)
run_exact d r (Some bytes) held holds a b before now h (inr p) = rw p.0 p.2

check_exact : (d : Due) (r : Exit) (given held holds : Option (List ℕ)) (a b before now : ℕ) → ComesTo (Some call.Check) given a b d → IsPut r d held holds before now → IsExact (Some call.Check) r given (Rose a b) (Rose before now)
check_exact d r None held holds a b before now h p = tt
check_exact d r (Some bytes) held holds a b before now h (inl p) = rw p.0 (check_due d bytes a b (Rose before now) h)
check_exact d r (Some bytes) held holds a b before now h (inr p) = rw p.0 p.2

big_exact : (n : ℕ) (d : Due) (r : Exit) (given held holds : Option (List ℕ)) (a b before now : ℕ) → ComesTo (Some (call.Big n)) given a b d → IsPut r d held holds before now → IsExact (Some (call.Big n)) r given (Rose a b) (Rose before now)
big_exact n d r given held holds a b before now h (inl p) = rw p.0 (big_due n d given a b (Rose before now) h)
big_exact n d r given held holds a b before now h (inr p) = rw p.0 p.2

unserved : (d : Due) (r : Exit) (given held holds : Option (List ℕ)) (a b before now : ℕ) → ComesTo None given a b d → IsPut r d held holds before now → IsExact None r given (Rose a b) (Rose before now)
unserved (due.Report ran) r given held holds a b before now h p = absurd h
unserved (due.Summary n end) r given held holds a b before now h p = absurd h
unserved (due.Legal n) r given held holds a b before now h p = absurd h
unserved (due.Status s) r given held holds a b before now h (inl p) = inl (p.0 ∙ h)
unserved (due.Status s) r given held holds a b before now h (inr p) = inr (p.0, p.2)

pub exact : (asked : Option Call) (d : Due) (r : Exit) (given held holds : Option (List ℕ)) (a b before now : ℕ) → ComesTo asked given a b d → IsPut r d held holds before now → IsExact asked r given (Rose a b) (Rose before now)
exact None d r given held holds a b before now h p = unserved d r given held holds a b before now h p
exact (Some call.Run) d r given held holds a b before now h p = run_exact d r given held holds a b before now h p
exact (Some call.Check) d r given held holds a b before now h p = check_exact d r given held holds a b before now h p
exact (Some (call.Big n)) d r given held holds a b before now h p = big_exact n d r given held holds a b before now h p

pub run_done : (asked : Option Call) (d : Due) (r : Exit) (given held holds : Option (List ℕ)) (a b before now : ℕ) → ComesTo asked given a b d → IsPut r d held holds before now → asked ≡ Some call.Run → r ≡ exit.Done → ReportsRun given held holds
run_done asked d r given held holds a b before now h p s e = reports_run d r given held holds a b before now (subst (λ (o : Option Call). ComesTo o given a b d) s h) p e

pub check_done : (asked : Option Call) (d : Due) (r : Exit) (given held holds : Option (List ℕ)) (a b before now : ℕ) → ComesTo asked given a b d → IsPut r d held holds before now → asked ≡ Some call.Check → r ≡ exit.Done → ReportsLegal given held holds
check_done asked d r given held holds a b before now h p s e = reports_legal d r given held holds a b before now (subst (λ (o : Option Call). ComesTo o given a b d) s h) p e

pub big_done : (asked : Option Call) (d : Due) (r : Exit) (given held holds : Option (List ℕ)) (a b before now : ℕ) → ComesTo asked given a b d → IsPut r d held holds before now → (n : ℕ) → asked ≡ Some (call.Big n) → r ≡ exit.Done → ReportsBig n held holds
big_done asked d r given held holds a b before now h p n s e = reports_big n d r given held holds a b before now (subst (λ (o : Option Call). ComesTo o given a b d) s h) p e
