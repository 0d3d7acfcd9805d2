-- The status that bytes call for is one. That a text is one script's, and that a history has one verdict, are premises.
use Rattle.std.proofs.Common.{◌≡◌, ℕ, List, Option, Some, None, sym, ap, ◌∙◌, subst, arith, inl, inr}
use Rattle.k_input.specs.Division.{script_part, history_part}
use Rattle.k_script.specs.Script.{Script}
use Rattle.k_script.specs.Limits.{IsScript}
use Rattle.k_reader.specs.Grammar.{IsText}
use Rattle.k_reader.specs.declared.fault.ScriptFault.{ScriptFault}
use Rattle.k_history.specs.declared.verdict.Verdict.{Verdict}
use Rattle.k_history.specs.Verdicts.{IsVerdict}
use Rattle.fiasco_run.specs.declared.call.Call.{Call}
use Rattle.fiasco_run.specs.declared.call.Call.TheVariants as call
use Rattle.fiasco_run.specs.declared.exit.Exit.{Exit}
use Rattle.k_reader.specs.Refused.{script_fault}
use Rattle.fiasco_run.specs.Served.{IsRunExit, IsVerdictExit, IsPartExit, IsCheckExit, IsExit, verdict_status}

abbrev OneScript : Type 0
OneScript = (bytes : List ℕ) (s t : Script) → IsText bytes s → IsText bytes t → s ≡ t

abbrev OneVerdict : Type 0
OneVerdict = (script : Script) (bytes : List ℕ) (v w : Verdict) → IsScript script → IsVerdict script bytes v → IsVerdict script bytes w → v ≡ w

one_run : (bytes : List ℕ) (a b : Exit) → IsRunExit bytes a → IsRunExit bytes b → a ≡ b
one_run bytes a b (inl x) (inl y) = x.1 ∙ sym y.1
one_run bytes a b (inl x) (inr y) = absurd (omega (arith, x.0, y.0))
one_run bytes a b (inr x) (inl y) = absurd (omega (arith, x.0, y.0))
one_run bytes a b (inr x) (inr y) = x.1 ∙ sym y.1

one_verdict : OneScript → OneVerdict → (bytes : List ℕ) (a b : Exit) → IsVerdictExit bytes a → IsVerdictExit bytes b → a ≡ b
one_verdict scripts verdicts bytes a b x y =
    let script : x.script ≡ y.script = scripts (script_part bytes) x.script y.script x.spelled.text y.spelled.text in
    let judged : IsVerdict x.script (history_part bytes) y.verdict = subst (λ (s : Script). IsVerdict s (history_part bytes) y.verdict) (sym script) y.judged in
    let verdict : x.verdict ≡ y.verdict = verdicts x.script (history_part bytes) x.verdict y.verdict x.spelled.text.within x.judged judged in
    x.status ∙ ap verdict_status verdict ∙ sym y.status

one_part : OneScript → OneVerdict → (fault : Option ScriptFault) (bytes : List ℕ) (a b : Exit) → IsPartExit fault bytes a → IsPartExit fault bytes b → a ≡ b
one_part scripts verdicts None bytes a b x y = one_verdict scripts verdicts bytes a b x y
one_part scripts verdicts (Some f) bytes a b x y = x ∙ sym y

one_check : OneScript → OneVerdict → (bytes : List ℕ) (a b : Exit) → IsCheckExit bytes a → IsCheckExit bytes b → a ≡ b
one_check scripts verdicts bytes a b (inl x) (inl y) = x.1 ∙ sym y.1
one_check scripts verdicts bytes a b (inl x) (inr y) = absurd (y.0 x.0)
one_check scripts verdicts bytes a b (inr x) (inl y) = absurd (x.0 y.0)
one_check scripts verdicts bytes a b (inr x) (inr y) = one_part scripts verdicts (script_fault (script_part bytes)) bytes a b x.1 y.1

pub one_exit : OneScript → OneVerdict → (c : Call) (bytes : List ℕ) (a b : Exit) → IsExit c bytes a → IsExit c bytes b → a ≡ b
one_exit scripts verdicts call.Run bytes a b x y = one_run bytes a b x y
one_exit scripts verdicts call.Check bytes a b x y = one_check scripts verdicts bytes a b x y
one_exit scripts verdicts (call.Big number) bytes a b x y = x ∙ sym y
