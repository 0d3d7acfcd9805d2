-- Bytes that are a text of a script within the limits have no fault.
use Rattle.std.proofs.Common.{◌≡◌, ◌≤◌, ℕ, List, length, None, nat_lt, false, subst, sym, arith, Result, Ok, Err}
use Rattle.std.specs.Prelude.{IfOk}
use Rattle.std.proofs.lemmas.Bool.Decides.{nat_tests}
use Rattle.k_input.specs.Taken.{most_bytes}
use Rattle.k_input.specs.Division.{script_part}
use Rattle.k_script.specs.Big.{big_of}
use Rattle.k_script.specs.Script.{Script}
use Rattle.k_script.specs.Weight.{weight_of}
use Rattle.k_reader.specs.Refused.{most_weight, script_fault}
use Rattle.k_reader.proofs.Converse.{text-read}
use Rattle.k_ids.specs.declared.histories.Entry.{Entry}
use Rattle.k_replay.specs.Reports.{IsRun}
use Rattle.k_dispatch.specs.declared.dispatch.RunEnd.{RunEnd}
use Rattle.k_dispatch.specs.Outcome.{IsOutcome}
use Rattle.k_history.specs.declared.verdict.Verdict.{Verdict}
use Rattle.fiasco_run.specs.Scripts.{IsScriptOf}
use Rattle.fiasco_run.specs.Due.{IsBigRun, IsRunOfBytes, IsVerdictOnBytes}

pub script_accepted : (bytes : List ℕ) (s : Script) → IsScriptOf bytes s → script_fault bytes ≡ None
script_accepted bytes s h =
    let short : weight_of s ≤ most_weight = h.short in
    let within : nat_lt most_weight (weight_of s) ≡ false = grind (arith, nat_tests) in
    rw (text-read bytes s h.text, within)

-- The history of an outcome is the one that is replayed.
replayed : (s : Script) (end : RunEnd) → IsOutcome s end → IsRun s end.history.items end.replies.items end.finals.items
replayed s end h = subst (λ (entries : List Entry). IsRun s entries end.replies.items end.finals.items) (sym h.history) h.replayed

pub run_had : (bytes : List ℕ) (s : Script) (end : RunEnd) → length bytes ≤ most_bytes → IsScriptOf bytes s → IsOutcome s end → IsRunOfBytes bytes s end
run_had bytes s end small h outcome = record { small = small; spelled = h; outcome = outcome; replayed = replayed s end outcome }

big_had : (number : ℕ) (end : RunEnd) → IsOutcome (big_of number) end → IsBigRun number end
big_had number end outcome = record { outcome = outcome; replayed = replayed (big_of number) end outcome }

pub big_run : {E : Type 0} (number : ℕ) (s : Script) (r : Result RunEnd E) → s ≡ big_of number → IfOk r (λ end. IsOutcome s end) → IfOk r (IsBigRun number)
big_run number s (Ok end) same h = big_had number end (subst (λ (t : Script). IsOutcome t end) same h)
big_run number s (Err e) same h = tt

pub run_of : (bytes : List ℕ) (s : Script) (end : RunEnd) → IsRunOfBytes bytes s end → script_fault bytes ≡ None
run_of bytes s end h = script_accepted bytes s h.spelled

pub judged_in : (bytes : List ℕ) (v : Verdict) → IsVerdictOnBytes bytes v → script_fault (script_part bytes) ≡ None
judged_in bytes v h = script_accepted (script_part bytes) h.script h.spelled
