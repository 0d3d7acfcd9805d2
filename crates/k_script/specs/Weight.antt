-- How long a script is: its weight, and how many calls its threads make at most.
use Rattle.std.specs.Prelude.{ℕ, ◌≡◌, ◌+◌, ◌*◌, min, List, [], ◌∷◌, ◌++◌, slice_index}
use Rattle.std.specs.List.{sum_by}
use Rattle.k_script.specs.declared.operation.Operation.{Operation}
use Rattle.k_script.specs.declared.operation.Operation.TheVariants as operation
use Rattle.k_script.specs.declared.scale.Scale.{Scale}
use Rattle.k_script.specs.declared.scale.Levels.{Levels}
use Rattle.k_script.specs.Script.{Script, Program}

-- SCALES: what an operation, a load of work, a turn of a repeat and the end of a program count

abbrev pub weight_scale : ℕ → Scale
weight_scale table = record { call = 16; reply = 32; destroy = 16 * table + 32; load = 1; turn = 1; ending = 4 }

-- A reply is a send, and may be followed by a receive.
abbrev pub phase_scale : Scale
phase_scale = record { call = 1; reply = 2; destroy = 1; load = 0; turn = 0; ending = 1 }

-- ONE OPERATION, given the totals of the programs before: a create counts its program too.
abbrev pub cost : Scale → List ℕ → Operation → ℕ
cost s before (operation.Send to low high zero) = s.call
cost s before (operation.Receive from zero) = s.call
cost s before (operation.Call to low high zero) = s.call
cost s before (operation.Reply low high zero) = s.reply
cost s before (operation.Create program priority) = s.call + slice_index before program
cost s before (operation.Destroy victim) = s.destroy
cost s before (operation.Work count) = s.load * count
cost s before (operation.Repeat count) = s.call  -- (a program written out has none)
cost s before operation.Again = s.call

-- ONE PROGRAM, level by level as it is written out: a repeat counts each turn as the sum over its body and the turn itself.

abbrev pub first_total : List ℕ → ℕ
first_total [] = 0
first_total (t ∷ ts) = t

abbrev pub added : ℕ → List ℕ → List ℕ
added n [] = []
added n (t ∷ ts) = (n + t) ∷ ts

abbrev pub multiplied : ℕ → ℕ → List ℕ → List ℕ
multiplied turn count [] = []
multiplied turn count (body ∷ []) = (count * (body + turn)) ∷ []
multiplied turn count (body ∷ after ∷ more) = (count * (body + turn) + after) ∷ more

abbrev pub totals_before : Scale → List ℕ → Operation → List ℕ → List ℕ
totals_before s before (operation.Repeat count) ts = multiplied s.turn count ts
totals_before s before operation.Again ts = 0 ∷ ts
totals_before s before op ts = added (cost s before op) ts

abbrev pub totals : Scale → List ℕ → List Operation → List ℕ
totals s before [] = 0 ∷ []
totals s before (op ∷ ops) = totals_before s before op (totals s before ops)

-- with its end
abbrev pub program_total : Scale → List ℕ → List Operation → ℕ
program_total s before ops = first_total (totals s before ops) + s.ending

-- ALL PROGRAMS, each given the totals of those before it
abbrev pub program_totals : Scale → List ℕ → List Program → List ℕ
program_totals s before [] = before
program_totals s before (p ∷ ps) = program_totals s (before ++ program_total s before p.operations ∷ []) ps

-- THE SCRIPT: the sum over its threads
abbrev pub total : Scale → Script → ℕ
total s script = sum_by (λ t. slice_index (program_totals s [] script.programs) t.program) script.threads

abbrev pub weight_of : Script → ℕ
weight_of script = total (weight_scale script.table) script

abbrev pub phases_of : Script → ℕ
phases_of script = total phase_scale script

-- how many calls each program makes at most, with those of the threads that it creates
abbrev pub program_phases : Script → List ℕ
program_phases script = program_totals phase_scale [] script.programs

abbrev pub phases_of_program : Script → ℕ → ℕ
phases_of_program script program = slice_index (program_phases script) program

-- A count stands still at the end of its type.
abbrev pub capped : ℕ → ℕ
capped n = min n 18446744073709551615

-- These counts are those numbers, capped. A list that is over goes on with zeros.
abbrev pub AreCapped : List ℕ → List ℕ → Type 0
AreCapped counts exact = (k : ℕ) → slice_index counts k ≡ capped (slice_index exact k)

abbrev pub level_totals : Levels → List ℕ
level_totals l = l.first ∷ l.second ∷ l.third ∷ l.fourth ∷ l.fifth ∷ []
