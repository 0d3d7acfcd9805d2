-- Why an input is refused.
use Rattle.std.specs.Prelude.{ℕ, ◌≡◌, ◌<◌, ◌≤◌, nat_lt, List, length, Option, Some, None, Result, Ok, Err, MatchResult, if◌then◌else◌}
use Rattle.k_script.specs.Script.{Script}
use Rattle.k_script.specs.Weight.{weight_of, capped}
use Rattle.k_reader.specs.declared.fault.ScriptFault.{ScriptFault}
use Rattle.k_reader.specs.declared.fault.ScriptFault.TheVariants as fault
use Rattle.k_reader.specs.Reading.{BadLine, read_of}

-- how many bytes an input has at most
abbrev pub most_bytes : ℕ
most_bytes = 1048576

-- the weight that a script may have at most
abbrev pub most_weight : ℕ
most_weight = 4000000

-- The weight stands still at the end of 64 bits.
abbrev pub too_long : Script → Option ScriptFault
too_long script = if nat_lt most_weight (weight_of script) then Some (fault.TooLong (capped (weight_of script))) else None

abbrev pub fault_of : Result Script BadLine → Option ScriptFault
fault_of (Err bad) = Some (fault.Line bad.line bad.why)
fault_of (Ok script) = too_long script

-- why these bytes, which are not too many, are no script within the limits: the first bad line, or the weight
abbrev pub script_fault : List ℕ → Option ScriptFault
script_fault bytes = fault_of (read_of bytes)

-- It is such a refusal for a bad line, or there was no memory.
abbrev pub IsBadLine : (BadLine → Type 0) → ScriptFault → Type 0
IsBadLine P fault.TooLarge = ⊥
IsBadLine P (fault.Line line reason) = P (record { line = line; why = reason })
IsBadLine P (fault.TooLong steps) = ⊥
IsBadLine P fault.NoMemory = Unit {0}

-- THE ANSWERS OF A READING: what the bytes say, if nothing is wrong with them; else what is. Want of memory is free.

abbrev pub IsRefused : List ℕ → ScriptFault → Type 0
IsRefused bytes fault.TooLarge = most_bytes < length bytes
IsRefused bytes (fault.Line line reason) = (length bytes ≤ most_bytes) × (script_fault bytes ≡ Some (fault.Line line reason))
IsRefused bytes (fault.TooLong steps) = (length bytes ≤ most_bytes) × (script_fault bytes ≡ Some (fault.TooLong steps))
IsRefused bytes fault.NoMemory = Unit {0}

abbrev pub IsRead : List ℕ → Result Script ScriptFault → Type 0
IsRead bytes answer = MatchResult answer (λ s. (length bytes ≤ most_bytes) × (read_of bytes ≡ Ok s) × (weight_of s ≤ most_weight)) (IsRefused bytes)
