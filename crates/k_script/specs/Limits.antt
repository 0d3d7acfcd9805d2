-- The limits of a script: what each of its lines may say.
use Rattle.std.specs.Prelude.{ℕ, ◌+◌, ◌-◌, ◌≡◌, ◌≤◌, ◌<◌, ◌==◌, nat_le, nat_lt, Bool, true, ◌&&◌, ◌||◌, List, [], ◌∷◌, length, map, slice_index, Option, Some, None, option_and_then, if◌then◌else◌}
use Rattle.std.specs.List.{list_all, flat_map, sum_by, AllByRecursion, IsDistinct}
use Rattle.std.specs.Str.{bytes_eq}
use Rattle.k_script.specs.declared.operation.Who.{Who}
use Rattle.k_script.specs.declared.operation.Who.TheVariants as who
use Rattle.k_script.specs.declared.operation.Value.{Value}
use Rattle.k_script.specs.declared.operation.Value.TheVariants as value
use Rattle.k_script.specs.declared.operation.Operation.{Operation}
use Rattle.k_script.specs.declared.operation.Operation.TheVariants as operation
use Rattle.k_script.specs.declared.lines.ThreadLine.{ThreadLine}
use Rattle.k_script.specs.declared.lines.AtWhat.{AtWhat}
use Rattle.k_script.specs.declared.lines.AtWhat.TheVariants as what
use Rattle.k_script.specs.declared.lines.AtLine.{AtLine}
use Rattle.k_script.specs.declared.lines.Item.{Item}
use Rattle.k_script.specs.declared.lines.Item.TheVariants as item
use Rattle.k_script.specs.Script.{Program, Script, program_in}

-- NAMES: 1 to 16 of a to z, 0 to 9 and the underscore

abbrev pub is_name_byte : ℕ → Bool
is_name_byte b = (nat_le 97 b && nat_le b 122) || (nat_le 48 b && nat_le b 57) || (b == 95)

abbrev pub is_name : List ℕ → Bool
is_name w = nat_le 1 (length w) && nat_le (length w) 16 && list_all is_name_byte w

-- OPERATIONS

-- It names a number of the table. (Registers name threads only where the program runs.)
abbrev pub IsWho : ℕ → Who → Type 0
IsWho table (who.Number number) = number < table
IsWho table who.Last = Unit {0}
IsWho table who.Made = Unit {0}

abbrev pub IsValue : Value → Type 0
IsValue (value.Number n) = n ≤ 4294967295
IsValue value.Got0 = Unit {0}
IsValue value.Got1 = Unit {0}

-- An operation of a program before which so many programs stand: a create names one of these.
abbrev pub IsOperation : ℕ → ℕ → Operation → Type 0
IsOperation table before (operation.Send to low high zero) = IsWho table to × IsValue low × IsValue high
IsOperation table before (operation.Receive (Some from) zero) = IsWho table from
IsOperation table before (operation.Receive None zero) = Unit {0}
IsOperation table before (operation.Call to low high zero) = IsWho table to × IsValue low × IsValue high
IsOperation table before (operation.Reply low high zero) = IsValue low × IsValue high
IsOperation table before (operation.Create program priority) = (program < before) × (priority ≤ 63)
IsOperation table before (operation.Destroy victim) = IsWho table victim
IsOperation table before (operation.Work count) = (1 ≤ count) × (count ≤ 4294967295)
IsOperation table before (operation.Repeat count) = (1 ≤ count) × (count ≤ 65535)
IsOperation table before operation.Again = Unit {0}

-- NESTING: repeats are at most four deep.

-- how many repeats are open behind an operation before which so many were
abbrev pub depth_after : ℕ → Operation → Option ℕ
depth_after depth (operation.Repeat count) = if nat_lt depth 4 then Some (depth + 1) else None
depth_after depth operation.Again = if nat_lt 0 depth then Some (depth - 1) else None
depth_after depth op = Some depth

-- how many repeats are open behind these operations; none says that an again closes none or that a repeat is a fifth
abbrev pub depth_behind : ℕ → List Operation → Option ℕ
depth_behind depth [] = Some depth
depth_behind depth (op ∷ ops) = option_and_then (λ d. depth_behind d ops) (depth_after depth op)

-- PROGRAMS

pub record IsProgram (table before : ℕ) (p : Program) : Type 0 where
  pub name : is_name p.name ≡ true
  pub short : length p.operations ≤ 4096
  pub nested : depth_behind 0 p.operations ≡ Some 0  -- each repeat has its again
  pub operations : AllByRecursion (IsOperation table before) p.operations

-- THREADS

pub record IsThread (programs : ℕ) (t : ThreadLine) : Type 0 where
  pub priority : t.priority ≤ 63
  pub program : t.program < programs

-- THE SCHEDULE

-- A thread that is started has a thread line.
abbrev pub IsEvent : ℕ → ℕ → AtWhat → Type 0
IsEvent carriers threads (what.Start number) = number < threads
IsEvent carriers threads (what.Slice carrier) = carrier < carriers

pub record IsAtLine (carriers threads : ℕ) (a : AtLine) : Type 0 where
  pub step : a.step ≤ 4294967295
  pub event : IsEvent carriers threads a.what

abbrev pub IsRising : List AtLine → Type 0
IsRising [] = Unit {0}
IsRising (a ∷ []) = Unit {0}
IsRising (a ∷ b ∷ ls) = (a.step ≤ b.step) × IsRising (b ∷ ls)

abbrev pub started_by : AtWhat → List ℕ
started_by (what.Start number) = number ∷ []
started_by (what.Slice carrier) = []

-- the threads that are started, in the order of the lines
abbrev pub started : List AtLine → List ℕ
started lines = flat_map (λ a. started_by a.what) lines

pub record IsAtLines (carriers threads : ℕ) (lines : List AtLine) : Type 0 where
  pub few : length lines ≤ 10000
  pub events : AllByRecursion (IsAtLine carriers threads) lines
  pub rising : IsRising lines  -- not falling
  pub once : IsDistinct (λ a b. a == b) (started lines)  -- each thread is started once at most

abbrev pub IsItem : ℕ → Item → Type 0
IsItem carriers (item.Steps carrier count) = (carrier < carriers) × (1 ≤ count) × (count ≤ 1000000)
IsItem carriers (item.Park carrier) = carrier < carriers

abbrev pub steps_of : Item → ℕ
steps_of (item.Steps carrier count) = count
steps_of (item.Park carrier) = 0

pub record IsTurns (carriers : ℕ) (turns : List Item) : Type 0 where
  pub few : length turns ≤ 10000
  pub items : AllByRecursion (IsItem carriers) turns
  pub bounded : sum_by steps_of turns ≤ 1000000
  pub several : 1 ≤ length turns → 2 ≤ carriers  -- one carrier has no turns to take

-- THE SCRIPT

pub record IsScript (s : Script) : Type 0 where
  pub version : (1 ≤ s.version) × (s.version ≤ 2)
  pub table : (1 ≤ s.table) × (s.table ≤ 64)
  pub carriers : (1 ≤ s.carriers) × (s.carriers ≤ 8)
  pub numbered : length s.aged ≡ s.table
  pub aged : AllByRecursion (λ v. v ≤ 1048575) s.aged
  pub fresh : (number : ℕ) → number < length s.threads → slice_index s.aged number ≡ 0  -- a thread's number had no thread before
  pub few : length s.programs ≤ 255
  pub names : IsDistinct bytes_eq (map (λ p. p.name) s.programs)  -- each name is given once
  pub programs : (k : ℕ) → k < length s.programs → IsProgram s.table k (program_in s.programs k)
  pub lines : (1 ≤ length s.threads) × (length s.threads ≤ s.table)
  pub threads : AllByRecursion (IsThread (length s.programs)) s.threads
  pub at_lines : IsAtLines s.carriers (length s.threads) s.at_lines
  pub turns : IsTurns s.carriers s.turns
