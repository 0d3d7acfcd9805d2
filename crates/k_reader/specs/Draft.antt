-- What the lines so far have said.
use Rattle.std.specs.Prelude.{ℕ, ◌-◌, ◌==◌, nat_lt, Bool, true, false, not, ◌&&◌, List, [], ◌∷◌, length, take, position, replicate, slice_get, slice_index, Option, Some, None, unwrap_or, is_none}
use Rattle.std.specs.List.{list_all, list_any}
use Rattle.std.specs.Str.{bytes_eq}
use Rattle.k_script.specs.declared.lines.ThreadLine.{ThreadLine}
use Rattle.k_script.specs.declared.lines.AtLine.{AtLine}
use Rattle.k_script.specs.declared.lines.Item.{Item}
use Rattle.k_script.specs.Script.{Program, Script}
use Rattle.k_script.specs.Limits.{started}
use Rattle.k_lines.specs.declared.numeral.Numeral.{Numeral}
use Rattle.k_lines.specs.Numbers.{in_range}

pub record Draft : Type 0 where
  pub version : ℕ
  pub table : Option ℕ
  pub carriers : Option ℕ
  pub show_steps : Bool
  pub aged : List ℕ  -- for each number the version of its line, 0 without a line
  pub programs : List Program
  pub open_program : Option Program  -- the one that has no end yet
  pub threads : List ThreadLine
  pub at_lines : List AtLine
  pub turns : List Item

-- The first line is read.
abbrev pub opened : ℕ → Draft
opened version = record { version = version; table = None; carriers = None; show_steps = false; aged = replicate 64 0; programs = []; open_program = None; threads = []; at_lines = []; turns = [] }

abbrev pub table_of : Draft → ℕ
table_of d = unwrap_or d.table 0

abbrev pub carriers_of : Draft → ℕ
carriers_of d = unwrap_or d.carriers 1

-- the script of a draft to which nothing is missing
abbrev pub script_of : Draft → Script
script_of d = record { version = d.version; table = table_of d; carriers = carriers_of d; show_steps = d.show_steps; aged = take (table_of d) d.aged; programs = d.programs; threads = d.threads; at_lines = d.at_lines; turns = d.turns }

-- WHAT STANDS ALREADY: no line of these kinds and of those that come later

abbrev pub is_nil : {X : Type 0} → List X → Bool
is_nil [] = true
is_nil (x ∷ xs) = false

abbrev pub is_zero : ℕ → Bool
is_zero n = n == 0

abbrev pub free_of_events : Draft → Bool
free_of_events d = is_nil d.at_lines && is_nil d.turns

abbrev pub free_of_threads : Draft → Bool
free_of_threads d = is_nil d.threads && free_of_events d

abbrev pub free_of_programs : Draft → Bool
free_of_programs d = is_nil d.programs && is_none d.open_program && free_of_threads d

abbrev pub free_of_aged : Draft → Bool
free_of_aged d = list_all is_zero d.aged && free_of_programs d

abbrev pub free_of_show : Draft → Bool
free_of_show d = not d.show_steps && free_of_aged d

-- WHAT A LINE REPEATS OR NAMES

-- A number with a leading zero repeats nothing.
abbrev pub is_aged : List ℕ → Numeral → Bool
is_aged versions n = not n.led && nat_lt n.value 64 && not (slice_index versions n.value == 0)

abbrev pub is_number : Numeral → ℕ → Bool
is_number n k = not n.led && n.value == k

abbrev pub is_started : List AtLine → Numeral → Bool
is_started lines n = list_any (is_number n) (started lines)

abbrev pub program_at : List ℕ → List Program → Option ℕ
program_at name programs = position (λ p. bytes_eq p.name name) programs

-- The step of the last of these lines is later. What is no number or out of range is earlier than none.
abbrev pub falls_behind : Option AtLine → Option ℕ → Bool
falls_behind None step = false
falls_behind (Some a) None = false
falls_behind (Some a) (Some step) = nat_lt step a.step

abbrev pub falls : List AtLine → Numeral → Bool
falls lines step = falls_behind (slice_get lines (length lines - 1)) (in_range 0 4294967295 step)
