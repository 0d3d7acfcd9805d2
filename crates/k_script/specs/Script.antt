-- What a script says.
use Rattle.std.specs.Prelude.{ℕ, Bool, List, [], slice_index_or}
use Rattle.k_script.specs.declared.operation.Operation.{Operation}
use Rattle.k_script.specs.declared.lines.ThreadLine.{ThreadLine}
use Rattle.k_script.specs.declared.lines.AtLine.{AtLine}
use Rattle.k_script.specs.declared.lines.Item.{Item}

pub record Program : Type 0 where
  pub name : List ℕ
  pub operations : List Operation

pub record Script : Type 0 where
  pub version : ℕ
  pub table : ℕ  -- how many thread numbers there are
  pub carriers : ℕ
  pub show_steps : Bool
  pub aged : List ℕ  -- the version that each number of the table had last, 0 where it had none
  pub programs : List Program
  pub threads : List ThreadLine  -- thread t is the first thread of number t
  pub at_lines : List AtLine  -- the events of the schedule
  pub turns : List Item  -- the turns of the schedule

-- a number that is no program's has the empty program
abbrev pub nothing : Program
nothing = record { name = []; operations = [] }

abbrev pub program_in : List Program → ℕ → Program
program_in programs program = slice_index_or programs program nothing

abbrev pub operations_of : Script → ℕ → List Operation
operations_of script program = (program_in script.programs program).operations
