-- The script that bytes spell, or why they spell none.
use Rattle.std.specs.Prelude.{◌≡◌, ◌≤◌, ℕ, List, Option, Some}
use Rattle.k_input.specs.declared.fault.InputFault.{InputFault}
use Rattle.k_input.specs.declared.fault.InputFault.TheVariants as input_fault
use Rattle.k_script.specs.Script.{Script}
use Rattle.k_script.specs.Weight.{weight_of}
use Rattle.k_reader.specs.declared.fault.ScriptFault.{ScriptFault}
use Rattle.k_reader.specs.declared.fault.ScriptFault.TheVariants as fault
use Rattle.k_reader.specs.Grammar.{IsText}
use Rattle.k_reader.specs.Refused.{most_weight}
use Rattle.fiasco_run.specs.declared.exit.Exit.{Exit}
use Rattle.fiasco_run.specs.declared.exit.Exit.TheVariants as exit

-- The bytes are a text of the script, which is within all limits.
pub record IsScriptOf (bytes : List ℕ) (script : Script) : Type 0 where
  pub text : IsText bytes script
  pub short : weight_of script ≤ most_weight

-- A status says why no script was had: for this reason, or for want of memory, which is free.
abbrev pub IsRefusedBy : Option ScriptFault → Exit → Type 0
IsRefusedBy reason exit.Done = ⊥
IsRefusedBy reason (exit.Refused fault.TooLarge) = ⊥
IsRefusedBy reason (exit.Refused (fault.Line line w)) = reason ≡ Some (fault.Line line w)
IsRefusedBy reason (exit.Refused (fault.TooLong steps)) = reason ≡ Some (fault.TooLong steps)
IsRefusedBy reason (exit.Refused fault.NoMemory) = ⊥
IsRefusedBy reason exit.Usage = ⊥
IsRefusedBy reason exit.ReadFault = ⊥
IsRefusedBy reason exit.WriteFault = ⊥
IsRefusedBy reason exit.NoMemory = Unit {0}
IsRefusedBy reason (exit.Illegal verdict) = ⊥

-- The status of a source that was not read to its end.
abbrev pub input_exit : InputFault → Exit
input_exit input_fault.Source = exit.ReadFault
input_exit input_fault.TooLarge = exit.Refused fault.TooLarge
input_exit input_fault.NoMemory = exit.NoMemory
