-- How much of a source each status takes.
use Rattle.std.proofs.Common.{◌≡◌, ℕ, List, Option, Some, None, refl, Result, Ok, Err}
use Rattle.std.specs.Result.{IfErr}
use Rattle.k_input.specs.declared.fault.InputFault.{InputFault}
use Rattle.k_input.specs.declared.fault.InputFault.TheVariants as input_fault
use Rattle.k_input.specs.Taken.{IsAll, IsPartTaken}
use Rattle.k_reader.specs.declared.fault.ScriptFault.{ScriptFault}
use Rattle.k_reader.specs.declared.fault.ScriptFault.TheVariants as fault
use Rattle.fiasco_run.specs.declared.exit.Exit.{Exit}
use Rattle.fiasco_run.specs.declared.exit.Exit.TheVariants as exit
use Rattle.fiasco_run.specs.Scripts.{IsRefusedBy, input_exit}
use Rattle.fiasco_run.specs.Served.{Reads, TakesAll, TakesStatus}

pub all_taken : (before after : Option (List ℕ)) (bytes : List ℕ) → IsAll before after bytes → TakesAll before after
all_taken None after bytes h = tt
all_taken (Some given) after bytes h = h.1

pub refused_takes : (reads : Reads) (reason : Option ScriptFault) (e : Exit) (before after : Option (List ℕ)) → IsRefusedBy reason e → TakesAll before after → IsPartTaken reads.most before after → TakesStatus reads e before after
refused_takes reads reason exit.Done before after h all part = absurd h
refused_takes reads reason (exit.Refused fault.TooLarge) before after h all part = absurd h
refused_takes reads reason (exit.Refused (fault.Line line w)) before after h all part = all
refused_takes reads reason (exit.Refused (fault.TooLong n)) before after h all part = all
refused_takes reads reason (exit.Refused fault.NoMemory) before after h all part = absurd h
refused_takes reads reason exit.Usage before after h all part = absurd h
refused_takes reads reason exit.ReadFault before after h all part = absurd h
refused_takes reads reason exit.WriteFault before after h all part = absurd h
refused_takes reads reason exit.NoMemory before after h all part = part
refused_takes reads reason (exit.Illegal v) before after h all part = absurd h

pub input_takes : (reads : Reads) (f : InputFault) (before after : Option (List ℕ)) → (f ≡ input_fault.TooLarge → reads.IsLarge before after) → IsPartTaken reads.most before after → TakesStatus reads (input_exit f) before after
input_takes reads input_fault.Source before after large part = part
input_takes reads input_fault.TooLarge before after large part = large refl
input_takes reads input_fault.NoMemory before after large part = part

pub refused_takes_for : {T : Type 0} (reads : Reads) (reason : Option ScriptFault) (r : Result T Exit) (before after : Option (List ℕ)) → IfErr r (IsRefusedBy reason) → TakesAll before after → IsPartTaken reads.most before after → IfErr r (λ e. TakesStatus reads e before after)
refused_takes_for reads reason (Ok x) before after h all part = tt
refused_takes_for reads reason (Err e) before after h all part = refused_takes reads reason e before after h all part
