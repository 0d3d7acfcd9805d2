use Rattle.std.proofs.Common.{ap, List, Some, false}
use Rattle.k_script.specs.declared.operation.Operation.{Operation}
use Rattle.k_script.specs.Script.{operations_of}
use Rattle.k_script.specs.Plays.{Position, start_registers}
use Rattle.k_script.proofs.Onward.{script_nested}
use Rattle.k_script.proofs.position.Position.start.Goals as goal

pub returns-clause-start : goal.returns-clause-start
returns-clause-start c = λ script within. ap (λ (ops : List Operation). let p : Position = record { registers = start_registers c.args.me; replying = false; left = Some ops } in p) (c.start.ensures.left (operations_of script c.args.program) (script_nested script c.args.program within))

pub returns-clause-placed : goal.returns-clause-placed
returns-clause-placed c = λ script within. c.start.ensures.placed (operations_of script c.args.program) (script_nested script c.args.program within)
