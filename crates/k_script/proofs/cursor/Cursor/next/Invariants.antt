use Rattle.k_script.proofs.Turns.{Passes, ahead}
use Rattle.k_script.proofs.cursor.Cursor.next.Given as goal

abbrev pub invariant-loop-operation : goal.invariant-loop-operation
invariant-loop-operation l = Passes l.operations l.initial.self l.self l.entered

abbrev pub decreases-loop-operation : goal.decreases-loop-operation
decreases-loop-operation l = ahead l.operations l.self l.entered
