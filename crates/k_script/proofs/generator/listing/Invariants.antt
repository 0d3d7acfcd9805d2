use Rattle.std.proofs.Common.{◌≡◌, take}
use Rattle.k_script.proofs.generator.listing.Given as goal

abbrev pub invariant-loop-operation : goal.invariant-loop-operation
invariant-loop-operation l = l.listing ≡ record { name = l.name; operations = take l.operation-index l.operations }
