use Rattle.std.proofs.Common.{◌≡◌, take}
use Rattle.std.specs.List.{flat_map}
use Rattle.k_outside.specs.Outside.{Appends}
use Rattle.k_text.proofs.printed.put_each.Given as goal

abbrev pub invariant-loop-item : goal.invariant-loop-item
invariant-loop-item g l =
    Appends (g.K.Sink.held l.initial.sink) (g.K.Sink.held l.sink) (flat_map g.T.Printed.text (take l.item-index l.items))
    × (g.K.Sink.faults l.sink ≡ g.K.Sink.faults l.initial.sink)
