use Rattle.std.proofs.Common.{◌≡◌, take, [], slice_index}
use Rattle.std.specs.List.{sum_by}
use Rattle.k_script.specs.Weight.{capped, program_totals}
use Rattle.k_script.proofs.scale.Scale.total.Given as goal

abbrev pub invariant-loop-thread : goal.invariant-loop-thread
invariant-loop-thread l = l.sum ≡ capped (sum_by (λ t. slice_index (program_totals l.fn.self [] l.script.programs) t.program) (take l.thread-index l.script.threads))
