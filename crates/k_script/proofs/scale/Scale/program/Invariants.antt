use Rattle.std.proofs.Common.{ℕ, List, drop}
use Rattle.k_script.specs.Weight.{AreCapped, totals, level_totals}
use Rattle.k_script.proofs.scale.Scale.program.Given as goal

abbrev pub invariant-loop-at : goal.invariant-loop-at
invariant-loop-at l = (exact : List ℕ) → AreCapped l.before exact → AreCapped (level_totals l.levels) (totals l.self exact (drop l.at l.operations))
