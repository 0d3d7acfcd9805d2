use Rattle.std.proofs.Common.{◌≡◌, take, [], length}
use Rattle.k_script.specs.Weight.{AreCapped, program_totals}
use Rattle.k_script.proofs.scale.Scale.programs.Given as goal

abbrev pub invariant-loop-program : goal.invariant-loop-program
invariant-loop-program l = record {
  counts : AreCapped l.totals (program_totals l.self [] (take l.program l.script.programs));
  size : length l.totals ≡ 256;
}
