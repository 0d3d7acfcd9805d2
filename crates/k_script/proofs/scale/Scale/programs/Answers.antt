use Rattle.std.proofs.Common.{◌≡◌, ◌<◌, ◌+◌, ℕ, arith, sym, ap, ◌∙◌, List, [], length, take, subst, set, length-set}
use Rattle.std.proofs.lemmas.List.{length-replicate}
use Rattle.k_script.specs.declared.operation.Operation.{Operation}
use Rattle.k_script.specs.Script.{operations_of}
use Rattle.k_script.specs.Weight.{AreCapped, capped, program_total, program_totals}
use Rattle.k_script.proofs.Capped.{zero_at, programs_more}
use Rattle.k_script.proofs.scale.Scale.programs.Goals as goal

pub loop-program-init : goal.loop-program-init
loop-program-init c = record { counts = λ k. zero_at 256 k; size = length-replicate {A = ℕ} 256 0 }

pub loop-program-preserved : goal.loop-program-preserved
loop-program-preserved c =
    let inside : c.loop-program.program < length c.args.script.now.programs = omega (arith, c.programs-program-end.ensures, c.loop-program-test.true) in
    let room : c.loop-program.program < length c.loop-program.totals = omega (arith, c.loop-program.invariant.size) in
    let count : c.program-total.result ≡ capped (program_total c.args.self (program_totals c.args.self [] (take c.loop-program.program c.args.script.now.programs)) (operations_of c.args.script.now c.loop-program.program)) =
    c.program-total.ensures (program_totals c.args.self [] (take c.loop-program.program c.args.script.now.programs)) c.loop-program.invariant.counts
    ∙ ap (λ (ops : List Operation). capped (program_total c.args.self (program_totals c.args.self [] (take c.loop-program.program c.args.script.now.programs)) ops)) c.listed.ensures.operations in
    record {
      counts = subst (λ (k : ℕ). AreCapped (set c.loop-program.totals k c.program-total.result) (program_totals c.args.self [] (take (c.loop-program.program + 1) c.args.script.now.programs))) (sym c.from.ensures)
          (programs_more c.args.self c.args.script.now.programs c.loop-program.program c.loop-program.totals c.program-total.result inside room c.loop-program.invariant.counts count);
      size = length-set c.loop-program.totals c.from.result c.program-total.result ∙ c.loop-program.invariant.size;
    }
