use Rattle.std.proofs.Common.{◌≡◌, ◌≤◌, arith, sym, subst, ap, ◌∙◌}
use Rattle.k_model.specs.State.{KernelState}
use Rattle.k_model.specs.Sound.{IsListed, IsSound}
use Rattle.k_model.specs.Ranges.{IsRanged}
use Rattle.k_model.specs.Step.{last_version}
use Rattle.k_model.proofs.Listed.{opened-listed}
use Rattle.k_model.proofs.Ranged.{opened-ranged}
use Rattle.std.proofs.lemmas.List.Elements.{recursion_from_All}
use Rattle.k_model.specs.History.{opened}
use Rattle.k_model.specs.Answered.{IsAnswered}
use Rattle.k_model.proofs.Answered.{opened-answered}
use Rattle.k_model.proofs.Opening.{opened-sound}
use Rattle.k_machine.specs.Machine.{state_of}
use Rattle.k_machine.proofs.Seen.{state_opened}
use Rattle.k_machine.proofs.machine.Machine.boot.Goals as goal

pub returns-clause-kernel : goal.returns-clause-kernel
returns-clause-kernel c =
    ap state_of c.of-2.ensures.lists ∙ state_opened _ c.args.versions.now c.args.threads c.in_ok-seats.ensures.size c.in_ok-seats.ensures.places c.of.ensures.lines

pub invariant_of-result : goal.invariant_of-result
invariant_of-result c =
    let made : state_of c.of-2.result.lists ≡ opened c.args.versions.now c.args.threads =
    ap state_of c.of-2.ensures.lists ∙ state_opened _ c.args.versions.now c.args.threads c.in_ok-seats.ensures.size c.in_ok-seats.ensures.places c.of.ensures.lines in
    record {
      spare = omega (arith, c.of-2.ensures.spare, c.of.ensures.spare, c.in_ok-lines.ensures.exact, c.in_ok-lines.ensures.len);
      some = omega (arith, ap (λ (k : KernelState). k.size) made, c.requires.some);
      small = omega (arith, ap (λ (k : KernelState). k.size) made, c.requires.size);
      listed = subst IsListed (sym made) (opened-listed c.args.versions.now c.args.threads);
      ranged = subst IsRanged (sym made) (opened-ranged c.args.versions.now c.args.threads (recursion_from_All (λ v. v ≤ last_version) c.args.versions.now c.requires.versions));
      sound = subst IsSound (sym made) (opened-sound c.args.versions.now c.args.threads);
      answered = subst IsAnswered (sym made) (opened-answered c.args.versions.now c.args.threads);
    }
