use Rattle.std.proofs.Common.{◌≡◌, rules, ap, ◌∙◌, Some}
use Rattle.k_script.specs.Script.{Program}
use Rattle.k_script.specs.Limits.{depth_behind}
use Rattle.k_reader.proofs.Nesting.{pushed}
use Rattle.k_reader.proofs.draft.Sketch.accept_operation.Goals as goal

pub invariant_of-self-in-Some : goal.invariant_of-self-in-Some
invariant_of-self-in-Some c =
    let i = c.self.invariant in
    let before : depth_behind 0 c.in-Some.program.operations ≡ Some c.self.inside.depth = search rules in
    let behind = pushed c.self.inside.depth c.depth_after-depth.result c.in-Some.program.operations c.in_ok-operation-in-Some.operation before c.depth_after-depth.ensures.exact in
    (search rules, i.1, i.2, ap (λ (p : Program). depth_behind 0 p.operations) c.in_ok-push-in-Some.ensures.ok ∙ behind, c.depth_after-depth.ensures.small, i.5, i.6, i.7, i.8)
