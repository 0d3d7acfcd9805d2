use Rattle.std.proofs.Common.{◌≡◌, ◌+◌, ◌*◌, ℕ, arith, sym, [], ◌∷◌, false, subst}
use Rattle.k_script.specs.Flat.{is_marker}
use Rattle.k_script.specs.Weight.{AreCapped, capped, cost, added, multiplied}
use Rattle.k_script.proofs.Turns.{plain_op}
use Rattle.k_script.proofs.Capped.{added_capped, multiplied_capped, plain_totals}
use Rattle.k_script.proofs.scale.Scale.in_front.Goals as goal

pub returns-in-Repeat : goal.returns-in-Repeat
returns-in-Repeat c = λ exact ts before levels some few.
    let first : c.saturating_add.result ≡ capped (capped (c.in-Repeat.count * capped (c.args.levels.first + c.args.self.turn)) + c.args.levels.second) = cc in
    let all = multiplied_capped c.in-Repeat.count c.args.self.turn c.args.levels.first c.args.levels.second c.args.levels.third c.args.levels.fourth c.args.levels.fifth ts (omega arith) levels some in
    rw c.in-Repeat.is (subst (λ (x : ℕ). AreCapped (x ∷ c.args.levels.third ∷ c.args.levels.fourth ∷ c.args.levels.fifth ∷ 0 ∷ []) (multiplied c.args.self.turn c.in-Repeat.count ts)) (sym first) all)

pub returns-in_default : goal.returns-in_default
returns-in_default c = λ exact ts before levels some few.
    let plain : is_marker c.args.operation ≡ false = plain_op c.args.operation c.in_default.not-Repeat c.in_default.not-Again in
    let first : c.saturating_add-in_default.result ≡ capped (c.cost.result + c.args.levels.first) = c.saturating_add-in_default.ensures in
    let all = added_capped c.cost.result (cost c.args.self exact c.args.operation) c.args.levels.first c.args.levels.second c.args.levels.third c.args.levels.fourth c.args.levels.fifth ts levels some (c.cost.ensures exact before) in
    rw (plain_totals c.args.self exact c.args.operation ts plain) (subst (λ (x : ℕ). AreCapped (x ∷ c.args.levels.second ∷ c.args.levels.third ∷ c.args.levels.fourth ∷ c.args.levels.fifth ∷ []) (added (cost c.args.self exact c.args.operation) ts)) (sym first) all)
