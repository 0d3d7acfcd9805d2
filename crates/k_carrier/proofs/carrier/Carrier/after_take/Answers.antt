use Rattle.std.proofs.Common.{sym, ap, ◌∙◌, ◌≡◌}
use Rattle.k_carrier.specs.declared.carrier.Target.{Target}
use Rattle.k_carrier.specs.declared.carrier.Target.TheVariants as target
use Rattle.k_context.specs.Contexts.{seen_in}
use Rattle.k_carrier.specs.Resumed.{after_take, heard}
use Rattle.k_carrier.specs.Rules.{target_of}
use Rattle.k_carrier.specs.Seen.{carrier_in}
use Rattle.k_carrier.proofs.Sound.{own_is_carriers, took_number}
use Rattle.k_carrier.proofs.carrier.Carrier.after_take.Goals as goal

pub take_own-requires-clause-own : goal.take_own-requires-clause-own
take_own-requires-clause-own c =
    let s = c.args.script.now in
    let k = carrier_in s c.args.self.now in
    let v = seen_in s c.args.value in
    let own : target_of k ≡ target.Own = sym (c.target.ensures s) ∙ c.in-Own.is in
    let told = took_number s k v target.Own c.requires.sound c.requires.answer own in
    own_is_carriers s k v c.requires.sound told.0 told.1

pub returns-in-Helped-clause-carrier : goal.returns-in-Helped-clause-carrier
returns-in-Helped-clause-carrier c =
    let s = c.args.script.now in
    let k = carrier_in s c.args.self.now in
    let helped : target_of k ≡ target.Helped c.in-Helped.context = sym (c.target.ensures s) ∙ c.in-Helped.is in
    c.take_in_hand.ensures.carrier s ∙ ap (λ (t : Target). after_take (heard k) t (seen_in s c.args.value)) (sym helped)

pub returns-in-Own-clause-carrier : goal.returns-in-Own-clause-carrier
returns-in-Own-clause-carrier c =
    let s = c.args.script.now in
    let k = carrier_in s c.args.self.now in
    let own : target_of k ≡ target.Own = sym (c.target.ensures s) ∙ c.in-Own.is in
    c.take_own.ensures.carrier ∙ ap (λ (t : Target). after_take (heard k) t (seen_in s c.args.value)) (sym own)

pub returns-in-GoalOf-clause-carrier : goal.returns-in-GoalOf-clause-carrier
returns-in-GoalOf-clause-carrier c =
    let s = c.args.script.now in
    let k = carrier_in s c.args.self.now in
    let goal_is : target_of k ≡ target.GoalOf c.in-GoalOf.goal = sym (c.target.ensures s) ∙ c.in-GoalOf.is in
    c.take_goal.ensures.carrier s ∙ ap (λ (t : Target). after_take (heard k) t (seen_in s c.args.value)) (sym goal_is)
