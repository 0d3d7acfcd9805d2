use Rattle.std.proofs.Common.{◌≡◌, Ok, true, false, arith, sym, ap, subst, ◌∙◌}
use Rattle.k_ids.specs.declared.calls.Outcome.{Outcome}
use Rattle.k_model.specs.State.{KernelState}
use Rattle.k_model.specs.Step.{step, may_act, acted}
use Rattle.k_model.specs.Sound.{IsListed, IsSound}
use Rattle.k_model.specs.Ranges.{IsRanged}
use Rattle.k_model.proofs.Listed.{acted-listed}
use Rattle.k_model.proofs.Ranged.{acted-ranged}
use Rattle.k_model.proofs.Sound.{acts_free, has_room, senders_inside, size-acted, acted-sound}
use Rattle.k_model.specs.Answered.{IsAnswered}
use Rattle.k_model.proofs.Answered.{acted-answered}
use Rattle.k_machine.specs.Machine.{Running, state_of}
use Rattle.k_machine.proofs.machine.Machine.step.Goals as goal

pub returns-then-not-may_act-clause-unlawful : goal.returns-then-not-may_act-clause-unlawful
unfolding step
returns-then-not-may_act-clause-unlawful c =
    let barred : may_act (state_of c.self.inside.table.lists) c.args.event.who c.args.event.serial c.args.event.act ≡ false = sym c.may_act.ensures ∙ c.if-not-may_act.true in
    rw (← c.self.view_is) (rw barred cc)

pub act-requires-clause-senders : goal.act-requires-clause-senders
act-requires-clause-senders c = senders_inside (state_of c.self.inside.table.lists) c.args.event.who.number c.self.invariant.sound

pub act-requires-clause-lists : goal.act-requires-clause-lists
act-requires-clause-lists c = λ t.
    let k = state_of c.self.inside.table.lists in
    let e = c.args.event in
    let inside = rw (← c.self.view_is) at c.requires.inside.caller in
    has_room k e.who.number t c.self.invariant.small inside (acts_free k e.who e.serial e.act (sym c.may_act.ensures ∙ c.if-not-may_act.false) c.self.invariant.sound) c.self.invariant.sound

pub invariant_of-self : goal.invariant_of-self
invariant_of-self c =
    let k = state_of c.self.inside.table.lists in
    let e = c.args.event in
    let after : state_of c.act.new.self.lists ≡ (acted k e.who e.serial e.act).0 = ap (λ (r : KernelState × Outcome). r.0) c.act.ensures.made in
    let size : (state_of c.act.new.self.lists).size ≡ k.size = ap (λ (m : KernelState). m.size) after ∙ size-acted k e.who e.serial e.act in
    record {
      spare = omega (arith, c.act.ensures.spare, c.self.invariant.spare, c.requires.room, ap (λ (r : Running). r.room) c.self.view_is);
      some = omega (arith, size, c.self.invariant.some);
      small = omega (arith, size, c.self.invariant.small);
      answered = subst IsAnswered (sym after) (acted-answered k e.who e.serial e.act (sym c.may_act.ensures ∙ c.if-not-may_act.false) c.self.invariant.sound c.self.invariant.answered);
      listed = subst IsListed (sym after) (acted-listed k e.who e.serial e.act (sym c.may_act.ensures ∙ c.if-not-may_act.false) c.self.invariant.sound c.self.invariant.listed);
      ranged = subst IsRanged (sym after) (acted-ranged k e.who e.serial e.act (sym c.may_act.ensures ∙ c.if-not-may_act.false) c.self.invariant.sound c.self.invariant.ranged);
      sound = subst IsSound (sym after) (acted-sound k e.who e.serial e.act (sym c.may_act.ensures ∙ c.if-not-may_act.false) c.self.invariant.sound);
    }

pub returns-clause-made : goal.returns-clause-made
unfolding step
returns-clause-made c =
    let k = state_of c.self.inside.table.lists in
    let e = c.args.event in
    let allowed : may_act k e.who e.serial e.act ≡ true = sym c.may_act.ensures ∙ c.if-not-may_act.false in
    rw (← c.self.view_is) (rw allowed (ap Ok (sym c.act.ensures.made)))

pub returns-clause-size : goal.returns-clause-size
returns-clause-size c =
    let k = state_of c.self.inside.table.lists in
    let e = c.args.event in
    rw (← c.self.view_is) (ap (λ (r : KernelState × Outcome). r.0.size) c.act.ensures.made ∙ size-acted k e.who e.serial e.act)
