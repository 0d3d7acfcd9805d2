use Rattle.std.proofs.Common.{◌≡◌, arith, ap, sym, ◌∙◌, None}
use Rattle.k_script.specs.declared.registers.Next.TheVariants as next
use Rattle.k_script.specs.Place.{position_in}
use Rattle.k_script.specs.Plays.{Position, next_of, went_on, phase_next, moved}
use Rattle.k_script.proofs.Onward.{works_on, calls_on, left_count}
use Rattle.k_script.proofs.position.next_call.Goals as goal

pub returns-in-Phase-clause-phase : goal.returns-in-Phase-clause-phase
returns-in-Phase-clause-phase c =
    let is : next_of c.args.script.now.version (position_in c.args.script.now c.loop-phase.position) c.loop-phase.reply ≡ next.Phase c.in-Phase.phase = sym c.next_phase.ensures.next ∙ c.in-Phase.is in
    (calls_on c.args.script.now.version (position_in c.args.script.now c.loop-phase.position) c.loop-phase.reply c.in-Phase.phase is).phase ∙ c.loop-phase.invariant.phase

pub returns-in-Phase-clause-moved : goal.returns-in-Phase-clause-moved
returns-in-Phase-clause-moved c =
    let is : next_of c.args.script.now.version (position_in c.args.script.now c.loop-phase.position) c.loop-phase.reply ≡ next.Phase c.in-Phase.phase = sym c.next_phase.ensures.next ∙ c.in-Phase.is in
    c.next_phase.ensures.went ∙ (calls_on c.args.script.now.version (position_in c.args.script.now c.loop-phase.position) c.loop-phase.reply c.in-Phase.phase is).moved ∙ c.loop-phase.invariant.moved

pub loop-phase-preserved : goal.loop-phase-preserved
loop-phase-preserved c =
    let p = position_in c.args.script.now c.loop-phase.position in
    let is : next_of c.args.script.now.version p c.loop-phase.reply ≡ next.Work c.in-Work.field-0 = sym c.next_phase.ensures.next ∙ c.in-Work.is in
    let on = works_on c.args.script.now.version c.in-Work.field-0 p c.loop-phase.reply is in
    record {
      placed = c.next_phase.ensures.placed;
      phase = ap (λ (q : Position). phase_next c.args.script.now.version q None) c.next_phase.ensures.went ∙ on.phase ∙ c.loop-phase.invariant.phase;
      moved = ap (λ (q : Position). moved q None) c.next_phase.ensures.went ∙ on.moved ∙ c.loop-phase.invariant.moved;
    }

pub loop-phase-smaller : goal.loop-phase-smaller
loop-phase-smaller c =
    let p = position_in c.args.script.now c.loop-phase.position in
    let is : next_of c.args.script.now.version p c.loop-phase.reply ≡ next.Work c.in-Work.field-0 = sym c.next_phase.ensures.next ∙ c.in-Work.is in
    let on = works_on c.args.script.now.version c.in-Work.field-0 p c.loop-phase.reply is in
    let same : left_count (position_in c.args.script.now c.next_phase.new.position).left ≡ left_count (went_on p c.loop-phase.reply).left = ap (λ (q : Position). left_count q.left) c.next_phase.ensures.went in
    omega (arith, same, on.fewer)
