use Rattle.std.proofs.Common.{sym, ◌∙◌}
use Rattle.k_schedule.specs.Schedule.{Moment}
use Rattle.k_bursts.specs.Playing.{moment_at}
use Rattle.k_bursts.proofs.Loops.{burst_on}
use Rattle.k_bursts.proofs.bursts.burst.Goals as goal

pub loop-idle-smaller : goal.loop-idle-smaller
loop-idle-smaller g c =
    let script = c.args.script.now in
    let k = g.K.Kernel in
    let m : Moment k.World = moment_at script (k.world script c.loop-idle.kernel) c.loop-idle.next in
    let o : Moment k.World = moment_at script (k.world script c.step.new.kernel) c.step.new.next in
    let on = burst_on (k.carriers script) (k.facts script) (g.met.K.Kernel.laws script c.holds.ensures c.requires.can) c.args.c m o
    c.loop-idle.invariant.bursting c.in_ok-idle.ensures.moment (sym c.settled.ensures ∙ c.if-settled.false) in
    on.less

pub loop-idle-preserved : goal.loop-idle-preserved
loop-idle-preserved g c =
    let script = c.args.script.now in
    let k = g.K.Kernel in
    let m : Moment k.World = moment_at script (k.world script c.loop-idle.kernel) c.loop-idle.next in
    let o : Moment k.World = moment_at script (k.world script c.step.new.kernel) c.step.new.next in
    let on = burst_on (k.carriers script) (k.facts script) (g.met.K.Kernel.laws script c.holds.ensures c.requires.can) c.args.c m o
    c.loop-idle.invariant.bursting c.in_ok-idle.ensures.moment (sym c.settled.ensures ∙ c.if-settled.false) in
    record {
      kept = c.in_ok-idle.ensures.kept;
      stands = c.in_ok-idle.ensures.stands;
      bursting = on.bursting;
      back = λ b r. c.loop-idle.invariant.back b (on.back b r);
    }
