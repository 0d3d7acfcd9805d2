use Rattle.std.proofs.Common.{refl}
use Rattle.k_schedule.specs.Schedule.{Moment, burst}
use Rattle.k_bursts.specs.Playing.{moment_at}
use Rattle.k_bursts.proofs.Loops.{tail_on, tail_stops}
use Rattle.k_bursts.proofs.bursts.tail.Goals as goal

pub loop-idle-smaller : goal.loop-idle-smaller
loop-idle-smaller g c =
    let script = c.args.script.now in
    let k = g.K.Kernel in
    let m : Moment k.World = moment_at script (k.world script c.loop-idle.kernel) c.loop-idle.next in
    let b = burst c.in_ok-idle.idle (moment_at script (k.world script c.burst.new.kernel) c.burst.new.next) in
    let o : Moment k.World = moment_at script (k.world script c.follow.new.kernel) c.follow.new.next in
    let on = tail_on (k.carriers script) (k.facts script) (g.met.K.Kernel.laws script c.holds.ensures c.requires.can) c.loop-idle.c
    c.in-Some.d m o b c.loop-idle.invariant.between c.in_ok-idle.ensures.made (c.in-Some.ensures.follows c.in-Some.d refl) in
    on.less

pub loop-idle-preserved : goal.loop-idle-preserved
loop-idle-preserved g c =
    let script = c.args.script.now in
    let k = g.K.Kernel in
    let m : Moment k.World = moment_at script (k.world script c.loop-idle.kernel) c.loop-idle.next in
    let b = burst c.in_ok-idle.idle (moment_at script (k.world script c.burst.new.kernel) c.burst.new.next) in
    let o : Moment k.World = moment_at script (k.world script c.follow.new.kernel) c.follow.new.next in
    let on = tail_on (k.carriers script) (k.facts script) (g.met.K.Kernel.laws script c.holds.ensures c.requires.can) c.loop-idle.c
    c.in-Some.d m o b c.loop-idle.invariant.between c.in_ok-idle.ensures.made (c.in-Some.ensures.follows c.in-Some.d refl) in
    record {
      kept = c.in-Some.ensures.kept;
      stands = c.in-Some.ensures.stands;
      between = on.between;
      back = λ e x. c.loop-idle.invariant.back e (on.back e x);
    }

pub returns-in-None-clause-tail : goal.returns-in-None-clause-tail
returns-in-None-clause-tail g c =
    let script = c.args.script.now in
    let k = g.K.Kernel in
    let m : Moment k.World = moment_at script (k.world script c.loop-idle.kernel) c.loop-idle.next in
    let b = burst c.in_ok-idle.idle (moment_at script (k.world script c.burst.new.kernel) c.burst.new.next) in
    let o : Moment k.World = moment_at script (k.world script c.follow.new.kernel) c.follow.new.next in
    c.loop-idle.invariant.back o (tail_stops (k.carriers script) c.loop-idle.c m b o c.in_ok-idle.ensures.made
    (c.in-None.ensures.ends refl) (c.in-None.ensures.as_before refl))
