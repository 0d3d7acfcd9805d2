use Rattle.std.proofs.Common.{sym, subst}
use Rattle.k_schedule.specs.Bursts.{IsBetween}
use Rattle.k_schedule.proofs.Runs.{begins}
use Rattle.k_bursts.proofs.Loops.{played_of, tail_at}
use Rattle.k_bursts.proofs.run.run_schedule.Goals as goal

pub tail-requires-clause-between : goal.tail-requires-clause-between
tail-requires-clause-between g c =
    let script = c.args.script.now in
    let k = g.K.Kernel in
    let w = k.world script c.args.kernel.now in
    let same = sym (g.met.K.Kernel.count script) in
    subst (IsBetween (k.carriers script) (k.facts script) 0)
    (sym (tail_at (k.carriers script) script w _ _ same c.in_ok-play_turns.ensures.moment c.in_ok-park_all.ensures.moment))
    (begins (k.carriers script) (k.facts script) (g.met.K.Kernel.laws script c.holds.ensures c.requires.can) script w
    c.holds.ensures same c.requires.good)

pub returns-clause-played : goal.returns-clause-played
returns-clause-played g c =
    let script = c.args.script.now in
    let k = g.K.Kernel in
    let w = k.world script c.args.kernel.now in
    let same = sym (g.met.K.Kernel.count script) in
    played_of (k.carriers script) (k.facts script) (g.met.K.Kernel.laws script c.holds.ensures c.requires.can) script w
    (k.world script c.tail.new.kernel) _ c.tail.new.next c.tail.result c.holds.ensures same c.requires.good
    (tail_at (k.carriers script) script w _ _ same c.in_ok-play_turns.ensures.moment c.in_ok-park_all.ensures.moment)
    c.tail.ensures.tail
