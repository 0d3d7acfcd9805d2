use Rattle.std.proofs.Common.{rules, ◌≡◌, ◌<◌, true, false, length, get_or, refl, subst}
use Rattle.k_world.specs.Boot.{has_start, thread_line}
use Rattle.k_core.proofs.Ready.{HasReady, is_new, priority_small, ready_all, ready_pushed, ready_skipped}
use Rattle.k_core.proofs.boot.ready_of.Goals as goal
use Rattle.k_core.proofs.boot.ready_of.Goals.{then-not-has_start, else-not-has_start}

pub push-requires-clause-fresh : goal.push-requires-clause-fresh
push-requires-clause-fresh c = is_new c.args.script.now c.loop-number.number c.loop-number.lists
    c.loop-number.invariant

pub loop-number-preserved : goal.loop-number-preserved
loop-number-preserved c =
    let script = c.args.script.now in
    elim c.if-not-has_start.branch [
      | then-not-has_start w ↦
          let ready : has_start script c.loop-number.number ≡ false = search rules in
          let inside : c.loop-number.number < length script.threads = search rules in
          let p = (get_or c.threads-threads.result.now w.from.result
          (record { priority = 0; program = 0 })).priority in
          let same : p ≡ (thread_line script c.loop-number.number).priority =
          rw (c.threads-threads.ensures, w.from.ensures) refl in
          let small : p < 64 = rw same (priority_small script c.loop-number.number c.holds.ensures inside) in
          rw (w.lists-is, w.push.ensures) (ready_pushed script c.loop-number.number c.loop-number.lists p same
          ready small c.loop-number.invariant)
      | else-not-has_start w ↦
          let waits : has_start script c.loop-number.number ≡ true = search rules in
          rw w.lists-is (ready_skipped script c.loop-number.number c.loop-number.lists waits
          c.loop-number.invariant)
    ]

pub returns : goal.returns
returns c =
    let all : c.loop-number.number ≡ length c.args.script.now.threads = search rules in
    ready_all c.args.script.now c.loop-number.lists
    (subst (λ n. HasReady c.args.script.now n c.loop-number.lists) all c.loop-number.invariant)
