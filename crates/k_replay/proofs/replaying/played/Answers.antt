use Rattle.std.proofs.Common.{arith}
use Rattle.k_machine.specs.Machine.{state_of}
use Rattle.k_replay.proofs.Going.{entry_made, entry_may_come}
use Rattle.k_replay.proofs.replaying.played.Goals as goal

pub make-requires-clause-inside : goal.make-requires-clause-inside
make-requires-clause-inside c =
    (entry_may_come c.args.script.now c.args.entries.now c.loop-entry.entry-index _ (state_of c.loop-entry.machine.lists)
    c.loop-entry-test.true c.loop-entry.invariant.legal c.requires.follows.0 c.holds.ensures c.requires.follows.1).inside

pub make-requires-clause-made : goal.make-requires-clause-made
make-requires-clause-made c =
    let come =
    entry_may_come c.args.script.now c.args.entries.now c.loop-entry.entry-index _ (state_of c.loop-entry.machine.lists)
    c.loop-entry-test.true c.loop-entry.invariant.legal c.requires.follows.0 c.holds.ensures c.requires.follows.1 in
    (come.next, come.made)

pub loop-entry-preserved : goal.loop-entry-preserved
loop-entry-preserved c = record {
  legal = entry_made c.args.script.now c.args.entries.now c.loop-entry.entry-index _ (state_of c.loop-entry.machine.lists)
      c.loop-entry-test.true c.loop-entry.invariant.legal (state_of c.make.new.machine.lists) c.make.ensures.made;
  room = omega (arith, c.loop-entry.invariant.room, c.make.ensures.room);
}
