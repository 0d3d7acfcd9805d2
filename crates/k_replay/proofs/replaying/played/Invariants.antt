use Rattle.std.proofs.Common.{◌≡◌, ◌+◌, length, take}
use Rattle.k_machine.specs.Machine.{state_of}
use Rattle.k_model.specs.History.{IsReplay}
use Rattle.k_script.specs.Plays.{opened_for}
use Rattle.k_replay.proofs.replaying.played.Given as goal

abbrev pub invariant-loop-entry : goal.invariant-loop-entry
invariant-loop-entry l = record {
  legal : IsReplay (opened_for l.script) (take l.entry-index l.entries) (state_of l.machine.lists);
  room : l.machine.room + l.entry-index ≡ length l.entries;
}
