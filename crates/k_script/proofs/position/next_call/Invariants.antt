use Rattle.std.proofs.Common.{◌≡◌}
use Rattle.k_script.specs.Place.{position_in, IsPlace}
use Rattle.k_script.specs.Plays.{phase_next, moved}
use Rattle.k_script.proofs.Onward.{left_count}
use Rattle.k_script.proofs.position.next_call.Given as goal

abbrev pub invariant-loop-phase : goal.invariant-loop-phase
invariant-loop-phase l = record {
  placed : IsPlace l.script l.position;
  phase : phase_next l.script.version (position_in l.script l.position) l.reply ≡ phase_next l.script.version (position_in l.script l.initial.position) l.fn.last;
  moved : moved (position_in l.script l.position) l.reply ≡ moved (position_in l.script l.initial.position) l.fn.last;
}

abbrev pub decreases-loop-phase : goal.decreases-loop-phase
decreases-loop-phase l = left_count (position_in l.script l.position).left
