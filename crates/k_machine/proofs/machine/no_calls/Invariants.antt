use Rattle.std.proofs.Common.{None, length, get_or, ℕ, ◌<◌, ◌≡◌}
use Rattle.k_machine.specs.Replies.{no_call}
use Rattle.k_model.specs.State.{nowhere}
use Rattle.k_machine.proofs.machine.no_calls.Given as goal

abbrev pub invariant-loop-seat : goal.invariant-loop-seat
invariant-loop-seat l = record {
  size : length l.calls.items ≡ l.seat-index;
  version : (n : ℕ) → n < l.seat-index → (get_or l.calls.items n no_call).version ≡ (get_or l.seats n nowhere).version;
  serial : (n : ℕ) → n < l.seat-index → (get_or l.calls.items n no_call).serial ≡ (get_or l.seats n nowhere).serial;
  unanswered : (n : ℕ) → n < l.seat-index → (get_or l.calls.items n no_call).reply ≡ None;
}
