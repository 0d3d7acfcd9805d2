-- How much is still to come of a history that follows its script.
use Rattle.std.specs.Prelude.{ℕ, zero, suc, ◌+◌, ◌*◌, if◌then◌else◌}
use Rattle.k_ids.specs.declared.threads.Status.{Status}
use Rattle.k_model.specs.State.{KernelState, is_dead}
use Rattle.k_model.specs.Effort.{waits}
use Rattle.k_script.specs.Script.{Script}
use Rattle.k_script.specs.Plays.{Position, phases_left}

-- the calls that a thread which is there may still make, those of the threads that it creates among them
abbrev pub share : Script → Position → Status → ℕ
share script p st = if is_dead st then 0 else phases_left script p

abbrev pub sum_below : (ℕ → ℕ) → ℕ → ℕ
sum_below f zero = 0
sum_below f (suc n) = sum_below f n + f n

abbrev pub shares : Script → KernelState → (ℕ → Position) → ℕ
shares script k at = sum_below (λ t. share script (at t) (k.place t).status) k.size

-- Two for each such call: the call, and the event that may follow. One for each thread from which an event may come that isn't a
-- call.
abbrev pub to_come : Script → KernelState → (ℕ → Position) → ℕ
to_come script k at = 2 * shares script k at + waits k
