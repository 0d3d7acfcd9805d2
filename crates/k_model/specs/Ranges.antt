-- The versions of a state, and the threads that its replies name.
use Rattle.std.specs.Prelude.{ℕ, ◌≡◌, ◌<◌, ◌≤◌, false}
use Rattle.std.specs.List.{AllByRecursion}
use Rattle.k_ids.specs.declared.threads.ThreadId.{ThreadId}
use Rattle.k_ids.specs.declared.calls.Reply.{Reply}
use Rattle.k_ids.specs.declared.calls.Reply.TheVariants as reply
use Rattle.k_model.specs.State.{KernelState, is_dead}
use Rattle.k_model.specs.Step.{last_version}

-- The id is that of a thread which a number of the table has or had.
pub record IsKnown (k : KernelState) (id : ThreadId) : Type 0 where
  pub inside : id.number < k.size
  pub first : 1 ≤ id.version
  pub version : id.version ≤ (k.place id.number).version

-- A message that was got, and a thread that was made, come with such an id.
abbrev pub TellsKnown : KernelState → Reply → Type 0
TellsKnown k reply.Sent = Unit {0}
TellsKnown k (reply.Got from message) = IsKnown k from
TellsKnown k (reply.Made id) = IsKnown k id
TellsKnown k reply.Killed = Unit {0}
TellsKnown k (reply.Absent found) = Unit {0}
TellsKnown k (reply.Busy found) = Unit {0}
TellsKnown k reply.Nobody = Unit {0}
TellsKnown k reply.Own = Unit {0}
TellsKnown k (reply.Full alive worn) = Unit {0}
TellsKnown k reply.Gone = Unit {0}

-- No version is above the last, a thread has version 1 at least, and the replies are of known threads and name such.
pub record IsRanged (k : KernelState) : Type 0 where
  pub versions : (number : ℕ) → (k.place number).version ≤ last_version
  pub begun : (number : ℕ) → is_dead (k.place number).status ≡ false → 1 ≤ (k.place number).version
  pub known : AllByRecursion (λ line. IsKnown k line.id) k.replies
  pub told : AllByRecursion (λ line. TellsKnown k line.reply) k.replies
