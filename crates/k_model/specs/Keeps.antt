-- What an event leaves as it was at a number whose thread didn't make it.
use Rattle.std.specs.Prelude.{◌≡◌, ℕ, Bool, true, false, Option, None, ◌<◌, ◌+◌}
use Rattle.k_ids.specs.declared.threads.Status.{Status}
use Rattle.k_ids.specs.declared.threads.Status.TheVariants as status
use Rattle.k_ids.specs.declared.calls.Phase.{Phase}
use Rattle.k_ids.specs.declared.calls.Phase.TheVariants as phase
use Rattle.k_ids.specs.declared.calls.Act.{Act}
use Rattle.k_ids.specs.declared.calls.Act.TheVariants as act
use Rattle.k_model.specs.Maps.{lowest}
use Rattle.k_model.specs.State.{KernelState, is_dead}
use Rattle.k_model.specs.Step.{is_free}

-- a status in which a thread makes no event any more, and which no message changes
abbrev pub is_settled : Status → Bool
is_settled status.Dead = true
is_settled status.Run = false
is_settled (status.Sending to) = false
is_settled (status.Receiving from) = false
is_settled status.Picking = false
is_settled status.Ended = true

-- The number has the thread that it had, with the calls that it had made; and a settled thread stays so.
pub record Keeps (old new : KernelState) (t : ℕ) : Type 0 where
  pub version : (new.place t).version ≡ (old.place t).version
  pub serial : (new.place t).serial ≡ (old.place t).serial
  pub settled : is_settled (old.place t).status ≡ true → (new.place t).status ≡ (old.place t).status

-- a phase of message passing, or the end: one that neither creates nor destroys a thread
abbrev pub is_message_phase : Phase → Bool
is_message_phase (phase.Send to message zero joined) = true
is_message_phase (phase.Reply to message zero) = true
is_message_phase (phase.Receive from zero) = true
is_message_phase (phase.Create program priority) = false
is_message_phase (phase.Destroy who) = false
is_message_phase phase.End = true

-- The number has the thread that it had, with the calls that it had made; a settled thread doesn't go on, and a dead number
-- stays dead. (A destroy leaves its victim so, which `Keeps` doesn't allow.)
pub record Leaves (old new : KernelState) (t : ℕ) : Type 0 where
  pub version : (new.place t).version ≡ (old.place t).version
  pub serial : (new.place t).serial ≡ (old.place t).serial
  pub settled : is_settled (old.place t).status ≡ true → is_settled (new.place t).status ≡ true
  pub dead : is_dead (old.place t).status ≡ true → is_dead (new.place t).status ≡ true

-- the number that a call's new thread gets, from a state in which the caller has taken its serial
abbrev pub renewed_call : KernelState → Phase → Option ℕ
renewed_call k (phase.Send to message zero joined) = None
renewed_call k (phase.Reply to message zero) = None
renewed_call k (phase.Receive from zero) = None
renewed_call k (phase.Create program priority) = lowest (λ n. is_free (k.place n)) k.size
renewed_call k (phase.Destroy who) = None
renewed_call k phase.End = None

abbrev pub renewed_number : KernelState → Act → Option ℕ
renewed_number k (act.Call phase) = renewed_call k phase
renewed_number k act.Gone = None
renewed_number k act.Pick = None

-- The number that gets the thread was dead, and its thread runs, and has made no call.
pub record IsRenewed (k : KernelState) (number : ℕ) (n : KernelState) : Type 0 where
  pub inside : number < k.size
  pub free : is_dead (k.place number).status ≡ true
  pub version : (n.place number).version ≡ (k.place number).version + 1
  pub serial : (n.place number).serial ≡ 0
  pub run : (n.place number).status ≡ status.Run
