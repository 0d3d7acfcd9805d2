-- The replies of a state: which call has which, what holds of them in each state that can be reached, and what an event adds.
use Rattle.std.specs.Prelude.{ℕ, ◌≡◌, ◌≤◌, ◌<◌, ◌⊎◌, ◌==◌, Bool, true, false, ◌&&◌, List, ◌++◌, length, map, eqb, Option, None}
use Rattle.std.specs.List.{AllByRecursion, IsDistinct, find}
use Rattle.std.specs.Option.{option_map}
use Rattle.k_ids.specs.declared.threads.ThreadId.{ThreadId}
use Rattle.k_ids.specs.declared.threads.Status.{Status}
use Rattle.k_ids.specs.declared.threads.Status.TheVariants as status
use Rattle.k_ids.specs.declared.calls.Reply.{Reply}
use Rattle.k_ids.specs.declared.histories.ReplyLine.{ReplyLine}
use Rattle.k_model.specs.State.{KernelState, id_of, same_id}

-- whether a line is the reply to this call
abbrev pub is_reply_to : ThreadId → ℕ → ReplyLine → Bool
is_reply_to id serial line = same_id line.id id && (line.serial == serial)

-- the reply to a call, if it has one yet
abbrev pub reply_to : List ReplyLine → ThreadId → ℕ → Option Reply
reply_to lines id serial = option_map (λ line. line.reply) (find (is_reply_to id serial) lines)

-- whether two lines are replies to one call
abbrev pub same_call : ReplyLine → ReplyLine → Bool
same_call a b = is_reply_to b.id b.serial a

-- whether a thread of this status waits for its last call to be answered
abbrev pub is_waiting : Status → Bool
is_waiting status.Dead = false
is_waiting status.Run = false
is_waiting (status.Sending to) = true
is_waiting (status.Receiving from) = true
is_waiting status.Picking = true
is_waiting status.Ended = false

-- The call is the last one of the thread that its number shows.
pub record IsLastCall (k : KernelState) (id : ThreadId) (serial : ℕ) : Type 0 where
  pub version : (k.place id.number).version ≡ id.version
  pub serial_is : (k.place id.number).serial ≡ serial

-- The call is one of an earlier thread of its number, or its thread has made another since.
abbrev pub IsEarlierCall : KernelState → ThreadId → ℕ → Type 0
IsEarlierCall k id serial =
    (id.version < (k.place id.number).version) ⊎ ((id.version ≡ (k.place id.number).version) × (serial < (k.place id.number).serial))

-- A reply is that to a call which was made: of an earlier thread of its number, or one of the calls of this thread.
pub record IsOfCall (k : KernelState) (line : ReplyLine) : Type 0 where
  pub first : 1 ≤ line.serial
  pub called : (line.id.version < (k.place line.id.number).version) ⊎ ((line.id.version ≡ (k.place line.id.number).version) × (line.serial ≤ (k.place line.id.number).serial))

-- Each reply is that to a call which was made, no call has two, and a thread that waits has made a call, whose reply is
-- still to come.
pub record IsAnswered (k : KernelState) : Type 0 where
  pub made : AllByRecursion (IsOfCall k) k.replies
  pub once : IsDistinct same_call k.replies
  pub begun : (n : ℕ) → is_waiting (k.place n).status ≡ true → 1 ≤ (k.place n).serial
  pub unanswered : (n : ℕ) → is_waiting (k.place n).status ≡ true → reply_to k.replies (id_of k n) (k.place n).serial ≡ None

-- The replies that an event adds: two at most, of different threads, and each is the first to its thread's last call.
pub record AddsReplies (old new : KernelState) (lines : List ReplyLine) : Type 0 where
  pub replies : new.replies ≡ old.replies ++ lines
  pub last : AllByRecursion (λ line. IsLastCall new line.id line.serial) lines
  pub first : AllByRecursion (λ line. reply_to old.replies line.id line.serial ≡ None) lines
  pub apart : IsDistinct eqb (map (λ line. line.id.number) lines)
  pub few : length lines ≤ 2
