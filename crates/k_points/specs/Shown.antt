-- What a board shows of the state of the sequential specification, number by number.
use Rattle.std.specs.Prelude.{◌≡◌, ℕ, ◌+◌, ◌&&◌, Bool, false, if◌then◌else◌, Option, Some, None, List}
use Rattle.k_ids.specs.declared.threads.Status.{Status}
use Rattle.k_ids.specs.declared.threads.Status.TheVariants as status
use Rattle.k_ids.specs.declared.calls.Reply.{Reply}
use Rattle.k_ids.specs.declared.calls.Reply.TheVariants as reply
use Rattle.k_ids.specs.declared.histories.ReplyLine.{ReplyLine}
use Rattle.k_ids.specs.declared.state_word.State.{State}
use Rattle.k_model.specs.Answered.{IsAnswered, reply_to}
use Rattle.k_model.specs.Maps.{upd}
use Rattle.k_model.specs.Sound.{IsSound}
use Rattle.k_model.specs.State.{KernelState, Place, is_run}
use Rattle.k_locks.specs.Shown.{shows}
use Rattle.k_ipc.specs.Words.{is_joined_to}
use Rattle.k_board.specs.Words.{Seen}
use Rattle.k_board.specs.Boards.{Board}
use Rattle.k_board.specs.Facts.{is_open}
use Rattle.k_board.specs.Turns.{excepted_by}

-- All that the state has of a number but who waits to send to it: its thread, whether a send that waits is joined, and the last
-- call with its reply.
pub record Line : Type 0 where
  pub version : ℕ
  pub status : Status
  pub joined : Bool
  pub serial : ℕ
  pub told : Option Reply

abbrev pub line_by : List ReplyLine → ℕ → Place → Line
line_by replies n p = record {
  version = p.version;
  status = p.status;
  joined = p.joined;
  serial = p.serial;
  told = reply_to replies (record { number = n; version = p.version }) p.serial;
}

abbrev pub line : KernelState → ℕ → Line
line k n = line_by k.replies n (k.place n)

-- the state has these lines
abbrev pub Tells : KernelState → (ℕ → Line) → Type 0
Tells k f = (n : ℕ) → line k n ≡ f n

-- A number shows the status of its word. One that is excepted runs, although its word is of one that takes messages: its message
-- has passed, or it was freed.
abbrev pub status_by : Bool → State → Status
status_by excepted s = if excepted && is_open s then status.Run else shows s

abbrev pub shown_by : Bool → Seen → Line
shown_by excepted v = record {
  version = v.word.version;
  status = status_by excepted v.word.state;
  joined = is_joined_to v.word.state;
  serial = v.last;
  told = v.told;
}

-- the line that a number of the board shows: its word, and the ledger's last call with its reply
abbrev pub shown : Board → ℕ → Line
shown b n = shown_by (excepted_by (b.owner n) b.context n) (b.seen n)

-- The state is the one that the board shows. Who waits to send isn't said here.
pub record Shows (b : Board) (k : KernelState) : Type 0 where
  pub size : k.size ≡ b.size
  pub lines : Tells k (shown b)

-- The same of a state that can be reached, as far as it is said by laws of the specification.
pub record IsShown (b : Board) (k : KernelState) : Type 0 where
  pub shows : Shows b k
  pub sound : IsSound k
  pub answered : IsAnswered k

-- WHAT THE ROWS OF THE SPECIFICATION MAKE OF THE LINES

-- a call takes its serial, and has no reply yet
abbrev pub line_called : (ℕ → Line) → ℕ → ℕ → ℕ → Line
line_called f n serial = upd f n (record (f n) { serial = serial; told = None })

-- any status but sending
abbrev pub line_status : (ℕ → Line) → ℕ → Status → ℕ → Line
line_status f n s = upd f n (record (f n) { status = s; joined = false })

-- the last call has this reply
abbrev pub line_answered : (ℕ → Line) → ℕ → Reply → ℕ → Line
line_answered f n r = upd f n (record (f n) { told = Some r })

-- a sender whose message has passed; one that runs on has its reply
abbrev pub line_sent : (ℕ → Line) → ℕ → Status → ℕ → Line
line_sent f n after = if is_run after then line_answered (line_status f n after) n reply.Sent else line_status f n after

-- a message passes: the receiver runs and has its reply, and the sender goes on
abbrev pub line_passed : (ℕ → Line) → ℕ → ℕ → Reply → Status → ℕ → Line
line_passed f me to r after = line_sent (line_answered (line_status f to status.Run) to r) me after

-- a new thread runs, and has made no call
abbrev pub line_made : (ℕ → Line) → ℕ → ℕ → Line
line_made f n =
    upd f n (record { version = (f n).version + 1; status = status.Run; joined = false; serial = 0; told = None })
