-- The replies so far, with each number's last call beside them, so that its reply is found without a search.
use Rattle.std.specs.Prelude.{ℕ, ◌≡◌, ◌<◌, ◌==◌, ◌&&◌, Bool, if◌then◌else◌, List, length, slice_index_or, Some, None}
use Rattle.std.specs.Option.{option_or}
use Rattle.k_ids.specs.declared.calls.Reply.{Reply}
use Rattle.k_ids.specs.declared.histories.ReplyLine.{ReplyLine}
use Rattle.k_machine.specs.declared.last_call.LastCall.{LastCall}
use Rattle.k_model.specs.Answered.{reply_to}
use Rattle.k_model.specs.State.{Place, nowhere}

-- replies, each number's last call, and for how many more replies there is room
pub record Log : Type 0 where
  pub lines : List ReplyLine
  pub calls : List LastCall
  pub spare : ℕ

-- whether it is this call
abbrev pub is_call : LastCall → ℕ → ℕ → Bool
is_call call version serial = (version == call.version) && (serial == call.serial)

-- A reply came, to the call with this version and serial. The first reply to a call stays.
abbrev pub noted : LastCall → ℕ → ℕ → Reply → LastCall
noted call version serial reply = record call { reply = option_or call.reply (if is_call call version serial then Some reply else None) }

abbrev pub no_call : LastCall
no_call = record { version = 0; serial = 0; reply = None }

-- Each number's last call is kept with the reply that the list has for it.
abbrev pub AreKept : List ReplyLine → List LastCall → Type 0
AreKept lines calls =
    (n : ℕ) → n < length calls → (slice_index_or calls n no_call).reply ≡ reply_to lines (record { number = n; version = (slice_index_or calls n no_call).version }) (slice_index_or calls n no_call).serial

-- The same calls, maybe with other replies.
pub record AreSameCalls (old new : List LastCall) : Type 0 where
  pub size : length new ≡ length old
  pub version : (n : ℕ) → (slice_index_or new n no_call).version ≡ (slice_index_or old n no_call).version
  pub serial : (n : ℕ) → (slice_index_or new n no_call).serial ≡ (slice_index_or old n no_call).serial

-- Each number has the last call of the thread that it shows.
pub record AreLast (places : List Place) (calls : List LastCall) : Type 0 where
  pub size : length calls ≡ length places
  pub version : (n : ℕ) → n < length places → (slice_index_or calls n no_call).version ≡ (slice_index_or places n nowhere).version
  pub serial : (n : ℕ) → n < length places → (slice_index_or calls n no_call).serial ≡ (slice_index_or places n nowhere).serial
