-- The entries of a queue: a sender and its message, each in 64 bits.
use Rattle.std.specs.Prelude.{ℕ, ◌+◌, ◌*◌, ◌/◌, ◌%◌, ◌^◌, ◌<◌}
use Rattle.k_ids.specs.declared.threads.ThreadId.{ThreadId}
use Rattle.k_ids.specs.declared.threads.Message.{Message}
use Rattle.k_ids.specs.Messages.{message_bits, message_of_bits}
use Rattle.k_senders.specs.declared.entries.SenderEntry.{SenderEntry}

-- a thread in 64 bits: its version times 64 plus its number
unfoldable pub who_of : ThreadId → ℕ
who_of id = 64 * id.version + id.number

-- the thread that these bits name: a number has 6 bits, and a version 20
unfoldable pub thread_of : ℕ → ThreadId
thread_of who = record { number = who % 64; version = who / 64 % 2 ^ 20 }

-- the entry of a sender
unfoldable pub entry_for : ThreadId → Message → SenderEntry
entry_for who message = record { who = who_of who; message = message_bits message }

unfoldable pub sender_of : SenderEntry → ThreadId
sender_of e = thread_of e.who

-- the thread number of an entry
abbrev pub number_of : SenderEntry → ℕ
number_of e = (sender_of e).number

unfoldable pub message_of : SenderEntry → Message
message_of e = message_of_bits e.message

-- the bits of an entry name a thread, and nothing else
abbrev pub IsEntry : SenderEntry → Type 0
IsEntry e = e.who < 2 ^ 26
