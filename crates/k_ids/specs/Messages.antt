-- A message packed into 64 bits: the low word in bits 0 to 31, the high word in bits 32 to 63. Every number of 64 bits is one.
use Rattle.std.specs.Prelude.{ℕ, ◌+◌, ◌*◌, ◌/◌, ◌%◌, ◌^◌}
use Rattle.k_ids.specs.declared.threads.Message.{Message}

abbrev pub message_bits : Message → ℕ
message_bits m = m.low + 2 ^ 32 * m.high

abbrev pub message_of_bits : ℕ → Message
message_of_bits n = record { low = n % 2 ^ 32; high = n / 2 ^ 32 }
