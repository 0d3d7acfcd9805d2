-- A message and its bits are one for one.
use Rattle.std.proofs.Common.{◌≡◌, ℕ, ◌+◌, ◌*◌, ◌/◌, ◌%◌, ◌^◌, ◌<◌, arith}
use Rattle.k_ids.specs.declared.threads.Message.{Message}
use Rattle.k_ids.specs.Messages.{message_bits, message_of_bits}

pub message-read : (m : Message) → m.low < 2 ^ 32 → message_of_bits (message_bits m) ≡ m
message-read m h =
    let low : (m.low + 2 ^ 32 * m.high) % 2 ^ 32 ≡ m.low = omega (arith, h) in
    let high : (m.low + 2 ^ 32 * m.high) / 2 ^ 32 ≡ m.high = omega (arith, h) in
    λ i. record { low = low i; high = high i }

pub message-spelled : (n : ℕ) → message_bits (message_of_bits n) ≡ n
message-spelled n = omega arith

pub message-small : (m : Message) → m.low < 2 ^ 32 → m.high < 2 ^ 32 → message_bits m < 2 ^ 64
message-small m a b = omega (arith, a, b)
