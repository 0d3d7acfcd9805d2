-- An entry names its sender and has its message: what can be known of entries without their bits.
use Rattle.std.proofs.Common.{◌≡◌, ◌<◌, ℕ, ◌+◌, ◌*◌, ◌/◌, ◌%◌, ◌^◌, arith, refl, sym, ◌∙◌, ap}
use Rattle.std.specs.Prelude.{◌==◌, ◌&&◌, ◌↔◌}
use Rattle.std.proofs.lemmas.Grind.{common_steps}
use Rattle.k_ids.specs.declared.threads.ThreadId.{ThreadId}
use Rattle.k_ids.specs.declared.threads.Message.{Message}
use Rattle.k_ids.proofs.MessagePacked.{message-read, message-spelled}
use Rattle.k_senders.specs.declared.entries.SenderEntry.{SenderEntry}
use Rattle.k_senders.specs.Entries.{IsEntry, entry_for, message_of, number_of, sender_of, thread_of, who_of}

-- NUMBER

pub number_small : (e : SenderEntry) → number_of e < 64
unfolding sender_of thread_of
number_small e = omega arith

pub entry_number : (who : ThreadId) (message : Message) → who.number < 64 → number_of (entry_for who message) ≡ who.number
unfolding sender_of thread_of entry_for who_of
entry_number who message n = omega (arith, n)

-- VERSION

pub version_small : (e : SenderEntry) → (sender_of e).version < 2 ^ 20
unfolding sender_of thread_of
version_small e = omega arith

pub entry_version : (who : ThreadId) (message : Message) → who.number < 64 → who.version < 2 ^ 20 → (sender_of (entry_for who message)).version ≡ who.version
unfolding sender_of thread_of entry_for who_of
entry_version who message n v = omega (arith, n, v)

-- ROUND TRIP

pub thread_named : (who : ThreadId) → who.number < 64 → who.version < 2 ^ 20 → thread_of (who_of who) ≡ who
unfolding thread_of who_of
thread_named who n v =
    let en : (64 * who.version + who.number) % 64 ≡ who.number = omega (arith, n) in
    let ev : (64 * who.version + who.number) / 64 % 2 ^ 20 ≡ who.version = omega (arith, n, v) in
    λ d. record { number = en d; version = ev d }

pub thread_spelled : (n : ℕ) → n < 2 ^ 26 → who_of (thread_of n) ≡ n
unfolding thread_of who_of
thread_spelled n small = omega (arith, small)

pub entry_sender : (who : ThreadId) (message : Message) → who.number < 64 → who.version < 2 ^ 20 → sender_of (entry_for who message) ≡ who
unfolding sender_of entry_for
entry_sender who message n v = thread_named who n v

pub who_small : (who : ThreadId) → who.number < 64 → who.version < 2 ^ 20 → who_of who < 2 ^ 26
unfolding who_of
who_small who n v = omega (arith, n, v)

pub entry_small : (who : ThreadId) (message : Message) → who.number < 64 → who.version < 2 ^ 20 → IsEntry (entry_for who message)
unfolding entry_for
entry_small who message n v = who_small who n v

-- the bits name the sender
pub sender_named : (e : SenderEntry) → sender_of e ≡ thread_of e.who
unfolding sender_of
sender_named e = refl

pub sender_spelled : (e : SenderEntry) → IsEntry e → who_of (sender_of e) ≡ e.who
unfolding sender_of
sender_spelled e small = thread_spelled e.who small

-- an entry is spelled from its sender and its message
pub entry_spelled : (e : SenderEntry) → IsEntry e → entry_for (sender_of e) (message_of e) ≡ e
unfolding entry_for message_of
entry_spelled e small = λ d. record { who = sender_spelled e small d; message = message-spelled e.message d }

-- an entry has the bits of a thread exactly where the thread is its sender
pub sender_same : (e : SenderEntry) (id : ThreadId) → IsEntry e → id.number < 64 → id.version < 2 ^ 20 → (e.who ≡ who_of id) ↔ (sender_of e ≡ id)
sender_same e id small n v = (
  λ same. sender_named e ∙ ap thread_of same ∙ thread_named id n v,
  λ same. sym (sender_spelled e small) ∙ ap who_of same,
)

same_thread : (a b : ThreadId) → a.number ≡ b.number → a.version ≡ b.version → a ≡ b
same_thread a b number version = λ d. record { number = number d; version = version d }

pub sender_tested : (e : SenderEntry) (id : ThreadId) → IsEntry e → id.number < 64 → id.version < 2 ^ 20 → (e.who == who_of id) ≡ ((number_of e == id.number) && ((sender_of e).version == id.version))
sender_tested e id small n v =
    let named = sender_named e in
    let back = thread_named id n v in
    let spelled = sender_spelled e small in
    grind (arith, common_steps, same_thread (sender_of e) id)

-- MESSAGE

pub entry_message : (who : ThreadId) (message : Message) → message.low < 2 ^ 32 → message_of (entry_for who message) ≡ message
unfolding message_of entry_for
entry_message who message low = message-read message low
