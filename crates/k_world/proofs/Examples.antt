-- The worked runs come out as they are said to, by computing them.
use Rattle.std.proofs.Common.{refl}
use Rattle.k_ids.specs.ContextWords.{context_bits, context_word_of}
use Rattle.k_ids.specs.LockWords.{lock_bits, lock_word_of}
use Rattle.k_ids.specs.StateWords.{state_bits, state_word_of}
use Rattle.k_ready.specs.Popped.{highest_below}
use Rattle.k_senders.specs.Entries.{entry_for, message_of, sender_of, thread_of, who_of}
use Rattle.k_locks.specs.Asks.{same_word}
use Rattle.k_world.specs.Boot.{booted}
use Rattle.k_world.specs.Examples.{ClientIsHelped, CreatorHelpsTwo, ReceiverIsHelped}
use Rattle.k_world.specs.Steps.{moved, parked, started, step_in}

pub client_is_helped : ClientIsHelped
unfolding moved booted step_in context_bits context_word_of lock_bits lock_word_of state_bits state_word_of highest_below entry_for message_of sender_of thread_of who_of same_word
client_is_helped = refl

pub creator_helps_two : CreatorHelpsTwo
unfolding moved booted step_in started context_bits context_word_of lock_bits lock_word_of state_bits state_word_of highest_below entry_for message_of sender_of thread_of who_of same_word
creator_helps_two = refl

pub receiver_is_helped : ReceiverIsHelped
unfolding moved booted step_in parked context_bits context_word_of lock_bits lock_word_of state_bits state_word_of highest_below entry_for message_of sender_of thread_of who_of same_word
receiver_is_helped = refl
