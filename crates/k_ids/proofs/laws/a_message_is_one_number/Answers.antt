use Rattle.k_ids.proofs.MessagePacked.{message-read, message-spelled, message-small}
use Rattle.k_ids.proofs.laws.a_message_is_one_number.Goals as goal

pub returns-clause-read : goal.returns-clause-read
returns-clause-read c = message-read

pub returns-clause-spelled : goal.returns-clause-spelled
returns-clause-spelled c = message-spelled

pub returns-clause-small : goal.returns-clause-small
returns-clause-small c = message-small
