use Rattle.k_senders.proofs.EntrySpelled.{entry_message, entry_number, entry_sender, entry_small, entry_spelled, entry_version, number_small, sender_same, sender_tested, version_small}
use Rattle.k_senders.proofs.laws.an_entry_is_a_sender_and_a_message.Goals as goal

pub returns-clause-number_small : goal.returns-clause-number_small
returns-clause-number_small c = number_small

pub returns-clause-number : goal.returns-clause-number
returns-clause-number c = entry_number

pub returns-clause-version_small : goal.returns-clause-version_small
returns-clause-version_small c = version_small

pub returns-clause-version : goal.returns-clause-version
returns-clause-version c = entry_version

pub returns-clause-sender : goal.returns-clause-sender
returns-clause-sender c = entry_sender

pub returns-clause-small : goal.returns-clause-small
returns-clause-small c = entry_small

pub returns-clause-spelled : goal.returns-clause-spelled
returns-clause-spelled c = entry_spelled

pub returns-clause-same : goal.returns-clause-same
returns-clause-same c = sender_same

pub returns-clause-tested : goal.returns-clause-tested
returns-clause-tested c = sender_tested

pub returns-clause-message : goal.returns-clause-message
returns-clause-message c = entry_message
