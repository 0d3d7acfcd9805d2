use Rattle.k_world.proofs.Booted.{booted_carrier, booted_context, booted_home, booted_lock, booted_mail, booted_sized, booted_slot, booted_state}
use Rattle.k_world.proofs.laws.a_run_begins_so.Goals as goal

pub returns-clause-states : goal.returns-clause-states
returns-clause-states c = booted_state

pub returns-clause-mails : goal.returns-clause-mails
returns-clause-mails c = booted_mail

pub returns-clause-locks : goal.returns-clause-locks
returns-clause-locks c = booted_lock

pub returns-clause-contexts : goal.returns-clause-contexts
returns-clause-contexts c = booted_context

pub returns-clause-homes : goal.returns-clause-homes
returns-clause-homes c = booted_home

pub returns-clause-slots : goal.returns-clause-slots
returns-clause-slots c = booted_slot

pub returns-clause-carriers : goal.returns-clause-carriers
returns-clause-carriers c = booted_carrier

pub returns-clause-sizes : goal.returns-clause-sizes
returns-clause-sizes c = booted_sized
