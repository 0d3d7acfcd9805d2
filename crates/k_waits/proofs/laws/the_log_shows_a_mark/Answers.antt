use Rattle.k_waits.proofs.Logs.{shows_begun, shows_counted, shows_linked, within_allowed}
use Rattle.k_waits.proofs.laws.the_log_shows_a_mark.Goals as goal

pub returns-clause-begun : goal.returns-clause-begun
returns-clause-begun c = shows_begun

pub returns-clause-linked : goal.returns-clause-linked
returns-clause-linked c = shows_linked

pub returns-clause-counted : goal.returns-clause-counted
returns-clause-counted c = shows_counted

pub returns-clause-within : goal.returns-clause-within
returns-clause-within c = within_allowed
