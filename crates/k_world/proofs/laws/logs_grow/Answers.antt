use Rattle.k_world.proofs.Later.{history_stays, waits_later}
use Rattle.k_world.proofs.Worlds.{history_by_one, history_grows, links_grow, steps_grow}
use Rattle.k_world.proofs.laws.logs_grow.Goals as goal

pub returns-clause-history : goal.returns-clause-history
returns-clause-history c = history_grows

pub returns-clause-one : goal.returns-clause-one
returns-clause-one c = history_by_one

pub returns-clause-steps : goal.returns-clause-steps
returns-clause-steps c = steps_grow

pub returns-clause-links : goal.returns-clause-links
returns-clause-links c = links_grow

pub returns-clause-waits : goal.returns-clause-waits
returns-clause-waits c = waits_later

pub returns-clause-sections : goal.returns-clause-sections
returns-clause-sections c = history_stays
