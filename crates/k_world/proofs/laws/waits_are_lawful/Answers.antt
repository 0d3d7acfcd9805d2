use Rattle.k_world.proofs.Worlds.{lawful_booted, lawful_moved}
use Rattle.k_world.proofs.laws.waits_are_lawful.Goals as goal

pub returns-clause-booted : goal.returns-clause-booted
returns-clause-booted c = lawful_booted

pub returns-clause-moved : goal.returns-clause-moved
returns-clause-moved c = lawful_moved
