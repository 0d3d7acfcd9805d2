use Rattle.k_core.proofs.boot.resting_at.Goals as goal

pub returns-then-is_carriers-clause-placed : goal.returns-then-is_carriers-clause-placed
returns-then-is_carriers-clause-placed c = c.of_carrier.ensures.placed c.args.script.now
