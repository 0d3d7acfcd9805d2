use Rattle.k_turns.proofs.Comes.{needs_met}
use Rattle.k_turns.proofs.laws.the_facts_of_a_location_meet_what_its_step_needs.Goals as goal

pub returns : goal.returns
returns c = needs_met
