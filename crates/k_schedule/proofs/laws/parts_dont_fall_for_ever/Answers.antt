use Rattle.k_schedule.proofs.Parts.{no_endless_fall}
use Rattle.k_schedule.proofs.laws.parts_dont_fall_for_ever.Goals as goal

pub returns : goal.returns
returns c = no_endless_fall
