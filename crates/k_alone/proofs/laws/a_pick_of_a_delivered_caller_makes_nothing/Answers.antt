use Rattle.k_alone.proofs.PickRuns.{runs_delivered}
use Rattle.k_alone.proofs.laws.a_pick_of_a_delivered_caller_makes_nothing.Goals as goal

pub returns : goal.returns
returns c = λ me serial m own good d. runs_delivered me serial m own good d
