use Rattle.k_work.proofs.Whole.{step_lowers}
use Rattle.k_work.proofs.laws.each_step_of_a_lone_carrier_lowers_its_work.Goals as goal

pub returns : goal.returns
returns c = λ script work b b' w entries k d step counts h alone low s kind support silent alive room.
    step_lowers script work b w entries k d b' step counts h alone low s kind support silent alive room
