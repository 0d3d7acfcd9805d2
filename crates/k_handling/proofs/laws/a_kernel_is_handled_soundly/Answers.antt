use Rattle.k_handling.proofs.Soundly.{handled_soundly}
use Rattle.k_handling.proofs.laws.a_kernel_is_handled_soundly.Goals as goal

pub returns : goal.returns
returns c = λ script b v d w entries state h contexts carriers. handled_soundly script b v d w entries state h contexts carriers
