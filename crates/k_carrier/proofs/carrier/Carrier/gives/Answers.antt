use Rattle.std.proofs.Common.{refl}
use Rattle.k_carrier.proofs.carrier.Carrier.gives.Goals as goal

pub returns : goal.returns
returns c = λ script. rw (c.is_some-has_switched.ensures, c.own_switched.ensures script, c.is_released-is_released.ensures script, c.is_in_the_way-is_in_the_way.ensures script, c.is_nobodys-is_nobodys.ensures script, c.is_stopped-is_stopped.ensures script) refl
