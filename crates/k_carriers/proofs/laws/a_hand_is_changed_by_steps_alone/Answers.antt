use Rattle.std.proofs.Common.{Bool, refl}
use Rattle.k_carrier.specs.Flags.{has_hand}
use Rattle.k_carrier.specs.Seen.{CarrierSeen}
use Rattle.k_carriers.proofs.Carriers.{park_keeps, slice_keeps, start_keeps}
use Rattle.k_carriers.proofs.laws.a_hand_is_changed_by_steps_alone.Goals as goal

pub returns-clause-start : goal.returns-clause-start
returns-clause-start c = λ w k number i. start_keeps has_hand w k number i refl

pub returns-clause-slice : goal.returns-clause-slice
returns-clause-slice c = λ w k i. slice_keeps has_hand w k i refl

pub returns-clause-park : goal.returns-clause-park
returns-clause-park c = λ w k i. park_keeps has_hand w k i refl

pub returns-clause-start_parked : goal.returns-clause-start_parked
returns-clause-start_parked c = λ w k number i. start_keeps (λ (x : CarrierSeen). x.putting) w k number i refl

pub returns-clause-slice_parked : goal.returns-clause-slice_parked
returns-clause-slice_parked c = λ w k i. slice_keeps (λ (x : CarrierSeen). x.putting) w k i refl
