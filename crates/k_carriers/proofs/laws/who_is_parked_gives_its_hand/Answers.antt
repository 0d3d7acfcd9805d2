use Rattle.k_carriers.proofs.Carriers.{gives_hand, park_puts}
use Rattle.k_carriers.proofs.laws.who_is_parked_gives_its_hand.Goals as goal

pub returns-clause-parked : goal.returns-clause-parked
returns-clause-parked c = park_puts

pub returns-clause-gives : goal.returns-clause-gives
returns-clause-gives c = λ script w k low e some. gives_hand script w k low e some
