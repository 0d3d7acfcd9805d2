use Rattle.k_plays.proofs.Calls.{begins_next, next_in_bounds}
use Rattle.k_plays.proofs.laws.a_program_gives_its_next_phase.Goals as goal

pub returns-clause-phase : goal.returns-clause-phase
returns-clause-phase c = λ script g p r f after are bounds b. (begins_next script g p r f after are bounds b).phase

pub returns-clause-leads : goal.returns-clause-leads
returns-clause-leads c = λ script g p r f after are bounds b. (begins_next script g p r f after are bounds b).leads

pub returns-clause-sends : goal.returns-clause-sends
returns-clause-sends c =
    λ script g p r f after are bounds b. (next_in_bounds script p r f after bounds
    (begins_next script g p r f after are bounds b)).0

pub returns-clause-stays : goal.returns-clause-stays
returns-clause-stays c =
    λ script g p r f after are bounds b. (next_in_bounds script p r f after bounds
    (begins_next script g p r f after are bounds b)).1
