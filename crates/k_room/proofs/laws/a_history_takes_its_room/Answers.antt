use Rattle.k_room.proofs.Wholes.{calls_are_few, come_falls, left_few, next_few, serials_few, whole_few}
use Rattle.k_room.proofs.laws.a_history_takes_its_room.Goals as goal

pub returns-clause-whole : goal.returns-clause-whole
returns-clause-whole c = whole_few

pub returns-clause-left : goal.returns-clause-left
returns-clause-left c = left_few

pub returns-clause-falls : goal.returns-clause-falls
returns-clause-falls c = λ script es k n at e s h x. come_falls script es k at s h n e x

pub returns-clause-next : goal.returns-clause-next
returns-clause-next c = λ script es k n at e s h x. next_few script es k at s h n e x

pub returns-clause-serials : goal.returns-clause-serials
returns-clause-serials c = λ script es k at t s h alive. serials_few script es k at s h t alive

pub returns-clause-calls : goal.returns-clause-calls
returns-clause-calls c = λ script es k at t program s h is. calls_are_few script es k at s h t program is
