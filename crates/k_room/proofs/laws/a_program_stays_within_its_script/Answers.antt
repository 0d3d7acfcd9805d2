use Rattle.k_room.proofs.Wholes.{place_within, present_has, told_within}
use Rattle.k_room.proofs.laws.a_program_stays_within_its_script.Goals as goal

pub returns-clause-present : goal.returns-clause-present
returns-clause-present c = present_has

pub returns-clause-within : goal.returns-clause-within
returns-clause-within c = λ script es k at t program s h is. place_within script es k at s h t program is

pub returns-clause-told : goal.returns-clause-told
returns-clause-told c = λ script es k id serial s f. told_within script es k s f id serial
