use Rattle.k_moves.proofs.Looks.{look_drops, look_keeps, look_same}
use Rattle.k_moves.proofs.laws.a_look_is_the_same.Goals as goal

pub returns-clause-look : goal.returns-clause-look
returns-clause-look c = look_same

pub returns-clause-replaced : goal.returns-clause-replaced
returns-clause-replaced c = look_drops

pub returns-clause-kept : goal.returns-clause-kept
returns-clause-kept c = look_keeps
