use Rattle.k_spelled.proofs.Moves.{turn_words, turns_words}
use Rattle.k_spelled.proofs.laws.every_turn_keeps_the_words.Goals as goal

pub returns-clause-turn : goal.returns-clause-turn
returns-clause-turn c = λ script b b' es k i limits h words t. turn_words script limits b es k h words i b' t

pub returns-clause-turns : goal.returns-clause-turns
returns-clause-turns c = λ script b b' es k i n limits h words ts. turns_words script limits i n b b' es k h words ts
