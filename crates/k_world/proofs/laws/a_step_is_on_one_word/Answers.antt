use Rattle.std.proofs.Common.{refl}
use Rattle.k_world.proofs.Worlds.{of_context, slots_other, words_looked, words_other}
use Rattle.k_world.proofs.laws.a_step_is_on_one_word.Goals as goal

pub returns-clause-words : goal.returns-clause-words
returns-clause-words c = words_other

pub returns-clause-slots : goal.returns-clause-slots
returns-clause-slots c = slots_other

pub returns-clause-looks : goal.returns-clause-looks
returns-clause-looks c = λ script w i n. (words_looked w i n, refl)

pub returns-clause-contexts : goal.returns-clause-contexts
returns-clause-contexts c = of_context
