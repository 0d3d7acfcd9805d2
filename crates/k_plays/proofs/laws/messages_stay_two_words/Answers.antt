use Rattle.k_plays.proofs.States.{opened_words, step_words, told_words}
use Rattle.k_plays.proofs.laws.messages_stay_two_words.Goals as goal

pub returns-clause-first : goal.returns-clause-first
returns-clause-first c = opened_words

pub returns-clause-event : goal.returns-clause-event
returns-clause-event c = step_words

pub returns-clause-told : goal.returns-clause-told
returns-clause-told c = told_words
