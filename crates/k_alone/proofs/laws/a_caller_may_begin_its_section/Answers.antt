use Rattle.k_alone.proofs.Begun.{picks_begun, runs_begun, word_begun}
use Rattle.k_alone.proofs.laws.a_caller_may_begin_its_section.Goals as goal

pub returns-clause-word : goal.returns-clause-word
returns-clause-word c = word_begun

pub returns-clause-runs : goal.returns-clause-runs
returns-clause-runs c = runs_begun

pub returns-clause-picks : goal.returns-clause-picks
returns-clause-picks c = picks_begun
