use Rattle.k_legal.proofs.Runs.{runs_are_legal}
use Rattle.k_legal.proofs.laws.every_run_leaves_a_legal_history.Goals as goal

pub returns : goal.returns
returns c = λ g b threads h small names fit serve es b' run. runs_are_legal g b threads h small names fit serve es b' run
