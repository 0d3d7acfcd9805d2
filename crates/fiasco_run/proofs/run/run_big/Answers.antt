use Rattle.fiasco_run.proofs.Accepted.{big_run}
use Rattle.fiasco_run.proofs.run.run_big.Goals as goal

pub returns : goal.returns
returns c = big_run c.args.number _ c.run.result c.in_ok-script.ensures c.run.ensures
