use Rattle.k_ending.proofs.Finished.{at_end, nobody_runs, nothing_comes, own_idle}
use Rattle.k_ending.proofs.Told.{ending}
use Rattle.k_ending.proofs.laws.idle_is_the_end.Goals as goal

pub returns : goal.returns
returns c = λ script w n h low idle all due.
    let end = ending script w n idle in
    at_end script w h n low end all due
    (c.idle_means_finished.ensures script h.board h.view w.history h.state n h.whole (own_idle script w h n low end all due)
    (nobody_runs script w h n low end all due) (nothing_comes script w h n low end all due))
