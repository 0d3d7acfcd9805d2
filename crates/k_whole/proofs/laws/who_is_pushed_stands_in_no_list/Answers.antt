use Rattle.k_plays.specs.Scripts.{ranged_programs}
use Rattle.k_whole.proofs.Conditions.{pushed_unlisted}
use Rattle.k_whole.proofs.laws.who_is_pushed_stands_in_no_list.Goals as goal

pub returns : goal.returns
returns c = λ script b w es k i p who h e. pushed_unlisted (ranged_programs script) b w h.pair i who p e
