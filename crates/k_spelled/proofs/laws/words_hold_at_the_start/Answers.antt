use Rattle.k_spelled.proofs.Worlds.{words_start}
use Rattle.k_spelled.proofs.laws.words_hold_at_the_start.Goals as goal

pub returns : goal.returns
returns c = words_start
