use Rattle.k_shown.proofs.Alike.{shows_alike}
use Rattle.k_shown.proofs.laws.alike_memories_show_the_same.Goals as goal

pub returns : goal.returns
returns c = shows_alike
