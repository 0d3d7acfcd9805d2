use Rattle.k_plays.proofs.Points.{starts_played}
use Rattle.k_plays.proofs.laws.no_entry_plays_the_script.Goals as goal

pub returns : goal.returns
returns c = starts_played
