use Rattle.k_points.proofs.Ledgers.{turn_noted}
use Rattle.k_points.proofs.laws.every_turn_notes_its_point.Goals as goal

pub returns : goal.returns
returns c = λ g b b' i t n. turn_noted g b i b' t n
