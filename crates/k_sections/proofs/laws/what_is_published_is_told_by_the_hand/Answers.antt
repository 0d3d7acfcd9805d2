use Rattle.k_sections.specs.Situations.{hand_at}
use Rattle.k_sections.proofs.Resting.{by_hand}
use Rattle.k_sections.proofs.laws.what_is_published_is_told_by_the_hand.Goals as goal

pub returns : goal.returns
returns c = λ b i p k. by_hand (hand_at b i p) p k
