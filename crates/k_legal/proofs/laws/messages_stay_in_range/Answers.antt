use Rattle.k_legal.proofs.Messages.{messages_keep}
use Rattle.k_legal.proofs.laws.messages_stay_in_range.Goals as goal

pub returns : goal.returns
returns c = λ g b b' i fit m t. messages_keep g b i b' fit m t
