use Rattle.k_good.proofs.Goods.{supports}
use Rattle.k_good.proofs.RangesKeep.{within_keeps}
use Rattle.k_good.proofs.laws.thread_ids_stay_in_range.Goals as goal

pub returns : goal.returns
returns c = λ g b b' i h w names q t. within_keeps g b h.places w names i b' (supports g b i h q) t
