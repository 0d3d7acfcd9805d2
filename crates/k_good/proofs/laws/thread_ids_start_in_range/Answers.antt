use Rattle.k_good.proofs.RangesStart.{within_starts}
use Rattle.k_good.proofs.laws.thread_ids_start_in_range.Goals as goal

pub returns : goal.returns
returns c = λ g b h count few. within_starts g b h count few
