-- What is done to a carrier from outside, between two of its moves, and whether it has anything to do.
use Rattle.std.specs.Prelude.{ℕ, Bool, true, not, ◌&&◌, is_none, is_some}
use Rattle.k_carrier.specs.Seen.{CarrierSeen}
use Rattle.k_carrier.specs.Starts.{has_start, with_start}

-- it is to start the first thread of this number
abbrev pub started : ℕ → CarrierSeen → CarrierSeen
started number c = record c { starts = with_start c.starts number }

abbrev pub sliced : CarrierSeen → CarrierSeen
sliced c = record c { slice = true }

abbrev pub parked : CarrierSeen → CarrierSeen
parked c = record c { putting = true }

abbrev pub has_hand : CarrierSeen → Bool
has_hand c = is_some c.hand

abbrev pub is_settled : CarrierSeen → Bool
is_settled c = is_none c.goal && not (has_hand c) && not c.switching && not c.counted && not (has_start c.starts)
