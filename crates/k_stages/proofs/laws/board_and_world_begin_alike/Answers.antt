use Rattle.k_stages.proofs.Opening.{begins_alike}
use Rattle.k_stages.proofs.laws.board_and_world_begin_alike.Goals as goal

pub returns : goal.returns
returns c = λ g b o h. begins_alike g b o h
