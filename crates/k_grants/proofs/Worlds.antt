-- The world that agrees with a board.
use Rattle.std.proofs.Common.{◌≡◌, sym, subst}
use Rattle.k_ready.specs.Lists.{list_of}
use Rattle.k_board.specs.Boards.{Board}
use Rattle.k_tokens.specs.World.{World}
use Rattle.k_grants.specs.Views.{name_by, threads_of}
use Rattle.k_grants.specs.Granted.{Agrees}

abbrev pub world_of : World → Board → World
world_of w b = record w {
  threads = threads_of w.threads.priority b;
  ready_owner = name_by b.size b.ready;
  lists = list_of b.lists.lists;
  running = b.lists.running;
}

pub world_is : (w : World) (b : Board) → Agrees b w → w ≡ world_of w b
world_is w b a = λ z. record w { threads = a.threads z; ready_owner = a.ready z; lists = a.lists z; running = a.running z }

-- what holds of a world that agrees holds of this one, and back
pub to_world : (P : World → Type 0) (w : World) (b : Board) → Agrees b w → P w → P (world_of w b)
to_world P w b a h = subst P (world_is w b a) h

pub from_world : (P : World → Type 0) (w : World) (b : Board) → Agrees b w → P (world_of w b) → P w
from_world P w b a h = subst P (sym (world_is w b a)) h
