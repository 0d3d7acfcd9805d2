-- The state of the one-step kernel that a board shows, with who waits to send; and what a turn makes of it.
use Rattle.std.specs.Prelude.{Option}
use Rattle.k_model.specs.Sound.{IsListed}
use Rattle.k_model.specs.State.{KernelState}
use Rattle.k_locks.specs.declared.points.Point.{Point}
use Rattle.k_board.specs.Words.{Programs}
use Rattle.k_board.specs.Boards.{Board}
use Rattle.k_points.specs.Points.{Grows}
use Rattle.k_points.specs.Shown.{IsShown}
use Rattle.k_legal.specs.Waiting.{ShowsLists}

-- The state is the one that the board shows, lists and all; and who sends, sends to a thread that its number has or had.
pub record IsFollowed (b : Board) (k : KernelState) : Type 0 where
  pub shown : IsShown b k
  pub lists : ShowsLists b k
  pub listed : IsListed k

-- A turn with this point is followed: the new board shows a state again, which is the same or the one that the point's event
-- leaves.
pub record Follows (g : Programs) (b : Board) (k : KernelState) (p : Option Point) (b' : Board) : Type 0 where
  pub new : KernelState
  pub followed : IsFollowed b' new
  pub history : Grows g b k p new b'
