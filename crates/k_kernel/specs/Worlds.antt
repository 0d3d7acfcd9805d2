-- What holds of the running world, and what a move of a carrier needs besides.
use Rattle.std.specs.Prelude.{length}
use Rattle.k_model.specs.State.{KernelState}
use Rattle.k_script.specs.Script.{Script}
use Rattle.k_world.specs.Worlds.{World}
use Rattle.k_board.specs.Boards.{Board}
use Rattle.k_invariant.specs.Invariant.{BoardHolds}
use Rattle.k_places.specs.Shows.{ShowsBoard}
use Rattle.k_kernel.specs.Serials.{SerialsHold}

-- The world shows a board of which all of the invariant holds, with the history that the world has, and the state of the
-- one-step kernel that it leaves; and no serial is above the count of entries by more
-- than one.
pub record WorldHolds (script : Script) (w : World) : Type 0 where
  pub board : Board
  pub state : KernelState
  pub shows : ShowsBoard script w board
  pub holds : BoardHolds script board w.history state
  pub serials : SerialsHold board (length w.history)
