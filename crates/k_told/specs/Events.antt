-- What a step makes of the history, and of the state of the sequential specification that a world shows.
use Rattle.std.specs.Prelude.{◌≡◌, Ok}
use Rattle.k_ids.specs.declared.histories.Entry.{Entry}
use Rattle.k_model.specs.State.{KernelState}
use Rattle.k_model.specs.Step.{step}
use Rattle.k_script.specs.Script.{Script}
use Rattle.k_room.specs.Histories.{Follows}
use Rattle.k_world.specs.Worlds.{World}
use Rattle.k_board.specs.Boards.{Board}
use Rattle.k_legal.specs.Follows.{IsFollowed}
use Rattle.k_places.specs.Shows.{ShowsBoard}

-- The world shows this state: it shows a board that does, with who waits to send.
pub record ShowsState (script : Script) (w : World) (k : KernelState) : Type 0 where
  pub board : Board
  pub shows : ShowsBoard script w board
  pub followed : IsFollowed board k

-- The world's history follows the script and leaves this state, which the world shows.
pub record IsAt (script : Script) (w : World) (k : KernelState) : Type 0 where
  pub follows : Follows script w.history k
  pub shown : ShowsState script w k

-- In state `k` the entry's event may be made, and has its outcome (Herlihy and Wing, *Linearizability*); and the world is at the
-- state that it leaves.
pub record IsEventOf (script : Script) (k : KernelState) (e : Entry) (w : World) : Type 0 where
  pub new : KernelState
  pub made : step k e.event ≡ Ok (new, e.outcome)
  pub now : IsAt script w new
