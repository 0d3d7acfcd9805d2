-- All of it holds of each world that a run comes to.
use Rattle.std.proofs.Common.{List, [], ◌∷◌}
use Rattle.k_script.specs.Limits.{IsScript}
use Rattle.k_script.specs.Script.{Script}
use Rattle.k_world.specs.Runs.{Turn, after_turns, turned}
use Rattle.k_world.specs.Runs as run
use Rattle.k_world.specs.Worlds.{World}
use Rattle.k_kernel.specs.Moves.{HasRoom}
use Rattle.k_kernel.specs.Runs.{AreRunnable, CanTurn}
use Rattle.k_kernel.specs.Worlds.{WorldHolds}
use Rattle.k_kernel.proofs.Outside.{parked_holds, sliced_holds, started_holds}
use Rattle.k_kernel.proofs.Runs.{moved_holds}

module _ (script : Script) (limits : IsScript script) (room : HasRoom script) where
  pub turned_holds : (w : World) (t : Turn) → CanTurn script w t → WorldHolds script w → WorldHolds script (turned script t w)
  turned_holds w (run.Step c) can h = moved_holds script limits c w h room can
  turned_holds w (run.Start c number) can h = started_holds script w h c number
  turned_holds w (run.Slice c) can h = sliced_holds script w h c
  turned_holds w (run.Park c) can h = parked_holds script w h c

  pub turns_hold : (turns : List Turn) (w : World) → AreRunnable script turns w → WorldHolds script w →
      WorldHolds script (after_turns script turns w)
  turns_hold [] w can h = h
  turns_hold (t ∷ turns) w can h = turns_hold turns (turned script t w) can.1 (turned_holds w t can.0 h)
