-- The counts hold of each world that a run comes to.
use Rattle.std.proofs.Common.{List, [], ◌∷◌}
use Rattle.k_script.specs.Limits.{IsScript}
use Rattle.k_script.specs.Script.{Script}
use Rattle.k_world.specs.Runs.{Turn, after_turns, turned}
use Rattle.k_world.specs.Runs as run
use Rattle.k_world.specs.Worlds.{World}
use Rattle.k_kernel.specs.Moves.{HasRoom}
use Rattle.k_kernel.specs.Runs.{AreRunnable, CanTurn}
use Rattle.k_kernel.specs.Worlds.{WorldHolds}
use Rattle.k_kernel.proofs.Schedules.{turned_holds}
use Rattle.k_counted.specs.Marks.{MarksHold}
use Rattle.k_counted.proofs.Tallied.{moved_counts, parked_counts, sliced_counts, started_counts}

module _ (script : Script) (limits : IsScript script) (room : HasRoom script) where
  turned_counts : (w : World) (t : Turn) → CanTurn script w t → WorldHolds script w → MarksHold script w →
      MarksHold script (turned script t w)
  turned_counts w (run.Step c) can h marks = moved_counts script limits room c w h can marks
  turned_counts w (run.Start c number) can h marks = started_counts script w c number marks
  turned_counts w (run.Slice c) can h marks = sliced_counts script w c marks
  turned_counts w (run.Park c) can h marks = parked_counts script w c marks

  pub turns_count : (turns : List Turn) (w : World) → AreRunnable script turns w → WorldHolds script w → MarksHold script w →
      MarksHold script (after_turns script turns w)
  turns_count [] w can h marks = marks
  turns_count (t ∷ turns) w can h marks =
      turns_count turns (turned script t w) can.1 (turned_holds script limits room w t can.0 h)
      (turned_counts w t can.0 h marks)
