-- What each turn keeps, a run keeps.
use Rattle.std.proofs.Common.{◌≡◌, ◌<◌, ℕ, true, length, List, [], ◌∷◌}
use Rattle.k_script.specs.Script.{Script}
use Rattle.k_carrier.specs.Starts.{is_due}
use Rattle.k_world.specs.Runs.{Turn, after_turns}
use Rattle.k_world.specs.Runs as run
use Rattle.k_world.specs.Steps.{moved, parked, sliced, started}
use Rattle.k_world.specs.Worlds.{World}
use Rattle.k_running.specs.Running.{KernelHolds}
use Rattle.k_running.specs.Runs.{AreTurnsOf}

-- each turn keeps the kernel
pub record KeepsKernel (script : Script) : Type 0 where
  pub step : (w : World) (c : ℕ) → c < length w.carriers → KernelHolds script w → KernelHolds script (moved script c w)
  pub start : (w : World) (c number : ℕ) → KernelHolds script w → c < length w.carriers → is_due w.unstarted number ≡ true →
      KernelHolds script (started c number w)
  pub slice : (w : World) (c : ℕ) → KernelHolds script w → c < length w.carriers → KernelHolds script (sliced c w)
  pub park : (w : World) (c : ℕ) → KernelHolds script w → c < length w.carriers → KernelHolds script (parked c w)

module _ (script : Script) (keeps : KeepsKernel script) where
  pub turns_keep : (turns : List Turn) (w : World) → KernelHolds script w → AreTurnsOf script turns w →
      KernelHolds script (after_turns script turns w)
  turns_keep [] w h t = h
  turns_keep (run.Step c ∷ turns) w h t = turns_keep turns (moved script c w) (keeps.step w c t.0 h) t.1
  turns_keep (run.Start c number ∷ turns) w h t =
      turns_keep turns (started c number w) (keeps.start w c number h t.0.0 t.0.1) t.1
  turns_keep (run.Slice c ∷ turns) w h t = turns_keep turns (sliced c w) (keeps.slice w c h t.0) t.1
  turns_keep (run.Park c ∷ turns) w h t = turns_keep turns (parked c w) (keeps.park w c h t.0) t.1
