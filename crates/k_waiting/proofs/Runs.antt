-- What each turn of the one carrier keeps, a run keeps.
use Rattle.std.proofs.Common.{◌≡◌, ◌<◌, ℕ, true, sym, subst, length, List, [], ◌∷◌, arith}
use Rattle.k_script.specs.Script.{Script}
use Rattle.k_carrier.specs.Starts.{is_due}
use Rattle.k_world.specs.Runs.{Turn, after_turns}
use Rattle.k_world.specs.Runs as run
use Rattle.k_world.specs.Steps.{moved, parked, sliced, started}
use Rattle.k_world.specs.Worlds.{World}
use Rattle.k_running.specs.Running.{KernelHolds}
use Rattle.k_running.specs.Runs.{AreTurnsOf}
use Rattle.k_waits.specs.Waits.{WaitsHold}

-- the kernel with its waits
pub record AllHolds (script : Script) (w : World) : Type 0 where
  pub kernel : KernelHolds script w
  pub waits : WaitsHold script w

-- each turn of the carrier keeps it
pub record KeepsAll (script : Script) : Type 0 where
  pub step : (w : World) → AllHolds script w → AllHolds script (moved script 0 w)
  pub start : (w : World) (number : ℕ) → AllHolds script w → is_due w.unstarted number ≡ true → AllHolds script
      (started 0 number w)
  pub slice : (w : World) → AllHolds script w → AllHolds script (sliced 0 w)
  pub park : (w : World) → AllHolds script w → AllHolds script (parked 0 w)

module _ (script : Script) (keeps : KeepsAll script) where
  only : (w : World) (c : ℕ) → AllHolds script w → c < length w.carriers → c ≡ 0
  only w c h low = let one = h.waits.carriers in omega (arith, low, one)

  pub turns_keep : (turns : List Turn) (w : World) → AllHolds script w → AreTurnsOf script turns w →
      AllHolds script (after_turns script turns w)
  turns_keep [] w h t = h
  turns_keep (run.Step c ∷ turns) w h t =
      turns_keep turns (moved script c w)
      (subst (λ d. AllHolds script (moved script d w)) (sym (only w c h t.0)) (keeps.step w h)) t.1
  turns_keep (run.Start c number ∷ turns) w h t =
      turns_keep turns (started c number w)
      (subst (λ d. AllHolds script (started d number w)) (sym (only w c h t.0.0)) (keeps.start w number h t.0.1)) t.1
  turns_keep (run.Slice c ∷ turns) w h t =
      turns_keep turns (sliced c w) (subst (λ d. AllHolds script (sliced d w)) (sym (only w c h t.0)) (keeps.slice w h)) t.1
  turns_keep (run.Park c ∷ turns) w h t =
      turns_keep turns (parked c w) (subst (λ d. AllHolds script (parked d w)) (sym (only w c h t.0)) (keeps.park w h)) t.1
