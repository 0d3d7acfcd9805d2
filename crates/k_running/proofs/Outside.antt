-- What comes from outside keeps the kernel.
use Rattle.std.proofs.Common.{◌≡◌, ℕ, refl, sym, ap, ◌∙◌, subst}
use Rattle.k_script.specs.Script.{Script}
use Rattle.k_world.specs.Frames.{IsSized}
use Rattle.k_world.specs.Lawful.{IsLawfulLog}
use Rattle.k_world.specs.Steps.{parked, sliced, started}
use Rattle.k_world.specs.Worlds.{World}
use Rattle.k_world.proofs.Worlds.{sized_parked, sized_sliced, sized_started}
use Rattle.k_places.specs.Memory.{Memory, memory_of}
use Rattle.k_places.specs.Shows.{context_in}
use Rattle.k_places.proofs.Raw.{maps_parked, maps_sliced, maps_started}
use Rattle.k_handling.specs.Handling.{HasKernel}
use Rattle.k_conditions.specs.Finished.{FinishedWithin}
use Rattle.k_counted.specs.Marks.{MarksHold}
use Rattle.k_running.specs.Running.{KernelHolds}

-- A kernel in which no word, no context and no log differs from that of before.
module _ (script : Script) (w w' : World) (h : KernelHolds script w) (maps : memory_of w' ≡ memory_of w) (waits : w'.waits ≡ w.waits)
    (sized : IsSized w w') (marks : MarksHold script w') where
  finished : FinishedWithin script w'
  finished i v e = h.finished i v (ap (λ (m : Memory). context_in m.context m.slot m.hand i) (sym maps) ∙ e)

  pub stands : HasKernel script h.board w' h.state → KernelHolds script w'
  stands r = record {
    board = h.board;
    view = r.view;
    state = h.state;
    aligned = r.kernel.aligned;
    whole = r.kernel.whole;
    serials = r.kernel.serials;
    spelled = h.spelled;
    helps = r.kernel.helps;
    finished = finished;
    waits = (
      subst IsLawfulLog (sym waits) h.waits.0,
      sized.standing ∙ h.waits.1 ∙ sym sized.carriers,
    );
    marks = marks;
  }

module _ (script : Script) (w : World) (h : KernelHolds script w) where
  started_waits : (c number : ℕ) → (started c number w).waits ≡ w.waits
  unfolding started
  started_waits c number = refl

  sliced_waits : (c : ℕ) → (sliced c w).waits ≡ w.waits
  unfolding sliced
  sliced_waits c = refl

  parked_waits : (c : ℕ) → (parked c w).waits ≡ w.waits
  unfolding parked
  parked_waits c = refl

  pub started_kernel : (c number : ℕ) → HasKernel script h.board (started c number w) h.state →
      MarksHold script (started c number w) → KernelHolds script (started c number w)
  started_kernel c number r marks =
      stands script w (started c number w) h (maps_started c number w) (started_waits c number) (sized_started c number w) marks r

  pub sliced_kernel : (c : ℕ) → HasKernel script h.board (sliced c w) h.state → MarksHold script (sliced c w) →
      KernelHolds script (sliced c w)
  sliced_kernel c r marks = stands script w (sliced c w) h (maps_sliced c w) (sliced_waits c) (sized_sliced c w) marks r

  pub parked_kernel : (c : ℕ) → HasKernel script h.board (parked c w) h.state → MarksHold script (parked c w) →
      KernelHolds script (parked c w)
  parked_kernel c r marks = stands script w (parked c w) h (maps_parked c w) (parked_waits c) (sized_parked c w) marks r
