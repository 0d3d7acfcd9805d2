-- A history that plays its script, whose threads stay within it and make few calls.
use Rattle.std.specs.Prelude.{◌≡◌, ◌≤◌, ℕ, ◌+◌, false, List}
use Rattle.k_ids.specs.declared.histories.Entry.{Entry}
use Rattle.k_model.specs.State.{KernelState, is_dead}
use Rattle.k_script.specs.Script.{Script}
use Rattle.k_script.specs.Weight.{phases_of}
use Rattle.k_script.specs.Plays.{Position, IsWithin, phases_left}
use Rattle.k_positions.proofs.Playing.{IsPlaying}

-- The number's thread stays within the script, and never makes more calls than that.
pub record IsInBounds (script : Script) (k : KernelState) (at : ℕ → Position) (t : ℕ) : Type 0 where
  pub within : IsWithin script (at t)
  pub bounded : (k.place t).serial + phases_left script (at t) ≤ phases_of script

-- The history is legal and plays the script up to these positions, and all threads that are there are in bounds.
pub record IsCounted (script : Script) (es : List Entry) (k : KernelState) (at : ℕ → Position) : Type 0 where
  pub playing : IsPlaying script es k at
  pub bounds : (t : ℕ) → is_dead (k.place t).status ≡ false → IsInBounds script k at t
