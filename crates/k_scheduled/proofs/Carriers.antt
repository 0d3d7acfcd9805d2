-- What a schedule asks of the carriers one by one, of the kernel's.
use Rattle.std.proofs.Common.{◌≡◌, ◌≢◌, ℕ, refl, ap}
use Rattle.k_script.specs.declared.lines.AtWhat.{AtWhat}
use Rattle.k_script.specs.declared.lines.AtWhat.TheVariants as what
use Rattle.k_script.specs.Script.{Script}
use Rattle.k_carrier.specs.Flags.{has_hand, is_settled}
use Rattle.k_carrier.specs.Seen.{CarrierSeen}
use Rattle.k_world.specs.Worlds.{World, carrier_at}
use Rattle.k_schedule.specs.Carriers.{Carriers, happens}
use Rattle.k_carriers.specs.Kernel.{kernel_carriers}
use Rattle.k_carriers.proofs.Carriers.{park_keeps, slice_keeps, start_keeps, start_other, step_other}

module _ (script : Script) (w : World) where
  abbrev kernel : Carriers World
  kernel = kernel_carriers script

  pub settled_step : (c i : ℕ) → i ≢ c → kernel.settled (kernel.step w c) i ≡ kernel.settled w i
  settled_step c i ne = ap is_settled (step_other script w c i ne)

  pub settled_event : (event : AtWhat) (c i : ℕ) → i ≢ c → kernel.settled (happens kernel w c event) i ≡ kernel.settled w i
  settled_event (what.Start number) c i ne = ap is_settled (start_other w c number i ne)
  settled_event (what.Slice carrier) c i ne = slice_keeps is_settled w carrier i refl

  pub hand_step : (c i : ℕ) → i ≢ c → kernel.has_hand (kernel.step w c) i ≡ kernel.has_hand w i
  hand_step c i ne = ap has_hand (step_other script w c i ne)

  pub hand_event : (event : AtWhat) (c i : ℕ) → kernel.has_hand (happens kernel w c event) i ≡ kernel.has_hand w i
  hand_event (what.Start number) c i = start_keeps has_hand w c number i refl
  hand_event (what.Slice carrier) c i = slice_keeps has_hand w carrier i refl

  pub hand_park : (c i : ℕ) → kernel.has_hand (kernel.park w c) i ≡ kernel.has_hand w i
  hand_park c i = park_keeps has_hand w c i refl

  pub putting_event : (event : AtWhat) (c i : ℕ) →
      (carrier_at (happens kernel w c event) i).putting ≡ (carrier_at w i).putting
  putting_event (what.Start number) c i = start_keeps (λ (k : CarrierSeen). k.putting) w c number i refl
  putting_event (what.Slice carrier) c i = slice_keeps (λ (k : CarrierSeen). k.putting) w carrier i refl
