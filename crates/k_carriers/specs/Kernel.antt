-- The carriers of the kernel, as a schedule sees them (k_schedule).
use Rattle.std.specs.Prelude.{ℕ, Bool, true, false}
use Rattle.k_script.specs.Script.{Script}
use Rattle.k_carrier.specs.declared.moves.Stepped.{Stepped}
use Rattle.k_carrier.specs.declared.moves.Stepped.TheVariants as stepped
use Rattle.k_carrier.specs.Flags.{has_hand, is_settled}
use Rattle.k_schedule.specs.Carriers.{Carriers}
use Rattle.k_world.specs.Steps.{moved, parked, sliced, started, told_of}
use Rattle.k_world.specs.Worlds.{World, carrier_at}

-- A switch has found no thread to run, and no carrier was counted as running one.
abbrev pub is_told_idle : Stepped → Bool
is_told_idle stepped.Idle = true
is_told_idle told = false

-- as many carriers as the script has, each step one of them, and what comes to them from outside
abbrev pub kernel_carriers : Script → Carriers World
kernel_carriers script = record {
  count = script.carriers;
  step = λ w c. moved script c w;
  idles = λ w c. is_told_idle (told_of script c w);
  start = λ w c number. started c number w;
  slice = λ w c. sliced c w;
  park = λ w c. parked c w;
  made = λ w. w.made;
  settled = λ w c. is_settled (carrier_at w c);
  has_hand = λ w c. has_hand (carrier_at w c);
}
