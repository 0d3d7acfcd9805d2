-- The kernel keeps the laws of a schedule: put together from what each move keeps, how a burst's work falls, and how a run ends.
use Rattle.std.proofs.Common.{◌≡◌, ◌≢◌, ℕ, ◌<◌, true, false, length, arith}
use Rattle.k_script.specs.declared.lines.AtWhat.{AtWhat}
use Rattle.k_script.specs.declared.lines.AtWhat.TheVariants as what
use Rattle.k_script.specs.Script.{Script}
use Rattle.k_carrier.specs.Flags.{has_hand, is_settled}
use Rattle.k_carrier.specs.Starts.{is_due}
use Rattle.k_world.specs.Steps.{moved, parked, sliced, started, told_of}
use Rattle.k_world.specs.Worlds.{World, carrier_at}
use Rattle.k_schedule.specs.Carriers.{Facts, IsAlone, OthersSettled, ScheduleLaws, happens}
use Rattle.k_schedule.specs.Parts.{Falls, Parts}
use Rattle.k_carriers.specs.Kernel.{is_told_idle, kernel_carriers}
use Rattle.k_carriers.proofs.Carriers.{gives_hand, park_puts, settled_free}
use Rattle.k_running.specs.Running.{KernelHolds}
use Rattle.k_scheduled.specs.Scheduled.{IsGoodAt}
use Rattle.k_scheduled.proofs.Carriers.{hand_event, hand_park, hand_step, putting_event, settled_event, settled_step}
use Rattle.k_scheduled.proofs.Good.{good_event, good_moved, good_parked, inside, nobody_left}

-- Each move of a carrier of the world, and what comes from outside, keeps all of the kernel.
pub record KeepsKernel (script : Script) : Type 0 where
  pub step : (w : World) (c : ℕ) → c < length w.carriers → KernelHolds script w → KernelHolds script (moved script c w)
  pub start : (w : World) (c number : ℕ) → c < length w.carriers → KernelHolds script w → is_due w.unstarted number ≡ true →
      KernelHolds script (started c number w)
  pub slice : (w : World) (c : ℕ) → c < length w.carriers → KernelHolds script w → KernelHolds script (sliced c w)
  pub park : (w : World) (c : ℕ) → c < length w.carriers → KernelHolds script w → KernelHolds script (parked c w)

-- No other carrier of the world has a hand; each other one is settled.
abbrev pub IsOnlyHand : World → ℕ → Type 0
IsOnlyHand w c = (d : ℕ) → d < length w.carriers → d ≢ c → has_hand (carrier_at w d) ≡ false

abbrev pub OthersRest : World → ℕ → Type 0
OthersRest w c = (d : ℕ) → d < length w.carriers → d ≢ c → is_settled (carrier_at w d) ≡ true

-- an event leaves who is fresh, as a start and the end of a slice do
pub fresh_after : (script : Script) (IsFresh : World → ℕ → Type 0) →
    ((w : World) (c number i : ℕ) → IsFresh w i → IsFresh (started c number w) i) →
    ((w : World) (c i : ℕ) → IsFresh w i → IsFresh (sliced c w) i) → (w : World) (event : AtWhat) (c i : ℕ) → IsFresh w i →
    IsFresh (happens (kernel_carriers script) w c event) i
fresh_after script IsFresh start slice w (what.Start number) c i f = start w c number i f
fresh_after script IsFresh start slice w (what.Slice carrier) c i f = slice w carrier i f

module _ (script : Script) (parts : World → ℕ → Parts) (IsFresh : World → ℕ → Type 0) (IsFinished : World → Type 0) where
  -- How a burst's work falls, and how bursts end.
  pub record BurstsEnd : Type 0 where
    pub falls : (w : World) (c : ℕ) → c < length w.carriers → KernelHolds script w → IsOnlyHand w c →
        is_settled (carrier_at (moved script c w) c) ≡ false → Falls (parts w c) (parts (moved script c w) c)
    pub fresh : (w : World) (c : ℕ) → c < length w.carriers → KernelHolds script w → is_settled (carrier_at w c) ≡ true →
        IsFresh w c
    pub fresh_event : (w : World) (event : AtWhat) (c i : ℕ) → IsFresh w i →
        IsFresh (happens (kernel_carriers script) w c event) i
    pub fresh_step : (w : World) (c : ℕ) → c < length w.carriers → KernelHolds script w → IsOnlyHand w c → OthersRest w c →
        IsFresh w c → IsFresh (moved script c w) c
    pub idle : (w : World) (c : ℕ) → c < length w.carriers → KernelHolds script w → OthersRest w c → IsFresh w c →
        is_settled (carrier_at (moved script c w) c) ≡ true → is_told_idle (told_of script c w) ≡ true
    pub finished : (w : World) (c : ℕ) → c < length w.carriers → KernelHolds script w →
        ((number : ℕ) → is_due w.unstarted number ≡ false) → is_told_idle (told_of script c w) ≡ true →
        ((d : ℕ) → d < length w.carriers → is_settled (carrier_at (moved script c w) d) ≡ true) → IsFinished (moved script c w)

  abbrev pub facts_with : Facts World
  facts_with = record {
    IsGood = IsGoodAt script;
    IsFinished = IsFinished;
    putting = λ w c. (carrier_at w c).putting;
    parts = parts;
    IsFresh = IsFresh;
  }

  -- the carriers of the script are those of the world
  alone_in : (w : World) (c : ℕ) → length w.carriers ≡ script.carriers → IsAlone (kernel_carriers script) w c → IsOnlyHand w c
  alone_in w c count alone d low ne = alone d (omega (arith, low, count)) ne

  rest_in : (w : World) (c : ℕ) → length w.carriers ≡ script.carriers → OthersSettled (kernel_carriers script) w c →
      OthersRest w c
  rest_in w c count rest d low ne = rest d (omega (arith, low, count)) ne

  pub laws_of : KeepsKernel script → BurstsEnd → ScheduleLaws World (kernel_carriers script) facts_with
  laws_of keeps ends = record {
    good_step = λ w lines c low g. good_moved script w lines c g (keeps.step w c (inside script w lines c g low) g.holds);
    good_park = λ w lines c low g. good_parked script w lines c g (keeps.park w c (inside script w lines c g low) g.holds);
    good_event = λ w line lines c low g.
        let here : c < length w.carriers = omega (arith, low, g.count) in
        good_event script w line lines g c low (λ number d. keeps.start w c number here g.holds d)
        (λ carrier there. keeps.slice w carrier there g.holds);
    settled_step = settled_step script;
    settled_event = settled_event script;
    hand_step = hand_step script;
    hand_event = hand_event script;
    hand_park = hand_park script;
    rests = λ w lines c low g e. settled_free (carrier_at w c) e;
    parked = λ w lines c low g. park_puts w c (inside script w lines c g low);
    putting_event = putting_event script;
    gives = λ w lines c low g e some. gives_hand script w c (inside script w lines c g low) e some;
    falls = λ w lines c low g alone e.
        ends.falls w c (inside script w lines c g low) g.holds (alone_in w c g.count alone) e;
    fresh = λ w lines c low g e. ends.fresh w c (inside script w lines c g low) g.holds e;
    fresh_event = ends.fresh_event;
    fresh_step = λ w lines c low g alone rest f.
        ends.fresh_step w c (inside script w lines c g low) g.holds (alone_in w c g.count alone) (rest_in w c g.count rest) f;
    idle = λ w lines c low g rest f e.
        ends.idle w c (inside script w lines c g low) g.holds (rest_in w c g.count rest) f e;
    finished = λ w c low g told all.
        ends.finished w c (omega (arith, low, g.count)) g.holds (λ number. nobody_left script w number g) told
        (λ d there. all d (omega (arith, there, g.count)));
  }
