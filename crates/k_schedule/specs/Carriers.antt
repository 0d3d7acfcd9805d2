-- What a schedule uses of a world in which carriers make steps, and the laws that it asks of it.
use Rattle.std.specs.Prelude.{◌≡◌, ◌≢◌, ℕ, ◌<◌, Bool, true, false, List, [], ◌∷◌}
use Rattle.k_script.specs.declared.lines.AtLine.{AtLine}
use Rattle.k_script.specs.declared.lines.AtWhat.{AtWhat}
use Rattle.k_script.specs.declared.lines.AtWhat.TheVariants as what
use Rattle.k_schedule.specs.Parts.{Falls, Parts}

-- Carriers are told by their numbers, from 0.
pub record Carriers (World : Type 0) : Type 0 where
  pub count : ℕ
  -- the world after one atomic step of a carrier, and whether this step is answered Idle
  pub step : World → ℕ → World
  pub idles : World → ℕ → Bool
  -- Three flags of a carrier, each set without an atomic step: a thread is to be started, its time slice has ended, and it is to
  -- give its hand.
  pub start : World → ℕ → ℕ → World
  pub slice : World → ℕ → World
  pub park : World → ℕ → World
  -- how many atomic steps were made
  pub made : World → ℕ
  -- It has nothing to run, and nothing to switch to.
  pub settled : World → ℕ → Bool
  -- It has taken a context.
  pub has_hand : World → ℕ → Bool

-- An event of the schedule. A start is for the carrier whose step comes next, and is given first; a slice names its own.
abbrev pub happens : {World : Type 0} → Carriers World → World → ℕ → AtWhat → World
happens carriers w c (what.Start number) = carriers.start w c number
happens carriers w c (what.Slice carrier) = carriers.slice w carrier

-- What is known of a world beside, and no code computes.
pub record Facts (World : Type 0) : Type 1 where
  -- It is as a run makes it, and these are the lines still to come.
  pub IsGood : World → List AtLine → Type 0
  -- No thread can go on, and none is to start.
  pub IsFinished : World → Type 0
  -- The carrier gives its hand at its next step.
  pub putting : World → ℕ → Bool
  -- what this carrier has still to do before it is settled, in parts, if no other one moves and no event happens
  pub parts : World → ℕ → Parts
  -- A switch of this carrier that finds nobody to run, and nobody running, ends with Idle: it hasn't found so earlier.
  pub IsFresh : World → ℕ → Type 0

-- No other carrier has a hand.
abbrev pub IsAlone : {World : Type 0} → Carriers World → World → ℕ → Type 0
IsAlone carriers w c = (i : ℕ) → i < carriers.count → i ≢ c → carriers.has_hand w i ≡ false

abbrev pub OthersSettled : {World : Type 0} → Carriers World → World → ℕ → Type 0
OthersSettled carriers w c = (i : ℕ) → i < carriers.count → i ≢ c → carriers.settled w i ≡ true

abbrev pub AllSettled : {World : Type 0} → Carriers World → World → Type 0
AllSettled carriers w = (i : ℕ) → i < carriers.count → carriers.settled w i ≡ true

-- THE LAWS
pub record ScheduleLaws (World : Type 0) (carriers : Carriers World) (facts : Facts World) : Type 0 where
  -- A good world stays good by each step,
  pub good_step : (w : World) (lines : List AtLine) (c : ℕ) → c < carriers.count → facts.IsGood w lines →
      facts.IsGood (carriers.step w c) lines
  -- by a park,
  pub good_park : (w : World) (lines : List AtLine) (c : ℕ) → c < carriers.count → facts.IsGood w lines →
      facts.IsGood (carriers.park w c) lines
  -- and by the event of the next line, which is then made. So a thread is never started twice.
  pub good_event : (w : World) (line : AtLine) (lines : List AtLine) (c : ℕ) → c < carriers.count →
      facts.IsGood w (line ∷ lines) → facts.IsGood (happens carriers w c line.what) lines
  -- Only its own steps, and starts given to it, change whether a carrier is settled. So a round settles each for good.
  pub settled_step : (w : World) (c i : ℕ) → i ≢ c → carriers.settled (carriers.step w c) i ≡ carriers.settled w i
  pub settled_event : (w : World) (event : AtWhat) (c i : ℕ) → i ≢ c →
      carriers.settled (happens carriers w c event) i ≡ carriers.settled w i
  -- Only its own steps change whether a carrier has a hand. So within a burst no other one comes to have a hand.
  pub hand_step : (w : World) (c i : ℕ) → i ≢ c → carriers.has_hand (carriers.step w c) i ≡ carriers.has_hand w i
  pub hand_event : (w : World) (event : AtWhat) (c i : ℕ) →
      carriers.has_hand (happens carriers w c event) i ≡ carriers.has_hand w i
  pub hand_park : (w : World) (c i : ℕ) → carriers.has_hand (carriers.park w c) i ≡ carriers.has_hand w i
  -- Who is settled has no hand: so nobody has one between two bursts.
  pub rests : (w : World) (lines : List AtLine) (c : ℕ) → c < carriers.count → facts.IsGood w lines →
      carriers.settled w c ≡ true → carriers.has_hand w c ≡ false
  -- Who is parked gives its hand at its next step, whatever events come before it: so nobody has a hand when the tail begins.
  pub parked : (w : World) (lines : List AtLine) (c : ℕ) → c < carriers.count → facts.IsGood w lines →
      facts.putting (carriers.park w c) c ≡ true
  pub putting_event : (w : World) (event : AtWhat) (c i : ℕ) →
      facts.putting (happens carriers w c event) i ≡ facts.putting w i
  pub gives : (w : World) (lines : List AtLine) (c : ℕ) → c < carriers.count → facts.IsGood w lines →
      facts.putting w c ≡ true → carriers.has_hand w c ≡ true → carriers.has_hand (carriers.step w c) c ≡ false
  -- A step that doesn't settle its carrier leaves it less to do, since nobody else has in hand what it needs. So a burst ends.
  pub falls : (w : World) (lines : List AtLine) (c : ℕ) → c < carriers.count → facts.IsGood w lines → IsAlone carriers w c →
      carriers.settled (carriers.step w c) c ≡ false → Falls (facts.parts w c) (facts.parts (carriers.step w c) c)
  -- A settled carrier is fresh, since its last switch is over, and it stays so where nobody else runs anything.
  pub fresh : (w : World) (lines : List AtLine) (c : ℕ) → c < carriers.count → facts.IsGood w lines →
      carriers.settled w c ≡ true → facts.IsFresh w c
  pub fresh_event : (w : World) (event : AtWhat) (c i : ℕ) → facts.IsFresh w i → facts.IsFresh (happens carriers w c event) i
  pub fresh_step : (w : World) (lines : List AtLine) (c : ℕ) → c < carriers.count → facts.IsGood w lines →
      IsAlone carriers w c → OthersSettled carriers w c → facts.IsFresh w c → facts.IsFresh (carriers.step w c) c
  -- The last carrier that comes to be settled is answered Idle: so once all were settled, each burst ends with Idle, and the
  -- bursts don't go round for ever.
  pub idle : (w : World) (lines : List AtLine) (c : ℕ) → c < carriers.count → facts.IsGood w lines →
      OthersSettled carriers w c → facts.IsFresh w c → carriers.settled (carriers.step w c) c ≡ true →
      carriers.idles w c ≡ true
  -- Where a step is answered Idle, no line is left and each carrier is settled, no thread can go on.
  pub finished : (w : World) (c : ℕ) → c < carriers.count → facts.IsGood w [] → carriers.idles w c ≡ true →
      AllSettled carriers (carriers.step w c) → facts.IsFinished (carriers.step w c)
