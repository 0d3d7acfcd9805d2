-- What holds within a burst and between two bursts, and how many bursts are still to come.
use Rattle.std.specs.Prelude.{◌≡◌, ◌≢◌, ℕ, ◌+◌, ◌-◌, ◌*◌, ◌<◌, ◌≤◌, true, false, [], length, if◌then◌else◌}
use Rattle.k_schedule.specs.Carriers.{AllSettled, Carriers, Facts, IsAlone}
use Rattle.k_schedule.specs.Schedule.{Moment, all_settled}

module _ {World : Type 0} (carriers : Carriers World) (facts : Facts World) where
  -- Carrier c is in a burst.
  pub record IsBursting (c : ℕ) (m : Moment World) : Type 0 where
    pub inside : c < carriers.count
    pub good : facts.IsGood m.world m.ahead
    pub alone : IsAlone carriers m.world c

  -- A burst of carrier c comes next: nobody has a hand, and who has a lower number is settled.
  pub record IsBetween (c : ℕ) (m : Moment World) : Type 0 where
    pub inside : c < carriers.count
    pub good : facts.IsGood m.world m.ahead
    pub hands : (i : ℕ) → i < carriers.count → carriers.has_hand m.world i ≡ false
    pub below : (i : ℕ) → i < c → carriers.settled m.world i ≡ true

  -- what a burst of carrier c from this moment leaves
  pub record IsLeft (c : ℕ) (m after : Moment World) : Type 0 where
    pub good : facts.IsGood after.world after.ahead
    pub settled : carriers.settled after.world c ≡ true
    -- The others are as they were.
    pub others : (i : ℕ) → i ≢ c → carriers.settled after.world i ≡ carriers.settled m.world i
    pub hands : (i : ℕ) → i ≢ c → carriers.has_hand after.world i ≡ carriers.has_hand m.world i
    pub shorter : length after.ahead ≤ length m.ahead

  -- Where the run ends: no line is left, each carrier is settled, and no thread can go on.
  pub record IsEnd (end : Moment World) : Type 0 where
    pub good : facts.IsGood end.world end.ahead
    pub none : end.ahead ≡ []
    pub settled : AllSettled carriers end.world
    pub finished : facts.IsFinished end.world

module _ {World : Type 0} (carriers : Carriers World) where
  -- how many bursts of the first round are still to come
  unfoldable pub unswept : ℕ → World → ℕ
  unswept c w = if all_settled carriers carriers.count w then 0 else carriers.count - c

  -- between bursts: the lines left, and then the bursts of the first round
  unfoldable pub rounds : ℕ → Moment World → ℕ
  rounds c m = length m.ahead * (carriers.count + 1) + unswept c m.world
