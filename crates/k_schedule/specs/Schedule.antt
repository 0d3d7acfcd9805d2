-- The schedule of a script, a rule for each sentence of it.
use Rattle.std.specs.Prelude.{◌≡◌, ℕ, ◌+◌, ◌==◌, Bool, true, false, ◌&&◌, List, [], ◌∷◌, Option, Some, None}
use Rattle.std.specs.Prelude.{if◌then◌else◌, zero, suc}
use Rattle.k_script.specs.declared.lines.AtLine.{AtLine}
use Rattle.k_script.specs.declared.lines.Item.{Item}
use Rattle.k_script.specs.declared.lines.Item.TheVariants as item
use Rattle.k_script.specs.Script.{Script}
use Rattle.k_schedule.specs.Carriers.{Carriers, happens}

-- a world, and the lines of the schedule's events that are not yet made, in their order
pub record Moment (World : Type 0) : Type 0 where
  pub world : World
  pub ahead : List AtLine

abbrev pub moment : {World : Type 0} → World → List AtLine → Moment World
moment w lines = record { world = w; ahead = lines }

-- whether a burst's last step was answered Idle, and the moment after it
pub record Burst (World : Type 0) : Type 0 where
  pub idle : Bool
  pub after : Moment World

abbrev pub burst : {World : Type 0} → Bool → Moment World → Burst World
burst idle after = record { idle = idle; after = after }

module _ {World : Type 0} (carriers : Carriers World) where
  -- EVENTS AND STEPS

  -- The next lines happen in their order, as long as their step is this one. The step that follows is carrier c's.
  abbrev pub at_once : ℕ → ℕ → World → List AtLine → Moment World
  at_once c step w [] = moment w []
  at_once c step w (line ∷ lines) =
      if line.step == step then at_once c step (happens carriers w c line.what) lines else moment w (line ∷ lines)

  -- Before each atomic step the lines happen whose step is the number of steps made.
  abbrev pub due : ℕ → Moment World → Moment World
  due c m = at_once c (carriers.made m.world) m.world m.ahead

  -- one atomic step of carrier c, after the events that are due
  abbrev pub step_at : ℕ → Moment World → Moment World
  step_at c m = moment (carriers.step (due c m).world c) (due c m).ahead

  -- whether this step is answered Idle
  abbrev pub idle_at : ℕ → Moment World → Bool
  idle_at c m = carriers.idles (due c m).world c

  abbrev pub settled_at : ℕ → Moment World → Bool
  settled_at c m = carriers.settled m.world c

  -- A carrier that has a hand is parked and makes one step. Without a hand nothing happens.
  abbrev pub park_at : ℕ → Moment World → Moment World
  park_at c m = if carriers.has_hand m.world c then step_at c (moment (carriers.park m.world c) m.ahead) else m

  -- THE TURNS

  abbrev pub times : ℕ → ℕ → Moment World → Moment World
  times c zero m = m
  times c (suc n) m = step_at c (times c n m)

  abbrev pub item_at : Item → Moment World → Moment World
  item_at (item.Steps carrier count) m = times carrier count m
  item_at (item.Park carrier) m = park_at carrier m

  -- The items come in their order.
  abbrev pub items_at : List Item → Moment World → Moment World
  items_at [] m = m
  items_at (i ∷ items) m = items_at items (item_at i m)

  -- THE TAIL

  -- Each of the first n carriers that has a hand is parked and makes one step, in the order of their numbers.
  abbrev pub parks : ℕ → Moment World → Moment World
  parks zero m = m
  parks (suc n) m = park_at n (parks n m)

  -- A burst makes one step of its carrier, and goes on until the carrier is settled; here, after n steps that don't settle it.
  abbrev pub BurstOf : ℕ → ℕ → Moment World → Burst World → Type 0
  BurstOf zero c m b = (settled_at c (step_at c m) ≡ true) × (b ≡ burst (idle_at c m) (step_at c m))
  BurstOf (suc n) c m b = (settled_at c (step_at c m) ≡ false) × BurstOf n c (step_at c m) b

  abbrev pub IsBurst : ℕ → Moment World → Burst World → Type 0
  IsBurst c m b = (n : ℕ) × BurstOf n c m b

  -- The carriers take bursts in turn, upwards, and round and round.
  abbrev pub next_carrier : ℕ → ℕ
  next_carrier c = if c + 1 == carriers.count then 0 else c + 1

  -- Of the lines left, those with the least step happen now. (The lines stand in the order of their steps.)
  abbrev pub least : ℕ → World → List AtLine → Moment World
  least c w [] = moment w []
  least c w (line ∷ lines) = at_once c line.step w (line ∷ lines)

  -- whether each of the first n carriers is settled
  abbrev pub all_settled : ℕ → World → Bool
  all_settled zero w = true
  all_settled (suc n) w = all_settled n w && carriers.settled w n

  -- After a burst of carrier c that was answered Idle. Where lines are left, those with the least step happen now, on this
  -- carrier, and its next burst follows at once. Where none is left and each carrier is settled, the run ends (None). Where none
  -- is left and a carrier isn't settled, the bursts go on in turn.
  abbrev pub idle_follows : ℕ → World → List AtLine → Option (ℕ × Moment World)
  idle_follows c w [] = if all_settled carriers.count w then None else Some (next_carrier c, moment w [])
  idle_follows c w (line ∷ lines) = Some (c, least c w (line ∷ lines))

  -- After a burst of carrier c: whose burst comes next, and from which moment. Where it wasn't answered Idle, the bursts go on
  -- in turn.
  abbrev pub follows : ℕ → Burst World → Option (ℕ × Moment World)
  follows c b = if b.idle then idle_follows c b.after.world b.after.ahead else Some (next_carrier c, b.after)

  -- The bursts from one of carrier c on lead to this end; here, with n bursts before the last.
  abbrev pub TailOf : ℕ → ℕ → Moment World → Moment World → Type 0
  TailOf zero c m end = (b : Burst World) × IsBurst c m b × (follows c b ≡ None) × (end ≡ b.after)
  TailOf (suc n) c m end =
      (b : Burst World) × (d : ℕ) × (o : Moment World) × IsBurst c m b × (follows c b ≡ Some (d, o)) × TailOf n d o end

  abbrev pub IsTail : ℕ → Moment World → Moment World → Type 0
  IsTail c m end = (n : ℕ) × TailOf n c m end

  -- THE RUN

  -- where the tail begins
  abbrev pub tail_begins : World → List AtLine → List Item → Moment World
  tail_begins w lines items = parks carriers.count (items_at items (moment w lines))

  -- The run of the script from this world ends at this moment: its turns come first, then each carrier puts down its hand, and
  -- then come the bursts, from carrier 0 on.
  abbrev pub IsRun : Script → World → Moment World → Type 0
  IsRun script w end = IsTail 0 (tail_begins w script.at_lines script.turns) end
