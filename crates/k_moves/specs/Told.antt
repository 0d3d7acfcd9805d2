-- What is told of a step of a thread's context, and what that step says of the carrier that makes it.
use Rattle.std.specs.Prelude.{◌≡◌, ℕ, Bool, false, Option, Some, None}
use Rattle.k_locks.specs.declared.locks.Lock.{Lock}
use Rattle.k_locks.specs.declared.steps.Told.{Told}
use Rattle.k_locks.specs.declared.steps.Told.TheVariants as told
use Rattle.k_caller.specs.declared.ran.Ran.{Ran}
use Rattle.k_caller.specs.declared.ran.Ran.TheVariants as ran
use Rattle.k_switch.specs.declared.goal.Goal.{Goal}
use Rattle.k_carrier.specs.Resumed.{is_above}
use Rattle.k_tokens.specs.World.{ContextName, owner_of, World}
use Rattle.k_tokens.specs.Steps.{ThreadStep, FindsOwned, FindsTaken, Pushes, FallsAsleep, Ends, Dies}
use Rattle.k_grants.specs.Granted.{Finding}
use Rattle.k_grants.specs.Views.{name_of}

-- nobody has to be helped
abbrev pub IsFree : Option Told → Type 0
IsFree (Some (told.Owned owner)) = ⊥
IsFree (Some (told.Holds context)) = ⊥
IsFree t = Unit {0}

-- the thread goes on, or its call is over, and nobody was put into a ready list
abbrev pub IsQuiet : Ran → Type 0
IsQuiet ran.On = Unit {0}
IsQuiet ran.Again = Unit {0}
IsQuiet (ran.Replied serial reply) = Unit {0}
IsQuiet (ran.Pushed priority) = ⊥
IsQuiet ran.Left = ⊥
IsQuiet ran.Dead = ⊥

-- Who has to be helped, until which lock is released.
abbrev pub HelpsFor : ℕ → Option Lock → Option Told → ContextName → Option Lock → Type 0
HelpsFor size acquired (Some (told.Owned owner)) context wanted = (context ≡ name_of size owner) × (wanted ≡ acquired)
HelpsFor size acquired (Some (told.Holds number)) context wanted = (context ≡ name_of size number) × (wanted ≡ None)
HelpsFor size acquired t context wanted = ⊥

-- a thread of this priority was put into a ready list; or none was, since its word didn't show it
abbrev pub PushesFor : Option Goal → Ran → Bool → Type 0
PushesFor goal (ran.Pushed priority) above = above ≡ is_above priority goal
PushesFor goal r above = IsQuiet r × (above ≡ false)

-- Carrier `c` makes this step of the context of number `me`; `acquired` is the lock that the step acquires, where it does.
abbrev pub IsTold : World → (c size me : ℕ) → Option Goal → Option Lock → Option Told → Ran → ThreadStep → Type 0
IsTold w c size me goal acquired t r (FindsOwned context wanted) = HelpsFor size acquired t context wanted × IsQuiet r
IsTold w c size me goal acquired t r (Pushes seen held above) = IsFree t × PushesFor goal r above
-- who leaves is the carrier's goal
IsTold w c size me goal acquired t r FallsAsleep =
    IsFree t × (r ≡ ran.Left) × ((w.carrier c).goal ≡ Some (owner_of w.threads me))
IsTold w c size me goal acquired t r Ends =
    IsFree t × (r ≡ ran.Left) × ((w.carrier c).goal ≡ Some (owner_of w.threads me))
IsTold w c size me goal acquired t r Dies = IsFree t × (r ≡ ran.Dead)
IsTold w c size me goal acquired t r s = IsFree t × IsQuiet r

-- WHAT A CARRIER FINDS, by what is told

-- the step by which a context waits
abbrev pub wait_by : ℕ → Option Lock → Option Told → ThreadStep
wait_by size acquired (Some (told.Owned owner)) = FindsOwned (name_of size owner) acquired
wait_by size acquired (Some (told.Holds number)) = FindsOwned (name_of size number) None
wait_by size acquired t = FindsTaken

-- whether a thread above the goal was put into a ready list
abbrev pub above_by : Option Goal → Ran → Bool
above_by goal (ran.Pushed priority) = is_above priority goal
above_by goal r = false

abbrev pub finding_by : ℕ → Option Goal → Option Lock → Option Told → Ran → Finding
finding_by size goal acquired t r = record { above = above_by goal r; waits = wait_by size acquired t }

abbrev pub IsPush : ThreadStep → Type 0
IsPush (Pushes seen held above) = Unit {0}
IsPush s = ⊥
