-- What is asked of a step of a thread's context: that a carrier runs it, and what the location grants at which it stands.
use Rattle.std.specs.Prelude.{◌≡◌, ◌≢◌, ℕ, ◌<◌, true, false, Some, None}
use Rattle.k_ids.specs.declared.threads.ThreadId.{ThreadId}
use Rattle.k_tokens.specs.World.{OfThread, HeldLocks, holds_any, Absent, Awake, Threads, owner_of, World}
use Rattle.k_tokens.specs.Good.{Holder, is_coming, Told, Parts}
use Rattle.k_tokens.specs.Steps.{ThreadStep, GoesOn, FindsOwned, FindsTaken, TurnsOn, AcquiresReady, Pushes, AcquiresTable}
use Rattle.k_tokens.specs.Steps.{ReleasesTable, Kills, Unlists, Removes, Places, Makes, FallsAsleep, Ends, Dies}

-- Carrier `c` runs the context of number `me`: it holds a lock, or its thread is the carrier's goal.
pub record IsRun (w : World) (c me : ℕ) (holder : ThreadId → Holder) : Type 0 where
  pub hand : (w.carrier c).hand ≡ Some (OfThread me)
  pub awake : w.threads.condition me ≡ Awake
  pub calm : is_coming (holder (owner_of w.threads me)) ≡ false
  pub old : w.threads.making ≡ Some me → ⊥
  pub free : holds_any (w.threads.locks me) ≡ false
      → ((w.carrier c).goal ≡ Some (owner_of w.threads me)) × ((w.carrier c).switching ≡ false) × ((w.carrier c).help ≡ None)
  pub helped : (w.carrier c).switching ≡ true → (w.threads.locks me).ready ≡ true

-- while it has a thread to push, a section holds a lock
abbrev pub KeepsLock : Threads → ℕ → HeldLocks → Type 0
KeepsLock threads me held = (who : ThreadId) → threads.push me ≡ Some who → holds_any held ≡ true

-- nothing is killed or made
abbrev pub IsUnused : Threads → Type 0
IsUnused threads = (threads.victim ≡ None) × (threads.making ≡ None)

abbrev pub Grants : World → ℕ → ThreadStep → Type 0
Grants w me (GoesOn held) = (held.table ≡ (w.threads.locks me).table) × (held.ready ≡ (w.threads.locks me).ready)
    × KeepsLock w.threads me held
-- who holds the ready lock waits for nothing
Grants w me (FindsOwned context wanted) = (w.threads.locks me).ready ≡ false
Grants w me FindsTaken = Unit {0}
-- its word, as it was loaded, said that it waits, and that it is off
Grants w me (TurnsOn who) = (w.threads.present who.number ≡ true) × (w.threads.version who.number ≡ who.version)
    × (w.threads.on who.number ≡ false) × (w.threads.ended who.number ≡ false) × (w.threads.push me ≡ None)
    × (holds_any (w.threads.locks me) ≡ true)
Grants w me AcquiresReady = (w.ready_owner ≡ None) × (holds_any (w.threads.locks me) ≡ true)
-- what is known of the thread's word, from a load or from a lock that keeps it
Grants w me (Pushes seen held above) = (who : ThreadId) × (w.threads.push me ≡ Some who) × Told w.threads who seen
    × ((w.threads.locks me).ready ≡ true) × (held.table ≡ (w.threads.locks me).table) × (held.ready ≡ false)
Grants w me AcquiresTable = w.threads.table ≡ None
Grants w me (ReleasesTable held) = ((w.threads.locks me).table ≡ true) × IsUnused w.threads × (held.table ≡ false)
    × (held.ready ≡ (w.threads.locks me).ready) × KeepsLock w.threads me held
-- nobody kills itself
Grants w me (Kills number) = ((w.threads.locks me).table ≡ true) × (number ≢ me) × (w.threads.present number ≡ true)
    × IsUnused w.threads
Grants w me (Unlists held) = (who : ThreadId) × (w.threads.victim ≡ Some who) × ((w.threads.locks me).table ≡ true)
    × ((w.threads.locks me).ready ≡ true) × (held.table ≡ true) × (held.ready ≡ false)
-- its context word is clean: it is in no hand, and holds no lock
Grants w me Removes = (who : ThreadId) × (w.threads.victim ≡ Some who) × ((w.threads.locks me).table ≡ true)
    × (w.threads.listed ≡ false) × (w.held who.number ≡ None) × (holds_any (w.threads.locks who.number) ≡ false)
Grants w me (Places number) = ((w.threads.locks me).table ≡ true) × (w.threads.present number ≡ false)
    × (w.threads.condition number ≡ Absent) × IsUnused w.threads
Grants w me (Makes priority) = (number : ℕ) × (w.threads.making ≡ Some number) × ((w.threads.locks me).table ≡ true)
    × (w.threads.push me ≡ None) × (priority < 64)
-- the exchange is won, so the own word is that of a thread that is there
Grants w me FallsAsleep = (w.threads.present me ≡ true) × (holds_any (w.threads.locks me) ≡ false)
Grants w me Ends = (w.threads.present me ≡ true) × (holds_any (w.threads.locks me) ≡ false)
Grants w me Dies = (w.threads.present me ≡ false) × ((w.threads.locks me).table ≡ false) × ((w.threads.locks me).ready ≡ false)
    × (w.threads.push me ≡ None)

-- In a good world a carrier runs the context, and its location grants the step.
pub record MayStep (w : World) (c me : ℕ) (step : ThreadStep) : Type 0 where
  pub holder : ThreadId → Holder
  pub parts : Parts w holder
  pub run : IsRun w c me holder
  pub grants : Grants w me step
