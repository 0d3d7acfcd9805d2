-- A switch has so few steps that each can be counted.
use Rattle.std.specs.Prelude.{◌≡◌, ℕ, ◌+◌, ◌≤◌, Option, Some, None}
use Rattle.k_switch.specs.declared.switch.Switch.{Switch}
use Rattle.k_switch.specs.declared.switch.SwitchLocation.{SwitchLocation}
use Rattle.k_switch.specs.declared.switch.SwitchLocation.TheVariants as location
use Rattle.k_switch.specs.declared.switch.SwitchLocked.{SwitchLocked}
use Rattle.k_switch.specs.declared.switch.SwitchLocked.TheVariants.{LoadGoal, LoadStart, ReleaseReady}
use Rattle.k_context.specs.Contexts.{Carrier, ContextSeen, Thread}
use Rattle.k_marks.specs.Counting.{Counting, IsCounted}

-- how many steps a switch has left at most, until it is over
abbrev pub locked_left : SwitchLocked → ℕ
locked_left (LoadGoal goal) = 3
locked_left (LoadStart back number) = 2
locked_left (ReleaseReady back started) = 1

abbrev pub switch_left : SwitchLocation → ℕ
switch_left location.AcquireReady = 4
switch_left (location.Locked p lists) = locked_left p
switch_left (location.ListsReturned s) = 1
switch_left (location.Finished s) = 0

abbrev pub left_in : Option Switch → ℕ
left_in None = 0
left_in (Some s) = switch_left s.location

-- the steps of a switch that were made, and those that are left
abbrev pub IsBrief : ContextSeen → Type 0
IsBrief (Thread t) = Unit {0}
IsBrief (Carrier k) = k.done + left_in k.switch ≤ 4

pub record IsTallied (table : ℕ) (s : Counting) : Type 0 where
  pub counted : IsCounted table s
  pub brief : (n : ℕ) (v : ContextSeen) → s.context n ≡ Some v → IsBrief v
