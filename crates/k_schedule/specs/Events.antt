-- Which events happen, and when.
use Rattle.std.specs.Prelude.{◌≡◌, ◌≢◌, ℕ, ◌+◌, ◌≤◌, List, [], ◌∷◌, ◌++◌}
use Rattle.std.specs.List.{AllByRecursion}
use Rattle.k_script.specs.declared.lines.AtLine.{AtLine}
use Rattle.k_script.specs.declared.lines.AtWhat.{AtWhat}
use Rattle.k_script.specs.Limits.{IsRising}
use Rattle.k_schedule.specs.Carriers.{Carriers, happens}
use Rattle.k_schedule.specs.Schedule.{Moment}

-- The first of these lines, where there is one, is of another step.
abbrev pub IsOfAnother : ℕ → List AtLine → Type 0
IsOfAnother step [] = Unit {0}
IsOfAnother step (line ∷ lines) = line.step ≢ step

module _ {World : Type 0} (carriers : Carriers World) where
  abbrev pub all_happen : ℕ → List AtLine → World → World
  all_happen c [] w = w
  all_happen c (line ∷ lines) w = all_happen c lines (happens carriers w c line.what)

  -- All lines of this step that come next have happened, each once and in their order, and no other.
  pub record AreMade (c step : ℕ) (before after : Moment World) : Type 0 where
    pub now : List AtLine
    pub parted : before.ahead ≡ now ++ after.ahead
    pub step_is : AllByRecursion (λ line. line.step ≡ step) now
    pub rest : IsOfAnother step after.ahead
    pub world : after.world ≡ all_happen c now before.world

  -- The lines ahead stand in the order of their steps, and no step of theirs is over.
  pub record IsAhead (m : Moment World) : Type 0 where
    pub rising : IsRising m.ahead
    pub to_come : AllByRecursion (λ line. carriers.made m.world ≤ line.step) m.ahead

  -- A step counts as one at most, and what is no step doesn't count.
  pub record Counts : Type 0 where
    pub step : (w : World) (c : ℕ) → carriers.made (carriers.step w c) ≤ carriers.made w + 1
    pub event : (w : World) (c : ℕ) (event : AtWhat) → carriers.made (happens carriers w c event) ≡ carriers.made w
    pub park : (w : World) (c : ℕ) → carriers.made (carriers.park w c) ≡ carriers.made w
