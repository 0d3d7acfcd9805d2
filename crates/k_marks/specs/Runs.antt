-- What is counted along a run of turns, from the world in which a script's run begins.
use Rattle.std.specs.Prelude.{◌≡◌, ℕ, ◌+◌, ◌≤◌, List, [], ◌∷◌, length}
use Rattle.k_script.specs.Script.{Script}
use Rattle.k_world.specs.Boot.{boot_state}
use Rattle.k_world.specs.Runs.{Turn, turned}
use Rattle.k_world.specs.Runs as run
use Rattle.k_world.specs.Steps.{moved, step_in}
use Rattle.k_world.specs.Worlds.{World, context_at}
use Rattle.k_marks.specs.Counting.{Counting}
use Rattle.k_marks.specs.Moved.{IsCountable, contexts_after, versions_after}

-- the log and the contexts of a world, with versions of numbers
abbrev pub counting_in : World → (ℕ → ℕ) → Counting
counting_in w versions = record { marks = w.steps; context = context_at w; version = versions }

abbrev pub versions_moved : Script → ℕ → World → (ℕ → ℕ) → ℕ → ℕ
versions_moved script c w versions = versions_after (step_in script c w).move (step_in script c w).answer versions

-- A carrier's step that finds contexts where they are and something to count, and leaves contexts where they are: each,
-- wherever it is, is the one that the step makes of it.
pub record IsInPlace (script : Script) (c : ℕ) (w : World) (versions : ℕ → ℕ) : Type 0 where
  pub countable : IsCountable (step_in script c w) (counting_in w versions)
  pub contexts : (n : ℕ) → context_at (moved script c w) n ≡ contexts_after script (step_in script c w) (context_at w) n

-- so it is of each step along a run
abbrev pub AreInPlace : Script → List Turn → World → (ℕ → ℕ) → Type 0
AreInPlace script [] w versions = Unit {0}
AreInPlace script (run.Step c ∷ turns) w versions =
    IsInPlace script c w versions × AreInPlace script turns (moved script c w) (versions_moved script c w versions)
AreInPlace script (t ∷ turns) w versions = AreInPlace script turns (turned script t w) versions

-- the version that each number has when a run begins
abbrev pub boot_versions : Script → ℕ → ℕ
boot_versions script n = (boot_state script n).version

-- a table with so many carriers that each has a context
pub record IsRoomy (script : Script) (carriers : ℕ) : Type 0 where
  pub threads : length script.threads ≤ 64
  pub numbers : script.table + carriers ≤ 72
