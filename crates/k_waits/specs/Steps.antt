-- What a step of a context comes to: one turn of the board, and what becomes of the other contexts.
use Rattle.std.specs.Prelude.{◌≡◌, ℕ, Option, Some, None}
use Rattle.k_ids.specs.declared.threads.ThreadId.{ThreadId}
use Rattle.k_locks.specs.declared.steps.Step.{Step}
use Rattle.k_locks.specs.declared.steps.Step.TheVariants as step
use Rattle.k_script.specs.Script.{Script}
use Rattle.k_caller.specs.declared.thread.ThreadLocation.{ThreadLocation}
use Rattle.k_context.specs.Contexts.{ContextSeen, thread_of}
use Rattle.k_board.specs.Boards.{Alone, At, Board}
use Rattle.k_board.specs.Turns.{Turn}
use Rattle.k_places.specs.Memory.{Memory}
use Rattle.k_places.specs.Shows.{Shows, context_in}
use Rattle.k_plays.specs.Scripts.{ranged_programs}
use Rattle.k_invariant.specs.Invariant.{Holds}
use Rattle.k_sections.specs.Stepping.{IsStep}
use Rattle.k_waits.specs.Waits.{no_call}

-- it is no thread outside of any section
abbrev pub IsInside : At → Type 0
IsInside p = (q : ThreadLocation) → p ≡ Alone q → ⊥

-- A board that these maps show, and on which all of the invariant holds: the context's next step leads to it.
pub record StepsTo (script : Script) (m : Memory) (b : Board) (i : ℕ) : Type 0 where
  pub board : Board
  pub turn : Turn (ranged_programs script) b i board
  pub step : IsStep (ranged_programs script) (λ z n. no_call) b i board
  pub shows : Shows script m board
  pub holds : Holds script board

-- where a context is, on maps
abbrev pub found_on : Memory → ℕ → Option ContextSeen
found_on m i = context_in m.context m.slot m.hand i

-- what becomes of the context of number `j`
pub data Becomes (script : Script) (before : Option ContextSeen) (s : Step) (j : ℕ) : Option ContextSeen → Type 0 where
  stays : Becomes script before s j before
  goes : Becomes script before s j None
  comes : (id : ThreadId) (program priority : ℕ) → s ≡ step.Place id program priority → id.number ≡ j →
      Becomes script before s j (Some (thread_of script id program priority))
